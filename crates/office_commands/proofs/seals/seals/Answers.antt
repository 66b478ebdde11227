use Rattle.std.proofs.Common.{◌≡◌, ℕ, List, Ok, Err, inl, inr, refl, sym, ap, subst, ◌∙◌}
use Rattle.fact_kinds.specs.Facts.{facts_to}
use Rattle.ldar_journal.specs.Image.{batches_of}
use Rattle.seal_view.specs.declared.error.SealsWhy.{SealsWhy}
use Rattle.seal_view.specs.declared.error.SealsWhy.TheVariants as why
use Rattle.seal_view.specs.View.{TellsWhy, seals_asked}
use Rattle.office_commands.specs.declared.status.Status.{Status}
use Rattle.office_commands.specs.declared.status.Status.TheVariants.{BadRow}
use Rattle.office_commands.specs.Imports.{ReadsNone}
use Rattle.office_commands.specs.Statuses.{TextEnds}
use Rattle.office_commands.proofs.seals.seals.Goals as goal

-- no file was read
pub returns-in-Err-clause-shows : goal.returns-in-Err-clause-shows
returns-in-Err-clause-shows g c = let taken = c.in-Err.ensures.taken in (taken.0, taken.1, inl (taken.3, refl))

pub returns-in-Err-clause-cause : goal.returns-in-Err-clause-cause
returns-in-Err-clause-cause g c =
    let taken = c.in-Err.ensures.taken in (
      c.in-Err.ensures.cause,
      λ is. absurd (c.in-Err.ensures.only_read.0 is),
      λ is. absurd (subst (λ (s : Status). ReadsNone s taken.0) is taken.3),
      λ is. absurd (c.in-Err.ensures.only_read.1 is),
    )

-- the view is written
pub returns-in-Ok-seals_text-clause-shows : goal.returns-in-Ok-seals_text-clause-shows
returns-in-Ok-seals_text-clause-shows g c =
    let taken = c.in-Ok.ensures.taken in
    let pieces = g.K.Sink.pieces in
    let asked = λ (text : List ℕ). seals_asked c.args.unit c.args.day text (facts_to c.args.day (batches_of c.args.book.now.frames)) in
    let same : taken.0 ≡ c.bytes.result.now = sym (c.bytes.ensures.value ∙ taken.2.0) in
    let said = ap asked same ∙ c.in-Ok-seals_text.ensures.value in
    let ends = subst (λ (l : List ℕ). TextEnds l c.put_text.result (pieces c.args.output.now) (pieces c.put_text.new.output)) c.as_bytes.ensures.value
    c.put_text.ensures.ends in (
      taken.0,
      taken.1,
      inr (taken.2.1, rw said ends),
    )

-- there is no such process unit
pub returns-in-Err-NoUnit-clause-shows : goal.returns-in-Err-NoUnit-clause-shows
returns-in-Err-NoUnit-clause-shows g c =
    let taken = c.in-Ok.ensures.taken in
    let asked = λ (text : List ℕ). seals_asked c.args.unit c.args.day text (facts_to c.args.day (batches_of c.args.book.now.frames)) in
    let same : taken.0 ≡ c.bytes.result.now = sym (c.bytes.ensures.value ∙ taken.2.0) in
    let said : asked taken.0 ≡ Err why.NoUnit =
    ap asked same ∙ subst (λ (e : SealsWhy). TellsWhy (asked c.bytes.result.now) e) c.in-Err-NoUnit.field-0-is c.in-Err-NoUnit.ensures.why in (
      taken.0,
      taken.1,
      inr (taken.2.1, rw said (refl, refl)),
    )

-- .. or a bad row
pub returns-in-Err-BadRow-clause-shows : goal.returns-in-Err-BadRow-clause-shows
returns-in-Err-BadRow-clause-shows g c =
    let taken = c.in-Ok.ensures.taken in
    let at = c.in-Err-BadRow.at in
    let asked = λ (text : List ℕ). seals_asked c.args.unit c.args.day text (facts_to c.args.day (batches_of c.args.book.now.frames)) in
    let same : taken.0 ≡ c.bytes.result.now = sym (c.bytes.ensures.value ∙ taken.2.0) in
    let said : asked taken.0 ≡ Err (why.BadRow at) =
    ap asked same ∙ subst (λ (e : SealsWhy). TellsWhy (asked c.bytes.result.now) e) c.in-Err-BadRow.field-0-is c.in-Err-BadRow.ensures.why in (
      taken.0,
      taken.1,
      inr (taken.2.1, rw said (ap BadRow c.in-Err-BadRow.at-is, refl)),
    )

-- memory ran out
pub returns-clause-shows : goal.returns-clause-shows
returns-clause-shows g c = let taken = c.in-Ok.ensures.taken in (taken.0, taken.1, inl (tt, refl))
