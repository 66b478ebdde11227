use Rattle.std.proofs.Common.{◌≡◌, ℕ, List, [], inl, inr, refl, sym, ap, subst, ◌∙◌}
use Rattle.ldar_session.proofs.TalkLemmas.{talk_none}
use Rattle.ldar_session.specs.Served.{clock_beside}
use Rattle.office_book.specs.Safe.{Leads}
use Rattle.office_book.specs.SafeLaws.{leads_stays}
use Rattle.office_commands.specs.Sending.{IsSent}
use Rattle.register_import.specs.declared.error.ImportError.{ImportError}
use Rattle.register_import.specs.Rows.{TellsRow}
use Rattle.office_commands.specs.declared.status.Status.TheVariants.{BadRow}
use Rattle.office_commands.specs.Imports.{batches_in}
use Rattle.office_commands.proofs.import.import.Goals as goal

-- no file was read
pub returns-in-Err-clause-talk : goal.returns-in-Err-clause-talk
returns-in-Err-clause-talk g c =
    let d = g.D.Disk in
    let taken = c.in-Err.ensures.taken in (
      [],
      taken.0,
      [],
      taken.1,
      talk_none IsSent (Leads d.content d.left d.clock d.name d.faults) (clock_beside d.clock (λ book. book.disk)) (leads_stays d.content d.left d.clock d.name d.faults) c.args.book.now (g.K.Sink.pieces c.args.output.now),
      inl (taken.3, (refl, refl)),
    )

-- it has a bad row
pub returns-in-Err-Row-clause-talk : goal.returns-in-Err-Row-clause-talk
returns-in-Err-Row-clause-talk g c =
    let d = g.D.Disk in
    let taken = c.in-Ok.ensures.taken in
    let same : taken.0 ≡ c.bytes.result.now = sym (c.bytes.ensures.value ∙ taken.2.0) in
    let said = λ (text : List ℕ). batches_in c.args.sort c.args.number text in (
      [],
      taken.0,
      [],
      taken.1,
      talk_none IsSent (Leads d.content d.left d.clock d.name d.faults) (clock_beside d.clock (λ book. book.disk)) (leads_stays d.content d.left d.clock d.name d.faults) c.args.book.now (g.K.Sink.pieces c.args.output.now),
      inr (inl (
        record {
          read = taken.2.1;
          at = c.in-Err-Row.at;
          first = ap said same
              ∙ subst (λ (e : ImportError). TellsRow (said c.bytes.result.now) e) c.in-Err-Row.field-0-is c.in-Err-Row.ensures.bad;
          told = ap BadRow c.in-Err-Row.at-is;
        },
        (refl, refl),
      )),
    )

-- memory was wanting for its batches
pub returns-clause-talk : goal.returns-clause-talk
returns-clause-talk g c =
    let d = g.D.Disk in
    let taken = c.in-Ok.ensures.taken in (
      [],
      taken.0,
      [],
      taken.1,
      talk_none IsSent (Leads d.content d.left d.clock d.name d.faults) (clock_beside d.clock (λ book. book.disk)) (leads_stays d.content d.left d.clock d.name d.faults) c.args.book.now (g.K.Sink.pieces c.args.output.now),
      inl (tt, (refl, refl)),
    )
