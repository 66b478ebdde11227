use Rattle.std.proofs.Common.{◌≡◌, List, map, sym, ◌∙◌, ap, subst}
use Rattle.std.specs.Prelude.{IsTrue}
use Rattle.fact_kinds.specs.declared.batch.Batch.{Batch}
use Rattle.fact_kinds.specs.Identity.{identity_of}
use Rattle.ldar_journal.specs.Image.{IsKept}
use Rattle.ldar_law.specs.Verdicts.{is_ruly}
use Rattle.office_book.proofs.opening.over_journal.Goals as goal
use Rattle.office_views.specs.Held.{Held}

pub of-requires-clause-kept : goal.of-requires-clause-kept
of-requires-clause-kept g c =
    let taken = rw c.in-None.is at c.requires.taken in
    subst (λ (h : Held). IsKept h.adopted) (sym taken.0) c.requires.kept

pub of-requires-clause-ruly : goal.of-requires-clause-ruly
of-requires-clause-ruly g c =
    let taken = rw c.in-None.is at c.requires.taken in
    subst (λ (h : Held). IsTrue (is_ruly h.adopted)) (sym taken.0) taken.1

pub of-requires-clause-known : goal.of-requires-clause-known
of-requires-clause-known g c =
    let taken = rw c.in-None.is at c.requires.taken in
    c.requires.known ∙ ap (λ (h : Held). map identity_of h.adopted) (sym taken.0)

pub of-requires-clause-none : goal.of-requires-clause-none
of-requires-clause-none g c =
    let taken = rw c.in-None.is at c.requires.taken in
    ap (λ (h : Held). h.spare) taken.0
