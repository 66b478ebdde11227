use Rattle.std.proofs.Common.{◌≡◌, ◌+◌, ap, sym, refl, List, ℕ, ◌++◌, length, subst, ◌∙◌}
use Rattle.ldar_facts.specs.Grammar.{Begins, HasNoBatch, IsFirstWrongPlace, OnShort, IfBad}
use Rattle.office_mirror.specs.AnswerGrammar.{BeginsAnswer, HasNoAnswer, IsFirstWrongInAnswer}
use Rattle.office_mirror.specs.Reader.{AreSoFar, read_so_far}
use Rattle.office_mirror.proofs.PieceLemmas.{piece_begins, no_piece, wrong_piece}
use Rattle.office_mirror.proofs.reader.AnswerReader.read_piece.Goals as goal

pub returns-in-Short-clause-value : goal.returns-in-Short-clause-value
returns-in-Short-clause-value c =
    let bytes = c.args.bytes.now in
    let head = c.in-Some.head in
    let bs = c.self.inside.batches.items in
    let are = subst (λ h. AreSoFar h bs) c.in-Some.is c.self.invariant.0 in
    let view = sym c.self.view_is ∙ ap (λ h. read_so_far h bs) c.in-Some.is in
    let short = subst (λ r. OnShort r (Begins bytes × HasNoBatch bytes)) c.in-Short.is c.in_ok-batch.ensures.short in
    let ranges = are.0 in
    subst (λ (l : List ℕ). BeginsAnswer (l ++ bytes) × HasNoAnswer (l ++ bytes) × (l ≡ l)) (sym view)
    (piece_begins head bs ranges.1.0.1 ranges.1.1.0.1 are.2 are.1 bytes short.0, no_piece head bs ranges.1.0.1 ranges.1.1.0.1 are.2 are.1 bytes short.1, refl)

pub returns-in-Bad-clause-value : goal.returns-in-Bad-clause-value
returns-in-Bad-clause-value c =
    let bytes = c.args.bytes.now in
    let at = c.in-Bad.at in
    let head = c.in-Some.head in
    let bs = c.self.inside.batches.items in
    let are = subst (λ h. AreSoFar h bs) c.in-Some.is c.self.invariant.0 in
    let view = sym c.self.view_is ∙ ap (λ h. read_so_far h bs) c.in-Some.is in
    let bad = subst (λ r. IfBad r (λ at. IsFirstWrongPlace bytes at × HasNoBatch bytes)) c.in-Bad.is c.in_ok-batch.ensures.bad in
    let ranges = are.0 in
    subst (λ (l : List ℕ). IsFirstWrongInAnswer (l ++ bytes) (length l + at) × HasNoAnswer (l ++ bytes) × (l ≡ l)) (sym view) (
      wrong_piece head bs ranges.1.0.1 ranges.1.1.0.1 are.2 are.1 bytes at bad.0 bad.1,
      no_piece head bs ranges.1.0.1 ranges.1.1.0.1 are.2 are.1 bytes bad.1,
      refl,
    )
