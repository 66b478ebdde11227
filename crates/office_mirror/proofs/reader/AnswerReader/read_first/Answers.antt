use Rattle.std.proofs.Common.{◌≡◌, List, ℕ, ◌+◌, ◌++◌, length, refl, subst, sym, arith}
use Rattle.office_mirror.specs.AnswerGrammar.{BeginsAnswer, HasNoAnswer, IsFirstWrongInAnswer}
use Rattle.office_mirror.proofs.PieceLemmas.{head_begins, few_are_none, wrong_head, wrong_is_none}
use Rattle.office_mirror.proofs.reader.AnswerReader.read_first.Goals as goal

pub returns-in-Short-clause-value : goal.returns-in-Short-clause-value
returns-in-Short-clause-value c =
    let bytes = c.args.bytes.now in
    let h = c.in-Short.ensures in
    subst (λ (l : List ℕ). BeginsAnswer (l ++ bytes) × HasNoAnswer (l ++ bytes) × (l ≡ l)) (sym c.requires.first)
    (head_begins bytes h.1, few_are_none bytes h.0, refl)

pub returns-in-Bad-clause-value : goal.returns-in-Bad-clause-value
returns-in-Bad-clause-value c =
    let bytes = c.args.bytes.now in
    let at = c.in-Bad.at in
    let h = c.in-Bad.ensures in
    let none : 0 + at ≡ at = omega arith in
    subst (λ (l : List ℕ). IsFirstWrongInAnswer (l ++ bytes) (length l + at) × HasNoAnswer (l ++ bytes) × (l ≡ l)) (sym c.requires.first)
    (subst (IsFirstWrongInAnswer bytes) (sym none) (wrong_head bytes at h.0 h.1 h.2 h.3), wrong_is_none bytes at h.1 h.3, refl)
