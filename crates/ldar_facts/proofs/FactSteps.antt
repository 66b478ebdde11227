-- The steps of a loop that reads facts.
use Rattle.std.proofs.Common.{◌≡◌, ℕ, suc, ◌+◌, ◌-◌, ◌<◌, ◌≤◌, List, [], ◌∷◌, ◌++◌, Ok, Err, refl, sym, ap, ◌∙◌, append_assoc, arith}
use Rattle.std.specs.Prelude.{Option, Some, None, IfSome}
use Rattle.std.proofs.lemmas.List.{append-nil}
use Rattle.ldar_facts.specs.declared.read_end.ReadEnd.{ReadEnd}
use Rattle.fact_kinds.specs.Stated.{Stated}
use Rattle.ldar_facts.specs.Form.{Outcome, ◌then◌}
use Rattle.ldar_facts.specs.FactForms as forms

-- the facts that were read, then those still to be read
abbrev pub with_front : List Stated → Outcome (List Stated) → Outcome (List Stated)
with_front front read = read then λ x. Ok (front ++ x.0, x.1)

-- a fact at the head of the later ones is one at the end of the earlier ones
regrouped : (front : List Stated) (fact : Stated) (read : Outcome (List Stated))
    → with_front front (read then λ x. Ok (fact ∷ x.0, x.1)) ≡ with_front (front ++ fact ∷ []) read
regrouped front fact (Ok x) = ap (λ (facts : List Stated). Ok (facts, x.1)) (simp append_assoc)
regrouped front fact (Err stop) = refl

module _ (count i : ℕ) (front : List Stated) (bytes : List ℕ) (total : Outcome (List Stated))
    (so_far : with_front front ((forms.facts (count - i)).read bytes) ≡ total) where
  -- one more fact is read
  pub goes_on : i < count → (fact : Stated) (after : List ℕ) → (forms.fact).read bytes ≡ Ok (fact, after)
      → with_front (front ++ fact ∷ []) ((forms.facts (count - (i + 1))).read after) ≡ total
  unfolding forms.facts
  goes_on lt fact after read =
      let left : count - i ≡ suc (count - (i + 1)) = omega arith in
      let step : with_front front ((forms.facts (count - i)).read bytes) ≡ with_front (front ++ fact ∷ []) ((forms.facts (count - (i + 1))).read after)
      = rw (left, read) (regrouped front fact ((forms.facts (count - (i + 1))).read after)) in
      sym step ∙ so_far

  -- reading ends within a fact
  pub stops : i < count → (stop : ReadEnd) → (forms.fact).read bytes ≡ Err stop → total ≡ Err stop
  unfolding forms.facts
  stops lt stop read =
      let left : count - i ≡ suc (count - (i + 1)) = omega arith in
      let step : with_front front ((forms.facts (count - i)).read bytes) ≡ Err stop = rw (left, read) refl in
      sym so_far ∙ step

  -- all facts are read
  pub ends : count ≤ i → total ≡ Ok (front, bytes)
  unfolding forms.facts
  ends le =
      let left : count - i ≡ 0 = omega arith in
      let step : with_front front ((forms.facts (count - i)).read bytes) ≡ Ok (front, bytes) =
      rw left (ap (λ (facts : List Stated). Ok (facts, bytes)) (append-nil front)) in
      sym so_far ∙ step

-- the list that was made has these facts
pub same_list : (facts list : List Stated) (made : Option (List Stated)) → made ≡ Some list → IfSome made (λ l. l ≡ facts) → facts ≡ list
same_list facts list (Some other) is given = let same : other ≡ list = cc in sym given ∙ same
same_list facts list None is given = absurd cc
