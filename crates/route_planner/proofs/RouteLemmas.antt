use Rattle.std.proofs.Common.{◌≡◌, ℕ, ◌<◌, min, List, [], ◌∷◌, ◌++◌, length, take, drop, map, sym, ap, ◌∙◌, inl, inr, arith, append_assoc}
use Rattle.std.proofs.lemmas.Bool.{cases_lt}
use Rattle.std.proofs.lemmas.List.{take_all, drop_all}
use Rattle.list_words.specs.Parts.{cut}
use Rattle.list_words.proofs.PartLemmas.{cut_step}
use Rattle.ldar_law.specs.declared.route.Route.{Route}
use Rattle.route_planner.specs.Visits.{route_through}

module _ {X : Type 0} (n m : ℕ) (xs : List X) (least : m ≡ min (length xs) n) where
  -- taking at most the length takes as many
  take_least : take m xs ≡ take n xs
  take_least = elim (cases_lt (length xs) n) [
    | inl short ↦ take_all m xs (omega (arith, least, short)) ∙ sym (take_all n xs (omega (arith, short)))
    | inr long ↦ ap (λ k. take k xs) (omega (arith, least, long))
  ]

  -- dropping at most the length leaves as many
  drop_least : drop m xs ≡ drop n xs
  drop_least = elim (cases_lt (length xs) n) [
    | inl short ↦ drop_all m xs (omega (arith, least, short)) ∙ sym (drop_all n xs (omega (arith, short)))
    | inr long ↦ ap (λ k. drop k xs) (omega (arith, least, long))
  ]

-- the next route has the first n of the remaining components
pub next_route : (n m : ℕ) (rest part others : List ℕ) (routes more : List Route) → 0 < n → 0 < length rest → m ≡ min (length rest) n → part ≡ take m rest →
    others ≡ drop m rest → more ≡ routes ++ route_through part ∷ [] → routes ++ map route_through (cut n rest) ≡ more ++ map route_through (cut n others)
next_route n m rest part others routes more some left least front back pushed =
    let part_is : part ≡ take n rest = front ∙ take_least n m rest least in
    let others_are : others ≡ drop n rest = back ∙ drop_least n m rest least in
    ap (λ parts. routes ++ map route_through parts) (cut_step n rest some left)
    ∙ sym (append_assoc routes (route_through (take n rest) ∷ []) (map route_through (cut n (drop n rest))))
    ∙ ap (λ p. (routes ++ route_through p ∷ []) ++ map route_through (cut n (drop n rest))) (sym part_is)
    ∙ ap (λ o. (routes ++ route_through part ∷ []) ++ map route_through (cut n o)) (sym others_are)
    ∙ ap (λ rs. rs ++ map route_through (cut n others)) (sym pushed)
