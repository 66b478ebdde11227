use Rattle.std.proofs.Common.{◌≡◌, ℕ, ◌+◌, ◌≤◌, ◌<◌, true, cond, nat_eq, Vec, Option, Some, None, List, [], ◌∷◌, count_by, refl, sym, ap, ◌∙◌, arith}
use Rattle.std.specs.List.{filter_map, cons_option}
use Rattle.std.proofs.lemmas.List.Sums.{sum_by-cons}
use Rattle.fact_kinds.specs.declared.body.FactBody.{FactBody}
use Rattle.fact_kinds.specs.Named.{is_numbered}
use Rattle.fact_kinds.specs.Stated.{Stated}
use Rattle.fact_store.specs.Lists.{room_in, HaveRoomForEach}
use Rattle.fact_store.specs.Naming.{HasRoomFor}

-- how often a number occurs in a list with an optional one at its head
counts_option : (o : Option ℕ) (numbers : List ℕ) (n : ℕ)
    → count_by (λ m. nat_eq m n) (cons_option o numbers) ≡ cond (is_numbered o n) 1 0 + count_by (λ m. nat_eq m n) numbers
counts_option None numbers n = omega arith
counts_option (Some m) numbers n = sum_by-cons (λ k. cond (nat_eq k n) 1 0) m numbers

module _ (naming : FactBody → Option ℕ) where
  -- how often a number occurs among the facts with one more
  counts_one : (n : ℕ) (fact : Stated) (facts : List Stated)
      → count_by (λ f. is_numbered (naming f.body) n) (fact ∷ facts) ≡ cond (is_numbered (naming fact.body) n) 1 0 + count_by
      (λ f. is_numbered (naming f.body) n) facts
  counts_one n fact facts = sum_by-cons (λ f. cond (is_numbered (naming f.body) n) 1 0) fact facts

  -- how often a number occurs among the numbers of facts
  counts_named : (facts : List Stated) (n : ℕ)
      → count_by (λ m. nat_eq m n) (filter_map (λ fact. naming fact.body) facts) ≡ count_by (λ fact. is_numbered (naming fact.body) n) facts
  counts_named [] n = refl
  counts_named (fact ∷ facts) n =
      counts_option (naming fact.body) (filter_map (λ f. naming f.body) facts) n
      ∙ rw (counts_named facts n) (sym (counts_one n fact facts))

  module _ {X Z : Type 0} where
    -- lists with room for the numbers of facts have room for the facts
    pub room_for_named : (facts : List Stated) (numbers : List ℕ) (lists : List (Vec X Z))
        → numbers ≡ filter_map (λ fact. naming fact.body) facts → HaveRoomForEach numbers lists → HasRoomFor naming facts lists
    room_for_named facts numbers lists named room n =
        let count = ap (λ ms. count_by (λ m. nat_eq m n) ms) named ∙ counts_named facts n in
        omega (arith, room n, count)

    -- the list of the first fact's number has room for it
    pub room_for_first : (fact : Stated) (facts : List Stated) (lists : List (Vec X Z)) → HasRoomFor naming (fact ∷ facts) lists
        → (n : ℕ) → is_numbered (naming fact.body) n ≡ true → 0 < room_in lists n
    room_for_first fact facts lists room n named =
        let one : count_by (λ f. is_numbered (naming f.body) n) (fact ∷ facts) ≡ 1 + count_by
        (λ f. is_numbered (naming f.body) n) facts = counts_one n fact facts ∙ rw named refl in
        omega (arith, room n, one)

    -- after the first fact was added, the lists have room for the others
    pub room_for_others : (fact : Stated) (facts : List Stated) (old new : List (Vec X Z)) → HasRoomFor naming (fact ∷ facts) old
        → ((n : ℕ) → room_in old n ≤ room_in new n + cond (is_numbered (naming fact.body) n) 1 0) → HasRoomFor naming facts new
    room_for_others fact facts old new room less n =
        let one = counts_one n fact facts in
        omega (arith, room n, less n, one)
