-- A partition point of a list, found between two places.
use Rattle.std.proofs.Common.{◌≡◌, ℕ, ◌+◌, ◌-◌, ◌<◌, ◌≤◌, Bool, true, false, nat_lt, nat_le, List, length, take, drop, get_or}
use Rattle.std.proofs.Common.{refl, sym, ap, ◌∙◌, subst, inl, inr, arith}
use Rattle.std.specs.List.{AllWithin}
use Rattle.std.specs.Ordering.{is_lt, nat_cmp, ordering_then, MatchOrdering}
use Rattle.std.specs.declared.cmp.Ordering.{Ordering}
use Rattle.std.specs.declared.cmp.Ordering.TheVariants.{Less, Equal, Greater}
use Rattle.std.specs.List.Sorted.{IsPartitionedBy, IsPartitionPoint}
use Rattle.std.proofs.lemmas.Bool.{cases_Bool, false≢true, ltb-true, lt-ltb, leb-true, le-leb}
use Rattle.std.proofs.lemmas.Bool.Decides.{nat_tests}
use Rattle.std.proofs.lemmas.Cmp.{ranked}
use Rattle.std.proofs.lemmas.List.{get_or-take, get_or-drop, length-take-le, length-drop}
use Rattle.list_words.specs.Order.{Ascends}
use Rattle.fact_kinds.specs.declared.key.Key.{Key}
use Rattle.fact_kinds.specs.Facts.{Entry, is_earlier, goes_first}
use Rattle.fact_kinds.proofs.Cuts.{earlier_day}
use Rattle.method21_reading.proofs.FrontLemmas.{stands_in_front}

module _ {X : Type 0} (p : X → Bool) (xs : List X) (low high : ℕ) (rises : low ≤ high) (within : high ≤ length xs) where
  abbrev part : List X
  part = take (high - low) (drop low xs)

  part_length : length part ≡ high - low
  part_length = length-take-le (high - low) (drop low xs) (omega (arith, rises, within, length-drop low xs))

  -- an element of the part is further on in the list
  part_at : (i : ℕ) (d : X) → i < high - low → get_or part i d ≡ get_or xs (low + i) d
  part_at i d l = get_or-take (high - low) (drop low xs) i d l ∙ get_or-drop low xs i d

  -- if the passing elements of the list are a prefix, those of the part are
  pub parted_part : IsPartitionedBy p xs → IsPartitionedBy p part
  parted_part parted i j d le l t =
      let at : j < high - low = omega (arith, l, part_length) in
      let there : p (get_or xs (low + j) d) ≡ true = ap p (sym (part_at j d at)) ∙ t in
      ap p (part_at i d (omega (arith, le, at))) ∙ parted (low + i) (low + j) d (omega (arith, le)) (omega (arith, at, rises, within)) there

  -- a partition point of the part gives one of the list, if all elements before the part pass and all after it fail
  pub parted_whole : (place : ℕ) → place ≤ length part → AllWithin (λ x. p x ≡ true) xs 0 low → AllWithin (λ x. p x ≡ false) xs high (length xs)
      → IsPartitionPoint (λ x. p x ≡ true) (λ x. p x ≡ false) part place
      → IsPartitionPoint (λ x. p x ≡ true) (λ x. p x ≡ false) xs (low + place)
  parted_whole place bound before behind parted =
      let most : place ≤ high - low = omega (arith, bound, part_length) in (
        λ k d above below. elim (cases_Bool (nat_lt k low)) [
          | inl t ↦ before k d (omega arith) (ltb-true k low t)
          | inr f ↦
              let from : low ≤ k = grind (arith, nat_tests) in
              let far : k - low < high - low = omega (arith, from, below, most) in
              let is : low + (k - low) ≡ k = omega (arith, from) in
              subst (λ n. p (get_or xs n d) ≡ true) is
              (ap p (sym (part_at (k - low) d far)) ∙ parted.0 (k - low) d (omega arith) (omega (arith, from, below)))
        ],
        λ k d above below. elim (cases_Bool (nat_lt k high)) [
          | inl t ↦
              let under : k < high = ltb-true k high t in
              let far : k - low < high - low = omega (arith, above, under) in
              let is : low + (k - low) ≡ k = omega (arith, above) in
              subst (λ n. p (get_or xs n d) ≡ false) is
              (ap p (sym (part_at (k - low) d far)) ∙ parted.1 (k - low) d (omega (arith, above)) (omega (arith, far, part_length)))
          | inr f ↦ let from : high ≤ k = grind (arith, nat_tests) in behind k d from below
        ],
      )

-- the same for a prefix
module _ {X : Type 0} (p : X → Bool) (xs : List X) (high : ℕ) (within : high ≤ length xs) where
  no_less : high - 0 ≡ high
  no_less = omega arith

  as_part : take high xs ≡ take (high - 0) (drop 0 xs)
  as_part = ap (λ n. take n xs) (sym no_less)

  pub parted_front : IsPartitionedBy p xs → IsPartitionedBy p (take high xs)
  parted_front parted = subst (IsPartitionedBy p) (sym as_part) (parted_part p xs 0 high (omega arith) within parted)

  pub parted_by_front : (place : ℕ) → place ≤ length (take high xs) → AllWithin (λ x. p x ≡ false) xs high (length xs)
      → IsPartitionPoint (λ x. p x ≡ true) (λ x. p x ≡ false) (take high xs) place
      → IsPartitionPoint (λ x. p x ≡ true) (λ x. p x ≡ false) xs place
  parted_by_front place bound behind parted =
      let no_more : 0 + place ≡ place = omega arith in
      subst (IsPartitionPoint (λ x. p x ≡ true) (λ x. p x ≡ false) xs) no_more
      (parted_whole p xs 0 high (omega arith) within place (subst (λ ys. place ≤ length ys) as_part bound)
      (λ k d above below. absurd (omega (arith, below))) behind
      (subst (λ ys. IsPartitionPoint (λ x. p x ≡ true) (λ x. p x ≡ false) ys place) as_part parted))

-- in key order, the facts of earlier days are a prefix, and so are those up to a day
pub before_in_front : (day : ℕ) (facts : List Entry) → Ascends goes_first facts → IsPartitionedBy (λ e. nat_lt e.0.day day) facts
before_in_front day facts up =
    stands_in_front goes_first (λ e. nat_lt e.0.day day)
    (λ x y before t. lt-ltb x.0.day day (omega (arith, earlier_day x.0 y.0 before, ltb-true y.0.day day t))) facts up

pub up_to_in_front : (day : ℕ) (facts : List Entry) → Ascends goes_first facts → IsPartitionedBy (λ e. nat_le e.0.day day) facts
up_to_in_front day facts up =
    stands_in_front goes_first (λ e. nat_le e.0.day day)
    (λ x y before t. le-leb x.0.day day (omega (arith, earlier_day x.0 y.0 before, leb-true y.0.day day t))) facts up

-- if a fact is of a later day than the given one, so are the facts after it
pub later_behind : (day high : ℕ) (facts : List Entry) → Ascends goes_first facts → ((d : Entry) → nat_le (get_or facts high d).0.day day ≡ false)
    → AllWithin (λ e. nat_lt day e.0.day ≡ true) facts high (length facts)
later_behind day high facts up late k d above below =
    let x = (get_or facts k d).0.day in
    elim (cases_Bool (nat_le x day)) [
      | inl t ↦ absurd (false≢true (sym (late d) ∙ up_to_in_front day facts up high k d above below t))
      | inr f ↦ lt-ltb day x (grind (arith, nat_tests))
    ]

-- ---- keys of different days

sooner : (x y : ℕ) (o p : Ordering) → MatchOrdering o (x < y) (x ≡ y) (y < x) → x < y → is_lt (ordering_then o p) ≡ true
sooner x y Less p ranks less = refl
sooner x y Equal p ranks less = absurd (omega (arith, ranks, less))
sooner x y Greater p ranks less = absurd (omega (arith, ranks, less))

pub earlier_by_day : (a b : Key) → nat_lt a.day b.day ≡ true → is_earlier a b ≡ true
earlier_by_day a b t = sooner a.day b.day (nat_cmp a.day b.day) _ (ranked a.day b.day (nat_cmp a.day b.day) refl) (ltb-true a.day b.day t)

pub no_earlier_by_day : (a b : Key) → nat_lt b.day a.day ≡ true → is_earlier a b ≡ false
no_earlier_by_day a b t = elim (cases_Bool (is_earlier a b)) [
  | inl e ↦ absurd (omega (arith, earlier_day a b e, ltb-true b.day a.day t))
  | inr f ↦ f
]

pub not_before : (x day : ℕ) → nat_lt day x ≡ true → nat_lt x day ≡ false
not_before x day t = grind (arith, nat_tests)
