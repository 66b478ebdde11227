use Rattle.std.proofs.Common.{◌≡◌, ◌↔◌, ℕ, zero, suc, ◌+◌, ◌-◌, ◌<◌, ◌≤◌, Bool, ◌||◌, Option, List, [], ◌∷◌, ◌++◌, refl, sym, ap, ◌∙◌, inl, inr, arith}
use Rattle.std.specs.List.{list_any, filter_map, flat_map, range_with_len}
use Rattle.std.specs.Option.{option_to_list}
use Rattle.std.proofs.lemmas.List.{append_assoc, append-nil}
use Rattle.std.proofs.lemmas.Bool.{cases_eq}
use Rattle.std.proofs.lemmas.List.FromFn.{get_or-range_with_len}
use Rattle.list_words.specs.Ranges.{until, UntilHolds, UntilCounts}
use Rattle.list_words.proofs.Members.{Among, among_from_Contains, Contains-from_among}
use Rattle.list_words.proofs.WordLemmas.{cons_option_is}

-- an empty range
pub until_none : (low end : ℕ) → end ≤ low → until low end ≡ []
unfolding until
until_none low end h = let e : end - low ≡ 0 = omega arith in rw e refl

-- a range is its first number and the rest
pub until_more : (low end : ℕ) → low < end → until low end ≡ low ∷ until (low + 1) end
unfolding until
until_more low end h = let e : end - low ≡ suc (end - (low + 1)) = omega arith in rw e refl

-- one step of a loop that pushes each number's optional value
pub filter_map_until : {B : Type 0} (f : ℕ → Option B) (done : List B) (low end : ℕ) → low < end
    → (done ++ option_to_list (f low)) ++ filter_map f (until (low + 1) end) ≡ done ++ filter_map f (until low end)
filter_map_until f done low end h = rw (until_more low end h, cons_option_is, append_assoc) refl

-- one step of a loop that pushes each number's values
pub flat_map_until : {B : Type 0} (f : ℕ → List B) (done : List B) (low end : ℕ) → low < end
    → (done ++ f low) ++ flat_map f (until (low + 1) end) ≡ done ++ flat_map f (until low end)
flat_map_until f done low end h = rw (until_more low end h, append_assoc) refl

-- one step of a loop that searches for a number that passes
pub list_any_until : (p : ℕ → Bool) (low end : ℕ) → low < end → list_any p (until low end) ≡ (p low || list_any p (until (low + 1) end))
list_any_until p low end h = rw (until_more low end h) refl

-- the end of a loop that pushes each number's optional value
pub filter_map_done : {B : Type 0} (f : ℕ → Option B) (done all : List B) (low end : ℕ) → end ≤ low → done ++ filter_map f (until low end) ≡ all → done ≡ all
filter_map_done f done all low end h e = sym (append-nil done) ∙ (ap (λ ns. done ++ filter_map f ns) (sym (until_none low end h)) ∙ e)

-- the end of a loop that pushes each number's values
pub flat_map_done : {B : Type 0} (f : ℕ → List B) (done all : List B) (low end : ℕ) → end ≤ low → done ++ flat_map f (until low end) ≡ all → done ≡ all
flat_map_done f done all low end h e = sym (append-nil done) ∙ (ap (λ ns. done ++ flat_map f ns) (sym (until_none low end h)) ∙ e)

-- The goals of a loop over numbers at its start and at each step.
pub ruleset ranges = (until_none, until_more, filter_map_until, flat_map_until)

-- the members of a range of a given length
among_range : (low len n : ℕ) → Among (range_with_len low len) n ↔ ((low ≤ n) × (n < low + len))
among_range low zero n = (λ h. absurd h, λ h. omega arith)
among_range low (suc len) n =
    let rest = among_range (low + 1) len n in (
      λ h. elim h [ inl e ↦ (omega arith, omega arith) | inr there ↦ let both = rest.0 there in (omega arith, omega arith) ],
      λ h. elim (cases_eq low n) [ inl e ↦ inl e | inr other ↦ inr (rest.1 (omega arith, omega arith)) ],
    )

-- the members of `until`
pub among_until : (low end n : ℕ) → Among (until low end) n ↔ ((low ≤ n) × (n < end))
unfolding until
among_until low end n =
    let within = among_range low (end - low) n in
    (λ h. let both = within.0 h in (omega arith, omega arith), λ h. within.1 (omega arith, omega arith))

-- the law of `until_holds`
pub until_holds : UntilHolds
until_holds low end n =
    let held = among_until low end n in
    (λ h. held.0 (among_from_Contains (until low end) n h), λ h. Contains-from_among (until low end) n (held.1 h))

-- the law of `until_counts`
pub until_counts : UntilCounts
unfolding until
until_counts low end i h = get_or-range_with_len low (end - low) i 0 h
