-- Properties of the readers of a head's fields.
use Rattle.std.proofs.Common.{◌≡◌, ℕ, ◌+◌, ◌-◌, ◌*◌, ◌<◌, Bool, true, false, IsTrue, min, List, [], ◌∷◌, ◌||◌, map, take, length, get_or, refl, ap, arith}
use Rattle.std.specs.Char.{is_ascii_digit}
use Rattle.std.specs.List.{list_any, list_all}
use Rattle.std.specs.Int.{IsInRange}
use Rattle.std.specs.Str.Parse.{digits_value}
use Rattle.std.proofs.lemmas.List.Folds.{list_all_at}
use Rattle.std.proofs.lemmas.Bool.Decides.{nat_tests}
use Rattle.std.proofs.lemmas.Int.Digits.{digits_value_more}
use Rattle.std.proofs.lemmas.Str.{digit_value_digit}

-- whether some element passes, of a mapped list
pub list_any-map : {X Y : Type 0} (f : X → Y) (p : Y → Bool) (xs : List X) → list_any p (map f xs) ≡ list_any (λ x. p (f x)) xs
list_any-map f p [] = refl
list_any-map f p (x ∷ xs) = ap (λ b. p (f x) || b) (list_any-map f p xs)

-- if all elements pass, each one does
pub passes_at : {X : Type 0} (p : X → Bool) (xs : List X) (i : ℕ) (d : X) → i < length xs → list_all p xs ≡ true → p (get_or xs i d) ≡ true
passes_at p xs i d lt all =
    elim (p (get_or xs i d)) as (λ b. p (get_or xs i d) ≡ b → p (get_or xs i d) ≡ true) [
      | true ↦ λ e. e
      | false ↦ λ e. let none = list_all_at p xs i d lt e in absurd cc
    ] refl

-- a decimal digit is in its range
pub digit_in_range : (c : ℕ) → is_ascii_digit c ≡ true → IsInRange 48 57 c
digit_in_range c h = (grind (arith, nat_tests), grind (arith, nat_tests))

-- one more digit of a number that is capped
pub number_more : (digits : List ℕ) (i n d r : ℕ) → i < length digits → IsTrue (list_all is_ascii_digit digits)
    → n ≡ min 262_145 (digits_value 10 (take i digits)) → d ≡ get_or digits i 0 - 48 → r ≡ min (10 * n + d) 262_145
    → r ≡ min 262_145 (digits_value 10 (take (i + 1) digits))
number_more digits i n d r lt all before is after =
    let range = digit_in_range (get_or digits i 0) (passes_at is_ascii_digit digits i 0 lt all) in
    let value = digit_value_digit (get_or digits i 0) range in
    let more = digits_value_more 10 digits i lt in
    omega (arith, range.0, range.1, value, more)
