-- The number that digits spell, digit by digit.
use Rattle.std.proofs.Common.{◌≡◌, ℕ, ◌+◌, ◌*◌, ◌-◌, ◌<◌, ◌≤◌, Bool, true, false, cond, ◌&&◌, nat_le}
use Rattle.std.proofs.Common.{List, [], ◌∷◌, Some, None, refl, sym, ap, ◌∙◌, arith, suc, drop, length, get_or}
use Rattle.std.proofs.Math.Seq.{drop-cons}
use Rattle.std.proofs.lemmas.Bool.Decides.{nat_tests}
use Rattle.std.specs.Char.{is_ascii_digit}
use Rattle.std.specs.List.{fold, list_all}
use Rattle.csv_rows.specs.Fields.{digits}

-- adding digits does not make a number smaller
pub grows : (n : ℕ) (text : List ℕ) → n ≤ fold (λ m digit. 10 * m + (digit - 48)) n text
grows n [] = omega arith
grows n (digit ∷ text) = omega (arith, grows (10 * n + (digit - 48)) text)

-- a number whose first digits are above the bound is above it
pub too_great : (all : Bool) (high n value : ℕ) → high < n → n ≤ value → None ≡ cond (all && nat_le value high) (Some value) None
too_great false high n value above more = refl
too_great true high n value above more = grind (arith, nat_tests)

-- a number is above the bound if its digits up to an index spell a number above it
pub too_great_at : (text : List ℕ) (index number high more : ℕ) → index < length text
    → fold (λ n digit. 10 * n + (digit - 48)) number (drop index text) ≡ fold (λ n digit. 10 * n + (digit - 48)) 0 text
    → more ≡ 10 * number + (get_or text index 0 - 48) → high < more → None ≡ digits text high
too_great_at text index number high more within so_far is above =
    let value = fold (λ n digit. 10 * n + (digit - 48)) 0 text in
    let rest = drop (suc index) text in
    let next : fold (λ n digit. 10 * n + (digit - 48)) (10 * number + (get_or text index 0 - 48)) rest ≡ value =
    sym (ap (λ (l : List ℕ). fold (λ n digit. 10 * n + (digit - 48)) number l) (drop-cons text index 0 within)) ∙ so_far in
    let grown : more ≤ value = omega (arith, grows (10 * number + (get_or text index 0 - 48)) rest, next, is) in
    too_great (list_all is_ascii_digit text) high more value above grown
