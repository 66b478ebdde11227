-- The number that digits spell, digit by digit.
use Rattle.std.proofs.Common.{◌≡◌, ℕ, ◌+◌, ◌-◌, ◌*◌, ◌<◌, List, length, get_or, take, min, IsTrue, arith}
use Rattle.std.specs.Char.{is_ascii_digit}
use Rattle.std.specs.List.{list_all}
use Rattle.std.specs.Str.Parse.{digits_value}
use Rattle.std.proofs.lemmas.Int.Digits.{digits_value_more}
use Rattle.std.proofs.lemmas.Str.{digit_value_digit}
use Rattle.handheld_http.proofs.FieldLemmas.{passes_at, digit_in_range}

-- a digit more, of a number that stops at a bound
pub number_more : (digits : List ℕ) (i n d r : ℕ) → i < length digits → IsTrue (list_all is_ascii_digit digits)
    → n ≡ min 4_294_967_296 (digits_value 10 (take i digits)) → d ≡ get_or digits i 0 - 48 → r ≡ min (10 * n + d) 4_294_967_296
    → r ≡ min 4_294_967_296 (digits_value 10 (take (i + 1) digits))
number_more digits i n d r lt all before is after =
    let range = digit_in_range (get_or digits i 0) (passes_at is_ascii_digit digits i 0 lt all) in
    let value = digit_value_digit (get_or digits i 0) range in
    let more = digits_value_more 10 digits i lt in
    omega (arith, range.0, range.1, value, more)
