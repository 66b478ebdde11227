-- Loops that push each element's optional value, and loops that write the numbers of a month.
use Rattle.std.proofs.Common.{◌≡◌, ℕ, ◌+◌, ◌*◌, ◌<◌, ◌≤◌, Option, List, ◌++◌, length, take, drop, get_or, refl, arith}
use Rattle.std.specs.Option.{option_to_list}
use Rattle.std.specs.List.{filter_map, flat_map}
use Rattle.std.proofs.lemmas.List.{drop_more, append_assoc, length-append, length-take-le, take_all}
use Rattle.std.proofs.Math.Seq.{take-append_seam}
use Rattle.list_words.specs.Ranges.{until}
use Rattle.list_words.proofs.RangeLemmas.{flat_map_until, flat_map_done}
use Rattle.list_words.proofs.WordLemmas.{cons_option_is}

-- one more element is pushed if it has a value
pub given_pushed : {X Y : Type 0} (f : X → Option Y) (done : List Y) (xs : List X) (i : ℕ) (d : X) → i < length xs
    → (done ++ option_to_list (f (get_or xs i d))) ++ filter_map f (drop (i + 1) xs) ≡ done ++ filter_map f (drop i xs)
given_pushed f done xs i d h = rw (drop_more xs i d h, cons_option_is, append_assoc) refl

-- six numbers written from a place on
six_put : (at : ℕ) (cells six : List ℕ) → at + 6 ≤ length cells → length six ≡ 6
    → take (at + 6) (take at cells ++ six ++ drop (at + 6) cells) ≡ take at cells ++ six
six_put at cells six within are =
    let front : length (take at cells ++ six) ≡ at + 6 = rw (length-append (take at cells) six, length-take-le at cells (omega arith), are) refl in
    rw front at (take-append_seam (take at cells ++ six) (drop (at + 6) cells))

-- the numbers of one more month are at their places
pub cells_more : (f : ℕ → List ℕ) (first month : ℕ) (cells six : List ℕ) → month < 6 → length cells ≡ 36 → length six ≡ 6 → six ≡ f (first + month)
    → take (6 * (month + 1)) (take (6 * month) cells ++ six ++ drop (6 * month + 6) cells) ++ flat_map f (until (first + (month + 1)) (first + 6))
    ≡ take (6 * month) cells ++ flat_map f (until (first + month) (first + 6))
cells_more f first month cells six within long are is =
    let places : 6 * (month + 1) ≡ 6 * month + 6 = omega arith in
    let next : first + (month + 1) ≡ first + month + 1 = omega arith in
    let put = six_put (6 * month) cells six (omega arith) are in
    rw (places, next, put, is) (flat_map_until f (take (6 * month) cells) (first + month) (first + 6) (omega arith))

-- the numbers of six months are all
pub cells_done : (f : ℕ → List ℕ) (first month : ℕ) (cells : List ℕ) → 6 ≤ month → length cells ≡ 36
    → take (6 * month) cells ++ flat_map f (until (first + month) (first + 6)) ≡ flat_map f (until first (first + 6))
    → cells ≡ flat_map f (until first (first + 6))
cells_done f first month cells end long all =
    let whole : take (6 * month) cells ≡ cells = take_all (6 * month) cells (omega arith) in
    flat_map_done f cells _ (first + month) (first + 6) (omega arith) (rw whole at all)
