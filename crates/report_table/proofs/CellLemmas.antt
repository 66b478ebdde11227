-- Bytes at a place in others, and numbers among them.
use Rattle.std.proofs.Common.{◌≡◌, ℕ, ◌+◌, ◌*◌, ◌/◌, ◌%◌, ◌<◌, ◌≤◌, List, [], ◌∷◌, ◌++◌, take, drop, length, get_or, sym, ap, ap₂}
use Rattle.std.proofs.Common.{◌∙◌, take-add, drop-drop, append_assoc, append-nil, Option, Some, None, IfSome, is_none, false, arith}
use Rattle.std.proofs.lemmas.List.{drop_more}
use Rattle.std.proofs.lemmas.Grind.{flat_map-append}
use Rattle.std.specs.List.{flat_map}
use Rattle.std.specs.Option.{option_to_list}
use Rattle.fact_kinds.specs.Fields.{big_endian}

-- a piece and the next one
pub joined : (xs a b : List ℕ) (at n m next : ℕ) → next ≡ at + n → take n (drop at xs) ≡ a → take m (drop next xs) ≡ b
    → take (n + m) (drop at xs) ≡ a ++ b
joined xs a b at n m next is first second =
    take-add n m (drop at xs)
    ∙ ap₂ (λ (l r : List ℕ). l ++ r) first (ap (take m) (drop-drop n at xs ∙ ap (λ k. drop k xs) (sym is)) ∙ second)

-- the byte at a place
pub one_spelled : (xs : List ℕ) (at : ℕ) → at < length xs → get_or xs at 0 < 256 → take 1 (drop at xs) ≡ big_endian 1 (get_or xs at 0)
one_spelled xs at within small =
    let byte : get_or xs at 0 ≡ get_or xs at 0 / 1 % 256 = omega (arith, small) in
    ap (take 1) (drop_more xs at 0 within) ∙ ap (λ b. b ∷ []) byte

-- two bytes at a place are those of their number
pub two_spelled : (xs : List ℕ) (at n : ℕ) → at + 2 ≤ length xs → ((i : ℕ) → get_or xs i 0 < 256)
    → n ≡ get_or xs at 0 * 256 + get_or xs (at + 1) 0 → take 2 (drop at xs) ≡ big_endian 2 n
two_spelled xs at n within small is =
    let high : get_or xs at 0 ≡ n / 256 % 256 = omega (arith, is, small at, small (at + 1)) in
    let low : get_or xs (at + 1) 0 ≡ n / 1 % 256 = omega (arith, is, small at, small (at + 1)) in
    ap (take 2) (drop_more xs at 0 (omega (arith, within)) ∙ ap (λ l. get_or xs at 0 ∷ l) (drop_more xs (at + 1) 0 (omega (arith, within))))
    ∙ ap₂ (λ a b. a ∷ b ∷ []) high low

-- four bytes at a place are those of two numbers of two bytes each
pub four_spelled : (xs : List ℕ) (at high low n : ℕ) → take 2 (drop at xs) ≡ big_endian 2 high → take 2 (drop (at + 2) xs) ≡ big_endian 2 low
    → high < 65_536 → low < 65_536 → n ≡ high * 65_536 + low → take 4 (drop at xs) ≡ big_endian 4 n
four_spelled xs at high low n front back small fits is =
    let first : high / 256 % 256 ≡ n / 16_777_216 % 256 = omega (arith, is, small, fits) in
    let second : high / 1 % 256 ≡ n / 65_536 % 256 = omega (arith, is, small, fits) in
    let third : low / 256 % 256 ≡ n / 256 % 256 = omega (arith, is, small, fits) in
    let fourth : low / 1 % 256 ≡ n / 1 % 256 = omega (arith, is, small, fits) in
    joined xs (big_endian 2 high) (big_endian 2 low) at 2 2 (at + 2) (omega arith) front back
    ∙ ap₂ (λ a b. a ∷ b ∷ low / 256 % 256 ∷ low / 1 % 256 ∷ []) first second
    ∙ ap₂ (λ c d. n / 16_777_216 % 256 ∷ n / 65_536 % 256 ∷ c ∷ d ∷ []) third fourth

-- ---- pieces one after the other

-- bytes appended after other appended bytes
pub put_behind : (old mid new a b : List ℕ) → mid ≡ old ++ a → new ≡ mid ++ b → new ≡ old ++ (a ++ b)
put_behind old mid new a b first second = second ∙ ap (λ (l : List ℕ). l ++ b) first ∙ append_assoc old a b

module _ {X : Type 0} (f : X → List ℕ) (done : List X) (bytes : List ℕ) (width start end : ℕ) (is : end ≡ start + width)
    (so_far : take start bytes ≡ flat_map f done) where
  -- one more piece was read
  pub one_more : (x : X) → take width (drop start bytes) ≡ f x → take end bytes ≡ flat_map f (done ++ x ∷ [])
  one_more x next =
      ap (λ n. take n bytes) is ∙ take-add start width bytes
      ∙ ap₂ (λ (l r : List ℕ). l ++ r) so_far (next ∙ sym (append-nil (f x)))
      ∙ sym (flat_map-append f done (x ∷ []))

  -- a piece that exists
  pub one_given : (item : Option X) → is_none item ≡ false → IfSome item (λ x. take width (drop start bytes) ≡ f x)
      → take end bytes ≡ flat_map f (done ++ option_to_list item)
  one_given None given next = absurd cc
  one_given (Some x) given next = one_more x next
