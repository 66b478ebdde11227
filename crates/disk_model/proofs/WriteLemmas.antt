-- The effect of a write on bytes.
use Rattle.std.proofs.Common.{◌⊎◌, ◌≡◌, ◌<◌, ◌≤◌, ◌+◌, ◌-◌, ℕ, List, [], ◌∷◌, ◌++◌, length, take, drop, min, replicate, refl, sym, ap, ◌∙◌, arith, inl, inr}
use Rattle.std.proofs.lemmas.Bool.{cases_lt}
use Rattle.std.proofs.lemmas.List.{take-append-le, take-take, take_all, length-append, length-replicate, length-take-le, length-drop}
use Rattle.std.proofs.lemmas.Slice.{drop-append-drop}
use Rattle.disk_model.specs.Disk.{Torn}
use Rattle.disk_model.specs.Images.{Tears, Same}
use Rattle.disk_model.specs.Writes.{written, filled_to}

-- the first min(place, length) bytes are the bytes before the place
take-min : (at : ℕ) (old : List ℕ) → take (min at (length old)) old ≡ take at old
take-min at old =
    elim (cases_lt (length old) at) [
      | inl past ↦
          let all : min at (length old) ≡ length old = omega arith in
          let le : length old ≤ length old = omega arith in
          let le' : length old ≤ at = omega arith in
          ap (λ n. take n old) all ∙ take_all (length old) old le ∙ sym (take_all at old le')
      | inr within ↦
          let some : min at (length old) ≡ at = omega arith in
          ap (λ n. take n old) some
    ]

-- bytes extended to a place are at least that long
length-filled_to : (at : ℕ) (old : List ℕ) → at ≤ length (filled_to at old)
length-filled_to at old = omega (arith, length-append old (replicate (at - length old) 0), length-replicate {A = ℕ} (at - length old) 0)

-- bytes at a place, and the old ones after a range there
torn_of : (at n : ℕ) (put old : List ℕ) → length put ≤ n
    → Torn at n old (take at (filled_to at old) ++ put ++ drop (at + length put) old)
torn_of at n put old within =
    let filled = filled_to at old in
    let front = take at filled in
    let behind = drop (at + length put) old in
    let enough : at ≤ length filled = length-filled_to at old in
    let size : length front ≡ at = length-take-le at filled enough in
    let m = min at (length old) in
    let m_at : m ≤ at = omega arith in
    let m_old : m ≤ length old = omega arith in
    let m_front : m ≤ length front = omega arith in
    let m_both : m ≤ length (front ++ put) = omega (arith, length-append front put) in
    let fits : at + length put ≤ at + n = omega arith in
    let sums : length (front ++ put) ≡ at + length put = omega (arith, length-append front put) in
    record {
      before =
          take-append-le m (front ++ put) behind m_both
          ∙ take-append-le m front put m_front
          ∙ take-take m at filled m_at
          ∙ take-append-le m old (replicate (at - length old) 0) m_old
          ∙ take-min at old;
      after = drop-append-drop (at + length put) old (front ++ put) (at + n) fits sums;
      no_shorter = omega (arith, length-append front put, length-append (front ++ put) behind, length-drop (at + length put) old);
      no_longer = omega (arith, length-append front put, length-append (front ++ put) behind, length-drop (at + length put) old);
    }

-- a torn write may have changed nothing
pub torn_none : (at n : ℕ) (old : List ℕ) → Torn at n old old
torn_none at n old = record { before = take-min at old; after = refl; no_shorter = omega arith; no_longer = omega arith }

-- a write of some bytes at the front of a range is a possible result of a torn write of the range
pub written_torn : (at n : ℕ) (bytes old : List ℕ) → length bytes ≤ n → Torn at n old (written at bytes old)
written_torn at n [] old within = torn_none at n old
written_torn at n (byte ∷ bytes) old within = torn_of at n (byte ∷ bytes) old within

-- a write of no bytes changes nothing
pub written-none : (at : ℕ) (bytes old : List ℕ) → length bytes ≡ 0 → written at bytes old ≡ old
written-none at [] old none = refl
written-none at (byte ∷ bytes) old none = absurd (omega arith)

-- a write of some bytes
pub written-some : (at : ℕ) (bytes old : List ℕ) → 0 < length bytes
    → written at bytes old ≡ take at (filled_to at old) ++ bytes ++ drop (at + length bytes) old
written-some at [] old some = absurd (omega arith)
written-some at (byte ∷ bytes) old some = refl

-- if a crash may leave anything, it may leave anything after a write
pub tears_any : (at n : ℕ) → Tears at n (λ _. Unit {0}) (λ _. Unit {0})
tears_any at n = record { only = λ c any. (c, tt, torn_none at n c); all = λ c d any torn. tt }

-- the same for a write that failed
pub tears_or_stays_any : (at n : ℕ) → Tears at n (λ _. Unit {0}) (λ _. Unit {0}) ⊎ Same (λ _. Unit {0}) (λ _. Unit {0})
tears_or_stays_any at n = inl (tears_any at n)
