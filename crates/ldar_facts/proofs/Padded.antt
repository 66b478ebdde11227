-- Bytes that are read as if others followed: what the reading of all of them means for the first ones.
use Rattle.std.proofs.Common.{◌≡◌, ℕ, suc, ◌+◌, ◌-◌, ◌<◌, ◌≤◌, List, [], ◌∷◌, ◌++◌, length, take, drop, Ok, Err, refl, sym, ap, ◌∙◌}
use Rattle.std.proofs.Common.{append_assoc, length-append, arith}
use Rattle.std.proofs.Common.{zero, replicate, inl, inr}
use Rattle.std.proofs.lemmas.Bool.{cases_lt, lt-ltb, le-ltb}
use Rattle.std.proofs.lemmas.List.{take_at, take-append-drop, take-append-le, length-drop}
use Rattle.ldar_facts.specs.declared.read_end.ReadEnd.{ReadEnd}
use Rattle.ldar_facts.specs.declared.read_end.ReadEnd.TheVariants.{Short, Wrong}
use Rattle.ldar_facts.specs.Compose.{ok_pair}
use Rattle.ldar_facts.specs.Form.{Outcome, IsBytes, Form}
use Rattle.ldar_facts.specs.Places.{stop_before}

module _ {A : Type 0} (form : Form A) (bytes pad : List ℕ) (are : IsBytes bytes) (all : IsBytes (bytes ++ pad)) where
  -- what is read of the first bytes is read of all
  further : (a : A) (rest : List ℕ) → form.read bytes ≡ Ok (a, rest) → form.read (bytes ++ pad) ≡ Ok (a, rest ++ pad)
  further a rest e =
      let p = form.reads.found bytes a rest are e in
      let grouped : bytes ++ pad ≡ form.text p.0 ++ (rest ++ pad) = ap (λ l. l ++ pad) p.2 ∙ append_assoc (form.text p.0) rest pad in
      ap form.read grouped ∙ form.reads.again p.0 (rest ++ pad) ∙ ap (λ v. Ok (v, rest ++ pad)) p.1

  -- a wrong byte among the first bytes is wrong among all
  as_wrong : (left : ℕ) → form.read bytes ≡ Err (Wrong left) → form.read (bytes ++ pad) ≡ Err (Wrong (left + length pad))
  as_wrong left e =
      let w = form.reads.wrong bytes left are e in
      let grouped : bytes ++ pad ≡ w.front ++ w.byte ∷ (w.back ++ pad) = ap (λ l. l ++ pad) w.splits ∙ append_assoc w.front (w.byte ∷ w.back) pad in
      let len : suc (length (w.back ++ pad)) ≡ left + length pad = omega (arith, w.left_is, length-append w.back pad) in
      ap form.read grouped ∙ w.stops (w.back ++ pad) ∙ ap (λ n. Err (Wrong n)) len

  -- a value that ends within the first bytes is read of them
  pub within : (a : A) (rest : List ℕ) → form.read (bytes ++ pad) ≡ Ok (a, rest) → length pad ≤ length rest
      → form.read bytes ≡ Ok (a, drop (length (bytes ++ pad) - length rest) bytes)
  within a rest e long =
      let p = form.reads.found (bytes ++ pad) a rest all e in
      let text = form.text p.0 in
      let used : length text ≡ length (bytes ++ pad) - length rest = omega (arith, ap length p.2, length-append text rest) in
      let fits : length text ≤ length bytes = omega (arith, used, length-append bytes pad) in
      let front : text ≡ take (length text) bytes =
      sym (take_at text rest (length text) refl) ∙ ap (take (length text)) (sym p.2) ∙ take-append-le (length text) bytes pad fits in
      let splits : bytes ≡ text ++ drop (length text) bytes =
      sym (take-append-drop (length text) bytes) ∙ ap (λ l. l ++ drop (length text) bytes) (sym front) in
      ap form.read splits ∙ form.reads.again p.0 (drop (length text) bytes) ∙ ap (λ v. Ok (v, drop (length text) bytes)) p.1
      ∙ ap (λ n. Ok (a, drop n bytes)) used

  -- if a value ends after the first bytes, they are cut short
  pub past : (a : A) (rest : List ℕ) → form.read (bytes ++ pad) ≡ Ok (a, rest) → length rest < length pad
      → (reading : Outcome A) → form.read bytes ≡ reading → form.read bytes ≡ Err Short
  past a rest e few (Ok found) is =
      let other = further found.0 found.1 is in
      let same : rest ≡ found.1 ++ pad = (ok_pair (a, rest) (found.0, found.1 ++ pad) (sym e ∙ other)).1 in
      absurd (omega (arith, ap length same, length-append found.1 pad))
  past a rest e few (Err Short) is = is
  past a rest e few (Err (Wrong left)) is = let other = as_wrong left is in absurd cc

  -- if all bytes are cut short, so are the first ones
  pub as_short : form.read (bytes ++ pad) ≡ Err Short → (reading : Outcome A) → form.read bytes ≡ reading → form.read bytes ≡ Err Short
  as_short e (Ok found) is = let other = further found.0 found.1 is in absurd cc
  as_short e (Err Short) is = is
  as_short e (Err (Wrong left)) is = let other = as_wrong left is in absurd cc

  -- if the wrong byte is after the first bytes, they are cut short
  pub behind : (left : ℕ) → form.read (bytes ++ pad) ≡ Err (Wrong left) → left ≤ length pad
      → (reading : Outcome A) → form.read bytes ≡ reading → form.read bytes ≡ Err Short
  behind left e few (Ok found) is = let other = further found.0 found.1 is in absurd cc
  behind left e few (Err Short) is = is
  behind left e few (Err (Wrong more)) is =
      let other = as_wrong more is in
      let w = form.reads.wrong bytes more are is in
      let same : left ≡ more + length pad = cc in
      absurd (omega (arith, w.left_is))

  -- a wrong byte within the first bytes is wrong there too
  pub among : (left : ℕ) → form.read (bytes ++ pad) ≡ Err (Wrong left) → length pad < left → form.read bytes ≡ Err (Wrong (left - length pad))
  among left e many =
      let w = form.reads.wrong (bytes ++ pad) left all e in
      let lengths = ap length w.splits in
      let k = length w.front + 1 in
      let fits : k ≤ length bytes = omega (arith, lengths, w.left_is, length-append bytes pad, length-append w.front (w.byte ∷ w.back)) in
      let one : length (w.front ++ w.byte ∷ []) ≡ k = length-append w.front (w.byte ∷ []) in
      let grouped : bytes ++ pad ≡ (w.front ++ w.byte ∷ []) ++ w.back = w.splits ∙ sym (append_assoc w.front (w.byte ∷ []) w.back) in
      let front : w.front ++ w.byte ∷ [] ≡ take k bytes =
      sym (take_at (w.front ++ w.byte ∷ []) w.back k one) ∙ ap (take k) (sym grouped) ∙ take-append-le k bytes pad fits in
      let splits : bytes ≡ w.front ++ w.byte ∷ drop k bytes =
      sym (take-append-drop k bytes) ∙ ap (λ l. l ++ drop k bytes) (sym front) ∙ append_assoc w.front (w.byte ∷ []) (drop k bytes) in
      let left_is : suc (length (drop k bytes)) ≡ left - length pad =
      omega (arith, lengths, w.left_is, length-drop k bytes, length-append bytes pad, length-append w.front (w.byte ∷ w.back)) in
      ap form.read splits ∙ w.stops (drop k bytes) ∙ ap (λ n. Err (Wrong n)) left_is

  -- the reason why reading all of them ends determines that for the first ones
  pub stops : (stop : ReadEnd) → form.read (bytes ++ pad) ≡ Err stop → form.read bytes ≡ Err (stop_before stop (length pad))
  stops Short e = as_short e (form.read bytes) refl
  stops (Wrong left) e =
      elim (cases_lt (length pad) left) [
        | inl many ↦ among left e many ∙ rw (lt-ltb _ _ many)
        | inr few ↦ behind left e few (form.read bytes) refl ∙ rw (le-ltb _ _ few)
      ]

-- bytes followed by zeros are bytes
pub IsBytes-zeros : (bytes : List ℕ) (n : ℕ) → IsBytes bytes → IsBytes (bytes ++ replicate n 0)
IsBytes-zeros [] zero are i = are i
IsBytes-zeros [] (suc n) are zero = omega arith
IsBytes-zeros [] (suc n) are (suc i) = IsBytes-zeros [] n are i
IsBytes-zeros (b ∷ bytes) n are zero = are 0
IsBytes-zeros (b ∷ bytes) n are (suc i) = IsBytes-zeros bytes n (λ k. are (suc k)) i
