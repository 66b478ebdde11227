-- What the form of a name reads is a name, and every name is read.
use Rattle.std.specs.Prelude.{◌≡◌, ℕ, zero, suc, ◌+◌, ◌-◌, ◌/◌, ◌%◌, ◌<◌, ◌≤◌, Bool, true, false, ◌&&◌, ◌||◌, nat_le, ◌==◌, List, [], ◌∷◌, ◌++◌, length}
use Rattle.std.specs.Prelude.{replicate, refl}
use Rattle.std.specs.List.{list_all}
use Rattle.std.proofs.Common.{sym, ◌∙◌, inl, inr, append_assoc, length-append, arith}
use Rattle.std.proofs.lemmas.Bool.{eqb-true, eqb-false, eq-eqb, ne_eqb, leb-true, le-leb, and_parts, and_from, or_cases, or_left, or_right}
use Rattle.std.proofs.lemmas.List.{append-nil}
use Rattle.std.proofs.lemmas.List.Folds.{list_all-append}
use Rattle.fact_kinds.specs.Fields.{IsAmong, big_endian}
use Rattle.fact_kinds.specs.Name.{IsName, is_name_byte, spelled_name}
use Rattle.ldar_facts.specs.Form.{Form}
use Rattle.ldar_facts.specs.Compose.{either}
use Rattle.ldar_facts.specs.Letters.{letters, letters_or_zero, letter, zeros, ended, behind, name_form}

-- ---- letters are the bytes of names

-- a letter is a byte of names
is_letter : (b : ℕ) → IsAmong b letters → is_name_byte b ≡ true
is_letter b (inl hyphen) =
    let is : b ≡ 45 = omega arith in
    or_left (b == 45 || (nat_le 48 b && nat_le b 57)) (nat_le 65 b && nat_le b 90) (or_left (b == 45) (nat_le 48 b && nat_le b 57) (eq-eqb b 45 is))
is_letter b (inr (inl digit)) =
    or_left (b == 45 || (nat_le 48 b && nat_le b 57)) (nat_le 65 b && nat_le b 90)
    (or_right (b == 45) (nat_le 48 b && nat_le b 57) (and_from (nat_le 48 b) (nat_le b 57) (le-leb 48 b digit.0) (le-leb b 57 digit.1)))
is_letter b (inr (inr capital)) =
    or_right (b == 45 || (nat_le 48 b && nat_le b 57)) (nat_le 65 b && nat_le b 90)
    (and_from (nat_le 65 b) (nat_le b 90) (le-leb 65 b capital.0) (le-leb b 90 capital.1))

-- a byte of names is a letter
among_letters : (b : ℕ) → is_name_byte b ≡ true → IsAmong b letters
among_letters b h =
    elim (or_cases (b == 45 || (nat_le 48 b && nat_le b 57)) (nat_le 65 b && nat_le b 90) h) [
      | inl early ↦
          elim (or_cases (b == 45) (nat_le 48 b && nat_le b 57) early) [
            | inl hyphen ↦ let is = eqb-true b 45 hyphen in inl (omega arith, omega arith)
            | inr digit ↦ let d = and_parts (nat_le 48 b) (nat_le b 57) digit in inr (inl (leb-true 48 b d.0, leb-true b 57 d.1))
          ]
      | inr capital ↦ let d = and_parts (nat_le 65 b) (nat_le b 90) capital in inr (inr (leb-true 65 b d.0, leb-true b 90 d.1))
    ]

-- a letter is a byte and not zero
letters-pos : (b : ℕ) → IsAmong b letters → (0 < b) × (b < 256)
letters-pos b (inl h) = (omega (arith, h.0), omega (arith, h.1))
letters-pos b (inr (inl h)) = (omega (arith, h.0), omega (arith, h.1))
letters-pos b (inr (inr h)) = (omega (arith, h.0), omega (arith, h.1))

-- the one byte of a number below 256
one_byte : (b : ℕ) → b < 256 → b / 1 % 256 ≡ b
one_byte b lt = omega arith

-- ---- what is read is a name in its twelve bytes

-- the text of this many zero bytes
zeros_text : (more : ℕ) (p : (zeros more).Path) → (zeros more).text p ≡ replicate more 0
unfolding zeros
zeros_text zero p = refl
zeros_text (suc more) p = let is : p.0.0 ≡ 0 = omega (arith, p.0.1) in rw (is, zeros_text more p.1)

-- the beginning of a name, with at most this many letters to come
pub record BeginsName (more : ℕ) (name : List ℕ) : Type 0 where
  pub some : 0 < length name
  pub room : length name + more ≡ 12
  pub letters : list_all is_name_byte name ≡ true

-- the bytes after the beginning complete a name
abbrev Completes : ℕ → List ℕ → List ℕ → List ℕ → Type 0
Completes more name whole text = IsName whole × (name ++ text ≡ spelled_name whole)

-- zero bytes complete the beginning of a name, which is itself a name
is_whole : (more : ℕ) (name : List ℕ) → BeginsName more name → Completes more name name (replicate more 0)
is_whole more name h =
    let room : more ≡ 12 - length name = omega (arith, h.room) in
    (record { some = h.some; fits = omega (arith, h.room); letters = h.letters }, rw room)

-- the beginning of a name and one more letter begin a name
longer : (more : ℕ) (name : List ℕ) (b : ℕ) → BeginsName (suc more) name → is_name_byte b ≡ true → BeginsName more (name ++ b ∷ [])
longer more name b h letter =
    let len : length (name ++ b ∷ []) ≡ length name + 1 = length-append name (b ∷ []) in
    record {
      some = omega (arith, h.some);
      room = omega (arith, h.room);
      letters = list_all-append is_name_byte name (b ∷ []) ∙ and_from (list_all is_name_byte name) (is_name_byte b && true) h.letters
          (and_from (is_name_byte b) true letter refl);
    }

-- a letter or zero that is not zero is a letter
nonzero_letter : (b : ℕ) → IsAmong b letters_or_zero → (b == 0) ≡ false → IsAmong b letters
nonzero_letter b (inl h) not_zero = let is : b ≡ 0 = omega arith in absurd (eqb-false b 0 not_zero is)
nonzero_letter b (inr h) not_zero = h

-- by the next byte: a zero byte, or a letter after which the other bytes complete the name
step_text : (more : ℕ) (name : List ℕ) (b : ℕ) → BeginsName (suc more) name → IsAmong b letters_or_zero
    → (BeginsName more (name ++ b ∷ []) → (q : (behind more (name ++ b ∷ [])).Path)
    → Completes more (name ++ b ∷ []) ((behind more (name ++ b ∷ [])).value q) ((behind more (name ++ b ∷ [])).text q))
    → (test : Bool) → (b == 0) ≡ test → (q : (either test (ended more name) (behind more (name ++ b ∷ []))).Path)
    → Completes (suc more) name ((either test (ended more name) (behind more (name ++ b ∷ []))).value q)
    (big_endian 1 b ++ (either test (ended more name) (behind more (name ++ b ∷ []))).text q)
step_text more name b begins among rest true e q =
    let is : b ≡ 0 = eqb-true b 0 e in
    rw (append-nil, zeros_text more q.0, is) (is_whole (suc more) name begins)
step_text more name b begins among rest false e q =
    let letter = nonzero_letter b among e in
    let one = one_byte b (letters-pos b letter).1 in
    let whole = rest (longer more name b begins (is_letter b letter)) q in
    (whole.0, rw one (sym (append_assoc name (b ∷ []) ((behind more (name ++ b ∷ [])).text q)) ∙ whole.1))

-- what is read after the beginning of a name completes it
behind_text : (more : ℕ) (name : List ℕ) → BeginsName more name → (p : (behind more name).Path)
    → Completes more name ((behind more name).value p) ((behind more name).text p)
unfolding behind
behind_text zero name begins p = is_whole 0 name begins
behind_text (suc more) name begins p = step_text more name p.0.0 begins p.0.1 (behind_text more (name ++ p.0.0 ∷ [])) (p.0.0 == 0) refl p.1

-- what is read is a name, and its text is the name in its twelve bytes
pub name_text : (p : name_form.Path) → IsName (name_form.value p) × (name_form.text p ≡ spelled_name (name_form.value p))
unfolding name_form
name_text p =
    let b = p.0.0 in
    let one = one_byte b (letters-pos b p.0.1).1 in
    let begins : BeginsName 11 (b ∷ []) =
    record { some = omega arith; room = omega arith; letters = and_from (is_name_byte b) true (is_letter b p.0.1) refl } in
    let whole = behind_text 11 (b ∷ []) begins p.1 in
    (whole.0, rw one whole.1)

-- ---- each name is read

-- the one path of zero bytes
zeros_path : (more : ℕ) → (zeros more).Path
unfolding zeros
zeros_path zero = tt
zeros_path (suc more) = ((0, (omega arith, omega arith)), zeros_path more)

-- the path of the second form, if the test is false
pub either_path : {A : Type 0} (first second : Form A) (test : Bool) (a : A) → test ≡ false → (p : second.Path) → second.value p ≡ a
    → (q : (either test first second).Path) × ((either test first second).value q ≡ a)
either_path first second true a e p is = absurd cc
either_path first second false a e p is = (p, is)

-- every rest of a name has a path after its beginning
behind_path : (more : ℕ) (name rest : List ℕ) → length rest ≤ more → list_all is_name_byte rest ≡ true
    → (p : (behind more name).Path) × ((behind more name).value p ≡ name ++ rest)
unfolding behind
behind_path zero name [] fit h = (tt, sym (append-nil name))
behind_path zero name (b ∷ rest) fit h = absurd (omega (arith, fit))
behind_path (suc more) name [] fit h =
    (((0, inl (omega arith, omega arith)), (zeros_path more, tt)), sym (append-nil name))
behind_path (suc more) name (b ∷ rest) fit h =
    let parts = and_parts (is_name_byte b) (list_all is_name_byte rest) h in
    let letter = among_letters b parts.0 in
    let positive = letters-pos b letter in
    let q = behind_path more (name ++ b ∷ []) rest (omega (arith, fit)) parts.1 in
    let p = either_path (ended more name) (behind more (name ++ b ∷ [])) (b == 0) (name ++ b ∷ rest) (ne_eqb b 0 (λ is. omega arith)) q.0
    (q.1 ∙ append_assoc name (b ∷ []) rest) in
    (((b, inr letter), p.0), p.1)

-- 1 to 12 letters are read as a name
first_path : (name : List ℕ) → 0 < length name → length name ≤ 12 → list_all is_name_byte name ≡ true → (p : name_form.Path) × (name_form.value p ≡ name)
unfolding name_form
first_path [] some fit h = absurd (omega (arith, some))
first_path (b ∷ rest) some fit h =
    let parts = and_parts (is_name_byte b) (list_all is_name_byte rest) h in
    let q = behind_path 11 (b ∷ []) rest (omega (arith, fit)) parts.1 in
    (((b, among_letters b parts.0), q.0), q.1)

-- every name has a path through the form of a name
pub name_path : (name : List ℕ) → IsName name → (p : name_form.Path) × (name_form.value p ≡ name)
name_path name is = first_path name is.some is.fits is.letters
