-- Fields at fixed places are read like fields at the start of the rest.
use Rattle.std.proofs.Common.{◌≡◌, ℕ, zero, suc, ◌+◌, ◌*◌, ◌-◌, ◌≤◌, List, [], ◌∷◌, length, get_or, take, drop, Result, Ok, Err, sym}
use Rattle.std.proofs.Common.{replicate, ap, ◌∙◌, length-append, arith}
use Rattle.std.proofs.lemmas.List.{drop_more, drop_at, drop-drop, take-append-drop, length-replicate}
use Rattle.ldar_facts.specs.declared.read_end.ReadEnd.{ReadEnd}
use Rattle.ldar_facts.specs.declared.read_end.ReadEnd.TheVariants.{Wrong}
use Rattle.ldar_facts.specs.Compose.{IsBytes-behind, ok_pair}
use Rattle.ldar_facts.specs.Form.{IsBytes, Takes}
use Rattle.ldar_facts.specs.Letters.{name_form}
use Rattle.ldar_facts.specs.Number.{number_from, may_be, no_value}
use Rattle.ldar_facts.proofs.NameForm.{name_text}

-- the rest of bytes is bytes
pub IsBytes-drop : (bytes : List ℕ) (at : ℕ) → IsBytes bytes → IsBytes (drop at bytes)
IsBytes-drop bytes at are = IsBytes-behind bytes (take at bytes) (drop at bytes) (sym (take-append-drop at bytes)) are

-- the two bytes at a place, and the rest after them
pub two_stand : (bytes : List ℕ) (at : ℕ) → at + 2 ≤ length bytes → drop at bytes ≡ get_or bytes at 0 ∷ get_or bytes (at + 1) 0 ∷ drop (at + 2) bytes
two_stand bytes at within =
    let next : at + 1 + 1 ≡ at + 2 = omega arith in
    drop_more bytes at 0 (omega arith)
    ∙ ap (λ l. get_or bytes at 0 ∷ l) (drop_more bytes (at + 1) 0 (omega arith) ∙ ap (λ k. get_or bytes (at + 1) 0 ∷ drop k bytes) next)

-- the four bytes at a place, and the rest after them
pub four_stand : (bytes : List ℕ) (at : ℕ) → at + 4 ≤ length bytes
    → drop at bytes ≡ get_or bytes at 0 ∷ get_or bytes (at + 1) 0 ∷ get_or bytes (at + 2) 0 ∷ get_or bytes (at + 3) 0 ∷ drop (at + 4) bytes
four_stand bytes at within =
    let third : at + 2 + 1 ≡ at + 3 = omega arith in
    let behind : at + 2 + 2 ≡ at + 4 = omega arith in
    let later : drop (at + 2) bytes ≡ get_or bytes (at + 2) 0 ∷ get_or bytes (at + 3) 0 ∷ drop (at + 4) bytes =
    two_stand bytes (at + 2) (omega arith)
    ∙ ap (λ k. get_or bytes (at + 2) 0 ∷ get_or bytes k 0 ∷ drop (at + 2 + 2) bytes) third
    ∙ ap (λ k. get_or bytes (at + 2) 0 ∷ get_or bytes (at + 3) 0 ∷ drop k bytes) behind in
    two_stand bytes at (omega arith) ∙ ap (λ l. get_or bytes at 0 ∷ get_or bytes (at + 1) 0 ∷ l) later

-- ---- where a field ends

-- the unread bytes after a number are those after its width
number_ends : (more : ℕ) (ranges : List (ℕ × ℕ)) (n : ℕ) (bytes : List ℕ) (v : ℕ) (rest : List ℕ)
    → number_from more ranges n bytes ≡ Ok (v, rest) → rest ≡ drop more bytes
unfolding number_from
number_ends zero ranges n bytes v rest e = sym (ok_pair (n, bytes) (v, rest) e).1
number_ends (suc more) ranges n [] v rest e = absurd cc
number_ends (suc more) ranges n (b ∷ bytes) v rest e =
    let step = no_value (may_be more ranges (n * 256 + b)) (number_from more ranges (n * 256 + b) bytes) (Wrong (suc (length bytes))) (v, rest) e in
    number_ends more ranges (n * 256 + b) bytes v rest step.1

-- the unread bytes after a number at a place are those its width after the place
pub number_to : (width at : ℕ) (ranges : List (ℕ × ℕ)) (bytes : List ℕ) (v : ℕ) (rest : List ℕ)
    → number_from width ranges 0 (drop at bytes) ≡ Ok (v, rest) → number_from width ranges 0 (drop at bytes) ≡ Ok (v, drop (at + width) bytes)
number_to width at ranges bytes v rest e =
    e ∙ ap (λ (l : List ℕ). Ok (v, l)) (number_ends width ranges 0 (drop at bytes) v rest e ∙ drop-drop width at bytes)

-- the unread bytes after a name are those after twelve bytes
name_ends : (bytes rest : List ℕ) (name : List ℕ) → IsBytes bytes → name_form.read bytes ≡ Ok (name, rest) → rest ≡ drop 12 bytes
name_ends bytes rest name are e =
    let p = name_form.reads.found bytes name rest are e in
    let text = name_text p.0 in
    let fits = text.0.fits in
    let len : length (name_form.text p.0) ≡ 12 =
    ap length text.1 ∙ length-append (name_form.value p.0) (replicate (12 - length (name_form.value p.0)) 0)
    ∙ rw (length-replicate {A = ℕ} (12 - length (name_form.value p.0)) 0) (omega (arith, fits)) in
    sym (rw p.2 (drop_at (name_form.text p.0) rest 12 len))

-- the unread bytes after a name at a place are those twelve bytes after the place
pub name_to : (at : ℕ) (bytes rest : List ℕ) (result : Result (List ℕ) ReadEnd) → IsBytes bytes → Takes name_form.read result (drop at bytes) rest
    → Takes name_form.read result (drop at bytes) (drop (at + 12) bytes)
name_to at bytes rest (Ok name) are e =
    e ∙ ap (λ (l : List ℕ). Ok (name, l)) (name_ends (drop at bytes) rest name (IsBytes-drop bytes at are) e ∙ drop-drop 12 at bytes)
name_to at bytes rest (Err stop) are e = e
