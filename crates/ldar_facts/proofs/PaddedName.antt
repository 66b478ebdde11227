-- A name in its twelve bytes, looked at as a whole: letters, then zero bytes.
use Rattle.std.proofs.Common.{◌≡◌, ℕ, ◌+◌, ◌-◌, ◌<◌, ◌≤◌, true, List, [], ◌∷◌, ◌++◌, length, take, drop, replicate, Ok, refl, sym, ap, subst, ◌∙◌, arith}
use Rattle.std.specs.Prelude.{◌==◌, Option, Some, None, IfSome}
use Rattle.std.specs.List.{list_all}
use Rattle.std.proofs.lemmas.Bool.{eqb-true, and_parts}
use Rattle.std.proofs.lemmas.List.{drop-drop, take-append-drop, length-drop, length-take-le, take_all}
use Rattle.fact_kinds.specs.Name.{IsName, is_name_byte, spelled_name}
use Rattle.ldar_facts.specs.Letters.{name_form}
use Rattle.ldar_facts.proofs.NameForm.{name_text, name_path}

-- bytes that are all zero are a list of zeros
all_zeros : (bytes : List ℕ) → list_all (λ b. b == 0) bytes ≡ true → bytes ≡ replicate (length bytes) 0
all_zeros [] h = refl
all_zeros (b ∷ bytes) h =
    let parts = and_parts (b == 0) (list_all (λ b. b == 0) bytes) h in
    let is : b ≡ 0 = eqb-true b 0 parts.0 in
    rw is (ap (λ l. 0 ∷ l) (all_zeros bytes parts.1))

-- a prefix of twelve bytes, if only zero bytes follow, is the name in these bytes
padded_name : (len : ℕ) (bytes name : List ℕ) → length bytes ≡ 12 → len ≤ 12 → list_all (λ b. b == 0) (take (12 - len) (drop len bytes)) ≡ true
    → name ≡ take len bytes → bytes ≡ spelled_name name
padded_name len bytes name twelve fits zeros is =
    let behind = length-drop len bytes in
    let long : length (take len bytes) ≡ len = length-take-le len bytes (omega (arith, twelve, fits)) in
    let left : length (drop len bytes) ≡ 12 - length (take len bytes) = omega (arith, behind, long, twelve) in
    let all : take (12 - len) (drop len bytes) ≡ drop len bytes = take_all (12 - len) (drop len bytes) (omega (arith, behind, twelve)) in
    rw is
    (sym (take-append-drop len bytes)
    ∙ ap (λ l. take len bytes ++ l) (all_zeros (drop len bytes) (rw all at zeros) ∙ ap (λ n. replicate n 0) left))

-- the name made from the prefix is the name in the twelve bytes
pub front_is_name : (len : ℕ) (bytes : List ℕ) (result : Option (List ℕ)) → length bytes ≡ 12 → len ≤ 12
    → list_all (λ b. b == 0) (take (12 - len) (drop len bytes)) ≡ true → IfSome result (λ name. IsName (take len bytes) × (name ≡ take len bytes))
    → IfSome result (λ name. IsName name × (bytes ≡ spelled_name name))
front_is_name len bytes None twelve fits zeros made = tt
front_is_name len bytes (Some name) twelve fits zeros made =
    (subst IsName (sym made.1) made.0, padded_name len bytes name twelve fits zeros made.1)

-- a name in its twelve bytes at a place is read
pub name_stands : (at : ℕ) (bytes name : List ℕ) → IsName name → take 12 (drop at bytes) ≡ spelled_name name
    → name_form.read (drop at bytes) ≡ Ok (name, drop (at + 12) bytes)
name_stands at bytes name is stands =
    let p = name_path name is in
    let text = (name_text p.0).1 in
    let splits : drop at bytes ≡ name_form.text p.0 ++ drop (at + 12) bytes =
    sym (take-append-drop 12 (drop at bytes))
    ∙ ap (λ l. l ++ drop 12 (drop at bytes)) (stands ∙ ap spelled_name (sym p.1) ∙ sym text)
    ∙ ap (λ l. name_form.text p.0 ++ l) (drop-drop 12 at bytes) in
    ap name_form.read splits ∙ name_form.reads.again p.0 (drop (at + 12) bytes) ∙ ap (λ n. Ok (n, drop (at + 12) bytes)) p.1
