-- Keys of an object, and words of a table, as in the code.
use Rattle.std.proofs.Common.{◌≡◌, ℕ, ◌+◌, Bool, cond, List, [], ◌∷◌, map, refl, ap, String, string_bytes, not}
use Rattle.std.proofs.lemmas.List.{length-map}
use Rattle.std.specs.List.{position, prefix_len}
use Rattle.std.specs.declared.alloc.Global.{Global}
use Rattle.serde_json.specs.View.{members_view}
use Rattle.serde_json.specs.declared.value.Value.{Value}
use Rattle.handheld_http.specs.Members.{keys_of}

-- the keys of an object are those of its entries
pub keys_of-members_view : (es : List (String Global × Value)) → keys_of (members_view es) ≡ map (λ (e : String Global × Value). string_bytes e.0) es
keys_of-members_view [] = refl
keys_of-members_view (e ∷ es) = ap (λ (l : List (List ℕ)). string_bytes e.0 ∷ l) (keys_of-members_view es)

-- the number of elements that pass at the front, of a mapped list
prefix_len-map : {X Y : Type 0} (f : X → Y) (p : Y → Bool) (xs : List X) → prefix_len p (map f xs) ≡ prefix_len (λ x. p (f x)) xs
prefix_len-map f p [] = refl
prefix_len-map f p (x ∷ xs) = ap (λ (n : ℕ). cond (p (f x)) (1 + n) 0) (prefix_len-map f p xs)

-- the first element that passes, of a mapped list
pub position-map : {X Y : Type 0} (f : X → Y) (p : Y → Bool) (xs : List X) → position p (map f xs) ≡ position (λ x. p (f x)) xs
position-map f p xs = rw (prefix_len-map f (λ y. not (p y)) xs, length-map xs f) refl
