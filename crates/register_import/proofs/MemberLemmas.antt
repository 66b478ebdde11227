-- The keys of a table and the elements of an array, as the code stores them.
use Rattle.std.proofs.Common.{◌≡◌, ℕ, Bool, ◌&&◌, ◌||◌, ◌==◌, not, is_some, List, [], ◌∷◌, length, map, refl, sym, ap, arith, suc, String, string_bytes}
use Rattle.std.proofs.lemmas.Bool.{ne_eqb}
use Rattle.std.specs.List.{list_all, list_any}
use Rattle.std.specs.declared.alloc.Global.{Global}
use Rattle.toml.specs.Data.{as_table}
use Rattle.toml.specs.View.{items_view, members_view, view}
use Rattle.toml.specs.declared.value.Value.{Value}
use Rattle.register_import.specs.Members.{keys_of}
use Rattle.register_import.specs.Units.{are_tables, has_element}

-- the keys of a table are those of its entries
pub keys_of-members_view : (es : List (String Global × Value)) → keys_of (members_view es) ≡ map (λ (e : String Global × Value). string_bytes e.0) es
keys_of-members_view [] = refl
keys_of-members_view (e ∷ es) = ap (λ (l : List (List ℕ)). string_bytes e.0 ∷ l) (keys_of-members_view es)

-- whether some element of a mapped list passes
pub list_any-map : {X Y : Type 0} (f : X → Y) (p : Y → Bool) (xs : List X) → list_any p (map f xs) ≡ list_any (λ x. p (f x)) xs
list_any-map f p [] = refl
list_any-map f p (x ∷ xs) = ap (λ b. p (f x) || b) (list_any-map f p xs)

-- whether each element is a table
pub are_tables-items_view : (vs : List Value) → are_tables (items_view vs) ≡ list_all (λ v. is_some (as_table (view v))) vs
are_tables-items_view [] = refl
are_tables-items_view (v ∷ vs) = ap (λ (b : Bool). is_some (as_table (view v)) && b) (are_tables-items_view vs)

-- whether there is at least one element
pub has_element-items_view : (vs : List Value) → has_element (items_view vs) ≡ not (length vs == 0)
has_element-items_view [] = refl
has_element-items_view (v ∷ vs) = sym (ap not (ne_eqb (suc (length vs)) 0 (λ is. omega arith)))
