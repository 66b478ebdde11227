-- The members of a process unit's table. Each definition is a value, or None if the member has another form.
use Rattle.std.specs.Prelude.{ℕ, ℤ, pos, negsuc, Bool, ◌&&◌, ◌==◌, not, nat_eq, nat_le, List, [], ◌∷◌, length, Option, Some, None, if◌then◌else◌}
use Rattle.std.specs.List.{list_all, list_any}
use Rattle.std.specs.Cmp.Lexicographic.{pointwise}
use Rattle.toml.specs.Data.{Data, Members, no_members, member, as_bool, as_integer, as_str}
use Rattle.ldar_days.specs.Texts.{day_of}
use Rattle.fact_kinds.specs.Name.{is_name_byte}
use Rattle.csv_rows.specs.Fields.{◌>>=◌}

-- ---- keys

-- the keys of a table
abbrev pub keys_of : Members → List (List ℕ)
keys_of no_members = []
keys_of (member key d members) = key ∷ keys_of members

-- the key is one of these
abbrev pub is_among : List (List ℕ) → List ℕ → Bool
is_among keys key = list_any (λ k. pointwise nat_eq k key) keys

-- the table has only these keys
abbrev pub has_only : List (List ℕ) → Members → Bool
has_only keys members = list_all (is_among keys) (keys_of members)

-- ---- values, which may be absent

-- the number, if it is that of a process unit
abbrev pub in_range : ℤ → Option ℕ
in_range (pos n) = if nat_le 1 n && nat_le n 64 then Some n else None
in_range (negsuc n) = None

-- the number of a process unit, 1 to 64
unfoldable pub unit_number : Option Data → Option ℕ
unit_number d = do
  n ← d >>= as_integer
  in_range n

-- a Boolean
unfoldable pub flag : Option Data → Option Bool
flag d = d >>= as_bool

-- a day as a text, YYYY-MM-DD
unfoldable pub day : Option Data → Option ℕ
day d = do
  text ← d >>= as_str
  day_of text

-- the bytes are the name of a process unit
abbrev pub is_name : List ℕ → Bool
is_name bytes = not (length bytes == 0) && (nat_le (length bytes) 12 && list_all is_name_byte bytes)

-- the name of a process unit
unfoldable pub name : Option Data → Option (List ℕ)
name d = do
  text ← d >>= as_str
  if is_name text then Some text else None
