-- The members of a JSON object: each reader returns a value, or nothing if the member has another form.
use Rattle.std.specs.Prelude.{ℕ, Bool, false, ◌&&◌, ◌==◌, not, nat_eq, nat_le, List, [], ◌∷◌}
use Rattle.std.specs.Prelude.{length, Option, Some, None, option_and_then, position, if◌then◌else◌}
use Rattle.std.specs.List.{list_all, list_any}
use Rattle.std.specs.Cmp.Lexicographic.{pointwise}
use Rattle.serde_json.specs.Data.{Data, Members, no_members, member}
use Rattle.serde_json.specs.Find.{as_number, as_u64, as_str, as_bool, as_object}
use Rattle.ldar_days.specs.Texts.{day_of}
use Rattle.fact_kinds.specs.Name.{is_name_byte}

-- one reader after another
infixl 10 ◌>>=◌
abbrev pub ◌>>=◌ : {A B : Type 0} → Option A → (A → Option B) → Option B
o >>= f = option_and_then f o

-- ---- keys

abbrev pub keys_of : Members → List (List ℕ)
keys_of no_members = []
keys_of (member key d members) = key ∷ keys_of members

abbrev pub is_among : List (List ℕ) → List ℕ → Bool
is_among keys key = list_any (λ k. pointwise nat_eq k key) keys

abbrev pub has_only_members : List (List ℕ) → Option Members → Bool
has_only_members keys None = false
has_only_members keys (Some members) = list_all (is_among keys) (keys_of members)

-- the value is an object with no keys other than these
unfoldable pub has_only : List (List ℕ) → Data → Bool
has_only keys d = has_only_members keys (as_object d)

-- ---- members, which may be missing

-- a whole number from `low` to `high`
unfoldable pub number : ℕ → ℕ → Option Data → Option ℕ
number low high d = do
  n ← d >>= as_number >>= as_u64
  if nat_le low n && nat_le n high then Some n else None

unfoldable pub flag : Option Data → Option Bool
flag d = d >>= as_bool

-- the place of a text among some words
unfoldable pub word : List (List ℕ) → Option Data → Option ℕ
word words d = do
  text ← d >>= as_str
  position (λ w. pointwise nat_eq w text) words

-- a day as YYYY-MM-DD
unfoldable pub day : Option Data → Option ℕ
day d = do
  text ← d >>= as_str
  day_of text

-- the bytes are the name of a process unit
abbrev pub is_name : List ℕ → Bool
is_name bytes = not (length bytes == 0) && (nat_le (length bytes) 12 && list_all is_name_byte bytes)

unfoldable pub name : Option Data → Option (List ℕ)
name d = do
  text ← d >>= as_str
  if is_name text then Some text else None

-- the number of an instrument or a person; a missing one is 0, for none
abbrev pub number_or_none : Option Data → Option ℕ
number_or_none None = Some 0
number_or_none (Some d) = number 0 65_535 (Some d)

-- a day that may be missing
abbrev pub day_or_none : Option Data → Option (Option ℕ)
day_or_none None = Some None
day_or_none (Some d) = do
  n ← day (Some d)
  Some (Some n)
