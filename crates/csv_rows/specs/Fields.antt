-- The fields of a record, shared by several kinds of files. Each definition is a value, or None if the field has another form.
use Rattle.std.specs.Prelude.{ℕ, Bool, true, false, ◌==◌, ◌&&◌, nat_le, List, [], ◌∷◌, Option, Some, None, option_and_then, if◌then◌else◌}
use Rattle.std.specs.List.{list_all}
use Rattle.std.specs.Char.{is_ascii_digit}
use Rattle.std.specs.Str.{bytes_eq}
use Rattle.ldar_days.specs.Texts.{day_of, digits_value}

-- one reading after another
infixl 10 ◌>>=◌
abbrev pub ◌>>=◌ : {A B : Type 0} → Option A → (A → Option B) → Option B
o >>= f = option_and_then f o

-- ---- numbers

-- the bytes are empty, or a zero followed by other bytes
abbrev pub starts_badly : List ℕ → Bool
starts_badly [] = true
starts_badly (first ∷ []) = false
starts_badly (first ∷ second ∷ rest) = first == 48

-- the number that decimal digits spell, if it is at most the bound
abbrev pub digits : List ℕ → ℕ → Option ℕ
digits text high = if list_all is_ascii_digit text && nat_le (digits_value text) high then Some (digits_value text) else None

-- the number that decimal digits without a leading zero spell, if it is at most the bound
abbrev pub decimal : List ℕ → ℕ → Option ℕ
decimal text high = if starts_badly text then None else digits text high

-- a number from low to high
unfoldable pub number : ℕ → ℕ → Option (List ℕ) → Option ℕ
number low high field = do
  text ← field
  n ← decimal text high
  if nat_le low n then Some n else None

-- ---- words and days

-- the field is this word
abbrev pub holds : Option (List ℕ) → List ℕ → Bool
holds None word = false
holds (Some field) word = bytes_eq field word

-- a day as YYYY-MM-DD
unfoldable pub day : Option (List ℕ) → Option ℕ
day field = do
  text ← field
  day_of text
