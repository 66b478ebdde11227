-- The head of a request: where it ends, and what its fields state about the body and the connection.
use Rattle.std.specs.Prelude.{ℕ, ◌+◌, ◌-◌, ◌<◌, ◌≤◌, Bool, ◌||◌, ◌&&◌, ◌==◌, not, nat_eq, nat_lt, List, [], ◌∷◌, length}
use Rattle.std.specs.Prelude.{map, codes, Option, Some, None, Result, Ok, Err, if◌then◌else◌, count_by, find, option_map}
use Rattle.std.specs.Char.{is_ascii_digit, to_ascii_lowercase}
use Rattle.std.specs.Cmp.Lexicographic.{pointwise}
use Rattle.std.specs.List.{list_all, list_any}
use Rattle.std.specs.Str.Parse.{digits_value}
use Rattle.httparse.specs.Grammar.{RequestHead, ReadsRequest}
use Rattle.httparse.specs.Spans.{name_and_value}
use Rattle.memchr.specs.Find.{OccursAt}

-- the maximum length of a head
abbrev pub longest_head : ℕ
longest_head = 8_192

-- the maximum length of a body
abbrev pub longest_body : ℕ
longest_body = 262_144

-- the end of a line, followed by an empty line
abbrev pub empty_line : List ℕ
empty_line = 13 ∷ 10 ∷ 13 ∷ 10 ∷ []

-- the first empty line of the bytes ends after this many of them, within the maximum length of a head
pub record EndsHead (bytes : List ℕ) (n : ℕ) : Type 0 where
  pub in_range : (4 ≤ n) × (n ≤ longest_head)
  pub there : OccursAt bytes empty_line (n - 4)
  pub first : (k : ℕ) → k + 4 < n → ¬ (OccursAt bytes empty_line k)

-- no empty line ends within the maximum length of a head
abbrev pub HasNoEnd : List ℕ → Type 0
HasNoEnd bytes = (k : ℕ) → k + 4 ≤ longest_head → ¬ (OccursAt bytes empty_line k)

-- the bytes are one whole head of at most 64 fields (RFC 9112, sections 2 to 5)
abbrev pub IsHead : List ℕ → RequestHead → Type 0
IsHead bytes h = ReadsRequest bytes h [] × (length h.fields ≤ 64)

-- ---- fields

-- a field's name, and its value without surrounding blanks
abbrev pub Pair : Type 0
Pair = List ℕ × List ℕ

abbrev pub pairs_of : RequestHead → List Pair
pairs_of h = map name_and_value h.fields

-- the texts are equal except for the case of ASCII letters
abbrev pub same_but_case : List ℕ → List ℕ → Bool
same_but_case text other = pointwise nat_eq (map to_ascii_lowercase text) (map to_ascii_lowercase other)

abbrev pub is_named : List ℕ → Pair → Bool
is_named name field = same_but_case field.0 name

-- the number of fields with the name
abbrev pub count_named : List ℕ → List Pair → ℕ
count_named name fields = count_by (is_named name) fields

-- the value of the first field with the name
abbrev pub value_of : List ℕ → List Pair → Option (List ℕ)
value_of name fields = option_map (λ field. field.1) (find (is_named name) fields)

-- ---- the body

-- one or more decimal digits
abbrev pub is_number : List ℕ → Bool
is_number value = not (length value == 0) && list_all is_ascii_digit value

-- the length that a field states, or the status with which the request is refused
abbrev pub stated_length : List ℕ → Result ℕ ℕ
stated_length value =
    if not (is_number value) then Err 400
    else if nat_lt longest_body (digits_value 10 value) then Err 413
    else Ok (digits_value 10 value)

abbrev pub is_post : List ℕ → Bool
is_post method = pointwise nat_eq method (codes "POST")

-- the length if no field states one
abbrev pub unstated_length : List ℕ → Result ℕ ℕ
unstated_length method = if is_post method then Err 411 else Ok 0

-- the length of the body, from the value of the `Content-Length` field, if there is one
abbrev pub length_by : List ℕ → Option (List ℕ) → Result ℕ ℕ
length_by method None = unstated_length method
length_by method (Some value) = stated_length value

-- the length of the body after a head with this method and these fields, or the status with which the request is refused
abbrev pub body_length : List ℕ → List Pair → Result ℕ ℕ
body_length method fields =
    if nat_lt 0 (count_named (codes "Transfer-Encoding") fields) then Err 501
    else if nat_lt 1 (count_named (codes "Content-Length") fields) then Err 400
    else length_by method (value_of (codes "Content-Length") fields)

-- ---- the connection

-- the field asks to close the connection
abbrev pub asks_to_close : Pair → Bool
asks_to_close field = is_named (codes "Connection") field && same_but_case field.1 (codes "close")

-- no request is answered after one of version 1.0, or after one that asks to close the connection
abbrev pub closes : ℕ → List Pair → Bool
closes minor fields = minor == 0 || list_any asks_to_close fields
