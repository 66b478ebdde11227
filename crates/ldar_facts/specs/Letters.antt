-- Internal: how the private readers are proved. It is in specs/ only because their clauses cite it.
-- A name in its twelve bytes, read byte by byte: letters, at least one, then zero bytes.
use Rattle.std.specs.Prelude.{ℕ, zero, suc, ◌==◌, List, [], ◌∷◌, ◌++◌}
use Rattle.std.specs.Prelude.{refl}
use Rattle.ldar_facts.specs.Form.{Form}
use Rattle.ldar_facts.specs.Compose.{done, either, ◌>>=◌}
use Rattle.ldar_facts.specs.Number.{number_form}

-- the bytes of names: hyphen, digits and capital letters
abbrev pub letters : List (ℕ × ℕ)
letters = (45, 45) ∷ (48, 57) ∷ (65, 90) ∷ []

-- the bytes of names, and the zero byte
abbrev pub letters_or_zero : List (ℕ × ℕ)
letters_or_zero = (0, 0) ∷ letters

-- a letter of a name
abbrev pub letter : Form ℕ
letter = number_form 1 letters refl

-- a letter, or the zero byte after the last one
abbrev pub letter_or_zero : Form ℕ
letter_or_zero = number_form 1 letters_or_zero refl

-- a zero byte
abbrev pub zero_byte : Form ℕ
zero_byte = number_form 1 ((0, 0) ∷ []) refl

-- this many zero bytes
unfoldable pub zeros : ℕ → Form (Unit {0})
zeros zero = done tt
zeros (suc more) = zero_byte >>= λ b. zeros more

-- a name that ends here, followed by this many zero bytes
abbrev pub ended : ℕ → List ℕ → Form (List ℕ)
ended more name = zeros more >>= λ z. done name

-- the next bytes, this many, after the beginning of a name
unfoldable pub behind : ℕ → List ℕ → Form (List ℕ)
behind zero name = done name
behind (suc more) name = letter_or_zero >>= λ b. either (b == 0) (ended more name) (behind more (name ++ b ∷ []))

-- a name in its twelve bytes
unfoldable pub name_form : Form (List ℕ)
name_form = letter >>= λ b. behind 11 (b ∷ [])
