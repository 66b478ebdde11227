-- Which words are the positionals of a command. The first word is the command's name.
use Rattle.std.specs.Prelude.{◌==◌, ◌&&◌, ℕ, Bool, false, not, Option, Some, None, List, [], ◌∷◌, length, if◌then◌else◌}
use Rattle.std.specs.List.{list_all}

-- a word that begins with a hyphen (45) is an option
abbrev pub is_option : List ℕ → Bool
is_option [] = false
is_option (byte ∷ rest) = byte == 45

-- a word that is not an option is plain
abbrev pub is_plain : List ℕ → Bool
is_plain word = not (is_option word)

-- there is a name, and each word after it is plain
abbrev pub are_plain : List (List ℕ) → Bool
are_plain [] = false
are_plain (name ∷ further) = list_all is_plain further

-- the words after the name, if they have this number and none of them is an option
abbrev pub positionals_of : ℕ → List (List ℕ) → Option (List (List ℕ))
positionals_of count [] = None
positionals_of count (name ∷ further) =
    if length further == count && list_all is_plain further then Some further else None
