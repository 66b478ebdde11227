-- The name of a process unit is text.
use Rattle.std.proofs.Common.{◌≡◌, ℕ, Bool, true, false, ◌&&◌, IsTrue, List, [], ◌∷◌, arith}
use Rattle.std.specs.List.{list_all}
use Rattle.std.specs.Str.{IsUtf8, IsAscii}
use Rattle.std.proofs.lemmas.Bool.Decides.{nat_tests}
use Rattle.std.proofs.lemmas.Str.{IsUtf8-from_ascii}
use Rattle.std.proofs.lemmas.Str.Ascii.{IsAscii-cons, IsAscii-nil}
use Rattle.fact_kinds.specs.Name.{IsName, is_name_byte}

-- letters, digits and hyphens are all below 128
letters_are_ascii : (bytes : List ℕ) → list_all is_name_byte bytes ≡ true → IsAscii bytes
letters_are_ascii [] all = IsAscii-nil
letters_are_ascii (b ∷ bytes) all = IsAscii-cons b bytes (grind (arith, nat_tests)) (letters_are_ascii bytes (grind (arith, nat_tests)))

-- a name is UTF-8 text
pub name_is_text : (name : List ℕ) → IsName name → IsUtf8 name
name_is_text name is = IsUtf8-from_ascii name (letters_are_ascii name is.letters)
