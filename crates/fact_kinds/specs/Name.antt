-- The name of a process unit, and its twelve bytes.
use Rattle.std.specs.Prelude.{ℕ, ◌-◌, ◌<◌, ◌≤◌, Bool, ◌||◌, ◌&&◌, nat_le, ◌==◌, IsTrue, List, ◌++◌, length, replicate}
use Rattle.std.specs.List.{list_all}

-- a capital letter, a digit or a hyphen
abbrev pub is_name_byte : ℕ → Bool
is_name_byte b = b == 45 || (nat_le 48 b && nat_le b 57) || (nat_le 65 b && nat_le b 90)

-- a name: 1 to 12 such bytes
pub record IsName (name : List ℕ) : Type 0 where
  pub some : 0 < length name
  pub fits : length name ≤ 12
  pub letters : IsTrue (list_all is_name_byte name)

-- a name, followed by zero bytes up to twelve
abbrev pub spelled_name : List ℕ → List ℕ
spelled_name name = name ++ replicate (12 - length name) 0
