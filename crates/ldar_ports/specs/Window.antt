-- A window on a source, and the effects of its calls.
use Rattle.std.specs.Prelude.{ℕ, List, ◌++◌, drop}

-- the bytes in it, and the size of its buffer
pub record WindowState : Type 0 where
  pub bytes : List ℕ
  pub size : ℕ

-- bytes that were read follow the others
abbrev pub after_taking : WindowState → List ℕ → WindowState
after_taking window taken = record window { bytes = window.bytes ++ taken }

-- dropped bytes are removed from the front
abbrev pub after_dropping : WindowState → ℕ → WindowState
after_dropping window n = record window { bytes = drop n window.bytes }
