-- The lower of two numbers of records.
use Rattle.std.proofs.Common.{ℕ, Option, Some, None}
use Rattle.seal_view.specs.View.{lower}

-- the lower of two numbers, each of which may be missing
abbrev pub lowest : Option ℕ → Option ℕ → Option ℕ
lowest None other = other
lowest (Some one) other = Some (lower other one)
