-- The positions of identities in a list.
use Rattle.std.specs.Prelude.{ℕ, Bool, nat_eq, ◌&&◌, Option, List}
use Rattle.std.specs.List.{position_from}
use Rattle.fact_kinds.specs.declared.identity.Identity.{Identity}

-- two identities are equal
abbrev pub is_identity : Identity → Identity → Bool
is_identity a b = nat_eq a.handheld b.handheld && nat_eq a.number b.number

-- the first position, from 1, of an identity
abbrev pub position_in : Identity → List Identity → Option ℕ
position_in identity identities = position_from (is_identity identity) 1 identities

-- identities in order, how many more there is room for, and how many were added since room was made
pub record PositionsState : Type 0 where
  pub identities : List Identity
  pub room : ℕ
  pub fresh : ℕ
