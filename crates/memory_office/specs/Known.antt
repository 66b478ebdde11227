-- Equality of identities.
use Rattle.std.specs.Prelude.{Bool, nat_eq, ◌&&◌}
use Rattle.fact_kinds.specs.declared.identity.Identity.{Identity}

-- the two identities are equal
abbrev pub is_identity : Identity → Identity → Bool
is_identity a b = nat_eq a.handheld b.handheld && nat_eq a.number b.number
