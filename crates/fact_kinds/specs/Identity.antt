-- The identity of a batch, and the batch's position in a history.
use Rattle.std.specs.Prelude.{ℕ, Bool, true, ◌&&◌, nat_eq, not, Option, List, [], ◌∷◌}
use Rattle.std.specs.List.{list_any, position_from}
use Rattle.fact_kinds.specs.declared.batch.Batch.{Batch}
use Rattle.fact_kinds.specs.declared.identity.Identity.{Identity}

-- the handheld that sent the batch, and the batch's number there
abbrev pub identity_of : Batch → Identity
identity_of batch = record { handheld = batch.handheld; number = batch.number }

-- the batch has this identity
abbrev pub is_of : Identity → Batch → Bool
is_of identity batch = nat_eq identity.handheld batch.handheld && nat_eq identity.number batch.number

-- two batches have the same identity
abbrev pub is_same_identity : Batch → Batch → Bool
is_same_identity a b = is_of (identity_of a) b

-- no two batches of a history have the same identity
abbrev pub identities_differ : List Batch → Bool
identities_differ [] = true
identities_differ (batch ∷ batches) = not (list_any (is_same_identity batch) batches) && identities_differ batches

-- the position, from 1, of the first batch with this identity
abbrev pub position_of : Identity → List Batch → Option ℕ
position_of identity history = position_from (is_of identity) 1 history
