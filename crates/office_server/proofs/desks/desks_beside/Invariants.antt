use Rattle.std.proofs.Common.{◌≡◌, replicate}
use Rattle.office_server.specs.Fronts.{desk_with}
use Rattle.sync_room.specs.Passes.{new_pass}
use Rattle.office_server.proofs.desks.desks_beside.Given as goal

-- the desks so far have new passes
abbrev pub invariant-loop : goal.invariant-loop
invariant-loop g l = (l.whole ≡ new_pass l.room) × (l.desks.items ≡ replicate l.counter (desk_with (new_pass l.room)))
