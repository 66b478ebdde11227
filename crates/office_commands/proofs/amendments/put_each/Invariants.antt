use Rattle.std.proofs.Common.{◌≡◌, ◌++◌, take}
use Rattle.std.specs.String.{string_bytes}
use Rattle.std.specs.List.{flat_map}
use Rattle.office_commands.specs.Filing.{change_line}
use Rattle.office_commands.proofs.amendments.put_each.Given as goal

-- there is a line for each change so far
abbrev pub invariant-loop-change : goal.invariant-loop-change
invariant-loop-change l = string_bytes l.text ≡ string_bytes l.initial.text ++ flat_map change_line (take l.change-index l.changes)
