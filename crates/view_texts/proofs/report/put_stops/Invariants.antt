use Rattle.std.proofs.Common.{◌≡◌, ◌++◌, take}
use Rattle.std.specs.Prelude.{string_bytes}
use Rattle.std.specs.List.{flat_map}
use Rattle.ldar_law.specs.Texts.{stop_line}
use Rattle.view_texts.proofs.report.put_stops.Given as goal

abbrev pub invariant-loop-stop : goal.invariant-loop-stop
invariant-loop-stop l = string_bytes l.text ≡ string_bytes l.initial.text ++ flat_map stop_line (take l.stop-index l.stops)
