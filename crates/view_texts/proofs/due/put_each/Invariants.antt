use Rattle.std.proofs.Common.{◌≡◌, ◌++◌, take}
use Rattle.std.specs.Prelude.{string_bytes}
use Rattle.std.specs.List.{flat_map}
use Rattle.ldar_law.specs.Texts.{due_line}
use Rattle.view_texts.proofs.due.put_each.Given as goal

abbrev pub invariant-loop-duty : goal.invariant-loop-duty
invariant-loop-duty l = string_bytes l.text ≡ string_bytes l.initial.text ++ flat_map (due_line l.day) (take l.duty-index l.duties)
