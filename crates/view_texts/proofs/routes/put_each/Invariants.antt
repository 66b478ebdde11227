use Rattle.std.proofs.Common.{◌≡◌, ◌+◌, ◌++◌, drop}
use Rattle.std.specs.Prelude.{string_bytes}
use Rattle.ldar_law.specs.Texts.{route_lines}
use Rattle.view_texts.proofs.routes.put_each.Given as goal

-- with the lines of the remaining routes the text would be complete
abbrev pub invariant-loop-place : goal.invariant-loop-place
invariant-loop-place l = string_bytes l.text ++ route_lines (l.place + 1) (drop l.place l.routes) ≡ string_bytes l.initial.text ++ route_lines 1 l.routes
