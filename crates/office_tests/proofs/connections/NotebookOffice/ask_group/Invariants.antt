use Rattle.std.proofs.Common.{◌≡◌, ◌++◌, List, map, take}
use Rattle.std.specs.List.{AllByRecursion}
use Rattle.ldar_law.specs.Machine.{Turn}
use Rattle.office_interface.specs.Asking.{HasRule}
use Rattle.office_tests.proofs.connections.NotebookOffice.ask_group.Given as goal

-- the turns of the requests so far
abbrev pub invariant-loop-request : goal.invariant-loop-request
invariant-loop-request l =
    (turns : List Turn)
    × (map (λ (turn : Turn). turn.request) turns ≡ take l.request-index l.requests)
    × (l.replies.items ≡ l.fn.replies.items ++ map (λ (turn : Turn). turn.reply) turns)
    × AllByRecursion HasRule (map (λ (turn : Turn). turn.reply) turns)
