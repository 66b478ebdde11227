use Rattle.std.proofs.Common.{◌-◌, ◌≤◌, length}
use Rattle.std.specs.List.{AllByRecursion}
use Rattle.office_interface.specs.Asking.{IsFromHandheld}
use Rattle.ldar_session.specs.Speech.{AreInFront}
use Rattle.ldar_session.proofs.group.add_others.Given as goal

-- the requests so far are at the front, and may share a frame
abbrev pub invariant-others : goal.invariant-others
invariant-others g l =
    AreInFront g.P.Protocol.speech l.bytes l.group.requests.items l.group.closing l.group.used
    × (length l.group.requests.items ≤ l.most)
    × AllByRecursion IsFromHandheld l.group.requests.items
    × (length l.fn.group.requests.items ≤ length l.group.requests.items)

-- the number of requests that may still be added
abbrev pub decreases-others : goal.decreases-others
decreases-others g l = l.most - length l.group.requests.items
