use Rattle.std.proofs.Common.{◌≡◌, ◌++◌, length}
use Rattle.std.specs.List.{AllByRecursion}
use Rattle.office_interface.specs.Asking.{HasRule}
use Rattle.ldar_session.specs.Speech.{answers_text}
use Rattle.ldar_session.proofs.answer.text_of.Given as goal

-- the answers so far, and the answers to the other replies
abbrev pub invariant-replies : goal.invariant-replies
invariant-replies g l =
    (answers_text g.P.Protocol.speech l.closing l.fn.replies.items ≡ l.text.items ++ answers_text g.P.Protocol.speech l.closing l.rest.items)
    × AllByRecursion HasRule l.rest.items

-- the number of remaining replies
abbrev pub decreases-replies : goal.decreases-replies
decreases-replies g l = length l.rest.items
