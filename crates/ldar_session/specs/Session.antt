-- The end of a connection of HTTP requests.
use Rattle.std.specs.Prelude.{◌≡◌, ℕ, List, [], ◌∷◌, ◌++◌, length, Option}
use Rattle.ldar_session.specs.declared.ended.TheConstants.{MOST_ANSWERS}
use Rattle.ldar_ports.specs.declared.ended.Ended.{Ended}
use Rattle.ldar_ports.specs.declared.ended.Ended.TheVariants.{Done, Stopped, CutShort, Refused, ReadFault, WriteFault, Memory}
use Rattle.ldar_session.specs.Requests.{IsStream, request_speech}
use Rattle.ldar_session.specs.Served.{Served, items_of}
use Rattle.ldar_session.specs.Speech as speech

-- how it ended, from the requests that were served, the bytes in hand after them, the bytes unread in the source, and the text that was not
-- written
abbrev pub Ends : Ended → List Served → List ℕ → Option (List ℕ) → List ℕ → Type 0
Ends ended served rest left unsaid = speech.Ends request_speech ended served rest left unsaid

-- No whole request is left unanswered: none is at the front of the bytes after the answered ones, unless the last one closes the
-- connection, or the maximum number was answered. For a write error and for out of memory it states nothing.
abbrev pub LeavesNone : Ended → List Served → List ℕ → Type 0
LeavesNone Done served rest = IsStream served rest
LeavesNone Stopped served rest = length served ≡ MOST_ANSWERS
LeavesNone (CutShort got) served rest = IsStream served rest
LeavesNone (Refused at) served rest =
    (before : List Served) × (last : Served) × (served ≡ before ++ last ∷ []) × (at ≡ length (items_of before)) × IsStream before (last.item ++ rest)
LeavesNone ReadFault served rest = IsStream served rest
LeavesNone WriteFault served rest = Unit {0}
LeavesNone Memory served rest = Unit {0}
