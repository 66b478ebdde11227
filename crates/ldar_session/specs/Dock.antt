-- The end of a connection of batches.
use Rattle.std.specs.Prelude.{ℕ, List, Option}
use Rattle.ldar_ports.specs.declared.ended.Ended.{Ended}
use Rattle.ldar_session.specs.Batches.{batch_speech}
use Rattle.ldar_session.specs.Served.{Served}
use Rattle.ldar_session.specs.Speech as speech

-- how it ended, from the batches that were served, the bytes in hand after them, the bytes unread in the source, and the text that was not
-- written
abbrev pub Ends : Ended → List Served → List ℕ → Option (List ℕ) → List ℕ → Type 0
Ends ended served rest left unsaid = speech.Ends batch_speech ended served rest left unsaid
