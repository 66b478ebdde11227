-- Why a room was not closed.
use Rattle.std.specs.Prelude.{◌≡◌, ◌<◌, ℕ, List, length}
use Rattle.sync_room.specs.declared.room.KeptWhy.{KeptWhy}
use Rattle.sync_room.specs.declared.room.KeptWhy.TheVariants.{Memory, Out}
use Rattle.sync_room.specs.Calls.{RoomCall}
use Rattle.sync_room.specs.Passes.{PassState}
use Rattle.sync_room.specs.Rule.{SeatView, SeesMore, idle}

-- that many tickets were drawn; those served are the calls that were seen, and are fewer; memory is never the reason
abbrev pub CountsTickets : ℕ → List RoomCall → KeptWhy → Type 0
CountsTickets known seen Memory = ⊥
CountsTickets known seen (Out drawn served) = (drawn ≡ known) × (served ≡ length seen) × (served < drawn)

-- A drawn ticket was not served when the pass looked: it knows how many tickets were drawn, and it has seen every call that was served, which are fewer.
abbrev pub CountsOut : PassState → KeptWhy → Type 0
CountsOut pass why = CountsTickets pass.drawn pass.seen why

-- the same of a later view of a seat
pub record IsOut (v w : SeatView) (why : KeptWhy) : Type 0 where
  pub follows : SeesMore v w
  pub free : w.stage ≡ idle
  pub counts : CountsTickets w.drawn w.seen why
