-- What a worker does at its front: it answers the connections, one after the other.
use Rattle.std.specs.Prelude.{◌≡◌, ◌≤◌, ℕ, List, [], ◌∷◌, ◌++◌, map, Option}
use Rattle.std.specs.List.{flat_map}
use Rattle.disk_model.specs.Faults.{Rose}
use Rattle.ldar_law.specs.Machine.{Call, Turn}
use Rattle.ldar_ports.specs.declared.ended.Ended.TheVariants.{ReadFault, WriteFault}
use Rattle.ldar_ports.specs.Front.{Connection, Finished, Accepts, Finishes}
use Rattle.ldar_ports.specs.Sink.{stamps_of}
use Rattle.ldar_ports.specs.Source.{Takes}
use Rattle.ldar_session.specs.Requests.{HasItsAnswer}
use Rattle.ldar_session.specs.Served.{Served, Stretch, AreWithin, items_of, turns_in, turns_of}
use Rattle.ldar_session.specs.Session.{Ends}

-- a connection that was answered: as it was accepted, as it was handed back, and the requests that were served in between
pub record Visit : Type 0 where
  pub before : Connection
  pub after : Finished
  pub served : List Served

-- One session answered the connection, and led the office from one value to the other: it read the requests that were served, wrote their
-- answers, and ended as the connection was handed back.
pub record IsSession {O : Type 0} (led : O → List Call → O → Type 0) (clock_of : O → ℕ) (old new : O) (visit : Visit) : Type 0 where
  pub rest : List ℕ
  pub unsaid : List ℕ
  pub takes : Takes visit.before.left (items_of visit.served ++ rest) visit.after.connection.left
  pub stretch : Stretch HasItsAnswer led old new visit.before.pieces visit.after.connection.pieces visit.served unsaid
  pub ends : Ends visit.after.ended visit.served rest visit.after.connection.left unsaid
  pub within : AreWithin led clock_of new (stamps_of stretch.put)
  pub read_fault : visit.after.ended ≡ ReadFault → Rose visit.before.read_faults visit.after.connection.read_faults
  pub write_fault : visit.after.ended ≡ WriteFault → Rose visit.before.write_faults visit.after.connection.write_faults
  pub read_count : visit.before.read_faults ≤ visit.after.connection.read_faults
  pub write_count : visit.before.write_faults ≤ visit.after.connection.write_faults

-- sessions one after the other lead the office from one value to the other, one for each connection
abbrev pub AreSessions : {O : Type 0} → (O → List Call → O → Type 0) → (O → ℕ) → O → List Visit → O → Type 0
AreSessions led clock_of old [] new = new ≡ old
AreSessions {O} led clock_of old (visit ∷ visits) new =
    (mid : O) × IsSession led clock_of old mid visit × AreSessions led clock_of mid visits new

-- the turns of all requests that were served, in order
abbrev pub turns_served : List Visit → List Turn
turns_served visits = flat_map (λ visit. turns_of visit.served) visits

-- What a worker did. Each connection that it accepted was answered in one session and then handed back, in order. The calls that led the office
-- from one value to the other have just the turns of the requests of these connections.
pub record HasWorked {O : Type 0} (led : O → List Call → O → Type 0) (clock_of : O → ℕ) (old new : O)
    (left left' : Option (List Connection)) (done done' : Option (List Finished)) : Type 0 where
  pub visits : List Visit
  pub calls : List Call
  pub run : led old calls new
  pub turns : turns_in calls ≡ turns_served visits
  pub sessions : AreSessions led clock_of old visits new
  pub accepted : Accepts left (map (λ visit. visit.before) visits) left'
  pub finished : Finishes done (map (λ visit. visit.after) visits) done'
