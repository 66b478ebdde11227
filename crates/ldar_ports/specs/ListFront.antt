-- A front in memory, and the effects of its calls.
use Rattle.std.specs.Prelude.{ℕ, List, [], ◌∷◌, ◌++◌, Some}
use Rattle.disk_model.specs.Calls.{CallCounts}
use Rattle.ldar_ports.specs.declared.ended.Ended.{Ended}
use Rattle.ldar_ports.specs.Front.{Connection, Finished, connection_of, finished_of}
use Rattle.ldar_ports.specs.ListSource.{SourceState, joined}
use Rattle.ldar_ports.specs.StampedSink.{SinkState}

-- a connection that was handed back: its source, its sink, and how it ended
pub record FinishedState : Type 0 where
  pub source : SourceState
  pub sink : SinkState
  pub ended : Ended

-- a connection that was handed back, from its parts
abbrev pub finished_state : SourceState → SinkState → Ended → FinishedState
finished_state source sink ended = record { source = source; sink = sink; ended = ended }

-- the connections that are left, those that were handed back, the number of the latter for which there is memory, and the calls of `accept`
pub record FrontState : Type 0 where
  pub left : List (SourceState × SinkState)
  pub done : List FinishedState
  pub room : ℕ
  pub calls : CallCounts

-- a source and a sink in memory as a connection, which exposes its bytes and pieces
abbrev pub connection_at : SourceState × SinkState → Connection
connection_at c = connection_of (Some (joined c.0.pieces)) (Some c.1.pieces) c.0.calls.faults c.1.calls.faults

-- a source and a sink in memory as a connection that was handed back
abbrev pub finished_at : FinishedState → Finished
finished_at f = finished_of (connection_at (f.source, f.sink)) f.ended

-- a connection was handed back, and nothing else changed
abbrev pub after_finish : FrontState → FinishedState → FrontState
after_finish front f = record front { done = front.done ++ f ∷ [] }
