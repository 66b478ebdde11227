-- A sink in memory, and the effects of its calls.
use Rattle.std.specs.Prelude.{List, [], ◌∷◌, ◌++◌}
use Rattle.disk_model.specs.Calls.{CallCounts, after_pass, after_fault}
use Rattle.ldar_ports.specs.Sink.{Piece}

-- the pieces that were written, and the calls
pub record SinkState : Type 0 where
  pub pieces : List Piece
  pub calls : CallCounts

-- a failed call is counted and changes nothing else
abbrev pub after_failing : SinkState → SinkState
after_failing sink = record sink { calls = after_fault sink.calls }

-- a successful call added this piece at the end
abbrev pub after_put : SinkState → Piece → SinkState
after_put sink piece = record sink { pieces = sink.pieces ++ piece ∷ []; calls = after_pass sink.calls }
