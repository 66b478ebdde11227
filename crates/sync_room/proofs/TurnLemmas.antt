-- A call of an office with one request is one turn, without a gap to the moment before it.
use Rattle.std.proofs.Common.{◌≡◌, ◌≤◌, List, [], ◌∷◌, map, refl}
use Rattle.ldar_law.specs.declared.reply.Reply.{Reply}
use Rattle.ldar_law.specs.declared.request.Request.{Request}
use Rattle.ldar_law.specs.Machine.{Call, GroupStep, Moment, Runs, Turn}
use Rattle.office_book.proofs.Restamped.{restamps}
use Rattle.office_interface.specs.Asking.{requests_of, replies_of}
use Rattle.office_book.specs.Restamps.{restamped}
use Rattle.sync_room.specs.Turns.{Replies}

-- a group with one request and one reply is one turn, up to a later moment in the same state
group_replies : (start end last : Moment) (turns : List Turn) (request : Request) (reply : Reply) → GroupStep start turns end
    → last.state ≡ end.state → end.faults ≤ last.faults → end.clock ≤ last.clock
    → map (λ turn. turn.request) turns ≡ request ∷ [] → map (λ turn. turn.reply) turns ≡ reply ∷ [] → Replies start request reply last
group_replies start end last [] request reply step state faults clock asked answered = absurd (cc asked)
group_replies start end last (turn ∷ []) request reply step state faults clock asked answered = record {
  turn = restamped turn start.faults last.faults last.clock;
  asked = cc asked;
  answered = cc answered;
  is = record { step = restamps start end last turn step state faults clock; before = refl };
}
group_replies start end last (turn ∷ next ∷ turns) request reply step state faults clock asked answered = absurd (cc asked)

-- a call with one request and one reply is one turn, up to a later moment in the same state
pub call_replies : (start last : Moment) (call : Call) (request : Request) (reply : Reply) → Runs start (call ∷ []) last
    → requests_of call ≡ request ∷ [] → replies_of call ≡ reply ∷ [] → Replies start request reply last
call_replies start last call request reply runs asked answered =
    group_replies start call.end last call.turns request reply runs.0 runs.1.0 runs.1.1 runs.1.2 asked answered
