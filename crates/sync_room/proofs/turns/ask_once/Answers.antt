use Rattle.sync_room.proofs.TurnLemmas.{call_replies}
use Rattle.sync_room.proofs.turns.ask_once.Goals as goal

pub returns-clause-turn : goal.returns-clause-turn
returns-clause-turn g c =
    let value = c.ask.ensures.value in
    call_replies _ _ value.0 _ _ value.1.runs value.2 value.3
