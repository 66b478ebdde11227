use Rattle.ldar_law.proofs.EventDuties.{event_duties_follow_events}
use Rattle.ldar_law.proofs.laws.duties.event_duties_follow_events.Goals as goal

pub returns : goal.returns
returns c = record { law = event_duties_follow_events }
