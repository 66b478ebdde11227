use Rattle.ldar_facts.proofs.Spelling.{last}
use Rattle.ldar_facts.proofs.write_body.put_assessment.Goals as goal

pub returns : goal.returns
returns c = last _ _ _ _ _ c.put_readings.result c.in_ok-put_known.ensures c.put_readings.ensures
