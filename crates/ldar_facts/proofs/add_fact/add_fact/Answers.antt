use Rattle.std.proofs.Common.{rules}
use Rattle.ldar_facts.specs.FactForms as forms
use Rattle.ldar_facts.proofs.add_fact.add_fact.Goals as goal

pub push-requires-clause-says : goal.push-requires-clause-says
unfolding forms.body
push-requires-clause-says c = rw c.in-1.is c.unit_at.ensures

pub push-requires-in-2-clause-says : goal.push-requires-in-2-clause-says
unfolding forms.body
push-requires-in-2-clause-says c = rw c.in-2.is c.component_at.ensures

pub push-requires-in-3-clause-says : goal.push-requires-in-3-clause-says
unfolding forms.body
push-requires-in-3-clause-says c = rw c.in-3.is c.class_fact_at.ensures

pub push-requires-in-4-clause-says : goal.push-requires-in-4-clause-says
unfolding forms.body
push-requires-in-4-clause-says c = rw c.in-4.is c.retire_at.ensures

pub push-requires-in-5-clause-says : goal.push-requires-in-5-clause-says
unfolding forms.body
push-requires-in-5-clause-says c = rw c.in-5.is c.election_at.ensures

pub push-requires-in-6-clause-says : goal.push-requires-in-6-clause-says
unfolding forms.body
push-requires-in-6-clause-says c = rw c.in-6.is c.shutdown_at.ensures

pub push-requires-in-7-clause-says : goal.push-requires-in-7-clause-says
unfolding forms.body
push-requires-in-7-clause-says c = rw c.in-7.is c.calibration_at.ensures

pub push-requires-in-8-clause-says : goal.push-requires-in-8-clause-says
unfolding forms.body
push-requires-in-8-clause-says c = rw c.in-8.is c.precision_at.ensures

pub push-requires-in-9-clause-says : goal.push-requires-in-9-clause-says
unfolding forms.body
push-requires-in-9-clause-says c = rw c.in-9.is c.drift_at.ensures

pub push-requires-in-10-clause-says : goal.push-requires-in-10-clause-says
unfolding forms.body
push-requires-in-10-clause-says c = rw c.in-10.is c.reading_at.ensures

pub push-requires-in-11-clause-says : goal.push-requires-in-11-clause-says
unfolding forms.body
push-requires-in-11-clause-says c = rw c.in-11.is c.visual_at.ensures

pub push-requires-in-12-clause-says : goal.push-requires-in-12-clause-says
unfolding forms.body
push-requires-in-12-clause-says c = rw c.in-12.is c.attempt_at.ensures

pub push-requires-in-13-clause-says : goal.push-requires-in-13-clause-says
unfolding forms.body
push-requires-in-13-clause-says c = rw c.in-13.is c.delay_at.ensures

pub push-requires-in-14-clause-says : goal.push-requires-in-14-clause-says
unfolding forms.body
push-requires-in-14-clause-says c = rw c.in-14.is c.release_at.ensures

pub push-requires-in_default-clause-says : goal.push-requires-in_default-clause-says
unfolding forms.body
push-requires-in_default-clause-says c = search rules
