use Rattle.fact_store.specs.Kept.{facts_in}
use Rattle.unit_summaries.proofs.SoundLemmas.{still_renewed}
use Rattle.office_views.proofs.totals.totals_anew.Goals as goal

pub totals_on-requires-clause-ready : goal.totals_on-requires-clause-ready
totals_on-requires-clause-ready g c = record {
  ready = record { ordered = c.requires.ready.ordered; kept = c.requires.ready.kept; sound = c.tallies_due.ensures.sound };
  renewed = still_renewed (facts_in c.args.store.now) c.args.unit.now.unit c.renew.new.self c.tallies_due.new.summaries
      c.tallies_due.ensures.components c.tallies_due.ensures.units c.in_ok-renew.ensures.renewed;
}
