use Rattle.std.proofs.Common.{Err}
use Rattle.std.proofs.lemmas.Result.{err_from_is_err_and}
use Rattle.fact_store.specs.Kept.{facts_in}
use Rattle.history_laws.specs.DayLaws.{up_to}
use Rattle.ldar_law.specs.Shown.{view_day}
use Rattle.unit_summaries.proofs.SoundLemmas.{still_renewed}
use Rattle.office_views.proofs.AskedLemmas.{unit_is_shown, whole_shown}
use Rattle.office_views.proofs.asking.text_anew.Goals as goal

pub returns-in_err-renew-clause-value : goal.returns-in_err-renew-clause-value
returns-in_err-renew-clause-value g c =
    let request = c.args.request.now in
    let entry = c.args.entry.now in
    let facts = up_to (view_day request) (facts_in c.args.store.now) in
    let p = err_from_is_err_and c.from_residual.result c.from_residual.ensures.1 in
    rw p.1
    (unit_is_shown request facts c.requires.view entry (Err p.0) c.requires.entered
    (whole_shown request facts entry c.requires.view c.requires.whole.nothing_lacked))

pub returns-in_err-tallies-clause-value : goal.returns-in_err-tallies-clause-value
returns-in_err-tallies-clause-value g c =
    let request = c.args.request.now in
    let entry = c.args.entry.now in
    let facts = up_to (view_day request) (facts_in c.args.store.now) in
    let p = err_from_is_err_and c.from_residual-in_err-tallies.result c.from_residual-in_err-tallies.ensures.1 in
    rw p.1
    (unit_is_shown request facts c.requires.view entry (Err p.0) c.requires.entered
    (whole_shown request facts entry c.requires.view c.requires.whole.nothing_lacked))

pub answer-requires-clause-ready : goal.answer-requires-clause-ready
answer-requires-clause-ready g c = record {
  ready = record { ordered = c.requires.ready.ordered; kept = c.requires.ready.kept; sound = c.tallies_shown.ensures.sound };
  renewed = still_renewed (facts_in c.args.store.now) c.args.entry.now.unit c.renew.new.self c.tallies_shown.new.summaries
      c.tallies_shown.ensures.components c.tallies_shown.ensures.units c.in_ok-renew.ensures.renewed;
}

pub returns-clause-sound : goal.returns-clause-sound
returns-clause-sound g c =
    c.answer-2.ensures.sound (facts_in c.args.store.now) c.args.store.now.arrived c.requires.facts
    (still_renewed (facts_in c.args.store.now) c.args.entry.now.unit c.renew.new.self c.tallies_shown.new.summaries
    c.tallies_shown.ensures.components c.tallies_shown.ensures.units c.in_ok-renew.ensures.renewed) c.tallies_shown.ensures.sound
