use Rattle.std.proofs.Common.{◌≡◌, ℕ, ◌+◌, ◌-◌, ◌<◌, length, take, map, get_or, sym, ap, ◌∙◌, arith, length-take-le}
use Rattle.std.proofs.lemmas.Result.{IfOk-weaker}
use Rattle.list_words.specs.Ranges.{from_to}
use Rattle.ldar_law.specs.declared.tally.Tally.{Tally}
use Rattle.ldar_law.specs.Shown.{quarter_text}
use Rattle.ldar_law.specs.Skips.{is_skipped}
use Rattle.ldar_law.specs.Texts.{percent_text}
use Rattle.ldar_law.specs.Units.{components_of, tally_in}
use Rattle.unit_summaries.proofs.ListLemmas.{number_at, number_front, numbers_long}
use Rattle.office_views.specs.Sources.{facts_by}
use Rattle.office_views.proofs.AnswerLemmas.{quarter_is}
use Rattle.office_views.proofs.shares.quarter_text.Goals as goal

pub tally_at-tally-requires : goal.tally_at-tally-requires
tally_at-tally-requires c =
    let source = c.args.source.now in
    let unit = c.args.unit.now in
    let own : ℕ → Tally = tally_in unit.startup source.day (components_of unit.unit (facts_by source)) in
    let long = ap length c.requires.tallies ∙ numbers_long own c.args.quarter in
    record { within = omega (arith, c.from-past.ensures, c.requires.quarter, long) }

pub slice_bounds-skipped-end : goal.slice_bounds-skipped-end
slice_bounds-skipped-end c =
    let source = c.args.source.now in
    let unit = c.args.unit.now in
    let own : ℕ → Tally = tally_in unit.startup source.day (components_of unit.unit (facts_by source)) in
    let long = ap length c.requires.tallies ∙ numbers_long own c.args.quarter in
    sym (length-take-le c.from-past.result c.args.tallies.now (omega (arith, c.from-past.ensures, c.requires.quarter, long)))

pub skipped-is_skipped-requires-clause-tallies : goal.skipped-is_skipped-requires-clause-tallies
skipped-is_skipped-requires-clause-tallies c =
    let source = c.args.source.now in
    let unit = c.args.unit.now in
    let own : ℕ → Tally = tally_in unit.startup source.day (components_of unit.unit (facts_by source)) in
    let long = ap length c.requires.tallies ∙ numbers_long own c.args.quarter in
    let front = length-take-le c.from-past.result c.args.tallies.now (omega (arith, c.from-past.ensures, c.requires.quarter, long)) in
    omega (arith, c.from-past.ensures, front)

pub returns : goal.returns
returns c =
    let source = c.args.source.now in
    let unit = c.args.unit.now in
    let facts = facts_by source in
    let quarter = c.args.quarter in
    let elections = c.elections_on-elections.result.now in
    let own : ℕ → Tally = tally_in unit.startup source.day (components_of unit.unit facts) in
    let tally = c.tally_at-tally.result in
    let past = c.from-past.result in
    let before : quarter - 1 < quarter = omega (arith, c.requires.quarter) in
    let again : quarter - 1 + 1 ≡ quarter = omega (arith, c.requires.quarter) in
    let tally_is = c.tally_at-tally.ensures.value ∙ ap (λ ts. get_or ts past tally) c.requires.tallies
    ∙ ap (λ k. get_or (map own (from_to 1 quarter)) k tally) c.from-past.ensures ∙ number_at own quarter (quarter - 1) tally before ∙ ap own again in
    let front = ap (take past) c.requires.tallies
    ∙ ap (λ k. take k (map own (from_to 1 quarter))) c.from-past.ensures ∙ number_front own quarter c.requires.quarter in
    let skipped = c.skipped-is_skipped.ensures.value ∙ ap (λ ts. is_skipped ts elections unit.startup quarter) front
    ∙ ap (λ es. is_skipped (map own (from_to 1 (quarter - 1))) es unit.startup quarter) c.elections_on-elections.ensures.value in
    let same = quarter_is unit quarter source.day facts c.from.result tally c.is_good.result c.skipped-is_skipped.result c.from.ensures tally_is
    c.is_good.ensures.value skipped in
    record {
      value = IfOk-weaker c.percent_text.result
          (λ text. text ≡ percent_text c.from.result quarter tally c.is_good.result c.skipped-is_skipped.result)
          (λ text. text ≡ quarter_text unit quarter source.day facts) (λ text is. is ∙ same) c.percent_text.ensures.value;
    }
