use Rattle.std.proofs.Common.{map, sym, ap, ◌∙◌, subst}
use Rattle.fact_store.specs.Kept.{facts_in}
use Rattle.ldar_law.specs.Reports as reports
use Rattle.ldar_law.specs.Shown.{sheet_of}
use Rattle.semiannual_report.specs.Columns.{AreOfComponents}
use Rattle.unit_summaries.specs.Known.{all_in_law}
use Rattle.office_views.specs.Sources.{facts_from}
use Rattle.office_views.proofs.UnitLemmas.{sheets_of_unit_are_distinct}
use Rattle.office_views.proofs.reports.report_on.Goals as goal

pub returns-in-Ok : goal.returns-in-Ok
returns-in-Ok c =
    let unit = c.args.unit.now in
    let source = c.args.source.now in
    let known = c.in_ok-known.known in
    let is = c.in_ok-known.ensures.value in
    let sheets = c.deref-2.ensures.value ∙ c.in_ok-sheets.ensures.value
    ∙ ap (λ cs. map sheet_of (all_in_law known.stops.now cs)) c.deref.ensures.value ∙ ap (map sheet_of) is.components in
    let ready = c.requires.ready.ready in
    let distinct = subst AreOfComponents (sym sheets)
    (sheets_of_unit_are_distinct source.day unit.unit (facts_from source) (facts_in source.register.now) ready.ordered ready.kept) in
    record {
      value = c.in-Ok.ensures.value distinct
          ∙ ap (λ ss. reports.report_on unit c.args.half source.day ss known.stops.now) sheets
          ∙ ap (reports.report_on unit c.args.half source.day _) is.stops;
    }
