use Rattle.ldar_law.proofs.ReportLemmas.{months_past_are_zero}
use Rattle.ldar_law.proofs.laws.reports.months_past_are_zero.Goals as goal

pub returns : goal.returns
returns c = record { law = months_past_are_zero }
