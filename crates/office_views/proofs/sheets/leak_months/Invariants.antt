use Rattle.std.proofs.Common.{◌≡◌, take, filter, map}
use Rattle.ldar_days.specs.Calendar.{month_of}
use Rattle.ldar_law.specs.Happenings as happenings
use Rattle.office_views.proofs.sheets.leak_months.Given as goal

abbrev pub invariant-loop-e : goal.invariant-loop-e
invariant-loop-e l = l.months.items ≡ map (λ e. month_of e.key.day) (filter (λ e. happenings.is_leak e.what) (take l.e-index l.events))
