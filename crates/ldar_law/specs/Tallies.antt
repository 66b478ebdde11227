-- The counts of a quarter with one more valve (40 CFR 60.485a(h)).
use Rattle.std.specs.Prelude.{◌+◌, if◌then◌else◌}
use Rattle.ldar_law.specs.declared.tally.Mark.{Mark}
use Rattle.ldar_law.specs.declared.tally.Tally.{Tally}

-- the counts with one more valve (40 CFR 60.485a(h))
abbrev pub with_mark : Tally → Mark → Tally
with_mark tally mark = record {
  leaking = tally.leaking + (if mark.leaking then 1 else 0);
  monitored = tally.monitored + (if mark.monitored then 1 else 0);
}
