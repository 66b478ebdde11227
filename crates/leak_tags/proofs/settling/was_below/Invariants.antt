use Rattle.std.proofs.Common.{◌≡◌, ◌&&◌, ◌+◌, not, nat_eq, take, drop}
use Rattle.std.specs.List.{list_any}
use Rattle.list_words.specs.Words.{somewhere_from}
use Rattle.ldar_days.specs.Calendar.{month_of}
use Rattle.ldar_law.specs.Happenings.{is_below, is_leak}
use Rattle.ldar_law.specs.Settling as law
use Rattle.leak_tags.proofs.settling.was_below.Given as goal

abbrev pub invariant-loop-place : goal.invariant-loop-place
invariant-loop-place l =
    law.was_below l.between l.later
    ≡ somewhere_from (λ _ reading after. is_below reading.what
    && nat_eq (month_of reading.key.day + 1) (month_of l.later.key.day)
    && not (list_any (λ x. is_leak x.what) after)) (take l.place l.between) (drop l.place l.between)
