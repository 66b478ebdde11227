use Rattle.std.proofs.Common.{◌≡◌, ◌&&◌, not, take, drop}
use Rattle.std.specs.List.{list_any}
use Rattle.list_words.specs.Words.{somewhere_from}
use Rattle.ldar_law.specs.Happenings.{is_attempt, is_leak}
use Rattle.ldar_law.specs.Settling as law
use Rattle.leak_tags.proofs.settling.is_attempted.Given as goal

abbrev pub invariant-loop-place : goal.invariant-loop-place
invariant-loop-place l =
    law.is_attempted l.between
    ≡ somewhere_from (λ _ attempt after. is_attempt attempt.what && not (list_any (λ x. is_leak x.what) after)) (take l.place l.between)
    (drop l.place l.between)
