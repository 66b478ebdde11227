use Rattle.std.proofs.Common.{◌≡◌, ◌&&◌, not, take, drop}
use Rattle.list_words.specs.Words.{somewhere_from}
use Rattle.ldar_law.specs.Happenings.{is_leak}
use Rattle.ldar_law.specs.Settling as law
use Rattle.leak_tags.proofs.settling.is_unsettled.Given as goal

abbrev pub invariant-loop-place : goal.invariant-loop-place
invariant-loop-place l =
    law.is_unsettled l.kind l.events
    ≡ somewhere_from (λ _ leak after. is_leak leak.what && not (law.is_settled l.kind leak after)) (take l.place l.events) (drop l.place l.events)
