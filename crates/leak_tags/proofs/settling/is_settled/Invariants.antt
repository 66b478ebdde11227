use Rattle.std.proofs.Common.{◌≡◌, take, drop}
use Rattle.list_words.specs.Words.{somewhere_from}
use Rattle.ldar_law.specs.Settling as law
use Rattle.leak_tags.proofs.settling.is_settled.Given as goal

abbrev pub invariant-loop-place : goal.invariant-loop-place
invariant-loop-place l =
    law.is_settled l.kind l.leak l.after
    ≡ somewhere_from (λ between later _. law.settles l.kind l.leak between later) (take l.place l.after) (drop l.place l.after)
