use Rattle.std.proofs.Common.{◌-◌, drop}
use Rattle.list_words.specs.Order.{Ascends}
use Rattle.fact_kinds.specs.Facts.{goes_first}
use Rattle.ldar_law.proofs.key_order.are_in_key_order.Given as goal

abbrev pub invariant-loop-place : goal.invariant-loop-place
invariant-loop-place l = Ascends goes_first (drop (l.place - 1) l.facts)
