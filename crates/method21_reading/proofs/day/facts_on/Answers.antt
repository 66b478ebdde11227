use Rattle.std.proofs.Common.{◌≡◌, ◌-◌, ◌≤◌, nat_le, true, false, length, take, drop, sym, ap, subst, ◌∙◌, arith}
use Rattle.std.specs.List.Sorted.{IsPartitionPoint}
use Rattle.std.proofs.lemmas.List.{take_all, length-drop}
use Rattle.list_words.specs.Order.{Ascends}
use Rattle.fact_kinds.specs.Facts.{goes_first}
use Rattle.method21_reading.proofs.ApartLemmas.{day_part}
use Rattle.method21_reading.proofs.FrontLemmas.{ascends_drop}
use Rattle.method21_reading.proofs.day.facts_on.Goals as goal

pub count_to-count-requires : goal.count_to-count-requires
count_to-count-requires c =
    let facts = c.args.facts.now in
    let from = c.count_before-from in
    let same : take (length facts - from.result) (drop from.result facts) ≡ drop from.result facts = take_all (length facts - from.result)
    (drop from.result facts) (omega (arith, length-drop from.result facts)) in
    record { ordered = subst (Ascends goes_first) (sym same) (ascends_drop goes_first from.result facts c.requires.ordered) }

pub returns : goal.returns
returns c =
    let facts = c.args.facts.now in
    let day = c.args.day in
    let from = c.count_before-from in
    let count = c.count_to-count in
    let rest = take (length facts - from.result) (drop from.result facts) in
    let same : rest ≡ drop from.result facts = take_all (length facts - from.result) (drop from.result facts) (omega
    (arith, length-drop from.result facts)) in
    let here = subst (λ es. IsPartitionPoint (λ e. nat_le e.0.day day ≡ true) (λ e. nat_le e.0.day day ≡ false) es count.result)
    same count.ensures.partitioned in
    let within : count.result ≤ length (drop from.result facts) = subst (λ es. count.result ≤ length es) same count.ensures.bound in
    record { value = ap (take count.result) same ∙ day_part facts day from.result count.result from.ensures.bound within from.ensures.partitioned here }
