use Rattle.std.proofs.Common.{ap, ◌∙◌, arith}
use Rattle.std.proofs.lemmas.List.{take_all}
use Rattle.fact_kinds.specs.Facts.{entries_from}
use Rattle.fact_store.specs.Kept.{facts_in}
use Rattle.ldar_law.specs.Judged.{register_with}
use Rattle.batch_rules.specs.Known.{batch_of}
use Rattle.batch_rules.specs.Shares.{share_in}
use Rattle.batch_rules.proofs.valves.share_known.Goals as goal

pub returns-clause-value : goal.returns-clause-value
returns-clause-value c =
    let known = c.args.known.now in
    c.loop-index.invariant.so_far
    ∙ ap (λ es. share_in c.args.unit c.args.day (register_with (facts_in known.register.now) (entries_from (batch_of known) 0 es)))
    (take_all c.loop-index.index known.front.now (omega (arith, c.loop-index-test.false)))
