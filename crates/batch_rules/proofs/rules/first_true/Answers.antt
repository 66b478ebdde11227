use Rattle.std.proofs.Common.{◌<◌, length, refl, sym, ◌∙◌, arith}
use Rattle.std.proofs.lemmas.List.{drop_all}
use Rattle.batch_rules.specs.Table.{first_true}
use Rattle.batch_rules.proofs.TableLemmas.{first_from_place}
use Rattle.batch_rules.proofs.rules.first_true.Goals as goal

pub returns-then-denies : goal.returns-then-denies
unfolding first_true
returns-then-denies c =
    let within : c.loop-index.index < length c.args.findings.now = omega (arith, c.told-findings, c.loop-index-test.true) in
    record { value = sym (c.loop-index.invariant ∙ first_from_place c.args.findings.now c.loop-index.index within ∙ rw c.if-denies.true refl) }

pub loop-index-preserved : goal.loop-index-preserved
loop-index-preserved c =
    let within : c.loop-index.index < length c.args.findings.now = omega (arith, c.told-findings, c.loop-index-test.true) in
    c.loop-index.invariant ∙ first_from_place c.args.findings.now c.loop-index.index within ∙ rw c.if-denies.false refl

pub returns : goal.returns
unfolding first_true
returns c = record {
  value = sym (c.loop-index.invariant
      ∙ rw (drop_all c.loop-index.index c.args.findings.now (omega (arith, c.told-findings, c.loop-index-test.false))) refl);
}
