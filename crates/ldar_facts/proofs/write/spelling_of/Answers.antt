use Rattle.std.proofs.Common.{◌≡◌, ◌<◌, ◌≤◌, length, get_or, subst, ap, arith}
use Rattle.ldar_facts.specs.Grammar.{spelled}
use Rattle.ldar_facts.proofs.Spelling.{head_fields, head_written, one_more, all_written}
use Rattle.ldar_facts.proofs.write.spelling_of.Goals as goal

pub loop-fact-init : goal.loop-fact-init
loop-fact-init c =
    let count : length c.as_slice-facts.result.now ≡ length c.args.batch.now.facts = ap length c.as_slice-facts.ensures.value in
    let items : c.put_two_bytes-2.new.out.items ≡ spelled (head_fields c.args.batch.now)
    = rw (
      c.in_ok-put_two_bytes-2.ensures,
      c.in_ok-put_four_bytes.ensures,
      c.in_ok-put_two_bytes.ensures,
      c.in_ok-put_byte.ensures,
      c.in_ok-out.ensures.items,
      count,
    ) in
    head_written c.args.batch.now c.put_two_bytes-2.new.out.items items

pub loop-fact-preserved : goal.loop-fact-preserved
loop-fact-preserved c =
    let facts = c.as_slice-facts.ensures.value in
    let lt : c.loop-fact.fact-index < length c.args.batch.now.facts = omega (arith, ap length facts) in
    let item : c.fact-item.result ≡ get_or c.args.batch.now.facts c.loop-fact.fact-index c.fact-item.result =
    subst (λ l. c.fact-item.result ≡ get_or l c.loop-fact.fact-index c.fact-item.result) facts c.fact-item.is in
    one_more c.args.batch.now c.loop-fact.fact-index c.loop-fact.out.items c.put_fact.new.out.items c.fact-item.result c.loop-fact.invariant lt item
    c.put_fact.ensures.in_range c.in_ok-put_fact.ensures.value

pub returns : goal.returns
returns c =
    let count : length c.as_slice-facts.result.now ≡ length c.args.batch.now.facts = ap length c.as_slice-facts.ensures.value in
    let handheld : c.args.batch.now.handheld ≤ 65_535 = omega arith in
    let number : c.args.batch.now.number ≤ 4_294_967_295 = omega arith in
    let range = c.as_slice-facts.ensures.in_range in
    record {
      value = all_written c.args.batch.now c.loop-fact.fact-index c.loop-fact.out.items c.loop-fact.invariant (omega arith) (omega (arith, range.0))
          (omega (arith, range.1)) handheld number;
    }
