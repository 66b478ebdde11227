use Rattle.std.proofs.Common.{length, arith, sym, ◌∙◌}
use Rattle.std.proofs.lemmas.Bool.{eqb-true, eqb-false, false≢true}
use Rattle.ldar_facts.specs.Form.{IsBytes}
use Rattle.office_mirror.proofs.HeadLemmas.{none_begin, wrong_letter, few_begin, wrong_count}
use Rattle.office_mirror.proofs.head.read_head.Goals as goal

pub returns-then-is_empty : goal.returns-then-is_empty
returns-then-is_empty c =
    none_begin c.args.bytes.now (eqb-true (length c.args.bytes.now) 0 (sym c.is_empty.ensures ∙ c.if-is_empty.true))

pub returns-then-bytes-ne-LETTER : goal.returns-then-bytes-ne-LETTER
returns-then-bytes-ne-LETTER c =
    wrong_letter c.args.bytes.now (eqb-false (length c.args.bytes.now) 0 (sym c.is_empty.ensures ∙ c.if-is_empty.false)) c.if-bytes-ne-LETTER.true

pub returns-then-bytes-lt6 : goal.returns-then-bytes-lt6
returns-then-bytes-lt6 c =
    let are : IsBytes c.args.bytes.now = λ i. omega (arith, c.type_inv.bytes i) in
    few_begin c.args.bytes.now are (eqb-false (length c.args.bytes.now) 0 (sym c.is_empty.ensures ∙ c.if-is_empty.false)) c.if-bytes-ne-LETTER.false
    c.if-bytes-lt6.true

pub returns-then-not-may_count : goal.returns-then-not-may_count
returns-then-not-may_count c =
    let are : IsBytes c.args.bytes.now = λ i. omega (arith, c.type_inv.bytes i) in
    wrong_count c.args.bytes.now are c.if-bytes-ne-LETTER.false c.if-bytes-lt6.false
    (λ among. false≢true (sym c.if-not-may_count.true ∙ c.may_count.ensures.value.1 among))
