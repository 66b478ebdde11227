use Rattle.std.proofs.Common.{◌≡◌, ◌≢◌, ℕ, ◌<◌, List, [], ◌∷◌, length, get_or, sym, ◌∙◌, arith}
use Rattle.std.proofs.lemmas.Bool.{eqb-true, eqb-false}
use Rattle.ldar_facts.proofs.NumberSteps.{value_from}
use Rattle.ldar_facts.proofs.Digits.{whole, none, early, front_1}
use Rattle.ldar_facts.proofs.read_number.byte.Goals as goal

pub returns-then-is_empty : goal.returns-then-is_empty
returns-then-is_empty c =
    let none = eqb-true (length c.args.bytes.now) 0 (sym c.is_empty.ensures ∙ c.if-is_empty.true) in
    let lt : length c.args.bytes.now < 1 = omega arith in
    rw c.first_wrong.ensures (early 1 c.args.bytes.now c.args.ranges.now lt)

pub returns-then-not-is_among : goal.returns-then-not-is_among
returns-then-not-is_among c =
    let front = c.split_at.result.0.now in
    let some : length c.args.bytes.now ≢ 0 = eqb-false (length c.args.bytes.now) 0 (sym c.is_empty.ensures ∙ c.if-is_empty.false) in
    let splits = front_1 c.args.bytes.now front c.split_at.result.1.now (omega arith) c.split_at.ensures.front c.split_at.ensures.back in
    let digits : List ℕ = [] in
    let is : value_from 0 (get_or front 0 0 ∷ digits) ≡ get_or front 0 0 = omega arith in
    rw c.first_wrong-then-not-is_among.ensures
    (none (get_or front 0 0) digits c.split_at.result.1.now c.args.bytes.now c.args.ranges.now (get_or front 0 0) splits is cc)

pub returns : goal.returns
returns c =
    let front = c.split_at.result.0.now in
    let some : length c.args.bytes.now ≢ 0 = eqb-false (length c.args.bytes.now) 0 (sym c.is_empty.ensures ∙ c.if-is_empty.false) in
    let splits = front_1 c.args.bytes.now front c.split_at.result.1.now (omega arith) c.split_at.ensures.front c.split_at.ensures.back in
    let digits : List ℕ = get_or front 0 0 ∷ [] in
    let is : value_from 0 digits ≡ get_or front 0 0 = omega arith in
    whole digits c.split_at.result.1.now c.args.bytes.now c.args.ranges.now (get_or front 0 0) (λ i. omega (arith, c.type_inv.bytes i)) splits is cc
