use Rattle.std.proofs.Common.{◌≡◌, ℕ, ◌<◌, List, [], ◌∷◌, length, get_or, arith}
use Rattle.ldar_facts.proofs.NumberSteps.{value_from}
use Rattle.ldar_facts.proofs.Digits.{whole, none, early, front_2}
use Rattle.ldar_facts.proofs.read_number.two_bytes.Goals as goal

pub returns-then-bytes-lt2 : goal.returns-then-bytes-lt2
returns-then-bytes-lt2 c =
    let lt : length c.args.bytes.now < 2 = omega arith in
    rw c.first_wrong.ensures (early 2 c.args.bytes.now c.args.ranges.now lt)

pub returns-then-not-is_among : goal.returns-then-not-is_among
returns-then-not-is_among c =
    let front = c.split_at.result.0.now in
    let splits = front_2 c.args.bytes.now front c.split_at.result.1.now (omega arith) c.split_at.ensures.front c.split_at.ensures.back in
    let digits : List ℕ = get_or front 1 0 ∷ [] in
    let is : value_from 0 (get_or front 0 0 ∷ digits) ≡ c.from_be_bytes-number.result = omega arith in
    rw c.first_wrong-then-not-is_among.ensures
    (none (get_or front 0 0) digits c.split_at.result.1.now c.args.bytes.now c.args.ranges.now (c.from_be_bytes-number.result) splits is cc)

pub returns : goal.returns
returns c =
    let front = c.split_at.result.0.now in
    let splits = front_2 c.args.bytes.now front c.split_at.result.1.now (omega arith) c.split_at.ensures.front c.split_at.ensures.back in
    let digits : List ℕ = get_or front 0 0 ∷ get_or front 1 0 ∷ [] in
    let is : value_from 0 digits ≡ c.from_be_bytes-number.result = omega arith in
    whole digits c.split_at.result.1.now c.args.bytes.now c.args.ranges.now (c.from_be_bytes-number.result)
    (λ i. omega (arith, c.type_inv.bytes i)) splits is cc
