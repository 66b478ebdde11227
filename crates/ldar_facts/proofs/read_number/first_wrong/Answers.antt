use Rattle.std.proofs.Common.{◌≡◌, ℕ, suc, ◌+◌, ◌*◌, ◌-◌, ◌^◌, ◌<◌, ◌≤◌, true, false, List, length, get_or, drop, sym, ap, ◌∙◌, add-one, arith}
use Rattle.std.proofs.lemmas.List.{drop_more, drop_all, length-drop}
use Rattle.std.proofs.Math.Nat.{pow-suc, pow-le-pow_right}
use Rattle.ldar_facts.specs.declared.read_end.ReadEnd.TheVariants.{Short, Wrong}
use Rattle.ldar_facts.specs.Number.{number_from, may_be, stop_of}
use Rattle.ldar_facts.proofs.read_number.first_wrong.Goals as goal

-- the bytes end here
ends : (more i : ℕ) (ranges : List (ℕ × ℕ)) (n : ℕ) (bytes : List ℕ) → i < more → length bytes ≤ i
    → stop_of (number_from (more - i) ranges n (drop i bytes)) ≡ Short
unfolding number_from
ends more i ranges n bytes lt past =
    let is : more - i ≡ suc (more - i - 1) = omega arith in
    rw (is, drop_all i bytes past)

-- the next byte is wrong
is_wrong : (more i : ℕ) (ranges : List (ℕ × ℕ)) (n : ℕ) (bytes : List ℕ) → i < more → i < length bytes
    → may_be (more - 1 - i) ranges (n * 256 + get_or bytes i 0) ≡ false
    → stop_of (number_from (more - i) ranges n (drop i bytes)) ≡ Wrong (length bytes - i)
unfolding number_from
is_wrong more i ranges n bytes lt within h =
    let is : more - i ≡ suc (more - 1 - i) = omega arith in
    let left : suc (length (drop (i + 1) bytes)) ≡ length bytes - i = omega (arith, length-drop (i + 1) bytes) in
    rw (is, drop_more bytes i 0 within, h) (ap Wrong left)

-- the next byte is allowed
passes : (more i : ℕ) (ranges : List (ℕ × ℕ)) (n : ℕ) (bytes : List ℕ) → i < more → i < length bytes
    → may_be (more - 1 - i) ranges (n * 256 + get_or bytes i 0) ≡ true
    → number_from (more - i) ranges n (drop i bytes) ≡ number_from (more - (i + 1)) ranges (n * 256 + get_or bytes i 0) (drop (i + 1) bytes)
unfolding number_from
passes more i ranges n bytes lt within h =
    let is : more - i ≡ suc (more - 1 - i) = omega arith in
    let rest : more - (i + 1) ≡ more - 1 - i = omega arith in
    rw (is, rest, drop_more bytes i 0 within, h)

-- a bound of a number of fewer than four bytes
small : (i n : ℕ) → i < 4 → n < 256 ^ i → n < 256 ^ 3
small i n few fits = let most : 256 ^ i ≤ 256 ^ 3 = pow-le-pow_right (omega arith) {j = 3} (omega arith) in omega arith

pub returns-then-i-bytes : goal.returns-then-i-bytes
returns-then-i-bytes c = sym (ends c.args.width c.loop-i.i c.args.ranges.now c.loop-i.number c.args.bytes.now (omega arith) (omega arith))
    ∙ c.loop-i.invariant.same

pub overflow_mul-number : goal.overflow_mul-number
overflow_mul-number c = omega (arith, small c.loop-i.i c.loop-i.number (omega arith) c.loop-i.invariant.fits)

pub returns-then-not-may_begin : goal.returns-then-not-may_begin
returns-then-not-may_begin c =
    let stops : may_be (c.args.width - 1 - c.loop-i.i) c.args.ranges.now (c.loop-i.number * 256 + get_or c.args.bytes.now c.loop-i.i 0) ≡ false =
    rw (← c.from.ensures) cc in
    sym (is_wrong c.args.width c.loop-i.i c.args.ranges.now c.loop-i.number c.args.bytes.now (omega arith) (omega arith) stops) ∙ c.loop-i.invariant.same

pub loop-i-preserved : goal.loop-i-preserved
loop-i-preserved c =
    let goes_on : may_be (c.args.width - 1 - c.loop-i.i) c.args.ranges.now (c.loop-i.number * 256 + get_or c.args.bytes.now c.loop-i.i 0) ≡ true =
    rw (← c.from.ensures) cc in
    let step = passes c.args.width c.loop-i.i c.args.ranges.now c.loop-i.number c.args.bytes.now (omega arith) (omega arith) goes_on in
    record {
      fits = rw (add-one, pow-suc) (omega (arith, c.loop-i.invariant.fits, c.type_inv.bytes c.loop-i.i));
      same = rw c.from.ensures (ap stop_of (sym step) ∙ c.loop-i.invariant.same);
    }

pub returns : goal.returns
unfolding number_from
returns c =
    let is : c.args.width - c.loop-i.i ≡ 0 = omega arith in
    rw is at c.loop-i.invariant.same
