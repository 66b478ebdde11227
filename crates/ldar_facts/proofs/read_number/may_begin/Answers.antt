use Rattle.std.proofs.Common.{ℕ, ◌+◌, ◌*◌, ◌^◌, ◌<◌, ◌≤◌, arith}
use Rattle.std.proofs.lemmas.Nat.{mul-lt}
use Rattle.std.proofs.Math.Nat.{one-le-pow, pow-le-pow_right}
use Rattle.ldar_facts.proofs.read_number.may_begin.Goals as goal

-- bounds of a power of 256 with fewer than four bytes to come
small : (more : ℕ) → more < 4 → (1 ≤ 256 ^ more) × (256 ^ more ≤ 256 ^ 3)
small more few = (one-le-pow more 256 (omega arith), pow-le-pow_right (omega arith) {j = 3} (omega arith))

-- a number of four bytes times that power does not overflow
product : (n p : ℕ) → n < 2 ^ 32 → p ≤ 256 ^ 3 → n * p < 2 ^ 57
product n p fits le = omega (arith, mul-lt n p (2 ^ 32) (256 ^ 3 + 1) fits (omega arith))

pub pow-span-requires : goal.pow-span-requires
pow-span-requires c = let s = small c.args.more c.requires.few in omega arith

pub overflow_mul-least : goal.overflow_mul-least
overflow_mul-least c =
    let s = small c.args.more c.requires.few in
    omega (arith, product c.args.number c.pow-span.result c.requires.fits (omega arith))

pub overflow_sub-most : goal.overflow_sub-most
overflow_sub-most c = let s = small c.args.more c.requires.few in omega arith

pub overflow_add-most : goal.overflow_add-most
overflow_add-most c =
    let s = small c.args.more c.requires.few in
    omega (arith, product c.args.number c.pow-span.result c.requires.fits (omega arith))
