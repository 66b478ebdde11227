use Rattle.std.proofs.Common.{◌≡◌, false, arith, tests, rules}
use Rattle.ldar_session.proofs.RequestLemmas.{no_head_yet}
use Rattle.ldar_session.proofs.requests.known_of.Goals as goal

-- a few bytes have no empty line
pub returns-then-not-ends_after : goal.returns-then-not-ends_after
returns-then-not-ends_after c =
    let none : c.ends_after.result ≡ false = search (tests, rules) in
    record { value = no_head_yet c.args.bytes.now (omega (arith, c.if-bytes-lt-LONGEST_HEAD.true)) (c.ends_after.ensures.none none) }
