use Rattle.std.proofs.Common.{◌≡◌, length, arith, rules}
use Rattle.batch_rules.proofs.SeenLemmas.{found_put}
use Rattle.batch_rules.proofs.touched.Touched.note.Goals as goal

pub returns-clause-value : goal.returns-clause-value
returns-clause-value c = λ number within.
    let last = c.args.self.now.last in
    let seen = c.args.self.now.seen in
    let long : length last ≡ 65_536 = search rules in
    let many : length seen ≡ 512 = search rules in
    rw c.from.ensures
    (found_put last seen c.args.index c.args.component number c.args.seen (omega (arith, many, c.requires.within)) (omega (arith, long, c.ranges.component))
    (c.requires.up_to number within))
