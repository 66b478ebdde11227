use Rattle.std.proofs.Common.{◌≡◌, ◌∷◌, [], ◌++◌, sym, subst, arith}
use Rattle.report_filing.specs.Revisions.{AreNumbered, IsNext}
use Rattle.report_filing.proofs.RevisionLemmas.{numbered_put}
use Rattle.report_filing.proofs.map_filing.MapFiling.keep.Goals as goal

pub invariant_of-self-2 : goal.invariant_of-self-2
invariant_of-self-2 c =
    let pushed : c.push.new.self.items ≡ c.self.inside.all.items ++ c.args.filed.now ∷ [] =
    grind (arith, c.in_ok-push.ensures.items, c.in_ok-copy.ensures.value) in
    let same : c.args.self.now ≡ c.self.inside.all.items = grind (arith, c.self.view_is) in
    let next = subst (IsNext c.args.filed.now) same c.requires.next in
    subst AreNumbered (sym pushed) (numbered_put c.self.inside.all.items c.args.filed.now c.self.invariant next)
