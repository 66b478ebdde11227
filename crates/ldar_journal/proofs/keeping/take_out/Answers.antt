use Rattle.std.proofs.Common.{length, arith}
use Rattle.ldar_journal.proofs.KeepingLemmas.{some_left, one_less}
use Rattle.ldar_journal.proofs.keeping.take_out.Goals as goal

pub pop-requires : goal.pop-requires
pop-requires c = record {
  some = some_left c.args.positions.now.identities c.loop-left.positions.identities c.args.count c.loop-left.left c.requires.some c.loop-left.invariant.within
      (omega arith) c.loop-left.invariant.taken;
}

pub loop-left-preserved : goal.loop-left-preserved
loop-left-preserved c = record {
  within = omega (arith, c.loop-left.invariant.within);
  taken = one_less c.args.positions.now.identities c.loop-left.positions.identities c.pop.new.self.identities c.args.count c.loop-left.left c.requires.some
      c.loop-left.invariant.within (omega arith)
      c.loop-left.invariant.taken c.pop.ensures.identities;
}
