use Rattle.std.proofs.Common.{refl, arith}
use Rattle.std.proofs.lemmas.Bool.{false≢true}
use Rattle.leak_tags.specs.OpenLeaks.{none_open}
use Rattle.leak_tags.proofs.WalkLemmas.{at_first}
use Rattle.leak_tags.proofs.walk.Walk.start.Goals as goal

pub returns-clause-walks : goal.returns-clause-walks
returns-clause-walks c = record {
  seen = none_open;
  at = at_first c.args.kind c.args.events.now c.requires.rising;
  has_tag = refl;
  same = λ has. absurd (false≢true has);
  next = λ k low high. absurd (omega (arith, high, c.none-2.ensures.value));
  pair = tt;
}
