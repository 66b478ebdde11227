use Rattle.ldar_session.proofs.RequestLemmas.{none_after}
use Rattle.ldar_session.proofs.requests.ends_after.Goals as goal

-- no empty line was found after those searched
pub returns-in_default : goal.returns-in_default
returns-in_default c = record {
  none = λ _. none_after c.args.bytes.now c.after.result.now c.args.searched c.after.ensures c.requires.within c.requires.none c.in_default.ensures;
}
