use Rattle.std.proofs.Common.{[], refl, arith}
use Rattle.std.proofs.lemmas.List.{take-take}
use Rattle.fact_store.proofs.PartLemmas.{turn_past, turn_pushed, room_part}
use Rattle.fact_store.proofs.index.Index.push_part.Goals as goal

pub push_places-requires-clause-first : goal.push_places-requires-clause-first
push_places-requires-clause-first c =
    rw (take-take c.max-first.result c.args.to c.args.arrived.now (omega (arith, c.if-first-to.true)), c.max-first.ensures) c.requires.turned.turned

pub push_places-requires-clause-roomy : goal.push_places-requires-clause-roomy
push_places-requires-clause-roomy c =
    let index = c.args.self.now in
    rw c.max-first.ensures
    (room_part index.naming c.args.arrived.now [] c.args.from c.args.to index (omega (arith, c.max-first.ensures, c.if-first-to.true)) c.requires.turned)

pub returns-then-first-to-clause-turned : goal.returns-then-first-to-clause-turned
returns-then-first-to-clause-turned c = λ naming spare keeps.
    turn_pushed naming c.args.arrived.now spare c.args.from c.args.to c.args.self.now _ (omega (arith, c.max-first.ensures, c.if-first-to.true))
    c.requires.within refl refl c.push_places.ensures.value (rw c.max-first.ensures at c.push_places.ensures.room) keeps

pub returns-else-first-to-clause-turned : goal.returns-else-first-to-clause-turned
returns-else-first-to-clause-turned c = λ naming spare keeps.
    turn_past naming c.args.arrived.now spare c.args.from c.args.to c.args.self.now c.requires.part
    (omega (arith, c.max-first.ensures, c.if-first-to.false)) keeps
