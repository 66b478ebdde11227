use Rattle.std.proofs.Common.{[], ◌∷◌, ◌++◌, take, refl, arith, rules, tests}
use Rattle.std.proofs.lemmas.List.Elements.{All-push}
use Rattle.ldar_ports.specs.Sink.{IsStamped, piece_of}
use Rattle.ldar_ports.proofs.PutsLemmas.{puts_more, rest_more, front_has_some}
use Rattle.ldar_ports.proofs.sink.put_all.Goals as goal

pub loop-rest-preserved : goal.loop-rest-preserved
loop-rest-preserved g c =
    let so_far = c.loop-rest.invariant.0 in
    let rest = c.loop-rest.rest.now in
    let clock = g.D.Disk.clock c.args.beside.now in
    let piece = piece_of (take c.in_ok-n.n rest) clock in
    let call = c.in_ok-n.ensures in
    let some = front_has_some c.in_ok-n.n rest call.within (call.at_least_one (search (tests, rules))) in (
      (
        so_far.0 ++ piece ∷ [],
        puts_more _ _ _ so_far.0 (piece ∷ []) so_far.1 call.puts,
        rest_more _ rest so_far.0 _ c.in_ok-n.n clock refl so_far.2,
        All-push (IsStamped clock) so_far.0 piece so_far.3 (some, refl),
      ),
      omega arith,
    )
