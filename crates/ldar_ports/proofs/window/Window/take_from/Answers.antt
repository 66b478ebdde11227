use Rattle.std.proofs.Common.{take, drop, length, ◌≤◌, arith}
use Rattle.std.proofs.lemmas.List.{length-drop, length-take-le}
use Rattle.ldar_ports.proofs.WindowLemmas.{window_of-more}
use Rattle.ldar_ports.proofs.window.Window.take_from.Goals as goal

pub returns-clause-taken : goal.returns-clause-taken
returns-clause-taken g c =
    let room = c.make_room-start.ensures in
    let call = c.in_ok-n.ensures in
    let old = c.self.inside in
    let end = c.make_room-start.result.1 in
    let new = c.take_behind.new.buffer.items in
    let fits : c.in_ok-n.n ≤ length (drop end new) = omega (arith, length-drop end new, call.within, call.size) in (
      take c.in_ok-n.n (drop end new),
      length-take-le c.in_ok-n.n (drop end new) fits,
      call.taken,
      window_of-more old.buffer.items c.make_room-start.new.buffer.items new old.start old.end c.make_room-start.result.0 end c.in_ok-n.n c.args.self.now
          c.self.view_is room.size room.value room.ordered room.in_range call.size call.before,
    )
