use Rattle.std.proofs.Common.{take, drop, length, ◌≤◌, arith}
use Rattle.std.proofs.lemmas.List.{length-drop, length-take-le}
use Rattle.ldar_journal.proofs.WindowLemmas.{window_of-more, read_ahead}
use Rattle.ldar_journal.proofs.window.Window.read_from.Goals as goal

pub returns-clause-more : goal.returns-clause-more
returns-clause-more g c =
    let room = c.make_room-start.ensures in
    let call = c.in_ok-n.ensures in
    let old = c.self.inside in
    let end = c.make_room-start.result.1 in
    let new = c.read_behind.new.buffer.items in
    let fits : c.in_ok-n.n ≤ length (drop end new) = omega (arith, length-drop end new, call.within, call.size) in (
      take c.in_ok-n.n (drop end new),
      length-take-le c.in_ok-n.n (drop end new) fits,
      window_of-more old.buffer.items c.make_room-start.new.buffer.items new old.start old.end c.make_room-start.result.0 end c.in_ok-n.n c.args.self.now
          c.self.view_is room.size room.value room.ordered room.in_range call.size call.before,
    )

pub returns-clause-ahead : goal.returns-clause-ahead
returns-clause-ahead g c =
    let room = c.make_room-start.ensures in
    let call = c.in_ok-n.ensures in
    let old = c.self.inside in
    let end = c.make_room-start.result.1 in
    let new = c.read_behind.new.buffer.items in
    read_ahead old.buffer.items c.make_room-start.new.buffer.items new old.start old.end c.make_room-start.result.0 end c.in_ok-n.n c.args.place
    c.args.self.now c.self.view_is
    room.size room.value room.ordered room.in_range call.size call.before call.within (g.D.Disk.content c.args.disk.now)
    (g.D.Disk.content c.read_behind.new.disk) call.read
