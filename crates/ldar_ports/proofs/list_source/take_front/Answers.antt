use Rattle.ldar_ports.proofs.ListSourceLemmas.{taken_and_left, nothing_left}
use Rattle.ldar_ports.proofs.list_source.take_front.Goals as goal

pub returns-clause-taken : goal.returns-clause-taken
returns-clause-taken c =
    let call = c.take_first.ensures in
    taken_and_left _ c.args.pieces.now.items c.skip_empty.new.pieces.items _ _ _ c.skip_empty.ensures call.value call.copied call.after

pub returns-clause-ended : goal.returns-clause-ended
returns-clause-ended c =
    let call = c.take_first.ensures in
    nothing_left _ c.args.pieces.now.items c.skip_empty.new.pieces.items _ _ c.skip_empty.ensures call.value call.after
