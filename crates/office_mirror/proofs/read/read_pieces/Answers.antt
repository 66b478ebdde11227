use Rattle.std.proofs.Common.{◌-◌, length, take, drop, arith}
use Rattle.std.proofs.lemmas.List.{take_all, length-drop}
use Rattle.office_mirror.proofs.ReadLemmas.{last_is_whole}
use Rattle.office_mirror.proofs.read.read_pieces.Goals as goal

pub returns-in-Last : goal.returns-in-Last
returns-in-Last c =
    let bytes = c.args.bytes.now in
    let used = c.loop-reader.used in
    let left = length bytes - used in
    last_is_whole bytes used c.in-Last.more c.loop-reader.reader (take left (drop used bytes)) c.read_piece.new.self c.in_ok-more.field-0 c.in-Last.answer
    c.loop-reader.invariant.0 c.loop-reader.invariant.1 (take_all left (drop used bytes) (omega (arith, length-drop used bytes))) c.in-Last.is
    c.in_ok-more.ensures.value
