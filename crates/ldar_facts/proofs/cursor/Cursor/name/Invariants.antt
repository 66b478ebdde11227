use Rattle.std.proofs.Common.{◌≡◌, ◌-◌, take, length}
use Rattle.ldar_facts.specs.Letters.{behind, name_form}
use Rattle.ldar_facts.proofs.cursor.Cursor.name.Given as goal

abbrev pub invariant-loop-len : goal.invariant-loop-len
invariant-loop-len l = record {
  room : length l.letters ≡ 12;
  same : (behind (12 - l.len) (take l.len l.letters)).read l.self ≡ name_form.read l.fn.self;
}
