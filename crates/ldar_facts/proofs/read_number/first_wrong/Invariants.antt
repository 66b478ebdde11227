use Rattle.std.proofs.Common.{◌≡◌, ◌-◌, ◌^◌, ◌<◌, drop}
use Rattle.ldar_facts.specs.Number.{number_from, stop_of}
use Rattle.ldar_facts.proofs.read_number.first_wrong.Given as goal

abbrev pub invariant-loop-i : goal.invariant-loop-i
invariant-loop-i l = record {
  fits : l.number < 256 ^ l.i;
  same : stop_of (number_from (l.width - l.i) l.ranges l.number (drop l.i l.bytes)) ≡ stop_of (number_from l.width l.ranges 0 l.bytes);
}
