use Rattle.std.proofs.Common.{◌≡◌, ◌+◌, ◌≤◌}
use Rattle.batch_rules.specs.Known.{register_by}
use Rattle.batch_rules.specs.Seen.{HasTouched}
use Rattle.batch_rules.specs.Shares.{share_in}
use Rattle.batch_rules.proofs.valves.share_known.Given as goal

abbrev pub invariant-loop-index : goal.invariant-loop-index
invariant-loop-index l = record {
  so_far : l.share ≡ share_in l.unit l.day (register_by l.known l.index);
  touched : HasTouched l.known l.day l.index l.touched;
  small : (l.share.valves ≤ 8_000_000 + l.index) × (l.share.difficult ≤ 8_000_000 + l.index);
}
