use Rattle.std.proofs.Common.{◌≡◌, drop}
use Rattle.fact_kinds.specs.Facts.{entries_from}
use Rattle.ldar_law.specs.DenialLaws.{later_class}
use Rattle.batch_rules.specs.Known.{batch_of, front_of}
use Rattle.batch_rules.proofs.known_facts.Known.class_by.Given as goal

abbrev pub invariant-loop-index : goal.invariant-loop-index
invariant-loop-index l =
    later_class l.component l.day (front_of l.self) l.initial.latest
    ≡ later_class l.component l.day (entries_from (batch_of l.self) l.index (drop l.index l.self.front.now)) l.latest
