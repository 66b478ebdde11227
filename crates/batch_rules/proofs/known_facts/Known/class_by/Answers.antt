use Rattle.std.proofs.Common.{sym, ap, ◌∙◌, arith}
use Rattle.ldar_law.specs.DenialLaws.{later_class}
use Rattle.ldar_law.proofs.RegisterLemmas.{class_after_facts}
use Rattle.batch_rules.specs.Known.{batch_of, front_of}
use Rattle.batch_rules.proofs.KnownLemmas.{later_past}
use Rattle.batch_rules.proofs.known_facts.Known.class_by.Goals as goal

pub returns : goal.returns
returns c =
    let known = c.args.self.now in
    let number = c.args.component in
    let day = c.args.day in
    record {
      value = sym (class_after_facts number day known.register.now.arrived (front_of known)
          ∙ ap (later_class number day (front_of known)) (sym c.class_entry-latest.ensures.value)
          ∙ c.loop-index.invariant
          ∙ later_past (batch_of known) number day c.loop-index.index known.front.now c.loop-index.latest (omega (arith, c.loop-index-test.false)));
    }
