use Rattle.std.proofs.Common.{◌≡◌, ◌≤◌, ◌-◌, vec_len}
use Rattle.std.specs.Vec.{vec_capacity}
use Rattle.ldar_facts.specs.FactForms as forms
use Rattle.ldar_facts.proofs.FactSteps.{with_front}
use Rattle.ldar_facts.proofs.cursor.Cursor.facts.Given as goal

abbrev pub invariant-loop : goal.invariant-loop
invariant-loop l = record {
  len : vec_len l.facts ≡ l.counter;
  fits : l.count ≤ vec_capacity l.facts;
  same : with_front l.facts.items ((forms.facts (l.count - l.counter)).read l.self) ≡ (forms.facts l.count).read l.fn.self;
}
