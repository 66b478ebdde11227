use Rattle.std.proofs.Common.{◌≡◌, drop, Ok, subst, ◌∙◌}
use Rattle.fact_kinds.specs.Fields.{IsFact}
use Rattle.ldar_facts.specs.Form.{Takes}
use Rattle.ldar_facts.specs.FactForms as forms
use Rattle.fact_kinds.specs.Stated.{Stated}
use Rattle.ldar_facts.proofs.FactTies as tie
use Rattle.ldar_facts.proofs.add_fact.push.Goals as goal

-- the fact that was read has its fields in their ranges
pub invariant_of-push_reserved : goal.invariant_of-push_reserved
invariant_of-push_reserved c =
    let head = c.args.head in
    let rest = drop c.args.to c.args.bytes.now in
    let fact : Stated = record { day = head.day; minute = head.minute; body = c.in-Ok.body } in
    let says : (forms.body head.kind).read (drop 5 c.args.bytes.now) ≡ Ok (c.in-Ok.body, rest) =
    subst (λ r. Takes (forms.body head.kind).read r (drop 5 c.args.bytes.now) rest) c.in-Ok.is c.requires.says in
    let read : (forms.fact).read c.args.bytes.now ≡ Ok (fact, rest) = c.requires.head ∙ rw says in
    let p = (forms.fact).reads.leads c.args.bytes.now fact rest read in
    subst IsFact p.1 (tie.fact.filled p.0)
