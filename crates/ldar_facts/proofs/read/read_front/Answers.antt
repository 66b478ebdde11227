use Rattle.std.proofs.Common.{◌≡◌, Err, Ok, subst, arith}
use Rattle.fact_kinds.specs.declared.batch.Batch.{Batch}
use Rattle.fact_kinds.specs.Fields.{IsAmong, counts}
use Rattle.ldar_facts.specs.Form.{IsBytes}
use Rattle.ldar_facts.specs.FactForms as forms
use Rattle.ldar_facts.proofs.Batches.{rest_within, stop_within}
use Rattle.ldar_facts.proofs.FactTies.{head_count}
use Rattle.ldar_facts.proofs.read.read_front.Goals as goal

pub stopped-requires : goal.stopped-requires
unfolding forms.batch
stopped-requires c =
    let are : IsBytes c.args.bytes.now = λ i. omega (arith, c.type_inv.bytes i) in
    let read : (forms.batch).read c.args.bytes.now ≡ Err c.in-Err.stop = rw (← c.new-cursor.ensures, c.in-Err.ensures) in
    stop_within c.args.bytes.now are c.in-Err.stop read

pub facts-requires-clause-some : goal.facts-requires-clause-some
facts-requires-clause-some c =
    let p = (forms.head).reads.leads c.new-cursor.result c.in-Ok.head c.head.new.self c.in-Ok.ensures in
    subst (λ h. IsAmong h.count counts) p.1 (head_count p.0)

pub overflow_sub-result : goal.overflow_sub-result
unfolding forms.batch
overflow_sub-result c =
    let are : IsBytes c.args.bytes.now = λ i. omega (arith, c.type_inv.bytes i) in
    let batch : Batch = record { handheld = c.in-Ok.head.handheld; number = c.in-Ok.head.number; facts = c.in-Ok-facts.facts } in
    let read : (forms.batch).read c.args.bytes.now ≡ Ok (batch, c.facts.new.self) = rw (← c.new-cursor.ensures, c.in-Ok.ensures, c.in-Ok-facts.ensures) in
    omega (arith, rest_within c.args.bytes.now are batch c.facts.new.self read)

pub stopped-requires-in-Err-facts : goal.stopped-requires-in-Err-facts
unfolding forms.batch
stopped-requires-in-Err-facts c =
    let are : IsBytes c.args.bytes.now = λ i. omega (arith, c.type_inv.bytes i) in
    let read : (forms.batch).read c.args.bytes.now ≡ Err c.in-Err-facts.stop = rw (← c.new-cursor.ensures, c.in-Ok.ensures, c.in-Err-facts.ensures) in
    stop_within c.args.bytes.now are c.in-Err-facts.stop read
