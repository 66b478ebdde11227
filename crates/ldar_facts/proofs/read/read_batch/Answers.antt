use Rattle.std.proofs.Common.{◌≡◌, ◌≤◌, length, take, refl, arith}
use Rattle.ldar_facts.specs.declared.read.Read.TheVariants.{Whole}
use Rattle.ldar_facts.specs.FactForms as forms
use Rattle.ldar_facts.specs.Front.{read_of}
use Rattle.ldar_facts.specs.Grammar.{Spells, Begins, HasNoBatch, IsFirstWrongPlace, IfWhole, OnShort, IfBad}
use Rattle.ldar_facts.proofs.Batches.{whole, short, bad, found, of_answer}
use Rattle.ldar_facts.proofs.read.read_batch.Goals as goal

pub returns-clause-whole : goal.returns-clause-whole
returns-clause-whole c =
    let bytes = c.args.bytes.now in
    let reading = (forms.batch).read bytes in
    of_answer c.read_front.result (read_of (length bytes) reading)
    (λ read. IfWhole read (λ b used. (used ≤ length bytes) × Spells (take used bytes) b)) c.read_front.ensures
    (whole bytes (λ i. omega (arith, c.type_inv.bytes i)) reading refl)

pub returns-clause-short : goal.returns-clause-short
returns-clause-short c =
    let bytes = c.args.bytes.now in
    let reading = (forms.batch).read bytes in
    of_answer c.read_front.result (read_of (length bytes) reading) (λ read. OnShort read (Begins bytes × HasNoBatch bytes)) c.read_front.ensures
    (short bytes (λ i. omega (arith, c.type_inv.bytes i)) reading refl)

pub returns-clause-bad : goal.returns-clause-bad
returns-clause-bad c =
    let bytes = c.args.bytes.now in
    let reading = (forms.batch).read bytes in
    of_answer c.read_front.result (read_of (length bytes) reading)
    (λ read. IfBad read (λ at. IsFirstWrongPlace bytes at × HasNoBatch bytes)) c.read_front.ensures
    (bad bytes (λ i. omega (arith, c.type_inv.bytes i)) reading refl)

pub returns-clause-found : goal.returns-clause-found
returns-clause-found c = λ batch used fit is.
    let bytes = c.args.bytes.now in
    of_answer c.read_front.result (read_of (length bytes) ((forms.batch).read bytes)) (λ read. read ≡ Whole batch used) c.read_front.ensures
    (found bytes batch used fit is)
