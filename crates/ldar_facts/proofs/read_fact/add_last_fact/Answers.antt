use Rattle.std.proofs.Common.{◌≡◌, ℕ, ◌-◌, ◌<◌, List, ◌++◌, length, replicate, drop, Ok, refl, sym, ap, ◌∙◌, length-append, length-drop, arith}
use Rattle.std.proofs.lemmas.List.{length-replicate, take_all}
use Rattle.ldar_facts.specs.Form.{IsBytes}
use Rattle.ldar_facts.specs.FactForms as forms
use Rattle.ldar_facts.proofs.Padded.{IsBytes-zeros, within, past, stops}
use Rattle.ldar_facts.proofs.read_fact.add_last_fact.Goals as goal

-- the bytes with the zero bytes are as long as the longest fact
lengths : (bytes : List ℕ) → length bytes < 23 → length (bytes ++ replicate (23 - length bytes) 0) ≡ 23
lengths bytes few = omega (arith, length-append bytes (replicate (23 - length bytes) 0), length-replicate {A = ℕ} (23 - length bytes) 0)

-- at most as many bytes are unread as there were
pub overflow_sub-result : goal.overflow_sub-result
overflow_sub-result c =
    let bytes : List ℕ = c.args.bytes.now in
    let are : IsBytes bytes = λ i. omega (arith, c.type_inv.bytes i) in
    let pad : List ℕ = replicate (23 - length bytes) 0 in
    let taken = rw c.padded-longer.ensures at c.in-Ok.ensures.taken in
    let p = (forms.fact).reads.found (bytes ++ pad) taken.fact c.in-Ok.rest.now (IsBytes-zeros bytes (23 - length bytes) are) taken.read in
    omega (arith, ap length p.2, length-append ((forms.fact).text p.0) c.in-Ok.rest.now, lengths bytes c.requires.few)

pub returns-then-rest-zeros-clause-stopped : goal.returns-then-rest-zeros-clause-stopped
returns-then-rest-zeros-clause-stopped c =
    let bytes : List ℕ = c.args.bytes.now in
    let are : IsBytes bytes = λ i. omega (arith, c.type_inv.bytes i) in
    let taken = rw c.padded-longer.ensures at c.in-Ok.ensures.taken in
    past forms.fact bytes (replicate (23 - length bytes) 0) are (IsBytes-zeros bytes (23 - length bytes) are) taken.fact c.in-Ok.rest.now taken.read
    (omega (arith, length-replicate {A = ℕ} (23 - length bytes) 0)) ((forms.fact).read bytes) refl

pub returns-else-rest-zeros-clause-taken : goal.returns-else-rest-zeros-clause-taken
returns-else-rest-zeros-clause-taken c =
    let bytes : List ℕ = c.args.bytes.now in
    let are : IsBytes bytes = λ i. omega (arith, c.type_inv.bytes i) in
    let pad : List ℕ = replicate (23 - length bytes) 0 in
    let rest : List ℕ = c.in-Ok.rest.now in
    let taken = rw c.padded-longer.ensures at c.in-Ok.ensures.taken in
    let read = within forms.fact bytes pad are (IsBytes-zeros bytes (23 - length bytes) are) taken.fact rest taken.read
    (omega (arith, length-replicate {A = ℕ} (23 - length bytes) 0)) in
    let used : length (bytes ++ pad) - length rest ≡ 23 - length rest = ap (λ n. n - length rest) (lengths bytes c.requires.few) in
    let left : List ℕ = drop (23 - length rest) bytes in
    let all = take_all (length bytes - (23 - length rest)) left (omega (arith, length-drop (23 - length rest) bytes)) in
    record {
      fact = taken.fact;
      read = read ∙ ap (λ n. Ok (taken.fact, drop n bytes)) used ∙ ap (λ (l : List ℕ). Ok (taken.fact, l)) (sym all);
      items = taken.items;
    }

pub returns-in-Err-clause-stopped : goal.returns-in-Err-clause-stopped
returns-in-Err-clause-stopped c =
    let bytes : List ℕ = c.args.bytes.now in
    let are : IsBytes bytes = λ i. omega (arith, c.type_inv.bytes i) in
    let read = rw c.padded-longer.ensures at c.in-Err.ensures.stopped in
    rw (c.before-in-Err.ensures, ← length-replicate {A = ℕ} (23 - length bytes) 0)
    (stops forms.fact bytes (replicate (23 - length bytes) 0) are (IsBytes-zeros bytes (23 - length bytes) are) c.in-Err.stop read)
