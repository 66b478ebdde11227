use Rattle.std.proofs.Common.{◌≡◌, ℕ, ◌+◌, List, [], ◌∷◌, get_or, drop, arith}
use Rattle.std.proofs.lemmas.List.{drop_more}
use Rattle.ldar_facts.proofs.Places.{IsBytes-drop}
use Rattle.ldar_facts.proofs.NumberSteps.{value_from}
use Rattle.ldar_facts.proofs.Digits.{whole, none}
use Rattle.ldar_facts.proofs.field_at.byte_at.Goals as goal

pub returns-then-not-lies-clause-read : goal.returns-then-not-lies-clause-read
returns-then-not-lies-clause-read c =
    let bytes : List ℕ = c.args.bytes.now in
    let at : ℕ = c.args.at in
    let digits : List ℕ = [] in
    let is : value_from 0 (get_or bytes at 0 ∷ digits) ≡ get_or bytes at 0 = omega arith in
    rw (c.wrong_at.ensures, c.from-then-not-lies.ensures, c.from-then-not-lies-2.ensures)
    (none (get_or bytes at 0) digits (drop (at + 1) bytes) (drop at bytes) ((c.args.least, c.args.most) ∷ [])
    (get_or bytes at 0) (drop_more bytes at 0 (omega arith)) is cc)

pub returns-clause-read : goal.returns-clause-read
returns-clause-read c =
    let bytes : List ℕ = c.args.bytes.now in
    let at : ℕ = c.args.at in
    let digits : List ℕ = get_or bytes at 0 ∷ [] in
    let is : value_from 0 digits ≡ get_or bytes at 0 = omega arith in
    whole digits (drop (at + 1) bytes) (drop at bytes) ((c.args.least, c.args.most) ∷ []) (get_or bytes at 0)
    (IsBytes-drop bytes at (λ i. omega (arith, c.type_inv.bytes i))) (drop_more bytes at 0 (omega arith)) is cc
