use Rattle.std.proofs.Common.{◌≡◌, ℕ, ◌+◌, List, [], ◌∷◌, get_or, drop, arith}
use Rattle.ldar_facts.proofs.Places.{IsBytes-drop, four_stand}
use Rattle.ldar_facts.proofs.NumberSteps.{value_from}
use Rattle.ldar_facts.proofs.Digits.{whole, none}
use Rattle.ldar_facts.proofs.field_at.four_bytes_at.Goals as goal

pub returns-then-not-lies : goal.returns-then-not-lies
returns-then-not-lies c =
    let bytes : List ℕ = c.args.bytes.now in
    let at : ℕ = c.args.at in
    let digits : List ℕ = get_or bytes (at + 1) 0 ∷ get_or bytes (at + 2) 0 ∷ get_or bytes (at + 3) 0 ∷ [] in
    let is : value_from 0 (get_or bytes at 0 ∷ digits) ≡ c.from_be_bytes-number.result = omega arith in
    rw c.wrong_at.ensures
    (none (get_or bytes at 0) digits (drop (at + 4) bytes) (drop at bytes) ((c.args.least, c.args.most) ∷ [])
    (c.from_be_bytes-number.result) (four_stand bytes at (omega arith)) is cc)

pub returns : goal.returns
returns c =
    let bytes : List ℕ = c.args.bytes.now in
    let at : ℕ = c.args.at in
    let digits : List ℕ = get_or bytes at 0 ∷ get_or bytes (at + 1) 0 ∷ get_or bytes (at + 2) 0 ∷ get_or bytes (at + 3) 0 ∷ [] in
    let is : value_from 0 digits ≡ c.from_be_bytes-number.result = omega arith in
    whole digits (drop (at + 4) bytes) (drop at bytes) ((c.args.least, c.args.most) ∷ []) (c.from_be_bytes-number.result)
    (IsBytes-drop bytes at (λ i. omega (arith, c.type_inv.bytes i))) (four_stand bytes at (omega arith)) is cc
