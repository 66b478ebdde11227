use Rattle.std.proofs.Common.{◌≡◌}
use Rattle.std.proofs.Common.{ℕ, List, ◌++◌}
use Rattle.fact_kinds.specs.Fields.{big_endian, purpose_number}
use Rattle.ldar_facts.proofs.Spelling.{more, last}
use Rattle.ldar_facts.proofs.write_body.put_reading.Goals as goal

pub returns : goal.returns
returns c =
    let old : List ℕ = c.args.out.now.items in
    let first : List ℕ = big_endian 2 c.args.component in
    let second : List ℕ = first ++ big_endian 2 c.args.instrument in
    let third : List ℕ = second ++ big_endian 2 c.args.operator in
    let fourth : List ℕ = third ++ big_endian 1 (purpose_number c.args.purpose) in
    let fifth : List ℕ = fourth ++ big_endian 4 c.args.ppm in
    let at_purpose : c.put_byte.new.out.items ≡ old ++ fourth =
    more old _ _ third (big_endian 1 (purpose_number c.args.purpose))
    (more old _ _ second (big_endian 2 c.args.operator)
    (more old _ _ first (big_endian 2 c.args.instrument) c.in_ok-put_two_bytes.ensures c.in_ok-put_two_bytes-2.ensures)
    c.in_ok-put_two_bytes-3.ensures) (rw c.purpose_number.ensures at c.in_ok-put_byte.ensures) in
    last old _ _ fifth (big_endian 4 c.args.background) c.put_four_bytes-2.result
    (more old _ _ fourth (big_endian 4 c.args.ppm) at_purpose c.in_ok-put_four_bytes.ensures) c.put_four_bytes-2.ensures
