use Rattle.std.proofs.Common.{ℕ, List, ◌++◌, length, ap}
use Rattle.std.proofs.lemmas.List.{drop-replicate}
use Rattle.ldar_facts.proofs.read_fact.padded.Goals as goal

pub returns : goal.returns
returns c =
    let bytes : List ℕ = c.args.bytes.now in
    rw c.copy_from_slice.ensures.after (ap (λ l. bytes ++ l) (drop-replicate {X = ℕ} (length bytes) 23 0))
