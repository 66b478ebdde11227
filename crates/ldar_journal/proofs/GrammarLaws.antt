-- What the grammar of batches implies for several batches in a row.
use Rattle.std.proofs.Common.{◌≡◌, ℕ, ◌≤◌, List, ◌++◌, length, refl, sym, ◌∙◌, ap, arith}
use Rattle.fact_kinds.specs.declared.batch.Batch.{Batch}
use Rattle.ldar_facts.specs.FactForms.{batch}
use Rattle.ldar_facts.specs.Grammar.{Spells}
use Rattle.ldar_facts.specs.Compose.{ok_pair}
use Rattle.ldar_facts.proofs.Batches.{read_again}
use Rattle.ldar_facts.proofs.GrammarLaws.{spelling_length}
use Rattle.ldar_journal.specs.Image.{IsBatch, spelling}

spells : (a : Batch) → IsBatch a → Spells (spelling a) a
unfolding IsBatch spelling
spells a a_is = record { filled = a_is; spells = refl }

-- a batch at the front of some bytes, and the bytes after it, are determined by the bytes
pub one_batch : (a b : Batch) (x y : List ℕ) → IsBatch a → IsBatch b → spelling a ++ x ≡ spelling b ++ y → (a ≡ b) × (x ≡ y)
one_batch a b x y a_is b_is same =
    let read_a = read_again (spelling a) a x (spells a a_is) in
    let read_b = read_again (spelling b) b y (spells b b_is) in
    ok_pair (a, x) (b, y) (sym read_a ∙ ap (λ l. batch.read l) same ∙ read_b)

pub length-spelling : (a : Batch) → IsBatch a → (16 ≤ length (spelling a)) × (length (spelling a) ≤ 11_785)
length-spelling a a_is =
    let sizes = spelling_length (spelling a) a (spells a a_is) in
    (omega (arith, sizes.0, sizes.2), omega (arith, sizes.1, sizes.3))

pub facts-batch : (a : Batch) → IsBatch a → (1 ≤ length a.facts) × (length a.facts ≤ 512)
unfolding IsBatch
facts-batch a a_is = a_is.1.1.1.0
