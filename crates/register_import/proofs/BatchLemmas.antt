-- Batches with consecutive numbers.
use Rattle.std.proofs.Common.{◌≡◌, ℕ, ◌+◌, ◌<◌, min, List, [], ◌∷◌, ◌++◌, length, take, drop, sym, ap, ◌∙◌, inl, inr, arith, append_assoc}
use Rattle.std.proofs.lemmas.Bool.{cases_lt}
use Rattle.std.proofs.lemmas.List.{take_all, drop_all}
use Rattle.list_words.proofs.PartLemmas.{cut_step}
use Rattle.fact_kinds.specs.declared.batch.Batch.{Batch}
use Rattle.fact_kinds.specs.Stated.{Stated}
use Rattle.register_import.specs.Batches.{batches_of}

module _ {X : Type 0} (n m : ℕ) (xs : List X) (least : m ≡ min (length xs) n) where
  -- taking at most the length takes as many
  take_least : take m xs ≡ take n xs
  take_least = elim (cases_lt (length xs) n) [
    | inl short ↦ take_all m xs (omega (arith, least, short)) ∙ sym (take_all n xs (omega (arith, short)))
    | inr long ↦ ap (λ k. take k xs) (omega (arith, least, long))
  ]

  -- dropping at most the length leaves as many
  drop_least : drop m xs ≡ drop n xs
  drop_least = elim (cases_lt (length xs) n) [
    | inl short ↦ drop_all m xs (omega (arith, least, short)) ∙ sym (drop_all n xs (omega (arith, short)))
    | inr long ↦ ap (λ k. drop k xs) (omega (arith, least, long))
  ]

-- the next batch has the first m of the remaining facts
pub next_batch : (number m : ℕ) (rest part others : List Stated) (batches more : List Batch) → 0 < length rest → m ≡ min (length rest) 512 → part ≡ take m rest
    → others ≡ drop m rest → more ≡ batches ++ record { handheld = 0; number = number; facts = part } ∷ []
    → batches ++ batches_of number rest ≡ more ++ batches_of (number + 1) others
next_batch number m rest part others batches more left least front back pushed =
    let part_is : part ≡ take 512 rest = front ∙ take_least 512 m rest least in
    let others_are : others ≡ drop 512 rest = back ∙ drop_least 512 m rest least in
    rw (cut_step 512 rest (omega arith) left, pushed, part_is, others_are)
    (sym (append_assoc batches (record { handheld = 0; number = number; facts = take 512 rest } ∷ []) (batches_of (number + 1) (drop 512 rest))))
