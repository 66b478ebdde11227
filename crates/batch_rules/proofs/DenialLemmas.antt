use Rattle.std.proofs.Common.{◌≡◌, ℕ, suc, ◌+◌, ◌<◌, ◌≤◌, Option, Some, None, List, [], ◌∷◌, ◌++◌, length, take, drop, get_or}
use Rattle.std.proofs.Common.{refl, sym, ap, ◌∙◌, arith}
use Rattle.std.specs.Option.{option_map, option_or}
use Rattle.std.proofs.lemmas.List.{drop_all, length-take-le}
use Rattle.list_words.specs.Words.{first_given_from}
use Rattle.fact_kinds.specs.declared.batch.Batch.{Batch}
use Rattle.fact_kinds.specs.Facts.{Entry, key_of, entries_from}
use Rattle.fact_kinds.specs.Stated.{Stated}
use Rattle.ldar_law.specs.Judged.{register_with, case_of}
use Rattle.ldar_law.specs.Verdicts.{least_rule, denial_at}
use Rattle.fact_store.specs.Kept.{facts_in}
use Rattle.batch_rules.specs.declared.known_facts.Known.{Known}
use Rattle.batch_rules.specs.Cases.{case_at, case_in}
use Rattle.batch_rules.specs.Known.{batch_of, register_at, register_by}
use Rattle.batch_rules.proofs.EntryLemmas.{entries-take_more, entries-drop_more, entries-split}

-- the first denial from a place of the batch on
abbrev pub denial_from : List Entry → Batch → ℕ → Option (ℕ × ℕ)
denial_from held batch i = first_given_from (denial_at held) (entries_from batch 0 (take i batch.facts)) (entries_from batch i (drop i batch.facts))

-- the case of a fact, as it is made
pub case_is : (fact : Stated) (i : ℕ) (known whole : Known) → register_at known ≡ register_by whole i
    → case_at fact i known whole ≡ case_in (facts_in whole.register.now) (batch_of whole) i fact
case_is fact i known whole e = ap (λ k. record { entry = (key_of (batch_of whole) i fact, fact); known = k; whole = register_at whole }) e

-- a batch has as many entries as facts
entries-length : (batch : Batch) (index : ℕ) (facts : List Stated) → length (entries_from batch index facts) ≡ length facts
entries-length batch index [] = refl
entries-length batch index (fact ∷ facts) = ap suc (entries-length batch (index + 1) facts)

module _ (held : List Entry) (batch : Batch) (i : ℕ) (fact : Stated) (within : i < length batch.facts) (is : fact ≡ get_or batch.facts i fact) where
  -- the entries before the fact
  abbrev front : List Entry
  front = entries_from batch 0 (take i batch.facts)

  -- the entries after the fact
  abbrev later : List Entry
  later = entries_from batch (i + 1) (drop (i + 1) batch.facts)

  -- the law's case of the fact is this case
  case_here : case_of held front (key_of batch i fact, fact) later ≡ case_in held batch i fact
  case_here = ap (λ whole. record { entry = (key_of batch i fact, fact); known = register_with held front; whole = register_with held whole })
      (entries-split batch i batch.facts fact within is)

  -- the fact's number in the batch, from 1
  place : length front + 1 ≡ i + 1
  place = let long = entries-length batch 0 (take i batch.facts) in
      let taken = length-take-le i batch.facts (omega (arith, within)) in
      omega (arith, long, taken)

  -- the law reports the least rule that denies the fact
  told_here : (told : Option ℕ) → least_rule (case_in held batch i fact) ≡ told
      → denial_at held front (key_of batch i fact, fact) later ≡ option_map (λ number. (i + 1, number)) told
  told_here told least =
      ap (λ case. option_map (λ number. (length front + 1, number)) (least_rule case)) case_here
      ∙ ap (option_map (λ number. (length front + 1, number))) least
      ∙ ap (λ n. option_map (λ number. (n, number)) told) place

  -- one step of the search for the first denial
  step : denial_from held batch i
      ≡ option_or (denial_at held front (key_of batch i fact, fact) later) (first_given_from (denial_at held) (front ++ (key_of batch i fact, fact) ∷ []) later)
  step = rw (entries-drop_more batch i batch.facts fact within is) refl

  -- a denied fact is the first denial
  pub denied_here : (rule : ℕ) → least_rule (case_in held batch i fact) ≡ Some rule → denial_from held batch i ≡ Some (i + 1, rule)
  denied_here rule least = step ∙ rw (told_here (Some rule) least) refl

  -- a fact that passes is skipped
  pub passed_here : least_rule (case_in held batch i fact) ≡ None → denial_from held batch i ≡ denial_from held batch (i + 1)
  passed_here least =
      step
      ∙ rw (told_here None least) (ap (λ es. first_given_from (denial_at held) es later) (sym (entries-take_more batch i batch.facts fact within is)))

-- past the last fact there is no denial
pub denial_past : (held : List Entry) (batch : Batch) (i : ℕ) → length batch.facts ≤ i → denial_from held batch i ≡ None
denial_past held batch i past = rw (drop_all i batch.facts past) refl

-- an option without a value is None
pub nothing_else : (o : Option ℕ) → ((x : ℕ) → o ≡ Some x → ⊥) → o ≡ None
nothing_else None none = refl
nothing_else (Some x) none = absurd (none x refl)
