-- The identities of a drill's batches differ.
use Rattle.std.proofs.Common.{◌≡◌, ℕ, ◌+◌, ◌<◌, Bool, true, false, not, ◌&&◌, nat_eq, List, [], ◌∷◌, ◌++◌, refl, arith, reverse, subst, inl, take, sym}
use Rattle.std.specs.List.{AllByRecursion, list_any}
use Rattle.std.specs.Prelude.{IsTrue}
use Rattle.std.proofs.lemmas.Bool.{and_parts, not-true, ne_eqb, eq-eqb}
use Rattle.std.proofs.lemmas.Grind.{reverse_onto}
use Rattle.std.proofs.lemmas.List.Sorted.{IsPermutation-reverse}
use Rattle.list_words.specs.Parts.{cut}
use Rattle.list_words.proofs.Members.{Among, all_weaker, among_right}
use Rattle.fact_kinds.specs.declared.batch.Batch.{Batch}
use Rattle.fact_kinds.specs.declared.limits.TheConstants.{BATCH_FACTS}
use Rattle.fact_kinds.specs.Identity.{is_same_identity, identities_differ}
use Rattle.fact_kinds.specs.Stated.{Stated}
use Rattle.fact_kinds.proofs.Identities.{identities_stay}
use Rattle.history_laws.proofs.Counting.{among_any, list_any-append}
use Rattle.drill_history.specs.declared.numbers.TheConstants.{MONTHS}
use Rattle.drill_history.specs.Drill.{register_facts_of, month_parts, numbered, register_batches, month_batches, drill_history}
use Rattle.drill_history.specs.Laws.{DrillIdentitiesDiffer, DrillSendsOneAgain}
use Rattle.drill_history.proofs.DrillLemmas.{all_reversed}

-- a batch is none of those with greater numbers
none_greater : (b : Batch) (handheld number : ℕ) (parts : List (List Stated)) → b.number < number
    → list_any (is_same_identity b) (numbered handheld number parts) ≡ false
none_greater b handheld number [] less = refl
none_greater b handheld number (part ∷ parts) less =
    rw (ne_eqb b.number number (omega (arith, less)), no_and (nat_eq b.handheld handheld))
    (none_greater b handheld (number + 1) parts (omega (arith, less)))
  where
    no_and : (a : Bool) → (a && false) ≡ false
    no_and true = refl
    no_and false = refl

-- numbered batches have different identities
numbered_differ : (handheld number : ℕ) (parts : List (List Stated)) → IsTrue (identities_differ (numbered handheld number parts))
numbered_differ handheld number [] = refl
numbered_differ handheld number (part ∷ parts) =
    rw (none_greater (record { handheld = handheld; number = number; facts = part }) handheld (number + 1) parts (omega arith))
    (numbered_differ handheld (number + 1) parts)

-- a batch of another handheld is none of these
none_of_another : (b : Batch) (handheld : ℕ) (batches : List Batch) → (b.handheld ≡ handheld → ⊥) → AllByRecursion (λ other. other.handheld ≡ handheld) batches
    → list_any (is_same_identity b) batches ≡ false
none_of_another b handheld [] differs all = refl
none_of_another b handheld (other ∷ batches) differs all =
    rw (all.0, ne_eqb b.handheld handheld differs) (none_of_another b handheld batches differs all.1)

numbered_are_of : (handheld number : ℕ) (parts : List (List Stated)) → AllByRecursion (λ b. b.handheld ≡ handheld) (numbered handheld number parts)
numbered_are_of handheld number [] = tt
numbered_are_of handheld number (part ∷ parts) = (refl, numbered_are_of handheld (number + 1) parts)

-- the batches of two handhelds have different identities
differ_append : (xs ys : List Batch) → IsTrue (identities_differ xs) → IsTrue (identities_differ ys)
    → AllByRecursion (λ b. list_any (is_same_identity b) ys ≡ false) xs → IsTrue (identities_differ (xs ++ ys))
differ_append [] ys first second apart = second
differ_append (x ∷ xs) ys first second apart =
    let parts = and_parts (not (list_any (is_same_identity x) xs)) (identities_differ xs) first in
    rw (list_any-append (is_same_identity x) xs ys, not-true (list_any (is_same_identity x) xs) parts.0, apart.0)
    (differ_append xs ys parts.1 second apart.1)

not_both : (n : ℕ) → n ≡ 0 → n ≡ 1 → ⊥
not_both n zero one = omega (arith, zero, one)

pub drill_identities_differ : DrillIdentitiesDiffer
unfolding drill_history register_batches month_batches
drill_identities_differ seed size =
    let months = month_batches seed size in
    differ_append (register_batches size) (reverse months) (numbered_differ 0 1 (cut BATCH_FACTS (register_facts_of size)))
    (identities_stay months (reverse months) (IsPermutation-reverse months) (numbered_differ 1 1 (month_parts seed size MONTHS)))
    (all_weaker (λ b. b.handheld ≡ 0) (λ b. list_any (is_same_identity b) (reverse months) ≡ false)
    (λ b own. none_of_another b 1 (reverse months) (not_both b.handheld own)
    (all_reversed (λ b. b.handheld ≡ 1) months (numbered_are_of 1 1 (month_parts seed size MONTHS))))
    (register_batches size) (numbered_are_of 0 1 (cut BATCH_FACTS (register_facts_of size))))

-- a batch has its own identity
own_identity : (b : Batch) → is_same_identity b b ≡ true
own_identity b = rw (eq-eqb b.handheld b.handheld refl, eq-eqb b.number b.number refl) refl

-- a batch of a list is found by its identity
found_among : (xs : List Batch) (b : Batch) → Among xs b → list_any (is_same_identity b) xs ≡ true
found_among xs b among = among_any (is_same_identity b) xs b among (own_identity b)

-- the first element of a list is found in the reversed list, after others
found_first : (front xs : List Batch) → AllByRecursion (λ b. list_any (is_same_identity b) (front ++ reverse xs) ≡ true) (take 1 xs)
found_first front [] = tt
found_first front (x ∷ xs) = (
  found_among (front ++ reverse (x ∷ xs)) x
      (among_right front (reverse (x ∷ xs)) x (subst (λ ys. Among ys x) (sym (reverse_onto xs x [])) (among_right (reverse xs) (x ∷ []) x (inl refl)))),
  tt,
)

pub drill_sends_one_again : DrillSendsOneAgain
unfolding drill_history
drill_sends_one_again seed size = found_first (register_batches size) (month_batches seed size)
