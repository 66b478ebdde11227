-- What is true inside all views, and stays true.
use Rattle.std.proofs.Common.{◌≡◌, ℕ, ◌<◌, ◌≤◌, List, [], ◌∷◌, ◌++◌, length, take, drop, map, filter, sym, ap, ◌∙◌, subst, arith, append_assoc, length-append}
use Rattle.std.proofs.Common.{length-take-le, zero-add}
use Rattle.std.specs.List.{AllByRecursion, flat_map}
use Rattle.std.proofs.Math.ListN.{take-append-drop}
use Rattle.std.proofs.lemmas.List.{length-map, take_at, drop_at, append-nil}
use Rattle.std.proofs.lemmas.List.Concat.{flat_map-append}
use Rattle.std.proofs.lemmas.List.Sorted.{length_permutation}
use Rattle.list_words.proofs.Ascending.{in_order_permutes}
use Rattle.list_words.proofs.Members.{all_append}
use Rattle.list_words.proofs.PutLemmas.{filter-in_order}
use Rattle.fact_kinds.specs.declared.limits.TheConstants.{BATCH_FACTS}
use Rattle.fact_kinds.specs.declared.batch.Batch.{Batch}
use Rattle.fact_kinds.specs.Facts.{entries_of, facts_of, goes_first}
use Rattle.fact_kinds.proofs.Identities.{history_apart}
use Rattle.fact_kinds.proofs.KeyOrder.{strict_goes_first}
use Rattle.fact_store.specs.Kept.{Kept, facts_in}
use Rattle.ldar_law.specs.Slices.{is_registered, register_facts}
use Rattle.office_views.specs.declared.header.Header.{Header}
use Rattle.office_views.specs.Headers.{headers_of, batches_by, facts_kept}
use Rattle.office_views.specs.Viewed.{Viewed}
use Rattle.office_views.specs.Inside.{AreOf, facts_stated}
use Rattle.office_views.proofs.HeaderLemmas.{headers_of-append, take-headers_of, batches_back, stated_of_entries}
use Rattle.office_views.proofs.KeyLemmas.{all_before}

-- a property of all elements is one of the first elements
pub all_of_first : {X : Type 0} (P : X → Type 0) (n : ℕ) (xs : List X) → AllByRecursion P xs → AllByRecursion P (take n xs)
all_of_first P n xs all = all_before P (take n xs) (drop n xs) (subst (AllByRecursion P) (sym (take-append-drop n xs)) all)

-- of batches with facts there are no more than facts
pub few_batches : (batches : List Batch) → AllByRecursion (λ batch. (0 < length batch.facts) × (length batch.facts ≤ BATCH_FACTS)) batches
    → length batches ≤ length (facts_stated batches)
few_batches [] filled = omega arith
few_batches (batch ∷ batches) filled =
    omega (arith, few_batches batches filled.1, filled.0.0, length-append batch.facts (facts_stated batches))

-- what is viewed, by these batches and what is noted
abbrev pub viewed_by : List Batch → ℕ → List ℕ → Viewed
viewed_by batches count answered = record { adopted = take count batches; spare = drop count batches; answered = answered }

module _ (batches : List Batch) (store register : Kept) (headers : List Header) (count : ℕ) (sound : AreOf batches store register headers count) where
  -- the facts kept are those of the batches, and it may be more
  facts_are : facts_kept store ≡ facts_stated batches ++ sound.more
  facts_are =
      let front = take count batches in
      let rest = drop count batches in
      ap (λ es. map (λ e. e.1) es ++ store.spare) sound.arrived ∙ ap (λ xs. xs ++ store.spare) (stated_of_entries front)
      ∙ ap (λ xs. facts_stated front ++ xs) sound.room ∙ sym (append_assoc (facts_stated front) (facts_stated rest) sound.more)
      ∙ ap (λ xs. xs ++ sound.more) (sym (flat_map-append (λ batch. batch.facts) front rest))
      ∙ ap (λ bs. facts_stated bs ++ sound.more) (take-append-drop count batches)

  -- by the headers the batches are found
  pub found : batches_by (facts_kept store) headers ≡ batches
  found =
      ap (λ hs. batches_by (facts_kept store) hs) sound.headed
      ∙ ap (λ facts. batches_by facts (headers_of 0 batches)) facts_are ∙ batches_back [] batches sound.more

  pub viewed : (answered : List ℕ) → viewed_by (batches_by (facts_kept store) headers) count answered ≡ viewed_by batches count answered
  viewed answered = ap (λ bs. viewed_by bs count answered) found

  -- .. and what is seen of them
  module _ {answered : List ℕ} (views : Viewed) (is : viewed_by (batches_by (facts_kept store) headers) count answered ≡ views) where
    pub adopted_is : views.adopted ≡ take count batches
    adopted_is = ap (λ v. v.adopted) (sym is ∙ viewed answered)

    pub spare_is : views.spare ≡ drop count batches
    spare_is = ap (λ v. v.spare) (sym is ∙ viewed answered)

    pub noted_is : views.answered ≡ answered
    noted_is = ap (λ v. v.answered) (sym is)

  pub count_is : length (take count batches) ≡ count
  count_is = length-take-le count batches sound.counted

  pub stated_is : length store.arrived ≡ length (facts_stated (take count batches))
  stated_is =
      sym (length-map store.arrived (λ e. e.1))
      ∙ ap (λ es. length (map (λ e. e.1) es)) sound.arrived ∙ ap length (stated_of_entries (take count batches))

  pub facts_are_of : facts_in store ≡ facts_of (take count batches)
  facts_are_of = ap (λ es. facts_in (record { arrived = es; spare = [] })) sound.arrived

  pub facts_count : length store.arrived ≡ length (facts_of (take count batches))
  facts_count =
      let flat = flat_map entries_of (take count batches) in
      ap length sound.arrived ∙ sym (length_permutation flat (facts_of (take count batches)) (in_order_permutes goes_first flat))

  -- there are no more batches than facts
  pub few_adopted : count ≤ length store.arrived
  few_adopted =
      omega (arith, count_is, stated_is, few_batches (take count batches) (all_of_first _ count batches sound.filled))

  -- the register has the entries in key order
  pub register_is : facts_in register ≡ register_facts (facts_of (take count batches))
  register_is =
      let flat = flat_map entries_of (take count batches) in
      ap (λ es. facts_in (record { arrived = es; spare = [] })) sound.entered
      ∙ sym (filter-in_order goes_first strict_goes_first (λ e. is_registered e.1.body) flat (history_apart (take count batches) sound.differ))

  -- with room for these batches
  module _ (others : List Batch) where
    in_front : take count (take count batches ++ others) ≡ take count batches
    in_front = take_at (take count batches) others count count_is

    behind : drop count (take count batches ++ others) ≡ others
    behind = drop_at (take count batches) others count count_is

    pub roomy_viewed : (answered : List ℕ) → viewed_by (take count batches ++ others) count answered
        ≡ record { adopted = take count batches; spare = others; answered = answered }
    roomy_viewed answered =
        ap (λ bs. record { adopted = bs; spare = drop count (take count batches ++ others); answered = answered }) in_front
        ∙ ap (λ bs. record { adopted = take count batches; spare = bs; answered = answered }) behind

    pub roomy : (s r : Kept) (hs : List Header) → s.arrived ≡ store.arrived → r.arrived ≡ register.arrived
        → s.spare ≡ facts_stated others → r.spare ≡ filter (λ fact. is_registered fact.body) (facts_stated others)
        → hs ≡ take count headers ++ headers_of (length store.arrived) others
        → AllByRecursion (λ batch. (0 < length batch.facts) × (length batch.facts ≤ BATCH_FACTS)) others → AreOf (take count batches ++ others) s r hs count
    roomy s r hs same same_entries room entry_room pushed filled =
        let front = take count batches in
        record {
          headed = pushed ∙ ap (λ hs. hs ++ headers_of (length store.arrived) others) (ap (take count) sound.headed ∙ take-headers_of count 0 batches)
              ∙ ap (λ n. headers_of 0 front ++ headers_of n others) (stated_is ∙ sym (zero-add (length (facts_stated front))))
              ∙ sym (headers_of-append 0 front others);
          counted = omega (arith, count_is, length-append front others);
          filled = all_append _ front others (all_of_first _ count batches sound.filled) filled;
          arrived = same ∙ sound.arrived ∙ ap (flat_map entries_of) (sym in_front);
          few = subst (λ es. length es ≤ 8_000_000) (sym same) sound.few;
          entered = same_entries ∙ sound.entered ∙ ap (λ bs. register_facts (flat_map entries_of bs)) (sym in_front);
          more = [];
          room = room ∙ ap facts_stated (sym behind) ∙ sym (append-nil (facts_stated (drop count (front ++ others))));
          more_entries = [];
          entry_room = entry_room ∙ ap (λ bs. filter (λ fact. is_registered fact.body) (facts_stated bs)) (sym behind)
              ∙ sym (append-nil (filter (λ fact. is_registered fact.body) (facts_stated (drop count (front ++ others)))));
          ruly = rw in_front sound.ruly;
          differ = rw in_front sound.differ;
          in_range = rw in_front sound.in_range;
        }
