-- Views after one more batch was adopted.
use Rattle.std.proofs.Common.{◌≡◌, ℕ, ◌+◌, ◌≤◌, IsTrue, Some, List, [], ◌∷◌, ◌++◌, length, take, drop, filter, slice_get, sym, ap, ◌∙◌}
use Rattle.std.proofs.Common.{subst, arith, append_assoc}
use Rattle.std.proofs.Common.{length-append, length-drop, take-add}
use Rattle.std.proofs.Math.Seq.{drop-append_seam, take-append_seam}
use Rattle.std.specs.List.{AllByRecursion, flat_map}
use Rattle.std.proofs.lemmas.List.{drop-drop}
use Rattle.std.proofs.lemmas.List.Elements.{filter-append}
use Rattle.list_words.specs.Order.{in_order}
use Rattle.list_words.proofs.Members.{all_append}
use Rattle.fact_kinds.specs.declared.batch.Batch.{Batch}
use Rattle.fact_kinds.specs.Facts.{entries_of, facts_of, goes_first}
use Rattle.fact_kinds.specs.Identity.{identities_differ}
use Rattle.fact_kinds.specs.Fields.{IsFact}
use Rattle.fact_kinds.proofs.Identities.{history_apart}
use Rattle.fact_kinds.specs.Stated.{Stated}
use Rattle.fact_store.specs.Coming.{Coming, stored}
use Rattle.fact_store.specs.Kept.{Kept, facts_in}
use Rattle.history_laws.specs.MoreLaws.{with_batch}
use Rattle.ldar_law.specs.declared.verdict.Verdict.TheVariants.{Pass}
use Rattle.ldar_law.specs.Machine.{IsNew}
use Rattle.ldar_law.specs.Slices.{is_registered, register_facts}
use Rattle.ldar_law.specs.Verdicts.{verdict_on}
use Rattle.ldar_law.proofs.VerdictLemmas.{passes_undenied}
use Rattle.history_laws.proofs.OnceLemmas.{passing_batch_enters_first}
use Rattle.history_laws.proofs.Passing.{one_more_passes}
use Rattle.unit_summaries.specs.Sound.{Are, Sums}
use Rattle.office_views.specs.declared.header.Header.{Header}
use Rattle.office_views.specs.Inside.{AreOf, facts_stated}
use Rattle.office_views.specs.Taking.{HasOwnKeys, CanEnter}
use Rattle.office_views.proofs.HeaderLemmas.{length-entries_of}
use Rattle.office_views.proofs.KeyLemmas.{none_held, entries_more, identities_more}
use Rattle.office_views.proofs.SoundLemmas.{facts_count, viewed_by}

-- a list that has a first element
pub first_is : {X : Type 0} (xs : List X) (x : X) → slice_get xs 0 ≡ Some x → xs ≡ x ∷ drop 1 xs
first_is [] x first = cc
first_is (y ∷ ys) x first = let same : y ≡ x = cc in ap (λ z. z ∷ ys) same

module _ (batches : List Batch) (store register : Kept) (headers : List Header) (count : ℕ) (sound : AreOf batches store register headers count)
    (batch : Batch) (next : slice_get (drop count batches) 0 ≡ Some batch) where
  rest_is : drop count batches ≡ batch ∷ drop (count + 1) batches
  rest_is = first_is (drop count batches) batch next ∙ ap (λ bs. batch ∷ bs) (drop-drop 1 count batches)

  front_is : take (count + 1) batches ≡ take count batches ++ batch ∷ []
  front_is = take-add count 1 batches ∙ ap (λ bs. take count batches ++ take 1 bs) rest_is

  -- what is viewed with the batch adopted
  pub adopted_viewed : (answered : List ℕ) → viewed_by batches (count + 1) answered
      ≡ record { adopted = take count batches ++ batch ∷ []; spare = drop 1 (drop count batches); answered = answered }
  adopted_viewed answered =
      ap (λ bs. record { adopted = bs; spare = drop (count + 1) batches; answered = answered }) front_is
      ∙ ap (λ bs. record { adopted = take count batches ++ batch ∷ []; spare = bs; answered = answered }) (sym (drop-drop 1 count batches))

  room_is : store.spare ≡ batch.facts ++ (facts_stated (drop (count + 1) batches) ++ sound.more)
  room_is =
      sound.room ∙ ap (λ bs. facts_stated bs ++ sound.more) rest_is
      ∙ append_assoc batch.facts (facts_stated (drop (count + 1) batches)) sound.more

  -- the store has room for its facts
  pub store_room : take (length batch.facts) store.spare ≡ batch.facts
  store_room = ap (take (length batch.facts)) room_is ∙ take-append_seam batch.facts (facts_stated (drop (count + 1) batches) ++ sound.more)

  store_left : drop (length batch.facts) store.spare ≡ facts_stated (drop (count + 1) batches) ++ sound.more
  store_left = ap (drop (length batch.facts)) room_is ∙ drop-append_seam batch.facts (facts_stated (drop (count + 1) batches) ++ sound.more)

  entry_room_is : register.spare ≡ filter (λ fact. is_registered fact.body) batch.facts
      ++ (filter (λ fact. is_registered fact.body) (facts_stated (drop (count + 1) batches)) ++ sound.more_entries)
  entry_room_is =
      let own = filter (λ fact. is_registered fact.body) batch.facts in
      let others = facts_stated (drop (count + 1) batches) in
      sound.entry_room ∙ ap (λ bs. filter (λ fact. is_registered fact.body) (facts_stated bs) ++ sound.more_entries) rest_is
      ∙ ap (λ fs. fs ++ sound.more_entries) (filter-append (λ fact. is_registered fact.body) batch.facts others)
      ∙ append_assoc own (filter (λ fact. is_registered fact.body) others) sound.more_entries

  -- .. and the register for the entries among them
  pub register_room : take (length (filter (λ fact. is_registered fact.body) batch.facts)) register.spare
      ≡ filter (λ fact. is_registered fact.body) batch.facts
  register_room =
      let own = filter (λ fact. is_registered fact.body) batch.facts in
      ap (take (length own)) entry_room_is
      ∙ take-append_seam own (filter (λ fact. is_registered fact.body) (facts_stated (drop (count + 1) batches)) ++ sound.more_entries)

  register_left : drop (length (filter (λ fact. is_registered fact.body) batch.facts)) register.spare
      ≡ filter (λ fact. is_registered fact.body) (facts_stated (drop (count + 1) batches)) ++ sound.more_entries
  register_left =
      let own = filter (λ fact. is_registered fact.body) batch.facts in
      ap (drop (length own)) entry_room_is
      ∙ drop-append_seam own (filter (λ fact. is_registered fact.body) (facts_stated (drop (count + 1) batches)) ++ sound.more_entries)

  module _ (passes : verdict_on (take count batches) batch ≡ Pass) (new : IsNew (take count batches) batch) where
    fits : length store.arrived + length batch.facts ≤ 8_000_000
    fits =
        let told = (passes_undenied (take count batches) batch).0 passes in
        omega (arith, told.1, facts_count batches store register headers count sound)

    own_keys_of : HasOwnKeys (flat_map entries_of (take count batches)) batch
    own_keys_of = record {
      new_keys = none_held (flat_map entries_of (take count batches)) (entries_of batch)
          (rw (sym (entries_more (take count batches) batch))
          (history_apart (take count batches ++ batch ∷ []) (identities_more (take count batches) batch sound.differ new)));
      few = subst (λ es. length es + length batch.facts ≤ 8_000_000) sound.arrived fits;
    }

    -- its facts have keys of their own
    pub own_keys : HasOwnKeys store.arrived batch
    own_keys = rw sound.arrived own_keys_of

    -- .. and its entries can be entered
    pub enters : CanEnter register.arrived batch
    enters = record {
      history = take count batches;
      came = sound.entered;
      first = passing_batch_enters_first (take count batches) batch passes;
      own_keys = own_keys_of;
    }

    -- with it all is as it should be
    pub adopted : (s r : Kept) → s ≡ record { arrived = store.arrived ++ entries_of batch; spare = drop (length batch.facts) store.spare }
        → r ≡ record {
          arrived = register.arrived ++ register_facts (entries_of batch);
          spare = drop (length (filter (λ fact. is_registered fact.body) batch.facts)) register.spare;
        }
        → AllByRecursion IsFact batch.facts → AreOf batches s r headers (count + 1)
    adopted s r stored entered in_range =
        let front = take count batches in
        let came : s.arrived ≡ flat_map entries_of (take (count + 1) batches) =
        ap (λ k. k.arrived) stored ∙ ap (λ es. es ++ entries_of batch) sound.arrived ∙ sym (entries_more front batch)
        ∙ ap (flat_map entries_of) (sym front_is) in
        record {
          headed = sound.headed;
          counted = omega (arith, ap length rest_is, length-drop count batches);
          filled = sound.filled;
          arrived = came;
          few = rw stored (omega (arith, fits, length-append store.arrived (entries_of batch), length-entries_of batch));
          entered = ap (λ k. k.arrived) entered ∙ ap (λ es. es ++ register_facts (entries_of batch)) sound.entered
              ∙ sym (filter-append (λ e. is_registered e.1.body) (flat_map entries_of front) (entries_of batch))
              ∙ ap register_facts (sym (entries_more front batch)) ∙ ap (λ bs. register_facts (flat_map entries_of bs)) (sym front_is);
          more = sound.more;
          room = ap (λ k. k.spare) stored ∙ store_left;
          more_entries = sound.more_entries;
          entry_room = ap (λ k. k.spare) entered ∙ register_left;
          ruly = rw front_is ((one_more_passes front batch).onward sound.ruly passes);
          differ = rw front_is (identities_more front batch sound.differ new);
          in_range = rw front_is (all_append _ front (batch ∷ []) sound.in_range (in_range, tt));
        }

    -- the summaries that the batch has touched are those of all facts
    pub adopted_sound : (s : Coming) (listed : ℕ) (sums : Sums)
        → stored s ≡ record { arrived = store.arrived ++ entries_of batch; spare = drop (length batch.facts) store.spare } → s.listed ≡ listed
        → Are (facts_of (with_batch (take count batches) batch)) (store.arrived ++ entries_of batch) listed sums
        → Are (facts_in (stored s)) s.arrived s.listed sums
    adopted_sound s listed sums is listed_is are =
        let came : s.arrived ≡ store.arrived ++ entries_of batch = ap (λ k. k.arrived) is in
        let all : flat_map entries_of (with_batch (take count batches) batch) ≡ store.arrived ++ entries_of batch =
        entries_more (take count batches) batch ∙ ap (λ es. es ++ entries_of batch) (sym sound.arrived) in
        subst (λ n. Are (facts_in (stored s)) s.arrived n sums) (sym listed_is)
        (subst (λ es. Are (in_order goes_first es) es listed sums) (sym came)
        (subst (λ es. Are (in_order goes_first es) (store.arrived ++ entries_of batch) listed sums) all are))

    -- the identities differ with it
    pub all_differ : IsTrue (identities_differ (with_batch (take count batches) batch))
    all_differ = identities_more (take count batches) batch sound.differ new

-- how many facts came
pub stored_count : (store s : Kept) (batch : Batch)
    → s ≡ record { arrived = store.arrived ++ entries_of batch; spare = drop (length batch.facts) store.spare }
    → (facts : ℕ) → facts ≡ length store.arrived → (stated : List Stated) → stated ≡ batch.facts → facts + length stated ≡ length s.arrived
stored_count store s batch is facts counted stated same =
    omega (arith, counted, ap length same, ap (λ k. length k.arrived) is, length-append store.arrived (entries_of batch), length-entries_of batch)
