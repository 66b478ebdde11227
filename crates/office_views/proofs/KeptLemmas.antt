-- What the views keep, as the lists of a view ask it.
use Rattle.std.proofs.Common.{◌≡◌, ℕ, ◌+◌, ◌*◌, ◌≤◌, arith, Bool, true, Some, List, length, take, drop, IfSome, sym, ap, ◌∙◌, subst}
use Rattle.std.specs.List.{AllByRecursion, flat_map}
use Rattle.list_words.specs.Order.{Ascends}
use Rattle.fact_kinds.specs.declared.batch.Batch.{Batch}
use Rattle.fact_kinds.specs.Facts.{Entry, entries_of, facts_of, goes_first}
use Rattle.fact_kinds.proofs.OrderFree.{facts_ascend}
use Rattle.fact_store.specs.Kept.{Kept, facts_in}
use Rattle.history_laws.specs.DayLaws.{up_to}
use Rattle.history_laws.specs.RangeLaws.{IsInRange}
use Rattle.history_laws.specs.RulyLaws.{IsEachOnce}
use Rattle.history_laws.proofs.MemberLemmas.{components_are_members}
use Rattle.history_laws.proofs.OnceLemmas.{each_is_entered_once}
use Rattle.history_laws.proofs.RangeLemmas.{facts_are_in_range}
use Rattle.history_laws.proofs.RegisterOfRuly.{ruly_gives_register}
use Rattle.ldar_law.specs.declared.equipment.Equipment.{Equipment}
use Rattle.ldar_law.specs.declared.numbers.TheConstants.{LAST_FACT_DAY}
use Rattle.ldar_law.specs.declared.request.Request.{Request}
use Rattle.ldar_law.specs.declared.unit_entry.UnitEntry.{UnitEntry}
use Rattle.ldar_law.specs.Equipment.{equipment_of, unit_entry_of}
use Rattle.ldar_law.specs.Shown.{shown, view_day, view_of}
use Rattle.ldar_law.specs.Slices.{register_facts}
use Rattle.ldar_law.specs.Stirred.{stirred}
use Rattle.ldar_law.proofs.SliceLemmas.{register_facts_suffice}
use Rattle.unit_summaries.specs.Sound.{Are, Sums, is_known, news_of}
use Rattle.unit_summaries.proofs.AskedLemmas.{are_listed, entered_is_known}
use Rattle.office_views.specs.Asked.{unit_known}
use Rattle.office_views.specs.declared.header.Header.{Header}
use Rattle.office_views.specs.Headers.{batches_by, facts_kept}
use Rattle.office_views.specs.Inside.{AreOf}
use Rattle.office_views.specs.Sources.{AreKept, AreReady}
use Rattle.office_views.specs.Viewed.{Notes, Viewed, noted_at, stirred_in}
use Rattle.office_views.proofs.ListLemmas.{some_holds}
use Rattle.office_views.proofs.SoundLemmas.{adopted_is, facts_are_of, facts_count, noted_is, register_is, viewed_by}
use Rattle.office_views.proofs.NameLemmas.{component_names, started_has_number}
use Rattle.office_views.proofs.UnitLemmas.{started_in_bound, unit_is}

-- process units start up by the last day of facts
abbrev StartInBound : List Entry → Type 0
StartInBound facts = (number : ℕ) (unit : UnitEntry) → unit_entry_of number facts ≡ Some unit → unit.startup ≤ LAST_FACT_DAY

module _ (batches : List Batch) (store register : Kept) (headers : List Header) (count : ℕ) (sound : AreOf batches store register headers count) where
  stored : facts_in store ≡ facts_of (take count batches)
  stored = facts_are_of batches store register headers count sound

  -- the facts are in order
  pub stored_ascend : Ascends goes_first (facts_in store)
  stored_ascend = subst (Ascends goes_first) (sym stored) (facts_ascend (take count batches) sound.differ)

  -- the register is theirs
  pub stored_kept : AreKept (facts_in store) (facts_in register)
  stored_kept = record {
    register = register_is batches store register headers count sound ∙ ap register_facts (sym stored);
    once = subst IsEachOnce (sym stored) (each_is_entered_once (take count batches) sound.ruly);
    in_range = subst (AllByRecursion IsInRange) (sym stored) (facts_are_in_range (take count batches) sound.in_range);
    startups = subst StartInBound (sym stored) (ruly_gives_register (take count batches) sound.ruly).0.startups;
  }

  -- the process unit of a number on a day, as the register has it
  pub unit_known_is : (unit day : ℕ) → unit_known unit day (facts_in register) ≡ unit_entry_of unit (up_to day (facts_in store))
  unit_known_is unit day = unit_is day unit (facts_in store) (facts_in register) stored_ascend stored_kept

  -- .. which starts up in bound
  pub unit_in_bound : (unit day : ℕ) → IfSome (unit_known unit day (facts_in register)) (λ entry. entry.startup ≤ LAST_FACT_DAY)
  unit_in_bound unit day =
      some_holds (λ entry. entry.startup ≤ LAST_FACT_DAY) (unit_known unit day (facts_in register))
      (λ entry found. started_in_bound day unit (facts_in store) (facts_in register) entry stored_ascend stored_kept (sym (unit_known_is unit day) ∙ found))

  -- a process unit that is known has the number that was asked, and some fact names it
  pub unit_is_known : (unit day : ℕ) (entry : UnitEntry) → unit_known unit day (facts_in register) ≡ Some entry
      → (entry.unit ≡ unit) × (is_known store.arrived entry.unit ≡ true)
  unit_is_known unit day entry is =
      let known = started_has_number day unit (facts_in store) entry stored_ascend (sym (unit_known_is unit day) ∙ is) in
      (known.1, entered_is_known store.arrived entry.unit known.0 (ap (λ n. unit_entry_of n (facts_in store)) known.1 ∙ known.2))

  -- a component as the register has it
  pub component_of_register : (number : ℕ) → equipment_of number (facts_in register) ≡ equipment_of number (facts_in store)
  component_of_register number = ap (equipment_of number) stored_kept.register ∙ (register_facts_suffice number (facts_in store)).0.equipment

  -- a component of the register has the number that was asked, and some fact names its process unit
  pub component_is_known : (number : ℕ) (item : Equipment) → Some item ≡ equipment_of number (facts_in register)
      → (equipment_of number (facts_in store) ≡ Some item) × (item.component ≡ number) × (is_known store.arrived item.unit ≡ true)
  component_is_known number item is =
      let entered : equipment_of number (facts_in store) ≡ Some item =
      sym (component_of_register number) ∙ sym is in
      (entered, (components_are_members (facts_in store) number item entered).0, component_names store.arrived number item entered)

  -- once all facts are listed, the summaries can be made up to date
  pub ready : (listed : ℕ) (s : Sums) → Are (facts_in store) store.arrived listed s → AreReady store register s
  ready listed s are = record { ordered = stored_ascend; kept = stored_kept; sound = are_listed (facts_in store) store.arrived listed s are }

  module _ {answered : List ℕ} (views : Viewed) (is : viewed_by (batches_by (facts_kept store) headers) count answered ≡ views) where
    -- they are those of the adopted batches
    pub facts_of_adopted : facts_in store ≡ facts_of views.adopted
    facts_of_adopted = stored ∙ ap facts_of (sym (adopted_is batches store register headers count sound views is))

    -- .. as they came
    pub came_of_adopted : store.arrived ≡ flat_map entries_of views.adopted
    came_of_adopted = sound.arrived ∙ ap (flat_map entries_of) (sym (adopted_is batches store register headers count sound views is))

    -- .. and as many
    pub count_of_adopted : length store.arrived ≡ length (facts_of views.adopted)
    count_of_adopted =
        facts_count batches store register headers count sound
        ∙ ap (λ bs. length (facts_of bs)) (sym (adopted_is batches store register headers count sound views is))

    -- the stirred facts of a process unit
    pub stirred_is : (unit number : ℕ) → number ≡ unit → stirred (facts_in store) (drop (noted_at answered number) store.arrived) number ≡ stirred_in views unit
    stirred_is unit number same =
        ap (λ n. stirred (facts_in store) (drop (noted_at answered n) store.arrived) n) same
        ∙ ap (λ es. stirred es (drop (noted_at answered unit) store.arrived) unit) facts_of_adopted
        ∙ ap (λ es. stirred (facts_of views.adopted) (drop (noted_at answered unit) es) unit) came_of_adopted
        ∙ ap (λ a. stirred (facts_of views.adopted) (drop (noted_at a unit) (flat_map entries_of views.adopted)) unit)
        (sym (noted_is batches store register headers count sound views is))

    -- .. bound the reads of a view that reads no more than them
    pub reads_within : (k : Kept) (s : Sums) (unit number before after : ℕ) → k ≡ store → s.answered ≡ answered → number ≡ unit
        → after ≤ before + stirred (facts_in k) (news_of k.arrived s number) number → after ≤ before + 2 * stirred_in views unit
    reads_within k s unit number before after same noted_same number_same few =
        let own : after ≤ before + stirred (facts_in store) (drop (noted_at answered number) store.arrived) number =
        subst (λ x. after ≤ before + stirred (facts_in x) (drop (noted_at answered number) x.arrived) number) same
        (subst (λ a. after ≤ before + stirred (facts_in k) (drop (noted_at a number) k.arrived) number) noted_same few) in
        omega (arith, own, stirred_is unit number number_same)

    -- what a view notes
    pub noted : (is_answer : Bool) (unit number facts : ℕ) (new : List ℕ) → number ≡ unit → facts ≡ length store.arrived
        → Notes is_answer number facts answered new → Notes is_answer unit (length (facts_of views.adopted)) views.answered new
    noted is_answer unit number facts new same counted notes =
        subst (λ n. Notes is_answer n (length (facts_of views.adopted)) views.answered new) same
        (subst (λ c. Notes is_answer number c views.answered new) (counted ∙ count_of_adopted)
        (subst (λ a. Notes is_answer number facts a new) (sym (noted_is batches store register headers count sound views is)) notes))

-- what a view shows of some facts is what it shows of their history
pub shown_is : (request : Request) (facts : List Entry) (history : List Batch) → facts ≡ facts_of history
    → view_of request (up_to (view_day request) facts) ≡ shown history request
unfolding shown
shown_is request facts history is = ap (λ es. view_of request (up_to (view_day request) es)) is
