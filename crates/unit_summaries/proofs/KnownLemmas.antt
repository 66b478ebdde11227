-- What is known of a component on a day, from its summary.
use Rattle.std.proofs.Common.{◌≡◌, ℕ, zero, suc, ◌+◌, ◌-◌, ◌<◌, ◌≤◌, cond, nat_eq, nat_le, Bool, true, false, Option, Some, None, List, [], ◌∷◌, length, get_or, inl, inr, arith, option_map, option_and_then, filter, refl, sym, ap, ◌∙◌, subst}
use Rattle.std.specs.List.{AllByRecursion, cons_option}
use Rattle.std.specs.List.Sorted.{IsPartitionedBy}
use Rattle.std.specs.Option.{IfSome}
use Rattle.std.proofs.lemmas.Bool.{cases_Bool, leb-true, le-leb}
use Rattle.list_words.specs.Order.{Ascends}
use Rattle.ldar_days.specs.Calendar.{end_by}
use Rattle.fact_kinds.specs.declared.body.FactBody.{FactBody}
use Rattle.fact_kinds.specs.declared.body.FactBody.TheVariants.{Shutdown}
use Rattle.fact_kinds.specs.declared.class.Class.{Class}
use Rattle.fact_kinds.specs.declared.key.Key.{Key}
use Rattle.fact_kinds.specs.Facts.{Entry, goes_first, is_earlier}
use Rattle.fact_kinds.proofs.Cuts.{earlier_day}
use Rattle.history_laws.specs.DayLaws.{events_to, if_begun, item_on, of_unit_to, up_to}
use Rattle.history_laws.proofs.EventsUpTo.{known_up_to_a_day}
use Rattle.history_laws.proofs.RegisterUpTo.{components_up_to_a_day, units_up_to_a_day}
use Rattle.history_laws.proofs.UpTo.{ascending_are_in_order}
use Rattle.ldar_law.specs.declared.delay.Stop.{Stop}
use Rattle.ldar_law.specs.declared.election.ElectionEntry.{ElectionEntry}
use Rattle.ldar_law.specs.declared.equipment.Equipment.{Equipment}
use Rattle.ldar_law.specs.declared.event.Event.{Event}
use Rattle.ldar_law.specs.Equipment.{classes_of, equipment_of, of_unit, stop_entered, stops_of}
use Rattle.ldar_law.specs.Events.{events_in}
use Rattle.ldar_law.specs.Force.{limit_on}
use Rattle.ldar_law.specs.Spans.{spans_of}
use Rattle.ldar_law.specs.Units.{Known, known_of, known_with}
use Rattle.ldar_law.proofs.EventLemmas.{events_ascend}
use Rattle.touched_readings.specs.Windows.{AreByDay}
use Rattle.unit_summaries.specs.declared.known.KnownOn.{KnownOn}
use Rattle.unit_summaries.specs.declared.summary.Summary.{Summary}
use Rattle.unit_summaries.specs.declared.summary.UnitSummary.{UnitSummary}
use Rattle.unit_summaries.specs.Kept.{known_from}
use Rattle.unit_summaries.specs.Known.{IsInOrder, IsKnownFrom, IsOfSummary, IsOrderly, in_law, known_by}
use Rattle.unit_summaries.specs.Says.{Says, SaysUnit}
use Rattle.unit_summaries.proofs.ListLemmas.{part_in_order}
use Rattle.unit_summaries.proofs.ReadLemmas.{classes_in_order, elections_in_order}

-- a component that has begun is known as it is on the day
begun_is : (day : ℕ) (b : Bool) (item found : Equipment) → cond b (Some (item_on day item)) None ≡ Some found → found ≡ item_on day item
begun_is day true item found is = sym (let same : item_on day item ≡ found = cc in same)
begun_is day false item found is = absurd cc

module _ (day : ℕ) (facts : List Entry) (number : ℕ) (s : Summary) (says : Says facts number s) (up : Ascends goes_first facts) where
  -- the component on the day is the one of all facts, if it has begun
  on_day : equipment_of number (up_to day facts) ≡ if_begun day s.item
  on_day =
      (components_up_to_a_day day number facts (ascending_are_in_order facts up)).equipment ∙ ap (option_and_then (if_begun day)) says.equipment

  pub known_none : if_begun day s.item ≡ None → None ≡ option_map (known_of (up_to day facts)) (equipment_of number (up_to day facts))
  known_none none = sym (ap (option_map (known_of (up_to day facts))) (on_day ∙ none))

  -- the classes and events up to the day are those by the facts up to the day
  known_cut : known_with (item_on day s.item) (filter (λ entered. nat_le entered.0.day day) s.classes) (events_to day s.events)
      (of_unit s.item.unit (up_to day facts)) ≡ known_of (up_to day facts) (item_on day s.item)
  known_cut =
      let all : List (Key × Class) = classes_of s.item.component facts in
      let stops = (units_up_to_a_day day s.item.unit facts (ascending_are_in_order facts up)).stops in
      let unit : of_unit s.item.unit (up_to day facts) ≡ of_unit_to day (of_unit s.item.unit facts) = ap (λ ss. record { stops = ss }) stops in
      let classes : filter (λ entered. nat_le entered.0.day day) s.classes ≡ filter (λ entered. nat_le entered.0.day day) all =
      ap (filter (λ entered. nat_le entered.0.day day)) says.judged.classes in
      let events : events_to day s.events ≡ events_to day (events_in s.item all (limit_on s.item all) facts) =
      ap (events_to day) (says.judged.events ∙ ap (λ cs. events_in s.item cs (limit_on s.item cs) facts) says.judged.classes) in
      ap (λ cs. known_with (item_on day s.item) cs (events_to day s.events) (of_unit s.item.unit (up_to day facts))) classes
      ∙ ap (λ es. known_with (item_on day s.item) (filter (λ entered. nat_le entered.0.day day) all) es (of_unit s.item.unit (up_to day facts))) events
      ∙ ap (known_with (item_on day s.item) (filter (λ entered. nat_le entered.0.day day) all)
      (events_to day (events_in s.item all (limit_on s.item all) facts))) unit
      ∙ sym (known_up_to_a_day day s.item facts)

  known_begun : if_begun day s.item ≡ Some (item_on day s.item) → Some (known_of (up_to day facts) (item_on day s.item))
      ≡ option_map (known_of (up_to day facts)) (equipment_of number (up_to day facts))
  known_begun begun = sym (ap (option_map (known_of (up_to day facts))) (on_day ∙ begun))

  pub known_some : (item : Equipment) (k : KnownOn) → if_begun day s.item ≡ Some item → k.item ≡ item
      → k.classes.now ≡ filter (λ entered. nat_le entered.0.day day) s.classes → k.events.now ≡ events_to day s.events
      → Some (known_by (up_to day facts) k) ≡ option_map (known_of (up_to day facts)) (equipment_of number (up_to day facts))
  known_some item k begun item_is classes_are events_are =
      let this : item ≡ item_on day s.item = begun_is day (nat_le s.item.begin day) s.item item begun in
      let here : k.item ≡ item_on day s.item = item_is ∙ this in
      let known : known_by (up_to day facts) k ≡ known_of (up_to day facts) (item_on day s.item) =
      ap (λ i. known_with i k.classes.now k.events.now (of_unit i.unit (up_to day facts))) here
      ∙ ap (λ cs. known_with (item_on day s.item) cs k.events.now (of_unit s.item.unit (up_to day facts))) classes_are
      ∙ ap (λ es. known_with (item_on day s.item) (filter (λ entered. nat_le entered.0.day day) s.classes) es (of_unit s.item.unit (up_to day facts)))
      events_are
      ∙ known_cut in
      ap Some known ∙ known_begun (begun ∙ ap Some this)

  -- so is a component by its summary and the shutdowns of its process unit
  pub known_from_is : (stops : List Stop) → stops ≡ stops_of s.item.unit facts
      → known_from day stops s ≡ option_map (known_of (up_to day facts)) (equipment_of number (up_to day facts))
  known_from_is stops stops_are =
      elim (cases_Bool (nat_le s.item.begin day)) [
        | inr late ↦
            let none : if_begun day s.item ≡ None = ap (λ b. cond b (Some (item_on day s.item)) None) late in
            ap (option_map whole) none ∙ known_none none
        | inl come ↦
            let begun : if_begun day s.item ≡ Some (item_on day s.item) = ap (λ b. cond b (Some (item_on day s.item)) None) come in
            ap (option_map whole) begun
            ∙ ap (λ ss. Some (known_with (item_on day s.item) (filter (λ entered. nat_le entered.0.day day) s.classes) (events_to day s.events)
            (record { stops = ss }))) (ap (filter (λ (stop : Stop). nat_le stop.first day)) stops_are
            ∙ sym (units_up_to_a_day day s.item.unit facts (ascending_are_in_order facts up)).stops)
            ∙ ap Some known_cut ∙ known_begun begun
      ]
    where
      whole : Equipment → Known
      whole item =
          known_with item (filter (λ entered. nat_le entered.0.day day) s.classes) (events_to day s.events)
          (record { stops = filter (λ stop. nat_le stop.first day) stops })

-- ---- order

-- the classes and events of a summary are in key order
pub classes_ascend : (facts : List Entry) (number : ℕ) (s : Summary) → Says facts number s → Ascends goes_first facts
    → Ascends (λ a b. is_earlier a.0 b.0) s.classes
classes_ascend facts number s says up =
    subst (Ascends (λ (a b : Key × Class). is_earlier a.0 b.0)) (sym says.judged.classes) (classes_in_order s.item.component facts up)

pub events_in_key_order : (facts : List Entry) (number : ℕ) (s : Summary) → Says facts number s → Ascends goes_first facts
    → Ascends (λ a b. is_earlier a.key b.key) s.events
events_in_key_order facts number s says up =
    subst (Ascends (λ (a b : Event). is_earlier a.key b.key)) (sym says.judged.events) (events_ascend s.item s.classes (limit_on s.item s.classes) facts up)

-- .. and so is the whole summary
pub summary_orderly : (facts : List Entry) (number : ℕ) (s : Summary) → Says facts number s → Ascends goes_first facts → IsOrderly s
summary_orderly facts number s says up = record {
  classes = classes_ascend facts number s says up;
  events = events_in_key_order facts number s says up;
  spans = says.judged.spans;
}

-- what is known of a component by a summary in order is in order
pub known_in_order : (day : ℕ) (s : Summary) (k : KnownOn) → IsOrderly s → IsOfSummary day s k → IsInOrder k
known_in_order day s k orderly of =
    let item : k.item ≡ item_on day s.item = begun_is day (nat_le s.item.begin day) s.item k.item of.item in
    record {
      classes = subst (Ascends (λ (a b : Key × Class). is_earlier a.0 b.0)) (sym of.classes)
          (part_in_order (λ (a b : Key × Class). is_earlier a.0 b.0) (λ entered. nat_le entered.0.day day) s.classes orderly.classes);
      events = subst (Ascends (λ (a b : Event). is_earlier a.key b.key)) (sym of.events)
          (part_in_order (λ (a b : Event). is_earlier a.key b.key) (λ e. nat_le e.key.day day) s.events orderly.events);
      all_events = subst (Ascends (λ (a b : Event). is_earlier a.key b.key)) (sym of.all_events) orderly.events;
      cut = of.events ∙ ap (λ d. events_to d s.events) (sym of.day) ∙ ap (events_to k.day) (sym of.all_events);
      spans = of.spans ∙ orderly.spans ∙ ap (λ (i : Equipment). spans_of i.kind s.events) (sym item)
          ∙ ap (spans_of k.item.kind) (sym of.all_events);
    }

pub some_in_order : (day : ℕ) (s : Summary) (o : Option KnownOn) → IsOrderly s → IsKnownFrom day s o → IfSome o IsInOrder
some_in_order day s None orderly known = tt
some_in_order day s (Some k) orderly known = known_in_order day s k orderly known

-- it is the law's, by the shutdowns up to the day
pub known_is_from : (day : ℕ) (s : Summary) (stops front : List Stop) (k : KnownOn) → IsOfSummary day s k
    → front ≡ filter (λ stop. nat_le stop.first day) stops → known_from day stops s ≡ Some (in_law front k)
known_is_from day s stops front k of front_is =
    ap (option_map (λ item. known_with item (filter (λ entered. nat_le entered.0.day day) s.classes) (events_to day s.events)
    (record { stops = filter (λ stop. nat_le stop.first day) stops }))) of.item
    ∙ ap (λ cs. Some (known_with k.item cs (events_to day s.events) (record { stops = filter (λ stop. nat_le stop.first day) stops }))) (sym of.classes)
    ∙ ap (λ es. Some (known_with k.item k.classes.now es (record { stops = filter (λ stop. nat_le stop.first day) stops }))) (sym of.events)
    ∙ ap (λ ss. Some (known_with k.item k.classes.now k.events.now (record { stops = ss }))) (sym front_is)

pub known_from_none : (day : ℕ) (s : Summary) (stops : List Stop) → if_begun day s.item ≡ None → known_from day stops s ≡ None
known_from_none day s stops none =
    ap (option_map (λ item. known_with item (filter (λ entered. nat_le entered.0.day day) s.classes) (events_to day s.events)
    (record { stops = filter (λ stop. nat_le stop.first day) stops }))) none

-- the elections of a process unit are in key order
pub elections_ascend : (facts : List Entry) (number : ℕ) (s : UnitSummary) → SaysUnit facts number s → Ascends goes_first facts
    → Ascends (λ a b. is_earlier a.key b.key) s.elections
elections_ascend facts number s says up =
    subst (Ascends (λ (a b : ElectionEntry). is_earlier a.key b.key)) (sym says.elections) (elections_in_order number facts up)

-- .. and its shutdowns are by their first days
stop_day : (number : ℕ) (day : ℕ) (body : FactBody) (stop : Stop) → stop_entered number day body ≡ Some stop → stop.first ≡ day
stop_day number day (Shutdown unit days) stop is =
    elim (cases_Bool (nat_eq unit number)) [
      | inl here ↦
          let given : Some (record { first = day; last = end_by (day + days - 1) }) ≡ Some stop = rw here at is in
          let same : record { first = day; last = end_by (day + days - 1) } ≡ stop = cc in
          sym (ap (λ (x : Stop). x.first) same)
      | inr else ↦
          let given : None ≡ Some stop = rw else at is in
          absurd cc
    ]
stop_day number day _ stop is = absurd cc

stops_after : (number low : ℕ) (es : List Entry) → AllByRecursion (λ e. low ≤ e.0.day) es → AllByRecursion (λ (s : Stop). low ≤ s.first) (stops_of number es)
stops_after number low [] all = tt
stops_after number low (e ∷ es) all =
    elim (stop_entered number e.0.day e.1.body) as (λ o. stop_entered number e.0.day e.1.body ≡ o
    → AllByRecursion (λ (s : Stop). low ≤ s.first) (cons_option o (stops_of number es))) [
      | None ↦ λ is. stops_after number low es all.1
      | Some stop ↦ λ is. (omega (arith, stop_day number e.0.day e.1.body stop is, all.0), stops_after number low es all.1)
    ] refl

later_days : (key : Key) (es : List Entry) → AllByRecursion (λ e. is_earlier key e.0 ≡ true) es → AllByRecursion (λ e. key.day ≤ e.0.day) es
later_days key [] all = tt
later_days key (e ∷ es) all = (earlier_day key e.0 all.0, later_days key es all.1)

stops_by_day : (number : ℕ) (es : List Entry) → Ascends goes_first es → AreByDay (λ (s : Stop). s.first) (stops_of number es)
stops_by_day number [] up = tt
stops_by_day number (e ∷ es) up =
    elim (stop_entered number e.0.day e.1.body) as (λ o. stop_entered number e.0.day e.1.body ≡ o
    → AreByDay (λ (s : Stop). s.first) (cons_option o (stops_of number es))) [
      | None ↦ λ is. stops_by_day number es up.1
      | Some stop ↦ λ is. (
        subst (λ d. AllByRecursion (λ (s : Stop). d ≤ s.first) (stops_of number es)) (sym (stop_day number e.0.day e.1.body stop is))
            (stops_after number e.0.day es (later_days e.0 es up.0)),
        stops_by_day number es up.1,
      )
    ] refl

pub stops_are_by_day : (facts : List Entry) (number : ℕ) (s : UnitSummary) → SaysUnit facts number s → Ascends goes_first facts
    → AreByDay (λ (x : Stop). x.first) s.of_unit.stops
stops_are_by_day facts number s says up =
    subst (AreByDay (λ (x : Stop). x.first)) (sym (ap (λ u. u.stops) says.of_unit)) (stops_by_day number facts up)

-- the elements up to a day are a front of a list by day
module _ {X : Type 0} (day : X → ℕ) where
  after_each : (x : X) (ys : List X) (j : ℕ) (d : X) → AllByRecursion (λ y. day x ≤ day y) ys → j < length ys → day x ≤ day (get_or ys j d)
  after_each x [] j d all within = absurd (omega (arith, within))
  after_each x (y ∷ ys) zero d all within = all.0
  after_each x (y ∷ ys) (suc j) d all within = after_each x ys j d all.1 (omega (arith, within))

  pub days_in_order : (last : ℕ) (xs : List X) → AreByDay day xs → IsPartitionedBy (λ x. nat_le (day x) last) xs
  days_in_order last [] up i j d le within t = absurd (omega (arith, within))
  days_in_order last (x ∷ xs) up zero zero d le within t = t
  days_in_order last (x ∷ xs) up zero (suc j) d le within t =
      le-leb (day x) last (omega (arith, after_each x xs j d up.0 (omega (arith, within)), leb-true (day (get_or xs j d)) last t))
  days_in_order last (x ∷ xs) up (suc i) zero d le within t = absurd (omega (arith, le))
  days_in_order last (x ∷ xs) up (suc i) (suc j) d le within t = days_in_order last xs up.1 i j d (omega (arith, le)) (omega (arith, within)) t
