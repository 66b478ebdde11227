use Rattle.std.proofs.Common.{subst, ◌≡◌, ℕ, false, Some, None, List, [], ◌∷◌, refl, sym, ap, inl, inr, Option, true}
use Rattle.std.specs.Prelude.{unwrap_or, if◌then◌else◌, filter_map, option_map}
use Rattle.std.specs.List.{cons_option, AllByRecursion}
use Rattle.std.proofs.lemmas.Bool.{cases_Bool, false≢true}
use Rattle.list_words.specs.Order.{Ascends}
use Rattle.list_words.proofs.PutLemmas.{ascends_filter}
use Rattle.fact_kinds.specs.declared.body.FactBody.{FactBody}
use Rattle.fact_kinds.specs.declared.body.FactBody.TheVariants.{Reading}
use Rattle.fact_kinds.specs.declared.class.Class.{Class}
use Rattle.fact_kinds.specs.declared.key.Key.{Key}
use Rattle.fact_kinds.specs.Facts.{Entry, is_earlier, goes_first}
use Rattle.fact_kinds.specs.Named.{reading_instrument, component_of, is_numbered}
use Rattle.fact_kinds.proofs.KeyOrder.{strict_goes_first}
use Rattle.ldar_law.specs.declared.equipment.Equipment.{Equipment}
use Rattle.ldar_law.specs.declared.event.Event.{Event}
use Rattle.ldar_law.specs.declared.event.Happening.{Happening}
use Rattle.ldar_law.specs.declared.fitness.Fitness.{Fitness}
use Rattle.ldar_law.specs.Events.{happening, event_of, events_with, events_in, is_reading, next_fitness, fitness_among, fitness_at}
use Rattle.ldar_law.specs.ReadingLaws.{EventsAreJudgedInOrder, ReadingsAreOfInstrument, EventsAscend}
use Rattle.ldar_law.specs.Fitness.{fitness_of}
use Rattle.ldar_law.specs.Slices.{facts_of_component, facts_of_instrument}
use Rattle.ldar_law.proofs.FitnessLemmas.{fitness_is_of_instrument}

module _ (item : Equipment) (classes : List (Key × Class)) (limit : ℕ → ℕ) where
  -- the fitness does not matter for a fact that is not a reading
  no_reading_same : (day : ℕ) (fitness other : Fitness) (body : FactBody) → is_reading body ≡ false →
      happening item classes limit day fitness body ≡ happening item classes limit day other body
  no_reading_same day fitness other (Reading _ _ _ purpose ppm background) e = absurd (false≢true (sym e))
  no_reading_same day fitness other _ e = refl

  -- the fitness does not matter for an event that is not a reading
  no_reading_event : (e : Entry) (fitness other : Fitness) → is_reading e.1.body ≡ false → event_of item classes limit e fitness ≡ event_of item classes limit e other
  no_reading_event e fitness other none = rw (no_reading_same e.0.day fitness other e.1.body none) refl

  -- judging by a list of fitnesses, one for each reading, or each reading by its own
  in_order_same : (fit : Entry → Fitness) (es : List Entry) →
      events_with item classes limit es (filter_map (λ e. if is_reading e.1.body then Some (fit e) else None) es) ≡ filter_map
      (λ e. event_of item classes limit e (fit e)) es
  in_order_same fit [] = refl
  in_order_same fit (e ∷ es) =
      let rest = filter_map (λ x. if is_reading x.1.body then Some (fit x) else None) es in
      elim (cases_Bool (is_reading e.1.body)) [
        | inl one ↦ rw one (ap (λ xs. cons_option (event_of item classes limit e (fit e)) xs) (in_order_same fit es))
        | inr none ↦ rw (none, no_reading_event e (next_fitness rest) (fit e) none, in_order_same fit es) refl
      ]

pub events_are_judged_in_order : EventsAreJudgedInOrder
unfolding events_in
events_are_judged_in_order item classes limit facts =
    in_order_same item classes limit (fitness_among limit facts) (facts_of_component item.component facts)

-- the fitness of a reading from its instrument's facts
by_instrument : (limit : ℕ → ℕ) (facts : List Entry) (key : Key) (body : FactBody) (instrument : ℕ) →
    reading_instrument body ≡ Some instrument → fitness_at limit (facts_of_instrument instrument facts) key body ≡ fitness_at limit facts key body
by_instrument limit facts key (Reading _ other _ _ ppm _) instrument e =
    subst (λ i. fitness_of (facts_of_instrument i facts) (limit key.day) key other ppm ≡ fitness_of facts (limit key.day) key other ppm)
    (ap (λ o. unwrap_or o 0) e)
    (fitness_is_of_instrument facts (limit key.day) key other ppm)
by_instrument limit facts key _ instrument e = refl

pub readings_are_of_instrument : ReadingsAreOfInstrument
readings_are_of_instrument limit facts e instrument of = by_instrument limit facts e.0 e.1.body instrument of

-- An event has the key of its fact.
module _ (item : Equipment) (classes : List (Key × Class)) (limit : ℕ → ℕ) (fit : Entry → Fitness) where
  -- an event of a later fact is later
  later_at : (key : Key) (e : Entry) (o : Option Happening) (rest : List Event) → is_earlier key e.0 ≡ true →
      AllByRecursion (λ x. is_earlier key x.key ≡ true) rest →
      AllByRecursion (λ x. is_earlier key x.key ≡ true) (cons_option (option_map (λ what. record { key = e.0; what = what }) o) rest)
  later_at key e None rest h all = all
  later_at key e (Some what) rest h all = (h, all)

  -- the events of later facts are later
  all_later : (key : Key) (facts : List Entry) → AllByRecursion (λ e. is_earlier key e.0 ≡ true) facts →
      AllByRecursion (λ x. is_earlier key x.key ≡ true) (filter_map (λ e. event_of item classes limit e (fit e)) facts)
  all_later key [] h = tt
  all_later key (e ∷ facts) h =
      later_at key e (happening item classes limit e.0.day (fit e) e.1.body) (filter_map (λ e. event_of item classes limit e (fit e)) facts) h.0 (all_later key facts h.1)

  -- one more event before later ones keeps the order
  one_more_event : (e : Entry) (o : Option Happening) (rest : List Event) → AllByRecursion (λ x. is_earlier e.0 x.key ≡ true) rest →
      Ascends (λ a b. is_earlier a.key b.key) rest →
      Ascends (λ a b. is_earlier a.key b.key) (cons_option (option_map (λ what. record { key = e.0; what = what }) o) rest)
  one_more_event e None rest all asc = asc
  one_more_event e (Some what) rest all asc = (all, asc)

  events_ascend_by : (facts : List Entry) → Ascends goes_first facts →
      Ascends (λ a b. is_earlier a.key b.key) (filter_map (λ e. event_of item classes limit e (fit e)) facts)
  events_ascend_by [] h = tt
  events_ascend_by (e ∷ facts) h =
      one_more_event e (happening item classes limit e.0.day (fit e) e.1.body) (filter_map (λ e. event_of item classes limit e (fit e)) facts) (all_later e.0 facts h.0)
      (events_ascend_by facts h.1)

pub events_ascend : EventsAscend
unfolding events_in
events_ascend item classes limit facts asc =
    events_ascend_by item classes limit (fitness_among limit facts) (facts_of_component item.component facts)
    (ascends_filter goes_first strict_goes_first (λ e. is_numbered (component_of e.1.body) item.component) facts asc)
