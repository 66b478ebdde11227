-- A component has no duty of a cause that cannot apply to it.
use Rattle.std.proofs.Common.{◌≡◌, ℕ, ◌+◌, ◌-◌, ◌*◌, ◌%◌, Bool, true, false, not, ◌&&◌, ◌||◌, nat_eq, nat_le, nat_lt, min, Option, Some, None, option_map}
use Rattle.std.proofs.Common.{unwrap_or, List, [], ◌∷◌, ◌++◌, cond, refl, sym, ap, subst, ◌∙◌}
use Rattle.std.specs.List.{filter_map, list_any}
use Rattle.std.specs.Option.{option_or}
use Rattle.std.proofs.lemmas.Bool.{and_left, and_right, or_parts, or_from}
use Rattle.std.proofs.lemmas.List.{append-nil}
use Rattle.list_words.specs.Words.{each_from, each_where, last_such}
use Rattle.list_words.proofs.WordLemmas.{last_such-cons}
use Rattle.ldar_days.specs.Calendar.{month_of, last_day, week_last, end_by}
use Rattle.fact_kinds.specs.declared.class.Class.{Class}
use Rattle.fact_kinds.specs.declared.class.Kind.{Kind}
use Rattle.fact_kinds.specs.declared.class.Kind.TheVariants.{Valve, Pump, Compressor, Relief}
use Rattle.fact_kinds.specs.declared.class.Service.{Service}
use Rattle.fact_kinds.specs.declared.class.Service.TheVariants.{Gas, Light, Heavy, Vacuum, Under300}
use Rattle.fact_kinds.specs.declared.key.Key.{Key}
use Rattle.ldar_law.specs.declared.equipment.Equipment.{Equipment}
use Rattle.ldar_law.specs.declared.event.Event.{Event}
use Rattle.ldar_law.specs.Duties as law
use Rattle.ldar_law.specs.Force.{class_on, is_in_service}
use Rattle.ldar_law.specs.Happenings.{has_undesignated_drips, is_release, has_evidence}
use Rattle.ldar_law.specs.Kinds.{is_valve, is_pump}
use Rattle.ldar_law.specs.Limits.{regime_of}
use Rattle.ldar_law.specs.Months.{is_quarterly, month_in_quarter}
use Rattle.ldar_law.specs.Standing.{are_pump_rules, are_relief_rules, is_unsafe_designated, is_difficult_designated, is_nde_designated}
use Rattle.ldar_law.specs.Standing.{is_under_valve_rules, is_under_pump_rules, is_under_compressor_rules, is_under_relief_rules, is_under_heavy_liquid_rules}
use Rattle.ldar_law.specs.Standing.{is_plain, is_unsafe}
use Rattle.ldar_law.proofs.KindLemmas.{no_valve_rules}
use Rattle.monitor_calendar.specs.Causes as causes
use Rattle.monitor_calendar.specs.Concern.{has_unsafe_class, is_yearly_designated, has_yearly_class, is_relief}
use Rattle.monitor_calendar.specs.Concern.{is_heavy_liquid, has_heavy_liquid_class, concerns}
use Rattle.monitor_calendar.specs.Following.{after_event}
use Rattle.monitor_calendar.specs.declared.after_event.After.{After}
use Rattle.monitor_calendar.specs.declared.after_event.After.TheVariants.{Drips, Release, Evidence}
use Rattle.monitor_calendar.specs.declared.asked.Asked.{Asked}
use Rattle.monitor_calendar.proofs.Listing.{unowed}

-- ---- no value

-- the list of values is empty if no element has a value
filter_map_nothing : {X Y : Type 0} (f : X → Option Y) → ((x : X) → f x ≡ None) → (xs : List X) → filter_map f xs ≡ []
filter_map_nothing f none [] = refl
filter_map_nothing f none (x ∷ xs) = rw (none x) (filter_map_nothing f none xs)

-- the same, with elements seen among the others
each_nothing : {X Y : Type 0} (f : List X → X → List X → Option Y) → ((a : List X) (x : X) (b : List X) → f a x b ≡ None) → (front xs : List X) →
    each_from f front xs ≡ []
each_nothing f none front [] = refl
each_nothing f none front (x ∷ xs) = rw (none front x xs) (each_nothing f none (front ++ x ∷ []) xs)

-- a finished list stays the same if no element has a value
pub left_so : {X Y : Type 0} (f : X → Option Y) (xs : List X) (done : List Y) → ((x : X) → f x ≡ None) → done ++ filter_map f xs ≡ done
left_so f xs done none = ap (λ ys. done ++ ys) (filter_map_nothing f none xs) ∙ append-nil done

-- the same, with elements seen among the others
pub each_left_so : {X Y : Type 0} (f : List X → X → List X → Option Y) (xs : List X) (done : List Y) →
    ((a : List X) (x : X) (b : List X) → f a x b ≡ None) → done ++ each_where f xs ≡ done
each_left_so f xs done none = ap (λ ys. done ++ ys) (each_nothing f none [] xs) ∙ append-nil done

-- ---- the rules for a kind

-- only a pump is under the rules for pumps
no_pump_rules : (kind : Kind) (service : Service) → is_pump kind ≡ false → are_pump_rules (regime_of kind service) ≡ false
no_pump_rules Valve Gas e = refl
no_pump_rules Valve Light e = refl
no_pump_rules Valve Heavy e = refl
no_pump_rules Valve Vacuum e = refl
no_pump_rules Valve Under300 e = refl
no_pump_rules Pump service e = cc
no_pump_rules Compressor Gas e = refl
no_pump_rules Compressor Light e = refl
no_pump_rules Compressor Heavy e = refl
no_pump_rules Compressor Vacuum e = refl
no_pump_rules Compressor Under300 e = refl
no_pump_rules Relief Gas e = refl
no_pump_rules Relief Light e = refl
no_pump_rules Relief Heavy e = refl
no_pump_rules Relief Vacuum e = refl
no_pump_rules Relief Under300 e = refl

-- only a relief device is under the rules for relief devices
no_relief_rules : (kind : Kind) (service : Service) → is_relief kind ≡ false → are_relief_rules (regime_of kind service) ≡ false
no_relief_rules Valve Gas e = refl
no_relief_rules Valve Light e = refl
no_relief_rules Valve Heavy e = refl
no_relief_rules Valve Vacuum e = refl
no_relief_rules Valve Under300 e = refl
no_relief_rules Pump Gas e = refl
no_relief_rules Pump Light e = refl
no_relief_rules Pump Heavy e = refl
no_relief_rules Pump Vacuum e = refl
no_relief_rules Pump Under300 e = refl
no_relief_rules Compressor Gas e = refl
no_relief_rules Compressor Light e = refl
no_relief_rules Compressor Heavy e = refl
no_relief_rules Compressor Vacuum e = refl
no_relief_rules Compressor Under300 e = refl
no_relief_rules Relief service e = cc

-- ---- classes

-- some entered class passes a test
abbrev is_some_such : (Class → Bool) → List (Key × Class) → Bool
is_some_such is_such classes = list_any (λ entered. is_such entered.1) classes

module _ (is_such : Class → Bool) where
  -- the class entered is not such a one
  abbrev NoneSuch : Option (Key × Class) → Type 0
  NoneSuch None = Unit {0}
  NoneSuch (Some entered) = is_such entered.1 ≡ false

  -- the later of two classes
  either : (later earlier : Option (Key × Class)) → NoneSuch later → NoneSuch earlier → NoneSuch (option_or later earlier)
  either None earlier a b = b
  either (Some entered) earlier a b = a

  -- a class that is tested
  tried : (passes : Bool) (entered : Key × Class) → is_such entered.1 ≡ false → NoneSuch (cond passes (Some entered) None)
  tried true entered e = e
  tried false entered e = tt

  -- the last class that passes
  last_safe : (p : Key × Class → Bool) (classes : List (Key × Class)) → is_some_such is_such classes ≡ false → NoneSuch (last_such p classes)
  last_safe p [] none = tt
  last_safe p (x ∷ xs) none =
      let parts = or_parts (is_such x.1) (is_some_such is_such xs) none in
      subst NoneSuch (sym (last_such-cons p x xs))
      (either (last_such p xs) (cond (p x) (Some x) None) (last_safe p xs parts.1) (tried (p x) x parts.0))

  -- the last class that passes, or the component's first class
  safe_or : (found : Option (Key × Class)) (class : Class) → NoneSuch found → is_such class ≡ false →
      is_such (unwrap_or (option_map (λ entered. entered.1) found) class) ≡ false
  safe_or None class safe own = own
  safe_or (Some entered) class safe own = safe

  -- no class of the component is such a one on any day
  never_such : (item : Equipment) (classes : List (Key × Class)) (day : ℕ) → (is_such item.class || is_some_such is_such classes) ≡ false →
      is_such (class_on item classes day) ≡ false
  never_such item classes day none =
      let parts = or_parts (is_such item.class) (is_some_such is_such classes) none in
      safe_or (last_such (λ entered. nat_le entered.0.day day) classes) item.class (last_safe (λ entered. nat_le entered.0.day day) classes parts.1) parts.0

-- ---- duties

-- a conjunction of five tests fails if the second fails
second_fails : (a b c d e : Bool) → b ≡ false → (a && b && c && d && e) ≡ false
second_fails a b c d e none = and_left (a && b && c && d) e (and_left (a && b && c) d (and_left (a && b) c (and_right a b none)))

-- a conjunction of six tests fails if the fourth fails
fourth_fails : (a b c d e f : Bool) → d ≡ false → (a && b && c && d && e && f) ≡ false
fourth_fails a b c d e f none = and_left (a && b && c && d && e) f (and_left (a && b && c && d) e (and_right (a && b && c) d none))

-- a conjunction of six tests fails if the third fails
third_fails : (a b c d e f : Bool) → c ≡ false → (a && b && c && d && e && f) ≡ false
third_fails a b c d e f none =
    and_left (a && b && c && d && e) f (and_left (a && b && c && d) e (and_left (a && b && c) d (and_right (a && b) c none)))

-- a valve is not a pump
valve_no_pump : (kind : Kind) → is_valve kind ≡ true → is_pump kind ≡ false
valve_no_pump Valve e = refl
valve_no_pump Pump e = cc
valve_no_pump Compressor e = refl
valve_no_pump Relief e = refl

module _ (asked : Asked) where
  -- a quarterly month of a valve has no monthly duty
  pub not_monthly : (month : ℕ) → is_valve asked.item.now.kind ≡ true → is_quarterly asked.startup asked.events.now month ≡ true →
      causes.monthly asked month ≡ None
  unfolding law.monthly
  not_monthly month valve quarterly =
      let item = asked.item.now in
      let classes = asked.classes.now in
      let day = min (last_day month) asked.day in
      let no_pump = no_pump_rules item.kind (class_on item classes day).service (valve_no_pump item.kind valve) in
      unowed item classes asked.startup asked.events.now asked.skipped.now asked.day 2 _ _ _ _
      (and_right (is_in_service item day && is_plain item classes day)
      (is_under_pump_rules item classes day || (is_under_valve_rules item classes day && not (is_quarterly asked.startup asked.events.now month)))
      (or_from (is_under_pump_rules item classes day) (is_under_valve_rules item classes day && not (is_quarterly asked.startup asked.events.now month)) no_pump
      (and_right (is_under_valve_rules item classes day) (not (is_quarterly asked.startup asked.events.now month)) (ap not quarterly))))

  -- a month that is not quarterly has no quarterly duty
  pub not_quarterly : (month : ℕ) → is_quarterly asked.startup asked.events.now month ≡ false → causes.quarterly asked month ≡ None
  unfolding law.quarterly
  not_quarterly month none =
      let item = asked.item.now in
      let classes = asked.classes.now in
      let day = min (last_day month) asked.day in
      unowed item classes asked.startup asked.events.now asked.skipped.now asked.day 3 _ _ _ _
      (fourth_fails (is_in_service item day) (is_plain item classes day) (is_under_valve_rules item classes day)
      (is_quarterly asked.startup asked.events.now month) (nat_eq (class_on item classes day).month (month_in_quarter asked.startup month))
      (not (causes.is_month_skipped asked month)) none)

  -- a component other than a valve has no quarterly duty
  pub never_quarterly : is_valve asked.item.now.kind ≡ false → (month : ℕ) → causes.quarterly asked month ≡ None
  unfolding law.quarterly
  never_quarterly none month =
      let item = asked.item.now in
      let classes = asked.classes.now in
      let day = min (last_day month) asked.day in
      unowed item classes asked.startup asked.events.now asked.skipped.now asked.day 3 _ _ _ _
      (third_fails (is_in_service item day) (is_plain item classes day) (is_under_valve_rules item classes day)
      (is_quarterly asked.startup asked.events.now month) (nat_eq (class_on item classes day).month (month_in_quarter asked.startup month))
      (not (causes.is_month_skipped asked month)) (no_valve_rules item.kind (class_on item classes day).service none))

  -- a component that is never monitored yearly has no yearly duty
  pub never_yearly : has_yearly_class asked.item.now asked.classes.now ≡ false → (year : ℕ) → causes.yearly asked year ≡ None
  unfolding law.yearly
  never_yearly none year =
      let item = asked.item.now in
      let classes = asked.classes.now in
      let day = min (last_day (12 * year + 11)) asked.day in
      let class = class_on item classes day in
      let parts = or_parts (is_difficult_designated class.designation) (is_nde_designated class.designation)
      (never_such (λ class. is_yearly_designated class.designation) item classes day none) in
      let valve = is_under_valve_rules item classes day in
      let ruled = is_under_valve_rules item classes day || is_under_pump_rules item classes day || is_under_compressor_rules item classes day in
      unowed item classes asked.startup asked.events.now asked.skipped.now asked.day 4 _ _ _ _
      (and_right (is_in_service item day) ((valve && is_difficult_designated class.designation) || (ruled && is_nde_designated class.designation))
      (or_from (valve && is_difficult_designated class.designation) (ruled && is_nde_designated class.designation)
      (and_right valve (is_difficult_designated class.designation) parts.0) (and_right ruled (is_nde_designated class.designation) parts.1)))

  -- a component that is never unsafe to monitor has no duty by a plan
  pub never_planned : has_unsafe_class asked.item.now asked.classes.now ≡ false → (month : ℕ) → causes.planned asked month ≡ None
  unfolding law.planned
  never_planned none month =
      let item = asked.item.now in
      let classes = asked.classes.now in
      let day = min (end_by (last_day month)) asked.day in
      let plan = (class_on item classes day).plan in
      unowed item classes asked.startup asked.events.now asked.skipped.now asked.day 5 _ _ _ _
      (second_fails (is_in_service item day) (is_unsafe item classes day) (is_under_valve_rules item classes day || is_under_pump_rules item classes day)
      (nat_lt 0 plan) (nat_eq ((month - month_of item.begin) % plan) 0) (never_such (λ class. is_unsafe_designated class.designation) item classes day none))

  -- a component other than a pump is on no day inspected each week
  no_pump : is_pump asked.item.now.kind ≡ false → (day : ℕ) →
      law.is_weekly asked.item.now asked.classes.now asked.startup asked.events.now asked.skipped.now asked.day day ≡ false
  no_pump none day =
      let item = asked.item.now in
      let classes = asked.classes.now in
      and_left (is_in_service item day && is_under_pump_rules item classes day) (is_plain item classes day)
      (and_right (is_in_service item day) (is_under_pump_rules item classes day) (no_pump_rules item.kind (class_on item classes day).service none))

  -- a component other than a pump has no weekly duty
  pub never_weekly : is_pump asked.item.now.kind ≡ false → (week : ℕ) → causes.weekly asked week ≡ None
  unfolding law.weekly
  never_weekly none week =
      unowed asked.item.now asked.classes.now asked.startup asked.events.now asked.skipped.now asked.day 6 _ _ _ _
      (no_pump none (min (week_last week) asked.day))

  -- a component other than a pump has no duty after drips
  never_drips : is_pump asked.item.now.kind ≡ false → (before : List Event) (e : Event) (later : List Event) → after_event asked Drips before e later ≡ None
  unfolding law.drip
  never_drips none before e later =
      unowed asked.item.now asked.classes.now asked.startup asked.events.now asked.skipped.now asked.day 7 _ _ _ _
      (and_left (has_undesignated_drips e.what
      && law.is_weekly asked.item.now asked.classes.now asked.startup asked.events.now asked.skipped.now asked.day e.key.day) (not (law.is_repeated before))
      (and_right (has_undesignated_drips e.what)
      (law.is_weekly asked.item.now asked.classes.now asked.startup asked.events.now asked.skipped.now asked.day e.key.day) (no_pump none e.key.day)))

  -- a component other than a relief device has no duty after a release
  never_release : is_relief asked.item.now.kind ≡ false → (before : List Event) (e : Event) (later : List Event) →
      after_event asked Release before e later ≡ None
  unfolding law.release
  never_release none before e later =
      unowed asked.item.now asked.classes.now asked.startup asked.events.now asked.skipped.now asked.day 8 _ _ _ _
      (and_right (is_release e.what && is_in_service asked.item.now e.key.day) (is_under_relief_rules asked.item.now asked.classes.now e.key.day)
      (no_relief_rules asked.item.now.kind (class_on asked.item.now asked.classes.now e.key.day).service none))

  -- a component that is never in heavy liquid service has no duty after evidence of a leak
  never_evidence : has_heavy_liquid_class asked.item.now asked.classes.now ≡ false → (before : List Event) (e : Event) (later : List Event) →
      after_event asked Evidence before e later ≡ None
  unfolding law.evidence
  never_evidence none before e later =
      unowed asked.item.now asked.classes.now asked.startup asked.events.now asked.skipped.now asked.day 9 _ _ _ _
      (and_right (has_evidence e.what && is_in_service asked.item.now e.key.day) (is_under_heavy_liquid_rules asked.item.now asked.classes.now e.key.day)
      (never_such (is_heavy_liquid asked.item.now.kind) asked.item.now asked.classes.now e.key.day none))

  -- a component to which no duty after an event can apply has none
  pub never_after : (after : After) → concerns after asked.item.now asked.classes.now ≡ false → (before : List Event) (e : Event) (later : List Event) →
      after_event asked after before e later ≡ None
  never_after Drips none = never_drips none
  never_after Release none = never_release none
  never_after Evidence none = never_evidence none
