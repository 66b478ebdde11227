use Rattle.std.proofs.Common.{◌≡◌, ℕ, Bool, false, nat_eq, Option, Some, None, IfSome, List, [], ◌∷◌, ◌++◌, refl, ap}
use Rattle.std.specs.Prelude.{filter, filter_map, option_to_list}
use Rattle.std.specs.List.{AllByRecursion, cons_option}
use Rattle.std.proofs.lemmas.Bool.{eq-eqb}
use Rattle.std.proofs.lemmas.List.{append-nil}
use Rattle.std.proofs.lemmas.List.Elements.{filter-append}
use Rattle.list_words.specs.Words.{each_from, each_where}
use Rattle.fact_kinds.specs.declared.class.Class.{Class}
use Rattle.fact_kinds.specs.declared.key.Key.{Key}
use Rattle.ldar_law.specs.declared.duty.Duty.{Duty}
use Rattle.ldar_law.specs.declared.equipment.Equipment.{Equipment}
use Rattle.ldar_law.specs.declared.event.Event.{Event}
use Rattle.ldar_law.specs.Duties.{first_monitoring, monthly, quarterly, yearly, planned, weekly, drip, release, evidence, months_after, years_after}
use Rattle.ldar_law.specs.Duties.{window_ends, weeks_after, duties_of}
use Rattle.ldar_law.specs.DutyLaws.{EventDutiesFollowEvents}
use Rattle.ldar_law.proofs.DutyLemmas.{IsOf, first_form, monthly_form, quarterly_form, yearly_form, planned_form, weekly_form, drip_form, release_form}
use Rattle.ldar_law.proofs.DutyLemmas.{evidence_form}

-- the duty has this cause
abbrev Has : ℕ → Duty → Type 0
Has cause d = d.cause ≡ cause

-- a duty with a cause and a due day has the cause
has_cause : (cause due : ℕ) (o : Option Duty) → IfSome o (IsOf cause due) → IfSome o (Has cause)
has_cause cause due None is = tt
has_cause cause due (Some d) is = is.0

-- one more duty with the cause, if there is one
one_more : (cause : ℕ) (o : Option Duty) (ds : List Duty) → IfSome o (Has cause) → AllByRecursion (Has cause) ds → AllByRecursion (Has cause) (cons_option o ds)
one_more cause None ds is all = all
one_more cause (Some d) ds is all = (is, all)

alone : (cause : ℕ) (o : Option Duty) → IfSome o (Has cause) → AllByRecursion (Has cause) (option_to_list o)
alone cause None is = tt
alone cause (Some d) is = (is, tt)

of_numbers : (cause : ℕ) (f : ℕ → Option Duty) → ((n : ℕ) → IfSome (f n) (Has cause)) → (ns : List ℕ) → AllByRecursion (Has cause) (filter_map f ns)
of_numbers cause f gives [] = tt
of_numbers cause f gives (n ∷ ns) = one_more cause (f n) (filter_map f ns) (gives n) (of_numbers cause f gives ns)

of_events : (cause : ℕ) (f : List Event → Event → List Event → Option Duty) →
    ((before : List Event) (e : Event) (after : List Event) → IfSome (f before e after) (Has cause)) →
    (front events : List Event) → AllByRecursion (Has cause) (each_from f front events)
of_events cause f gives front [] = tt
of_events cause f gives front (e ∷ events) =
    one_more cause (f front e events) (each_from f (front ++ e ∷ []) events) (gives front e events) (of_events cause f gives (front ++ e ∷ []) events)

-- the duties of a cause among duties of a single cause are all of them, or none
all_kept : (cause : ℕ) (ds : List Duty) → AllByRecursion (Has cause) ds → filter (λ d. nat_eq d.cause cause) ds ≡ ds
all_kept cause [] all = refl
all_kept cause (d ∷ ds) all = rw (eq-eqb d.cause cause all.0) (ap (λ es. d ∷ es) (all_kept cause ds all.1))

-- none of the duties of another cause is kept
none_kept : (wanted cause : ℕ) → nat_eq cause wanted ≡ false → (ds : List Duty) → AllByRecursion (Has cause) ds → filter (λ d. nat_eq d.cause wanted) ds ≡ []
none_kept wanted cause other [] all = refl
none_kept wanted cause other (d ∷ ds) all = rw (all.0, other) (none_kept wanted cause other ds all.1)

-- a block of another cause before the block of this cause
passed : (wanted cause : ℕ) → nat_eq cause wanted ≡ false → (xs ys zs : List Duty) → AllByRecursion (Has cause) xs →
    filter (λ d. nat_eq d.cause wanted) ys ≡ zs → filter (λ d. nat_eq d.cause wanted) (xs ++ ys) ≡ zs
passed wanted cause other xs ys zs all rest = rw (filter-append (λ d. nat_eq d.cause wanted) xs ys, none_kept wanted cause other xs all) rest

-- only the block of this cause is kept
taken : (cause : ℕ) (xs ys : List Duty) → AllByRecursion (Has cause) xs → filter (λ d. nat_eq d.cause cause) ys ≡ [] →
    filter (λ d. nat_eq d.cause cause) (xs ++ ys) ≡ xs
taken cause xs ys all none = rw (filter-append (λ d. nat_eq d.cause cause) xs ys, all_kept cause xs all, none) (append-nil xs)

module _ (item : Equipment) (classes : List (Key × Class)) (startup : ℕ) (events : List Event) (skipped : List Bool) (day : ℕ) where
  firsts : AllByRecursion (Has 1) (option_to_list (first_monitoring item classes startup events skipped day))
  firsts =
      alone 1 (first_monitoring item classes startup events skipped day)
      (has_cause 1 _ (first_monitoring item classes startup events skipped day) (first_form item classes startup events skipped day))

  months : (ns : List ℕ) → AllByRecursion (Has 2) (filter_map (monthly item classes startup events skipped day) ns)
  months =
      of_numbers 2 (monthly item classes startup events skipped day)
      (λ n. has_cause 2 _ (monthly item classes startup events skipped day n) (monthly_form item classes startup events skipped day n))

  quarters : (ns : List ℕ) → AllByRecursion (Has 3) (filter_map (quarterly item classes startup events skipped day) ns)
  quarters =
      of_numbers 3 (quarterly item classes startup events skipped day)
      (λ n. has_cause 3 _ (quarterly item classes startup events skipped day n) (quarterly_form item classes startup events skipped day n))

  years : (ns : List ℕ) → AllByRecursion (Has 4) (filter_map (yearly item classes startup events skipped day) ns)
  years =
      of_numbers 4 (yearly item classes startup events skipped day)
      (λ n. has_cause 4 _ (yearly item classes startup events skipped day n) (yearly_form item classes startup events skipped day n))

  windows : (ns : List ℕ) → AllByRecursion (Has 5) (filter_map (planned item classes startup events skipped day) ns)
  windows =
      of_numbers 5 (planned item classes startup events skipped day)
      (λ n. has_cause 5 _ (planned item classes startup events skipped day n) (planned_form item classes startup events skipped day n))

  weeks : (ns : List ℕ) → AllByRecursion (Has 6) (filter_map (weekly item classes startup events skipped day) ns)
  weeks =
      of_numbers 6 (weekly item classes startup events skipped day)
      (λ n. has_cause 6 _ (weekly item classes startup events skipped day n) (weekly_form item classes startup events skipped day n))

  drips : AllByRecursion (Has 7) (each_where (drip item classes startup events skipped day) events)
  drips =
      of_events 7 (drip item classes startup events skipped day)
      (λ before e after. has_cause 7 _ (drip item classes startup events skipped day before e after)
      (drip_form item classes startup events skipped day before e after)) [] events

  releases : AllByRecursion (Has 8) (each_where (release item classes startup events skipped day) events)
  releases =
      of_events 8 (release item classes startup events skipped day)
      (λ before e after. has_cause 8 _ (release item classes startup events skipped day before e after)
      (release_form item classes startup events skipped day before e after)) [] events

  evidences : AllByRecursion (Has 9) (each_where (evidence item classes startup events skipped day) events)
  evidences =
      of_events 9 (evidence item classes startup events skipped day)
      (λ before e after. has_cause 9 _ (evidence item classes startup events skipped day before e after)
      (evidence_form item classes startup events skipped day before e after)) [] events

  -- the duties of a cause from 7 on are those of the blocks from there on
  past_periods : (wanted : ℕ) → nat_eq 1 wanted ≡ false → nat_eq 2 wanted ≡ false → nat_eq 3 wanted ≡ false → nat_eq 4 wanted ≡ false →
      nat_eq 5 wanted ≡ false → nat_eq 6 wanted ≡ false →
      (zs : List Duty) → filter (λ d. nat_eq d.cause wanted) (each_where (drip item classes startup events skipped day) events
      ++ (each_where (release item classes startup events skipped day) events ++ each_where (evidence item classes startup events skipped day) events)) ≡ zs →
      filter (λ d. nat_eq d.cause wanted) (duties_of item classes startup events skipped day) ≡ zs
  unfolding duties_of
  past_periods wanted one two three four five six zs rest =
      passed wanted 1 one _ _ zs firsts
      (passed wanted 2 two _ _ zs (months (months_after item classes startup events skipped day))
      (passed wanted 3 three _ _ zs (quarters (months_after item classes startup events skipped day))
      (passed wanted 4 four _ _ zs (years (years_after item classes startup events skipped day))
      (passed wanted 5 five _ _ zs (windows (window_ends item classes startup events skipped day))
      (passed wanted 6 six _ _ zs (weeks (weeks_after item classes startup events skipped day)) rest)))))

pub event_duties_follow_events : EventDutiesFollowEvents
event_duties_follow_events item classes startup events skipped day =
    let drip_list = each_where (drip item classes startup events skipped day) events in
    let release_list = each_where (release item classes startup events skipped day) events in
    let evidence_list = each_where (evidence item classes startup events skipped day) events in
    let all_drips = drips item classes startup events skipped day in
    let all_releases = releases item classes startup events skipped day in
    let all_evidences = evidences item classes startup events skipped day in (
      past_periods item classes startup events skipped day 7 refl refl refl refl refl refl drip_list
          (taken 7 drip_list (release_list ++ evidence_list) all_drips
          (passed 7 8 refl release_list evidence_list [] all_releases (none_kept 7 9 refl evidence_list all_evidences))),
      past_periods item classes startup events skipped day 8 refl refl refl refl refl refl release_list
          (passed 8 7 refl drip_list (release_list ++ evidence_list) release_list all_drips
          (taken 8 release_list evidence_list all_releases (none_kept 8 9 refl evidence_list all_evidences))),
      past_periods item classes startup events skipped day 9 refl refl refl refl refl refl evidence_list
          (passed 9 7 refl drip_list (release_list ++ evidence_list) evidence_list all_drips
          (passed 9 8 refl release_list evidence_list evidence_list all_releases (all_kept 9 evidence_list all_evidences))),
    )
