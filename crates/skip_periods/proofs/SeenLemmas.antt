-- The findings about a component, one event after the other, and its marks.
use Rattle.std.proofs.Common.{◌≡◌, ℕ, ◌+◌, ◌-◌, ◌<◌, ◌≤◌, ◌/◌, Bool, true, false, ◌&&◌, ◌||◌, nat_eq, List, [], take, length}
use Rattle.std.proofs.Common.{set, get_or, replicate, refl, sym, ap, ◌∙◌, inl, inr, arith}
use Rattle.std.proofs.lemmas.Bool.{and_left, cases_eq, ne_eqb, eq-eqb, lt-ltb, le-ltb}
use Rattle.std.proofs.lemmas.List.{get_or_default, get_or-set_same, get_or-set_other, length-set, get_or-replicate, length-replicate}
use Rattle.std.proofs.lemmas.List.Folds.{list_any_more}
use Rattle.ldar_days.specs.Calendar.{month_of}
use Rattle.ldar_days.specs.Quarters.{quarter_of, first_quarter}
use Rattle.fact_kinds.specs.declared.class.Class.{Class}
use Rattle.fact_kinds.specs.declared.key.Key.{Key}
use Rattle.fact_kinds.specs.Named.{is_numbered}
use Rattle.ldar_law.specs.declared.equipment.Equipment.{Equipment}
use Rattle.ldar_law.specs.declared.event.Event.{Event}
use Rattle.ldar_law.specs.declared.event.Happening.{Happening}
use Rattle.ldar_law.specs.declared.event.Happening.TheVariants.{Read, Look, Attempt, Delay, Release, Sensor, Evidence, Retire}
use Rattle.ldar_law.specs.declared.tally.Mark.{Mark}
use Rattle.ldar_law.specs.Happenings.{is_routine, is_routine_leak}
use Rattle.ldar_law.specs.Percent.{is_in_quarter, is_counted, is_first_missed, mark_of}
use Rattle.skip_periods.specs.Seen.{seen_in, seen_with, seen_or_missed, told_in, AreSeen, LooksAt, mark_for}

-- two marks with equal fields are equal
same_mark : (m : Mark) (a b : Bool) → m.leaking ≡ a → m.monitored ≡ b → m ≡ record { leaking = a; monitored = b }
same_mark m a b leaks monitors = rw (sym leaks, sym monitors) refl

-- an event outside the quarter adds nothing
adds_nothing : (a b : Bool) → a ≡ (a || (b && false))
adds_nothing true b = refl
adds_nothing false true = refl
adds_nothing false false = refl

-- an event in the quarter adds its own result
adds_itself : (a b : Bool) → (a || b) ≡ (a || (b && true))
adds_itself true b = refl
adds_itself false true = refl
adds_itself false false = refl

or_false : (a : Bool) → a ≡ (a || false)
or_false true = refl
or_false false = refl

-- an event of another quarter does not change the finding
shows_nothing : (startup quarter : ℕ) (e : Event) (m : Mark) → is_in_quarter startup quarter e.key.day ≡ false → m ≡ seen_with startup e quarter m
shows_nothing startup quarter e m other =
    same_mark m _ _
    (adds_nothing m.leaking (is_routine_leak e.what) ∙ ap (λ b. m.leaking || (is_routine_leak e.what && b)) (sym other))
    (adds_nothing m.monitored (is_routine e.what) ∙ ap (λ b. m.monitored || (is_routine e.what && b)) (sym other))

-- an event that is no counting routine reading is no leak of one
no_leak_either : (what : Happening) → is_routine what ≡ false → is_routine_leak what ≡ false
no_leak_either (Read ppm background routine counts below leak) other = and_left (routine && counts) leak other
no_leak_either (Look drips designated leak) other = refl
no_leak_either (Attempt complete) other = refl
no_leak_either (Delay why signer expected) other = refl
no_leak_either Release other = refl
no_leak_either (Sensor present leak) other = refl
no_leak_either (Evidence present) other = refl
no_leak_either Retire other = refl

-- an event that fails the test adds nothing
adds_none : (a here : Bool) → a ≡ (a || (false && here))
adds_none true here = refl
adds_none false here = refl

-- an event that is no counting routine reading changes no finding
says_nothing : (startup quarter : ℕ) (e : Event) (m : Mark) → is_routine e.what ≡ false → m ≡ seen_with startup e quarter m
says_nothing startup quarter e m other =
    same_mark m _ _
    (adds_none m.leaking (is_in_quarter startup quarter e.key.day)
    ∙ ap (λ b. m.leaking || (b && is_in_quarter startup quarter e.key.day)) (sym (no_leak_either e.what other)))
    (adds_none m.monitored (is_in_quarter startup quarter e.key.day)
    ∙ ap (λ b. m.monitored || (b && is_in_quarter startup quarter e.key.day)) (sym other))

-- an event of the quarter adds its own result to the finding
shows_itself : (startup quarter : ℕ) (e : Event) (m new : Mark) → is_in_quarter startup quarter e.key.day ≡ true →
    new.leaking ≡ (m.leaking || is_routine_leak e.what) → new.monitored ≡ (m.monitored || is_routine e.what) → new ≡ seen_with startup e quarter m
shows_itself startup quarter e m new here leaks monitors =
    same_mark new _ _
    (leaks ∙ adds_itself m.leaking (is_routine_leak e.what) ∙ ap (λ b. m.leaking || (is_routine_leak e.what && b)) (sym here))
    (monitors ∙ adds_itself m.monitored (is_routine e.what) ∙ ap (λ b. m.monitored || (is_routine e.what && b)) (sym here))

module _ (startup : ℕ) (e : Event) (seen : List Mark) where
  -- an event that is no counting routine reading
  pub looks_unseen : is_routine e.what ≡ false → LooksAt startup e seen seen
  looks_unseen other = record {
    count = refl;
    each = λ k d within. says_nothing startup (k + 1) e (get_or seen k d) other;
  }

  -- an event before quarter 1
  pub looks_before : (all : (q : ℕ) → is_in_quarter startup q e.key.day ≡ false) → LooksAt startup e seen seen
  looks_before all = record {
    count = refl;
    each = λ k d within. shows_nothing startup (k + 1) e (get_or seen k d) (all (k + 1));
  }

  -- an event after the last quarter
  pub looks_behind : (place : ℕ) → length seen ≤ place → ((q : ℕ) → is_in_quarter startup q e.key.day ≡ nat_eq (place + 1) q) → LooksAt startup e seen seen
  looks_behind place past lies = record {
    count = refl;
    each = λ k d within. shows_nothing startup (k + 1) e (get_or seen k d) (lies (k + 1) ∙ ne_eqb (place + 1) (k + 1) (λ same. absurd (omega (arith, same))));
  }

  -- an event in one of the quarters
  pub looks_within : (place : ℕ) (old new : Mark) → place < length seen → ((q : ℕ) → is_in_quarter startup q e.key.day ≡ nat_eq (place + 1) q) →
      old ≡ get_or seen place old → new.leaking ≡ (old.leaking || is_routine_leak e.what) → new.monitored ≡ (old.monitored || is_routine e.what) →
      LooksAt startup e seen (set seen place new)
  looks_within place old new within lies stands leaks monitors = record {
    count = length-set seen place new;
    each = λ k d inside. elim (cases_eq k place) [
      | inl same ↦
          rw same
          (get_or-set_same seen place new d within
          ∙ shows_itself startup (place + 1) e old new (lies (place + 1) ∙ eq-eqb (place + 1) (place + 1) refl) leaks monitors
          ∙ ap (seen_with startup e (place + 1)) (stands ∙ get_or_default seen place old d within))
      | inr other ↦
          get_or-set_other seen place k new d other
          ∙ shows_nothing startup (k + 1) e (get_or seen k d) (lies (k + 1) ∙ ne_eqb (place + 1) (k + 1) (λ same. other (omega (arith, same))))
    ];
  }

-- an event of a month before quarter 1 is in no quarter
pub lies_nowhere : (startup first month : ℕ) (e : Event) → first ≡ first_quarter startup → month ≡ month_of e.key.day → month < first →
    (q : ℕ) → is_in_quarter startup q e.key.day ≡ false
lies_nowhere startup first month e first_is month_is early q =
    ap (λ m. is_numbered (quarter_of startup m) q) (sym month_is) ∙ rw (sym first_is, lt-ltb month first early) refl

-- an event of a later month is in the quarter of its entry
pub lies_at : (startup first month place : ℕ) (e : Event) → first ≡ first_quarter startup → month ≡ month_of e.key.day → first ≤ month →
    place ≡ (month - first) / 3 → (q : ℕ) → is_in_quarter startup q e.key.day ≡ nat_eq (place + 1) q
lies_at startup first month place e first_is month_is on place_is q =
    ap (λ m. is_numbered (quarter_of startup m) q) (sym month_is) ∙ rw (sym first_is, le-ltb month first on, place_is) refl

-- without an event nothing is found
pub seen_none : (startup quarter : ℕ) (events : List Event) → AreSeen startup (take 0 events) quarter
    (replicate quarter (record { leaking = false; monitored = false }))
seen_none startup quarter events = record {
  count = length-replicate quarter _;
  each = λ k d within. get_or-replicate quarter k _ d within;
}

-- one event after the other
pub seen_more : (startup quarter : ℕ) (events : List Event) (i : ℕ) (e : Event) (old new : List Mark) → i < length events → e ≡ get_or events i e →
    AreSeen startup (take i events) quarter old → LooksAt startup e old new → AreSeen startup (take (i + 1) events) quarter new
seen_more startup quarter events i e old new within stands seen looks = record {
  count = looks.count ∙ seen.count;
  each = λ k d inside.
      looks.each k d (omega (arith, seen.count, inside))
      ∙ ap (seen_with startup e (k + 1)) (seen.each k d inside)
      ∙ ap (λ x. seen_with startup x (k + 1) (seen_in startup (take i events) (k + 1))) stands
      ∙ sym (same_mark (seen_in startup (take (i + 1) events) (k + 1)) _ _
      (list_any_more (λ x. is_routine_leak x.what && is_in_quarter startup (k + 1) x.key.day) events i e within)
      (list_any_more (λ x. is_routine x.what && is_in_quarter startup (k + 1) x.key.day) events i e within));
}

-- a missed first monitoring can be added before a delay or after it
pub missed_first : (seen delayed missed : Bool) → (seen || missed || delayed) ≡ (seen || delayed || missed)
missed_first true delayed missed = refl
missed_first false true true = refl
missed_first false true false = refl
missed_first false false true = refl
missed_first false false false = refl

-- a first monitoring that was not missed adds nothing
pub misses_nothing : (m : Mark) → m ≡ seen_or_missed m false
misses_nothing m = same_mark m _ _ (or_false m.leaking) (or_false m.monitored)

-- the mark from a finding
pub mark_is : (item : Equipment) (classes : List (Key × Class)) (startup : ℕ) (events : List Event) (delayed : List Bool) (day quarter : ℕ) (told mark : Mark)
    (counted is_delayed : Bool) → counted ≡ is_counted item classes startup [] false quarter day → told ≡ told_in item classes startup events day quarter →
    is_delayed ≡ get_or delayed (quarter - 1) false → mark.leaking ≡ (counted && (told.leaking || is_delayed)) →
    mark.monitored ≡ (counted && (told.monitored || is_delayed)) → mark ≡ mark_for item classes startup events delayed day quarter
unfolding mark_of
mark_is item classes startup events delayed day quarter told mark counted is_delayed counted_is told_is delayed_is leaks monitors =
    let seen = seen_in startup events quarter in
    let missed = is_first_missed item classes startup events false quarter day in
    let is_now = is_counted item classes startup [] false quarter day in
    let is_told = get_or delayed (quarter - 1) false in
    same_mark mark _ _ (leaks ∙ rw (counted_is, told_is, delayed_is) (ap (λ b. is_now && b) (missed_first seen.leaking is_told missed)))
    (monitors ∙ rw (counted_is, told_is, delayed_is) (ap (λ b. is_now && b) (missed_first seen.monitored is_told missed)))
