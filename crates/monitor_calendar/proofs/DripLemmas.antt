-- The summary of drips with one more event.
use Rattle.std.proofs.Common.{◌≡◌, Bool, true, false, not, ◌&&◌, ◌||◌, List, [], ◌∷◌, ◌++◌, refl}
use Rattle.std.specs.List.{list_any}
use Rattle.list_words.specs.Words.{somewhere_from}
use Rattle.ldar_law.specs.declared.event.Event.{Event}
use Rattle.ldar_law.specs.declared.event.Happening.{Happening}
use Rattle.ldar_law.specs.declared.event.Happening.TheVariants.{Look}
use Rattle.ldar_law.specs.Duties.{is_repeated}
use Rattle.ldar_law.specs.Happenings.{has_drips, is_below, is_dry}
use Rattle.monitor_calendar.specs.Dripping.{drips_wait}
use Rattle.monitor_calendar.proofs.PastLemmas.{one_more}

-- ---- tests

-- drips without a dry inspection since, with one more event, seen from one element
wait_step : (a y c d h : Bool) → ((a && not (y || c)) || (not c && (d || h))) ≡ (not c && (((a && not y) || d) || h))
wait_step false y c d h = refl
wait_step true true c d h = refl
wait_step true false true d h = refl
wait_step true false false d h = refl

-- repeated drips, with one more event, seen from one element
repeat_step : (a b be y c r w : Bool) → (((a && (b || be)) && not (y || c)) || (not c && (r || (w && be))))
    ≡ (not c && ((((a && b) && not y) || r) || (((a && not y) || w) && be)))
repeat_step false b be y c r w = refl
repeat_step true true be true c r w = refl
repeat_step true false true true c r w = refl
repeat_step true false false true c r w = refl
repeat_step true true be false true r w = refl
repeat_step true false true false true r w = refl
repeat_step true false false false true r w = refl
repeat_step true true be false false r w = refl
repeat_step true false true false false true w = refl
repeat_step true false true false false false w = refl
repeat_step true false false false false true w = refl
repeat_step true false false false false false true = refl
repeat_step true false false false false false false = refl

-- drips of the new event only
wait_alone : (h c : Bool) → h ≡ (not c && h) → ((h && true) || false) ≡ (not c && (false || h))
wait_alone true c e = e
wait_alone false c e = e

-- the new event only repeats nothing
repeat_alone : (h c be : Bool) → (((h && false) && true) || false) ≡ (not c && (false || (false && be)))
repeat_alone true true be = refl
repeat_alone true false be = refl
repeat_alone false true be = refl
repeat_alone false false be = refl

-- a truth value and its negation
drips_alone : (d : Bool) → d ≡ (not (not d) && d)
drips_alone true = refl
drips_alone false = refl

-- an inspection with drips is not dry
drips_not_dry : (what : Happening) → has_drips what ≡ (not (is_dry what) && has_drips what)
drips_not_dry (Look drips designated leak) = drips_alone drips
drips_not_dry _ = refl

-- ---- events

-- some event is dry, with one more event
dry_more : (events : List Event) (e : Event) → list_any (λ x. is_dry x.what) (events ++ e ∷ []) ≡ (list_any (λ x. is_dry x.what) events || is_dry e.what)
dry_more events e = one_more (λ x. is_dry x.what) events e

-- some event is below the leak definition, with one more event
below_more : (events : List Event) (e : Event) → list_any (λ x. is_below x.what) (events ++ e ∷ [])
    ≡ (list_any (λ x. is_below x.what) events || is_below e.what)
below_more events e = one_more (λ x. is_below x.what) events e

-- drips without a dry inspection since, after some events
abbrev wait_from : List Event → List Event → Bool
wait_from front events = somewhere_from (λ _ drips since. has_drips drips.what && not (list_any (λ e. is_dry e.what) since)) front events

-- drips with a reading below since, after some events
abbrev repeat_from : List Event → List Event → Bool
repeat_from front events =
    somewhere_from (λ _ drips since. has_drips drips.what && list_any (λ e. is_below e.what) since && not (list_any (λ e. is_dry e.what) since)) front events

-- drips without a dry inspection since, with one more event
wait_more : (front events : List Event) (e : Event) → wait_from front (events ++ e ∷ [])
    ≡ (not (is_dry e.what) && (wait_from front events || has_drips e.what))
wait_more front [] e = wait_alone (has_drips e.what) (is_dry e.what) (drips_not_dry e.what)
wait_more front (x ∷ xs) e =
    rw (dry_more xs e, wait_more (front ++ x ∷ []) xs e)
    (wait_step (has_drips x.what) (list_any (λ y. is_dry y.what) xs) (is_dry e.what) (wait_from (front ++ x ∷ []) xs) (has_drips e.what))

-- drips with a reading below since, with one more event
repeat_more : (front events : List Event) (e : Event) → repeat_from front (events ++ e ∷ [])
    ≡ (not (is_dry e.what) && (repeat_from front events || (wait_from front events && is_below e.what)))
repeat_more front [] e = repeat_alone (has_drips e.what) (is_dry e.what) (is_below e.what)
repeat_more front (x ∷ xs) e =
    rw (dry_more xs e, below_more xs e, repeat_more (front ++ x ∷ []) xs e)
    (repeat_step (has_drips x.what) (list_any (λ y. is_below y.what) xs) (is_below e.what) (list_any (λ y. is_dry y.what) xs) (is_dry e.what)
    (repeat_from (front ++ x ∷ []) xs) (wait_from (front ++ x ∷ []) xs))

-- the same for all events
pub drips_wait_more : (events : List Event) (e : Event) → drips_wait (events ++ e ∷ []) ≡ (not (is_dry e.what) && (drips_wait events || has_drips e.what))
drips_wait_more events e = wait_more [] events e

-- repeated drips, for all events
pub is_repeated_more : (events : List Event) (e : Event) → is_repeated (events ++ e ∷ [])
    ≡ (not (is_dry e.what) && (is_repeated events || (drips_wait events && is_below e.what)))
is_repeated_more events e = repeat_more [] events e
