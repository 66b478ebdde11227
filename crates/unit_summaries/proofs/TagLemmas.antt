-- A tag made of what the calls below say of its span.
use Rattle.std.proofs.Common.{◌≡◌, ℕ, Option, option_map, option_and_then, List, slice_get, ap, ◌∙◌}
use Rattle.ldar_law.specs.declared.delay.DelayEntry.{DelayEntry}
use Rattle.ldar_law.specs.declared.delay.Stop.{Stop}
use Rattle.ldar_law.specs.declared.delay.Until.{Until}
use Rattle.ldar_law.specs.declared.event.Event.{Event}
use Rattle.ldar_law.specs.declared.span.Span.{Span}
use Rattle.ldar_law.specs.Delays.{attempt_by, repair_due, counted_delay, counted_place}
use Rattle.ldar_law.specs.Tags.{attempt_days, delays_of, tag_of}
use Rattle.ldar_law.proofs.DelayLemmas.{counted_place_is_of_delay}

-- the tag of a span, from its due day, the place of the delay that counts, and the delay there
pub tag_is : (component : ℕ) (events : List Event) (stops : List Stop) (span : Span) (days : List ℕ) (delays : List DelayEntry)
    (attempt : ℕ) (due : Until) (place : Option ℕ) (delay : Option DelayEntry) (closed : Option ℕ)
    → days ≡ attempt_days events → delays ≡ delays_of span events
    → attempt ≡ attempt_by span.detected.day
    → due ≡ repair_due span.detected.day days stops delays
    → place ≡ counted_place span.detected.day days stops delays
    → delay ≡ option_and_then (slice_get delays) place
    → closed ≡ option_map (λ key. key.day) span.closed
    → record {
      component = component;
      detected = span.detected.day;
      attempt_due = attempt;
      attempted = span.attempted;
      repair_due = due;
      closed = closed;
      delay = delay;
      removable = span.removable;
    } ≡ tag_of component events stops span
unfolding tag_of
tag_is component events stops span days delays attempt due place delay closed days_are delays_are attempt_is due_is place_is delay_is closed_is =
    let counts : delay ≡ counted_delay span.detected.day days stops delays =
    delay_is ∙ ap (option_and_then (slice_get delays)) place_is ∙ counted_place_is_of_delay span.detected.day days stops delays in
    cc
