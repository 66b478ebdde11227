-- What is true of duties: the statements of `laws::duties`.
use Rattle.std.specs.Prelude.{ℕ, Bool, ◌&&◌, ◌||◌, nat_eq, nat_lt, nat_le, List, filter, ◌≡◌}
use Rattle.list_words.specs.Order.{Ascends}
use Rattle.list_words.specs.Words.{each_where}
use Rattle.ldar_days.specs.Calendar.{IsDay}
use Rattle.fact_kinds.specs.declared.class.Class.{Class}
use Rattle.fact_kinds.specs.declared.key.Key.{Key}
use Rattle.fact_kinds.specs.Facts.{is_earlier}
use Rattle.ldar_law.specs.declared.causes.TheConstants.{CAUSE_DRIP, CAUSE_RELEASE, CAUSE_EVIDENCE}
use Rattle.ldar_law.specs.declared.duty.Duty.{Duty}
use Rattle.ldar_law.specs.declared.equipment.Equipment.{Equipment}
use Rattle.ldar_law.specs.declared.event.Event.{Event}
use Rattle.ldar_law.specs.Duties.{duties_of, drip, release, evidence}

-- the cause is less, or the cause is the same and the due day is no later
abbrev pub comes_no_later : Duty → Duty → Bool
comes_no_later a b = nat_lt a.cause b.cause || (nat_eq a.cause b.cause && nat_le a.due b.due)

-- the duties of a component are in order of cause and due day if its events are in key order
abbrev pub DutiesStandInOrder : Type 0
DutiesStandInOrder =
    (item : Equipment) (classes : List (Key × Class)) (startup : ℕ) (events : List Event) (skipped : List Bool) (day : ℕ)
    → IsDay item.begin → Ascends (λ a b. is_earlier a.key b.key) events
    → Ascends comes_no_later (duties_of item classes startup events skipped day)

-- the duties after drips, releases and evidence are those that the events lead to, in the order of the events
abbrev pub EventDutiesFollowEvents : Type 0
EventDutiesFollowEvents =
    (item : Equipment) (classes : List (Key × Class)) (startup : ℕ) (events : List Event) (skipped : List Bool) (day : ℕ)
    → (filter (λ d. nat_eq d.cause CAUSE_DRIP) (duties_of item classes startup events skipped day)
    ≡ each_where (drip item classes startup events skipped day) events)
    × (filter (λ d. nat_eq d.cause CAUSE_RELEASE) (duties_of item classes startup events skipped day)
    ≡ each_where (release item classes startup events skipped day) events)
    × (filter (λ d. nat_eq d.cause CAUSE_EVIDENCE) (duties_of item classes startup events skipped day)
    ≡ each_where (evidence item classes startup events skipped day) events)
