-- Laws about duties and marks by the register of all facts and by the register up to the view day: the statements of `duties`.
use Rattle.std.specs.Prelude.{◌≡◌, ℕ, ◌≤◌, Bool, nat_le, List, filter}
use Rattle.std.specs.List.{AllByRecursion}
use Rattle.fact_kinds.specs.declared.class.Class.{Class}
use Rattle.fact_kinds.specs.declared.key.Key.{Key}
use Rattle.ldar_law.specs.declared.equipment.Equipment.{Equipment}
use Rattle.ldar_law.specs.declared.event.Event.{Event}
use Rattle.ldar_law.specs.Duties.{duties_of}
use Rattle.ldar_law.specs.Percent.{mark_of}
use Rattle.history_laws.specs.DayLaws.{item_on}

-- a component that has begun by the view day owes the same duties by the classes and the retirement known on the day as by all
abbrev pub DutiesForgetLaterRegister : Type 0
DutiesForgetLaterRegister =
    (t : ℕ) (item : Equipment) (classes : List (Key × Class)) (startup : ℕ) (events : List Event) (skipped : List Bool)
    → item.begin ≤ t → AllByRecursion (λ e. e.key.day ≤ t) events
    → duties_of (item_on t item) (filter (λ entered. nat_le entered.0.day t) classes) startup events skipped t
    ≡ duties_of item classes startup events skipped t

-- a component that has begun by the view day adds the same to a quarter's counts by the classes and the retirement known on the day as
-- by all
abbrev pub MarksForgetLaterRegister : Type 0
MarksForgetLaterRegister =
    (t : ℕ) (item : Equipment) (classes : List (Key × Class)) (startup : ℕ) (events : List Event) (delayed : Bool) (quarter : ℕ)
    → item.begin ≤ t
    → mark_of (item_on t item) (filter (λ entered. nat_le entered.0.day t) classes) startup events delayed quarter t
    ≡ mark_of item classes startup events delayed quarter t
