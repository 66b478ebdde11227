-- What is known of a component on a day, as far as it counts among the valves of its process unit (40 CFR 60.482-7a(h)(2)(ii)).
use Rattle.std.specs.Prelude.{◌≡◌, ℕ, ◌-◌, ◌<◌, ◌≤◌, Bool, not, ◌&&◌, ◌||◌, nat_eq, nat_le, if◌then◌else◌, Option, None, Some, List, get_or, slice_get, unwrap_or}
use Rattle.std.specs.Option.{option_map, option_or}
use Rattle.fact_kinds.specs.declared.class.Class.{Class}
use Rattle.fact_kinds.specs.Facts.{Entry}
use Rattle.ldar_law.specs.declared.equipment.Equipment.{Equipment}
use Rattle.ldar_law.specs.Equipment.{retires, retired_on, component_entered, class_at, classes_of}
use Rattle.ldar_law.specs.Force.{class_by, has_come}
use Rattle.ldar_law.specs.Judged.{Register, first_entry}
use Rattle.ldar_law.specs.Kinds.{is_valve}
use Rattle.ldar_law.specs.RegisterLaws.{with_class}
use Rattle.ldar_law.specs.Standing.{is_difficult_designated}
use Rattle.batch_rules.specs.declared.known_facts.Known.{Known}
use Rattle.batch_rules.specs.declared.seen.Seen.{Seen}
use Rattle.batch_rules.specs.declared.share.Share.{Share}
use Rattle.batch_rules.specs.declared.touched.Touched.{Touched}
use Rattle.batch_rules.specs.Known.{register_by}

-- what a register says of a component on a day
abbrev pub seen_in : Register → ℕ → ℕ → Seen
seen_in register number day = record {
  item = first_entry number register.entered;
  retired = has_come (retired_on number register.in_order) day;
  latest = class_by day (classes_of number register.in_order);
}

-- .. with one more fact
abbrev pub seen_with : ℕ → ℕ → Entry → Seen → Seen
seen_with number day e seen = record {
  item = option_or seen.item (component_entered number None e.0.day e.1.body);
  retired = seen.retired || (retires number e.1.body && nat_le e.0.day day);
  latest = with_class day (class_at number e) seen.latest;
}

-- the class in force
abbrev pub class_seen : Seen → Equipment → Class
class_seen seen item = unwrap_or (option_map (λ entered. entered.1) seen.latest) item.class

-- it is a valve of the process unit, in service on the day
abbrev pub is_valve_seen : ℕ → ℕ → Seen → Equipment → Bool
is_valve_seen unit day seen item = nat_eq item.unit unit && is_valve item.kind && (nat_le item.begin day && not seen.retired)

-- the share of a process unit on a day that it adds
abbrev pub share_seen : ℕ → ℕ → Seen → Share
share_seen unit day seen = elim seen.item [
  | None ↦ record { valves = 0; difficult = 0 }
  | Some item ↦ record {
    valves = if is_valve_seen unit day seen item then 1 else 0;
    difficult = if is_valve_seen unit day seen item && is_difficult_designated (class_seen seen item).designation then 1 else 0;
  }
]

-- what stands at a place, counted from 1; nothing at 0
abbrev pub seen_at : List Seen → ℕ → Option Seen
seen_at seen place = if nat_eq place 0 then None else slice_get seen (place - 1)

-- what a table has of a component
abbrev pub found_in : Touched → ℕ → Option Seen
found_in table number = seen_at table.seen (get_or table.last number 0)

-- the table has no more than the first places
abbrev pub IsUpTo : ℕ → Touched → Type 0
IsUpTo count table = (number : ℕ) → number < 65_536 → get_or table.last number 0 ≤ count

-- the table has what the first facts of a batch change, and the register has the rest
pub record HasTouched (known : Known) (day count : ℕ) (table : Touched) : Type 0 where
  pub up_to : IsUpTo count table
  pub told : (number : ℕ) → number < 65_536
      → seen_in (register_by known count) number day ≡ unwrap_or (found_in table number) (seen_in (register_by known 0) number day)
