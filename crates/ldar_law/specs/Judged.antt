-- A fact of a batch that is judged, and what the register contains at that point.
use Rattle.std.specs.Prelude.{ℕ, Bool, false, Option, Some, None, List, ◌∷◌, ◌++◌, filter_map, slice_get}
use Rattle.list_words.specs.Order.{put_each}
use Rattle.fact_kinds.specs.declared.class.Class.{Class}
use Rattle.fact_kinds.specs.declared.class.Kind.{Kind}
use Rattle.fact_kinds.specs.Facts.{Entry, goes_first}
use Rattle.ldar_law.specs.declared.equipment.Equipment.{Equipment}
use Rattle.ldar_law.specs.Equipment.{component_entered, classes_of}
use Rattle.ldar_law.specs.Force.{class_on}
use Rattle.ldar_law.specs.Slices.{register_facts}

-- the register by the facts of a history and some facts of a batch: in order of arrival, and in key order
pub record Register : Type 0 where
  pub entered : List Entry
  pub in_order : List Entry

-- the register by facts in key order, followed by some facts of a batch
unfoldable pub register_with : List Entry → List Entry → Register
register_with held more = record { entered = register_facts (held ++ more); in_order = register_facts (put_each goes_first more held) }

-- the component, as the first fact that enters it has it, without its retirement
abbrev pub first_entry : ℕ → List Entry → Option Equipment
first_entry component facts = slice_get (filter_map (λ e. component_entered component None e.0.day e.1.body) facts) 0

-- the class in force on a day
abbrev pub class_held : Register → Equipment → ℕ → Class
class_held register item day = class_on item (classes_of item.component register.in_order) day

-- a fact of a batch with its key, and two registers: by the history and the facts before it in its batch, and by the history and its whole
-- batch
pub record Case : Type 0 where
  pub entry : Entry
  pub known : Register
  pub whole : Register

-- a fact between the earlier and the later facts of its batch, after the facts of a history
abbrev pub case_of : List Entry → List Entry → Entry → List Entry → Case
case_of held earlier entry later =
    record { entry = entry; known = register_with held earlier; whole = register_with held (earlier ++ entry ∷ later) }

-- the component was entered, and its kind and its class on the fact's day pass the test
abbrev pub is_so_of : Case → ℕ → (Kind → Class → Bool) → Bool
is_so_of case component test = elim (first_entry component case.known.entered) [
  | None ↦ false
  | Some item ↦ test item.kind (class_held case.known item case.entry.0.day)
]

-- the component was entered, and its kind passes the test
abbrev pub is_kind_so : Case → ℕ → (Kind → Bool) → Bool
is_kind_so case component test = elim (first_entry component case.known.entered) [ None ↦ false | Some item ↦ test item.kind ]
