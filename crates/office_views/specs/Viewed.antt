-- The value of views, and what a view changes of it and reads.
use Rattle.std.specs.Prelude.{◌≡◌, ℕ, Bool, ◌&&◌, nat_eq, if◌then◌else◌, List, drop}
use Rattle.std.specs.List.{flat_map}
use Rattle.std.specs.Option.{option_map_or}
use Rattle.fact_kinds.specs.declared.batch.Batch.{Batch}
use Rattle.fact_kinds.specs.Facts.{Entry, entries_of, facts_of}
use Rattle.fact_store.specs.Lists.{value_at}
use Rattle.ldar_law.specs.Equipment.{equipment_of}
use Rattle.ldar_law.specs.Stirred.{stirred}
use Rattle.office_views.specs.Held.{Held}

-- the adopted batches in the order in which they came, those that have room, and for each process unit the number of facts at its last
-- view or report that was answered with a text or a report
pub record Viewed : Type 0 where
  pub adopted : List Batch
  pub spare : List Batch
  pub answered : List ℕ

-- the batches only
abbrev pub held_of : Viewed → Held
held_of v = record { adopted = v.adopted; spare = v.spare }

-- the number of facts that was noted for a process unit; 0 if none was
abbrev pub noted_at : List ℕ → ℕ → ℕ
noted_at answered unit = value_at (λ count. count) 0 answered unit

-- a number of facts is noted for this process unit, if there was an answer; those of other units stay
abbrev pub Notes : Bool → ℕ → ℕ → List ℕ → List ℕ → Type 0
Notes is_answer unit facts old new = (u : ℕ) → noted_at new u ≡ (if is_answer && nat_eq u unit then facts else noted_at old u)

-- what is noted stays
abbrev pub KeepsNotes : List ℕ → List ℕ → Type 0
KeepsNotes old new = (u : ℕ) → noted_at new u ≡ noted_at old u

-- the facts that were adopted since the last answered view of a process unit
abbrev pub news_in : Viewed → ℕ → List Entry
news_in v unit = drop (noted_at v.answered unit) (flat_map entries_of v.adopted)

-- the number of facts that they stir
abbrev pub stirred_in : Viewed → ℕ → ℕ
stirred_in v unit = stirred (facts_of v.adopted) (news_in v unit) unit

-- .. of the process unit of a component; 0 if the component was not entered
abbrev pub stirred_for : Viewed → ℕ → ℕ
stirred_for v component = option_map_or (λ item. stirred_in v item.unit) (equipment_of component (facts_of v.adopted)) 0
