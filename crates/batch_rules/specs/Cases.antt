-- The case of a fact, and the component that the fact requires.
use Rattle.std.specs.Prelude.{◌≡◌, ℕ, ◌≤◌, Option, List, length, take}
use Rattle.fact_kinds.specs.declared.limits.TheConstants.{BATCH_FACTS}
use Rattle.fact_kinds.specs.declared.batch.Batch.{Batch}
use Rattle.fact_kinds.specs.declared.class.Class.{Class}
use Rattle.fact_kinds.specs.declared.class.Kind.{Kind}
use Rattle.fact_kinds.specs.Facts.{Entry, key_of, entries_from, entries_of}
use Rattle.fact_kinds.specs.Stated.{Stated}
use Rattle.ldar_law.specs.Judged.{Case, register_with}
use Rattle.batch_rules.specs.declared.known_facts.Known.{Known}
use Rattle.batch_rules.specs.Known.{batch_of, register_at}
use Rattle.batch_rules.specs.Passed.{ArePassed}
use Rattle.batch_rules.specs.KindsAndClasses.{kind_and_class_by}

-- the case of a fact at a place (from 0) of a batch, with what is known before it and with the whole batch
abbrev pub case_at : Stated → ℕ → Known → Known → Case
case_at fact index known whole =
    record { entry = (key_of (batch_of whole) index fact, fact); known = register_at known; whole = register_at whole }

-- the case of a fact of a batch, after some facts are held
abbrev pub case_in : List Entry → Batch → ℕ → Stated → Case
case_in held batch i fact = record {
  entry = (key_of batch i fact, fact);
  known = register_with held (entries_from batch 0 (take i batch.facts));
  whole = register_with held (entries_of batch);
}

-- the type and class, on the fact's day, of the component that the fact requires
unfoldable pub kind_and_class_asked : Case → Option (Kind × Class)
kind_and_class_asked case = kind_and_class_by case.known case.entry.0.day case.entry.1.body

-- the invariant of a case
pub record IsSound (fact : Stated) (index : ℕ) (known whole : Known) (kind_and_class : Option (Kind × Class)) (asked_before : List (ℕ × ℕ)) : Type 0 where
  pub few : length known.front.now ≤ BATCH_FACTS
  pub whole_few : length whole.front.now ≤ BATCH_FACTS
  pub asked : kind_and_class ≡ kind_and_class_asked (case_at fact index known whole)
  pub passed : ArePassed (register_at whole) asked_before
