-- What a drill shows on the day of its views.
use Rattle.std.proofs.Common.{◌≡◌, ◌⊎◌, ℕ, zero, suc, ◌+◌, Bool, true, false, ◌&&◌, ◌||◌, cond, nat_le, Option, Some, None, List, [], ◌∷◌, filter}
use Rattle.std.proofs.Common.{length, refl, ap, ◌∙◌, inl, inr, reverse}
use Rattle.std.specs.List.{AllByRecursion, list_any, flat_map}
use Rattle.std.specs.Option.{is_some}
use Rattle.std.proofs.lemmas.Bool.{cases_Bool, false≢true}
use Rattle.list_words.specs.Parts.{cut}
use Rattle.list_words.proofs.Ascending.{all_in_order}
use Rattle.list_words.proofs.Members.{all_append}
use Rattle.ldar_days.specs.Calendar.{first_day, month_length, month_of}
use Rattle.ldar_days.specs.Quarters.{first_quarter, last_whole}
use Rattle.fact_kinds.specs.declared.batch.Batch.{Batch}
use Rattle.fact_kinds.specs.declared.limits.TheConstants.{BATCH_FACTS}
use Rattle.fact_kinds.specs.Facts.{Entry, goes_first, entries_from, entries_of, facts_of, facts_to}
use Rattle.fact_kinds.specs.Stated.{Stated}
use Rattle.ldar_law.specs.declared.reply.Reply.{Reply}
use Rattle.ldar_law.specs.declared.reply.Reply.TheVariants.{Shown, NoSuch}
use Rattle.ldar_law.specs.declared.request.What.TheVariants.{Unit as NoUnit, Quarter as NoQuarter}
use Rattle.ldar_law.specs.declared.unit_entry.UnitEntry.{UnitEntry}
use Rattle.ldar_law.specs.Equipment.{unit_entered, unit_entry_of}
use Rattle.ldar_law.specs.Reports.{has_quarter_begun}
use Rattle.ldar_law.specs.Shown.{shown, quarter_text}
use Rattle.ldar_law.proofs.RegisterLemmas.{list_any-in_order}
use Rattle.drill_history.specs.declared.numbers.TheConstants.{MONTHS, SHOWN_DAY, SHOWN_QUARTER, STARTUP}
use Rattle.drill_history.specs.Drill.{valve_fact, valves, register_facts_of, reading_of, readings, month_facts, month_parts, numbered}
use Rattle.drill_history.specs.Drill.{register_batches, month_batches, drill_history}
use Rattle.drill_history.specs.Laws.{drill_unit, DrillUnitIsEntered, DrillShowsQuarter}
use Rattle.drill_history.proofs.DrillLemmas.{all_cut_up_to, all_reversed}

-- a fact enters no unit 1 but the drill's
abbrev EntersIt : Stated → Type 0
EntersIt fact = (unit_entered 1 fact.day fact.body ≡ None) ⊎ (unit_entered 1 fact.day fact.body ≡ Some drill_unit)

abbrev EntryEntersIt : Entry → Type 0
EntryEntersIt e = (unit_entered 1 e.0.day e.1.body ≡ None) ⊎ (unit_entered 1 e.0.day e.1.body ≡ Some drill_unit)

-- ---- the facts of a drill

all_valves : (size : ℕ) → AllByRecursion EntersIt (valves size)
all_valves zero = tt
all_valves (suc size) = all_append EntersIt (valves size) (valve_fact (suc size) ∷ []) (all_valves size) (inl refl, tt)

all_readings : (seed month count : ℕ) → AllByRecursion EntersIt (readings seed month count)
all_readings seed month zero = tt
all_readings seed month (suc count) =
    all_append EntersIt (readings seed month count) (reading_of seed month (suc count) ∷ []) (all_readings seed month count) (inl refl, tt)

all_parts : (seed size count : ℕ) → AllByRecursion (AllByRecursion EntersIt) (month_parts seed size count)
unfolding month_parts
all_parts seed size zero = tt
all_parts seed size (suc count) =
    all_append (AllByRecursion EntersIt) (month_parts seed size count) (cut BATCH_FACTS (month_facts seed size (suc count))) (all_parts seed size count)
    (all_cut_up_to EntersIt (length (month_facts seed size (suc count))) BATCH_FACTS (month_facts seed size (suc count))
    (inl refl, (inl refl, all_readings seed (suc count) size)))

abbrev BatchEntersIt : Batch → Type 0
BatchEntersIt b = AllByRecursion EntersIt b.facts

all_numbered : (handheld number : ℕ) (parts : List (List Stated)) → AllByRecursion (AllByRecursion EntersIt) parts
    → AllByRecursion BatchEntersIt (numbered handheld number parts)
all_numbered handheld number [] all = tt
all_numbered handheld number (part ∷ parts) all = (all.0, all_numbered handheld (number + 1) parts all.1)

all_batches : (seed size : ℕ) → AllByRecursion BatchEntersIt (drill_history seed size)
unfolding drill_history register_batches month_batches
all_batches seed size =
    all_append BatchEntersIt (register_batches size) (reverse (month_batches seed size))
    (all_numbered 0 1 (cut BATCH_FACTS (register_facts_of size))
    (all_cut_up_to EntersIt (length (register_facts_of size)) BATCH_FACTS (register_facts_of size) (inr refl, all_valves size)))
    (all_reversed BatchEntersIt (month_batches seed size) (all_numbered 1 1 (month_parts seed size MONTHS) (all_parts seed size MONTHS)))

-- ---- its entries

entries_enter : (batch : Batch) (index : ℕ) (facts : List Stated) → AllByRecursion EntersIt facts → AllByRecursion EntryEntersIt (entries_from batch index facts)
entries_enter batch index [] all = tt
entries_enter batch index (fact ∷ facts) all = (all.0, entries_enter batch (index + 1) facts all.1)

history_enters : (history : List Batch) → AllByRecursion BatchEntersIt history → AllByRecursion EntryEntersIt (flat_map entries_of history)
history_enters [] all = tt
history_enters (batch ∷ history) all =
    all_append EntryEntersIt (entries_of batch) (flat_map entries_of history) (entries_enter batch 0 batch.facts all.0) (history_enters history all.1)

all_filtered : (q : Entry → Bool) (es : List Entry) → AllByRecursion EntryEntersIt es → AllByRecursion EntryEntersIt (filter q es)
all_filtered q [] all = tt
all_filtered q (e ∷ es) all = elim (cases_Bool (q e)) [
  | inl here ↦ rw here (all.0, all_filtered q es all.1)
  | inr gone ↦ rw gone (all_filtered q es all.1)
]

not_here : (b rest : Bool) → ((b && false) || rest) ≡ true → rest ≡ true
not_here true rest any = any
not_here false rest any = any

-- some entry enters the unit by the day, so some entry up to the day does
some_up_to : (p q : Entry → Bool) (es : List Entry) → list_any (λ e. p e && q e) es ≡ true → list_any p (filter q es) ≡ true
some_up_to p q [] some = absurd (false≢true some)
some_up_to p q (e ∷ es) some =
    elim (cases_Bool (q e)) [
      | inl here ↦ rw here (elim (cases_Bool (p e)) [
        | inl passes ↦ rw passes refl
        | inr fails ↦ rw fails (some_up_to p q es (rw fails at some))
      ])
      | inr gone ↦ rw gone (some_up_to p q es (not_here (p e) (list_any (λ e. p e && q e) es) (rw gone at some)))
    ]

-- the first that enters the unit enters the drill's
first_entered : (es : List Entry) → AllByRecursion EntryEntersIt es → list_any (λ e. is_some (unit_entered 1 e.0.day e.1.body)) es ≡ true
    → unit_entry_of 1 es ≡ Some drill_unit
first_entered [] all some = absurd (false≢true some)
first_entered (e ∷ es) all some = elim all.0 [
  | inl none ↦ rw none (first_entered es all.1 (rw none at some))
  | inr it ↦ rw it refl
]

-- the first batch has the unit in front
unit_in_front : (seed size : ℕ) → list_any (λ e. is_some (unit_entered 1 e.0.day e.1.body) && nat_le e.0.day SHOWN_DAY) (flat_map entries_of (drill_history seed size)) ≡ true
unfolding drill_history register_batches
unit_in_front seed size = refl

pub drill_unit_is_entered : DrillUnitIsEntered
drill_unit_is_entered seed size =
    let history = drill_history seed size in
    let up : Entry → Bool = λ e. nat_le e.0.day SHOWN_DAY in
    let enters : Entry → Bool = λ e. is_some (unit_entered 1 e.0.day e.1.body) in
    first_entered (facts_to SHOWN_DAY history)
    (all_filtered up (facts_of history) (all_in_order EntryEntersIt goes_first (flat_map entries_of history) (history_enters history (all_batches seed size))))
    (some_up_to enters up (facts_of history) (list_any-in_order (λ e. enters e && up e) (flat_map entries_of history) ∙ unit_in_front seed size))

-- the quarter has begun
has_begun : has_quarter_begun STARTUP SHOWN_QUARTER SHOWN_DAY ≡ true
unfolding first_quarter last_whole first_day month_length month_of
has_begun = refl

pub drill_shows_quarter : DrillShowsQuarter
unfolding shown
drill_shows_quarter seed size =
    let facts : List Entry = facts_to SHOWN_DAY (drill_history seed size) in
    let of_entry : Option UnitEntry → Reply = λ o. elim o [
      | None ↦ NoSuch NoUnit
      | Some entry ↦ cond (has_quarter_begun entry.startup SHOWN_QUARTER SHOWN_DAY) (Shown (quarter_text entry SHOWN_QUARTER SHOWN_DAY facts)) (NoSuch NoQuarter)
    ] in (
      quarter_text drill_unit SHOWN_QUARTER SHOWN_DAY facts,
      ap (λ o. Some (of_entry o)) (drill_unit_is_entered seed size)
          ∙ ap (λ b. Some (cond b (Shown (quarter_text drill_unit SHOWN_QUARTER SHOWN_DAY facts)) (NoSuch NoQuarter))) has_begun,
    )
