-- What is shown of a process unit that was entered, and of one that was not.
use Rattle.std.proofs.Common.{◌≡◌, ℕ, Bool, Some, None, Ok, Err, List, refl, ap, ◌∙◌, cond}
use Rattle.fact_kinds.specs.Facts.{Entry}
use Rattle.ldar_law.specs.declared.reply.Reply.{Reply}
use Rattle.ldar_law.specs.declared.reply.Reply.TheVariants.{NoSuch}
use Rattle.ldar_law.specs.declared.request.What.TheVariants.{Unit as NoUnit, Half as NoHalf}
use Rattle.ldar_law.specs.declared.unit_entry.UnitEntry.{UnitEntry}
use Rattle.ldar_law.specs.Equipment.{unit_entry_of}
use Rattle.ldar_law.specs.Reports.{has_half_begun}
use Rattle.ldar_law.specs.declared.tally.Tally.{Tally}
use Rattle.ldar_law.specs.Percent.{is_good}
use Rattle.ldar_law.specs.Shown.{of_unit, quarter_text, report_of_unit}
use Rattle.ldar_law.specs.Texts.{percent_text}
use Rattle.ldar_law.specs.Units.{is_skipped_of_unit, tally_of_unit}
use Rattle.office_views.specs.Answers.{report_asked}

module _ (unit : ℕ) (facts : List Entry) (view : UnitEntry → Reply) where
  -- the unit was entered
  pub unit_shown : (entry : UnitEntry) → unit_entry_of unit facts ≡ Some entry → of_unit unit facts view ≡ view entry
  unit_shown entry is = rw (is, of_unit) refl

  -- .. or not
  pub no_unit_shown : unit_entry_of unit facts ≡ None → of_unit unit facts view ≡ NoSuch NoUnit
  no_unit_shown is = rw (is, of_unit) refl

module _ (unit half day : ℕ) (facts : List Entry) where
  -- the report of a unit that was entered
  pub asked_of_unit : (entry : UnitEntry) → unit_entry_of unit facts ≡ Some entry
      → report_asked unit half day facts ≡ cond (has_half_begun entry.startup half day) (Ok (report_of_unit entry half day facts)) (Err NoHalf)
  asked_of_unit entry is = rw (is, report_asked) refl

  -- .. of no unit
  pub asked_of_none : unit_entry_of unit facts ≡ None → report_asked unit half day facts ≡ Err NoUnit
  asked_of_none is = rw (is, report_asked) refl

-- the text of a quarter, from its parts
pub quarter_is : (unit : UnitEntry) (quarter day : ℕ) (facts : List Entry) (number : ℕ) (tally : Tally) (good skipped : Bool) → number ≡ unit.unit
    → tally ≡ tally_of_unit unit day facts quarter → good ≡ is_good tally → skipped ≡ is_skipped_of_unit unit day facts quarter
    → percent_text number quarter tally good skipped ≡ quarter_text unit quarter day facts
quarter_is unit quarter day facts number tally good skipped number_is tally_is good_is skipped_is =
    ap (λ n. percent_text n quarter tally good skipped) number_is
    ∙ ap (λ b. percent_text unit.unit quarter tally b skipped) good_is
    ∙ ap (λ t. percent_text unit.unit quarter t (is_good t) skipped) tally_is
    ∙ ap (percent_text unit.unit quarter (tally_of_unit unit day facts quarter) (is_good (tally_of_unit unit day facts quarter))) skipped_is
