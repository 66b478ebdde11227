-- The text of the view of pumps with dual mechanical seals, byte for byte: a first line that names the view, the lines of the pumps, and a
-- last line with their number.
use Rattle.std.specs.Prelude.{ℕ, ◌-◌, nat_le, if◌then◌else◌, Some, None, List, [], ◌∷◌, ◌++◌, length, codes, slice_index_or}
use Rattle.std.specs.List.{flat_map}
use Rattle.std.specs.Fmt.{decimal}
use Rattle.ldar_days.specs.Texts.{day_text}
use Rattle.ldar_law.specs.Delays.{attempt_by, repair_by}
use Rattle.ldar_law.specs.Texts.{day_or_hyphen, end_line, end_of_line}
use Rattle.pump_seals.specs.declared.seals.SealDuty.{SealDuty}
use Rattle.pump_seals.specs.declared.seals.SealTag.{SealTag}
use Rattle.seal_texts.specs.declared.line.SealLine.{SealLine}
use Rattle.seal_texts.specs.declared.line.SealLine.TheVariants.{Duty, Tag}

-- the words for causes of duties, from 1
abbrev pub causes : List (List ℕ)
causes = codes "sealweek" ∷ codes "sealdrip" ∷ []

-- the word for a cause
abbrev pub cause_text : ℕ → List ℕ
cause_text cause = slice_index_or causes (cause - 1) []

-- the words for sorts of tags, from 1
abbrev pub sorts : List (List ℕ)
sorts = codes "reading" ∷ codes "drip" ∷ codes "sensor" ∷ []

-- the word for a sort
abbrev pub sort_text : ℕ → List ℕ
sort_text sort = slice_index_or sorts (sort - 1) []

-- done and the day on which the duty was met; otherwise open through its due day, and missed after it
abbrev pub state_text : ℕ → SealDuty → List ℕ
state_text day duty = elim duty.met [
  | Some met ↦ codes "done " ++ day_text met
  | None ↦ if nat_le day duty.due then codes "open" else codes "missed"
]

-- COMPONENT CAUSE DUE STATE
unfoldable pub duty_line : ℕ → ℕ → SealDuty → List ℕ
duty_line day component duty =
    decimal component ++ codes " " ++ cause_text duty.cause ++ codes " " ++ day_text duty.due ++ codes " " ++ state_text day duty ++ end_of_line

-- COMPONENT seal SORT detected DAY attempt DUE A repair DUE C, with A the day of the first attempt and C the day of the closing, by the due
-- days of an attempt and of the repair
unfoldable pub tag_line_by : (attempt repair : ℕ) → ℕ → SealTag → List ℕ
tag_line_by attempt repair component tag =
    decimal component ++ codes " seal " ++ sort_text tag.sort ++ codes " detected " ++ day_text tag.detected
    ++ codes " attempt " ++ day_text attempt ++ codes " " ++ day_or_hyphen tag.attempted
    ++ codes " repair " ++ day_text repair ++ codes " " ++ day_or_hyphen tag.closed ++ end_of_line

-- .. which are five and fifteen days after the detection
abbrev pub tag_line : ℕ → SealTag → List ℕ
tag_line component tag = tag_line_by (attempt_by tag.detected) (repair_by tag.detected) component tag

-- the text of a line
abbrev pub line_text : ℕ → SealLine → List ℕ
line_text day (Duty component duty) = duty_line day component duty
line_text day (Tag component tag) = tag_line component tag

-- the text of the view
abbrev pub seals_text : ℕ → ℕ → List SealLine → List ℕ
seals_text unit day lines =
    (codes "seals " ++ decimal unit ++ codes " " ++ day_text day ++ end_of_line) ++ flat_map (line_text day) lines ++ end_line (length lines)
