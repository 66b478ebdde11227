-- The texts of views, byte for byte: a first line that names the view, its lines, and a last line with their number.
use Rattle.std.specs.Prelude.{ℕ, ◌+◌, ◌-◌, ◌*◌, nat_le, if◌then◌else◌, Bool, Option, Some, None, List, [], ◌∷◌, ◌++◌, length, codes, slice_index_or}
use Rattle.std.specs.List.{flat_map}
use Rattle.std.specs.Fmt.{decimal}
use Rattle.list_words.specs.Ranges.{until}
use Rattle.ldar_days.specs.Texts.{day_text, month_text}
use Rattle.ldar_law.specs.declared.delay.DelayEntry.{DelayEntry}
use Rattle.ldar_law.specs.declared.delay.DelayLine.{DelayLine}
use Rattle.ldar_law.specs.declared.delay.Stop.{Stop}
use Rattle.ldar_law.specs.declared.delay.Until.{Until}
use Rattle.ldar_law.specs.declared.delay.Until.TheVariants.{Date, Shutdown, WhileIsolated, NoDate}
use Rattle.ldar_law.specs.declared.duty.Duty.{Duty}
use Rattle.ldar_law.specs.declared.report.Report.{Report}
use Rattle.ldar_law.specs.declared.route.Route.{Route}
use Rattle.ldar_law.specs.declared.tag.Tag.{Tag}
use Rattle.ldar_law.specs.declared.tally.Tally.{Tally}

-- ---- words

abbrev pub end_of_line : List ℕ
end_of_line = codes "\n"

-- end K, where K is the number of lines between the first line and this one
abbrev pub end_line : ℕ → List ℕ
end_line count = codes "end " ++ decimal count ++ end_of_line

-- a day, or a hyphen for no day
abbrev pub day_or_hyphen : Option ℕ → List ℕ
day_or_hyphen None = codes "-"
day_or_hyphen (Some day) = day_text day

-- the due day of a repair
abbrev pub until_text : Until → List ℕ
until_text (Date day) = day_text day
until_text Shutdown = codes "shutdown"
until_text WhileIsolated = codes "isolated"
until_text NoDate = codes "purge"

-- the words for grounds of delays, from 0: withdrawn, then the letters of 40 CFR 60.482-9a
abbrev pub grounds : List (List ℕ)
grounds = codes "withdrawn" ∷ codes "a" ∷ codes "b" ∷ codes "c" ∷ codes "d" ∷ codes "e" ∷ []

-- the word for the ground of a delay
abbrev pub ground_text : DelayEntry → List ℕ
ground_text delay = slice_index_or grounds delay.ground []

-- the words for causes of duties, from 1
abbrev pub causes : List (List ℕ)
causes =
    codes "first" ∷ codes "monthly" ∷ codes "quarterly" ∷ codes "yearly" ∷ codes "plan" ∷ codes "weekly"
    ∷ codes "drip" ∷ codes "release" ∷ codes "evidence" ∷ []

-- the word for a cause
abbrev pub cause_text : ℕ → List ℕ
cause_text cause = slice_index_or causes (cause - 1) []

-- ---- due UNIT DAY

-- done and the day of the fact that met the duty; otherwise open through its due day, and missed after it
abbrev pub state_text : ℕ → Duty → List ℕ
state_text day duty = elim duty.met [
  | Some key ↦ codes "done " ++ day_text key.day
  | None ↦ if nat_le day duty.due then codes "open" else codes "missed"
]

-- COMPONENT CAUSE DUE STATE
unfoldable pub due_line : ℕ → Duty → List ℕ
due_line day duty =
    decimal duty.component ++ codes " " ++ cause_text duty.cause ++ codes " " ++ day_text duty.due ++ codes " " ++ state_text day duty ++ end_of_line

-- the text of the due view
abbrev pub due_text : ℕ → ℕ → List Duty → List ℕ
due_text unit day duties =
    (codes "due " ++ decimal unit ++ codes " " ++ day_text day ++ end_of_line) ++ flat_map (due_line day) duties ++ end_line (length duties)

-- ---- tags UNIT DAY

-- COMPONENT detected DAY attempt DUE A repair UNTIL C F, with A the day of the first attempt and C the day of the closing
unfoldable pub tag_line : Tag → List ℕ
tag_line tag =
    decimal tag.component ++ codes " detected " ++ day_text tag.detected
    ++ codes " attempt " ++ day_text tag.attempt_due ++ codes " " ++ day_or_hyphen tag.attempted
    ++ codes " repair " ++ until_text tag.repair_due ++ codes " " ++ day_or_hyphen tag.closed
    ++ codes " " ++ (if tag.removable then codes "removable" else codes "tagged") ++ end_of_line

-- the text of the tags view
abbrev pub tags_text : ℕ → ℕ → List Tag → List ℕ
tags_text unit day tags =
    (codes "tags " ++ decimal unit ++ codes " " ++ day_text day ++ end_of_line) ++ flat_map tag_line tags ++ end_line (length tags)

-- ---- delays UNIT DAY

-- COMPONENT detected DAY ground G signer N expected DAY until UNTIL
abbrev pub delay_words : ℕ → ℕ → DelayEntry → Until → List ℕ
delay_words component detected delay until =
    decimal component ++ codes " detected " ++ day_text detected ++ codes " ground " ++ ground_text delay
    ++ codes " signer " ++ decimal delay.signer ++ codes " expected " ++ day_or_hyphen delay.expected ++ codes " until " ++ until_text until

-- the line of a delayed repair
unfoldable pub delayed_line : DelayLine → List ℕ
delayed_line line = delay_words line.component line.detected line.delay line.until ++ end_of_line

-- the text of the delays view
abbrev pub delays_text : ℕ → ℕ → List DelayLine → List ℕ
delays_text unit day lines =
    (codes "delays " ++ decimal unit ++ codes " " ++ day_text day ++ end_of_line) ++ flat_map delayed_line lines ++ end_line (length lines)

-- ---- route UNIT DAY STOPS

-- route I: C1 C2
unfoldable pub route_line : ℕ → Route → List ℕ
route_line number route = codes "route " ++ decimal number ++ codes ":" ++ flat_map (λ c. codes " " ++ decimal c) route.stops ++ end_of_line

-- the lines of routes, numbered from this number on
abbrev pub route_lines : ℕ → List Route → List ℕ
route_lines number [] = []
route_lines number (route ∷ routes) = route_line number route ++ route_lines (number + 1) routes

-- the text of the route view
abbrev pub route_text : ℕ → ℕ → ℕ → List Route → List ℕ
route_text unit day stops routes =
    (codes "route " ++ decimal unit ++ codes " " ++ day_text day ++ codes " " ++ decimal stops ++ end_of_line)
    ++ route_lines 1 routes ++ end_line (length routes)

-- ---- percent UNIT QUARTER leaking L monitored M good skipped

-- the word, or `not` and the word
abbrev pub or_not : Bool → List ℕ → List ℕ
or_not holds word = if holds then word else codes "not " ++ word

-- the text of the percent view
abbrev pub percent_text : ℕ → ℕ → Tally → Bool → Bool → List ℕ
percent_text unit quarter tally good skipped =
    codes "percent " ++ decimal unit ++ codes " " ++ decimal quarter
    ++ codes " leaking " ++ decimal tally.leaking ++ codes " monitored " ++ decimal tally.monitored
    ++ codes " " ++ or_not good (codes "good") ++ codes " " ++ or_not skipped (codes "skipped") ++ end_of_line

-- ---- report NAME unit UNIT half HALF as of DAY

-- the number at a place of the 36
abbrev pub cell : List ℕ → ℕ → List ℕ
cell months place = decimal (slice_index_or months place 0)

-- YYYY-MM valves L U pumps L U compressors L U: a month of the half, with L components that have leaks and U that have late tags
unfoldable pub month_line : ℕ → List ℕ → ℕ → List ℕ
month_line first months place =
    month_text (first + place)
    ++ codes " valves " ++ cell months (6 * place) ++ codes " " ++ cell months (6 * place + 1)
    ++ codes " pumps " ++ cell months (6 * place + 2) ++ codes " " ++ cell months (6 * place + 3)
    ++ codes " compressors " ++ cell months (6 * place + 4) ++ codes " " ++ cell months (6 * place + 5) ++ end_of_line

-- delay COMPONENT detected DAY ground G signer N expected DAY until UNTIL closed C
unfoldable pub delay_line : DelayLine → List ℕ
delay_line line =
    codes "delay " ++ delay_words line.component line.detected line.delay line.until ++ codes " closed " ++ day_or_hyphen line.closed ++ end_of_line

-- shutdown FIRST LAST
unfoldable pub stop_line : Stop → List ℕ
stop_line stop = codes "shutdown " ++ day_text stop.first ++ codes " " ++ day_text stop.last ++ end_of_line

-- the text of a report; its half begins with this month
abbrev pub report_text : ℕ → Report → List ℕ
report_text first report =
    (codes "report " ++ report.name ++ codes " unit " ++ decimal report.unit ++ codes " half " ++ decimal report.half
    ++ codes " as of " ++ day_text report.day ++ end_of_line)
    ++ flat_map (month_line first report.cells.months) (until 0 6)
    ++ flat_map delay_line report.cells.delays ++ flat_map stop_line report.cells.stops
    ++ end_line (6 + length report.cells.delays + length report.cells.stops)
