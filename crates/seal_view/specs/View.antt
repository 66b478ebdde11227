-- The view of pumps with dual mechanical seals (40 CFR 60.482-2a(d)), from a seal file and the facts up to a view day: its text, or why there
-- is none.
use Rattle.std.specs.Prelude.{◌≡◌, ℕ, ⊤, Bool, false, ◌&&◌, nat_eq, min, is_some, if◌then◌else◌, Option, Some, None, Result, Ok, Err, List, [], ◌∷◌, ◌++◌, map}
use Rattle.std.specs.List.{flat_map}
use Rattle.std.specs.Option.{option_map_or}
use Rattle.fact_kinds.specs.Facts.{Entry}
use Rattle.ldar_law.specs.declared.history.History.{History}
use Rattle.ldar_law.specs.Equipment.{equipment_of, unit_entry_of}
use Rattle.ldar_law.specs.Kinds.{is_pump}
use Rattle.ldar_law.specs.Units.{history_of_component}
use Rattle.pump_seals.specs.declared.row.SealRow.{SealRow}
use Rattle.pump_seals.specs.Seals.{duties_by_rows, tags_by_rows}
use Rattle.dual_seals.specs.declared.error.SealError.{SealError}
use Rattle.dual_seals.specs.declared.error.SealError.TheVariants as unread
use Rattle.dual_seals.specs.Rows.{seal_rows}
use Rattle.seal_texts.specs.declared.line.SealLine.{SealLine}
use Rattle.seal_texts.specs.declared.line.SealLine.TheVariants.{Duty, Tag}
use Rattle.seal_texts.specs.SealTexts.{seals_text}
use Rattle.seal_view.specs.declared.error.SealsWhy.{SealsWhy}
use Rattle.seal_view.specs.declared.error.SealsWhy.TheVariants.{NoUnit, BadRow, Memory}

-- ---- records whose component is no pump of the process unit

-- the component is a pump of the process unit
abbrev pub is_pump_of : ℕ → List Entry → ℕ → Bool
is_pump_of unit facts component = option_map_or (λ item. is_pump item.kind && nat_eq item.unit unit) (equipment_of component facts) false

-- the lower of two numbers, the first of which may be missing
abbrev pub lower : Option ℕ → ℕ → ℕ
lower None other = other
lower (Some one) other = min one other

-- the lowest number of a record whose component does not pass
abbrev pub first_wrong : (ℕ → Bool) → List SealRow → Option ℕ
first_wrong passes [] = None
first_wrong passes (row ∷ rows) = if passes row.component then first_wrong passes rows else Some (lower (first_wrong passes rows) row.at)

-- ---- lines

-- the components of rows in ascending order, each once; the component before them is left out
abbrev pub named_after : ℕ → List SealRow → List ℕ
named_after last [] = []
named_after last (row ∷ rows) = if nat_eq row.component last then named_after last rows else row.component ∷ named_after row.component rows

-- the components that rows in ascending order name, each once; no component has number 0
abbrev pub named : List SealRow → List ℕ
named rows = named_after 0 rows

-- the lines of a component with its events: its duties and then its tags
abbrev pub lines_by : ℕ → List SealRow → ℕ → History → List SealLine
lines_by day rows component history =
    map (Duty component) (duties_by_rows history.equipment history.events rows day)
    ++ map (Tag component) (tags_by_rows history.equipment history.events rows day)

-- the lines of a component, if it was entered
abbrev pub lines_of : ℕ → List SealRow → List Entry → ℕ → List SealLine
lines_of day rows facts component = option_map_or (lines_by day rows component) (history_of_component component facts) []

-- ---- the view

-- the text, or the first record whose component is no pump of the process unit
abbrev pub unless_wrong : ℕ → ℕ → List Entry → List SealRow → Option ℕ → Result (List ℕ) SealsWhy
unless_wrong unit day facts rows (Some at) = Err (BadRow at)
unless_wrong unit day facts rows None = Ok (seals_text unit day (flat_map (lines_of day rows facts) (named rows)))

-- the view by the rows of a file, in order
abbrev pub by_rows : ℕ → ℕ → List Entry → List SealRow → Result (List ℕ) SealsWhy
by_rows unit day facts rows = unless_wrong unit day facts rows (first_wrong (is_pump_of unit facts) rows)

-- the view by a file that was read, or its first bad record
abbrev pub by_file : ℕ → ℕ → List Entry → Result (List SealRow) ℕ → Result (List ℕ) SealsWhy
by_file unit day facts (Ok rows) = by_rows unit day facts rows
by_file unit day facts (Err at) = Err (BadRow at)

-- the view by the text of a seal file, if there is such a process unit
unfoldable pub seals_asked : ℕ → ℕ → List ℕ → List Entry → Result (List ℕ) SealsWhy
seals_asked unit day text facts = if is_some (unit_entry_of unit facts) then by_file unit day facts (seal_rows text) else Err NoUnit

-- ---- internal: errors

-- this is why there is no text, unless it is out of memory
abbrev pub TellsWhy : Result (List ℕ) SealsWhy → SealsWhy → Type 0
TellsWhy said NoUnit = said ≡ Err NoUnit
TellsWhy said (BadRow at) = said ≡ Err (BadRow at)
TellsWhy said Memory = ⊤

-- why there is no text, from the error of reading the rows
abbrev pub why_unread : SealError → SealsWhy
why_unread (unread.Row at) = BadRow at
why_unread unread.Memory = Memory
