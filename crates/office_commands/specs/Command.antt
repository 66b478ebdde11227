-- The words that are commands.
use Rattle.std.specs.Prelude.{ℕ, nat_eq, Bool, not, Option, Some, None, List, [], ◌∷◌, codes, option_map, if◌then◌else◌}
use Rattle.std.specs.Cmp.Lexicographic.{pointwise}
use Rattle.std.specs.List.{list_all}
use Rattle.command_words.specs.Positionals.{is_option}
use Rattle.fact_kinds.specs.declared.limits.TheConstants.{MOST_FACTS}
use Rattle.ldar_days.specs.Texts.{day_of}
use Rattle.ldar_law.specs.declared.request.Request.{Request}
use Rattle.ldar_law.specs.declared.request.Request.TheVariants.{Due, Tags, Delays, Route, Percent, Report}
use Rattle.drill_history.specs.declared.numbers.TheConstants.{GREATEST_SEED, LARGEST_DRILL}
use Rattle.handheld_http.specs.Requests.{decimal_in}
use Rattle.office_commands.specs.declared.command.Command.{Command}
use Rattle.office_commands.specs.declared.command.Command.TheVariants.{Init, Amended, Drill, Mirror, Office}
use Rattle.office_commands.specs.declared.command.Task.TheVariants.{Dock, Drain, Import, Seals, Ask}
use Rattle.office_commands.specs.declared.command.Question.{Question}
use Rattle.office_commands.specs.declared.command.Question.TheVariants.{Show, File, Check, Offer}
use Rattle.office_commands.specs.declared.command.Sort.{Sort}
use Rattle.office_commands.specs.declared.command.Sort.TheVariants.{Units, Components}
use Rattle.register_import.specs.declared.limits.TheConstants.{LAST_NUMBER}
use Rattle.report_filing.specs.declared.file.TheConstants.{LAST_REVISION}

-- the command that is a question
abbrev pub asking : Question → Command
asking question = Office (Ask question)

-- a word is just this text
abbrev pub is_word : List ℕ → List ℕ → Bool
is_word word text = pointwise nat_eq word text

-- the command with one word
abbrev pub alone : List ℕ → Option Command
alone word =
    if is_word word (codes "init") then Some Init
    else if is_word word (codes "dock") then Some (Office Dock)
    else if is_word word (codes "drain") then Some (Office Drain)
    else if is_word word (codes "check") then Some (asking Check)
    else if is_word word (codes "mirror") then Some Mirror
    else None

-- what a file of the register lists, from its word
abbrev pub sort_named : List ℕ → Option Sort
sort_named word =
    if is_word word (codes "units") then Some Units
    else if is_word word (codes "components") then Some Components
    else None

-- the command that offers the batches after the first FROM; no journal has more batches than facts
unfoldable pub offer_of : List ℕ → Option Command
offer_of from = elim (decimal_in MOST_FACTS from) [ None ↦ None | Some from ↦ Some (asking (Offer from)) ]

-- .. if this is its word
abbrev pub offering : List ℕ → List ℕ → Option Command
offering word from = if is_word word (codes "offer") then offer_of from else None

-- the command that imports a file of this kind, as batches from NUMBER on
unfoldable pub import_of : List ℕ → List ℕ → Option Command
import_of number sort = elim (decimal_in LAST_NUMBER number) [
  | None ↦ None
  | Some number ↦ elim (sort_named sort) [ None ↦ None | Some sort ↦ Some (Office (Import number sort)) ]
]

-- the command that imports a file, if this is its word
abbrev pub importing : List ℕ → List ℕ → List ℕ → Option Command
importing word number sort = if is_word word (codes "import") then import_of number sort else None

-- a number from 1 to this one
unfoldable pub counting_in : ℕ → List ℕ → Option ℕ
counting_in greatest text = elim (decimal_in greatest text) [
  | None ↦ None
  | Some number ↦ if nat_eq number 0 then None else Some number
]

-- the command that runs the drill N of this size
unfoldable pub drill_of : List ℕ → List ℕ → Option Command
drill_of seed size = elim (counting_in GREATEST_SEED seed) [
  | None ↦ None
  | Some seed ↦ elim (counting_in LARGEST_DRILL size) [ None ↦ None | Some size ↦ Some (Drill seed size) ]
]

-- the command that shows the pumps of UNIT that a seal file names, as known on DAY
unfoldable pub seals_of : List ℕ → List ℕ → Option Command
seals_of unit day = elim (decimal_in 255 unit) [
  | None ↦ None
  | Some unit ↦ elim (day_of day) [ None ↦ None | Some day ↦ Some (Office (Seals unit day)) ]
]

-- the command with a word and two further words
abbrev pub of_two_further : List ℕ → List ℕ → List ℕ → Option Command
of_two_further word first second =
    if is_word word (codes "drill") then drill_of first second
    else if is_word word (codes "seals") then seals_of first second
    else importing word first second

-- a view of a process unit on a day, from its name
abbrev pub view_named : List ℕ → ℕ → ℕ → Option Request
view_named name unit day =
    if is_word name (codes "due") then Some (Due unit day)
    else if is_word name (codes "tags") then Some (Tags unit day)
    else if is_word name (codes "delays") then Some (Delays unit day)
    else None

-- the view with a name, UNIT and DAY
unfoldable pub view_on : List ℕ → List ℕ → List ℕ → Option Request
view_on name unit day = elim (decimal_in 255 unit) [
  | None ↦ None
  | Some unit ↦ elim (day_of day) [ None ↦ None | Some day ↦ view_named name unit day ]
]

-- the route with UNIT, DAY and STOPS
unfoldable pub route_on : List ℕ → List ℕ → List ℕ → Option Request
route_on unit day stops = elim (decimal_in 255 unit) [
  | None ↦ None
  | Some unit ↦ elim (day_of day) [
    | None ↦ None
    | Some day ↦ elim (decimal_in 65_535 stops) [ None ↦ None | Some stops ↦ Some (Route unit day stops) ]
  ]
]

-- a view of a quarter or a half, from its name
abbrev pub numbered_view : List ℕ → ℕ → ℕ → ℕ → Option Request
numbered_view name unit number day =
    if is_word name (codes "percent") then Some (Percent unit number day)
    else if is_word name (codes "report") then Some (Report unit number day)
    else None

-- the view with a name, UNIT, QUARTER or HALF, and DAY
unfoldable pub view_of_number : List ℕ → List ℕ → List ℕ → List ℕ → Option Request
view_of_number name unit number day = elim (decimal_in 255 unit) [
  | None ↦ None
  | Some unit ↦ elim (decimal_in 65_535 number) [
    | None ↦ None
    | Some number ↦ elim (day_of day) [ None ↦ None | Some day ↦ numbered_view name unit number day ]
  ]
]

-- the view with four words after `show`
abbrev pub view_of_four : List ℕ → List ℕ → List ℕ → List ℕ → Option Request
view_of_four name unit second third =
    if is_word name (codes "route") then route_on unit second third else view_of_number name unit second third

-- the command that shows a view
abbrev pub showing : List ℕ → Option Request → Option Command
showing word view = if is_word word (codes "show") then option_map (λ request. asking (Show request)) view else None

-- the command that files the report with UNIT, HALF and DAY
unfoldable pub filing_of : List ℕ → List ℕ → List ℕ → Option Command
filing_of unit half day = elim (decimal_in 255 unit) [
  | None ↦ None
  | Some unit ↦ elim (decimal_in 65_535 half) [
    | None ↦ None
    | Some half ↦ elim (day_of day) [ None ↦ None | Some day ↦ Some (asking (File unit half day)) ]
  ]
]

-- the number of a revision, from 1
unfoldable pub revision_in : List ℕ → Option ℕ
revision_in text = elim (decimal_in LAST_REVISION text) [
  | None ↦ None
  | Some number ↦ if nat_eq number 0 then None else Some number
]

-- the command that compares the revisions FROM and TO of the report on UNIT's HALF
unfoldable pub amended_of : List ℕ → List ℕ → List ℕ → List ℕ → Option Command
amended_of unit half from to = elim (decimal_in 255 unit) [
  | None ↦ None
  | Some unit ↦ elim (decimal_in 65_535 half) [
    | None ↦ None
    | Some half ↦ elim (revision_in from) [
      | None ↦ None
      | Some from ↦ elim (revision_in to) [
        | None ↦ None
        | Some to ↦ Some (Amended (record { unit = unit; half = half; from = from; to = to }))
      ]
    ]
  ]
]

-- the command with a word and three further words
abbrev pub of_three_further : List ℕ → List ℕ → List ℕ → List ℕ → Option Command
of_three_further word first second third =
    if is_word word (codes "file") then filing_of first second third else showing word (view_on first second third)

-- .. and four
abbrev pub of_four_further : List ℕ → List ℕ → List ℕ → List ℕ → List ℕ → Option Command
of_four_further word first second third fourth =
    if is_word word (codes "amended") then amended_of first second third fourth else showing word (view_of_four first second third fourth)

-- the command that a word and the words after it are
abbrev pub command_of : List ℕ → List (List ℕ) → Option Command
command_of word [] = alone word
command_of word (from ∷ []) = offering word from
command_of word (first ∷ second ∷ []) = of_two_further word first second
command_of word (first ∷ second ∷ third ∷ []) = of_three_further word first second third
command_of word (first ∷ second ∷ third ∷ fourth ∷ []) = of_four_further word first second third fourth
command_of word _ = None

-- a command, if this holds
abbrev pub only_if : Bool → Option Command → Option Command
only_if holds None = None
only_if holds (Some command) = if holds then Some command else None

-- the command that words are, if they are in the command set; no word after the first may begin with a hyphen
abbrev pub command_in : List (List ℕ) → Option Command
command_in [] = None
command_in (word ∷ further) = only_if (list_all (λ word. not (is_option word)) further) (command_of word further)

-- the command that a word and its positionals are
abbrev pub command_with : List ℕ → Option (List (List ℕ)) → Option Command
command_with word None = None
command_with word (Some further) = command_of word further
