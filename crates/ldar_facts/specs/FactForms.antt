-- Internal: how the private readers are proved. It is in specs/ only because their clauses cite it.
-- The forms of the facts of each kind, and of a batch.
use Rattle.std.specs.Prelude.{ℕ, zero, suc, ◌==◌, List, [], ◌∷◌, refl}
use Rattle.fact_kinds.specs.declared.batch.Batch.{Batch}
use Rattle.fact_kinds.specs.declared.body.FactBody.{FactBody}
use Rattle.fact_kinds.specs.declared.body.FactBody.TheVariants.{Unit as UnitFact, Component as ComponentFact, Class as ClassFact, Retire, Election}
use Rattle.fact_kinds.specs.declared.body.FactBody.TheVariants.{Shutdown, Calibration, Precision, Drift, Reading, Visual, Attempt, Delay, Release}
use Rattle.fact_kinds.specs.declared.body.FactBody.TheVariants.{Indication}
use Rattle.ldar_facts.specs.declared.read_fact.Head.{Head}
use Rattle.fact_kinds.specs.Fields as fields
use Rattle.fact_kinds.specs.Stated.{Stated}
use Rattle.ldar_facts.specs.Form.{Form}
use Rattle.ldar_facts.specs.Compose.{done, either, ◌>>=◌}
use Rattle.ldar_facts.specs.Number.{number_form}
use Rattle.ldar_facts.specs.Letters.{name_form}
use Rattle.ldar_facts.specs.FieldForms as field

-- a process unit
unfoldable pub unit_fact : Form FactBody
unit_fact = do
  unit ← field.unit
  older ← field.flag
  name ← name_form
  done (UnitFact unit older name)

-- a component
unfoldable pub component_fact : Form FactBody
component_fact = do
  component ← field.component
  unit ← field.unit
  kind ← field.kind
  monomer ← field.flag
  replaces ← field.flag
  class ← field.class
  done (ComponentFact component unit kind monomer replaces class)

-- a component's class
unfoldable pub class_fact : Form FactBody
class_fact = do
  component ← field.component
  class ← field.class
  done (ClassFact component class)

-- a retirement
unfoldable pub retire : Form FactBody
retire = do
  component ← field.component
  done (Retire component)

-- an election of a skip period program
unfoldable pub election : Form FactBody
election = do
  unit ← field.unit
  mode ← field.mode
  notified ← field.day
  done (Election unit mode notified)

-- a shutdown
unfoldable pub shutdown : Form FactBody
shutdown = do
  unit ← field.unit
  days ← field.shutdown_length
  done (Shutdown unit days)

-- a calibration
unfoldable pub calibration : Form FactBody
calibration = do
  instrument ← field.instrument
  gas ← field.known_value
  done (Calibration instrument gas)

-- a precision test
unfoldable pub precision : Form FactBody
precision = do
  instrument ← field.instrument
  value ← field.known_value
  readings ← field.readings
  done (Precision instrument value readings)

-- a drift assessment
unfoldable pub drift : Form FactBody
drift = do
  instrument ← field.instrument
  value ← field.known_value
  readings ← field.readings
  done (Drift instrument value readings)

-- a reading
unfoldable pub reading : Form FactBody
reading = do
  component ← field.component
  instrument ← field.number_or_none
  operator ← field.number_or_none
  purpose ← field.purpose
  ppm ← field.concentration
  background ← field.concentration
  done (Reading component instrument operator purpose ppm background)

-- a visual inspection
unfoldable pub visual : Form FactBody
visual = do
  component ← field.component
  state ← field.state
  done (Visual component state)

-- an attempt at a repair
unfoldable pub attempt : Form FactBody
attempt = do
  component ← field.component
  complete ← field.flag
  done (Attempt component complete)

-- a delay of repair
unfoldable pub delay : Form FactBody
delay = do
  component ← field.component
  reason ← field.delay_ground
  signer ← field.number_or_none
  expected ← field.day_or_none
  done (Delay component reason signer expected)

-- a pressure release
unfoldable pub release : Form FactBody
release = do
  component ← field.component
  done (Release component)

-- an indication
unfoldable pub indication : Form FactBody
indication = do
  component ← field.component
  sort ← field.sort
  present ← field.flag
  done (Indication component sort present)

-- a fact's body, by the number of its kind
unfoldable pub body : ℕ → Form FactBody
body kind =
    either (kind == 1) unit_fact (either (kind == 2) component_fact (either (kind == 3) class_fact (either (kind == 4) retire
    (either (kind == 5) election (either (kind == 6) shutdown (either (kind == 7) calibration (either (kind == 8) precision
    (either (kind == 9) drift (either (kind == 10) reading (either (kind == 11) visual (either (kind == 12) attempt
    (either (kind == 13) delay (either (kind == 14) release indication)))))))))))))

-- a fact: its kind, day and minute, and its body
unfoldable pub fact : Form Stated
fact = do
  kind ← field.fact_kind
  day ← field.day
  minute ← field.minute
  body ← body kind
  done (record { day = day; minute = minute; body = body })

-- this many facts
unfoldable pub facts : ℕ → Form (List Stated)
facts zero = done []
facts (suc more) = do
  first ← fact
  others ← facts more
  done (first ∷ others)

-- the fields before the facts of a batch
unfoldable pub head : Form Head
head = do
  letter ← number_form 1 fields.first_letters refl
  handheld ← number_form 2 fields.handhelds refl
  number ← number_form 4 fields.batch_numbers refl
  count ← number_form 2 fields.counts refl
  done (record { handheld = handheld; number = number; count = count })

-- a batch: its head and its facts
unfoldable pub batch : Form Batch
batch = do
  head ← head
  facts ← facts head.count
  done (record { handheld = head.handheld; number = head.number; facts = facts })
