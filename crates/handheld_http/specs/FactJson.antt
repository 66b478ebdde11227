-- The fact in a JSON object, by the table of keys: the kind's own keys and those of every fact, in any order.
use Rattle.std.specs.Prelude.{ℕ, ◌==◌, List, [], ◌∷◌, codes, Option, Some, None, option_map, is_none, if◌then◌else◌}
use Rattle.serde_json.specs.Data.{Data}
use Rattle.serde_json.specs.Find.{get, at}
use Rattle.fact_kinds.specs.declared.class.Class.{Class}
use Rattle.fact_kinds.specs.declared.class.Kind.{Kind}
use Rattle.fact_kinds.specs.declared.class.Kind.TheVariants.{Valve, Pump, Compressor, Relief}
use Rattle.fact_kinds.specs.declared.class.Service.{Service}
use Rattle.fact_kinds.specs.declared.class.Service.TheVariants.{Gas, Light, Heavy, Vacuum, Under300}
use Rattle.fact_kinds.specs.declared.class.Designation.{Designation}
use Rattle.fact_kinds.specs.declared.class.Designation.TheVariants.{Plain, Nde, Unsafe, Difficult}
use Rattle.fact_kinds.specs.declared.body.Purpose.{Purpose}
use Rattle.fact_kinds.specs.declared.body.Purpose.TheVariants.{Routine, FollowUp}
use Rattle.fact_kinds.specs.declared.body.VisualState.{VisualState}
use Rattle.fact_kinds.specs.declared.body.VisualState.TheVariants.{Dry, Drips, Designated}
use Rattle.fact_kinds.specs.declared.limits.TheConstants.{LONGEST_SHUTDOWN}
use Rattle.fact_kinds.specs.declared.body.Sort.{Sort}
use Rattle.fact_kinds.specs.declared.body.Sort.TheVariants.{Sensor, Evidence}
use Rattle.fact_kinds.specs.declared.body.FactBody.{FactBody}
use Rattle.fact_kinds.specs.declared.body.FactBody.TheVariants.{Unit as UnitFact, Component as ComponentFact, Class as ClassFact, Retire, Election, Shutdown}
use Rattle.fact_kinds.specs.declared.body.FactBody.TheVariants.{Calibration, Precision, Drift, Reading, Visual, Attempt, Delay, Release, Indication}
use Rattle.handheld_http.specs.Members.{◌>>=◌, has_only, number, flag, word, day, name, number_or_none, day_or_none}

-- ---- words, by place

abbrev pub kind_words : List (List ℕ)
kind_words =
    codes "unit" ∷ codes "component" ∷ codes "class" ∷ codes "retire" ∷ codes "election" ∷ codes "shutdown" ∷ codes "calibration"
    ∷ codes "precision" ∷ codes "drift" ∷ codes "reading" ∷ codes "visual" ∷ codes "attempt" ∷ codes "delay" ∷ codes "release"
    ∷ codes "indication" ∷ []

abbrev pub type_words : List (List ℕ)
type_words = codes "valve" ∷ codes "pump" ∷ codes "compressor" ∷ codes "relief" ∷ []

abbrev pub type_at : ℕ → Kind
type_at n = if n == 0 then Valve else (if n == 1 then Pump else (if n == 2 then Compressor else Relief))

abbrev pub service_words : List (List ℕ)
service_words = codes "gas" ∷ codes "light" ∷ codes "heavy" ∷ codes "vacuum" ∷ codes "under300" ∷ []

abbrev pub service_at : ℕ → Service
service_at n = if n == 0 then Gas else (if n == 1 then Light else (if n == 2 then Heavy else (if n == 3 then Vacuum else Under300)))

abbrev pub designation_words : List (List ℕ)
designation_words = codes "none" ∷ codes "nde" ∷ codes "unsafe" ∷ codes "difficult" ∷ []

abbrev pub designation_at : ℕ → Designation
designation_at n = if n == 0 then Plain else (if n == 1 then Nde else (if n == 2 then Unsafe else Difficult))

abbrev pub purpose_words : List (List ℕ)
purpose_words = codes "routine" ∷ codes "follow" ∷ []

abbrev pub purpose_at : ℕ → Purpose
purpose_at n = if n == 0 then Routine else FollowUp

abbrev pub state_words : List (List ℕ)
state_words = codes "dry" ∷ codes "drips" ∷ codes "leak" ∷ []

abbrev pub state_at : ℕ → VisualState
state_at n = if n == 0 then Dry else (if n == 1 then Drips else Designated)

-- the words for grounds of delay, by number: withdrawn, or (a) to (e)
abbrev pub ground_words : List (List ℕ)
ground_words = codes "none" ∷ codes "a" ∷ codes "b" ∷ codes "c" ∷ codes "d" ∷ codes "e" ∷ []

abbrev pub sort_words : List (List ℕ)
sort_words = codes "sensor" ∷ codes "evidence" ∷ []

abbrev pub sort_at : ℕ → Sort
sort_at n = if n == 0 then Sensor else Evidence

-- ---- several members

-- the months of a plan, which depend on the designation
abbrev pub plan : Designation → Option Data → Option ℕ
plan Plain d = number 0 0 d
plan Nde d = number 0 0 d
plan Unsafe d = number 1 60 d
plan Difficult d = number 0 0 d

-- the class of a component, from four members of its fact
unfoldable pub class : Data → Option Class
class d = do
  service ← option_map service_at (word service_words (get (codes "service") d))
  designation ← option_map designation_at (word designation_words (get (codes "designation") d))
  plan ← plan designation (get (codes "plan") d)
  month ← number 1 3 (get (codes "month") d)
  Some (record { service = service; designation = designation; plan = plan; month = month })

-- an array of three readings
unfoldable pub three : Data → Option (ℕ × ℕ × ℕ)
three d =
    if is_none (at 3 d) then (do
      first ← number 0 999_999 (at 0 d)
      second ← number 0 999_999 (at 1 d)
      third ← number 0 999_999 (at 2 d)
      Some (first, second, third))
    else None

abbrev pub readings : Option Data → Option (ℕ × ℕ × ℕ)
readings d = d >>= three

-- the skip period programs: none, 1 and 3
unfoldable pub mode : Option Data → Option ℕ
mode d = do
  n ← number 0 3 d
  if n == 2 then None else Some n

-- ---- the keys and the members of each kind

-- the keys of every fact
abbrev pub with_common : List (List ℕ) → List (List ℕ)
with_common keys = codes "kind" ∷ codes "day" ∷ codes "minute" ∷ keys

unfoldable pub unit_fact : Data → Option FactBody
unit_fact d =
    if has_only (with_common (codes "unit" ∷ codes "older" ∷ codes "name" ∷ [])) d then (do
      unit ← number 1 64 (get (codes "unit") d)
      older ← flag (get (codes "older") d)
      name ← name (get (codes "name") d)
      Some (UnitFact unit older name))
    else None

unfoldable pub component_fact : Data → Option FactBody
component_fact d =
    if has_only (with_common (codes "component" ∷ codes "unit" ∷ codes "type" ∷ codes "monomer"
    ∷ codes "replaces" ∷ codes "service" ∷ codes "designation" ∷ codes "plan" ∷ codes "month" ∷ [])) d then (do
      component ← number 1 60_000 (get (codes "component") d)
      unit ← number 1 64 (get (codes "unit") d)
      kind ← option_map type_at (word type_words (get (codes "type") d))
      monomer ← flag (get (codes "monomer") d)
      replaces ← flag (get (codes "replaces") d)
      class ← class d
      Some (ComponentFact component unit kind monomer replaces class))
    else None

unfoldable pub class_fact_members : Data → Option FactBody
class_fact_members d = do
  component ← number 1 60_000 (get (codes "component") d)
  class ← class d
  Some (ClassFact component class)

unfoldable pub class_fact : Data → Option FactBody
class_fact d =
    if has_only (with_common (codes "component" ∷ codes "service" ∷ codes "designation" ∷ codes "plan" ∷ codes "month" ∷ [])) d
    then class_fact_members d
    else None

unfoldable pub retire : Data → Option FactBody
retire d =
    if has_only (with_common (codes "component" ∷ [])) d then (do
      component ← number 1 60_000 (get (codes "component") d)
      Some (Retire component))
    else None

unfoldable pub election_members : Data → Option FactBody
election_members d = do
  unit ← number 1 64 (get (codes "unit") d)
  mode ← mode (get (codes "mode") d)
  notified ← day (get (codes "notified") d)
  Some (Election unit mode notified)

unfoldable pub election : Data → Option FactBody
election d =
    if has_only (with_common (codes "unit" ∷ codes "mode" ∷ codes "notified" ∷ [])) d then election_members d else None

unfoldable pub shutdown : Data → Option FactBody
shutdown d =
    if has_only (with_common (codes "unit" ∷ codes "days" ∷ [])) d then (do
      unit ← number 1 64 (get (codes "unit") d)
      days ← number 1 LONGEST_SHUTDOWN (get (codes "days") d)
      Some (Shutdown unit days))
    else None

unfoldable pub calibration : Data → Option FactBody
calibration d =
    if has_only (with_common (codes "instrument" ∷ codes "gas" ∷ [])) d then (do
      instrument ← number 1 65_535 (get (codes "instrument") d)
      gas ← number 1 999_999 (get (codes "gas") d)
      Some (Calibration instrument gas))
    else None

unfoldable pub precision : Data → Option FactBody
precision d =
    if has_only (with_common (codes "instrument" ∷ codes "value" ∷ codes "readings" ∷ [])) d then (do
      instrument ← number 1 65_535 (get (codes "instrument") d)
      value ← number 1 999_999 (get (codes "value") d)
      readings ← readings (get (codes "readings") d)
      Some (Precision instrument value readings))
    else None

unfoldable pub drift : Data → Option FactBody
drift d =
    if has_only (with_common (codes "instrument" ∷ codes "value" ∷ codes "readings" ∷ [])) d then (do
      instrument ← number 1 65_535 (get (codes "instrument") d)
      value ← number 1 999_999 (get (codes "value") d)
      readings ← readings (get (codes "readings") d)
      Some (Drift instrument value readings))
    else None

unfoldable pub reading : Data → Option FactBody
reading d =
    if has_only (with_common (codes "component" ∷ codes "instrument" ∷ codes "operator" ∷ codes "purpose" ∷ codes "ppm" ∷ codes "background" ∷ [])) d then (do
      component ← number 1 60_000 (get (codes "component") d)
      instrument ← number_or_none (get (codes "instrument") d)
      operator ← number_or_none (get (codes "operator") d)
      purpose ← option_map purpose_at (word purpose_words (get (codes "purpose") d))
      ppm ← number 0 999_999 (get (codes "ppm") d)
      background ← number 0 999_999 (get (codes "background") d)
      Some (Reading component instrument operator purpose ppm background))
    else None

unfoldable pub visual : Data → Option FactBody
visual d =
    if has_only (with_common (codes "component" ∷ codes "state" ∷ [])) d then (do
      component ← number 1 60_000 (get (codes "component") d)
      state ← option_map state_at (word state_words (get (codes "state") d))
      Some (Visual component state))
    else None

unfoldable pub attempt : Data → Option FactBody
attempt d =
    if has_only (with_common (codes "component" ∷ codes "complete" ∷ [])) d then (do
      component ← number 1 60_000 (get (codes "component") d)
      complete ← flag (get (codes "complete") d)
      Some (Attempt component complete))
    else None

unfoldable pub delay : Data → Option FactBody
delay d =
    if has_only (with_common (codes "component" ∷ codes "ground" ∷ codes "signer" ∷ codes "expected" ∷ [])) d then (do
      component ← number 1 60_000 (get (codes "component") d)
      reason ← word ground_words (get (codes "ground") d)
      signer ← number_or_none (get (codes "signer") d)
      expected ← day_or_none (get (codes "expected") d)
      Some (Delay component reason signer expected))
    else None

unfoldable pub release : Data → Option FactBody
release d =
    if has_only (with_common (codes "component" ∷ [])) d then (do
      component ← number 1 60_000 (get (codes "component") d)
      Some (Release component))
    else None

unfoldable pub indication : Data → Option FactBody
indication d =
    if has_only (with_common (codes "component" ∷ codes "sort" ∷ codes "present" ∷ [])) d then (do
      component ← number 1 60_000 (get (codes "component") d)
      sort ← option_map sort_at (word sort_words (get (codes "sort") d))
      present ← flag (get (codes "present") d)
      Some (Indication component sort present))
    else None

-- a fact of the kind at a place in the table
unfoldable pub body : ℕ → Data → Option FactBody
body kind d =
    if kind == 0 then unit_fact d else (if kind == 1 then component_fact d else (if kind == 2 then class_fact d else (if kind == 3 then retire d else (
    if kind == 4 then election d else (if kind == 5 then shutdown d else (if kind == 6 then calibration d else (if kind == 7 then precision d else (
    if kind == 8 then drift d else (if kind == 9 then reading d else (if kind == 10 then visual d else (if kind == 11 then attempt d else (
    if kind == 12 then delay d else (if kind == 13 then release d else (indication d))))))))))))))
