-- The fields of a record of components. Each definition is a value, or None if the field has another form.
use Rattle.std.specs.Prelude.{ℕ, Bool, true, false, List, codes, Option, Some, None, if◌then◌else◌}
use Rattle.std.specs.Str.{bytes_eq}
use Rattle.csv_rows.specs.Fields.{◌>>=◌, number}
use Rattle.fact_kinds.specs.declared.class.Class.{Class}
use Rattle.fact_kinds.specs.declared.class.Kind.{Kind}
use Rattle.fact_kinds.specs.declared.class.Kind.TheVariants.{Valve, Pump, Compressor, Relief}
use Rattle.fact_kinds.specs.declared.class.Service.{Service}
use Rattle.fact_kinds.specs.declared.class.Service.TheVariants.{Gas, Light, Heavy, Vacuum, Under300}
use Rattle.fact_kinds.specs.declared.class.Designation.{Designation}
use Rattle.fact_kinds.specs.declared.class.Designation.TheVariants.{Plain, Nde, Unsafe, Difficult}

-- ---- words

-- 0 for no and 1 for yes
unfoldable pub flag : Option (List ℕ) → Option Bool
flag field = do
  text ← field
  if bytes_eq text (codes "0") then Some false else (if bytes_eq text (codes "1") then Some true else None)

-- the type of a component
unfoldable pub kind : Option (List ℕ) → Option Kind
kind field = do
  text ← field
  if bytes_eq text (codes "valve") then Some Valve else (
      if bytes_eq text (codes "pump") then Some Pump else (
      if bytes_eq text (codes "compressor") then Some Compressor else (
      if bytes_eq text (codes "relief") then Some Relief else None)))

-- the service of a component
unfoldable pub service : Option (List ℕ) → Option Service
service field = do
  text ← field
  if bytes_eq text (codes "gas") then Some Gas else (
      if bytes_eq text (codes "light") then Some Light else (
      if bytes_eq text (codes "heavy") then Some Heavy else (
      if bytes_eq text (codes "vacuum") then Some Vacuum else (
      if bytes_eq text (codes "under300") then Some Under300 else None))))

-- the designation of a component
unfoldable pub designation : Option (List ℕ) → Option Designation
designation field = do
  text ← field
  if bytes_eq text (codes "none") then Some Plain else (
      if bytes_eq text (codes "nde") then Some Nde else (
      if bytes_eq text (codes "unsafe") then Some Unsafe else (
      if bytes_eq text (codes "difficult") then Some Difficult else None)))

-- ---- the class

-- the months of a plan, in the range that the designation allows
abbrev pub plan : Designation → Option (List ℕ) → Option ℕ
plan Plain field = number 0 0 field
plan Nde field = number 0 0 field
plan Unsafe field = number 1 60 field
plan Difficult field = number 0 0 field

-- the class of four fields
unfoldable pub class : Option (List ℕ) → Option (List ℕ) → Option (List ℕ) → Option (List ℕ) → Option Class
class service_field designation_field plan_field month_field = do
  service ← service service_field
  designation ← designation designation_field
  plan ← plan designation plan_field
  month ← number 1 3 month_field
  Some (record { service = service; designation = designation; plan = plan; month = month })
