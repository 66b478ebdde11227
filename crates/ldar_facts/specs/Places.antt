-- Internal: how the private readers are proved. It is in specs/ only because their clauses cite it.
-- The rest of a fact after its first five bytes, and a fact that was pushed to a list.
use Rattle.std.specs.Prelude.{◌≡◌, ℕ, ◌-◌, nat_lt, if◌then◌else◌, List, [], ◌∷◌, ◌++◌, drop, Ok}
use Rattle.ldar_facts.specs.declared.read_end.ReadEnd.{ReadEnd}
use Rattle.ldar_facts.specs.declared.read_end.ReadEnd.TheVariants.{Short, Wrong}
use Rattle.fact_kinds.specs.Stated.{Stated}
use Rattle.ldar_facts.specs.Form.{◌then◌}
use Rattle.ldar_facts.specs.FactForms as forms

-- the bytes begin with a kind, day and minute, so that the bytes after place 5 decide how the fact is read
abbrev pub BeginsFact : List ℕ → ℕ → ℕ → ℕ → Type 0
BeginsFact bytes kind day minute =
    (forms.fact).read bytes ≡ ((forms.body kind).read (drop 5 bytes) then λ x. Ok (record { day = day; minute = minute; body = x.0 }, x.1))

-- the fact at the start of the bytes was read and pushed to a list
pub record TakesFact (bytes : List ℕ) (old new : List Stated) (rest : List ℕ) : Type 0 where
  pub fact : Stated
  pub read : (forms.fact).read bytes ≡ Ok (fact, rest)
  pub items : new ≡ old ++ fact ∷ []

-- the reason why a reading would have ended without this many appended bytes
abbrev pub stop_before : ReadEnd → ℕ → ReadEnd
stop_before Short added = Short
stop_before (Wrong left) added = if nat_lt added left then Wrong (left - added) else Short
