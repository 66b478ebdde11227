-- A fact as contracts see it.
use Rattle.std.specs.Prelude.{ℕ}
use Rattle.fact_kinds.specs.declared.body.FactBody.{FactBody}

-- a fact: its day (since 1970-01-01), its minute of the day and what it states
pub record Stated : Type 0 where
  pub day : ℕ
  pub minute : ℕ
  pub body : FactBody
