-- A pump whose events and marks are in order.
use Rattle.std.specs.Prelude.{◌≡◌}
use Rattle.list_words.specs.Order.{Ascends}
use Rattle.fact_kinds.specs.Facts.{is_earlier}
use Rattle.pump_seals.specs.declared.pump.Pump.{Pump}
use Rattle.pump_seals.specs.Moments.{MomentsRise, mark_before}
use Rattle.pump_seals.specs.Signs.{switches_of}

-- the pump's events are in key order, its marks in order of time, and its switches are the marks that seal or unseal it
pub record IsReady (pump : Pump) : Type 0 where
  pub events : Ascends (λ a b. is_earlier a.key b.key) pump.events.now
  pub marks : MomentsRise mark_before pump.marks.now
  pub switches : pump.switches.now ≡ switches_of pump.marks.now
