use Rattle.std.proofs.Common.{◌∙◌}
use Rattle.pump_seals.specs.declared.sign.Sign.TheVariants.{AnyLook}
use Rattle.pump_seals.proofs.PumpLemmas.{signs_rise, switched_rise}
use Rattle.pump_seals.proofs.pump.Pump.put_week_duties.Goals as goal

pub put_weekly-requires-clause-switches : goal.put_weekly-requires-clause-switches
put_weekly-requires-clause-switches c = switched_rise c.args.self.now c.requires.ready

pub put_weekly-requires-clause-looks : goal.put_weekly-requires-clause-looks
put_weekly-requires-clause-looks c =
    signs_rise c.args.self.now c.requires.ready AnyLook c.deref.result.now (c.deref.ensures.value ∙ c.in_ok-looks.ensures.value)
