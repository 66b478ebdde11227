use Rattle.std.proofs.Common.{◌∙◌}
use Rattle.pump_seals.specs.declared.sign.Sign.TheVariants.{Answer}
use Rattle.pump_seals.proofs.PumpLemmas.{signs_rise, switched_rise}
use Rattle.pump_seals.proofs.pump.Pump.put_drip_duties.Goals as goal

pub on_duty-requires : goal.on_duty-requires
on_duty-requires c = record { ordered = switched_rise c.args.self.now c.requires.ready }

pub put_after_drips-requires : goal.put_after_drips-requires
put_after_drips-requires c = record {
  answers = signs_rise c.args.self.now c.requires.ready Answer c.deref-2.result.now (c.deref-2.ensures.value ∙ c.in_ok-answers.ensures.value);
}
