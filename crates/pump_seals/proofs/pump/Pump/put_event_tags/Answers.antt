use Rattle.std.proofs.Common.{◌∙◌}
use Rattle.pump_seals.specs.declared.sign.Sign.TheVariants.{Attempt}
use Rattle.pump_seals.proofs.PumpLemmas.{duty_rise, signs_rise, switched_rise}
use Rattle.pump_seals.proofs.pump.Pump.put_event_tags.Goals as goal

pub on_duty-requires : goal.on_duty-requires
on_duty-requires c = record { ordered = switched_rise c.args.self.now c.requires.ready }

pub put_tags-requires : goal.put_tags-requires
put_tags-requires c =
    let pump = c.args.self.now in
    let ready = c.requires.ready in
    record {
      ordered = record {
        leaks = duty_rise pump.item.now pump.switches.now c.deref.result.now c.as_slice.result.now (c.as_slice.ensures.value ∙ c.in_ok-leaks.ensures.value)
            (signs_rise pump ready c.args.leak c.deref.result.now (c.deref.ensures.value ∙ c.in_ok-signs.ensures.value));
        attempts = signs_rise pump ready Attempt c.as_slice-2.result.now (c.as_slice-2.ensures.value ∙ c.in_ok-attempts.ensures.value);
        mends = signs_rise pump ready c.args.mend c.as_slice-3.result.now (c.as_slice-3.ensures.value ∙ c.in_ok-mends.ensures.value);
      };
    }
