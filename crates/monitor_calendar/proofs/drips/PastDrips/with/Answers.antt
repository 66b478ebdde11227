use Rattle.std.proofs.Common.{◌&&◌, ◌||◌, not, sym, ap, ◌∙◌}
use Rattle.ldar_law.specs.Happenings.{has_drips, is_below, is_dry}
use Rattle.ldar_law.specs.Duties.{is_repeated}
use Rattle.monitor_calendar.proofs.DripLemmas.{drips_wait_more, is_repeated_more}
use Rattle.monitor_calendar.proofs.drips.PastDrips.with.Goals as goal

pub returns : goal.returns
returns c =
    let e = c.args.e.now in
    record {
      value = λ front tells. record {
        wait = c.wait_with.ensures.value
            ∙ ap (λ b. not (is_dry e.what) && (b || has_drips e.what)) tells.wait ∙ sym (drips_wait_more front e);
        repeat = c.repeat_with.ensures.value
            ∙ ap (λ b. not (is_dry e.what) && (b || (c.args.self.wait && is_below e.what))) tells.repeat
            ∙ ap (λ b. not (is_dry e.what) && (is_repeated front || (b && is_below e.what))) tells.wait
            ∙ sym (is_repeated_more front e);
      };
    }
