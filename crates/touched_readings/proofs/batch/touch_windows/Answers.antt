use Rattle.std.proofs.Common.{◌≡◌, ℕ, ◌+◌, ◌≤◌, ◌&&◌, take, ◌∙◌, subst}
use Rattle.std.specs.Prelude.{not}
use Rattle.std.specs.List.{list_any}
use Rattle.touched_readings.specs.Flags.{flag_of}
use Rattle.touched_readings.specs.Windows.{is_read_in, readings_with}
use Rattle.touched_readings.proofs.BatchLemmas.{rest_clears, done_next, cleared_next, reads_next}
use Rattle.touched_readings.proofs.batch.touch_windows.Goals as goal

pub loop-window-preserved : goal.loop-window-preserved
loop-window-preserved g c =
    let arrived = c.args.store.now.arrived in
    let facts = take c.args.store.now.listed arrived in
    let l = c.loop-window in
    let window = c.window-item.result in
    let leaves = c.rest_of-rest.ensures.value in
    let cleared : (n : ℕ) → flag_of c.touch_window.new.fresh n ≡ (flag_of l.fresh n && not (list_any (is_read_in window n) facts)) =
    λ n. c.touch_window.ensures.value n ∙ rest_clears facts window l.done c.rest_of-rest.result leaves n l.fresh l.invariant.done in
    record {
      value = λ n. cleared_next facts n c.args.windows.now l.window-index window _ _ _ c.loop-window-test.true c.window-item.is (l.invariant.value n) (cleared n);
      length = c.touch_window.ensures.length ∙ l.invariant.length;
      done = done_next facts l.done window c.later_end.result l.fresh c.touch_window.new.fresh c.later_end.ensures.value l.invariant.done cleared;
      counted = reads_next arrived c.args.windows.now l.window-index window _ _ _ c.loop-window-test.true c.window-item.is l.invariant.counted
          (subst (λ i. c.touch_window.new.steps ≤ l.steps + readings_with i arrived) leaves.instrument c.touch_window.ensures.counted);
    }
