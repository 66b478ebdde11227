use Rattle.report_table.proofs.CellLemmas.{put_behind}
use Rattle.report_table.proofs.writing.put_line.Goals as goal

pub returns : goal.returns
returns c =
    let old = c.args.out.now.items in
    let component = c.put_two.new.out.items in
    let detected = c.put_day.new.out.items in
    let delay = c.put_delay.new.out.items in
    let until = c.put_until.new.out.items in
    let new = c.put_day_or_none.new.out.items in
    record {
      put = put_behind old component new _ _ c.in_ok-put_two.ensures.put
          (put_behind component detected new _ _ c.in_ok-put_day.ensures.put
          (put_behind detected delay new _ _ c.in_ok-put_delay.ensures.put
          (put_behind delay until new _ _ c.in_ok-put_until.ensures.put c.in_ok-put_day_or_none.ensures.put)));
    }
