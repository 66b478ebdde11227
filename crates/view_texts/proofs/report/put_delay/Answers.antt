use Rattle.std.proofs.Common.{codes}
use Rattle.std.proofs.lemmas.Result.{on_ok_weaker}
use Rattle.ldar_law.specs.Texts.{day_or_hyphen, delay_line, end_of_line}
use Rattle.view_texts.proofs.TextLemmas.{line_put}
use Rattle.view_texts.proofs.report.put_delay.Goals as goal

pub returns : goal.returns
unfolding delay_line
returns c = record {
  value = on_ok_weaker c.write.result
      (line_put _ (codes "delay ") _ (codes " closed ") (day_or_hyphen c.args.line.now.closed) end_of_line _ _ _
      c.in_ok-push_str.ensures.bytes c.in_ok-put_delay_words.ensures.value)
      c.write.ensures.bytes;
}
