use Rattle.std.proofs.Common.{inr, ◌∙◌, arith}
use Rattle.ldar_journal.proofs.CrashLemmas.{AnswersInRoom-weaker}
use Rattle.office_book.proofs.AskLemmas.{tail_answered}
use Rattle.office_book.proofs.GroupLemmas.{own_part}
use Rattle.office_book.proofs.requests.BookOffice.ask_group.Goals as goal

pub returns-clause-untouched : goal.returns-clause-untouched
returns-clause-untouched g c = λ none puts same.
    let front = c.args.replies.now.items in
    let call = c.answer.ensures.value in
    c.answer.ensures.untouched none (inr (inr (
      own_part front _ c.answer.new.replies
          (tail_answered call.0 c.args.requests.now c.push_faults.new.replies.len c.len-start.result front c.reserve.new.self.items c.push_faults.new.replies.items
          c.deref_mut.result.now c.answer.new.replies _ _ c.in_ok-reserve.ensures.items (c.len-start.ensures ∙ c.reserve.new.self.ok.0) c.push_faults.ensures.items
          c.deref_mut.ensures.value c.push_faults.new.replies.ok.0 call.2 call.3)
          puts,
      same,
    )))

pub returns-clause-roomy : goal.returns-clause-roomy
returns-clause-roomy g c =
    let front = c.args.replies.now.items in
    let call = c.answer.ensures.value in
    AnswersInRoom-weaker g.D.Disk.room g.D.Disk.clock 6 6 c.args.self.now.disk c.answer.new.self.disk _ _ (omega arith)
    (λ room kept has. (
      c.answer.new.replies,
      (tail_answered call.0 c.args.requests.now c.push_faults.new.replies.len c.len-start.result front c.reserve.new.self.items c.push_faults.new.replies.items
          c.deref_mut.result.now c.answer.new.replies _ _ c.in_ok-reserve.ensures.items (c.len-start.ensures ∙ c.reserve.new.self.ok.0) c.push_faults.ensures.items
          c.deref_mut.ensures.value c.push_faults.new.replies.ok.0 call.2 call.3),
      kept has,
    )) c.answer.ensures.roomy
