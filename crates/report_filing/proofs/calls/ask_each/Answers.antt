use Rattle.std.proofs.Common.{◌+◌, ◌++◌, ◌∷◌, [], refl, arith}
use Rattle.report_filing.proofs.CallLemmas.{next_answered, some_answered, failure_counted}
use Rattle.report_filing.proofs.calls.ask_each.Goals as goal

pub returns-in_err-push-clause-stopped : goal.returns-in_err-push-clause-stopped
returns-in_err-push-clause-stopped g c =
    let first = g.F.Filing.on_file c.args.filing.now in
    let told = g.F.Filing.on_file c.loop-call.filing in
    let last = g.F.Filing.on_file c.ask-answer.new.filing in
    let place = c.loop-call.call-index in
    let answers = c.loop-call.answers.items in
    let more = answers ++ c.ask-answer.result ∷ [] in
    some_answered c.from_residual.result c.args.calls.now (place + 1) more first last
    (next_answered c.args.calls.now place answers more c.call-item.result c.ask-answer.result first told last c.loop-call-test.true c.call-item.is refl
    c.loop-call.invariant.0 c.ask-answer.ensures.value)

pub loop-call-preserved : goal.loop-call-preserved
loop-call-preserved g c =
    let first = c.args.filing.now in
    let told = c.loop-call.filing in
    let last = c.ask-answer.new.filing in
    let answers = c.loop-call.answers.items in
    let before = c.loop-call.invariant in
    let asked = c.ask-answer.ensures in (
      next_answered c.args.calls.now c.loop-call.call-index answers _ c.call-item.result c.ask-answer.result
          (g.F.Filing.on_file first) (g.F.Filing.on_file told) (g.F.Filing.on_file last) c.loop-call-test.true c.call-item.is c.in_ok-push.ensures.items
          before.0 asked.value,
      omega (arith, before.1, asked.count),
      failure_counted answers _ c.ask-answer.result (g.F.Filing.faults first) (g.F.Filing.faults told) (g.F.Filing.faults last) c.in_ok-push.ensures.items
          before.1 asked.count before.2 asked.cause,
    )
