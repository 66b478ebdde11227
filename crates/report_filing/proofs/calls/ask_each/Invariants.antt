use Rattle.std.proofs.Common.{◌≤◌, Contains, take}
use Rattle.disk_model.specs.Faults.{Rose}
use Rattle.disk_model.specs.Told.{BothTold}
use Rattle.report_filing.specs.Calls.{map_of, AnswersCalls}
use Rattle.report_filing.specs.declared.calls.FilingAnswer.TheVariants as answer
use Rattle.report_filing.specs.declared.filing.FilingFault.TheVariants.{Failed}
use Rattle.report_filing.proofs.calls.ask_each.Given as goal

-- the calls so far are answered, and an error among the answers was counted
abbrev pub invariant-loop-call : goal.invariant-loop-call
invariant-loop-call g l =
    BothTold (g.F.Filing.on_file l.fn.filing) (g.F.Filing.on_file l.filing)
    (λ old new. AnswersCalls (take l.call-index l.calls) l.answers.items (map_of old) (map_of new))
    × (g.F.Filing.faults l.fn.filing ≤ g.F.Filing.faults l.filing)
    × (Contains l.answers.items (answer.Fault Failed) → Rose (g.F.Filing.faults l.fn.filing) (g.F.Filing.faults l.filing))
