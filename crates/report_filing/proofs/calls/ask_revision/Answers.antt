use Rattle.std.proofs.Common.{sym, subst}
use Rattle.disk_model.specs.Told.{BothTold}
use Rattle.report_filing.specs.Calls.{map_of, AnswersCall}
use Rattle.report_filing.specs.declared.calls.FilingCall.TheVariants as call
use Rattle.report_filing.proofs.CallLemmas.{revision_answer}
use Rattle.report_filing.proofs.calls.ask_revision.Goals as goal

pub returns-clause-value : goal.returns-clause-value
returns-clause-value g c =
    let old = g.F.Filing.on_file c.args.filing.now in
    let new = g.F.Filing.on_file c.revision.new.self in
    subst (λ given. BothTold old new (λ old new. AnswersCall (call.Revision c.args.unit c.args.half c.args.revision) given (map_of old) (map_of new)))
    (sym c.found_or_fault.ensures.value)
    (revision_answer c.args.unit c.args.half c.args.revision c.revision.result old new c.revision.ensures.unchanged c.revision.ensures.numbered
    c.revision.ensures.value)
