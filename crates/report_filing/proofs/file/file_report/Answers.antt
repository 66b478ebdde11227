use Rattle.std.proofs.Common.{sym, subst}
use Rattle.disk_model.specs.Told.{Told}
use Rattle.report_filing.specs.Answers.{filed_as}
use Rattle.report_filing.specs.Revisions.{IsNext}
use Rattle.report_filing.proofs.RevisionLemmas.{told_next}
use Rattle.report_filing.proofs.file.file_report.Goals as goal

pub put-requires : goal.put-requires
put-requires g c =
    let next = told_next c.args.report.now c.in_ok-revision.revision c.in_ok-last.last c.in_ok-revision.ensures.value
    (g.F.Filing.on_file c.args.filing.now) c.in_ok-last.ensures.value c.latest.ensures.numbered in
    let same = sym c.latest.ensures.unchanged in
    let copied = sym c.in_ok-copy_of.ensures.value in
    record { next = rw copied at (subst (λ told. Told told (IsNext (filed_as c.in_ok-revision.revision c.args.report.now))) same next) }

pub returns-clause-next : goal.returns-clause-next
returns-clause-next g c =
    told_next c.args.report.now c.in_ok-revision.revision c.in_ok-last.last c.in_ok-revision.ensures.value
    (g.F.Filing.on_file c.args.filing.now) c.in_ok-last.ensures.value c.latest.ensures.numbered
