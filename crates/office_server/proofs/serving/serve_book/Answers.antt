use Rattle.std.proofs.Common.{subst}
use Rattle.office_server.specs.Serving.{AreServed}
use Rattle.office_server.proofs.serving.serve_book.Goals as goal

-- the room begins at the moment of the office that was opened
pub returns-in-Ok-clause-served : goal.returns-in-Ok-clause-served
returns-in-Ok-clause-served g c begun =
    subst (λ start. AreServed {L = g.row.L.Denot} g.L.Front.left g.L.Front.done start c.args.fronts.now c.serve_in.new.fronts) c.in-Ok.ensures.opened.0
    (c.serve_in.ensures.served begun)
