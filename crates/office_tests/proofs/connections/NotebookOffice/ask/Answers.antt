use Rattle.std.proofs.Common.{[], ◌∷◌, false, refl, arith}
use Rattle.ldar_law.specs.Machine.{Call, Turn, not_asked}
use Rattle.office_tests.proofs.connections.NotebookOffice.ask.Goals as goal

-- one turn of one call
pub returns-clause-value : goal.returns-clause-value
returns-clause-value c =
    let turn : Turn =
    record { request = c.args.request.now; reply = c.reply_to.result; found = not_asked; in_doubt = false; before = 0; after = 0; clock = 0 } in
    let call : Call = record { turns = turn ∷ []; end = record { state = record { history = []; doubt = [] }; faults = 0; clock = 0 } } in (
      call,
      tt,
      refl,
      refl,
      omega arith,
    )
