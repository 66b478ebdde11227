use Rattle.std.proofs.Common.{sym, ◌∙◌, arith}
use Rattle.std.proofs.lemmas.Result.{err_from_is_err_and}
use Rattle.ldar_facts.proofs.NameSteps.{zeros_stop, zeros_step, zeros_end}
use Rattle.ldar_facts.proofs.cursor.Cursor.zeros.Goals as goal

pub returns-in_err-byte : goal.returns-in_err-byte
returns-in_err-byte c =
    let p = err_from_is_err_and c.from_residual.result c.from_residual.ensures.1 in
    rw (p.1, p.2) (sym c.loop.invariant ∙ zeros_stop c.args.count c.loop.counter (omega arith) c.loop.self c.in_err-byte.field-0.0 c.in_err-byte.ensures)

pub loop-preserved : goal.loop-preserved
loop-preserved c = sym (zeros_step c.args.count c.loop.counter (omega arith) c.loop.self _ c.byte.new.self c.in_ok-byte.ensures) ∙ c.loop.invariant

pub returns : goal.returns
returns c = sym c.loop.invariant ∙ zeros_end c.args.count c.loop.counter c.loop.self (omega arith)
