use Rattle.std.proofs.Common.{take, sym, ◌∙◌, Ok, ap, arith}
use Rattle.std.proofs.lemmas.Result.{err_from_is_err_and}
use Rattle.std.proofs.lemmas.List.{length-set, take_more_set}
use Rattle.ldar_facts.proofs.NameSteps.{behind_stop, behind_letter, is_name, is_some, same_name, zeros_follow, zeros_fail, all_letters}
use Rattle.ldar_facts.proofs.cursor.Cursor.name.Goals as goal

pub returns-in_err-next : goal.returns-in_err-next
returns-in_err-next c =
    let p = err_from_is_err_and c.from_residual-in_err-next.result c.from_residual-in_err-next.ensures.1 in
    rw (p.1, p.2) (sym c.loop-len.invariant.same ∙ behind_stop 12 c.loop-len.len (omega arith) c.loop-len.self _ c.in_err-next.field-0.0 c.in_err-next.ensures)

pub returns-in_err-zeros : goal.returns-in_err-zeros
returns-in_err-zeros c =
    let p = err_from_is_err_and c.from_residual-in_err-zeros.result c.from_residual-in_err-zeros.ensures.1 in
    rw (p.1, p.2) (zeros_fail c.loop-len.len (omega arith)
    (take c.loop-len.len c.loop-len.letters) c.args.self.now c.loop-len.self c.byte-in-loop-len.new.self c.in_ok-next.next c.loop-len.invariant.same
    (omega arith) c.in_ok-next.ensures c.in_err-zeros.field-0.0 c.in_err-zeros.ensures)

pub unwrap-requires : goal.unwrap-requires
unwrap-requires c =
    let name = take c.loop-len.len c.loop-len.letters in
    let read = zeros_follow c.loop-len.len
    (omega arith) name c.args.self.now c.loop-len.self c.byte-in-loop-len.new.self c.in_ok-next.next c.loop-len.invariant.same
    (omega arith) c.in_ok-next.ensures c.in_ok-zeros.field-0 c.zeros.new.self c.in_ok-zeros.ensures in
    is_some name c.new.result (is_name c.args.self.now name c.zeros.new.self read) c.new.ensures.none

pub returns-then-next-eq0 : goal.returns-then-next-eq0
returns-then-next-eq0 c =
    let name = take c.loop-len.len c.loop-len.letters in
    let read = zeros_follow c.loop-len.len
    (omega arith) name c.args.self.now c.loop-len.self c.byte-in-loop-len.new.self c.in_ok-next.next c.loop-len.invariant.same
    (omega arith) c.in_ok-next.ensures c.in_ok-zeros.field-0 c.zeros.new.self c.in_ok-zeros.ensures in
    read ∙ ap (λ l. Ok (l, c.zeros.new.self)) (same_name name c.new.result c.unwrap.result c.unwrap.ensures c.new.ensures.value)

pub loop-len-preserved : goal.loop-len-preserved
loop-len-preserved c =
    let len = length-set c.loop-len.letters c.loop-len.len c.in_ok-next.next in
    let step = behind_letter 12 c.loop-len.len (omega arith) c.loop-len.self
    (take c.loop-len.len c.loop-len.letters) c.in_ok-next.next c.byte-in-loop-len.new.self (λ is. omega arith) c.in_ok-next.ensures in
    record {
      room = omega (arith, c.loop-len.invariant.room);
      same = rw (take_more_set c.loop-len.letters c.loop-len.len c.in_ok-next.next (omega (arith, c.loop-len.invariant.room)))
          (sym step ∙ c.loop-len.invariant.same);
    }

pub unwrap-requires-2 : goal.unwrap-requires-2
unwrap-requires-2 c =
    let read = all_letters c.loop-len.len c.loop-len.letters c.args.self.now c.loop-len.self
    (omega arith) c.loop-len.invariant.room c.loop-len.invariant.same in
    is_some c.loop-len.letters c.new-2.result (is_name c.args.self.now c.loop-len.letters c.loop-len.self read) c.new-2.ensures.none

pub returns : goal.returns
returns c =
    let read = all_letters c.loop-len.len c.loop-len.letters c.args.self.now c.loop-len.self
    (omega arith) c.loop-len.invariant.room c.loop-len.invariant.same in
    read ∙ ap (λ l. Ok (l, c.loop-len.self)) (same_name c.loop-len.letters c.new-2.result c.unwrap-2.result c.unwrap-2.ensures c.new-2.ensures.value)
