use Rattle.std.proofs.Common.{◌≡◌, ◌+◌, ◌-◌, ◌∷◌, ℕ, suc, refl, sym, ap, ◌∙◌, arith}
use Rattle.csv.specs.Records.{fields_of}
use Rattle.csv_rows.specs.Records.{records_left}
use Rattle.register_import.proofs.SortLemmas.{first_rows, one_more, row_bad, row_more, rows_end}
use Rattle.csv_rows.proofs.RecordLemmas.{none_more}
use Rattle.register_import.proofs.components.rows_of.Goals as goal

pub loop-turn-init : goal.loop-turn-init
loop-turn-init c =
    let reader = c.args.reader.now in
    let all : c.args.most - 0 ≡ c.args.most = omega arith in
    let rows = ap (λ (n : ℕ). records_left n reader) all in (
      c.requires.reading,
      rw (c.new.ensures.items, c.new-2.ensures.items) (first_rows 2 (records_left (c.args.most - 0) reader) (records_left c.args.most reader) refl rows),
      rw (c.new.ensures.items, c.new-2.ensures.items) refl,
    )

pub returns-then-not-branch-clause-value : goal.returns-then-not-branch-clause-value
returns-then-not-branch-clause-value c =
    let left = c.args.most - c.loop-turn.turn in
    let none = c.in_ok-next_record.ensures.none (cc) left in
    sym c.loop-turn.invariant.1
    ∙ rows_end c.loop-turn.rows.others.items c.loop-turn.rows.difficult.items (c.loop-turn.turn + 2) (records_left left c.loop-turn.reader) none

pub returns-in_default-clause-bad : goal.returns-in_default-clause-bad
returns-in_default-clause-bad c =
    let others = c.loop-turn.rows.others.items in
    let difficult = c.loop-turn.rows.difficult.items in
    let left = c.args.most - c.loop-turn.turn in
    let later = c.args.most - (c.loop-turn.turn + 1) in
    let found = c.in_ok-next_record.ensures.found (cc) in
    let one_later : left ≡ suc later = omega arith in
    let rows : records_left left c.loop-turn.reader ≡ fields_of c.next_record.new.row ∷ records_left later c.next_record.new.reader =
    ap (λ (n : ℕ). records_left n c.loop-turn.reader) one_later ∙ found.1 later in
    sym c.loop-turn.invariant.1
    ∙ row_bad others difficult (c.loop-turn.turn + 2) (fields_of c.next_record.new.row) (records_left left c.loop-turn.reader) (records_left later c.next_record.new.reader)
    rows (sym c.in_default.ensures.value)

pub loop-turn-preserved : goal.loop-turn-preserved
loop-turn-preserved c =
    let others = c.loop-turn.rows.others.items in
    let difficult = c.loop-turn.rows.difficult.items in
    let more_others = c.push.new.self.others.items in
    let more_difficult = c.push.new.self.difficult.items in
    let left = c.args.most - c.loop-turn.turn in
    let later = c.args.most - (c.loop-turn.turn + 1) in
    let found = c.in_ok-next_record.ensures.found (cc) in
    let one_later : left ≡ suc later = omega arith in
    let rows : records_left left c.loop-turn.reader ≡ fields_of c.next_record.new.row ∷ records_left later c.next_record.new.reader =
    ap (λ (n : ℕ). records_left n c.loop-turn.reader) one_later ∙ found.1 later in
    let step = row_more others difficult more_others more_difficult c.in-Some.fact (c.loop-turn.turn + 2) (c.loop-turn.turn + 1 + 2)
    (fields_of c.next_record.new.row) (records_left left c.loop-turn.reader) (records_left later c.next_record.new.reader)
    rows (sym c.in-Some.ensures.value) (omega arith) c.in_ok-push.ensures.others c.in_ok-push.ensures.difficult in
    let one = one_more others difficult more_others more_difficult c.in-Some.fact c.in_ok-push.ensures.others c.in_ok-push.ensures.difficult in
    (found.0, sym step ∙ c.loop-turn.invariant.1, omega (arith, one, c.loop-turn.invariant.2))

pub returns-clause-value : goal.returns-clause-value
returns-clause-value c =
    let left = c.args.most - c.loop-turn.turn in
    sym c.loop-turn.invariant.1
    ∙ rows_end c.loop-turn.rows.others.items c.loop-turn.rows.difficult.items (c.loop-turn.turn + 2) (records_left left c.loop-turn.reader)
    (none_more left c.loop-turn.reader (omega arith))
