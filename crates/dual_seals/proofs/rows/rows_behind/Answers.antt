use Rattle.std.proofs.Common.{◌≡◌, ◌+◌, ◌-◌, ◌∷◌, [], ℕ, suc, sym, ap, ◌∙◌, arith}
use Rattle.csv.specs.Records.{fields_of}
use Rattle.csv_rows.specs.Records.{records_left}
use Rattle.csv_rows.proofs.RecordLemmas.{none_more}
use Rattle.dual_seals.specs.Rows.{row_of, rows_from, with_row}
use Rattle.dual_seals.proofs.MapLemmas.{bad_tells, rows_bad, rows_done}
use Rattle.dual_seals.proofs.rows.rows_behind.Goals as goal

pub returns-in-Err-clause-bad : goal.returns-in-Err-clause-bad
returns-in-Err-clause-bad c =
    let (reading, earlier, kept) = c.loop-turn.invariant in
    let has = kept.0 in
    let is = kept.1 in
    let at = c.loop-turn.turn + 2 in
    let left = c.args.most - c.loop-turn.turn in
    let later = c.args.most - (c.loop-turn.turn + 1) in
    let fields = fields_of c.next_record.new.row in
    let found = c.in_ok-next_record.ensures.found (cc) in
    let one_later : left ≡ suc later = omega arith in
    let rows : records_left left c.loop-turn.reader ≡ fields ∷ records_left later c.next_record.new.reader =
    ap (λ (n : ℕ). records_left n c.loop-turn.reader) one_later ∙ found.1 later in
    bad_tells at (rows_from 2 [] (records_left c.args.most c.args.reader.now)) (with_row earlier (row_of at fields)) c.in-Err.error
    (λ none. sym is ∙ rows_bad at earlier fields (records_left left c.loop-turn.reader) (records_left later c.next_record.new.reader) rows none)
    (c.in-Err.ensures.bad earlier has)

pub returns-clause-value : goal.returns-clause-value
returns-clause-value c =
    let (reading, earlier, kept) = c.loop-turn.invariant in
    let has = kept.0 in
    let is = kept.1 in
    let left = c.args.most - c.loop-turn.turn in (
      earlier,
      sym is ∙ rows_done (c.loop-turn.turn + 2) earlier (records_left left c.loop-turn.reader) (none_more left c.loop-turn.reader (omega arith)),
      has,
    )
