use Rattle.std.proofs.Common.{◌≡◌, ◌++◌, List, ℕ, codes, ap, subst, append_assoc}
use Rattle.std.specs.Fmt.{decimal}
use Rattle.std.proofs.lemmas.Result.{err_from_is_err_and}
use Rattle.ldar_law.specs.Texts.{end_of_line}
use Rattle.office_mirror.specs.Line.{IsPutAt}
use Rattle.office_mirror.proofs.LineLemmas.{put_more, put_part}
use Rattle.office_mirror.proofs.line.put_gap.Goals as goal

-- the two parts of the line
joined : (start held : ℕ) → (codes "gap " ++ (decimal start ++ codes " ")) ++ (decimal held ++ end_of_line)
    ≡ codes "gap " ++ (decimal start ++ (codes " " ++ (decimal held ++ end_of_line)))
joined start held = ap (λ l. codes "gap " ++ l) (append_assoc (decimal start) (codes " ") (decimal held ++ end_of_line))

pub returns-in_err-put_number-clause-said : goal.returns-in_err-put_number-clause-said
returns-in_err-put_number-clause-said g c =
    let one = c.in_err-put_number.ensures.said in
    let clock = g.D.Disk.clock c.args.beside.now in
    let pieces = g.K.Sink.pieces in
    let e = err_from_is_err_and c.from_residual.result c.from_residual.ensures.1 in
    subst (λ (text : List ℕ). IsPutAt clock text (pieces c.args.sink.now) (pieces c.put_number.new.sink) c.from_residual.result)
    (joined c.args.start c.args.held)
    (put_part clock (codes "gap " ++ (decimal c.args.start ++ codes " ")) (decimal c.args.held ++ end_of_line) _ _ one.0 one.1 c.from_residual.result e.0 e.1
    one.2 one.3 one.5)

pub returns-clause-said : goal.returns-clause-said
returns-clause-said g c =
    let one = c.in_ok-put_number.ensures.said in
    let clock = g.D.Disk.clock c.args.beside.now in
    let pieces = g.K.Sink.pieces in
    subst (λ (text : List ℕ). IsPutAt clock text (pieces c.args.sink.now) (pieces c.put_number-2.new.sink) c.put_number-2.result)
    (joined c.args.start c.args.held)
    (put_more clock (codes "gap " ++ (decimal c.args.start ++ codes " ")) (decimal c.args.held ++ end_of_line) _ _ _ one.0 one.1 c.put_number-2.result
    one.2 one.3 one.4 one.5 c.put_number-2.ensures.said)
