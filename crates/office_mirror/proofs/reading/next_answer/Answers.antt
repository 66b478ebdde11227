use Rattle.std.proofs.Common.{◌≡◌, ◌<◌, ◌≤◌, ◌+◌, ◌-◌, ◌++◌, ℕ, List, length, take, drop, refl, sym, ap, subst, ◌∙◌, arith, append_assoc, length-append}
use Rattle.ldar_ports.proofs.TakesLemmas.{takes_more}
use Rattle.office_mirror.proofs.LengthLemmas.{begun_fits}
use Rattle.office_mirror.specs.declared.reader.AnswerPiece.TheVariants.{Last, Part, Short}
use Rattle.office_mirror.specs.AnswerGrammar.{SpellsAnswer}
use Rattle.office_mirror.specs.Reader.{ReadsPiece}
use Rattle.office_mirror.specs.Reading.{EndsReading, IsNext, IsUnfinished}
use Rattle.office_mirror.proofs.ReadingLemmas.{bytes_pass, next_is, part_sizes}
use Rattle.office_mirror.proofs.reading.next_answer.Goals as goal

-- a piece passed to those that were read
pub coming-smaller-in-Ok-Part : goal.coming-smaller-in-Ok-Part
coming-smaller-in-Ok-Part g c =
    let reader = c.coming.reader in
    let window = c.coming.window.bytes in
    let next = c.read_piece.new.self in
    let rest = c.drop_front.new.self.bytes in
    let used = c.in-Ok-Part.used in
    let got = c.coming.got in
    let piece : ReadsPiece c.coming.reader c.bytes.result.now c.read_piece.new.self (Part c.in-Ok-Part.used) =
    subst (ReadsPiece c.coming.reader c.bytes.result.now c.read_piece.new.self) c.in-Ok-Part.field-0-is c.in-Ok-Part.ensures.value in
    let sizes = part_sizes reader window next rest c.bytes.result.now used got c.bytes.ensures.value piece.1 piece.2
    (ap (λ w. w.bytes) c.drop_front.ensures.value) c.coming.invariant.1 in
    let smaller : (385_174 - (length next + length rest)) + (188_566 - (got + used)) < (385_174 - (length reader + length window)) + (188_566 - got) =
    omega (arith, sizes.0, sizes.1, piece.0, c.coming.invariant.1, begun_fits next c.begins.ensures.law, c.coming.invariant.3, c.coming.invariant.4) in
    smaller

pub coming-preserved-in-Ok-Part : goal.coming-preserved-in-Ok-Part
coming-preserved-in-Ok-Part g c =
    let reader = c.coming.reader in
    let window = c.coming.window.bytes in
    let next = c.read_piece.new.self in
    let rest = c.drop_front.new.self.bytes in
    let used = c.in-Ok-Part.used in
    let got = c.coming.got in
    let piece : ReadsPiece c.coming.reader c.bytes.result.now c.read_piece.new.self (Part c.in-Ok-Part.used) =
    subst (ReadsPiece c.coming.reader c.bytes.result.now c.read_piece.new.self) c.in-Ok-Part.field-0-is c.in-Ok-Part.ensures.value in
    let shown = c.bytes.ensures.value in
    let dropped = ap (λ w. w.bytes) c.drop_front.ensures.value in
    let size = ap (λ w. w.size) c.drop_front.ensures.value in
    let sizes = part_sizes reader window next rest c.bytes.result.now used got shown piece.1 piece.2 dropped c.coming.invariant.1 in
    let was = c.coming.invariant.0 in
    let reads : next ≡ reader ++ take used window = piece.2 ∙ ap (λ l. reader ++ take used l) shown in (
      (
        was.0,
        was.1,
        bytes_pass (c.args.window.now.bytes ++ was.0) reader window used was.2 ∙ ap (λ l. l ++ drop used window) (sym reads) ∙ ap (λ l. next ++ l) (sym dropped),
      ),
      sizes.0,
      omega (arith, sizes.0, begun_fits next c.begins.ensures.law),
      size ∙ c.coming.invariant.3,
      omega (arith, sizes.1, size, c.coming.invariant.4),
      c.coming.invariant.5,
    )

pub returns-in-Ok-Last-clause-taken : goal.returns-in-Ok-Last-clause-taken
returns-in-Ok-Last-clause-taken g c =
    let reader = c.coming.reader in
    let window = c.coming.window.bytes in
    let used = c.in-Ok-Last.used in
    let piece : ReadsPiece c.coming.reader c.bytes.result.now c.read_piece.new.self (Last c.in-Ok-Last.answer c.in-Ok-Last.used) =
    subst (ReadsPiece c.coming.reader c.bytes.result.now c.read_piece.new.self) c.in-Ok-Last.field-0-is c.in-Ok-Last.ensures.value in
    let shown = c.bytes.ensures.value in
    let was = c.coming.invariant.0 in
    let bytes = c.args.window.now.bytes ++ was.0 in
    let answer = c.in-Ok-Last.answer in
    let within = subst (λ (l : List ℕ). used ≤ length l) shown piece.0 in
    let spells = subst (λ (l : List ℕ). SpellsAnswer (reader ++ take used l) answer) shown piece.1 in (
      was.0,
      was.1,
      subst (λ (l : List ℕ). IsNext answer (c.coming.got + used) bytes l) (sym (ap (λ w. w.bytes) c.drop_front-in-Ok-Last.ensures.value))
          (next_is bytes reader window used c.coming.got answer was.2 c.coming.invariant.1 within spells),
    )

-- the bytes in hand end within the answer
pub take_more-requires-clause-room : goal.take_more-requires-clause-room
take_more-requires-clause-room g c =
    let piece : ReadsPiece c.coming.reader c.bytes.result.now c.read_piece.new.self Short =
    subst (ReadsPiece c.coming.reader c.bytes.result.now c.read_piece.new.self) c.in-Ok-Short.field-0-is c.in-Ok-Short.ensures.value in
    let reader = c.coming.reader in
    let bytes = c.bytes.result.now in
    omega (arith, begun_fits (reader ++ bytes) piece.0, length-append reader bytes, ap length c.bytes.ensures.value, c.coming.invariant.3)

pub coming-preserved : goal.coming-preserved
coming-preserved g c =
    let piece : ReadsPiece c.coming.reader c.bytes.result.now c.read_piece.new.self Short =
    subst (ReadsPiece c.coming.reader c.bytes.result.now c.read_piece.new.self) c.in-Ok-Short.field-0-is c.in-Ok-Short.ensures.value in
    let reader = c.coming.reader in
    let window = c.coming.window.bytes in
    let was = c.coming.invariant.0 in
    let left = g.S.Source.left in
    let more = c.take_more.ensures.taken in
    let came = ap (λ w. w.bytes) more.2 in
    let size = ap (λ w. w.size) more.2 in
    let front = c.args.window.now.bytes in (
      (
        was.0 ++ more.0,
        takes_more (left c.args.source.now) (left c.coming.source) (left c.take_more.new.source) was.0 more.0 was.1 more.1,
        sym (append_assoc front was.0 more.0) ∙ ap (λ l. l ++ more.0) was.2 ∙ append_assoc reader window more.0 ∙ ap (λ l. reader ++ l) (sym came)
            ∙ ap (λ l. l ++ c.take_more.new.window.bytes) (sym piece.2),
      ),
      ap length piece.2 ∙ c.coming.invariant.1,
      c.coming.invariant.2,
      size ∙ c.coming.invariant.3,
      c.take_more.ensures.in_range,
      omega (arith, c.coming.invariant.5, c.take_more.ensures.count),
    )

pub returns-in-Err-take_more-clause-taken : goal.returns-in-Err-take_more-clause-taken
returns-in-Err-take_more-clause-taken g c =
    let piece : ReadsPiece c.coming.reader c.bytes.result.now c.read_piece.new.self Short =
    subst (ReadsPiece c.coming.reader c.bytes.result.now c.read_piece.new.self) c.in-Ok-Short.field-0-is c.in-Ok-Short.ensures.value in
    let reader = c.coming.reader in
    let window = c.coming.window.bytes in
    let was = c.coming.invariant.0 in
    let left = g.S.Source.left in
    let more = c.in-Err-take_more.ensures.taken in
    let came = ap (λ w. w.bytes) more.2 in
    let front = c.args.window.now.bytes in
    let unfinished : IsUnfinished (reader ++ window) =
    subst (λ (l : List ℕ). IsUnfinished (reader ++ l)) c.bytes.ensures.value (record { begins = piece.0; no_answer = piece.1 }) in
    let all : reader ++ c.take_more.new.window.bytes ≡ front ++ (was.0 ++ more.0) =
    ap (λ l. reader ++ l) came ∙ sym (append_assoc reader window more.0) ∙ ap (λ l. l ++ more.0) (sym was.2) ∙ append_assoc front was.0 more.0 in (
      was.0 ++ more.0,
      takes_more (left c.args.source.now) (left c.coming.source) (left c.take_more.new.source) was.0 more.0 was.1 more.1,
      subst (λ (l : List ℕ). EndsReading c.in-Err-take_more.ended c.args.before l (left c.take_more.new.source)) all
          (c.in-Err-take_more.ensures.ended reader c.args.before c.coming.invariant.1 unfinished),
    )
