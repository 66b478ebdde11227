-- What follows a part of an answer: its next batch, the beginning of one, or a wrong byte.
use Rattle.std.proofs.Common.{◌≡◌, inl, inr, ℕ, suc, ◌+◌, ◌-◌, ◌<◌, ◌≤◌, List, [], ◌∷◌, ◌++◌, length, take, drop, refl, sym, ap, subst, ◌∙◌, arith}
use Rattle.std.proofs.Common.{append_assoc}
use Rattle.std.proofs.Common.{length-append}
use Rattle.std.specs.List.{AllByRecursion}
use Rattle.std.proofs.lemmas.Bool.{cases_lt}
use Rattle.std.proofs.lemmas.List.{append-nil, take_at, take-append-drop, take-append-le, length-take, length-take-le}
use Rattle.std.proofs.Math.Seq.{take-append-add}
use Rattle.fact_kinds.specs.declared.batch.Batch.{Batch}
use Rattle.fact_kinds.specs.Fields.{IsFilled}
use Rattle.ldar_facts.specs.Grammar.{spelled, batch_fields, Spells, Begins, HasNoBatch, IsFirstWrongPlace}
use Rattle.office_mirror.specs.declared.answer.Answer.{Answer}
use Rattle.office_mirror.specs.declared.head.AnswerHead.{AnswerHead}
use Rattle.office_mirror.specs.AnswerGrammar.{head_fields, answer_fields, SpellsAnswer, BeginsAnswer, HasNoAnswer, IsFirstWrongInAnswer}
use Rattle.office_mirror.specs.Reader.{BeginsHead}
use Rattle.office_mirror.proofs.HeadLemmas.{same_head}
use Rattle.office_mirror.proofs.AnswerLemmas.{payload, AreFilled, payload-cons, payload-append, filled_both, copies, length-copies, filled_copies}
use Rattle.office_mirror.proofs.AnswerLemmas.{batch_follows, answer_text, HasRanges, ranges_of, from_ranges, nothing_begins}

-- the first bytes of a longer text
begins_by : (front more text after : List ℕ) → front ++ more ≡ text ++ after → length front ≤ length text → (rest : List ℕ) × (front ++ rest ≡ text)
begins_by front more text after same within =
    let one : take (length front) (front ++ more) ≡ front = take_at front more (length front) refl in
    let two : take (length front) (text ++ after) ≡ take (length front) text = take-append-le (length front) text after within in
    let is : front ≡ take (length front) text = sym one ∙ ap (take (length front)) same ∙ two in
    (drop (length front) text, ap (λ l. l ++ drop (length front) text) is ∙ take-append-drop (length front) text)

-- ---- after a head and some batches

module _ (head : AnswerHead) (bs : List Batch) (start : head.start ≤ 4_294_967_295) (few : head.count ≤ 16) (filled : AreFilled bs)
    (fewer : length bs < head.count) where
  -- the bytes of the head and these batches
  abbrev so_far : List ℕ
  so_far = spelled (head_fields head.start head.count) ++ payload bs

  -- with a batch and others after it
  abbrev whole : ℕ → Batch → Answer
  whole n b = record { start = head.start; batches = bs ++ b ∷ copies n b }

  whole_text : (n : ℕ) (b : Batch) → length (bs ++ b ∷ copies n b) ≡ head.count
      → spelled (answer_fields (whole n b)) ≡ so_far ++ (spelled (batch_fields b) ++ payload (copies n b))
  whole_text n b many =
      answer_text (whole n b)
      ∙ ap (λ m. spelled (head_fields head.start m) ++ payload (bs ++ b ∷ copies n b)) many
      ∙ ap (λ l. spelled (head_fields head.start head.count) ++ l)
      (payload-append bs (b ∷ copies n b) ∙ ap (λ l. payload bs ++ l) (payload-cons b (copies n b)))
      ∙ sym (append_assoc (spelled (head_fields head.start head.count)) (payload bs) (spelled (batch_fields b) ++ payload (copies n b)))

  whole_ranges : (n : ℕ) (b : Batch) → length (bs ++ b ∷ copies n b) ≡ head.count → AllByRecursion IsFilled (batch_fields b) → HasRanges (whole n b)
  whole_ranges n b many is = record {
    start = start;
    some = omega (arith, many, fewer);
    few = omega (arith, many, few);
    batches = filled_both bs (b ∷ copies n b) filled (filled_copies (suc n) b is);
  }

  -- the last batch makes the answer whole
  pub last_piece : (b : Batch) (bytes : List ℕ) → length bs + 1 ≡ head.count → Spells bytes b
      → SpellsAnswer (so_far ++ bytes) (record { start = head.start; batches = bs ++ b ∷ [] })
  last_piece b bytes many is =
      let long : length (bs ++ b ∷ []) ≡ head.count = length-append bs (b ∷ []) ∙ many in
      record {
        filled = from_ranges (whole 0 b) (whole_ranges 0 b long is.filled);
        spells = ap (λ l. so_far ++ l) (is.spells ∙ sym (append-nil (spelled (batch_fields b)))) ∙ sym (whole_text 0 b long);
      }

  -- what begins a batch begins an answer after these
  pub piece_begins : (bytes : List ℕ) → Begins bytes → BeginsAnswer (so_far ++ bytes)
  piece_begins bytes h =
      let b = h.0 in
      let more = h.1 in
      let n = head.count - length bs - 1 in
      let rest = payload (copies n b) in
      let long : length (bs ++ b ∷ copies n b) ≡ head.count = omega (arith, length-append bs (b ∷ copies n b), length-copies n b, fewer) in (
        whole n b,
        more ++ rest,
        record {
          filled = from_ranges (whole n b) (whole_ranges n b long h.2.filled);
          spells =
              append_assoc so_far bytes (more ++ rest)
              ∙ ap (λ l. so_far ++ l) (sym (append_assoc bytes more rest) ∙ ap (λ l. l ++ rest) h.2.spells)
              ∙ sym (whole_text n b long);
        },
      )

  -- in an answer a batch follows these
  next_follows : (rest : List ℕ) (a : Answer) (more : List ℕ) → HasRanges a → so_far ++ rest ≡ spelled (answer_fields a) ++ more
      → (b : Batch) × (after : List ℕ) × AllByRecursion IsFilled (batch_fields b) × (rest ≡ spelled (batch_fields b) ++ after)
  next_follows rest a more ranges same =
      let own = append_assoc (spelled (head_fields head.start head.count)) (payload bs) rest in
      let other = ap (λ l. l ++ more) (answer_text a) ∙ append_assoc (spelled (head_fields a.start (length a.batches))) (payload a.batches) more in
      let heads = same_head head.start head.count a.start (length a.batches) (payload bs ++ rest) (payload a.batches ++ more)
      start ranges.start few ranges.few (sym own ∙ same ∙ other) in
      batch_follows bs a.batches rest more filled ranges.batches heads.2 (omega (arith, fewer, heads.1))

  -- where no batch follows there is no answer
  pub no_piece : (bytes : List ℕ) → HasNoBatch bytes → HasNoAnswer (so_far ++ bytes)
  no_piece bytes none used a is =
      let all = so_far ++ bytes in
      let next = next_follows bytes a (drop used all) (ranges_of a is.filled)
      (sym (take-append-drop used all) ∙ ap (λ l. l ++ drop used all) is.spells) in
      let b = next.0 in
      let front : take (length (spelled (batch_fields b))) bytes ≡ spelled (batch_fields b) =
      ap (take (length (spelled (batch_fields b)))) next.3 ∙ take_at (spelled (batch_fields b)) next.1 (length (spelled (batch_fields b))) refl in
      none (length (spelled (batch_fields b))) b (record { filled = next.2; spells = front })

  -- no answer goes on with bytes with which no batch does
  none_goes_on : (bytes front back : List ℕ) → bytes ≡ front ++ back → HasNoBatch bytes → ¬ (Begins front) → ¬ (BeginsAnswer (so_far ++ front))
  none_goes_on bytes front back splits none no_batch begins =
      let a = begins.0 in
      let more = begins.1 in
      let is = begins.2 in
      let same : so_far ++ (front ++ more) ≡ spelled (answer_fields a) ++ [] =
      sym (append_assoc so_far front more) ∙ is.spells ∙ sym (append-nil (spelled (answer_fields a))) in
      let next = next_follows (front ++ more) a [] (ranges_of a is.filled) same in
      let b = next.0 in
      let text = spelled (batch_fields b) in
      elim (cases_lt (length text) (length front)) [
        | inl shorter ↦
            let rest = begins_by text next.1 front more (sym next.3) (omega (arith, shorter)) in
            let whole : bytes ≡ text ++ (rest.0 ++ back) = splits ∙ ap (λ l. l ++ back) (sym rest.1) ∙ append_assoc text rest.0 back in
            none (length text) b (record { filled = next.2; spells = ap (take (length text)) whole ∙ take_at text (rest.0 ++ back) (length text) refl })
        | inr longer ↦
            let rest = begins_by front more text next.1 next.3 longer in
            no_batch (b, rest.0, record { filled = next.2; spells = rest.1 })
      ]

  -- a first wrong place after these is one of the answer
  pub wrong_piece : (bytes : List ℕ) (at : ℕ) → IsFirstWrongPlace bytes at → HasNoBatch bytes → IsFirstWrongInAnswer (so_far ++ bytes) (length so_far + at)
  wrong_piece bytes at wrong none =
      let within = wrong.within in
      let long = length-append so_far bytes in
      let next : length so_far + at + 1 ≡ length so_far + (at + 1) = omega arith in
      let upto : take (length so_far + at + 1) (so_far ++ bytes) ≡ so_far ++ take (at + 1) bytes =
      ap (λ n. take n (so_far ++ bytes)) next ∙ take-append-add so_far bytes (at + 1) in
      let goes_on = none_goes_on bytes (take (at + 1) bytes) (drop (at + 1) bytes) (sym (take-append-drop (at + 1) bytes)) none wrong.after in
      record {
        within = omega (arith, within, long);
        before = subst BeginsAnswer (sym (take-append-add so_far bytes at)) (piece_begins (take at bytes) wrong.before);
        after = λ begins. goes_on (subst BeginsAnswer upto begins);
      }

-- ---- at the start of an answer

-- what begins a head begins an answer
pub head_begins : (bytes : List ℕ) → BeginsHead bytes → BeginsAnswer bytes
head_begins bytes h =
    let head = h.0 in
    let ranges = h.2.filled in
    let rest = piece_begins head [] ranges.1.0.1 ranges.1.1.0.1 tt (omega (arith, ranges.1.1.0.0)) [] nothing_begins in
    let text = spelled (head_fields head.start head.count) in
    let same : (text ++ [] ++ []) ++ rest.1 ≡ bytes ++ (h.1 ++ rest.1) =
    ap (λ l. l ++ rest.1) (append-nil (text ++ []) ∙ append-nil text ∙ sym h.2.spells) ∙ append_assoc bytes h.1 rest.1 in
    (rest.0, h.1 ++ rest.1, subst (λ l. SpellsAnswer l rest.0) same rest.2)

-- an answer begins with its head
answer_has_head : (a : Answer) (more front after : List ℕ) → AllByRecursion IsFilled (answer_fields a) → front ++ after ≡ spelled (answer_fields a) ++ more
    → length front ≤ 6 → BeginsHead front
answer_has_head a more front after filled same few =
    let head : AnswerHead = record { start = a.start; count = length a.batches } in
    let text = spelled (head_fields a.start (length a.batches)) in
    let split : spelled (answer_fields a) ++ more ≡ text ++ (payload a.batches ++ more) =
    ap (λ l. l ++ more) (answer_text a) ∙ append_assoc text (payload a.batches) more in
    let rest = begins_by front after text (payload a.batches ++ more) (same ∙ split) few in
    (head, rest.0, record { spells = rest.1; filled = (filled.0, (filled.1.0, (filled.1.1.0, tt))) })

-- fewer bytes than a head has are no answer
pub few_are_none : (bytes : List ℕ) → length bytes < 6 → HasNoAnswer bytes
few_are_none bytes few used a is =
    let text = spelled (head_fields a.start (length a.batches)) in
    let long = length-append text (payload a.batches) in
    let whole = ap length is.spells ∙ ap length (answer_text a) in
    let all = length-append (take used bytes) (drop used bytes) in
    let back = ap length (take-append-drop used bytes) in
    omega (arith, long, whole, all, back, few)

-- bytes with which no head goes on are no answer
pub wrong_is_none : (bytes : List ℕ) (at : ℕ) → at < 6 → ¬ (BeginsHead (take (at + 1) bytes)) → HasNoAnswer bytes
wrong_is_none bytes at low wrong used a is =
    let front = take (at + 1) bytes in
    let rest = drop (at + 1) bytes in
    let same : front ++ rest ≡ spelled (answer_fields a) ++ drop used bytes =
    take-append-drop (at + 1) bytes ∙ sym (take-append-drop used bytes) ∙ ap (λ l. l ++ drop used bytes) is.spells in
    wrong (answer_has_head a (drop used bytes) front rest is.filled same (short_front (at + 1) bytes (omega (arith, low))))
  where
    short_front : (n : ℕ) (bytes : List ℕ) → n ≤ 6 → length (take n bytes) ≤ 6
    short_front n bytes few = omega (arith, length-take n bytes, few)

-- a wrong place in a head is one of the answer
pub wrong_head : (bytes : List ℕ) (at : ℕ) → at < length bytes → at < 6 → BeginsHead (take at bytes) → ¬ (BeginsHead (take (at + 1) bytes))
    → IsFirstWrongInAnswer bytes at
wrong_head bytes at within low before after = record {
  within = within;
  before = head_begins (take at bytes) before;
  after = λ begins.
      let front = take (at + 1) bytes in
      let long : length front ≤ 6 = omega (arith, length-take-le (at + 1) bytes (omega (arith, within)), low) in
      after (answer_has_head begins.0 [] front begins.1 begins.2.filled (begins.2.spells ∙ sym (append-nil (spelled (answer_fields begins.0)))) long);
}
