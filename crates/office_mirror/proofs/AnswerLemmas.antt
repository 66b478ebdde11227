-- Batches one after another, and answers at the start of some bytes.
use Rattle.std.proofs.Common.{◌≡◌, ℕ, zero, suc, ◌<◌, ◌≤◌, List, [], ◌∷◌, ◌++◌, length, refl, sym, ap, subst, ◌∙◌, arith}
use Rattle.std.proofs.Common.{append_assoc}
use Rattle.std.specs.List.{AllByRecursion}
use Rattle.std.proofs.lemmas.List.{append-nil}
use Rattle.std.proofs.lemmas.List.Concat.{flat_map-append}
use Rattle.fact_kinds.specs.declared.batch.Batch.{Batch}
use Rattle.fact_kinds.specs.Fields.{IsFilled}
use Rattle.ldar_facts.specs.Compose.{ok_pair}
use Rattle.ldar_facts.specs.FactForms as forms
use Rattle.ldar_facts.specs.Grammar.{spelled, batch_fields, Begins}
use Rattle.ldar_facts.proofs.Batches.{read_again}
use Rattle.ldar_facts.proofs.FactTies as tie
use Rattle.ldar_facts.proofs.FactTies.{spelled-append, filled-append, filled-front}
use Rattle.office_mirror.specs.declared.answer.Answer.{Answer}
use Rattle.office_mirror.specs.AnswerGrammar.{head_fields, batches_fields, answer_fields}
use Rattle.office_mirror.proofs.HeadLemmas.{same_head}

-- the bytes of batches, one after another
abbrev pub payload : List Batch → List ℕ
payload batches = spelled (batches_fields batches)

-- each field of the batches is in its ranges
abbrev pub AreFilled : List Batch → Type 0
AreFilled batches = AllByRecursion IsFilled (batches_fields batches)

-- the bytes of one batch and of others after it
pub payload-cons : (b : Batch) (bs : List Batch) → payload (b ∷ bs) ≡ spelled (batch_fields b) ++ payload bs
payload-cons b bs = spelled-append (batch_fields b) (batches_fields bs)

-- the bytes of joined batches are the joined bytes
pub payload-append : (bs cs : List Batch) → payload (bs ++ cs) ≡ payload bs ++ payload cs
payload-append bs cs = ap spelled (flat_map-append batch_fields bs cs) ∙ spelled-append (batches_fields bs) (batches_fields cs)

-- joined batches are in their ranges if both lists are
pub filled_both : (bs cs : List Batch) → AreFilled bs → AreFilled cs → AreFilled (bs ++ cs)
filled_both bs cs first second =
    subst (AllByRecursion IsFilled) (sym (flat_map-append batch_fields bs cs)) (filled-append (batches_fields bs) (batches_fields cs) first second)

-- a single batch that is in its ranges
pub filled_one : (b : Batch) → AllByRecursion IsFilled (batch_fields b) → AreFilled (b ∷ [])
filled_one b is = subst (AllByRecursion IsFilled) (sym (append-nil (batch_fields b))) is

-- this many copies of a batch
abbrev pub copies : ℕ → Batch → List Batch
copies zero b = []
copies (suc n) b = b ∷ copies n b

pub length-copies : (n : ℕ) (b : Batch) → length (copies n b) ≡ n
length-copies zero b = refl
length-copies (suc n) b = ap suc (length-copies n b)

pub filled_copies : (n : ℕ) (b : Batch) → AllByRecursion IsFilled (batch_fields b) → AreFilled (copies n b)
filled_copies zero b is = tt
filled_copies (suc n) b is = filled-append (batch_fields b) (batches_fields (copies n b)) is (filled_copies n b is)

-- no bytes begin a batch
pub nothing_begins : Begins []
nothing_begins =
    let p = (forms.batch).reads.some in
    ((forms.batch).value p, (forms.batch).text p, record { filled = tie.batch.filled p; spells = tie.batch.text p })

-- ---- batches at the start of the same bytes

-- of two batches at the start of the same bytes
pub same_batch : (b c : Batch) (rest more : List ℕ) → AllByRecursion IsFilled (batch_fields b) → AllByRecursion IsFilled (batch_fields c)
    → spelled (batch_fields b) ++ rest ≡ spelled (batch_fields c) ++ more → (b ≡ c) × (rest ≡ more)
same_batch b c rest more is is_other same =
    ok_pair (b, rest) (c, more)
    (sym (read_again (spelled (batch_fields b)) b rest (record { filled = is; spells = refl }))
    ∙ ap (forms.batch).read same ∙ read_again (spelled (batch_fields c)) c more (record { filled = is_other; spells = refl }))

-- the first of some batches and the bytes after it
split_first : (b : Batch) (bs : List Batch) (rest : List ℕ) → payload (b ∷ bs) ++ rest ≡ spelled (batch_fields b) ++ (payload bs ++ rest)
split_first b bs rest = ap (λ l. l ++ rest) (payload-cons b bs) ∙ append_assoc (spelled (batch_fields b)) (payload bs) rest

-- where more batches follow than were read, a batch follows those
pub batch_follows : (bs cs : List Batch) (rest more : List ℕ) → AreFilled bs → AreFilled cs → payload bs ++ rest ≡ payload cs ++ more → length bs < length cs
    → (b : Batch) × (after : List ℕ) × AllByRecursion IsFilled (batch_fields b) × (rest ≡ spelled (batch_fields b) ++ after)
batch_follows bs [] rest more is is_other same fewer = absurd (omega arith)
batch_follows [] (c ∷ cs) rest more is is_other same fewer =
    (c, payload cs ++ more, (filled-front (batch_fields c) (batches_fields cs) is_other).0, same ∙ split_first c cs more)
batch_follows (b ∷ bs) (c ∷ cs) rest more is is_other same fewer =
    let one = filled-front (batch_fields b) (batches_fields bs) is in
    let two = filled-front (batch_fields c) (batches_fields cs) is_other in
    let first = same_batch b c (payload bs ++ rest) (payload cs ++ more) one.0 two.0 (sym (split_first b bs rest) ∙ same ∙ split_first c cs more) in
    batch_follows bs cs rest more one.1 two.1 first.1 (omega arith)

-- as many batches are the same ones
pub same_batches : (bs cs : List Batch) (rest more : List ℕ) → AreFilled bs → AreFilled cs → payload bs ++ rest ≡ payload cs ++ more → length bs ≡ length cs
    → (bs ≡ cs) × (rest ≡ more)
same_batches [] [] rest more is is_other same alike = (refl, same)
same_batches [] (c ∷ cs) rest more is is_other same alike = absurd (omega arith)
same_batches (b ∷ bs) [] rest more is is_other same alike = absurd (omega arith)
same_batches (b ∷ bs) (c ∷ cs) rest more is is_other same alike =
    let one = filled-front (batch_fields b) (batches_fields bs) is in
    let two = filled-front (batch_fields c) (batches_fields cs) is_other in
    let first = same_batch b c (payload bs ++ rest) (payload cs ++ more) one.0 two.0 (sym (split_first b bs rest) ∙ same ∙ split_first c cs more) in
    let others = same_batches bs cs rest more one.1 two.1 first.1 (omega arith) in
    (ap (λ x. x ∷ bs) first.0 ∙ ap (λ xs. c ∷ xs) others.0, others.1)

-- ---- answers

-- the bytes of an answer are its head and its batches
pub answer_text : (a : Answer) → spelled (answer_fields a) ≡ spelled (head_fields a.start (length a.batches)) ++ payload a.batches
answer_text a = spelled-append (head_fields a.start (length a.batches)) (batches_fields a.batches)

-- the fields of an answer in their ranges
pub record HasRanges (a : Answer) : Type 0 where
  pub start : a.start ≤ 4_294_967_295
  pub some : 1 ≤ length a.batches
  pub few : length a.batches ≤ 16
  pub batches : AreFilled a.batches

pub ranges_of : (a : Answer) → AllByRecursion IsFilled (answer_fields a) → HasRanges a
ranges_of a h = record { start = h.1.0.1; some = h.1.1.0.0; few = h.1.1.0.1; batches = h.1.1.1 }

pub from_ranges : (a : Answer) → HasRanges a → AllByRecursion IsFilled (answer_fields a)
from_ranges a r = ((omega arith, omega arith), ((omega arith, r.start), ((r.some, r.few), r.batches)))

-- of two answers at the start of the same bytes
pub same_answer : (a b : Answer) (rest more : List ℕ) → HasRanges a → HasRanges b
    → spelled (answer_fields a) ++ rest ≡ spelled (answer_fields b) ++ more → (a ≡ b) × (rest ≡ more)
same_answer a b rest more is is_other same =
    let one = ap (λ l. l ++ rest) (answer_text a) ∙ append_assoc (spelled (head_fields a.start (length a.batches))) (payload a.batches) rest in
    let two = ap (λ l. l ++ more) (answer_text b) ∙ append_assoc (spelled (head_fields b.start (length b.batches))) (payload b.batches) more in
    let heads = same_head a.start (length a.batches) b.start (length b.batches) (payload a.batches ++ rest) (payload b.batches ++ more)
    is.start is_other.start is.few is_other.few (sym one ∙ same ∙ two) in
    let all = same_batches a.batches b.batches rest more is.batches is_other.batches heads.2 heads.1 in
    (ap (λ s. record { start = s; batches = a.batches }) heads.0 ∙ ap (λ bs. record { start = b.start; batches = bs }) all.0, all.1)
