-- The forms of a fact and of a batch agree with the grammar: they have the same texts, and every fact and batch has one.
use Rattle.std.proofs.Common.{◌≡◌, ℕ, zero, suc, List, [], ◌∷◌, ◌++◌, length, refl, sym, ap, subst, arith}
use Rattle.std.specs.List.{flat_map, AllByRecursion}
use Rattle.std.proofs.lemmas.List.{append-nil}
use Rattle.std.proofs.lemmas.List.Concat.{flat_map-append}
use Rattle.fact_kinds.specs.declared.batch.Batch.{Batch}
use Rattle.fact_kinds.specs.declared.body.FactBody.{FactBody}
use Rattle.fact_kinds.specs.Stated.{Stated}
use Rattle.fact_kinds.specs.Fields.{Field, IsFilled, IsAmong, bytes_of, counts, body_number, fact_fields}
use Rattle.fact_kinds.proofs.Equality.{same_stated}
use Rattle.ldar_facts.specs.Grammar.{spelled, batch_fields}
use Rattle.ldar_facts.specs.FactForms as forms
use Rattle.ldar_facts.proofs.FieldTies as field
use Rattle.ldar_facts.proofs.FieldTies.{AreFields}
use Rattle.ldar_facts.proofs.BodyTies as kind

-- ---- a fact

-- each fact in its ranges has a path through the form of a fact
fact_path : (fact : Stated) → AllByRecursion IsFilled (fact_fields fact) → (p : (forms.fact).Path) × ((forms.fact).value p ≡ fact)
unfolding forms.fact
fact_path fact h =
    let k = field.fact_kind.path (body_number fact.body) h.0 in
    let d = field.day.path fact.day h.1.0 in
    let m = field.minute.path fact.minute h.1.1.0 in
    let b = subst (λ j. (q : (forms.body j).Path) × ((forms.body j).value q ≡ fact.body)) (sym k.1) (kind.path fact.body h.1.1.1) in
    ((k.0, (d.0, (m.0, (b.0, tt)))), same_stated _ fact.day _ fact.minute _ fact.body d.1 m.1 b.1)

-- the form of a fact has the bytes of its fields
pub fact : AreFields forms.fact fact_fields
unfolding forms.fact
fact = record {
  filled = λ p.
      let among = field.fact_kind.filled p.0 in
      let is = kind.body _ among in
      (rw (is.number p.1.1.1.0) among, (field.day.filled p.1.0, (field.minute.filled p.1.1.0, is.filled p.1.1.1.0)));
  text = λ p.
      let is = kind.body _ (field.fact_kind.filled p.0) in
      rw (field.fact_kind.text p.0, field.day.text p.1.0, field.minute.text p.1.1.0, append-nil, is.text p.1.1.1.0, is.number p.1.1.1.0);
  path = fact_path;
}

-- ---- this many facts

-- the form of this many facts reads this many
pub facts-length : (n : ℕ) (p : (forms.facts n).Path) → length ((forms.facts n).value p) ≡ n
unfolding forms.facts
facts-length zero p = refl
facts-length (suc n) p = ap suc (facts-length n p.1.0)

-- the bytes of joined fields are the joined bytes
pub spelled-append : (xs ys : List Field) → spelled (xs ++ ys) ≡ spelled xs ++ spelled ys
spelled-append xs ys = flat_map-append bytes_of xs ys

-- joined fields are in their ranges if both lists are
pub filled-append : (xs ys : List Field) → AllByRecursion IsFilled xs → AllByRecursion IsFilled ys → AllByRecursion IsFilled (xs ++ ys)
filled-append [] ys h k = k
filled-append (x ∷ xs) ys h k = (h.0, filled-append xs ys h.1 k)

-- if joined fields are in their ranges, those of both lists are
pub filled-front : (xs ys : List Field) → AllByRecursion IsFilled (xs ++ ys) → AllByRecursion IsFilled xs × AllByRecursion IsFilled ys
filled-front [] ys h = (tt, h)
filled-front (x ∷ xs) ys h = let rest = filled-front xs ys h.1 in ((h.0, rest.0), rest.1)

-- the facts of a path have their fields in their ranges
facts-filled : (n : ℕ) (p : (forms.facts n).Path) → AllByRecursion IsFilled (flat_map fact_fields ((forms.facts n).value p))
unfolding forms.facts
facts-filled zero p = tt
facts-filled (suc n) p = filled-append (fact_fields ((forms.fact).value p.0)) (flat_map fact_fields ((forms.facts n).value p.1.0)) (fact.filled p.0)
    (facts-filled n p.1.0)

-- the bytes of facts are those of their fields
facts-text : (n : ℕ) (p : (forms.facts n).Path) → (forms.facts n).text p ≡ spelled (flat_map fact_fields ((forms.facts n).value p))
unfolding forms.facts
facts-text zero p = refl
facts-text (suc n) p =
    rw (append-nil, fact.text p.0, facts-text n p.1.0)
    (sym (spelled-append (fact_fields ((forms.fact).value p.0)) (flat_map fact_fields ((forms.facts n).value p.1.0))))

-- facts in their ranges have a path through the form of this many facts
facts-path : (facts : List Stated) → AllByRecursion IsFilled (flat_map fact_fields facts)
    → (p : (forms.facts (length facts)).Path) × ((forms.facts (length facts)).value p ≡ facts)
unfolding forms.facts
facts-path [] h = (tt, refl)
facts-path (first ∷ facts) h =
    let parts = filled-front (fact_fields first) (flat_map fact_fields facts) h in
    let p = fact.path first parts.0 in
    let q = facts-path facts parts.1 in
    ((p.0, (q.0, tt)), rw (p.1, q.1))

-- ---- a batch

-- the batch of a path has its fields in their ranges
batch_filled : (p : (forms.batch).Path) → AllByRecursion IsFilled (batch_fields ((forms.batch).value p))
unfolding forms.batch forms.head
batch_filled p =
    let count = p.0.1.1.1.0 in
    ((omega arith, omega arith), (p.0.1.0.1, (p.0.1.1.0.1, (rw (facts-length count.0 p.1.0) count.1, facts-filled count.0 p.1.0))))

-- the bytes of a batch are those of its fields
batch_text : (p : (forms.batch).Path) → (forms.batch).text p ≡ spelled (batch_fields ((forms.batch).value p))
unfolding forms.batch forms.head
batch_text p =
    let count = p.0.1.1.1.0 in
    let letter : p.0.0.0 ≡ 66 = omega (arith, p.0.0.1) in
    rw (letter, append-nil, facts-text count.0 p.1.0, facts-length count.0 p.1.0)

-- a batch in its ranges has a path through the form of a batch
batch_path : (batch : Batch) → AllByRecursion IsFilled (batch_fields batch) → (p : (forms.batch).Path) × ((forms.batch).value p ≡ batch)
unfolding forms.batch forms.head
batch_path batch h =
    let q = facts-path batch.facts h.1.1.1.1 in
    ((((66, h.0), ((batch.handheld, h.1.0), ((batch.number, h.1.1.0), ((length batch.facts, h.1.1.1.0), tt)))), (q.0, tt)), rw q.1)

-- the form of a batch has the bytes of its fields
pub batch : AreFields forms.batch batch_fields
batch = record { filled = batch_filled; text = batch_text; path = batch_path }

-- a batch has 1 to 512 facts
pub head_count : (p : (forms.head).Path) → IsAmong ((forms.head).value p).count counts
unfolding forms.head
head_count p = p.1.1.1.0.1
