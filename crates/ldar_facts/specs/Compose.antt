-- Internal: how the private readers are proved. It is in specs/ only because their clauses cite it.
-- One form after another: if each is read correctly, so are both.
use Rattle.std.specs.Prelude.{◌≡◌, ℕ, ◌+◌, ◌<◌, Bool, true, false, if◌then◌else◌, ◌⊎◌, List, [], ◌∷◌, ◌++◌, length, get_or, Ok, Err, refl}
use Rattle.std.proofs.Common.{sym, ap, subst, ◌∙◌, inl, inr, append_assoc}
use Rattle.std.proofs.lemmas.List.{get_or-append-add}
use Rattle.ldar_facts.specs.declared.read_end.ReadEnd.{ReadEnd}
use Rattle.ldar_facts.specs.declared.read_end.ReadEnd.TheVariants.{Short, Wrong}
use Rattle.ldar_facts.specs.Form.{Outcome, ◌then◌, IsBytes, IsWrong, Reads, Form}

-- the bytes after a text are bytes
pub IsBytes-behind : (bytes text rest : List ℕ) → bytes ≡ text ++ rest → IsBytes bytes → IsBytes rest
IsBytes-behind bytes text rest splits are i =
    let behind = get_or-append-add text rest i 0 in
    subst (λ b. b < 256) behind (subst (λ (l : List ℕ). get_or l (length text + i) 0 < 256) splits (are (length text + i)))

-- if a sequence has a value, its first step has one
then_ok : {A B : Type 0} (r : Outcome A) (next : A × List ℕ → Outcome B) (y : B × List ℕ) → (r then next) ≡ Ok y
    → (x : A × List ℕ) × (r ≡ Ok x) × (next x ≡ Ok y)
then_ok (Ok x) next y e = (x, refl, e)
then_ok (Err stop) next y e = absurd cc

-- if a sequence ends without a value, its first step or its second one does
then_err : {A B : Type 0} (r : Outcome A) (next : A × List ℕ → Outcome B) (stop : ReadEnd) → (r then next) ≡ Err stop
    → (r ≡ Err stop) ⊎ ((x : A × List ℕ) × (r ≡ Ok x) × (next x ≡ Err stop))
then_err (Ok x) next stop e = inr (x, refl, e)
then_err (Err stop) next other e = inl cc

-- ---- a value without bytes

-- a reading with a value
abbrev read_so : {A : Type 0} → A × List ℕ → Outcome A
read_so x = Ok x

-- equal readings have equal values and equal unread bytes
pub ok_pair : {A : Type 0} (x y : A × List ℕ) → read_so x ≡ read_so y → (x.0 ≡ y.0) × (x.1 ≡ y.1)
ok_pair {A = A} x y e = let same : x ≡ y = cc in (ap (λ (p : A × List ℕ). p.0) same, ap (λ (p : A × List ℕ). p.1) same)

-- a value without bytes is read correctly
pub done_reads : {A : Type 0} (a : A) → Reads {P = Unit {0}} (λ p. a) (λ p. []) (λ bytes. Ok (a, bytes))
done_reads a = record {
  some = tt;
  leads = λ bytes b rest e. let same = ok_pair (a, bytes) (b, rest) e in (tt, same.0);
  found = λ bytes b rest are e. let same = ok_pair (a, bytes) (b, rest) e in (tt, same.0, same.1);
  again = λ p rest. refl;
  short = λ bytes are e. absurd cc;
  wrong = λ bytes left are e. absurd cc;
}

-- the form of a value without bytes
abbrev pub done : {A : Type 0} → A → Form A
done a = record {
  Path = Unit {0};
  value = λ p. a;
  text = λ p. [];
  read = λ bytes. Ok (a, bytes);
  reads = done_reads a;
}

-- ---- a form, then one that depends on its value

module _ {A B : Type 0} (first : Form A) (next : A → Form B) where
  -- the paths of both
  abbrev pub Both : Type 0
  Both = (p : first.Path) × (next (first.value p)).Path

  -- the value of both
  abbrev pub value : Both → B
  value p = (next (first.value p.0)).value p.1

  -- the bytes of both
  abbrev pub text : Both → List ℕ
  text p = first.text p.0 ++ (next (first.value p.0)).text p.1

  -- the reading of both
  abbrev pub read : List ℕ → Outcome B
  read bytes = first.read bytes then λ x. (next x.0).read x.1

  -- each value that is read has a path
  leads : (bytes : List ℕ) (b : B) (rest : List ℕ) → read bytes ≡ Ok (b, rest) → (p : Both) × (value p ≡ b)
  leads bytes b rest e =
      let step = then_ok (first.read bytes) (λ x. (next x.0).read x.1) (b, rest) e in
      let p = first.reads.leads bytes step.0.0 step.0.1 step.1 in
      let follows = subst (λ a. (next a).read step.0.1 ≡ Ok (b, rest)) (sym p.1) step.2 in
      let q = (next (first.value p.0)).reads.leads step.0.1 b rest follows in
      ((p.0, q.0), q.1)

  -- the text of a value that is read is at the start of the bytes
  found : (bytes : List ℕ) (b : B) (rest : List ℕ) → IsBytes bytes → read bytes ≡ Ok (b, rest) → (p : Both) × (value p ≡ b) × (bytes ≡ text p ++ rest)
  found bytes b rest are e =
      let step = then_ok (first.read bytes) (λ x. (next x.0).read x.1) (b, rest) e in
      let behind = step.0.1 in
      let p = first.reads.found bytes step.0.0 behind are step.1 in
      let follows = subst (λ a. (next a).read behind ≡ Ok (b, rest)) (sym p.1) step.2 in
      let q = (next (first.value p.0)).reads.found behind b rest (IsBytes-behind bytes (first.text p.0) behind p.2 are) follows in
      ((p.0, q.0), q.1, p.2 ∙ ap (λ l. first.text p.0 ++ l) q.2 ∙ sym (append_assoc (first.text p.0) ((next (first.value p.0)).text q.0) rest))

  -- each text is read
  again : (p : Both) (rest : List ℕ) → read (text p ++ rest) ≡ Ok (value p, rest)
  again p rest =
      let front = first.text p.0 in
      let second = next (first.value p.0) in
      let grouped : text p ++ rest ≡ front ++ (second.text p.1 ++ rest) = append_assoc front (second.text p.1) rest in
      let once : read (front ++ (second.text p.1 ++ rest)) ≡ second.read (second.text p.1 ++ rest) =
      ap (λ r. r then λ x. (next x.0).read x.1) (first.reads.again p.0 (second.text p.1 ++ rest)) in
      ap read grouped ∙ once ∙ second.reads.again p.1 rest

  -- for any value of the first form, some text of the second completes it
  completed : (bytes : List ℕ) (p : first.Path) (more : List ℕ) → bytes ++ more ≡ first.text p → (q : Both) × (rest : List ℕ) × (bytes ++ rest ≡ text q)
  completed bytes p more begins =
      let second = next (first.value p) in
      let q = second.reads.some in
      ((p, q), more ++ second.text q, sym (append_assoc bytes more (second.text q)) ∙ ap (λ l. l ++ second.text q) begins)

  -- the second form's text continues the first one's
  continued : (rest more : List ℕ) (p : first.Path) (q : (next (first.value p)).Path) → rest ++ more ≡ (next (first.value p)).text q
      → (first.text p ++ rest) ++ more ≡ first.text p ++ (next (first.value p)).text q
  continued rest more p q begins = append_assoc (first.text p) rest more ∙ ap (λ l. first.text p ++ l) begins

  -- bytes that are cut short begin a text of both
  short : (bytes : List ℕ) → IsBytes bytes → read bytes ≡ Err Short → (q : Both) × (more : List ℕ) × (bytes ++ more ≡ text q)
  short bytes are e =
      elim (then_err (first.read bytes) (λ x. (next x.0).read x.1) Short e) [
        | inl early ↦ let p = first.reads.short bytes are early in completed bytes p.0 p.1 p.2
        | inr step ↦
            let behind = step.0.1 in
            let p = first.reads.found bytes step.0.0 behind are step.1 in
            let follows = subst (λ a. (next a).read behind ≡ Err Short) (sym p.1) step.2 in
            let q = (next (first.value p.0)).reads.short behind (IsBytes-behind bytes (first.text p.0) behind p.2 are) follows in
            ((p.0, q.0), q.1, ap (λ l. l ++ q.1) p.2 ∙ continued behind q.1 p.0 q.0 q.2)
      ]

  -- a wrong byte is at the first wrong place
  wrong : (bytes : List ℕ) (left : ℕ) → IsBytes bytes → read bytes ≡ Err (Wrong left) → IsWrong text read bytes left
  wrong bytes left are e =
      elim (then_err (first.read bytes) (λ x. (next x.0).read x.1) (Wrong left) e) [
        | inl early ↦
            let w = first.reads.wrong bytes left are early in
            let q = completed w.front w.path w.more w.begins in
            record {
              front = w.front;
              byte = w.byte;
              back = w.back;
              splits = w.splits;
              left_is = w.left_is;
              path = q.0;
              more = q.1;
              begins = q.2;
              stops = λ other. ap (λ r. r then λ x. (next x.0).read x.1) (w.stops other);
            }
        | inr step ↦
            let behind = step.0.1 in
            let p = first.reads.found bytes step.0.0 behind are step.1 in
            let second = next (first.value p.0) in
            let follows = subst (λ a. (next a).read behind ≡ Err (Wrong left)) (sym p.1) step.2 in
            let w = second.reads.wrong behind left (IsBytes-behind bytes (first.text p.0) behind p.2 are) follows in
            let start = first.text p.0 in
            record {
              front = start ++ w.front;
              byte = w.byte;
              back = w.back;
              splits = p.2 ∙ ap (λ l. start ++ l) w.splits ∙ sym (append_assoc start w.front (w.byte ∷ w.back));
              left_is = w.left_is;
              path = (p.0, w.path);
              more = w.more;
              begins = continued w.front w.more p.0 w.path w.begins;
              stops = λ other.
                  ap read (append_assoc start w.front (w.byte ∷ other))
                  ∙ ap (λ r. r then λ x. (next x.0).read x.1) (first.reads.again p.0 (w.front ++ w.byte ∷ other))
                  ∙ w.stops other;
            }
      ]

  -- both together are read correctly
  pub both_read : Reads value text read
  both_read = record {
    some = (first.reads.some, (next (first.value first.reads.some)).reads.some);
    leads = leads;
    found = found;
    again = again;
    short = short;
    wrong = wrong;
  }

infixl 10 ◌>>=◌
-- a form, then the one that its value selects
abbrev pub ◌>>=◌ : {A B : Type 0} → Form A → (A → Form B) → Form B
first >>= next = record {
  Path = Both first next;
  value = value first next;
  text = text first next;
  read = read first next;
  reads = both_read first next;
}

-- ---- one of two forms, selected by a test

-- the paths of the form that the test selects
abbrev pub Either : Bool → Type 0 → Type 0 → Type 0
Either true P Q = P
Either false P Q = Q

module _ {A : Type 0} (first second : Form A) where
  -- the value of the form that the test selects
  abbrev pub either_value : (test : Bool) → Either test first.Path second.Path → A
  either_value true p = first.value p
  either_value false p = second.value p

  -- the bytes of the form that the test selects
  abbrev pub either_text : (test : Bool) → Either test first.Path second.Path → List ℕ
  either_text true p = first.text p
  either_text false p = second.text p

  -- the reading of the form that the test selects
  abbrev pub either_read : Bool → List ℕ → Outcome A
  either_read test bytes = if test then first.read bytes else second.read bytes

  -- the form that the test selects is read correctly
  pub either_reads : (test : Bool) → Reads (either_value test) (either_text test) (either_read test)
  either_reads true = first.reads
  either_reads false = second.reads

-- the first form if the test is true, and otherwise the second
abbrev pub either : {A : Type 0} → Bool → Form A → Form A → Form A
either test first second = record {
  Path = Either test first.Path second.Path;
  value = either_value first second test;
  text = either_text first second test;
  read = either_read first second test;
  reads = either_reads first second test;
}
