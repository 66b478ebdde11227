-- What a reading of the form of a batch means in the grammar.
use Rattle.std.proofs.Common.{◌≡◌, ℕ, suc, ◌+◌, ◌-◌, ◌≤◌, List, [], ◌∷◌, ◌++◌, length, take, drop, Result, Ok, Err, sym, ap, subst, ◌∙◌, append_assoc}
use Rattle.std.proofs.Common.{length-append, arith}
use Rattle.std.specs.Prelude.{IfOk}
use Rattle.std.proofs.lemmas.List.{append-nil, take_at, take-append-drop, length-drop}
use Rattle.fact_kinds.specs.declared.batch.Batch.{Batch}
use Rattle.ldar_facts.specs.declared.read.Read.{Read}
use Rattle.ldar_facts.specs.declared.read.Read.TheVariants as reads
use Rattle.ldar_facts.specs.declared.read_end.ReadEnd.{ReadEnd}
use Rattle.ldar_facts.specs.declared.read_end.ReadEnd.TheVariants.{Short, Wrong}
use Rattle.ldar_facts.specs.Form.{Outcome, IsBytes}
use Rattle.ldar_facts.specs.Front.{IsWithin, read_of}
use Rattle.ldar_facts.specs.Grammar.{spelled, batch_fields, Spells, Begins, HasNoBatch, IsFirstWrongPlace, IfWhole, OnShort, IfBad}
use Rattle.ldar_facts.specs.FactForms.{batch}
use Rattle.ldar_facts.proofs.FactTies as tie

-- ---- the form and the grammar

-- a text of the form spells its value
spells : (p : batch.Path) → Spells (batch.text p) (batch.value p)
spells p = record { filled = tie.batch.filled p; spells = tie.batch.text p }

-- a spelling of a batch is a text of the form
path_of : (bytes : List ℕ) (b : Batch) → Spells bytes b → (p : batch.Path) × (batch.value p ≡ b) × (batch.text p ≡ bytes)
path_of bytes b is =
    let p = tie.batch.path b is.filled in
    (p.0, p.1, tie.batch.text p.0 ∙ ap (λ x. spelled (batch_fields x)) p.1 ∙ sym is.spells)

-- a spelling is read, whatever follows it
pub read_again : (bytes : List ℕ) (b : Batch) (rest : List ℕ) → Spells bytes b → batch.read (bytes ++ rest) ≡ Ok (b, rest)
read_again bytes b rest is =
    let p = path_of bytes b is in
    subst (λ l. batch.read (l ++ rest) ≡ Ok (b, rest)) p.2 (batch.reads.again p.0 rest ∙ ap (λ x. Ok (x, rest)) p.1)

-- a spelling at the start of the bytes is read
pub read_front : (bytes : List ℕ) (used : ℕ) (b : Batch) → Spells (take used bytes) b → batch.read bytes ≡ Ok (b, drop used bytes)
read_front bytes used b is = subst (λ l. batch.read l ≡ Ok (b, drop used bytes)) (take-append-drop used bytes)
    (read_again (take used bytes) b (drop used bytes) is)

-- ---- what was read

-- with the byte at which reading ends, no batch begins
none_follows : (bytes : List ℕ) (at : ℕ) (front : List ℕ) (byte : ℕ) (back : List ℕ) → length front ≡ at → bytes ≡ front ++ byte ∷ back
    → ((other : List ℕ) → batch.read (front ++ byte ∷ other) ≡ Err (Wrong (suc (length other)))) → Begins (take (at + 1) bytes) → ⊥
none_follows bytes at front byte back len splits stops begins =
    let more = begins.1 in
    let shift : bytes ≡ (front ++ byte ∷ []) ++ back = splits ∙ sym (append_assoc front (byte ∷ []) back) in
    let long : length (front ++ byte ∷ []) ≡ at + 1 = omega (arith, length-append front (byte ∷ []), len) in
    let upto : take (at + 1) bytes ≡ front ++ byte ∷ [] = ap (take (at + 1)) shift ∙ take_at (front ++ byte ∷ []) back (at + 1) long in
    let whole : take (at + 1) bytes ++ more ≡ front ++ byte ∷ more = ap (λ l. l ++ more) upto ∙ append_assoc front (byte ∷ []) more in
    let read : batch.read (front ++ byte ∷ more) ≡ Ok (begins.0, []) =
    subst (λ l. batch.read l ≡ Ok (begins.0, [])) (append-nil (take (at + 1) bytes ++ more) ∙ whole)
    (read_again (take (at + 1) bytes ++ more) begins.0 [] begins.2) in
    let stop = stops more in
    absurd cc

module _ (bytes : List ℕ) (are : IsBytes bytes) where
  -- reading a batch leaves at most as many bytes as there were
  pub rest_within : (b : Batch) (rest : List ℕ) → batch.read bytes ≡ Ok (b, rest) → length rest ≤ length bytes
  rest_within b rest e =
      let p = batch.reads.found bytes b rest are e in
      omega (arith, ap length p.2, length-append (batch.text p.0) rest)

  -- a wrong byte is among the bytes
  pub stop_within : (stop : ReadEnd) → batch.read bytes ≡ Err stop → IsWithin (length bytes) stop
  stop_within Short e = tt
  stop_within (Wrong left) e =
      let w = batch.reads.wrong bytes left are e in
      omega (arith, w.left_is, ap length w.splits, length-append w.front (w.byte ∷ w.back))

  -- the bytes before the unread ones spell the batch that was read
  whole_spells : (b : Batch) (rest : List ℕ) → batch.read bytes ≡ Ok (b, rest) → Spells (take (length bytes - length rest) bytes) b
  whole_spells b rest e =
      let p = batch.reads.found bytes b rest are e in
      let used : length (batch.text p.0) ≡ length bytes - length rest = omega (arith, ap length p.2, length-append (batch.text p.0) rest) in
      let front : take (length bytes - length rest) bytes ≡ batch.text p.0 = ap (take (length bytes - length rest)) p.2
      ∙ take_at (batch.text p.0) rest (length bytes - length rest) used in
      rw front (subst (Spells (batch.text p.0)) p.1 (spells p.0))

  -- if reading ended without a value, no prefix of the bytes is a batch
  no_batch : (stop : ReadEnd) → batch.read bytes ≡ Err stop → HasNoBatch bytes
  no_batch stop e used b is = let read = read_front bytes used b is in absurd cc

  -- bytes that are cut short begin a batch
  short_begins : batch.read bytes ≡ Err Short → Begins bytes
  short_begins e =
      let p = batch.reads.short bytes are e in
      (batch.value p.0, p.1, rw p.2 (spells p.0))

  -- a wrong byte is at the first wrong place
  first_wrong : (left : ℕ) → batch.read bytes ≡ Err (Wrong left) → IsFirstWrongPlace bytes (length bytes - left)
  first_wrong left e =
      let w = batch.reads.wrong bytes left are e in
      let len = length-append w.front (w.byte ∷ w.back) in
      let at : length w.front ≡ length bytes - left = omega (arith, w.left_is, ap length w.splits) in
      let upto : take (length bytes - left) bytes ≡ w.front = ap (take (length bytes - left)) w.splits
      ∙ take_at w.front (w.byte ∷ w.back) (length bytes - left) at in
      record {
        within = omega (arith, w.left_is, ap length w.splits);
        before = (batch.value w.path, w.more, rw (upto, w.begins) (spells w.path));
        after = none_follows bytes (length bytes - left) w.front w.byte w.back at w.splits w.stops;
      }

-- ---- the clauses of the answer, from the reading

module _ (bytes : List ℕ) (are : IsBytes bytes) where
  -- Whole: the bytes up to its place spell its batch
  pub whole : (reading : Outcome Batch) → batch.read bytes ≡ reading
      → IfWhole (read_of (length bytes) reading) (λ b used. (used ≤ length bytes) × Spells (take used bytes) b)
  whole (Ok found) e = (omega arith, whole_spells bytes are found.0 found.1 e)
  whole (Err Short) e = tt
  whole (Err (Wrong left)) e = tt

  -- Short: the bytes begin a batch, and no prefix of them is one
  pub short : (reading : Outcome Batch) → batch.read bytes ≡ reading → OnShort (read_of (length bytes) reading) (Begins bytes × HasNoBatch bytes)
  short (Ok found) e = tt
  short (Err Short) e = (short_begins bytes are e, no_batch bytes are Short e)
  short (Err (Wrong left)) e = tt

  -- Bad: its place is the first wrong one, and no prefix of the bytes is a batch
  pub bad : (reading : Outcome Batch) → batch.read bytes ≡ reading
      → IfBad (read_of (length bytes) reading) (λ at. IsFirstWrongPlace bytes at × HasNoBatch bytes)
  bad (Ok found) e = tt
  bad (Err Short) e = tt
  bad (Err (Wrong left)) e = (first_wrong bytes are left e, no_batch bytes are (Wrong left) e)

-- if a prefix of the bytes spells a batch, that batch is read
pub found : (bytes : List ℕ) (b : Batch) (used : ℕ) → used ≤ length bytes → Spells (take used bytes) b
    → read_of (length bytes) (batch.read bytes) ≡ reads.Whole b used
found bytes b used fit is =
    let rest : length bytes - length (drop used bytes) ≡ used = omega (arith, length-drop used bytes) in
    ap (read_of (length bytes)) (read_front bytes used b is) ∙ ap (reads.Whole b) rest

-- a property of the only possible answer holds of the result
pub of_answer : {E : Type 0} (r : Result Read E) (read : Read) (P : Read → Type 0) → IfOk r (λ x. x ≡ read) → P read → IfOk r P
of_answer (Ok x) read P is h = subst P (sym is) h
of_answer (Err e) read P is h = tt
