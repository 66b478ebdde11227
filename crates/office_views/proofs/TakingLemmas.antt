-- Facts of a batch put into a store or a register one after the other.
use Rattle.std.proofs.Common.{◌≡◌, ◌⊎◌, ℕ, zero, suc, ◌+◌, ◌<◌, ◌≤◌, Bool, true, false, cond, Some, List, [], ◌∷◌, ◌++◌, length, take, drop, filter}
use Rattle.std.proofs.Common.{slice_get, refl, sym, ap, ◌∙◌, subst, inl, inr, arith, append_assoc, length-append, length-take-le, add-zero}
use Rattle.std.proofs.Math.Seq.{drop-append_seam}
use Rattle.std.specs.List.{AllByRecursion, flat_map}
use Rattle.std.specs.Ordering.{is_eq}
use Rattle.std.proofs.lemmas.Bool.{cases_Bool, eq-eqb}
use Rattle.std.proofs.lemmas.List.{take_more, drop_more, take-append-drop, drop-drop, take_all, append-nil}
use Rattle.std.proofs.lemmas.Option.{slice_get_within, get_or_from_slice_get}
use Rattle.std.proofs.lemmas.List.Elements.{filter-append}
use Rattle.std.proofs.lemmas.List.Folds.{list_any-append}
use Rattle.list_words.specs.Order.{AllApart}
use Rattle.list_words.proofs.Ascending.{among_in_order}
use Rattle.list_words.proofs.Members.{Among, all_at, all_append, among_from_Contains, Contains-from_among, among_right}
use Rattle.fact_kinds.specs.declared.batch.Batch.{Batch}
use Rattle.fact_kinds.specs.declared.body.FactBody.{FactBody}
use Rattle.fact_kinds.specs.declared.body.FactBody.TheVariants.{Unit as UnitFact, Component as ComponentFact}
use Rattle.fact_kinds.specs.declared.key.Key.{Key}
use Rattle.fact_kinds.specs.Facts.{Entry, entries_from, entries_of, goes_first, key_cmp, key_of}
use Rattle.fact_kinds.specs.Stated.{Stated}
use Rattle.fact_store.specs.Kept.{Kept, facts_in, is_held}
use Rattle.ldar_law.specs.RegisterLaws.{enters_unit, enters_component}
use Rattle.ldar_law.specs.Slices.{is_registered, register_facts}
use Rattle.component_register.specs.Once.{IsFirstOfNumber}
use Rattle.history_laws.specs.RulyLaws.{EntersFirst, HaveCome}
use Rattle.office_views.specs.Taking.{HasOwnKeys, CanEnter}
use Rattle.office_views.proofs.HeaderLemmas.{length-entries_of}
use Rattle.office_views.proofs.KeyLemmas.{none_held, none_held_of_part, batch_apart}

-- ---- an element at a place

-- the first elements, and the next one
pub take_next : {X : Type 0} (xs : List X) (i : ℕ) (x : X) → slice_get xs i ≡ Some x → take (i + 1) xs ≡ take i xs ++ x ∷ []
take_next xs i x here = take_more xs i x (slice_get_within xs i x here) ∙ ap (λ y. take i xs ++ y ∷ []) (get_or_from_slice_get xs i x x here)

-- those from there on
pub drop_here : {X : Type 0} (xs : List X) (i : ℕ) (x : X) → slice_get xs i ≡ Some x → drop i xs ≡ x ∷ drop (i + 1) xs
drop_here xs i x here = drop_more xs i x (slice_get_within xs i x here) ∙ ap (λ y. y ∷ drop (i + 1) xs) (get_or_from_slice_get xs i x x here)

-- the elements before it and after it
pub cut_here : {X : Type 0} (xs : List X) (i : ℕ) (x : X) → slice_get xs i ≡ Some x → xs ≡ take i xs ++ x ∷ drop (i + 1) xs
cut_here xs i x here = sym (take-append-drop i xs) ∙ ap (λ ys. take i xs ++ ys) (drop_here xs i x here)

pub among_here : {X : Type 0} (xs : List X) (i : ℕ) (x : X) → slice_get xs i ≡ Some x → Among xs x
among_here xs i x here = subst (λ ys. Among ys x) (sym (cut_here xs i x here)) (among_right (take i xs) (x ∷ drop (i + 1) xs) x (inl refl))

pub all_next : {X : Type 0} (P : X → Type 0) (xs : List X) (i : ℕ) (x : X) → slice_get xs i ≡ Some x → AllByRecursion P (take i xs) → P x
    → AllByRecursion P (take (i + 1) xs)
all_next P xs i x here all holds = subst (AllByRecursion P) (sym (take_next xs i x here)) (all_append P (take i xs) (x ∷ []) all (holds, tt))

-- the entry of the fact at a place of a batch
pub entry_at : (batch : Batch) (index : ℕ) (facts : List Stated) (i : ℕ) (fact : Stated) → slice_get facts i ≡ Some fact
    → slice_get (entries_from batch index facts) i ≡ Some (key_of batch (index + i) fact, fact)
entry_at batch index [] i fact here = cc
entry_at batch index (f ∷ fs) zero fact here =
    let same : f ≡ fact = cc in
    rw (same, add-zero index) refl
entry_at batch index (f ∷ fs) (suc i) fact here =
    let moved : index + 1 + i ≡ index + suc i = omega arith in
    entry_at batch (index + 1) fs i fact here ∙ ap (λ n. Some (key_of batch n fact, fact)) moved

module _ (batch : Batch) (i : ℕ) (fact : Stated) (here : slice_get batch.facts i ≡ Some fact) where
  pub entry_here : slice_get (entries_of batch) i ≡ Some (key_of batch i fact, fact)
  entry_here = entry_at batch 0 batch.facts i fact here ∙ ap (λ n. Some (key_of batch n fact, fact)) (omega arith)

  -- its key is none of those that came before
  pub new_key : (arrived : List Entry) → HasOwnKeys arrived batch → is_held (key_of batch i fact) (arrived ++ take i (entries_of batch)) ≡ false
  new_key arrived own =
      let es = entries_of batch in
      let e : Entry = (key_of batch i fact, fact) in
      let before : is_held e.0 arrived ≡ false = all_at (λ e. is_held e.0 arrived ≡ false) es e own.new_keys (among_here es i e entry_here) in
      let apart = subst (AllApart goes_first) (sym (take-append-drop i es)) (batch_apart batch) in
      let behind = subst (AllByRecursion (λ e. is_held e.0 (take i es) ≡ false)) (drop_here es i e entry_here) (none_held (take i es) (drop i es) apart) in
      let within : is_held e.0 (take i es) ≡ false = behind.0 in
      list_any-append (λ x. is_eq (key_cmp x.0 e.0)) arrived (take i es) ∙ rw (before, within) refl

-- ---- a store

-- the facts that a store or a register keeps
abbrev pub kept_of : List Entry → List Stated → Kept
kept_of arrived spare = record { arrived = arrived; spare = spare }

pub kept_is : (a b : List Entry) (x y : List Stated) → a ≡ b → x ≡ y → kept_of a x ≡ kept_of b y
kept_is a b x y p q = rw (p, q) refl

-- with the next fact of the batch
pub stored_more : (old store : Kept) (batch : Batch) (i : ℕ) (key : Key) (fact : Stated)
    → store ≡ kept_of (old.arrived ++ take i (entries_of batch)) (drop i old.spare)
    → key ≡ key_of batch i fact → slice_get batch.facts i ≡ Some fact
    → kept_of (store.arrived ++ (key, fact) ∷ []) (drop 1 store.spare) ≡ kept_of (old.arrived ++ take (i + 1) (entries_of batch)) (drop (i + 1) old.spare)
stored_more old store batch i key fact is keyed here =
    kept_is _ _ _ _
    (ap (λ k. k.arrived ++ (key, fact) ∷ []) is ∙ append_assoc old.arrived (take i (entries_of batch)) ((key, fact) ∷ [])
    ∙ ap (λ es. old.arrived ++ es)
    (ap (λ k. take i (entries_of batch) ++ (k, fact) ∷ []) keyed
    ∙ sym (take_next (entries_of batch) i (key_of batch i fact, fact) (entry_here batch i fact here))))
    (ap (λ k. drop 1 k.spare) is ∙ drop-drop 1 i old.spare)

-- with all of them
pub stored_all : (old : Kept) (batch : Batch) (i : ℕ) → i ≡ length batch.facts
    → kept_of (old.arrived ++ take i (entries_of batch)) (drop i old.spare)
    ≡ kept_of (old.arrived ++ entries_of batch) (drop (length batch.facts) old.spare)
stored_all old batch i all =
    kept_is _ _ _ _
    (ap (λ es. old.arrived ++ es) (take_all i (entries_of batch) (omega (arith, all, length-entries_of batch))))
    (ap (λ n. drop n old.spare) all)

-- ---- a register

-- what of a list is next, where a front of the spare is this list
pub next_of : (spare all front : List Stated) (x : Stated) (rest : List Stated) → all ≡ front ++ x ∷ rest → take (length all) spare ≡ all
    → slice_get (drop (length front) spare) 0 ≡ Some x
next_of spare all front x rest parts same =
    let behind = drop (length all) spare in
    let whole : spare ≡ front ++ (x ∷ (rest ++ behind)) =
    sym (take-append-drop (length all) spare) ∙ ap (λ xs. xs ++ behind) (same ∙ parts) ∙ append_assoc front (x ∷ rest) behind in
    ap (λ xs. slice_get (drop (length front) xs) 0) whole ∙ ap (λ xs. slice_get xs 0) (drop-append_seam front (x ∷ (rest ++ behind)))

-- what passes of a list is in the list
pub among_part : {X : Type 0} (p : X → Bool) (xs : List X) (z : X) → Among (filter p xs) z → Among xs z
among_part p [] z among = among
among_part p (x ∷ xs) z among =
    elim (cases_Bool (p x)) [
      | inl passes ↦
          let here : (x ≡ z) ⊎ Among (filter p xs) z = rw passes at among in
          elim here [ inl same ↦ inl same | inr there ↦ inr (among_part p xs z there) ]
      | inr fails ↦ inr (among_part p xs z (rw fails at among))
    ]

-- what is entered first is so in any facts of those that came
first_by : (history : List Batch) (batch : Batch) (before : List Entry) (key : Key) (fact : Stated) (after facts : List Entry) → EntersFirst history batch
    → entries_of batch ≡ before ++ (key, fact) ∷ after → HaveCome history before facts → (body : FactBody) → body ≡ fact.body → IsFirstOfNumber body facts
first_by history batch before key fact after facts first cut came (UnitFact unit older name) is =
    first.unit before (key, fact) after unit facts cut (subst (λ b. enters_unit unit b ≡ true) is (eq-eqb unit unit refl)) came
first_by history batch before key fact after facts first cut came (ComponentFact component unit kind monomer replaces class) is =
    first.component before (key, fact) after component facts cut (subst (λ b. enters_component component b ≡ true) is (eq-eqb component component refl)) came
first_by history batch before key fact after facts first cut came _ is = tt

-- the entries of the first facts of a batch, after those of a register
abbrev entered_by : Kept → Batch → ℕ → Kept
entered_by old batch i = record {
  arrived = old.arrived ++ register_facts (take i (entries_of batch));
  spare = drop (length (filter (λ fact. is_registered fact.body) (take i batch.facts))) old.spare;
}

part_is_shorter : {X : Type 0} (p : X → Bool) (xs : List X) → length (filter p xs) ≤ length xs
part_is_shorter p [] = omega arith
part_is_shorter p (x ∷ xs) =
    elim (cases_Bool (p x)) [
      | inl passes ↦ rw passes (omega (arith, part_is_shorter p xs))
      | inr fails ↦ rw fails (omega (arith, part_is_shorter p xs))
    ]

module _ (old register : Kept) (batch : Batch) (i : ℕ) (is : register ≡ entered_by old batch i)
    (fact : Stated) (here : slice_get batch.facts i ≡ Some fact) where
  came_as : (history : List Batch) → old.arrived ≡ register_facts (flat_map entries_of history)
      → register.arrived ≡ register_facts (flat_map entries_of history ++ take i (entries_of batch))
  came_as history came =
      ap (λ k. k.arrived) is ∙ ap (λ es. es ++ register_facts (take i (entries_of batch))) came
      ∙ sym (filter-append (λ e. is_registered e.1.body) (flat_map entries_of history) (take i (entries_of batch)))

  -- the next fact has a key of its own
  pub entry_new_key : CanEnter old.arrived batch → is_held (key_of batch i fact) register.arrived ≡ false
  entry_new_key enters =
      let flat = flat_map entries_of enters.history in
      ap (is_held (key_of batch i fact)) (came_as enters.history enters.came)
      ∙ none_held_of_part (λ e. is_registered e.1.body) (key_of batch i fact) (flat ++ take i (entries_of batch))
      (new_key batch i fact here flat enters.own_keys)

  -- .. there are not too many
  pub entry_few : CanEnter old.arrived batch → length register.arrived < 8_000_000
  entry_few enters =
      let flat = flat_map entries_of enters.history in
      let before = take i (entries_of batch) in
      omega (
        arith,
        ap length (came_as enters.history enters.came),
        part_is_shorter (λ e. is_registered e.1.body) (flat ++ before),
        length-append flat before,
        length-take-le i (entries_of batch) (omega (arith, slice_get_within batch.facts i fact here, length-entries_of batch)),
        slice_get_within batch.facts i fact here,
        enters.own_keys.few,
      )

  -- .. and what it enters it enters first
  pub entry_first : CanEnter old.arrived batch → (body : FactBody) → body ≡ fact.body → IsFirstOfNumber body (facts_in register)
  entry_first enters =
      let flat = flat_map entries_of enters.history in
      let before = take i (entries_of batch) in
      first_by enters.history batch before (key_of batch i fact) fact (drop (i + 1) (entries_of batch)) (facts_in register) enters.first
      (cut_here (entries_of batch) i (key_of batch i fact, fact) (entry_here batch i fact here))
      (λ e held.
      let came : Among register.arrived e = (among_in_order goes_first register.arrived e).1 (among_from_Contains (facts_in register) e held) in
      Contains-from_among (flat ++ before) e
      (among_part (λ e. is_registered e.1.body) (flat ++ before) e (subst (λ es. Among es e) (came_as enters.history enters.came) came)))

  -- the next entry has room
  pub entry_room : take (length (filter (λ fact. is_registered fact.body) batch.facts)) old.spare ≡ filter (λ fact. is_registered fact.body) batch.facts
      → is_registered fact.body ≡ true → slice_get register.spare 0 ≡ Some fact
  entry_room roomy registered =
      let front = filter (λ fact. is_registered fact.body) (take i batch.facts) in
      let rest = filter (λ fact. is_registered fact.body) (drop (i + 1) batch.facts) in
      let parts : filter (λ fact. is_registered fact.body) batch.facts ≡ front ++ fact ∷ rest =
      ap (filter (λ fact. is_registered fact.body)) (cut_here batch.facts i fact here)
      ∙ filter-append (λ fact. is_registered fact.body) (take i batch.facts) (fact ∷ drop (i + 1) batch.facts)
      ∙ ap (λ b. front ++ cond b (fact ∷ rest) rest) registered in
      ap (λ k. slice_get k.spare 0) is ∙ next_of old.spare (filter (λ fact. is_registered fact.body) batch.facts) front fact rest parts roomy

  entries_next : register_facts (take (i + 1) (entries_of batch))
      ≡ register_facts (take i (entries_of batch)) ++ cond (is_registered fact.body) ((key_of batch i fact, fact) ∷ []) []
  entries_next =
      ap register_facts (take_next (entries_of batch) i (key_of batch i fact, fact) (entry_here batch i fact here))
      ∙ filter-append (λ e. is_registered e.1.body) (take i (entries_of batch)) ((key_of batch i fact, fact) ∷ [])

  count_next : length (filter (λ fact. is_registered fact.body) (take (i + 1) batch.facts))
      ≡ length (filter (λ fact. is_registered fact.body) (take i batch.facts)) + length (cond (is_registered fact.body) (fact ∷ []) [])
  count_next =
      ap (λ fs. length (filter (λ fact. is_registered fact.body) fs)) (take_next batch.facts i fact here)
      ∙ ap length (filter-append (λ fact. is_registered fact.body) (take i batch.facts) (fact ∷ []))
      ∙ length-append (filter (λ fact. is_registered fact.body) (take i batch.facts)) (filter (λ fact. is_registered fact.body) (fact ∷ []))

  -- with the next entry
  pub entered_more : is_registered fact.body ≡ true → (key : Key) → key ≡ key_of batch i fact
      → kept_of (register.arrived ++ (key, fact) ∷ []) (drop 1 register.spare) ≡ entered_by old batch (i + 1)
  entered_more registered key keyed =
      kept_is _ _ _ _
      (ap (λ k. k.arrived ++ (key, fact) ∷ []) is ∙ append_assoc old.arrived (register_facts (take i (entries_of batch))) ((key, fact) ∷ [])
      ∙ ap (λ es. old.arrived ++ es)
      (ap (λ k. register_facts (take i (entries_of batch)) ++ (k, fact) ∷ []) keyed
      ∙ ap (λ b. register_facts (take i (entries_of batch)) ++ cond b ((key_of batch i fact, fact) ∷ []) []) (sym registered) ∙ sym entries_next))
      (ap (λ k. drop 1 k.spare) is ∙ drop-drop 1 (length (filter (λ fact. is_registered fact.body) (take i batch.facts))) old.spare
      ∙ ap (λ n. drop n old.spare)
      (ap (λ b. length (filter (λ fact. is_registered fact.body) (take i batch.facts)) + length (cond b (fact ∷ []) [])) (sym registered) ∙ sym count_next))

  -- .. or where the next fact is none
  pub entered_same : is_registered fact.body ≡ false → register ≡ entered_by old batch (i + 1)
  entered_same other =
      is
      ∙ kept_is _ _ _ _
      (ap (λ es. old.arrived ++ es)
      (sym (append-nil (register_facts (take i (entries_of batch))))
      ∙ ap (λ b. register_facts (take i (entries_of batch)) ++ cond b ((key_of batch i fact, fact) ∷ []) []) (sym other) ∙ sym entries_next))
      (ap (λ n. drop n old.spare)
      (sym (add-zero (length (filter (λ fact. is_registered fact.body) (take i batch.facts))))
      ∙ ap (λ b. length (filter (λ fact. is_registered fact.body) (take i batch.facts)) + length (cond b (fact ∷ []) [])) (sym other) ∙ sym count_next))

-- with all entries
pub entered_all : (old : Kept) (batch : Batch) (i : ℕ) → i ≡ length batch.facts
    → entered_by old batch i
    ≡ kept_of (old.arrived ++ register_facts (entries_of batch)) (drop (length (filter (λ fact. is_registered fact.body) batch.facts)) old.spare)
entered_all old batch i all =
    kept_is _ _ _ _
    (ap (λ es. old.arrived ++ register_facts es) (take_all i (entries_of batch) (omega (arith, all, length-entries_of batch))))
    (ap (λ fs. drop (length (filter (λ fact. is_registered fact.body) fs)) old.spare) (take_all i batch.facts (omega (arith, all))))
