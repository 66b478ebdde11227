use Rattle.std.proofs.Common.{◌≡◌, ℕ, ◌+◌, ◌<◌, ◌≤◌, Bool, true, false, ◌&&◌, ◌||◌, length, nat_le, Option, Some, None, List, [], ◌∷◌, ◌++◌}
use Rattle.std.proofs.Common.{refl, sym, ap, ◌∙◌, inl, inr, arith}
use Rattle.std.specs.Prelude.{filter}
use Rattle.std.specs.List.{AllByRecursion, list_any, flat_map}
use Rattle.std.specs.Option.{option_map}
use Rattle.std.specs.Ordering.{is_lt, nat_cmp, ordering_then, MatchOrdering}
use Rattle.std.specs.declared.cmp.Ordering.{Ordering}
use Rattle.std.specs.declared.cmp.Ordering.TheVariants.{Less, Equal, Greater}
use Rattle.std.proofs.lemmas.Bool.{cases_Bool, false≢true, leb-true, le-leb}
use Rattle.std.proofs.lemmas.Cmp.{ranked}
use Rattle.std.proofs.lemmas.List.Elements.{filter-append}
use Rattle.list_words.specs.Order.{put_in_order, in_order, put_each}
use Rattle.list_words.specs.Words.{first_given_from}
use Rattle.list_words.proofs.Narrowing.{filter_narrowed, find_narrowed}
use Rattle.list_words.proofs.PutLemmas.{list_any-put}
use Rattle.fact_kinds.specs.declared.batch.Batch.{Batch}
use Rattle.fact_kinds.specs.declared.body.FactBody.{FactBody}
use Rattle.fact_kinds.specs.declared.body.FactBody.TheVariants.{Retire}
use Rattle.fact_kinds.specs.declared.key.Key.{Key}
use Rattle.fact_kinds.specs.Facts.{Entry, is_earlier, goes_first, entries_of, facts_of}
use Rattle.ldar_law.proofs.WeakOrder.{InOrder, each_in_order, put_keeps, put_each_passing, weak_goes_first, weak_earlier}
use Rattle.ldar_law.proofs.WeakOrder.{last_such-put, given_in_order, given-put_none, given-put_some}
use Rattle.ldar_law.proofs.ForceLemmas.{class_keyed}
use Rattle.ldar_law.proofs.SliceLemmas.{register_facts_suffice}
use Rattle.ldar_law.specs.Equipment.{retires, retired_on, class_at, classes_of}
use Rattle.ldar_law.specs.Force.{class_by, has_come}
use Rattle.ldar_law.specs.RegisterLaws.{class_first, with_class, RetiredBySome, OneMoreFactInForce}
use Rattle.ldar_law.specs.Judged.{Register, register_with}
use Rattle.ldar_law.specs.Slices.{is_registered, register_facts}
use Rattle.ldar_law.specs.BatchLaws.{RetiredAfterFacts}
use Rattle.ldar_law.specs.DenialLaws.{RegisterDecides, later_class, ClassAfterFacts}
use Rattle.ldar_law.specs.Verdicts.{least_rule, denial_at}

-- ---- the register's facts are enough for the register

-- the register's facts of a history are enough for its register
register_narrowed : (history : List Batch) (more : List Entry)
    → register_with (register_facts (facts_of history)) more ≡ register_with (facts_of history) more
unfolding register_with
register_narrowed history more =
    let held = facts_of history in
    let twice : filter (λ e. is_registered e.1.body) (register_facts held) ≡ register_facts held =
    filter_narrowed (λ e. is_registered e.1.body) (λ e. is_registered e.1.body) (λ e h. h) held in
    let behind : register_facts (register_facts held ++ more) ≡ register_facts (held ++ more) =
    filter-append (λ e. is_registered e.1.body) (register_facts held) more
    ∙ ap (λ l. l ++ register_facts more) twice
    ∙ sym (filter-append (λ e. is_registered e.1.body) held more) in
    let placed : register_facts (put_each goes_first more (register_facts held)) ≡ register_facts (put_each goes_first more held) =
    put_each_passing goes_first weak_goes_first (λ e. is_registered e.1.body) more held
    (each_in_order goes_first weak_goes_first (flat_map entries_of history)) in
    rw (behind, placed) refl

-- functions that agree on each element have the same first value
first_given_agree : {X Y : Type 0} (f g : List X → X → List X → Option Y)
    → ((before : List X) (x : X) (after : List X) → f before x after ≡ g before x after)
    → (front xs : List X) → first_given_from f front xs ≡ first_given_from g front xs
first_given_agree f g same front [] = refl
first_given_agree f g same front (x ∷ xs) = rw (same front x xs, first_given_agree f g same (front ++ x ∷ []) xs) refl

-- the denial of a fact by two registers
told_by : List Entry → Entry → Register → Register → Option (ℕ × ℕ)
told_by before entry known whole =
    option_map (λ number. (length before + 1, number)) (least_rule (record { entry = entry; known = known; whole = whole }))

-- the register's facts of a history are enough for a denial
denial_narrowed : (history : List Batch) (before : List Entry) (entry : Entry) (after : List Entry)
    → denial_at (register_facts (facts_of history)) before entry after ≡ denial_at (facts_of history) before entry after
unfolding told_by
denial_narrowed history before entry after =
    ap (λ known. told_by before entry known (register_with (register_facts (facts_of history)) (before ++ entry ∷ after))) (register_narrowed history before)
    ∙ ap (λ whole. told_by before entry (register_with (facts_of history) before) whole) (register_narrowed history (before ++ entry ∷ after))

pub register_decides : RegisterDecides
register_decides history batch =
    first_given_agree (denial_at (register_facts (facts_of history))) (denial_at (facts_of history)) (denial_narrowed history) [] (entries_of batch)

-- ---- the days of keys in order

-- if a comparison of pairs is not less, its first numbers are not less either
no_sooner : (x y : ℕ) (o p : Ordering) → MatchOrdering o (x < y) (x ≡ y) (y < x) → is_lt (ordering_then o p) ≡ false → y ≤ x
no_sooner x y Less p ranks e = absurd cc
no_sooner x y Equal p ranks e = omega arith
no_sooner x y Greater p ranks e = omega arith

-- a key that is not earlier has no earlier day
pub day_of_later : (a b : Key) → is_earlier a b ≡ false → b.day ≤ a.day
day_of_later a b e = no_sooner a.day b.day (nat_cmp a.day b.day) _ (ranked a.day b.day (nat_cmp a.day b.day) refl) e

-- if a day is after the given day, so is each later one
not_yet : (a b day : ℕ) → a ≤ b → nat_le a day ≡ false → nat_le b day ≡ false
not_yet a b day no_later out = elim (cases_Bool (nat_le b day)) [
  | inl e ↦ absurd (false≢true (sym out ∙ le-leb a day (omega (arith, no_later, leb-true b day e))))
  | inr e ↦ e
]

or_nothing : (b : Bool) → b ≡ (b || false)
or_nothing true = refl
or_nothing false = refl

or_moved : (a b c : Bool) → ((a || b) || c) ≡ (b || (a || c))
or_moved true true c = refl
or_moved true false c = refl
or_moved false b c = refl

-- ---- retirements among facts in order

-- if a fact's day is after the given day, so are the days of all later facts
none_later : (p : Entry → Bool) (day : ℕ) (e : Entry) (es : List Entry) → nat_le e.0.day day ≡ false
    → AllByRecursion (λ x. goes_first x e ≡ false) es → list_any (λ x. p x && nat_le x.0.day day) es ≡ false
none_later p day e [] out later = refl
none_later p day e (x ∷ xs) out later =
    let past = not_yet e.0.day x.0.day day (day_of_later x.0 e.0 later.0) out in
    rw past (elim (cases_Bool (p x)) [
      | inl t ↦ rw t (none_later p day e xs out later.1)
      | inr f ↦ rw f (none_later p day e xs out later.1)
    ])

-- a component is retired by a day exactly if some fact retires it by then
retired_among : (number day : ℕ) (es : List Entry) → InOrder goes_first es
    → has_come (retired_on number es) day ≡ list_any (λ e. retires number e.1.body && nat_le e.0.day day) es
retired_among number day [] o = refl
retired_among number day (e ∷ es) o =
    elim (cases_Bool (retires number e.1.body)) [
      | inl out ↦ rw out (elim (cases_Bool (nat_le e.0.day day)) [
        | inl come ↦ rw come refl
        | inr later ↦ rw later (sym (none_later (λ x. retires number x.1.body) day e es later o.0))
      ])
      | inr stays ↦ rw stays (retired_among number day es o.1)
    ]

pub list_any-in_order : (p : Entry → Bool) (entries : List Entry) → list_any p (in_order goes_first entries) ≡ list_any p entries
list_any-in_order p [] = refl
list_any-in_order p (e ∷ es) = list_any-put p goes_first e (in_order goes_first es) ∙ ap (λ b. p e || b) (list_any-in_order p es)

pub retired_by_some : RetiredBySome
retired_by_some number day entries =
    retired_among number day (in_order goes_first entries) (each_in_order goes_first weak_goes_first entries)
    ∙ list_any-in_order (λ e. retires number e.1.body && nat_le e.0.day day) entries

-- ---- the class in force after a batch's facts

-- the class in force after one more fact
one_more_class : (number day : ℕ) (entry : Entry) (facts : List Entry) → InOrder goes_first facts
    → class_by day (classes_of number (put_in_order goes_first entry facts)) ≡ with_class day (class_at number entry) (class_by day (classes_of number facts))
one_more_class number day entry facts o =
    elim (class_at number entry) as (λ g. class_at number entry ≡ g → class_by day (classes_of number (put_in_order goes_first entry facts))
    ≡ with_class day g (class_by day (classes_of number facts))) [
      | None ↦ λ is. ap (class_by day) (given-put_none (class_at number) (class_keyed number) entry is facts)
      | Some new ↦ λ is. ap (class_by day) (given-put_some (class_at number) (class_keyed number) entry new is facts o)
          ∙ last_such-put class_first (weak_earlier (λ z. z.0)) (λ entered. nat_le entered.0.day day) new (classes_of number facts)
          (given_in_order (class_at number) (class_keyed number) facts o)
    ] refl

-- the classes in force after the facts of a batch
classes_after : (number day : ℕ) (more facts : List Entry) → InOrder goes_first facts
    → class_by day (classes_of number (put_each goes_first more facts)) ≡ later_class number day more (class_by day (classes_of number facts))
classes_after number day [] facts o = refl
classes_after number day (e ∷ more) facts o =
    classes_after number day more (put_in_order goes_first e facts) (put_keeps goes_first weak_goes_first e facts o)
    ∙ ap (later_class number day more) (one_more_class number day e facts o)

list_any-put_each : (p : Entry → Bool) (more es : List Entry) → list_any p (put_each goes_first more es) ≡ (list_any p es || list_any p more)
list_any-put_each p [] es = or_nothing (list_any p es)
list_any-put_each p (x ∷ xs) es =
    list_any-put_each p xs (put_in_order goes_first x es)
    ∙ ap (λ b. b || list_any p xs) (list_any-put p goes_first x es)
    ∙ or_moved (p x) (list_any p es) (list_any p xs)

put_each_keeps : (more es : List Entry) → InOrder goes_first es → InOrder goes_first (put_each goes_first more es)
put_each_keeps [] es o = o
put_each_keeps (x ∷ xs) es o = put_each_keeps xs (put_in_order goes_first x es) (put_keeps goes_first weak_goes_first x es o)

retires_registered : (number : ℕ) (body : FactBody) → retires number body ≡ true → is_registered body ≡ true
retires_registered number (Retire other) e = refl
retires_registered number _ e = absurd (false≢true e)

-- the entries in the register have the retirement of each component
pub retired_registered : (number : ℕ) (facts : List Entry) → retired_on number (register_facts facts) ≡ retired_on number facts
retired_registered number facts =
    ap (λ found. option_map (λ e. e.0.day) found)
    (find_narrowed (λ e. retires number e.1.body) (λ e. is_registered e.1.body) (λ e h. retires_registered number e.1.body h) facts)

pub retired_after_facts : RetiredAfterFacts
unfolding register_with
retired_after_facts number day entries more =
    let held = in_order goes_first entries in
    let p : Entry → Bool = λ e. retires number e.1.body && nat_le e.0.day day in
    let ordered = each_in_order goes_first weak_goes_first entries in
    ap (λ first. has_come first day) (retired_registered number (put_each goes_first more held))
    ∙ retired_among number day (put_each goes_first more held) (put_each_keeps more held ordered)
    ∙ list_any-put_each p more held
    ∙ ap (λ b. b || list_any p more) (sym (retired_among number day held ordered))

pub one_more_fact_in_force : OneMoreFactInForce
one_more_fact_in_force number day entry entries =
    one_more_class number day entry (in_order goes_first entries) (each_in_order goes_first weak_goes_first entries)

pub class_after_facts : ClassAfterFacts
unfolding register_with
class_after_facts number day entries more =
    ap (class_by day) ((register_facts_suffice number (put_each goes_first more (in_order goes_first entries))).0.classes)
    ∙ classes_after number day more (in_order goes_first entries) (each_in_order goes_first weak_goes_first entries)
