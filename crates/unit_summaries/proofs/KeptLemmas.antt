-- Counts of quarters that are kept stay those of the summaries.
use Rattle.std.proofs.Common.{◌≡◌, ℕ, zero, suc, ◌<◌, ◌≤◌, true, false, cond, not, nat_eq, Option, Some, option_and_then, List, [], ◌∷◌, length, take, drop, take-append-drop}
use Rattle.std.proofs.Common.{◌++◌, filter, get_or, length-take-le, refl, sym, ap, ◌∙◌, subst, inl, inr, arith}
use Rattle.std.specs.Prelude.{Contains, OnOk, Result, Ok, Err}
use Rattle.std.specs.Result.{is_err}
use Rattle.std.specs.List.{AllByRecursion, cons_option, filter_map}
use Rattle.std.proofs.lemmas.Bool.{cases_Bool, eqb-true, false≢true}
use Rattle.std.proofs.lemmas.Bool.Decides.{nat_tests}
use Rattle.std.proofs.lemmas.List.{get_or-take}
use Rattle.list_words.proofs.Members.{Among, Contains-from_among, all_at, all_from_among, all_weaker, among_append, among_from_Contains, among_left, among_right}
use Rattle.fact_kinds.specs.Facts.{Entry}
use Rattle.history_laws.specs.RulyLaws.{IsEachOnce}
use Rattle.history_laws.proofs.MemberLemmas.{members_ascend, members_stand_in_unit}
use Rattle.ldar_law.specs.declared.delay.Stop.{Stop}
use Rattle.ldar_law.specs.declared.equipment.Equipment.{Equipment}
use Rattle.ldar_law.specs.declared.numbers.TheConstants.{LAST_FACT_DAY, MOST_COMPONENTS}
use Rattle.ldar_law.specs.declared.tally.Tally.{Tally}
use Rattle.ldar_law.specs.Equipment.{members_of}
use Rattle.ldar_law.specs.Units.{Known, tallies_to}
use Rattle.unit_summaries.specs.declared.kept.DayTallies.{DayTallies}
use Rattle.unit_summaries.specs.declared.summary.Summary.{Summary}
use Rattle.unit_summaries.specs.declared.summary.UnitSummary.{UnitSummary}
use Rattle.unit_summaries.specs.Kept.{AreCounted, AreWith, Changes, IsCounted, IsKept, KeepsOnly, Recounts, known_at, known_from, known_rows, marks_by}
use Rattle.unit_summaries.specs.Known.{IsOrderly}
use Rattle.unit_summaries.specs.Rows.{PutsRow, Rows, SameRows, is_fresh, row_of}
use Rattle.unit_summaries.specs.Tallied.{AreTallies}
use Rattle.unit_summaries.proofs.ListLemmas.{all_get}
use Rattle.unit_summaries.proofs.RecountLemmas.{are_with, recounted}
use Rattle.unit_summaries.proofs.TallyLemmas.{tallies_are}

-- ---- lists

-- what each number gives, where both give the same
pub alike_given : {X : Type 0} (f g : ℕ → Option X) (ns : List ℕ) → AllByRecursion (λ n. f n ≡ g n) ns → filter_map f ns ≡ filter_map g ns
alike_given f g [] all = refl
alike_given f g (n ∷ ns) all = ap (λ o. cons_option o (filter_map f ns)) all.0 ∙ ap (cons_option (g n)) (alike_given f g ns all.1)

-- what holds at each place holds of each element
pub all_from_places : {X : Type 0} (P : X → Type 0) (xs : List X) → ((k : ℕ) (d : X) → k < length xs → P (get_or xs k d)) → AllByRecursion P xs
all_from_places P [] at = tt
all_from_places P (x ∷ xs) at = (at zero x (omega arith), all_from_places P xs (λ k d within. at (suc k) d (omega (arith, within))))

-- what holds of each of some elements holds of the one at a place that did not change
pub kept_at : {X : Type 0} (P : X → Type 0) (first now : List X) (place : ℕ) (d : X) → AllByRecursion P first → place < length first
    → get_or now place d ≡ get_or first place d → d ≡ get_or now place d → P d
kept_at P first now place d all within same is = subst P (sym (is ∙ same)) (all_get P first place d all within)

-- what holds if there was no error
pub ok_of : {A E : Type 0} (r : Result A E) (P : Type 0) → OnOk r P → is_err r ≡ false → P
ok_of (Ok a) P this no_error = this
ok_of (Err e) P this no_error = absurd cc

-- ---- rows in order

-- with a row that is in order
pub rows_orderly : (c after : Rows Summary) (n : ℕ) (s : Summary) → PutsRow n s c after → IsOrderly s
    → ((m : ℕ) (x : Summary) → row_of c m ≡ Some x → IsOrderly x) → (m : ℕ) (x : Summary) → row_of after m ≡ Some x → IsOrderly x
rows_orderly c after n s puts orderly all m x is = elim (cases_Bool (nat_eq m n)) [
  | inl here ↦
      let both : Some s ≡ Some x = sym (puts.row m ∙ ap (λ b. cond b (Some s) (row_of c m)) here) ∙ is in
      let same : s ≡ x = cc in
      subst IsOrderly same orderly
  | inr else ↦ all m x (sym (puts.row m ∙ ap (λ b. cond b (Some s) (row_of c m)) else) ∙ is)
]

-- nothing is kept
pub counted_none : (facts : List Entry) (c after : Rows Summary) (units : Rows UnitSummary) (days kept : List DayTallies) (n : ℕ) (s : Summary)
    → AreCounted facts c units days → PutsRow n s c after → IsOrderly s → kept ≡ [] → AreCounted facts after units kept
counted_none facts c after units days kept n s are puts orderly none = record {
  orderly = rows_orderly c after n s puts orderly are.orderly;
  kept = subst (AllByRecursion (IsKept facts after units)) (sym none) tt;
}

-- ---- the same rows

module _ (unit : UnitSummary) (d : DayTallies) where
  -- counts stay where the numbers and their rows do
  pub counted_same : (ns more : List ℕ) (c t : Rows Summary) → more ≡ ns → AllByRecursion (λ n. row_of t n ≡ row_of c n) ns
      → IsCounted ns c unit d → IsCounted more t unit d
  counted_same ns more c t same rows was =
      let stops = unit.of_unit.stops in
      let known : known_rows d.day stops c ns ≡ known_rows d.day stops t ns =
      alike_given (known_at d.day stops c) (known_at d.day stops t) ns
      (all_weaker (λ n. row_of t n ≡ row_of c n) (λ n. known_at d.day stops c n ≡ known_at d.day stops t n)
      (λ n is. ap (option_and_then (known_from d.day stops)) (sym is)) ns rows) in
      subst (λ ms. IsCounted ms t unit d) (sym same)
      (record { few = was.few; are = subst (λ cs. AreTallies d.startup d.day cs d.quarters d.tallies.items) known was.are })

module _ (facts : List Entry) where
  -- what is kept of a process unit stays where the rows of its members do
  pub kept_rows : (c t : Rows Summary) (units : Rows UnitSummary) (d : DayTallies)
      → AllByRecursion (λ n. row_of t n ≡ row_of c n) (members_of d.unit facts) → IsKept facts c units d → IsKept facts t units d
  kept_rows c t units d rows kept = record {
    startup = kept.startup;
    long = kept.long;
    counted = λ unit fresh row.
        counted_same unit d (members_of d.unit facts) (members_of d.unit facts) c t refl rows (kept.counted unit fresh row);
  }

  -- .. and where its own row does
  pub kept_unit : (c : Rows Summary) (units more : Rows UnitSummary) (d : DayTallies) → is_fresh more d.unit ≡ is_fresh units d.unit
      → row_of more d.unit ≡ row_of units d.unit → IsKept facts c units d → IsKept facts c more d
  kept_unit c units more d flag row kept = record {
    startup = kept.startup;
    long = kept.long;
    counted = λ unit fresh is. kept.counted unit (sym flag ∙ fresh) (sym row ∙ is);
  }

  all_same : (c t : Rows Summary) → SameRows c t → (ns : List ℕ) → AllByRecursion (λ n. row_of t n ≡ row_of c n) ns
  all_same c t same [] = tt
  all_same c t same (n ∷ ns) = (same.row n, all_same c t same ns)

  pub counted_rows : (c t : Rows Summary) (units : Rows UnitSummary) (kept : List DayTallies) → SameRows c t
      → AreCounted facts c units kept → AreCounted facts t units kept
  counted_rows c t units kept same are = record {
    orderly = λ n s is. are.orderly n s (sym (same.row n) ∙ is);
    kept = all_weaker (IsKept facts c units) (IsKept facts t units) (λ d. kept_rows c t units d (all_same c t same (members_of d.unit facts))) kept are.kept;
  }

  pub counted_units : (c : Rows Summary) (units more : Rows UnitSummary) (kept : List DayTallies) → SameRows units more
      → AreCounted facts c units kept → AreCounted facts c more kept
  counted_units c units more kept same are = record {
    orderly = are.orderly;
    kept = all_weaker (IsKept facts c units) (IsKept facts c more) (λ d. kept_unit c units more d (same.fresh d.unit) (same.row d.unit)) kept are.kept;
  }

  -- what is kept of other process units stays where the row of one is put
  pub counted_put_unit : (c : Rows Summary) (number : ℕ) (x : UnitSummary) (units mid more : Rows UnitSummary) (kept left : List DayTallies)
      → SameRows units mid → PutsRow number x mid more → left ≡ filter (λ d. not (nat_eq d.unit number)) kept
      → AreCounted facts c units kept → AreCounted facts c more left
  counted_put_unit c number x units mid more kept left same puts is are = record {
    orderly = are.orderly;
    kept = subst (AllByRecursion (IsKept facts c more)) (sym is) (all_others kept are.kept);
  }
    where
      all_others : (ds : List DayTallies) → AllByRecursion (IsKept facts c units) ds
          → AllByRecursion (IsKept facts c more) (filter (λ d. not (nat_eq d.unit number)) ds)
      all_others [] all = tt
      all_others (d ∷ ds) all = elim (cases_Bool (nat_eq d.unit number)) [
        | inl here ↦ rw here (all_others ds all.1)
        | inr else ↦
            rw else (
              kept_unit c units more d (puts.fresh d.unit ∙ ap (λ b. cond b true (is_fresh mid d.unit)) else ∙ same.fresh d.unit)
                  (puts.row d.unit ∙ ap (λ b. cond b (Some x) (row_of mid d.unit)) else ∙ same.row d.unit) all.0,
              all_others ds all.1,
            )
      ]

  -- ---- one component counted anew

  module _ (once : IsEachOnce facts) (c : Rows Summary) (units : Rows UnitSummary) (number n : ℕ) (held : Contains (members_of number facts) n)
      (row : UnitSummary) (row_is : row_of units number ≡ Some row) (fresh : is_fresh units number ≡ true) (s : Summary) where
    among : Among (members_of number facts) n
    among = among_from_Contains (members_of number facts) n held

    -- its marks are counted in what is kept of its process unit
    pub kept_with : (d : DayTallies) → IsKept facts c units d → d.unit ≡ number
        → AreWith (marks_by d.startup d.day (option_and_then (known_from d.day row.of_unit.stops) (row_of c n)) d.quarters) d.tallies.items
    kept_with d kept is =
        let counted = kept.counted row (ap (is_fresh units) is ∙ fresh) (ap (row_of units) is ∙ row_is) in
        are_with n d.startup d.day d.quarters (members_of d.unit facts) (members_ascend facts d.unit once)
        (subst (λ u. Among (members_of u facts) n) (sym is) among) (known_at d.day row.of_unit.stops c) d.tallies.items counted.few counted.are

    -- the number is of no other process unit
    apart_from : (u : ℕ) → nat_eq u number ≡ false → (m : ℕ) → Among (members_of u facts) m → nat_eq m n ≡ false
    apart_from u other m there = elim (cases_Bool (nat_eq m n)) [
      | inr apart ↦ apart
      | inl here ↦
          let stands = members_stand_in_unit facts number n once held in
          let stands_too =
          members_stand_in_unit facts u n once (Contains-from_among (members_of u facts) n (subst (Among (members_of u facts)) (eqb-true m n here) there)) in
          let both : Some stands.0 ≡ Some stands_too.0 = sym stands.1 ∙ stands_too.1 in
          let item : stands.0 ≡ stands_too.0 = cc in
          let same : u ≡ number = sym stands_too.3 ∙ ap (λ (i : Equipment). i.unit) (sym item) ∙ stands.3 in
          absurd (let never : nat_eq number number ≡ false = subst (λ v. nat_eq v number ≡ false) same other in false≢true (sym never ∙ grind (arith, nat_tests)))
    ]

    module _ (after : Rows Summary) (puts : PutsRow n s c after) where
      other_row : (m : ℕ) → nat_eq m n ≡ false → row_of after m ≡ row_of c m
      other_row m else = puts.row m ∙ ap (λ b. cond b (Some s) (row_of c m)) else

      own_row : row_of after n ≡ Some s
      own_row = puts.row n ∙ ap (λ b. cond b (Some s) (row_of c n)) (let itself : nat_eq n n ≡ true = grind (arith, nat_tests) in itself)

      -- the counts of a kept day are those of the rows afterwards
      pub kept_recounted : (d new : DayTallies) → IsKept facts c units d → Recounts number row.of_unit.stops (row_of c n) s d new
          → IsKept facts after units new
      kept_recounted d new kept recounts =
          let as_before : (ts : List Tally) → new.tallies.items ≡ ts
          → length ts ≡ d.quarters
          → ((unit : UnitSummary) → is_fresh units d.unit ≡ true → row_of units d.unit ≡ Some unit
          → (length (members_of d.unit facts) ≤ MOST_COMPONENTS)
          × AreTallies d.startup d.day (known_rows d.day unit.of_unit.stops after (members_of d.unit facts)) d.quarters ts)
          → IsKept facts after units new =
          λ ts is long counted.
          record {
            startup = subst (λ day. day ≤ LAST_FACT_DAY) (sym recounts.startup) kept.startup;
            long = ap length is ∙ long ∙ sym recounts.quarters;
            counted = λ unit flag found.
                let was = counted unit (sym (ap (is_fresh units) recounts.unit) ∙ flag) (sym (ap (row_of units) recounts.unit) ∙ found) in
                record {
                  few = subst (λ u. length (members_of u facts) ≤ MOST_COMPONENTS) (sym recounts.unit) was.0;
                  are = moved unit.of_unit.stops new.unit d.unit new.startup d.startup new.day d.day new.quarters d.quarters new.tallies.items ts
                      recounts.unit recounts.startup recounts.day recounts.quarters is was.1;
                };
          } in
          elim (cases_Bool (nat_eq d.unit number)) [
            | inr else ↦
                let rows : AllByRecursion (λ m. row_of after m ≡ row_of c m) (members_of d.unit facts) =
                all_from_among (λ m. row_of after m ≡ row_of c m) (members_of d.unit facts) (λ m there. other_row m (apart_from d.unit else m there)) in
                as_before d.tallies.items (recounts.other else) kept.long (λ unit flag found.
                let was = counted_same unit d (members_of d.unit facts) (members_of d.unit facts) c after refl rows (kept.counted unit flag found) in
                (was.few, was.are))
            | inl here ↦
                let is : d.unit ≡ number = eqb-true d.unit number here in
                let changes = recounts.own here in
                as_before new.tallies.items refl (changes.count ∙ kept.long) (λ unit flag found.
                let was = kept.counted unit flag found in
                let both : Some unit ≡ Some row = sym found ∙ ap (row_of units) is ∙ row_is in
                let same : unit ≡ row = cc in
                let stops = row.of_unit.stops in (
                  was.few,
                  subst (λ (k : UnitSummary). AreTallies d.startup d.day (known_rows d.day k.of_unit.stops after (members_of d.unit facts)) d.quarters new.tallies.items)
                      (sym same)
                      (recounted n d.startup d.day d.quarters (members_of d.unit facts) (members_ascend facts d.unit once)
                      (subst (λ u. Among (members_of u facts) n) (sym is) among) (known_at d.day stops c) (known_at d.day stops after) d.tallies.items
                      new.tallies.items (λ m else. ap (option_and_then (known_from d.day stops)) (sym (other_row m else)))
                      (subst (λ (k : UnitSummary). AreTallies d.startup d.day (known_rows d.day k.of_unit.stops c (members_of d.unit facts)) d.quarters d.tallies.items)
                      same was.are)
                      (subst (λ o. Changes (marks_by d.startup d.day (known_at d.day stops c n) d.quarters) (marks_by d.startup d.day o d.quarters)
                      d.tallies.items new.tallies.items) (sym (ap (option_and_then (known_from d.day stops)) own_row)) changes)),
                ))
          ]
        where
          moved : (stops : List Stop) (u v startup s day t quarters q : ℕ) (ts old : List Tally) → u ≡ v → startup ≡ s → day ≡ t → quarters ≡ q
              → ts ≡ old → AreTallies s t (known_rows t stops after (members_of v facts)) q old
              → AreTallies startup day (known_rows day stops after (members_of u facts)) quarters ts
          moved stops u v startup s day t quarters q ts old u_is startup_is day_is quarters_is ts_is are =
              let by_startup = subst (λ x. AreTallies x t (known_rows t stops after (members_of v facts)) q old) (sym startup_is) are in
              let by_day = subst (λ x. AreTallies startup x (known_rows x stops after (members_of v facts)) q old) (sym day_is) by_startup in
              let of_unit = subst (λ x. AreTallies startup day (known_rows day stops after (members_of x facts)) q old) (sym u_is) by_day in
              let to_quarter = subst (λ x. AreTallies startup day (known_rows day stops after (members_of u facts)) x old) (sym quarters_is) of_unit in
              subst (AreTallies startup day (known_rows day stops after (members_of u facts)) quarters) (sym ts_is) to_quarter

-- ---- what is found, and what is kept anew

-- the first counts of those of more quarters
pub front_tallies : (startup day quarter first : ℕ) (cs : List Known) (tallies : List Tally) → AreTallies startup day cs quarter tallies
    → first ≤ length tallies → take first tallies ≡ tallies_to startup day cs first
front_tallies startup day quarter first cs tallies are within =
    let long : length (take first tallies) ≡ first = length-take-le first tallies within in
    tallies_are startup day first cs (take first tallies) (record {
      count = long;
      each = λ k d before. get_or-take first tallies k d before ∙ are.each k d (omega (arith, before, within, are.count));
    })

-- each of what is kept afterwards was kept before, or is the new one
pub all_kept : (P : DayTallies → Type 0) (d : DayTallies) (old new : List DayTallies) → KeepsOnly d old new → AllByRecursion P old → P d
    → AllByRecursion P new
all_kept P d old new only all this =
    all_from_among P new (λ x there.
    elim (only x (Contains-from_among new x there)) [
      | inl before ↦ all_at P old x all (among_from_Contains old x before)
      | inr same ↦ subst P (sym same) this
    ])

-- what is left when one is removed was there
pub cut_held : {X : Type 0} (i j : ℕ) (xs : List X) (x : X) → Contains (take i xs ++ drop j xs) x → Contains xs x
cut_held i j xs x held =
    Contains-from_among xs x
    (elim (among_append (take i xs) (drop j xs) x (among_from_Contains (take i xs ++ drop j xs) x held)) [
      | inl front ↦ subst (λ ys. Among ys x) (take-append-drop i xs) (among_left (take i xs) (drop i xs) x front)
      | inr back ↦ subst (λ ys. Among ys x) (take-append-drop j xs) (among_right (take j xs) (drop j xs) x back)
    ])

-- with a new one at the end
pub keeps_pushed : (d : DayTallies) (old left new : List DayTallies) → ((x : DayTallies) → Contains left x → Contains old x) → new ≡ left ++ d ∷ []
    → KeepsOnly d old new
keeps_pushed d old left new within is x held =
    elim (among_append left (d ∷ []) x (among_from_Contains (left ++ d ∷ []) x (subst (λ ds. Contains ds x) is held))) [
      | inl before ↦ inl (within x (Contains-from_among left x before))
      | inr last ↦ inr (only_last last)
    ]
  where
    only_last : Among (d ∷ []) x → x ≡ d
    only_last (inl same) = sym same
    only_last (inr never) = absurd never
