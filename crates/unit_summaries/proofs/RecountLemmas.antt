-- One valve counted anew: its old mark goes, its new mark comes, the others stay.
use Rattle.std.proofs.Common.{◌≡◌, ℕ, ◌+◌, ◌<◌, ◌≤◌, Bool, true, false, cond, not, nat_eq, nat_lt, Option, Some, None, List, [], ◌∷◌, length}
use Rattle.std.proofs.Common.{map, filter, get_or, set, replicate, refl, sym, ap, ◌∙◌, subst, inl, inr, arith}
use Rattle.std.specs.Prelude.{fold}
use Rattle.std.specs.List.{AllByRecursion, cons_option, filter_map}
use Rattle.std.proofs.lemmas.Bool.{cases_Bool, cases_eq}
use Rattle.std.proofs.lemmas.Bool.Decides.{nat_tests}
use Rattle.std.proofs.lemmas.List.{ext_get_or, get_or_default, get_or-set_same, get_or-set_other, length-set, length-replicate, get_or-replicate, length-map}
use Rattle.list_words.specs.Order.{Ascends}
use Rattle.list_words.proofs.Members.{Among, all_at}
use Rattle.ldar_law.specs.declared.numbers.TheConstants.{MOST_COMPONENTS}
use Rattle.ldar_law.specs.declared.tally.Mark.{Mark}
use Rattle.ldar_law.specs.declared.tally.Tally.{Tally}
use Rattle.ldar_law.specs.Tallies.{with_mark}
use Rattle.ldar_law.specs.Units.{Known, mark_in, tally_in}
use Rattle.unit_summaries.specs.Kept.{AreWith, Changes, IsWith, mark_by, marks_by}
use Rattle.unit_summaries.specs.Tallied.{AreTallies, HasRoom}
use Rattle.unit_summaries.proofs.ListLemmas.{few_given, number_at, numbers_long}
use Rattle.unit_summaries.proofs.TallyLemmas.{few_room, no_mark, none}

-- ---- one tally

abbrev one : Bool → ℕ
one b = cond b 1 0

-- tallies with the same counts are the same
same_tally : (a b : Tally) → a.leaking ≡ b.leaking → a.monitored ≡ b.monitored → a ≡ b
same_tally a b leaking monitored =
    ap (λ (n : ℕ). record { leaking = n; monitored = a.monitored }) leaking ∙ ap (λ (n : ℕ). record { leaking = b.leaking; monitored = n }) monitored

-- two marks can be counted in either order
pub marks_swap : (t : Tally) (a b : Mark) → with_mark (with_mark t a) b ≡ with_mark (with_mark t b) a
marks_swap t a b =
    same_tally (with_mark (with_mark t a) b) (with_mark (with_mark t b) a)
    (swap t.leaking (one a.leaking) (one b.leaking)) (swap t.monitored (one a.monitored) (one b.monitored))
  where
    swap : (n x y : ℕ) → n + x + y ≡ n + y + x
    swap n x y = omega arith

-- no mark adds nothing
pub no_mark_more : (t : Tally) → with_mark t no_mark ≡ t
no_mark_more t = same_tally (with_mark t no_mark) t (nothing t.leaking) (nothing t.monitored)
  where
    nothing : (n : ℕ) → n + 0 ≡ n
    nothing n = omega arith

-- counts are the same if they are with one more mark
pub mark_less : (a b : Tally) (m : Mark) → with_mark a m ≡ with_mark b m → a ≡ b
mark_less a b m same =
    same_tally a b (less a.leaking b.leaking (one m.leaking) (ap (λ (t : Tally). t.leaking) same))
    (less a.monitored b.monitored (one m.monitored) (ap (λ (t : Tally). t.monitored) same))
  where
    less : (x y n : ℕ) → x + n ≡ y + n → x ≡ y
    less x y n is = omega (arith, is)

-- a mark that is counted can be removed
pub some_leaking : (mark : Mark) (tally : Tally) → IsWith mark tally → mark.leaking ≡ true → 0 < tally.leaking
some_leaking mark tally counted leaks =
    let sum : counted.others.leaking + one mark.leaking ≡ tally.leaking = ap (λ (t : Tally). t.leaking) counted.is in
    let here : one mark.leaking ≡ 1 = ap one leaks in
    omega (arith, sum, here)

pub some_monitored : (mark : Mark) (tally : Tally) → IsWith mark tally → mark.monitored ≡ true → 0 < tally.monitored
some_monitored mark tally counted read =
    let sum : counted.others.monitored + one mark.monitored ≡ tally.monitored = ap (λ (t : Tally). t.monitored) counted.is in
    let here : one mark.monitored ≡ 1 = ap one read in
    omega (arith, sum, here)

-- .. and then there is room for another
pub room_again : (mark : Mark) (tally left : Tally) → IsWith mark tally → with_mark left mark ≡ tally → HasRoom left
room_again mark tally left counted removed = subst HasRoom (sym (mark_less left counted.others mark (removed ∙ sym counted.is))) counted.room

pub changed_is : (tally left new : Tally) (first second : Mark) → with_mark left first ≡ tally → new ≡ with_mark left second
    → with_mark new first ≡ with_mark tally second
changed_is tally left new first second removed added =
    ap (λ t. with_mark t first) added ∙ marks_swap left second first ∙ ap (λ t. with_mark t second) removed

-- ---- marks changed one place after the other

-- the marks before a place are changed
pub record Changing (first second : List Mark) (old now : List Tally) (place : ℕ) : Type 0 where
  pub count : length now ≡ length old
  pub done : (k : ℕ) (d : Tally) (m : Mark) → k < place → k < length old
      → with_mark (get_or now k d) (get_or first k m) ≡ with_mark (get_or old k d) (get_or second k m)
  pub left : (k : ℕ) (d : Tally) → place ≤ k → get_or now k d ≡ get_or old k d

pub changing_none : (first second : List Mark) (old : List Tally) → Changing first second old old 0
changing_none first second old = record {
  count = refl;
  done = λ k d m before within. absurd (omega (arith, before));
  left = λ k d behind. refl;
}

pub changing_more : (first second : List Mark) (old now : List Tally) (place : ℕ) (tally new : Tally) (a b : Mark) → length first ≡ length old
    → length second ≡ length old → place < length first → Changing first second old now place → tally ≡ get_or now place tally
    → a ≡ get_or first place a → b ≡ get_or second place b → with_mark new a ≡ with_mark tally b
    → Changing first second old (set now place new) (place + 1)
changing_more first second old now place tally new a b long as_long within changing tally_is a_is b_is new_is =
    let inside : place < length now = omega (arith, changing.count, long, within) in
    let in_second : place < length second = omega (arith, long, as_long, within) in
    record {
      count = length-set now place new ∙ changing.count;
      done = λ k d m before kept. elim (cases_eq k place) [
        | inl here ↦
            rw here
            (ap (λ t. with_mark t (get_or first place m)) (get_or-set_same now place new d inside)
            ∙ ap (with_mark new) (sym (a_is ∙ get_or_default first place a m within)) ∙ new_is
            ∙ ap (λ t. with_mark t b) (tally_is ∙ get_or_default now place tally d inside ∙ changing.left place d (omega arith))
            ∙ ap (with_mark (get_or old place d)) (b_is ∙ get_or_default second place b m in_second))
        | inr other ↦
            ap (λ t. with_mark t (get_or first k m)) (get_or-set_other now place k new d other)
            ∙ changing.done k d m (omega (arith, before, other)) kept
      ];
      left = λ k d behind. get_or-set_other now place k new d (λ here. absurd (omega (arith, behind, here))) ∙ changing.left k d (omega (arith, behind));
    }

pub changing_all : (first second : List Mark) (old now : List Tally) (place : ℕ) → length first ≡ length old → length first ≤ place
    → Changing first second old now place → Changes first second old now
changing_all first second old now place long end changing = record {
  count = changing.count;
  each = λ k d m within. changing.done k d m (omega (arith, long, end, within)) within;
}

-- the mark at a place is counted while those before it are changed
pub with_at : (first second : List Mark) (old now : List Tally) (place : ℕ) (tally : Tally) (a : Mark) → length first ≡ length old → place < length first
    → AreWith first old → Changing first second old now place → tally ≡ get_or now place tally → a ≡ get_or first place a → IsWith a tally
with_at first second old now place tally a long within counted changing tally_is a_is =
    subst (λ m. IsWith m tally) (sym a_is)
    (subst (IsWith (get_or first place a)) (sym (tally_is ∙ changing.left place tally (omega arith))) (counted place tally a (omega (arith, long, within))))

-- ---- one of some components

-- counts with one more mark first
fold_moves : (t : Tally) (m : Mark) (marks : List Mark) → fold with_mark (with_mark t m) marks ≡ with_mark (fold with_mark t marks) m
fold_moves t m [] = refl
fold_moves t m (n ∷ marks) = ap (λ s. fold with_mark s marks) (marks_swap t m n) ∙ fold_moves (with_mark t n) m marks

module _ (n : ℕ) where
  -- the other numbers
  abbrev pub others : List ℕ → List ℕ
  others ns = filter (λ m. not (nat_eq m n)) ns

  apart : (m : ℕ) → nat_lt m n ≡ true → nat_eq m n ≡ false
  apart m less = grind (arith, nat_tests, less)

  apart_above : (m : ℕ) → nat_lt n m ≡ true → nat_eq m n ≡ false
  apart_above m less = grind (arith, nat_tests, less)

  itself : nat_eq n n ≡ true
  itself = grind (arith, nat_tests)

  -- numbers above it are others
  above_are_others : (ns : List ℕ) → AllByRecursion (λ m. nat_lt n m ≡ true) ns → others ns ≡ ns
  above_are_others [] all = refl
  above_are_others (m ∷ ns) all = rw (apart_above m all.0) (ap (λ ms. m ∷ ms) (above_are_others ns all.1))

  no_more : (ns : List ℕ) → length (others ns) ≤ length ns
  no_more [] = omega arith
  no_more (m ∷ ns) = elim (cases_Bool (nat_eq m n)) [
    | inl here ↦ rw here (omega (arith, no_more ns))
    | inr else ↦ rw else (omega (arith, no_more ns))
  ]

  -- they are fewer
  pub fewer : (ns : List ℕ) → Among ns n → length (others ns) < length ns
  fewer [] among = absurd among
  fewer (m ∷ ns) (inl same) = let here : nat_eq m n ≡ true = subst (λ k. nat_eq k n ≡ true) (sym same) itself in rw here (omega (arith, no_more ns))
  fewer (m ∷ ns) (inr there) = elim (cases_Bool (nat_eq m n)) [
    | inl here ↦ rw here (omega (arith, no_more ns))
    | inr else ↦ rw else (omega (arith, fewer ns there))
  ]

  -- what is given of them does not change with what is given of the number
  pub others_alike : {X : Type 0} (f g : ℕ → Option X) → ((m : ℕ) → nat_eq m n ≡ false → f m ≡ g m) → (ns : List ℕ)
      → filter_map f (others ns) ≡ filter_map g (others ns)
  others_alike f g same [] = refl
  others_alike f g same (m ∷ ns) = elim (cases_Bool (nat_eq m n)) [
    | inl here ↦ rw here (others_alike f g same ns)
    | inr else ↦
        rw else
        (ap (λ o. cons_option o (filter_map f (others ns))) (same m else) ∙ ap (cons_option (g m)) (others_alike f g same ns))
  ]

  module _ (startup day quarter : ℕ) (f : ℕ → Option Known) where
    abbrev mark : Known → Mark
    mark = mark_in startup day quarter

    -- a number's component is counted first
    first_counted : (t : Tally) (o : Option Known) (cs : List Known)
        → fold with_mark t (map mark (cons_option o cs)) ≡ with_mark (fold with_mark t (map mark cs)) (mark_by startup day o quarter)
    first_counted t None cs = sym (no_mark_more (fold with_mark t (map mark cs)))
    first_counted t (Some c) cs = fold_moves t (mark c) (map mark cs)

    apart_from : (t : Tally) (ns : List ℕ) → Ascends nat_lt ns → Among ns n
        → fold with_mark t (map mark (filter_map f ns))
        ≡ with_mark (fold with_mark t (map mark (filter_map f (others ns)))) (mark_by startup day (f n) quarter)
    apart_from t [] up among = absurd among
    apart_from t (m ∷ ns) up (inl same) =
        let here : nat_eq m n ≡ true = subst (λ k. nat_eq k n ≡ true) (sym same) itself in
        let above : others ns ≡ ns = above_are_others ns (subst (λ k. AllByRecursion (λ j. nat_lt k j ≡ true) ns) same up.0) in
        rw here
        (first_counted t (f m) (filter_map f ns)
        ∙ ap (λ ms. with_mark (fold with_mark t (map mark (filter_map f ms))) (mark_by startup day (f m) quarter)) (sym above)
        ∙ ap (λ k. with_mark (fold with_mark t (map mark (filter_map f (others ns)))) (mark_by startup day (f k) quarter)) same)
    apart_from t (m ∷ ns) up (inr there) =
        let else : nat_eq m n ≡ false = apart m (all_at (λ k. nat_lt m k ≡ true) ns n up.0 there) in
        rw else
        (elim (f m) as (λ o. fold with_mark t (map mark (cons_option o (filter_map f ns)))
        ≡ with_mark (fold with_mark t (map mark (cons_option o (filter_map f (others ns))))) (mark_by startup day (f n) quarter)) [
          | None ↦ apart_from t ns up.1 there
          | Some c ↦ apart_from (with_mark t (mark c)) ns up.1 there
        ])

    -- the counts of a quarter are those of the others and its own
    pub tally_apart : (ns : List ℕ) → Ascends nat_lt ns → Among ns n
        → tally_in startup day (filter_map f ns) quarter
        ≡ with_mark (tally_in startup day (filter_map f (others ns)) quarter) (mark_by startup day (f n) quarter)
    tally_apart ns up among = apart_from none ns up among

  module _ (startup day quarters : ℕ) (ns : List ℕ) (up : Ascends nat_lt ns) (among : Among ns n) where
    -- its marks are counted
    pub are_with : (f : ℕ → Option Known) (tallies : List Tally) → length ns ≤ MOST_COMPONENTS
        → AreTallies startup day (filter_map f ns) quarters tallies → AreWith (marks_by startup day (f n) quarters) tallies
    are_with f tallies few are k d m within =
        let before : k < quarters = omega (arith, are.count, within) in
        let mark : Known → Mark = mark_in startup day (k + 1) in
        let rest = filter_map f (others ns) in
        subst (λ x. IsWith x (get_or tallies k d)) (sym (number_at (mark_by startup day (f n)) quarters k m before))
        (record {
          others = tally_in startup day rest (k + 1);
          is = sym (tally_apart startup day (k + 1) f ns up among) ∙ sym (are.each k d before);
          room = few_room (map mark rest) (omega (arith, few, fewer ns among, few_given f (others ns), length-map rest mark));
        })

    -- the counts with another of its own
    pub recounted : (f g : ℕ → Option Known) (old new : List Tally) → ((m : ℕ) → nat_eq m n ≡ false → f m ≡ g m)
        → AreTallies startup day (filter_map f ns) quarters old
        → Changes (marks_by startup day (f n) quarters) (marks_by startup day (g n) quarters) old new
        → AreTallies startup day (filter_map g ns) quarters new
    recounted f g old new same are changes = record {
      count = changes.count ∙ are.count;
      each = λ k d before.
          let first = mark_by startup day (f n) (k + 1) in
          let second = mark_by startup day (g n) (k + 1) in
          let rest = tally_in startup day (filter_map f (others ns)) (k + 1) in
          let first_is = number_at (mark_by startup day (f n)) quarters k no_mark before in
          let second_is = number_at (mark_by startup day (g n)) quarters k no_mark before in
          let whole : tally_in startup day (filter_map g ns) (k + 1) ≡ with_mark rest second =
          tally_apart startup day (k + 1) g ns up among
          ∙ ap (λ cs. with_mark (tally_in startup day cs (k + 1)) second) (sym (others_alike f g same ns)) in
          let was : get_or old k d ≡ with_mark rest first = are.each k d before ∙ tally_apart startup day (k + 1) f ns up among in
          mark_less (get_or new k d) (tally_in startup day (filter_map g ns) (k + 1)) first
          (ap (with_mark (get_or new k d)) (sym first_is) ∙ changes.each k d no_mark (omega (arith, are.count, before))
          ∙ ap (with_mark (get_or old k d)) second_is ∙ ap (λ t. with_mark t second) was ∙ marks_swap rest first second
          ∙ ap (λ t. with_mark t first) (sym whole));
    }

-- no marks of each quarter
pub no_marks_are : (startup day quarters : ℕ) → replicate quarters no_mark ≡ marks_by startup day None quarters
no_marks_are startup day quarters =
    ext_get_or no_mark (replicate quarters no_mark) (marks_by startup day None quarters)
    (length-replicate quarters no_mark ∙ sym (numbers_long (mark_by startup day None) quarters)) (λ k within.
    let before : k < quarters = omega (arith, within, length-replicate quarters no_mark) in
    get_or-replicate quarters k no_mark no_mark before ∙ sym (number_at (mark_by startup day None) quarters k no_mark before))
