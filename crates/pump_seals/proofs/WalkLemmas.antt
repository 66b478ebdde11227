-- The steps of a walk over the leaks of one kind.
use Rattle.std.proofs.Common.{◌≡◌, ℕ, ◌+◌, ◌<◌, ◌≤◌, Bool, true, false, not, Option, Some, None, List, length, get_or, option_and_then, refl, sym, ap, ◌∙◌, subst, arith}
use Rattle.std.specs.List.{slice_get}
use Rattle.std.specs.Option.{option_map_or}
use Rattle.std.proofs.lemmas.Bool.{not-true, not-false}
use Rattle.std.proofs.lemmas.Option.{get_or_from_slice_get, slice_get-get_or, slice_get_past}
use Rattle.pump_seals.specs.declared.leaks_of_sort.LeaksOfSort.{LeaksOfSort}
use Rattle.pump_seals.specs.declared.leaks_of_sort.Run.{Run}
use Rattle.pump_seals.specs.declared.moment.Moment.{Moment}
use Rattle.pump_seals.specs.Moments.{is_before}
use Rattle.pump_seals.specs.Repairs.{closing_of}
use Rattle.pump_seals.specs.Walked.{AreInOrder, first_mend, is_settled_before, runs_on, closing_at, IsIn, IsRunAt}
use Rattle.pump_seals.proofs.MomentLemmas.{linear}
use Rattle.pump_seals.proofs.Places.{closing_goes_on, closing_stops, closing_ends, next_run_begins, next_run_goes_on, first_run_begins}
use Rattle.pump_seals.proofs.RunLemmas.{settled_by}

-- the closing of the tag that is open at a leak
abbrev closing : LeaksOfSort → Moment → Option Moment
closing p leak = closing_of is_before p.by_attempt p.leaks.now p.attempts.now p.mends.now leak

-- a leak that is not settled before the next one, and the next one
two_in_a_row : (p : LeaksOfSort) (i : ℕ) → runs_on p i ≡ true
    → (x : Moment) × (y : Moment) × (slice_get p.leaks.now i ≡ Some x) × (slice_get p.leaks.now (i + 1) ≡ Some y) × (is_settled_before p x y ≡ false)
unfolding runs_on
two_in_a_row p i on =
    let (x, here, rest) = settled_by (λ x. option_map_or (λ y. not (is_settled_before p x y)) (slice_get p.leaks.now (i + 1)) false) (slice_get p.leaks.now i) on in
    let (y, next, late) = settled_by (λ y. not (is_settled_before p x y)) (slice_get p.leaks.now (i + 1)) rest in
    (x, y, here, next, not-true (is_settled_before p x y) late)

same : (x y : Moment) → Some x ≡ Some y → x ≡ y
same x y e = cc

-- a leak that does not run on is settled before the next one, if there is one
alone_by : (p : LeaksOfSort) (x : Moment) (o : Option Moment) → option_map_or (λ y. not (is_settled_before p x y)) o false ≡ false → (y : Moment) → o ≡ Some y
    → is_settled_before p x y ≡ true
alone_by p x None e y is = absurd cc
alone_by p x (Some z) e y is = not-false (is_settled_before p x y) (subst (λ m. not (is_settled_before p x m) ≡ false) (same z y is) e)

stops_before : (p : LeaksOfSort) (i : ℕ) (x y : Moment) → slice_get p.leaks.now i ≡ Some x → slice_get p.leaks.now (i + 1) ≡ Some y → runs_on p i ≡ false
    → is_settled_before p x y ≡ true
unfolding runs_on
stops_before p i x y here next off =
    alone_by p x (slice_get p.leaks.now (i + 1))
    (sym (ap (λ o. option_map_or (λ z. option_map_or (λ w. not (is_settled_before p z w)) (slice_get p.leaks.now (i + 1)) false) o false) here) ∙ off) y next

-- a tag that is open at a leak closes with the one at the next leak, if the leak is not settled before the next one
pub closing_next : (p : LeaksOfSort) → AreInOrder p → (i : ℕ) → runs_on p i ≡ true → closing_at p i ≡ closing_at p (i + 1)
unfolding closing_at
closing_next p ordered i on =
    let (x, y, here, next, late) = two_in_a_row p i on in
    ap (option_and_then (closing p)) here
    ∙ closing_goes_on is_before linear p.by_attempt p.leaks.now p.attempts.now p.mends.now ordered.leaks ordered.attempts ordered.mends i x y here next late
    ∙ sym (ap (option_and_then (closing p)) next)

-- the tag at a leak that does not run on closes at the first mend of the leak
closing_by : (p : LeaksOfSort) → AreInOrder p → (i : ℕ) (x : Moment) → slice_get p.leaks.now i ≡ Some x → runs_on p i ≡ false → (o : Option Moment)
    → slice_get p.leaks.now (i + 1) ≡ o → closing p x ≡ first_mend p x
closing_by p ordered i x here off None none =
    closing_ends is_before linear p.by_attempt p.leaks.now p.attempts.now p.mends.now ordered.leaks ordered.attempts ordered.mends i x here none
closing_by p ordered i x here off (Some y) next =
    closing_stops is_before linear p.by_attempt p.leaks.now p.attempts.now p.mends.now ordered.leaks ordered.attempts ordered.mends i x y here next
    (stops_before p i x y here next off)

pub closing_last : (p : LeaksOfSort) → AreInOrder p → (i : ℕ) (d : Moment) → i < length p.leaks.now → runs_on p i ≡ false
    → closing_at p i ≡ first_mend p (get_or p.leaks.now i d)
unfolding closing_at
closing_last p ordered i d within off =
    let x = get_or p.leaks.now i d in
    let here : slice_get p.leaks.now i ≡ Some x = slice_get-get_or p.leaks.now i d within in
    ap (option_and_then (closing p)) here ∙ closing_by p ordered i x here off (slice_get p.leaks.now (i + 1)) refl

-- ---- runs

-- the run that begins at the first leak
pub run_at_first : (p : LeaksOfSort) → AreInOrder p → (run : Run) (d : Moment) → run.first ≡ get_or p.leaks.now 0 d → run.closed ≡ closing_at p 0 → IsRunAt p run 0
unfolding closing_at
run_at_first p ordered run d first closed leak here =
    let is : run.first ≡ leak = first ∙ get_or_from_slice_get p.leaks.now 0 leak d here in
    subst (λ m. IsIn p (record { first = m; closed = run.closed }) leak) (sym is)
    (first_run_begins is_before linear p.by_attempt p.leaks.now p.attempts.now p.mends.now ordered.leaks ordered.attempts ordered.mends leak here run.closed
    (sym (closed ∙ ap (option_and_then (closing p)) here)))

-- there is no leak after the last one
pub run_past : (p : LeaksOfSort) (run : Run) (i : ℕ) → length p.leaks.now ≤ i → IsRunAt p run i
run_past p run i past leak here = absurd (let none = slice_get_past p.leaks.now i past in cc)

-- a run continues
pub run_stays : (p : LeaksOfSort) → AreInOrder p → (run : Run) (i : ℕ) → runs_on p i ≡ true → IsRunAt p run i → IsRunAt p run (i + 1)
run_stays p ordered run i on now leak there =
    let (x, y, here, next, late) = two_in_a_row p i on in
    let is : y ≡ leak = same y leak (sym next ∙ there) in
    subst (λ m. IsIn p run m) is
    (next_run_goes_on is_before linear p.by_attempt p.leaks.now p.attempts.now p.mends.now ordered.leaks ordered.attempts ordered.mends i x y here next late
    run.first run.closed (now x here))

-- a new run begins at the next leak
pub run_new : (p : LeaksOfSort) → AreInOrder p → (run : Run) (i : ℕ) (d : Moment) → i < length p.leaks.now → runs_on p i ≡ false
    → (e : Moment) → run.first ≡ get_or p.leaks.now (i + 1) e → run.closed ≡ closing_at p (i + 1) → IsRunAt p run (i + 1)
unfolding closing_at
run_new p ordered run i d within off e first closed leak there =
    let here : slice_get p.leaks.now i ≡ Some (get_or p.leaks.now i d) = slice_get-get_or p.leaks.now i d within in
    let is : run.first ≡ leak = first ∙ get_or_from_slice_get p.leaks.now (i + 1) leak e there in
    subst (λ m. IsIn p (record { first = m; closed = run.closed }) leak) (sym is)
    (next_run_begins is_before linear p.by_attempt p.leaks.now p.attempts.now p.mends.now ordered.leaks ordered.attempts ordered.mends i
    (get_or p.leaks.now i d) leak here there (stops_before p i (get_or p.leaks.now i d) leak here there off) run.closed
    (sym (closed ∙ ap (option_and_then (closing p)) there)))

-- the leak at a place is in the run
pub in_run : (p : LeaksOfSort) (run : Run) (i : ℕ) (d : Moment) → i < length p.leaks.now → IsRunAt p run i → IsIn p run (get_or p.leaks.now i d)
in_run p run i d within now = now (get_or p.leaks.now i d) (slice_get-get_or p.leaks.now i d within)
