-- How an index changes with one identity more, and with one less.
use Rattle.std.proofs.Common.{◌≡◌, ◌≢◌, ◌<◌, ◌≤◌, ◌+◌, ◌-◌, ◌⊎◌, inl, inr, ℕ, zero, suc, eqb, List, [], ◌∷◌, ◌++◌, length, map, take, drop, set, min}
use Rattle.std.proofs.Common.{replicate, slice_get, Option, Some, None, Bool, true, false, cond, not, refl, sym, ◌∙◌, ap, subst, arith, length-append}
use Rattle.std.specs.Option.{option_map}
use Rattle.std.specs.List.{position_from}
use Rattle.std.proofs.lemmas.Option.{slice_get_within, slice_get-map, same_Some, get_or_from_slice_get}
use Rattle.std.proofs.lemmas.Bool.{cases_lt, cases_Bool, false≢true}
use Rattle.std.proofs.lemmas.Bool.Decides.{nat_tests}
use Rattle.std.proofs.lemmas.Grind.{common_steps}
use Rattle.std.proofs.lemmas.List.{length-set, append-nil, drop_all, drop-append-le, get_or-replicate, length-replicate}
use Rattle.std.proofs.Math.Seq.{take-append_seam}
use Rattle.fact_kinds.specs.declared.identity.Identity.{Identity}
use Rattle.batch_positions.specs.Links.{at_position}
use Rattle.batch_positions.specs.Positions.{is_identity, position_in}
use Rattle.batch_positions.specs.declared.entry.Entry.{Entry}
use Rattle.batch_positions.specs.declared.late_tree.Late.{Late}
use Rattle.std.specs.List.{count_by, sum_by}
use Rattle.std.proofs.lemmas.List.Sums.{sum_by-append}
use Rattle.batch_positions.specs.Index.{runs_among, IsRoomy, identity_at, late_entry, IsInRun, IsLastOf, AreRuns, lates_of, AreApart, IsIndexed}
use Rattle.batch_positions.proofs.TreeLemmas.{at_position-within, at_position-push, at_position-parts, at_position-last, at_position-some}

-- the last entry below a position is the same after another entry is appended
IsLastOf-push : (entries : List Entry) (e : Entry) (handheld bound link : ℕ) → bound ≤ length entries + 1 → IsLastOf entries handheld bound link
    → IsLastOf (entries ++ e ∷ []) handheld bound link
IsLastOf-push entries e handheld bound link within last = record {
  within = last.within;
  in_run = λ x here. run x (at_position-parts entries e link x here);
  no_later = λ at x here in_run below. later at x in_run below (at_position-parts entries e at x here);
}
  where
    run : (x : Entry) → (at_position entries link ≡ Some x) ⊎ ((link ≡ suc (length entries)) × (x ≡ e)) → IsInRun handheld x
    run x (inl here) = last.in_run x here
    run x (inr end) = let place = end.0 in let below_bound = last.within in absurd (omega arith)

    later : (at : ℕ) (x : Entry) → IsInRun handheld x → at < bound → (at_position entries at ≡ Some x) ⊎ ((at ≡ suc (length entries)) × (x ≡ e)) → at ≤ link
    later at x in_run below (inl here) = last.no_later at x here in_run below
    later at x in_run below (inr end) = let place = end.0 in absurd (omega arith)

-- the last entry below the end is the same after an entry of another run is appended
IsLastOf-beyond : (entries : List Entry) (e : Entry) (handheld link : ℕ) → ¬ (IsInRun handheld e) → IsLastOf entries handheld (length entries + 1) link
    → IsLastOf (entries ++ e ∷ []) handheld (length (entries ++ e ∷ []) + 1) link
IsLastOf-beyond entries e handheld link other last =
    let pushed = IsLastOf-push entries e handheld (length entries + 1) link (omega arith) last in
    let below = last.within in
    record {
      within = omega (arith, length-append entries (e ∷ []));
      in_run = pushed.in_run;
      no_later = λ at x here in_run within. later at x in_run (at_position-parts entries e at x here);
    }
  where
    later : (at : ℕ) (x : Entry) → IsInRun handheld x → (at_position entries at ≡ Some x) ⊎ ((at ≡ suc (length entries)) × (x ≡ e)) → at ≤ link
    later at x in_run (inl here) = let within = at_position-within entries at x here in last.no_later at x here in_run (omega arith)
    later at x in_run (inr end) = absurd (other (subst (IsInRun handheld) end.1 in_run))

-- an appended entry is the last of its run
IsLastOf-itself : (entries : List Entry) (e : Entry) → e.late ≡ false
    → IsLastOf (entries ++ e ∷ []) e.handheld (length (entries ++ e ∷ []) + 1) (length entries + 1)
IsLastOf-itself entries e in_run =
    let place : length entries + 1 ≡ suc (length entries) = omega arith in
    record {
      within = omega (arith, length-append entries (e ∷ []));
      in_run = λ x here.
          let same : e ≡ x = same_Some e x (sym (at_position-last entries e) ∙ ap (at_position (entries ++ e ∷ [])) (sym place) ∙ here) in
          subst (IsInRun e.handheld) same (in_run, refl);
      no_later = λ at x here is below. omega (arith, length-append entries (e ∷ []));
    }

-- the runs after a late entry, or one that continues its run, is appended
AreRuns-push : (entries : List Entry) (e : Entry) → AreRuns entries → (e.late ≡ false → IsLastOf entries e.handheld (length entries + 1) e.earlier)
    → (e.late ≡ false → (last : Entry) → at_position entries e.earlier ≡ Some last → last.number < e.number) → AreRuns (entries ++ e ∷ [])
AreRuns-push entries e runs last above = record {
  earlier = λ at x here in_run. earlier at x in_run (at_position-parts entries e at x here);
  rise = λ p q x y here there in_run y_run below. rise p q x y in_run y_run below (at_position-parts entries e p x here)
      (at_position-parts entries e q y there);
}
  where
    earlier : (at : ℕ) (x : Entry) → x.late ≡ false → (at_position entries at ≡ Some x) ⊎ ((at ≡ suc (length entries)) × (x ≡ e))
        → IsLastOf (entries ++ e ∷ []) x.handheld at x.earlier
    earlier at x in_run (inl here) =
        let within = at_position-within entries at x here in
        IsLastOf-push entries e x.handheld at x.earlier (omega arith) (runs.earlier at x here in_run)
    earlier at x in_run (inr end) =
        let place : at ≡ length entries + 1 = end.0 ∙ omega arith in
        let e_run : e.late ≡ false = ap (λ (y : Entry). y.late) (sym end.1) ∙ in_run in
        rw (place, end.1) (IsLastOf-push entries e e.handheld (length entries + 1) e.earlier (omega arith) (last e_run))

    -- an appended entry's number is above every other of its run
    up_to_last : (p : ℕ) (x : Entry) → at_position entries p ≡ Some x → e.late ≡ false → IsInRun e.handheld x → x.number < e.number
    up_to_last p x here e_run in_run =
        let ends = last e_run in
        let within = at_position-within entries p x here in
        let below_end = ends.within in
        let before = ends.no_later p x here in_run (omega arith) in
        let found = at_position-some entries e.earlier (omega arith) (omega arith) in
        let number : found.0.number < e.number = above e_run found.0 found.1 in
        let found_run = ends.in_run found.0 found.1 in
        number_of found.0 found.1 found_run number (cases_lt p e.earlier)
      where
        number_of : (end : Entry) → at_position entries e.earlier ≡ Some end → IsInRun e.handheld end → end.number < e.number
            → (p < e.earlier) ⊎ (e.earlier ≤ p) → x.number < e.number
        number_of end there end_run number (inl below) =
            let rises : x.number < end.number = runs.rise p e.earlier x end here there (rw end_run.1 in_run) end_run.0 below in
            omega arith
        number_of end there end_run number (inr not_below) =
            let ends = last e_run in
            let within = at_position-within entries p x here in
            let before = ends.no_later p x here in_run (omega arith) in
            let same : p ≡ e.earlier = omega arith in
            let one : x ≡ end = same_Some x end (sym here ∙ ap (at_position entries) same ∙ there) in
            rw one number

    rise : (p q : ℕ) (x y : Entry) → IsInRun y.handheld x → y.late ≡ false → p < q
        → (at_position entries p ≡ Some x) ⊎ ((p ≡ suc (length entries)) × (x ≡ e))
        → (at_position entries q ≡ Some y) ⊎ ((q ≡ suc (length entries)) × (y ≡ e)) → x.number < y.number
    rise p q x y in_run y_run below (inl here) (inl there) = runs.rise p q x y here there in_run y_run below
    rise p q x y in_run y_run below (inl here) (inr end) =
        let e_run : e.late ≡ false = ap (λ (z : Entry). z.late) (sym end.1) ∙ y_run in
        rw end.1 (up_to_last p x here e_run (subst (λ (z : Entry). IsInRun z.handheld x) end.1 in_run))
    rise p q x y in_run y_run below (inr end) (inl there) = let within = at_position-within entries q y there in let place = end.0 in absurd (omega arith)
    rise p q x y in_run y_run below (inr end) (inr other) = let place = end.0 in let too = other.0 in absurd (omega arith)

-- a new identity keeps all identities apart
AreApart-push : (entries : List Entry) (e : Entry) → AreApart entries
    → ((at : ℕ) (x : Entry) → at_position entries at ≡ Some x → identity_at x ≢ identity_at e) → AreApart (entries ++ e ∷ [])
AreApart-push entries e apart new = λ p q x y here there same. by p q x y same (at_position-parts entries e p x here) (at_position-parts entries e q y there)
  where
    by : (p q : ℕ) (x y : Entry) → identity_at x ≡ identity_at y
        → (at_position entries p ≡ Some x) ⊎ ((p ≡ suc (length entries)) × (x ≡ e))
        → (at_position entries q ≡ Some y) ⊎ ((q ≡ suc (length entries)) × (y ≡ e)) → p ≡ q
    by p q x y same (inl here) (inl there) = apart p q x y here there same
    by p q x y same (inl here) (inr end) = absurd (new p x here (same ∙ ap identity_at end.1))
    by p q x y same (inr end) (inl there) = absurd (new q y there (sym same ∙ ap identity_at end.1))
    by p q x y same (inr end) (inr other) = end.0 ∙ sym other.0

-- the entry as a list of late ones: itself if it is late, and otherwise nothing
abbrev if_late : Bool → Entry → ℕ → List Late
if_late late entry position = cond late (record { identity = identity_at entry; position = position } ∷ []) []

-- the late ones after an entry is appended
lates_of-push : (at : ℕ) (entries : List Entry) (e : Entry) → lates_of at (entries ++ e ∷ []) ≡ lates_of at entries ++ if_late e.late e (at + length entries)
lates_of-push at [] e = let same : at ≡ at + 0 = omega arith in ap (if_late e.late e) same
lates_of-push at (x ∷ entries) e = by x.late (lates_of-push (at + 1) entries e)
  where
    by : (late : Bool) → lates_of (at + 1) (entries ++ e ∷ []) ≡ lates_of (at + 1) entries ++ if_late e.late e (at + 1 + length entries)
        → cond late (record { identity = identity_at x; position = at } ∷ lates_of (at + 1) (entries ++ e ∷ [])) (lates_of (at + 1) (entries ++ e ∷ []))
        ≡ cond late (record { identity = identity_at x; position = at } ∷ lates_of (at + 1) entries) (lates_of (at + 1) entries) ++ if_late e.late e
        (at + suc (length entries))
    by true rest =
        let place : at + 1 + length entries ≡ at + suc (length entries) = omega arith in
        ap (λ (l : List Late). record { identity = identity_at x; position = at } ∷ l) (rest ∙ ap (λ n. lates_of (at + 1) entries ++ if_late e.late e n) place)
    by false rest =
        let place : at + 1 + length entries ≡ at + suc (length entries) = omega arith in
        rest ∙ ap (λ n. lates_of (at + 1) entries ++ if_late e.late e n) place

-- there are at most as many late ones as entries
pub length-lates_of : (at : ℕ) (entries : List Entry) → length (lates_of at entries) ≤ length entries
length-lates_of at [] = omega arith
length-lates_of at (x ∷ entries) = by x.late (length-lates_of (at + 1) entries)
  where
    by : (late : Bool) → length (lates_of (at + 1) entries) ≤ length entries
        → length (cond late (record { identity = identity_at x; position = at } ∷ lates_of (at + 1) entries) (lates_of (at + 1) entries)) ≤ suc (length entries)
    by true rest = omega arith
    by false rest = omega arith

-- each late one is an entry
lates_of-stand : (at : ℕ) (entries : List Entry) (i : ℕ) (late : Late) → slice_get (lates_of at entries) i ≡ Some late
    → (k : ℕ) × (x : Entry) × (slice_get entries k ≡ Some x) × (late ≡ record { identity = identity_at x; position = at + k })
lates_of-stand at [] i late found = absurd cc
lates_of-stand at (x ∷ entries) i late found = by x.late i found (λ j. lates_of-stand (at + 1) entries j late)
  where
    behind : (k : ℕ) × (y : Entry) × (slice_get entries k ≡ Some y) × (late ≡ record { identity = identity_at y; position = at + 1 + k })
        → (k : ℕ) × (y : Entry) × (slice_get (x ∷ entries) k ≡ Some y) × (late ≡ record { identity = identity_at y; position = at + k })
    behind stands =
        let place : at + 1 + stands.0 ≡ at + suc stands.0 = omega arith in
        (suc stands.0, stands.1, stands.2, stands.3 ∙ ap (λ n. record { identity = identity_at stands.1; position = n }) place)

    by : (b : Bool) (i : ℕ) → slice_get (cond b (record { identity = identity_at x; position = at } ∷ lates_of (at + 1) entries) (lates_of (at + 1) entries))
        i ≡ Some late
        → ((j : ℕ) → slice_get (lates_of (at + 1) entries) j ≡ Some late
        → (k : ℕ) × (y : Entry) × (slice_get entries k ≡ Some y) × (late ≡ record { identity = identity_at y; position = at + 1 + k }))
        → (k : ℕ) × (y : Entry) × (slice_get (x ∷ entries) k ≡ Some y) × (late ≡ record { identity = identity_at y; position = at + k })
    by true zero there rest =
        let place : at ≡ at + 0 = omega arith in (
          0,
          x,
          refl,
          sym (same_Some (record { identity = identity_at x; position = at }) late there)
              ∙ ap (λ n. record { identity = identity_at x; position = n }) place,
        )
    by true (suc i) there rest = behind (rest i there)
    by false i there rest = behind (rest i there)

-- each late entry is among the late ones
lates_of-have : (at : ℕ) (entries : List Entry) (k : ℕ) (x : Entry) → slice_get entries k ≡ Some x → x.late ≡ true
    → (i : ℕ) × (slice_get (lates_of at entries) i ≡ Some (record { identity = identity_at x; position = at + k }))
lates_of-have at [] k x here late = absurd cc
lates_of-have at (y ∷ entries) zero x here late =
    let same : y ≡ x = same_Some y x here in
    let y_late : y.late ≡ true = ap (λ (e : Entry). e.late) same ∙ late in
    let place : at ≡ at + 0 = omega arith in (
      0,
      rw y_late (ap (λ (e : Entry). Some (record { identity = identity_at e; position = at })) same
          ∙ ap (λ n. Some (record { identity = identity_at x; position = n })) place),
    )
lates_of-have at (y ∷ entries) (suc k) x here late =
    let found = lates_of-have (at + 1) entries k x here late in
    let place : at + 1 + k ≡ at + suc k = omega arith in
    by y.late found.0 (found.1 ∙ ap (λ n. Some (record { identity = identity_at x; position = n })) place)
  where
    by : (b : Bool) (i : ℕ) → slice_get (lates_of (at + 1) entries) i ≡ Some (record { identity = identity_at x; position = at + suc k })
        → (i : ℕ) × (slice_get (cond b (record { identity = identity_at y; position = at } ∷ lates_of (at + 1) entries) (lates_of (at + 1) entries)) i ≡ Some
        (record { identity = identity_at x; position = at + suc k }))
    by true i there = (suc i, there)
    by false i there = (i, there)

-- an element of a list after a write, at that place or at another
slice_get-set : {X : Type 0} (xs : List X) (i : ℕ) (y : X) (k : ℕ) (x : X) → slice_get (set xs i y) k ≡ Some x
    → ((k ≡ i) × (x ≡ y)) ⊎ ((k ≢ i) × (slice_get xs k ≡ Some x))
slice_get-set [] i y k x here = absurd cc
slice_get-set (a ∷ xs) zero y zero x here = inl (refl, sym (same_Some y x here))
slice_get-set (a ∷ xs) zero y (suc k) x here = inr (λ e. omega arith, here)
slice_get-set (a ∷ xs) (suc i) y zero x here = inr (λ e. omega arith, here)
slice_get-set (a ∷ xs) (suc i) y (suc k) x here = elim (slice_get-set xs i y k x here) [
  | inl same ↦ let place = same.0 in inl (omega arith, same.1)
  | inr other ↦ inr (λ e. other.0 (omega arith), other.1)
]

-- the index after an entry that continues its run
pub goes_on : (entries : List Entry) (heads : List ℕ) (lates : List Late) (e : Entry) → IsIndexed entries heads lates → e.late ≡ false
    → slice_get heads e.handheld ≡ Some e.earlier
    → ((last : Entry) → at_position entries e.earlier ≡ Some last → last.number < e.number)
    → ((at : ℕ) (x : Entry) → at_position entries at ≡ Some x → identity_at x ≢ identity_at e)
    → IsIndexed (entries ++ e ∷ []) (set heads e.handheld (length entries + 1)) lates
goes_on entries heads lates e index in_run head above new = record {
  runs = AreRuns-push entries e index.runs (λ run. index.ends.last e.handheld e.earlier head) (λ run. above);
  apart = AreApart-push entries e index.apart new;
  ends = record {
    long = length-set heads e.handheld (length entries + 1) ∙ index.ends.long;
    last = λ handheld link here. last handheld link (slice_get-set heads e.handheld (length entries + 1) handheld link here);
  };
  late = index.late ∙ sym (append-nil (lates_of 1 entries)) ∙ ap (λ (b : Bool). lates_of 1 entries ++ if_late b e (1 + length entries)) (sym in_run)
      ∙ sym (lates_of-push 1 entries e);
}
  where
    last : (handheld link : ℕ) → ((handheld ≡ e.handheld) × (link ≡ length entries + 1)) ⊎ ((handheld ≢ e.handheld) × (slice_get heads handheld ≡ Some link))
        → IsLastOf (entries ++ e ∷ []) handheld (length (entries ++ e ∷ []) + 1) link
    last handheld link (inl same) = rw (same.0, same.1) (IsLastOf-itself entries e in_run)
    last handheld link (inr other) = IsLastOf-beyond entries e handheld link (λ run. other.0 (sym run.1)) (index.ends.last handheld link other.1)

-- the index after a late entry
pub comes_late : (entries : List Entry) (heads : List ℕ) (lates : List Late) (e : Entry) → IsIndexed entries heads lates → e.late ≡ true
    → ((at : ℕ) (x : Entry) → at_position entries at ≡ Some x → identity_at x ≢ identity_at e)
    → IsIndexed (entries ++ e ∷ []) heads (lates ++ record { identity = identity_at e; position = length entries + 1 } ∷ [])
comes_late entries heads lates e index late new = record {
  runs = AreRuns-push entries e index.runs (λ run. absurd (false≢true (sym run ∙ late))) (λ run. absurd (false≢true (sym run ∙ late)));
  apart = AreApart-push entries e index.apart new;
  ends = record {
    long = index.ends.long;
    last = λ handheld link here. IsLastOf-beyond entries e handheld link (λ run. false≢true (sym run.0 ∙ late)) (index.ends.last handheld link here);
  };
  late =
      let place : length entries + 1 ≡ 1 + length entries = omega arith in
      ap (λ (l : List Late). l ++ record { identity = identity_at e; position = length entries + 1 } ∷ []) index.late
      ∙ ap (λ n. lates_of 1 entries ++ record { identity = identity_at e; position = n } ∷ []) place
      ∙ ap (λ (b : Bool). lates_of 1 entries ++ if_late b e (1 + length entries)) (sym late) ∙ sym (lates_of-push 1 entries e);
}

-- the last entry below a bound is the same without the last entry of the list
IsLastOf-front : (front : List Entry) (e : Entry) (handheld bound link : ℕ) → IsLastOf (front ++ e ∷ []) handheld bound link
    → IsLastOf front handheld bound link
IsLastOf-front front e handheld bound link last = record {
  within = last.within;
  in_run = λ x here. last.in_run x (at_position-push front e link x here);
  no_later = λ at x here in_run below. last.no_later at x (at_position-push front e at x here) in_run below;
}

-- the runs without the last entry
AreRuns-front : (front : List Entry) (e : Entry) → AreRuns (front ++ e ∷ []) → AreRuns front
AreRuns-front front e runs = record {
  earlier = λ at x here in_run. IsLastOf-front front e x.handheld at x.earlier (runs.earlier at x (at_position-push front e at x here) in_run);
  rise = λ p q x y here there in_run y_run below. runs.rise p q x y (at_position-push front e p x here) (at_position-push front e q y there) in_run y_run below;
}

-- the last entry of another run is the same without the last entry of the list
IsLastOf-other : (front : List Entry) (e : Entry) (handheld link : ℕ) → ¬ (IsInRun handheld e)
    → IsLastOf (front ++ e ∷ []) handheld (length (front ++ e ∷ []) + 1) link → IsLastOf front handheld (length front + 1) link
IsLastOf-other front e handheld link other last =
    let within = last.within in
    let differs : link ≢ suc (length front) = λ same. other (last.in_run e (ap (at_position (front ++ e ∷ [])) same ∙ at_position-last front e)) in
    record {
      within = omega (arith, length-append front (e ∷ []));
      in_run = λ x here. last.in_run x (at_position-push front e link x here);
      no_later = λ at x here in_run below. last.no_later at x (at_position-push front e at x here) in_run (omega (arith, length-append front (e ∷ [])));
    }

-- the index without its last entry, which was in a run
pub goes_back : (front : List Entry) (heads : List ℕ) (lates : List Late) (e : Entry) → IsIndexed (front ++ e ∷ []) heads lates → e.late ≡ false
    → IsIndexed front (set heads e.handheld e.earlier) lates
goes_back front heads lates e index in_run = record {
  runs = AreRuns-front front e index.runs;
  apart = λ p q x y here there same. index.apart p q x y (at_position-push front e p x here) (at_position-push front e q y there) same;
  ends = record {
    long = length-set heads e.handheld e.earlier ∙ index.ends.long;
    last = λ handheld link here. last handheld link (slice_get-set heads e.handheld e.earlier handheld link here);
  };
  late = index.late ∙ lates_of-push 1 front e ∙ ap (λ (b : Bool). lates_of 1 front ++ if_late b e (1 + length front)) in_run ∙ append-nil (lates_of 1 front);
}
  where
    last : (handheld link : ℕ) → ((handheld ≡ e.handheld) × (link ≡ e.earlier)) ⊎ ((handheld ≢ e.handheld) × (slice_get heads handheld ≡ Some link))
        → IsLastOf front handheld (length front + 1) link
    last handheld link (inl same) =
        let place : suc (length front) ≡ length front + 1 = omega arith in
        let before = index.runs.earlier (suc (length front)) e (at_position-last front e) in_run in
        rw (same.0, same.1) (subst (λ n. IsLastOf front e.handheld n e.earlier) place (IsLastOf-front front e e.handheld (suc (length front)) e.earlier before))
    last handheld link (inr other) = IsLastOf-other front e handheld link (λ run. other.0 (sym run.1)) (index.ends.last handheld link other.1)

-- the index without its last entry, which was late
pub late_goes_back : (front : List Entry) (heads : List ℕ) (lates : List Late) (e : Entry) → IsIndexed (front ++ e ∷ []) heads lates → e.late ≡ true
    → IsIndexed front heads (take (length lates - 1) lates) × (0 < length lates)
late_goes_back front heads lates e index late =
    let here : List Late = record { identity = identity_at e; position = 1 + length front } ∷ [] in
    let all : lates ≡ lates_of 1 front ++ here =
    index.late ∙ lates_of-push 1 front e ∙ ap (λ (b : Bool). lates_of 1 front ++ if_late b e (1 + length front)) late in
    let long : length lates ≡ length (lates_of 1 front) + 1 = ap length all ∙ length-append (lates_of 1 front) here in
    let before : length lates - 1 ≡ length (lates_of 1 front) = omega arith in (
      record {
        runs = AreRuns-front front e index.runs;
        apart = λ p q x y here there same. index.apart p q x y (at_position-push front e p x here) (at_position-push front e q y there) same;
        ends = record {
          long = index.ends.long;
          last = λ handheld link here. IsLastOf-other front e handheld link (λ run. false≢true (sym run.0 ∙ late)) (index.ends.last handheld link here);
        };
        late = ap (λ (n : ℕ). take n lates) before ∙ ap (take (length (lates_of 1 front))) all ∙ take-append_seam (lates_of 1 front) here;
      },
      omega arith,
    )

-- ---- positions in the list of identities

-- a number equals itself
eqb-same : (n : ℕ) → eqb n n ≡ true
eqb-same n = grind (arith, nat_tests)

-- the test of equal identities is true
is_identity-same : (a b : Identity) → a ≡ b → is_identity a b ≡ true
is_identity-same a b same = ap (is_identity a) (sym same) ∙ rw (eqb-same a.handheld, eqb-same a.number) refl

-- identities that pass the test are equal
same-is_identity : (a b : Identity) → is_identity a b ≡ true → a ≡ b
same-is_identity a b is =
    let handheld : a.handheld ≡ b.handheld = grind (arith, nat_tests, common_steps) in
    let number : a.number ≡ b.number = grind (arith, nat_tests, common_steps) in
    ap (λ (n : ℕ). made n a.number) handheld ∙ ap (made b.handheld) number
  where
    made : ℕ → ℕ → Identity
    made h n = record { handheld = h; number = n }

-- the position of an identity that is in the list
position_from-found : (identity : Identity) (i : ℕ) (ids : List Identity) (k : ℕ) → slice_get ids k ≡ Some identity
    → ((j : ℕ) → slice_get ids j ≡ Some identity → j ≡ k)
    → position_from (is_identity identity) i ids ≡ Some (i + k)
position_from-found identity i [] k here only = absurd cc
position_from-found identity i (x ∷ ids) zero here only =
    let place : i + 0 ≡ i = omega arith in
    rw (is_identity-same identity x (sym (same_Some x identity here)), place) refl
position_from-found identity i (x ∷ ids) (suc k) here only =
    by (is_identity identity x) refl (position_from-found identity (i + 1) ids k here (λ j there. let more = only (suc j) there in omega arith))
  where
    by : (b : Bool) → is_identity identity x ≡ b → position_from (is_identity identity) (i + 1) ids ≡ Some (i + 1 + k)
        → cond b (Some i) (position_from (is_identity identity) (i + 1) ids) ≡ Some (i + suc k)
    by true is rest = let first : 0 ≡ suc k = only 0 (ap Some (sym (same-is_identity identity x is))) in absurd (omega arith)
    by false is rest = let place : i + 1 + k ≡ i + suc k = omega arith in rest ∙ ap Some place

-- an identity that is not in the list has no position
position_from-none : (identity : Identity) (i : ℕ) (ids : List Identity) → ((j : ℕ) (x : Identity) → slice_get ids j ≡ Some x → x ≢ identity)
    → position_from (is_identity identity) i ids ≡ None
position_from-none identity i [] none = refl
position_from-none identity i (x ∷ ids) none = by (is_identity identity x) refl (position_from-none identity (i + 1) ids (λ j. none (suc j)))
  where
    by : (b : Bool) → is_identity identity x ≡ b → position_from (is_identity identity) (i + 1) ids ≡ None
        → cond b (Some i) (position_from (is_identity identity) (i + 1) ids) ≡ None
    by true is rest = absurd (none 0 x refl (sym (same-is_identity identity x is)))
    by false is rest = rest

-- an identity without a position is not in the list
none-position_from : (identity : Identity) (i : ℕ) (ids : List Identity) → position_from (is_identity identity) i ids ≡ None → (j : ℕ) (x : Identity)
    → slice_get ids j ≡ Some x → x ≢ identity
none-position_from identity i [] none j x here same = absurd cc
none-position_from identity i (y ∷ ids) none j x here same =
    by (is_identity identity y) refl none (λ rest k there. none-position_from identity (i + 1) ids rest k x there same) j here
  where
    by : (b : Bool) → is_identity identity y ≡ b → cond b (Some i) (position_from (is_identity identity) (i + 1) ids) ≡ None
        → (position_from (is_identity identity) (i + 1) ids ≡ None → (k : ℕ) → slice_get ids k ≡ Some x → ⊥) → (j : ℕ) → slice_get (y ∷ ids) j ≡ Some x → ⊥
    by true is none rest j here = cc
    by false is none rest zero here = false≢true (sym is ∙ is_identity-same identity y (sym (same_Some y x here ∙ same)))
    by false is none rest (suc j) here = rest none j here

-- the identity of an entry has the entry's position
pub position_found : (entries : List Entry) (identity : Identity) (at : ℕ) (x : Entry) → AreApart entries → at_position entries at ≡ Some x
    → identity_at x ≡ identity
    → position_in identity (map identity_at entries) ≡ Some at
position_found entries identity zero x apart here same = absurd cc
position_found entries identity (suc k) x apart here same =
    let place : 1 + k ≡ suc k = omega arith in
    position_from-found identity 1 (map identity_at entries) k (slice_get-map identity_at entries k ∙ ap (option_map identity_at) here ∙ ap Some same)
    (λ j there. only j (slice_get entries j) refl (sym (slice_get-map identity_at entries j) ∙ there)) ∙ ap Some place
  where
    only : (j : ℕ) (o : Option Entry) → slice_get entries j ≡ o → option_map identity_at o ≡ Some identity → j ≡ k
    only j None there is = absurd cc
    only j (Some y) there is =
        let equal : suc j ≡ suc k = apart (suc j) (suc k) y x there here (same_Some (identity_at y) identity is ∙ sym same) in
        omega arith

-- an identity that no entry has has no position
pub position_none : (entries : List Entry) (identity : Identity) → ((at : ℕ) (x : Entry) → at_position entries at ≡ Some x → identity_at x ≢ identity)
    → position_in identity (map identity_at entries) ≡ None
position_none entries identity none = position_from-none identity 1 (map identity_at entries)
    (λ j x there. by j x (slice_get entries j) refl (sym (slice_get-map identity_at entries j) ∙ there))
  where
    by : (j : ℕ) (x : Identity) (o : Option Entry) → slice_get entries j ≡ o → option_map identity_at o ≡ Some x → x ≢ identity
    by j x None there is same = absurd cc
    by j x (Some y) there is same = none (suc j) y there (same_Some (identity_at y) x is ∙ same)

-- an identity without a position is no entry's
pub is_new : (entries : List Entry) (identity : Identity) → position_in identity (map identity_at entries) ≡ None → (at : ℕ) (x : Entry)
    → at_position entries at ≡ Some x → identity_at x ≢ identity
is_new entries identity none zero x here same = absurd cc
is_new entries identity none (suc k) x here same =
    none-position_from identity 1 (map identity_at entries) none k identity
    (slice_get-map identity_at entries k ∙ ap (option_map identity_at) here ∙ ap Some same) refl

-- the result of a look-up among the late ones, if the identity is in no run
pub late_position : (entries : List Entry) (heads : List ℕ) (lates : List Late) (identity : Identity) (found : Option ℕ) → IsIndexed entries heads lates
    → ((at : ℕ) (x : Entry) → at_position entries at ≡ Some x → x.late ≡ false → identity_at x ≢ identity)
    → ((position : ℕ) → found ≡ Some position → (i : ℕ) × (slice_get lates i ≡ Some (record { identity = identity; position = position })))
    → (found ≡ None → (i : ℕ) (late : Late) → slice_get lates i ≡ Some late → late.identity ≢ identity) → found ≡ position_in identity (map identity_at entries)
late_position entries heads lates identity None index no_run some none = sym (position_none entries identity (λ at x here. by at x here (cases_Bool x.late)))
  where
    by : (at : ℕ) (x : Entry) → at_position entries at ≡ Some x → (x.late ≡ true) ⊎ (x.late ≡ false) → identity_at x ≢ identity
    by at x here (inr in_run) = no_run at x here in_run
    by zero x here (inl late) = λ same. absurd cc
    by (suc k) x here (inl late) =
        let have = lates_of-have 1 entries k x here late in
        none refl have.0 (record { identity = identity_at x; position = 1 + k }) (ap (λ (l : List Late). slice_get l have.0) index.late ∙ have.1)
late_position entries heads lates identity (Some position) index no_run some none =
    let found = some position refl in
    let stands = lates_of-stand 1 entries found.0 (record { identity = identity; position = position })
    (ap (λ (l : List Late). slice_get l found.0) (sym index.late) ∙ found.1) in
    let place : position ≡ 1 + stands.0 = ap (λ (l : Late). l.position) stands.3 in
    let at_place : suc stands.0 ≡ position = omega arith in
    let same : identity_at stands.1 ≡ identity = sym (ap (λ (l : Late). l.identity) stands.3) in
    sym (position_found entries identity (suc stands.0) stands.1 index.apart stands.2 same ∙ ap Some at_place)

-- the index without identities
pub nothing_indexed : (heads : List ℕ) → length heads ≡ 65_536 → ((handheld link : ℕ) → slice_get heads handheld ≡ Some link → link ≡ 0) → IsIndexed [] heads []
nothing_indexed heads long none = record {
  runs = record { earlier = λ at x here. absurd (nowhere at x here); rise = λ p q x y here. absurd (nowhere p x here) };
  apart = λ p q x y here. absurd (nowhere p x here);
  ends = record {
    long = long;
    last = λ handheld link here.
        let zero_link = none handheld link here in
        record {
          within = omega arith;
          in_run = λ x there. absurd (nowhere link x there);
          no_later = λ at x there. absurd (nowhere at x there);
        };
  };
  late = refl;
}
  where
    nowhere : (at : ℕ) (x : Entry) → at_position [] at ≡ Some x → ⊥
    nowhere zero x here = cc
    nowhere (suc i) x here = cc

-- ---- room

-- the last n + 1 entries after an entry is appended are the last n ones and the new one
last-push : (n : ℕ) (entries : List Entry) (e : Entry) → n ≤ length entries
    → drop (length (entries ++ e ∷ []) - (n + 1)) (entries ++ e ∷ []) ≡ drop (length entries - n) entries ++ e ∷ []
last-push n entries e within =
    let place : length (entries ++ e ∷ []) - (n + 1) ≡ length entries - n = omega (arith, length-append entries (e ∷ [])) in
    ap (λ k. drop k (entries ++ e ∷ [])) place ∙ drop-append-le (length entries - n) entries (e ∷ []) (omega arith)

-- the number of run entries among the last ones, after an entry is appended
pub runs_among-push : (n : ℕ) (entries : List Entry) (e : Entry) → n ≤ length entries
    → runs_among (n + 1) (entries ++ e ∷ []) ≡ runs_among n entries + cond e.late 0 1
runs_among-push n entries e within =
    let one = one_of (cases_Bool e.late) in
    let parts = sum_by-append (λ (x : Entry). cond (not x.late) 1 0) (drop (length entries - n) entries) (e ∷ []) in
    ap (count_by (λ (x : Entry). not x.late)) (last-push n entries e within) ∙ parts ∙ ap (λ k. runs_among n entries + k) one
  where
    one_of : (e.late ≡ true) ⊎ (e.late ≡ false) → sum_by (λ (x : Entry). cond (not x.late) 1 0) (e ∷ []) ≡ cond e.late 0 1
    one_of (inl late) = rw late refl
    one_of (inr in_run) = rw in_run refl

-- an entry that continues its run uses room, and the late ones keep theirs
pub room_goes_on : (entries : List Entry) (room fresh late_room : ℕ) (e : Entry) → IsRoomy entries room fresh late_room → e.late ≡ false → 0 < room
    → IsRoomy (entries ++ e ∷ []) (room - 1) (fresh + 1) late_room
room_goes_on entries room fresh late_room e roomy in_run some =
    let count : runs_among (fresh + 1) (entries ++ e ∷ []) ≡ runs_among fresh entries + 1 = runs_among-push fresh entries e roomy.within
    ∙ ap (λ (b : Bool). runs_among fresh entries + cond b 0 1) in_run in
    record { within = omega (arith, roomy.within, length-append entries (e ∷ [])); room = omega (arith, roomy.room) }

-- a late entry uses room of both
pub room_comes_late : (entries : List Entry) (room fresh late_room late_room' : ℕ) (e : Entry) → IsRoomy entries room fresh late_room → e.late ≡ true
    → 0 < room → late_room' + 1 ≡ late_room
    → IsRoomy (entries ++ e ∷ []) (room - 1) (fresh + 1) late_room'
room_comes_late entries room fresh late_room late_room' e roomy late some takes =
    let count : runs_among (fresh + 1) (entries ++ e ∷ []) ≡ runs_among fresh entries + 0 = runs_among-push fresh entries e roomy.within
    ∙ ap (λ (b : Bool). runs_among fresh entries + cond b 0 1) late in
    record { within = omega (arith, roomy.within, length-append entries (e ∷ [])); room = omega (arith, roomy.room) }

-- no run entry is among the last 0 entries
runs_among-none : (entries : List Entry) → runs_among 0 entries ≡ 0
runs_among-none entries = ap (count_by (λ (x : Entry). not x.late)) (drop_all (length entries - 0) entries (omega arith))

-- a removed entry frees its room, if it was added since room was made
pub room_goes_back : (front : List Entry) (room fresh late_room late_room' : ℕ) (e : Entry) → IsRoomy (front ++ e ∷ []) room fresh late_room
    → late_room' ≡ late_room + cond e.late 1 0
    → IsRoomy front (room + min fresh 1) (fresh - min fresh 1) late_room'
room_goes_back front room zero late_room late_room' e roomy gives = by e.late gives
  where
    by : (late : Bool) → late_room' ≡ late_room + cond late 1 0 → IsRoomy front (room + 0) 0 late_room'
    by true gives = record { within = omega arith; room = omega (arith, roomy.room, runs_among-none front) }
    by false gives = record { within = omega arith; room = omega (arith, roomy.room, runs_among-none front) }
room_goes_back front room (suc n) late_room late_room' e roomy gives =
    let within : n ≤ length front = omega (arith, roomy.within, length-append front (e ∷ [])) in
    let same : suc n ≡ n + 1 = omega arith in
    let count : runs_among (suc n) (front ++ e ∷ []) ≡ runs_among n front + cond e.late 0 1 = ap (λ k. runs_among k (front ++ e ∷ [])) same
    ∙ runs_among-push n front e within in
    let one : min (suc n) 1 ≡ 1 = omega arith in
    let before : suc n - 1 ≡ n = omega arith in
    rw (one, before) (by e.late within count gives)
  where
    by : (late : Bool) → n ≤ length front → runs_among (suc n) (front ++ e ∷ []) ≡ runs_among n front + cond late 0 1 → late_room' ≡ late_room + cond late 1 0
        → IsRoomy front (room + 1) n late_room'
    by true within count gives = record { within = within; room = omega (arith, roomy.room) }
    by false within count gives = record { within = within; room = omega (arith, roomy.room) }

-- ---- the same, from the fields of the index

-- each element of a list of zeros is 0
slice_get-replicate : (n : ℕ) (k x : ℕ) → slice_get (replicate n 0) k ≡ Some x → x ≡ 0
slice_get-replicate n k x here =
    let within = slice_get_within (replicate n 0) k x here in
    sym (get_or_from_slice_get (replicate n 0) k x 0 here) ∙ get_or-replicate n k 0 0 (omega (arith, length-replicate {A = ℕ} n 0))

-- no room is always there
pub roomy_none : (entries : List Entry) (late_room : ℕ) → IsRoomy entries 0 0 late_room
roomy_none entries late_room = record { within = omega arith; room = omega (arith, runs_among-none entries) }

-- the new index
pub starts : (entries : List Entry) (heads : List ℕ) (lates : List Late) → entries ≡ [] → heads ≡ replicate 65_536 0 → lates ≡ []
    → IsIndexed entries heads lates
starts entries heads lates no_entry zeros no_late =
    rw (no_entry, zeros, no_late) (nothing_indexed (replicate 65_536 0) (length-replicate {A = ℕ} 65_536 0)
    (λ handheld link. slice_get-replicate 65_536 handheld link))

-- the index after a push that continues a run
pub pushed_on : (entries entries' : List Entry) (heads heads' : List ℕ) (lates : List Late) (identity : Identity) (e : Entry) (head position : ℕ)
    → IsIndexed entries heads lates
    → identity_at e ≡ identity → e.late ≡ false → e.earlier ≡ head → slice_get heads identity.handheld ≡ Some head
    → ((last : Entry) → at_position entries head ≡ Some last → last.number < identity.number) → position_in identity (map identity_at entries) ≡ None
    → entries' ≡ entries ++ e ∷ [] → position ≡ length entries + 1 → heads' ≡ set heads identity.handheld position → IsIndexed entries' heads' lates
pushed_on entries entries' heads heads' lates identity e head position index same in_run earlier here above new items_are position_is heads_are =
    let handheld : e.handheld ≡ identity.handheld = ap (λ (i : Identity). i.handheld) same in
    let number : e.number ≡ identity.number = ap (λ (i : Identity). i.number) same in
    let index' = goes_on entries heads lates e index in_run (ap (slice_get heads) handheld ∙ here ∙ ap Some (sym earlier))
    (λ last there. rw number (above last (ap (at_position entries) (sym earlier) ∙ there)))
    (λ at x there is. is_new entries identity new at x there (is ∙ same)) in
    rw (items_are, heads_are, ← handheld, position_is) index'

-- the index after a push of a late identity
pub pushed_late : (entries entries' : List Entry) (heads : List ℕ) (lates lates' : List Late) (identity : Identity) (position : ℕ)
    → IsIndexed entries heads lates
    → position_in identity (map identity_at entries) ≡ None → entries' ≡ entries ++ late_entry identity ∷ [] → position ≡ length entries + 1
    → lates' ≡ lates ++ record { identity = identity; position = position } ∷ [] → IsIndexed entries' heads lates'
pushed_late entries entries' heads lates lates' identity position index new items_are position_is lates_are =
    rw (items_are, lates_are, position_is) (comes_late entries heads lates (late_entry identity) index refl (is_new entries identity new))

-- there are at most as many late ones as entries
pub no_more_late : (entries : List Entry) (heads : List ℕ) (lates : List Late) → IsIndexed entries heads lates → length lates ≤ length entries
no_more_late entries heads lates index = rw index.late (length-lates_of 1 entries)
