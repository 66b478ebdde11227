use Rattle.std.proofs.Common.{◌≡◌, ℕ, zero, suc, ◌+◌, ◌<◌, ◌≤◌, Vec, Some, None, List, [], ◌∷◌, ◌++◌, length, slice_get, refl, sym, ap, ◌∙◌, inl, inr, arith}
use Rattle.std.specs.List.{insert}
use Rattle.std.proofs.lemmas.Bool.{cases_eq, eq-eqb, ne_eqb}
use Rattle.list_words.specs.Order.{put_in_order}
use Rattle.list_words.proofs.Members.{all_weaker}
use Rattle.fact_kinds.specs.declared.key.Key.{Key}
use Rattle.fact_kinds.specs.Facts.{Entry, goes_first}
use Rattle.fact_kinds.specs.Stated.{Stated}
use Rattle.fact_store.specs.declared.place.Place.{Place}
use Rattle.fact_store.specs.Kept.{entries_at}
use Rattle.fact_store.specs.Lists.{items_in, PutsIn}
use Rattle.fact_store.specs.Takes.{AreHeld, CanTake, Takes}
use Rattle.fact_store.proofs.PlaceLemmas.{stands}

-- an appended fact leaves the others at their places
get_kept : (arrived : List Entry) (e : Entry) (i : ℕ) → i < length arrived → slice_get (arrived ++ e ∷ []) i ≡ slice_get arrived i
get_kept [] e i within = absurd (omega arith)
get_kept (x ∷ xs) e zero within = refl
get_kept (x ∷ xs) e (suc i) within = get_kept xs e i (omega arith)

-- .. and is at the last place
get_last : (arrived : List Entry) (e : Entry) → slice_get (arrived ++ e ∷ []) (length arrived) ≡ Some e
get_last [] e = refl
get_last (x ∷ xs) e = get_last xs e

-- an appended fact does not change the facts at some places
pub entries_at-kept : (arrived : List Entry) (e : Entry) (places : List Place) → AreHeld (length arrived) places
    → entries_at (arrived ++ e ∷ []) places ≡ entries_at arrived places
entries_at-kept arrived e [] held = refl
entries_at-kept arrived e (p ∷ ps) held = rw (get_kept arrived e p.at held.0, entries_at-kept arrived e ps held.1) refl

-- appending its place appends the fact
pub entries_at-push : (arrived : List Entry) (e : Entry) (place : Place) (places : List Place) → place.at ≡ length arrived
    → AreHeld (length arrived) places → entries_at (arrived ++ e ∷ []) (places ++ place ∷ []) ≡ entries_at arrived places ++ e ∷ []
entries_at-push arrived e place [] new held = rw (new, get_last arrived e) refl
entries_at-push arrived e place (p ∷ ps) new held =
    let here = stands arrived p.at held.0 in
    let same = get_kept arrived e p.at held.0 ∙ here.1 in
    rw (same, here.1) (ap (λ es. here.0 ∷ es) (entries_at-push arrived e place ps new held.1))

-- inserting its place inserts the fact
pub entries_at-insert : (arrived : List Entry) (e : Entry) (place : Place) (places : List Place) (n : ℕ) → place.at ≡ length arrived
    → AreHeld (length arrived) places → n ≤ length places
    → entries_at (arrived ++ e ∷ []) (insert places n place) ≡ insert (entries_at arrived places) n e
entries_at-insert arrived e place [] zero new held within = rw (new, get_last arrived e) refl
entries_at-insert arrived e place [] (suc n) new held within = absurd (omega arith)
entries_at-insert arrived e place (p ∷ ps) zero new held within = rw (new, get_last arrived e) (ap (λ es. e ∷ es) (entries_at-kept arrived e (p ∷ ps) held))
entries_at-insert arrived e place (p ∷ ps) (suc n) new held within =
    let here = stands arrived p.at held.0 in
    let same = get_kept arrived e p.at held.0 ∙ here.1 in
    rw (same, here.1) (ap (λ es. here.0 ∷ es) (entries_at-insert arrived e place ps n new held.1 (omega arith)))

-- places of `count` facts are places of one more
pub held_more : (count : ℕ) (places : List Place) → AreHeld count places → AreHeld (count + 1) places
held_more count places held = all_weaker (λ p. p.at < count) (λ p. p.at < count + 1) (λ p within. omega arith) places held

-- inserted places are places of one more fact
pub held_insert : (count : ℕ) (place : Place) (places : List Place) (n : ℕ) → place.at ≡ count → AreHeld count places → n ≤ length places
    → AreHeld (count + 1) (insert places n place)
held_insert count place [] zero new held within = (omega arith, tt)
held_insert count place [] (suc n) new held within = absurd (omega arith)
held_insert count place (p ∷ ps) zero new held within = (omega arith, held_more count (p ∷ ps) held)
held_insert count place (p ∷ ps) (suc n) new held within = (omega (arith, held.0), held_insert count place ps n new held.1 (omega arith))

-- a fact without a number changes no list
pub takes_none : {Z : Type 0} (arrived : List Entry) (key : Key) (lists : List (Vec Place Z)) → CanTake arrived None lists → Takes arrived None key lists lists
takes_none arrived key lists can =
    record {
      held = λ n. held_more (length arrived) (items_in lists n) (can.held n);
      listed = λ n fact. entries_at-kept arrived (key, fact) (items_in lists n) (can.held n);
      room = λ n. omega arith;
    }

-- the list of the number receives the place in key order
pub takes_put : {Z : Type 0} (arrived : List Entry) (number : ℕ) (key : Key) (old new : List (Vec Place Z)) (index : ℕ) (place : Place)
    → CanTake arrived (Some number) old → place.at ≡ length arrived → index ≤ length (items_in old number)
    → ((fact : Stated) → put_in_order goes_first (key, fact) (entries_at arrived (items_in old number)) ≡ insert
    (entries_at arrived (items_in old number)) index (key, fact))
    → PutsIn number index place old new → Takes arrived (Some number) key old new
takes_put arrived number key old new index place can at_end within belongs puts =
    record {
      held = λ n. rw (puts.items n)
          (elim (cases_eq number n) [
            | inl e ↦ rw (eq-eqb number n e, sym e) (held_insert (length arrived) place (items_in old number) index at_end (can.held number) within)
            | inr other ↦ rw (ne_eqb number n other) (held_more (length arrived) (items_in old n) (can.held n))
          ]);
      listed = λ n fact. rw (puts.items n)
          (elim (cases_eq number n) [
            | inl e ↦ rw (eq-eqb number n e, sym e)
                (entries_at-insert arrived (key, fact) place (items_in old number) index at_end (can.held number) within ∙ sym (belongs fact))
            | inr other ↦ rw (ne_eqb number n other) (entries_at-kept arrived (key, fact) (items_in old n) (can.held n))
          ]);
      room = puts.room;
    }
