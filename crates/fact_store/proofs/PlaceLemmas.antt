use Rattle.std.proofs.Common.{◌≡◌, ℕ, zero, suc, ◌<◌, ◌≤◌, true, false, not, Some, List, [], ◌∷◌, length, get_or, slice_get, refl, sym, ap, ◌∙◌, inl, inr}
use Rattle.std.proofs.Common.{arith}
use Rattle.std.specs.List.{AllByRecursion, AllWithin, insert}
use Rattle.std.specs.List.Sorted.{IsPartitionedBy}
use Rattle.std.proofs.lemmas.Bool.{cases_Bool, not-true, not-false, false≢true}
use Rattle.list_words.specs.Order.{put_in_order, Ascends}
use Rattle.fact_kinds.specs.declared.key.Key.{Key}
use Rattle.fact_kinds.specs.Facts.{Entry, is_earlier, goes_first}
use Rattle.fact_kinds.specs.Stated.{Stated}
use Rattle.fact_kinds.proofs.KeyOrder.{strict_earlier}
use Rattle.fact_store.specs.declared.place.Place.{Place}
use Rattle.fact_store.specs.Kept.{entries_at}
use Rattle.fact_store.specs.Takes.{AreHeld, is_up_to}

-- there is a fact at each place within the list
pub stands : (arrived : List Entry) (i : ℕ) → i < length arrived → (e : Entry) × (slice_get arrived i ≡ Some e)
stands [] i within = absurd (omega arith)
stands (x ∷ xs) zero within = (x, refl)
stands (x ∷ xs) (suc i) within = stands xs i (omega arith)

-- the fact at the first of some places, then the others
pub entries_at-cons : (arrived : List Entry) (place : Place) (places : List Place) (e : Entry) → slice_get arrived place.at ≡ Some e
    → entries_at arrived (place ∷ places) ≡ e ∷ entries_at arrived places
entries_at-cons arrived place places e here = rw here refl

-- what holds of the facts at some places holds of the fact at each
entry_there : (P : Entry → Type 0) (arrived : List Entry) (places : List Place) (j : ℕ) (d : Place) → AreHeld (length arrived) places
    → AllByRecursion P (entries_at arrived places) → j < length places → (e : Entry) × (slice_get arrived (get_or places j d).at ≡ Some e) × P e
entry_there P arrived [] j d held all within = absurd (omega arith)
entry_there P arrived (p ∷ ps) zero d held all within =
    let here = stands arrived p.at held.0 in
    (here.0, here.1, (rw here.1 at all).0)
entry_there P arrived (p ∷ ps) (suc j) d held all within =
    let here = stands arrived p.at held.0 in
    entry_there P arrived ps j d held.1 (rw here.1 at all).1 (omega arith)

-- a key that is not before a later one is not before an earlier one
not_later : (key a b : Key) → is_earlier a b ≡ true → is_earlier key b ≡ false → is_earlier key a ≡ false
not_later key a b e no_earlier =
    elim (cases_Bool (is_earlier key a)) [
      | inl t ↦ absurd (false≢true (sym no_earlier ∙ (strict_earlier {X = Key} (λ k. k)).transitive key a b t e))
      | inr f ↦ f
    ]

-- the facts that are not later than a key are a prefix
pub up_to_in_front : (arrived : List Entry) (key : Key) (places : List Place) → AreHeld (length arrived) places
    → Ascends goes_first (entries_at arrived places) → IsPartitionedBy (is_up_to arrived key) places
up_to_in_front arrived key [] held up i j d le within t = absurd (omega arith)
up_to_in_front arrived key (p ∷ ps) held up zero zero d le within t = t
up_to_in_front arrived key (p ∷ ps) held up zero (suc j) d le within t =
    let here = stands arrived p.at held.0 in
    let rises : Ascends goes_first (here.0 ∷ entries_at arrived ps) = rw here.1 at up in
    let there = entry_there (λ e. goes_first here.0 e ≡ true) arrived ps j d held.1 rises.0 (omega arith) in
    let earlier : is_earlier key there.0.0 ≡ false = not-true (is_earlier key there.0.0) (rw there.1 at t) in
    rw here.1 (ap not (not_later key here.0.0 there.0.0 there.2 earlier))
up_to_in_front arrived key (p ∷ ps) held up (suc i) zero d le within t = absurd (omega arith)
up_to_in_front arrived key (p ∷ ps) held up (suc i) (suc j) d le within t =
    let here = stands arrived p.at held.0 in
    let rises : Ascends goes_first (here.0 ∷ entries_at arrived ps) = rw here.1 at up in
    up_to_in_front arrived key ps held.1 rises.1 i j d (omega arith) (omega arith) t

-- an insertion by key goes after the facts that are not later
pub put_behind : (arrived : List Entry) (key : Key) (fact : Stated) (places : List Place) (n : ℕ) → AreHeld (length arrived) places → n ≤ length places
    → AllWithin (λ p. is_up_to arrived key p ≡ true) places 0 n → AllWithin (λ p. is_up_to arrived key p ≡ false) places n (length places)
    → put_in_order goes_first (key, fact) (entries_at arrived places) ≡ insert (entries_at arrived places) n (key, fact)
put_behind arrived key fact [] zero held within front rest = refl
put_behind arrived key fact [] (suc n) held within front rest = absurd (omega arith)
put_behind arrived key fact (p ∷ ps) zero held within front rest =
    let here = stands arrived p.at held.0 in
    let later : is_earlier key here.0.0 ≡ true = not-false (is_earlier key here.0.0) (rw here.1 at (rest 0 p (omega arith) (omega arith))) in
    rw (here.1, later) refl
put_behind arrived key fact (p ∷ ps) (suc n) held within front rest =
    let here = stands arrived p.at held.0 in
    let earlier : is_earlier key here.0.0 ≡ false = not-true (is_earlier key here.0.0) (rw here.1 at (front 0 p (omega arith) (omega arith))) in
    rw (here.1, earlier)
    (ap (λ es. here.0 ∷ es) (put_behind arrived key fact ps n held.1 (omega arith) (λ k d low high. front (suc k) d (omega arith) (omega arith))
    (λ k d low high. rest (suc k) d (omega arith) (omega arith))))
