use Rattle.std.proofs.Common.{◌≡◌, ℕ, ◌≤◌, ◌<◌, true, nat_le, IsTrue, List, ◌∷◌, ◌++◌, filter, take_while, refl, subst, arith}
use Rattle.std.specs.Ordering.{is_lt, nat_cmp, ordering_then, MatchOrdering}
use Rattle.std.specs.declared.cmp.Ordering.{Ordering}
use Rattle.std.specs.declared.cmp.Ordering.TheVariants.{Less, Equal, Greater}
use Rattle.std.proofs.lemmas.Cmp.{ranked}
use Rattle.std.proofs.lemmas.Bool.{leb-true, le-leb}
use Rattle.list_words.specs.Order.{Ascends}
use Rattle.list_words.proofs.CutLemmas.{later_of_cut, earlier_of_cut, front_is_cut}
use Rattle.fact_kinds.specs.declared.batch.Batch.{Batch}
use Rattle.fact_kinds.specs.declared.key.Key.{Key}
use Rattle.fact_kinds.specs.Facts.{Entry, is_earlier, goes_first, facts_of, facts_to}
use Rattle.fact_kinds.specs.Identity.{identities_differ}
use Rattle.fact_kinds.proofs.KeyOrder.{strict_goes_first}
use Rattle.fact_kinds.proofs.OrderFree.{facts_ascend}

-- if two comparisons together say less, the first part is at most the other
no_later : (x y : ℕ) (o p : Ordering) → MatchOrdering o (x < y) (x ≡ y) (y < x) → is_lt (ordering_then o p) ≡ true → x ≤ y
no_later x y Less p ranks e = omega arith
no_later x y Equal p ranks e = omega arith
no_later x y Greater p ranks e = cc

-- an earlier key has no later day
pub earlier_day : (a b : Key) → is_earlier a b ≡ true → a.day ≤ b.day
earlier_day a b e = no_later a.day b.day (nat_cmp a.day b.day) _ (ranked a.day b.day (nat_cmp a.day b.day) refl) e

-- the facts up to a view day are a prefix of all facts
pub view_day_cuts : (day : ℕ) (history : List Batch) → IsTrue (identities_differ history)
    → facts_to day history ≡ take_while (λ e. nat_le e.0.day day) (facts_of history)
view_day_cuts day history differ =
    front_is_cut goes_first (λ e. nat_le e.0.day day) (facts_of history) (facts_ascend history differ)
    (λ x y earlier within. le-leb x.0.day day (omega (arith, earlier_day x.0 y.0 earlier, leb-true y.0.day day within)))

-- a fact has the facts with earlier keys before it and those with later keys after it
pub cut_of_facts : (history : List Batch) (earlier : List Entry) (entry : Entry) (later : List Entry) → IsTrue (identities_differ history)
    → facts_of history ≡ earlier ++ entry ∷ later → (filter (λ e. is_earlier e.0 entry.0) (facts_of history) ≡ earlier) ×
    (filter (λ e. is_earlier entry.0 e.0) (facts_of history) ≡ later)
cut_of_facts history earlier entry later differ cut =
    let up : Ascends goes_first (earlier ++ entry ∷ later) = subst (Ascends goes_first) cut (facts_ascend history differ) in
    rw cut (earlier_of_cut goes_first strict_goes_first earlier entry later up, later_of_cut goes_first strict_goes_first earlier entry later up)
