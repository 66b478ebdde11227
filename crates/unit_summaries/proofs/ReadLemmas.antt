-- The facts of a store, read list by list.
use Rattle.std.proofs.Common.{◌≡◌, ℕ, zero, suc, ◌+◌, ◌<◌, Bool, true, Option, Some, None, List, [], ◌∷◌, ◌++◌, length, take, filter, get_or, slice_get, refl, sym, ap, ◌∙◌, subst, arith}
use Rattle.std.specs.Prelude.{All}
use Rattle.std.specs.List.{AllByRecursion, cons_option, filter_map}
use Rattle.std.proofs.lemmas.List.{take_more}
use Rattle.std.proofs.lemmas.List.Elements.{filter_map-append, recursion_from_All}
use Rattle.list_words.specs.Order.{Ascends}
use Rattle.list_words.proofs.PutLemmas.{ascends_filter}
use Rattle.fact_kinds.specs.declared.class.Class.{Class}
use Rattle.fact_kinds.specs.declared.key.Key.{Key}
use Rattle.fact_kinds.specs.Facts.{Entry, goes_first, is_earlier}
use Rattle.fact_kinds.proofs.KeyOrder.{strict_goes_first}
use Rattle.fact_store.specs.declared.place.Place.{Place}
use Rattle.fact_store.specs.Kept.{entries_at}
use Rattle.history_laws.proofs.RegisterUpTo.{election_is}
use Rattle.ldar_law.specs.declared.election.ElectionEntry.{ElectionEntry}
use Rattle.ldar_law.specs.Equipment.{class_at, classes_of, election_entered, elections_of}
use Rattle.ldar_law.proofs.ForceLemmas.{class_keyed}

-- with the fact at the next place
pub read_more : (arrived : List Entry) (places : List Place) (i : ℕ) (d : Place) (e : Entry) → i < length places
    → slice_get arrived (get_or places i d).at ≡ Some e → entries_at arrived (take (i + 1) places) ≡ entries_at arrived (take i places) ++ e ∷ []
read_more arrived places i d e within here =
    ap (entries_at arrived) (take_more places i d within)
    ∙ filter_map-append (λ p. slice_get arrived p.at) (take i places) (get_or places i d ∷ [])
    ∙ ap (λ o. entries_at arrived (take i places) ++ cons_option o []) here

some_at : {X : Type 0} (i : ℕ) (xs : List X) → i < length xs → (x : X) × (slice_get xs i ≡ Some x)
some_at i [] within = absurd (omega (arith, within))
some_at zero (x ∷ xs) within = (x, refl)
some_at (suc i) (x ∷ xs) within = some_at i xs (omega (arith, within))

-- there is a fact at each place
all_read : (arrived : List Entry) (places : List Place) → AllByRecursion (λ place. place.at < length arrived) places
    → length (entries_at arrived places) ≡ length places
all_read arrived [] held = refl
all_read arrived (place ∷ places) held =
    let found = some_at place.at arrived held.0 in
    ap (λ o. length (cons_option o (entries_at arrived places))) found.1 ∙ ap suc (all_read arrived places held.1)

pub as_many : (arrived : List Entry) (places : List Place) → All (λ place. place.at < length arrived) places
    → length (entries_at arrived places) ≡ length places
as_many arrived places held = all_read arrived places (recursion_from_All (λ place. place.at < length arrived) places held)

-- a part of facts in order is in order
pub part_ascends : (test : Entry → Bool) (facts : List Entry) → Ascends goes_first facts → Ascends goes_first (filter test facts)
part_ascends test facts up = ascends_filter goes_first strict_goes_first test facts up

-- what the facts give with their keys is in key order as they are
module _ {X : Type 0} (key : X → Key) (f : Entry → Option X) (keyed : (e : Entry) (x : X) → f e ≡ Some x → key x ≡ e.0) where
  given_later : (first : Key) (es : List Entry) → AllByRecursion (λ e. is_earlier first e.0 ≡ true) es
      → AllByRecursion (λ x. is_earlier first (key x) ≡ true) (filter_map f es)
  given_later first [] later = tt
  given_later first (e ∷ es) later =
      elim (f e) as (λ o. f e ≡ o → AllByRecursion (λ x. is_earlier first (key x) ≡ true) (cons_option o (filter_map f es))) [
        | None ↦ λ is. given_later first es later.1
        | Some x ↦ λ is. (ap (is_earlier first) (keyed e x is) ∙ later.0, given_later first es later.1)
      ] refl

  pub given_in_order : (es : List Entry) → Ascends goes_first es → Ascends (λ a b. is_earlier (key a) (key b)) (filter_map f es)
  given_in_order [] up = tt
  given_in_order (e ∷ es) up =
      elim (f e) as (λ o. f e ≡ o → Ascends (λ a b. is_earlier (key a) (key b)) (cons_option o (filter_map f es))) [
        | None ↦ λ is. given_in_order es up.1
        | Some x ↦ λ is. (
          subst (λ k. AllByRecursion (λ y. is_earlier k (key y) ≡ true) (filter_map f es)) (sym (keyed e x is)) (given_later e.0 es up.0),
          given_in_order es up.1,
        )
      ] refl

-- the classes of a component
pub classes_in_order : (number : ℕ) (es : List Entry) → Ascends goes_first es → Ascends (λ a b. is_earlier a.0 b.0) (classes_of number es)
classes_in_order number = given_in_order (λ (entered : Key × Class). entered.0) (class_at number) (class_keyed number)

-- the elections of a process unit
pub elections_in_order : (number : ℕ) (es : List Entry) → Ascends goes_first es → Ascends (λ a b. is_earlier a.key b.key) (elections_of number es)
elections_in_order number =
    given_in_order (λ (election : ElectionEntry). election.key) (λ e. election_entered number e.0 e.1.body) (λ e x is. election_is number e.0 e.1.body x is)
