-- Keys that no fact of some has, and identities of batches.
use Rattle.std.proofs.Common.{◌≡◌, ℕ, ◌+◌, Bool, true, false, ◌&&◌, ◌||◌, ◌==◌, not, IsTrue, None, is_some, List, [], ◌∷◌, ◌++◌, filter, refl, sym, ap, ◌∙◌}
use Rattle.std.proofs.Common.{subst, inl, inr, arith}
use Rattle.std.specs.List.{AllByRecursion, list_any, position_from, flat_map}
use Rattle.std.proofs.lemmas.Bool.{cases_Bool}
use Rattle.std.proofs.lemmas.Bool.Decides.{nat_tests}
use Rattle.std.proofs.lemmas.Grind.{common_steps}
use Rattle.std.proofs.lemmas.List.{append-nil}
use Rattle.std.proofs.lemmas.List.Concat.{flat_map-append}
use Rattle.std.proofs.lemmas.List.Folds.{list_any-append}
use Rattle.list_words.specs.Order.{AllApart}
use Rattle.list_words.proofs.Members.{Among, all_at, all_from_among}
use Rattle.fact_kinds.specs.declared.batch.Batch.{Batch}
use Rattle.fact_kinds.specs.declared.key.Key.{Key}
use Rattle.fact_kinds.specs.Facts.{Entry, goes_first, entries_of}
use Rattle.fact_kinds.specs.Identity.{identity_of, is_same_identity, identities_differ, position_of}
use Rattle.fact_kinds.proofs.Identities.{history_apart}
use Rattle.fact_kinds.proofs.KeyOrder.{no_tie}
use Rattle.fact_store.specs.Kept.{is_held}

-- a property of all elements of two joined lists is one of all elements of the second
pub all_behind : {X : Type 0} (P : X → Type 0) (xs ys : List X) → AllByRecursion P (xs ++ ys) → AllByRecursion P ys
all_behind P [] ys all = all
all_behind P (x ∷ xs) ys all = all_behind P xs ys all.1

-- .. and of each of the first
pub all_before : {X : Type 0} (P : X → Type 0) (xs ys : List X) → AllByRecursion P (xs ++ ys) → AllByRecursion P xs
all_before P [] ys all = tt
all_before P (x ∷ xs) ys all = (all.0, all_before P xs ys all.1)

-- an entry that is apart from some has a key of its own
apart_is_new : (xs : List Entry) (e : Entry) → AllByRecursion (λ x. (goes_first x e || goes_first e x) ≡ true) xs → is_held e.0 xs ≡ false
apart_is_new [] e apart = refl
apart_is_new (x ∷ xs) e apart =
    let tie = no_tie x.0 e.0 apart.0 in
    let rest = apart_is_new xs e apart.1 in
    rw (tie, rest) refl

-- if all entries differ, those of the first part differ from each of the second
apart_before : (xs ys : List Entry) (e : Entry) → AllApart goes_first (xs ++ ys) → Among ys e
    → AllByRecursion (λ x. (goes_first x e || goes_first e x) ≡ true) xs
apart_before [] ys e apart among = tt
apart_before (x ∷ xs) ys e apart among = (
  all_at (λ y. (goes_first x y || goes_first y x) ≡ true) ys e (all_behind (λ y. (goes_first x y || goes_first y x) ≡ true) xs ys apart.0) among,
  apart_before xs ys e apart.1 among,
)

-- .. so none of the first part has a key of the second
pub none_held : (xs ys : List Entry) → AllApart goes_first (xs ++ ys) → AllByRecursion (λ e. is_held e.0 xs ≡ false) ys
none_held xs ys apart = all_from_among (λ e. is_held e.0 xs ≡ false) ys (λ e among. apart_is_new xs e (apart_before xs ys e apart among))

-- a key that no entry has is none of a part of them
pub none_held_of_part : (p : Entry → Bool) (key : Key) (xs : List Entry) → is_held key xs ≡ false → is_held key (filter p xs) ≡ false
none_held_of_part p key [] none = refl
none_held_of_part p key (x ∷ xs) none =
    elim (cases_Bool (p x)) [
      | inl passes ↦ rw passes (grind (arith, common_steps, none_held_of_part p key xs))
      | inr fails ↦ rw fails (grind (arith, common_steps, none_held_of_part p key xs))
    ]

-- the entries of a batch are apart
pub batch_apart : (batch : Batch) → AllApart goes_first (entries_of batch)
batch_apart batch = subst (AllApart goes_first) (append-nil (entries_of batch)) (history_apart (batch ∷ []) refl)

-- the entries of a history and one batch more
pub entries_more : (history : List Batch) (batch : Batch) → flat_map entries_of (history ++ batch ∷ []) ≡ flat_map entries_of history ++ entries_of batch
entries_more history batch =
    flat_map-append entries_of history (batch ∷ []) ∙ ap (λ es. flat_map entries_of history ++ es) (append-nil (entries_of batch))

-- there is a place where some element passes
is_some-position_from : {X : Type 0} (p : X → Bool) (i : ℕ) (xs : List X) → is_some (position_from p i xs) ≡ list_any p xs
is_some-position_from p i [] = refl
is_some-position_from p i (x ∷ xs) = let rest = is_some-position_from p (i + 1) xs in grind (arith, common_steps)

==-swap : (a b : ℕ) → (a == b) ≡ (b == a)
==-swap a b = grind (arith, nat_tests)

-- one identity is the same whichever batch is named first
is_same_identity-swap : (a b : Batch) → is_same_identity a b ≡ is_same_identity b a
is_same_identity-swap a b = rw (==-swap a.handheld b.handheld, ==-swap a.number b.number) refl

identities_differ-push : (xs : List Batch) (y : Batch) → identities_differ (xs ++ y ∷ []) ≡ (identities_differ xs && not (list_any (is_same_identity y) xs))
identities_differ-push [] y = refl
identities_differ-push (x ∷ xs) y =
    let rest = identities_differ-push xs y in
    let any = list_any-append (is_same_identity x) xs (y ∷ []) in
    let swapped = is_same_identity-swap x y in
    grind (arith, common_steps)

-- identities differ with one batch more, where none of the others has its identity
pub identities_more : (history : List Batch) (batch : Batch) → IsTrue (identities_differ history) → position_of (identity_of batch) history ≡ None
    → IsTrue (identities_differ (history ++ batch ∷ []))
identities_more history batch differ new =
    let none : list_any (is_same_identity batch) history ≡ false = sym (is_some-position_from (is_same_identity batch) 1 history) ∙ ap is_some new in
    identities_differ-push history batch ∙ rw (none, differ) refl
