-- The batches of a journal, adopted one after the other until one is denied.
use Rattle.std.proofs.Common.{◌≡◌, ℕ, ◌+◌, ◌<◌, ◌≤◌, true, false, Option, Some, None, is_some, List, [], ◌∷◌, ◌++◌, length, take, drop, get_or, refl, sym}
use Rattle.std.proofs.Common.{◌∙◌, ap, subst, arith, append_assoc}
use Rattle.std.specs.Prelude.{IsTrue, slice_get}
use Rattle.std.specs.Option.{option_map}
use Rattle.std.proofs.lemmas.Bool.{false≢true}
use Rattle.std.proofs.lemmas.List.{drop-drop, drop_all, take_all}
use Rattle.list_words.proofs.WordLaws.{first_given_is_first}
use Rattle.fact_kinds.specs.declared.batch.Batch.{Batch}
use Rattle.fact_kinds.specs.Facts.{Entry, entries_of, facts_of}
use Rattle.fact_kinds.proofs.OrderFree.{facts_count}
use Rattle.ldar_journal.specs.Image.{batches_of, IsKept}
use Rattle.ldar_journal.proofs.Histories.{batches_of-push}
use Rattle.ldar_journal.proofs.KeepingLemmas.{next_one}
use Rattle.ldar_journal.proofs.Positions.{fact_count-push}
use Rattle.ldar_law.specs.declared.verdict.Verdict.TheVariants.{Pass, Denied}
use Rattle.ldar_law.specs.Machine.{IsNew}
use Rattle.ldar_law.specs.Verdicts.{is_ruly, first_unruly, unruly_at, denial_at, first_denial, facts_with, verdict_by, verdict_on}
use Rattle.ldar_law.proofs.VerdictLemmas.{first_fact_is_told, ruly_is_each}
use Rattle.office_book.specs.Opened.{HasTaken}
use Rattle.office_book.proofs.HistoryLemmas.{cut_at, kept_to, new_at, next_spare, ruly_more}
use Rattle.office_views.specs.Held.{Held}

-- ---- the first denied batch

-- a denied batch is denied for its first fact that a rule denies
denied_first : (history : List Batch) (batch : Batch) (fact number : ℕ) → verdict_on history batch ≡ Denied fact number
    → first_denial history batch ≡ Some (fact, number)
denied_first history batch fact number denied =
    (first_given_is_first Entry (ℕ × ℕ) (denial_at (facts_of history)) (entries_of batch) (fact, number)).1
    ((first_fact_is_told history batch fact number).0 denied)

-- a batch that passes is not denied
undenied : (o : Option (ℕ × ℕ)) (facts : ℕ) → verdict_by o facts ≡ Pass → o ≡ None
undenied None facts passes = refl
undenied (Some denial) facts passes = absurd cc

-- a batch that is denied after a ruly history is the first denied one
first_behind : (before : List Batch) (batch : Batch) (after : List Batch) (fact number : ℕ) → IsTrue (is_ruly before)
    → verdict_on before batch ≡ Denied fact number → first_unruly (before ++ batch ∷ after) ≡ Some (length before + 1, number)
first_behind before batch after fact number ruly denied =
    (first_given_is_first Batch (ℕ × ℕ) unruly_at (before ++ batch ∷ after) (length before + 1, number)).1 (record {
      before = before;
      element = batch;
      after = after;
      stands = refl;
      gives = ap (option_map (λ (denial : ℕ × ℕ). (length before + 1, denial.1))) (denied_first before batch fact number denied);
      none_before = λ a y b stands. ap (option_map (λ (denial : ℕ × ℕ). (length a + 1, denial.1)))
          (undenied (first_denial a y) (facts_with a y) ((ruly_is_each before).0 ruly a y b stands));
    })

-- a batch after a history that is denied after those before it is the first denied one
pub first_at : (history batches : List Batch) (i : ℕ) (batch : Batch) (fact number : ℕ) → i < length batches → batch ≡ get_or batches i batch
    → IsTrue (is_ruly (history ++ take i batches)) → verdict_on (history ++ take i batches) batch ≡ Denied fact number
    → first_unruly (history ++ batches) ≡ Some (length (history ++ take i batches) + 1, number)
first_at history batches i batch fact number within is ruly denied =
    ap first_unruly (cut_at history batches i batch within is)
    ∙ first_behind (history ++ take i batches) batch (drop (i + 1) batches) fact number ruly denied

-- the first denied batch does not change when others follow
pub first_unruly-append : (history more : List Batch) (denied : ℕ × ℕ) → first_unruly history ≡ Some denied → first_unruly (history ++ more) ≡ Some denied
first_unruly-append history more denied is =
    let first = (first_given_is_first Batch (ℕ × ℕ) unruly_at history denied).0 is in
    (first_given_is_first Batch (ℕ × ℕ) unruly_at (history ++ more) denied).1 (record {
      before = first.before;
      element = first.element;
      after = first.after ++ more;
      stands = ap (λ (l : List Batch). l ++ more) first.stands ∙ append_assoc first.before (first.element ∷ first.after) more;
      gives = first.gives;
      none_before = λ a y b stands. first.none_before a y b stands;
    })

-- ---- an adopted batch

-- a batch is not too large if it is one of those that may be kept
fits_at : (history batches : List Batch) (i : ℕ) (batch : Batch) → i < length batches → batch ≡ get_or batches i batch → IsKept (history ++ batches)
    → facts_with (history ++ take i batches) batch ≤ 8_000_000
fits_at history batches i batch within is kept =
    let most = (kept_to history batches i batch within is kept).fits in
    omega (arith, facts_count (history ++ take i batches), fact_count-push (history ++ take i batches) batch)

-- a batch passes if it is not denied and is one of those that may be kept
pub passes_next : (history batches : List Batch) (i : ℕ) (batch : Batch) (adopted : List Batch) → i < length batches → batch ≡ get_or batches i batch
    → IsKept (history ++ batches) → adopted ≡ history ++ take i batches
    → (facts_with adopted batch ≤ 8_000_000 → verdict_on adopted batch ≡ Pass) → verdict_on adopted batch ≡ Pass
passes_next history batches i batch adopted within is kept same passes =
    passes (subst (λ (l : List Batch). facts_with l batch ≤ 8_000_000) (sym same) (fits_at history batches i batch within is kept))

-- the next batch is new after the adopted ones
pub new_next : (history batches : List Batch) (i : ℕ) (batch : Batch) (adopted : List Batch) → i < length batches → batch ≡ get_or batches i batch
    → IsKept (history ++ batches) → adopted ≡ history ++ take i batches → IsNew adopted batch
new_next history batches i batch adopted within is kept same =
    subst (λ (l : List Batch). IsNew l batch) (sym same) (new_at history batches i batch within is kept)

-- the adopted batches and the next one are a prefix
pub front_next : (history batches : List Batch) (i : ℕ) (batch : Batch) (adopted : List Batch) → i < length batches → batch ≡ get_or batches i batch
    → adopted ≡ history ++ take i batches → adopted ++ batch ∷ [] ≡ history ++ take (i + 1) batches
front_next history batches i batch adopted within is same =
    ap (λ (l : List Batch). l ++ batch ∷ []) same ∙ append_assoc history (take i batches) (batch ∷ [])
    ∙ ap (λ (l : List Batch). history ++ l) (sym (next_one batches i batch within is))

-- the prefix with the next batch is ruly if that batch passes
pub ruly_next : (history batches : List Batch) (i : ℕ) (batch : Batch) (adopted : List Batch) → i < length batches → batch ≡ get_or batches i batch
    → adopted ≡ history ++ take i batches → IsTrue (is_ruly (history ++ take i batches)) → verdict_on adopted batch ≡ Pass
    → IsTrue (is_ruly (history ++ take (i + 1) batches))
ruly_next history batches i batch adopted within is same ruly passes =
    subst (λ (l : List Batch). IsTrue (is_ruly l)) (front_next history batches i batch adopted within is same)
    (ruly_more adopted batch (subst (λ (l : List Batch). IsTrue (is_ruly l)) (sym same) ruly) passes)

-- the next batch is the first one with room
pub room_next : (batches spare : List Batch) (i : ℕ) (batch : Batch) → i < length batches → batch ≡ get_or batches i batch → spare ≡ drop i batches
    → slice_get spare 0 ≡ Some batch
room_next batches spare i batch within is left =
    ap (λ (l : List Batch). slice_get l 0) left ∙ next_spare batches batches i batch (take_all (length batches) batches (omega arith)) within is

-- the other batches with room are those after it
pub spare_next : (batches spare : List Batch) (i : ℕ) → spare ≡ drop i batches → drop 1 spare ≡ drop (i + 1) batches
spare_next batches spare i left = ap (λ (l : List Batch). drop 1 l) left ∙ drop-drop 1 i batches

-- ---- an adopted frame

-- a frame after a denied batch
pub taken_behind : (history more : List Batch) (old new : Held) (denied : Option (ℕ × ℕ)) → is_some denied ≡ true → HasTaken history old denied
    → HasTaken (history ++ more) new denied
taken_behind history more old new None some taken = absurd (false≢true some)
taken_behind history more old new (Some denied) some taken = first_unruly-append history more denied taken

-- a frame after adopted batches
pub taken_all : (history : List Batch) (views : Held) (denied : Option (ℕ × ℕ)) → is_some denied ≡ false → HasTaken history views denied
    → (views ≡ record { adopted = history; spare = [] }) × IsTrue (is_ruly history)
taken_all history views None none taken = taken
taken_all history views (Some denied) none taken = absurd (false≢true (sym none))

-- the adopted and the spare batches of views
held_is : (views : Held) (adopted spare : List Batch) → views.adopted ≡ adopted → views.spare ≡ spare → views ≡ record { adopted = adopted; spare = spare }
held_is views adopted spare first second = rw (sym first, sym second) refl

-- all batches of a history are adopted at its end
pub all_taken : (history batches : List Batch) (i : ℕ) (views : Held) → length batches ≤ i → views.adopted ≡ history ++ take i batches
    → views.spare ≡ drop i batches → IsTrue (is_ruly (history ++ take i batches)) → HasTaken (history ++ batches) views None
all_taken history batches i views past adopted spare ruly =
    let whole : take i batches ≡ batches = take_all i batches past in
    let none : drop i batches ≡ [] = drop_all i batches past in
    let all : history ++ take i batches ≡ history ++ batches = ap (λ (l : List Batch). history ++ l) whole in
    (held_is views (history ++ batches) [] (adopted ∙ all) (spare ∙ none), subst (λ (l : List Batch). IsTrue (is_ruly l)) all ruly)

-- the batches of a frame after adopted ones
pub frame_behind : (old new : List (List Batch)) (batches : List Batch) (views : Held) → new ≡ old ++ batches ∷ []
    → views ≡ record { adopted = batches_of old; spare = [] } → views.adopted ++ batches ≡ batches_of new
frame_behind old new batches views frames is =
    ap (λ (h : Held). h.adopted ++ batches) is ∙ sym (ap batches_of frames ∙ batches_of-push old batches)
