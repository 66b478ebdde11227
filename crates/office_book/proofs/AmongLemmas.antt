-- A batch after a history and others of its group: the position of its identity, and the verdict on it.
use Rattle.std.proofs.Common.{◌≡◌, ◌≢◌, inl, inr, ℕ, zero, suc, ◌+◌, ◌<◌, ◌≤◌, Bool, true, false, ◌&&◌, Option, Some, None, List, [], ◌∷◌, ◌++◌}
use Rattle.std.proofs.Common.{length, take, drop, get_or, refl, sym, ◌∙◌, ap, subst, arith, append_assoc}
use Rattle.std.specs.Prelude.{◌-◌, ◌↔◌, IsTrue, IfSome, IsNone, cond, codes, slice_get, nat_lt}
use Rattle.std.specs.List.{AllByRecursion, position_from, list_any}
use Rattle.std.proofs.lemmas.Bool.{false≢true, cases_Bool}
use Rattle.std.proofs.lemmas.Bool.Decides.{nat_tests}
use Rattle.std.proofs.lemmas.List.{append-nil, length-take}
use Rattle.std.proofs.lemmas.Option.{slice_get-get_or}
use Rattle.std.proofs.lemmas.List.Sums.{sum_by-append}
use Rattle.list_words.proofs.Members.{Among}
use Rattle.fact_kinds.specs.declared.batch.Batch.{Batch}
use Rattle.fact_kinds.specs.Facts.{Entry, entries_from, entries_of, facts_of}
use Rattle.fact_kinds.specs.Identity.{identity_of, is_of}
use Rattle.fact_kinds.specs.Stated.{Stated}
use Rattle.fact_kinds.proofs.OrderFree.{facts_count}
use Rattle.ldar_journal.specs.Image.{IsKept, fact_count}
use Rattle.ldar_journal.proofs.Histories.{IsKept-front}
use Rattle.ldar_journal.proofs.KeepingLemmas.{next_one}
use Rattle.ldar_law.specs.declared.verdict.Verdict.TheVariants.{Pass}
use Rattle.ldar_law.specs.Machine.{IsNew}
use Rattle.ldar_law.specs.Slices.{is_registered, register_facts}
use Rattle.ldar_law.specs.Verdicts.{Rule, is_ruly, verdict_on, rules, numbered}
use Rattle.ldar_law.specs.Denials as denials
use Rattle.ldar_law.proofs.VerdictLemmas.{ruly_is_each}
use Rattle.list_words.proofs.Members.{Contains-from_among}
use Rattle.history_laws.proofs.Counting.{cut_at}
use Rattle.history_laws.proofs.MoreLemmas.{part_stays}
use Rattle.history_laws.proofs.Passing.{let_pass}
use Rattle.office_book.specs.Archive.{IsKeptAt, MayCome}
use Rattle.office_book.specs.Grouped.{IsOfHandheld, IsAmong}
use Rattle.office_book.proofs.HistoryLemmas.{found_from, cut_at as cut_behind}

-- ---- positions in two lists

-- the first element that passes, if it is in the first list
position_front : {X : Type 0} (p : X → Bool) (i : ℕ) (xs ys : List X) (k : ℕ) → position_from p i xs ≡ Some k → position_from p i (xs ++ ys) ≡ Some k
position_front p i [] ys k e = absurd cc
position_front {X = X} p i (x ∷ xs) ys k e = by (p x) (λ later. position_front p (i + 1) xs ys k later) e
  where
    by : (b : Bool) → (position_from p (i + 1) xs ≡ Some k → position_from p (i + 1) (xs ++ ys) ≡ Some k)
        → cond b (Some i) (position_from p (i + 1) xs) ≡ Some k → cond b (Some i) (position_from p (i + 1) (xs ++ ys)) ≡ Some k
    by true rest e = e
    by false rest e = rest e

-- the first element that passes, if it is in the second list
pub position_behind : {X : Type 0} (p : X → Bool) (i : ℕ) (xs ys : List X) (j : ℕ) → j ≡ i + length xs → position_from p i xs ≡ None
    → position_from p i (xs ++ ys) ≡ position_from p j ys
position_behind p i [] ys j is none = let same : i ≡ j = omega arith in ap (λ (n : ℕ). position_from p n ys) same
position_behind {X = X} p i (x ∷ xs) ys j is none = by (p x) (λ later. position_behind p (i + 1) xs ys j (omega arith) later) none
  where
    by : (b : Bool) → (position_from p (i + 1) xs ≡ None → position_from p (i + 1) (xs ++ ys) ≡ position_from p j ys)
        → cond b (Some i) (position_from p (i + 1) xs) ≡ None → cond b (Some i) (position_from p (i + 1) (xs ++ ys)) ≡ position_from p j ys
    by true rest e = absurd cc
    by false rest e = rest e

-- an element of the first list keeps its place
get_front : {X : Type 0} (xs ys : List X) (n : ℕ) (x : X) → slice_get xs n ≡ Some x → slice_get (xs ++ ys) n ≡ Some x
get_front [] ys n x e = absurd cc
get_front (y ∷ xs) ys zero x e = e
get_front (y ∷ xs) ys (suc n) x e = get_front xs ys n x e

-- an element of the second list is after the first list
pub get_behind : {X : Type 0} (xs ys : List X) (n m : ℕ) → m ≡ length xs + n → slice_get (xs ++ ys) m ≡ slice_get ys n
get_behind [] ys n m is = let same : m ≡ n = omega arith in ap (λ (j : ℕ). slice_get ys j) same
get_behind (x ∷ xs) ys n m is =
    let next : m ≡ suc (length xs + n) = omega arith in
    ap (λ (j : ℕ). slice_get (x ∷ (xs ++ ys)) j) next ∙ get_behind xs ys n (length xs + n) refl

-- ---- the position of a kept batch

-- a batch kept in a history is kept with more batches after it
pub standing_more : (history others : List Batch) (batch : Batch) (position : ℕ) (same : Bool) → IsKeptAt history batch position same
    → IsKeptAt (history ++ others) batch position same
standing_more history others batch position same stands = (
  stands.0,
  (
    position_front (is_of (identity_of batch)) 1 history others position stands.1.0,
    get_front history others (position - 1) stands.0 stands.1.1,
  ),
  stands.2,
  stands.3,
)

-- a batch that is new in a history and is found among the batches after it
pub standing_among : (history others : List Batch) (batch : Batch) (first position : ℕ) (same : Bool) → IsNew history batch → first ≡ length history + 1
    → IsAmong first others batch position same → IsKeptAt (history ++ others) batch position same
standing_among history others batch first position same new is among =
    let behind = found_from (is_of (identity_of batch)) first others position among.stands in
    let after = behind.0 in
    let place : position - 1 ≡ length history + (position - first) = omega arith in (
      among.kept,
      (
        position_behind (is_of (identity_of batch)) 1 history others first (omega arith) new ∙ among.stands,
        get_behind history others (position - first) (position - 1) place ∙ among.there,
      ),
      λ yes. among.same_if.0 yes,
      λ no same_batch. false≢true (sym no ∙ among.same_if.1 same_batch),
    )

-- a batch that is new in a history and is not among the batches after it
pub new_behind : (history others : List Batch) (batch : Batch) (first : ℕ) → IsNew history batch → first ≡ length history + 1
    → position_from (is_of (identity_of batch)) first others ≡ None → IsNew (history ++ others) batch
new_behind history others batch first new is none =
    position_behind (is_of (identity_of batch)) 1 history others first (omega arith) new ∙ none

-- the result of a search among the other batches, for a batch that is new in a history
pub kept_among : (history others : List Batch) (batch : Batch) (first : ℕ) (found : Option (ℕ × Bool)) → IsNew history batch → first ≡ length history + 1
    → IfSome found (λ kept. IsAmong first others batch kept.0 kept.1) → IfSome found (λ kept. IsKeptAt (history ++ others) batch kept.0 kept.1)
kept_among history others batch first None new is among = tt
kept_among history others batch first (Some kept) new is among = standing_among history others batch first kept.0 kept.1 new is among

-- the batch is new if the search among the others finds nothing
pub new_among : (history others : List Batch) (batch : Batch) (first : ℕ) (found : Option (ℕ × Bool)) → IsNew history batch → first ≡ length history + 1
    → (IsNone found → position_from (is_of (identity_of batch)) first others ≡ None) → IsNone found → IsNew (history ++ others) batch
new_among history others batch first found new is none missing = new_behind history others batch first new is (none missing)

-- ---- the verdict

-- the key of a fact has the batch's handheld
from_handheld : (batch : Batch) (index : ℕ) (facts : List Stated) (entry : Entry) → Among (entries_from batch index facts) entry
    → entry.0.handheld ≡ batch.handheld
from_handheld batch index [] entry among = absurd among
from_handheld batch index (fact ∷ facts) entry (inl here) = sym (ap (λ (e : Entry). e.0.handheld) here)
from_handheld batch index (fact ∷ facts) entry (inr there) = from_handheld batch (index + 1) facts entry there

-- some element passes
any_among : {X : Type 0} (p : X → Bool) (xs : List X) → list_any p xs ≡ true → (x : X) × Among xs x × (p x ≡ true)
any_among p [] e = absurd (false≢true e)
any_among p (x ∷ xs) e = elim (cases_Bool (p x)) [
  | inl passes ↦ (x, inl refl, passes)
  | inr fails ↦ let rest = any_among p xs (rw fails at e) in (rest.0, inr rest.1, rest.2)
]

-- rule 16
abbrev sixteenth : Rule
sixteenth = numbered 16 (codes "P1") denials.entered_by_a_handheld

-- a passing batch of a handheld makes no entry in the register
no_entry : (history : List Batch) (batch : Batch) → verdict_on history batch ≡ Pass → IsOfHandheld batch
    → list_any (λ (e : Entry). is_registered e.1.body) (entries_of batch) ≡ false
no_entry history batch passes handheld =
    elim (cases_Bool (list_any (λ (e : Entry). is_registered e.1.body) (entries_of batch))) [
      | inl some ↦
          let found = any_among (λ (e : Entry). is_registered e.1.body) (entries_of batch) some in
          let entry = found.0 in
          let cut = cut_at (entries_of batch) entry found.1 in
          let denies : (is_registered entry.1.body && nat_lt 0 entry.0.handheld) ≡ false =
          let_pass history batch passes cut.0 entry cut.1 cut.2 sixteenth
          (Contains-from_among rules sixteenth (inr (inr (inr (inr (inr (inr (inr (inr (inr (inr (inr (inr (inr (inr (inr (inl refl))))))))))))))))) in
          let from : entry.0.handheld ≡ batch.handheld = from_handheld batch 0 batch.facts entry found.1 in
          let other : entry.0.handheld ≢ 0 = λ zero_is. handheld (sym from ∙ zero_is) in
          absurd (entered (is_registered entry.1.body) entry.0.handheld found.2 denies other)
      | inr none ↦ none
    ]
  where
    entered : (b : Bool) (n : ℕ) → b ≡ true → (b && nat_lt 0 n) ≡ false → n ≢ 0 → ⊥
    entered b n is denies other = other (grind (arith, nat_tests))

-- batches of handhelds after a history do not change the register
pub register_stays : (history others : List Batch) → MayCome history others → AllByRecursion IsOfHandheld others
    → register_facts (facts_of (history ++ others)) ≡ register_facts (facts_of history)
register_stays history [] may alike = ap (λ (l : List Batch). register_facts (facts_of l)) (append-nil history)
register_stays history (batch ∷ others) may alike =
    let whole = append_assoc history (batch ∷ []) others in
    let kept : IsKept ((history ++ batch ∷ []) ++ others) = subst (λ (l : List Batch). IsKept l) (sym whole) may.kept in
    let front = IsKept-front (history ++ batch ∷ []) others kept in
    let passes : verdict_on history batch ≡ Pass = (ruly_is_each (history ++ batch ∷ others)).0 may.ruly history batch others refl in
    ap (λ (l : List Batch). register_facts (facts_of l)) (sym whole)
    ∙ register_stays (history ++ batch ∷ []) others (record { kept = kept; ruly = subst (λ (l : List Batch). IsTrue (is_ruly l)) (sym whole) may.ruly }) alike.1
    ∙ part_stays (λ (e : Entry). is_registered e.1.body) history batch front.differ (no_entry history batch passes alike.0)

-- the number of facts with them
pub facts_behind : (history others : List Batch) → length (facts_of (history ++ others)) ≡ length (facts_of history) + fact_count others
facts_behind history others =
    omega (arith, facts_count (history ++ others), facts_count history, sum_by-append (λ (batch : Batch). length batch.facts) history others)

-- the facts fit
pub facts_fit : (history others : List Batch) → MayCome history others → length (facts_of history) + fact_count others ≤ 8_000_000
facts_fit history others may =
    let fits = may.kept.fits in
    let count = facts_behind history others in
    let whole = facts_count (history ++ others) in
    omega arith

-- ---- the search for an identity

-- the first batch with the identity is found
pub among_here : (first : ℕ) (others : List Batch) (batch : Batch) (i : ℕ) (other : Batch) (position : ℕ) (same : Bool) → i < length others
    → other ≡ get_or others i other → position ≡ first + i → position_from (is_of (identity_of batch)) first (take i others) ≡ None
    → is_of (identity_of batch) other ≡ true → IsTrue same ↔ (other ≡ batch) → IsAmong first others batch position same
among_here first others batch i other position same within is place none has tells =
    let p = is_of (identity_of batch) in
    let long = length-take i others in
    let rest = other ∷ drop (i + 1) others in
    let here : position_from p position rest ≡ Some position =
    ap (λ (b : Bool). cond b (Some position) (position_from p (position + 1) (drop (i + 1) others))) has in
    let at : position - first ≡ i = omega arith in
    record {
      stands = ap (λ (l : List Batch). position_from p first l) (cut_behind [] others i other within is)
          ∙ position_behind p first (take i others) rest position (omega arith) none ∙ here;
      kept = other;
      there = ap (λ (n : ℕ). slice_get others n) at ∙ slice_get-get_or others i other within ∙ ap Some (sym is);
      same_if = tells;
    }

-- no batch with the identity is found up to one with another identity
pub none_next : (first : ℕ) (others : List Batch) (batch : Batch) (i : ℕ) (other : Batch) → i < length others → other ≡ get_or others i other
    → position_from (is_of (identity_of batch)) first (take i others) ≡ None → is_of (identity_of batch) other ≡ false
    → position_from (is_of (identity_of batch)) first (take (i + 1) others) ≡ None
none_next first others batch i other within is none has =
    let p = is_of (identity_of batch) in
    let long = length-take i others in
    ap (λ (l : List Batch). position_from p first l) (next_one others i other within is)
    ∙ position_behind p first (take i others) (other ∷ []) (first + i) (omega arith) none
    ∙ ap (λ (b : Bool). cond b (Some (first + i)) None) has
