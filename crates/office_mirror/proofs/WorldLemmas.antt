-- Whatever happens, the second office holds a front of the first one's history.
use Rattle.std.proofs.Common.{◌≡◌, inl, inr, ℕ, zero, suc, ◌+◌, ◌≤◌, List, [], ◌∷◌, ◌++◌, length, take, drop, slice_get, Some, IsTrue, refl, sym}
use Rattle.std.proofs.Common.{ap, subst, ◌∙◌, arith}
use Rattle.std.proofs.lemmas.List.{append-nil, length-append}
use Rattle.std.specs.List.{AllByRecursion}
use Rattle.fact_kinds.specs.declared.batch.Batch.{Batch}
use Rattle.fact_kinds.specs.Identity.{identities_differ}
use Rattle.ldar_law.specs.Machine.{State, is_accepted}
use Rattle.ldar_law.specs.Verdicts.{is_ruly, is_pass, verdict_on}
use Rattle.ldar_law.proofs.BatchLemmas.{ruly_by_one_more}
use Rattle.std.proofs.lemmas.Bool.{and_parts, and_from}
use Rattle.std.proofs.lemmas.Bool.Decides.{nat_tests}
use Rattle.std.specs.Option.{is_none}
use Rattle.std.specs.List.{list_any, position_from}
use Rattle.std.proofs.Common.{Option, Bool, true, false, not, ◌||◌, cond}
use Rattle.fact_kinds.specs.Identity.{identity_of, position_of, is_of, is_same_identity}
use Rattle.office_mirror.specs.Fronts.{IsFrontOf, IsMirrorOf, Asked, StandFrom}
use Rattle.office_mirror.specs.declared.answer.Answer.{Answer}
use Rattle.office_mirror.specs.declared.answer.TheConstants.{MOST_BATCHES}
use Rattle.office_mirror.specs.Offers.{offered, offered_of}
use Rattle.office_mirror.specs.MirrorWorld.{World, IsOffered, Happens, IsMirrored, MirrorPrefix}
use Rattle.office_mirror.proofs.KeepLemmas.{asked_keeps}
use Rattle.office_mirror.proofs.OfficeLemmas.{longer, next_accepted, kept_stands}

-- ---- the first grows

-- the front of a longer list
take_more : (xs : List Batch) (b : Batch) (n : ℕ) → n ≤ length xs → take n (xs ++ b ∷ []) ≡ take n xs
take_more xs b zero h = refl
take_more [] b (suc n) h = absurd (omega arith)
take_more (x ∷ xs) b (suc n) h = ap (λ ys. x ∷ ys) (take_more xs b n (omega arith))

-- an element of a longer list
get_more : (xs : List Batch) (b c : Batch) (n : ℕ) → slice_get xs n ≡ Some c → slice_get (xs ++ b ∷ []) n ≡ Some c
get_more [] b c n h = absurd cc
get_more (x ∷ xs) b c zero h = h
get_more (x ∷ xs) b c (suc n) h = get_more xs b c n h

-- a front stays one
front_more : (xs : List Batch) (b : Batch) (front : List Batch) → IsFrontOf xs front → IsFrontOf (xs ++ b ∷ []) front
front_more xs b front f =
    let long = length-append xs (b ∷ []) in
    let within = f.within in
    record { count = f.count; within = omega arith; is = f.is ∙ sym (take_more xs b f.count f.within) }

-- batches stay at their places
stand_more : (xs : List Batch) (b : Batch) (place : ℕ) (batches : List Batch) → StandFrom xs place batches → StandFrom (xs ++ b ∷ []) place batches
stand_more xs b place [] h = tt
stand_more xs b place (c ∷ batches) h = (get_more xs b c place h.0, stand_more xs b (place + 1) batches h.1)

-- .. and so do those of all answers
offers_more : (xs : List Batch) (b : Batch) (offered : List Answer) → AllByRecursion (λ a. StandFrom xs a.start a.batches) offered
    → AllByRecursion (λ a. StandFrom (xs ++ b ∷ []) a.start a.batches) offered
offers_more xs b [] h = tt
offers_more xs b (a ∷ offered) h = (stand_more xs b a.start a.batches h.0, offers_more xs b offered h.1)

-- ---- what is offered is in the history

-- the batches after a place are there
pub stand_behind : (xs : List Batch) (n start : ℕ) → StandFrom xs start (take n (drop start xs))
stand_behind xs zero start = tt
stand_behind xs (suc n) start = elim (drop start xs) as (λ ys. drop start xs ≡ ys → StandFrom xs start (take (suc n) ys)) [
  | [] ↦ λ is. tt
  | y ∷ ys ↦ λ is.
      let here = dropped xs start y ys is in
      (here.0, subst (λ zs. StandFrom xs (start + 1) (take n zs)) here.1 (stand_behind xs n (start + 1)))
] refl
  where
    dropped : (xs : List Batch) (start : ℕ) (y : Batch) (ys : List Batch) → drop start xs ≡ y ∷ ys → (slice_get xs start ≡ Some y) × (drop (start + 1) xs ≡ ys)
    dropped [] zero y ys is = absurd cc
    dropped [] (suc start) y ys is = absurd cc
    dropped (x ∷ xs) zero y ys is = (cc, cc)
    dropped (x ∷ xs) (suc start) y ys is =
        let rest = dropped xs start y ys is in
        let on : suc start + 1 ≡ suc (start + 1) = omega arith in
        (rest.0, ap (λ n. drop n (x ∷ xs)) on ∙ rest.1)

-- what is offered are the batches after the start
offered_of_is : (start : ℕ) (ys : List Batch) (a : Answer) → offered_of start ys ≡ Some a → a ≡ record { start = start; batches = take MOST_BATCHES ys }
offered_of_is start [] a is = absurd cc
offered_of_is start (y ∷ ys) a is = cc

-- .. and so they are there
pub offered_stand : (xs : List Batch) (start : ℕ) (a : Answer) → offered xs start ≡ Some a → StandFrom xs a.start a.batches
offered_stand xs start a is =
    subst (λ (x : Answer). StandFrom xs x.start x.batches) (sym (offered_of_is start (drop start xs) a is)) (stand_behind xs MOST_BATCHES start)

-- .. of each answer that was offered
offered_stands : (xs : List Batch) (offered : List Answer) (a : Answer) → AllByRecursion (λ a. StandFrom xs a.start a.batches) offered → IsOffered offered a
    → StandFrom xs a.start a.batches
offered_stands xs [] a all is = absurd is
offered_stands xs (one ∷ more) a all (inl same) = subst (λ (x : Answer). StandFrom xs x.start x.batches) same all.0
offered_stands xs (one ∷ more) a all (inr later) = offered_stands xs more a all.1 later

-- ---- what happens

-- the second office takes an answer
taken : (w : World) (answer : Answer) (next : State) → IsMirrored w → IsOffered w.answers answer → answer.start ≤ length w.second.history
    → Asked w.second (answer.start + 1) answer.batches next → IsMirrorOf w.first next × (length w.second.history ≤ length next.history)
taken w answer next m is low asked =
    asked_keeps w.first (next_accepted w.first m.ruly m.differ) (longer w.first) (kept_stands w.first m.differ)
    w.second answer.start answer.batches next m.mirror low (offered_stands w.first w.answers answer m.offers is) asked

-- ---- the first stays an office

-- with an accepted batch the history is ruly
ruly_more : (xs : List Batch) (b : Batch) → IsTrue (is_ruly xs) → IsTrue (is_accepted xs b) → IsTrue (is_ruly (xs ++ b ∷ []))
ruly_more xs b ruly accepted =
    let parts = and_parts (is_none (position_of (identity_of b) xs)) (is_pass (verdict_on xs b)) accepted in
    ruly_by_one_more xs b ∙ and_from (is_ruly xs) (is_pass (verdict_on xs b)) ruly parts.1

-- one step of the search for an identity
none_step : (t : Bool) (n : ℕ) (rest : Bool) (later : Option ℕ) → (is_none later ≡ true → rest ≡ false) → is_none (cond t (Some n) later) ≡ true
    → (t || rest) ≡ false
none_step true n rest later more h = absurd cc
none_step false n rest later more h = more h

-- no batch has the identity
none_from : (n : ℕ) (xs : List Batch) (b : Batch) → is_none (position_from (is_of (identity_of b)) n xs) ≡ true → list_any (is_same_identity b) xs ≡ false
none_from n [] b h = refl
none_from n (x ∷ xs) b h =
    none_step (is_of (identity_of b) x) n (list_any (is_same_identity b) xs) (position_from (is_of (identity_of b)) (n + 1) xs) (none_from (n + 1) xs b) h

-- the identities of two batches are the same in either order
other_way : (x b : Batch) → is_same_identity b x ≡ is_same_identity x b
other_way x b = grind (arith, nat_tests)

-- if a disjunction is false, both parts are
or_true : (a c : Bool) → (a || c) ≡ false → (a ≡ false) × (c ≡ false)
or_true true c h = absurd cc
or_true false c h = (refl, h)

-- no batch of a longer list has the identity
any_more : (x b : Batch) (xs : List Batch) → list_any (is_same_identity x) xs ≡ false → is_same_identity x b ≡ false
    → list_any (is_same_identity x) (xs ++ b ∷ []) ≡ false
any_more x b [] h one = rw one refl
any_more x b (y ∷ xs) h one =
    let parts = or_true (is_same_identity x y) (list_any (is_same_identity x) xs) h in
    ap (λ t. t || list_any (is_same_identity x) (xs ++ b ∷ [])) parts.0 ∙ any_more x b xs parts.1 one

-- the identities differ with one more
differ_from : (xs : List Batch) (b : Batch) → IsTrue (identities_differ xs) → list_any (is_same_identity b) xs ≡ false
    → IsTrue (identities_differ (xs ++ b ∷ []))
differ_from [] b differ none = refl
differ_from (x ∷ xs) b differ none =
    let parts = and_parts _ _ differ in
    let apart = or_true _ _ none in
    let here = any_more x b xs (was_not _ parts.0) (sym (other_way x b) ∙ apart.0) in
    and_from _ _ (ap not here) (differ_from xs b parts.1 apart.1)
  where
    was_not : (t : Bool) → not t ≡ true → t ≡ false
    was_not true h = absurd cc
    was_not false h = refl

-- .. that is accepted
differ_more : (xs : List Batch) (b : Batch) → IsTrue (identities_differ xs) → IsTrue (is_accepted xs b) → IsTrue (identities_differ (xs ++ b ∷ []))
differ_more xs b differ accepted = differ_from xs b differ (none_from 1 xs b (and_parts _ (is_pass (verdict_on xs b)) accepted).0)

-- one thing that happens
happens : (w v : World) → IsMirrored w → Happens w v → IsMirrored v
happens w v m (inl h) = subst IsMirrored (sym h.2) (record {
  ruly = ruly_more w.first h.0 m.ruly h.1;
  differ = differ_more w.first h.0 m.differ h.1;
  offers = offers_more w.first h.0 w.answers m.offers;
  mirror = record {
    history = front_more w.first h.0 w.second.history m.mirror.history;
    doubt = front_more w.first h.0 (w.second.history ++ w.second.doubt) m.mirror.doubt;
  };
  holds = m.holds;
})
happens w v m (inr (inl h)) = subst IsMirrored (sym h.3) (record {
  ruly = m.ruly;
  differ = m.differ;
  offers = (offered_stand w.first h.0 h.1 h.2, m.offers);
  mirror = m.mirror;
  holds = m.holds;
})
happens w v m (inr (inr (inl h))) =
    let it = taken w h.0 h.1 m h.2 h.3 h.4 in
    let held = m.holds in
    let grows = it.1 in
    elim h.5 [
      | inl same ↦ subst IsMirrored (sym same)
          (record { ruly = m.ruly; differ = m.differ; offers = m.offers; mirror = it.0; holds = omega (arith, held, grows) })
      | inr same ↦ subst IsMirrored (sym same) (record { ruly = m.ruly; differ = m.differ; offers = m.offers; mirror = it.0; holds = omega arith })
    ]
happens w v m (inr (inr (inr (inl (inl same))))) = subst IsMirrored (sym same) (record {
  ruly = m.ruly;
  differ = m.differ;
  offers = m.offers;
  holds = m.holds;
  mirror = record { history = m.mirror.history; doubt = subst (IsFrontOf w.first) (sym (append-nil w.second.history)) m.mirror.history };
})
happens w v m (inr (inr (inr (inl (inr same))))) =
    let long = length-append w.second.history w.second.doubt in
    let held = m.holds in
    subst IsMirrored (sym same) (record {
      ruly = m.ruly;
      differ = m.differ;
      offers = m.offers;
      holds = omega (arith, long, held);
      mirror = record { history = m.mirror.doubt; doubt = subst (IsFrontOf w.first) (sym (append-nil (w.second.history ++ w.second.doubt))) m.mirror.doubt };
    })
happens w v m (inr (inr (inr (inr same)))) = subst IsMirrored (sym same) m

-- .. and any list of them
pub mirror_prefix : MirrorPrefix
mirror_prefix w last [] m follow = subst IsMirrored (sym follow) m
mirror_prefix w last (next ∷ worlds) m follow = mirror_prefix next last worlds (happens w next m follow.0) follow.1
