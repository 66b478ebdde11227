-- A whole service, from what each worker did and how the passes met.
use Rattle.std.proofs.Common.{◌≡◌, ℕ, zero, suc, Bool, true, false, ◌&&◌, ◌⊎◌, Option, Some, None, List, [], ◌∷◌, ◌++◌, map, replicate, length, take, refl, ap, sym, ◌∙◌, subst, inl, inr, ⊎_elim}
use Rattle.std.specs.List.{AllByRecursion, Contains, list_all}
use Rattle.ldar_law.specs.Machine.{Call}
use Rattle.ldar_ports.specs.Front.{Connection, Finished}
use Rattle.ldar_session.specs.Working.{HasWorked, turns_served}
use Rattle.office_server.specs.Fronts.{DeskState, IsDeskOf, WorkedAt, EachWorked, EachClosed, OneFailed, desk_with, no_clock}
use Rattle.office_server.specs.Serving.{IsServed, EachServed, AreOthers, AllOthers, AreServed}
use Rattle.office_server.specs.Together.{IsOwner, HasOwn, Has, HaveOthers, AllHaveOthers, Together}
use Rattle.sync_room.specs.OwnCalls.{Grew, HasAsked, calls_of, own_calls, session_turn}
use Rattle.sync_room.specs.Passes.{PassState, RoomId, new_pass}

-- the caller of the pass at a desk
abbrev caller_in : Option PassState → Option ℕ
caller_in None = None
caller_in (Some pass) = pass.own

abbrev pub caller_at : DeskState → Option ℕ
caller_at desk = caller_in desk.pass

-- each of the new desks is of the room
pub all_new : (room : RoomId) (count : ℕ) → AllByRecursion (IsDeskOf room) (replicate count (desk_with (new_pass room)))
all_new room zero = tt
all_new room (suc count) = (record { pass = new_pass room; there = refl; of_room = refl }, all_new room count)

-- a pass that was new answers for its caller
own_named : (room : RoomId) (calls : List Call) (new : PassState) → Grew (new_pass room) calls new → (name : ℕ) → new.own ≡ Some name → Contains new.names name
own_named room calls new grew name own =
    ⊎_elim
    (λ (same : (new ≡ new_pass room) × (grew.made ≡ [])). absurd (cc (own, ap (λ (p : PassState). p.own) same.0)))
    (λ (asked : HasAsked (new_pass room) new). subst (Contains new.names) (cc (asked.own, own)) asked.named)
    grew.how

-- a desk with a caller has a pass of this caller
owner_in : (desk : DeskState) (slot : Option PassState) (name : ℕ) → desk.pass ≡ slot → caller_in slot ≡ Some name → IsOwner desk name
owner_in desk None name there is = absurd (cc is)
owner_in desk (Some pass) name there is = record { pass = pass; there = there; own = is }

owner : (desk : DeskState) (name : ℕ) → caller_at desk ≡ Some name → IsOwner desk name
owner desk name is = owner_in desk desk.pass name refl is

-- the calls of a worker's caller are in what was seen by the pass in which all met
calls_whole : (whole : PassState) (desk : DeskState) (own : Option ℕ) (has : Has whole desk) → own ≡ has.pass.own → calls_of own whole.seen ≡ own_calls has.pass
calls_whole whole desk None has is = ap (λ o. calls_of o has.pass.seen) is
calls_whole whole desk (Some name) has is = has.calls name (sym is) ∙ ap (λ o. calls_of o has.pass.seen) is

-- the callers of desks whose callers differ
others : (desk : DeskState) (desks : List DeskState) → AllByRecursion (HaveOthers desk) desks → AllByRecursion (AreOthers (caller_at desk)) (map caller_at desks)
others desk [] all = tt
others desk (other ∷ desks) all = ((λ name mine theirs. all.0 name (owner desk name mine) (owner other name theirs)), others desk desks all.1)

all_others : (desks : List DeskState) → AllHaveOthers desks → AllOthers (map caller_at desks)
all_others [] all = tt
all_others (desk ∷ desks) all = (others desk desks all.0, all_others desks all.1)

-- a test that both of two hold
both_true : (a b : Bool) → (a && b) ≡ true → (a ≡ true) × (b ≡ true)
both_true true b both = (refl, both)
both_true false b both = absurd (cc both)

one_of_two : {P Q : Type 0} (a b : Bool) → (a && b) ≡ false → (a ≡ false → P) → (b ≡ false → Q) → P ⊎ Q
one_of_two true b not first second = inr (second not)
one_of_two false b not first second = inl (first refl)

module _ {L : Type 0} (left_of : L → Option (List Connection)) (done_of : L → Option (List Finished)) (faults_of : L → ℕ) where
  -- what a worker did, from the pass that was new
  from_new : (room : RoomId) (a b : L) (desk : DeskState) (worked : WorkedAt left_of done_of faults_of a b (desk_with (new_pass room)) desk)
      → HasWorked Grew no_clock (new_pass room) worked.new (left_of a) (left_of b) (done_of a) (done_of b)
  from_new room a b desk worked =
      let same : worked.old ≡ new_pass room = cc (worked.from) in
      subst (λ (o : PassState). HasWorked Grew no_clock o worked.new (left_of a) (left_of b) (done_of a) (done_of b)) same worked.worked

  own_after : (room : RoomId) (a b : L) (desk : DeskState) → WorkedAt left_of done_of faults_of a b (desk_with (new_pass room)) desk → HasOwn room desk
  own_after room a b desk worked =
      let did = from_new room a b desk worked in
      record { pass = worked.new; there = worked.to; of_room = did.run.room; named = own_named room did.calls worked.new did.run }

  served_at : (room : RoomId) (whole : PassState) (a b : L) (desk : DeskState) → WorkedAt left_of done_of faults_of a b (desk_with (new_pass room)) desk
      → Has whole desk → IsServed left_of done_of room whole.seen a b (caller_at desk)
  served_at room whole a b desk worked has =
      let did = from_new room a b desk worked in
      let new : has.pass ≡ worked.new = cc (has.there, worked.to) in
      let own : caller_at desk ≡ has.pass.own = ap caller_in has.there in
      let calls : calls_of (caller_at desk) whole.seen ≡ did.run.made = calls_whole whole desk (caller_at desk) has own ∙ (ap own_calls new ∙ did.run.own) in
      record {
        pass = worked.new;
        own = ap (λ (p : PassState). p.own) (sym new) ∙ sym own;
        worked = did;
        calls = sym did.turns ∙ (did.run.turns ∙ ap (map session_turn) (sym calls));
      }

  -- what each worker did, over all fronts
  pub all_own : (room : RoomId) (count : ℕ) (fronts fronts' : List L) (desks : List DeskState)
      → EachWorked left_of done_of faults_of fronts fronts' (replicate count (desk_with (new_pass room))) desks → AllByRecursion (HasOwn room) desks
  all_own room count fronts fronts' [] each = tt
  all_own room zero [] [] (q ∷ desks) each = absurd each
  all_own room zero [] (b ∷ fronts') (q ∷ desks) each = absurd each
  all_own room zero (a ∷ fronts) [] (q ∷ desks) each = absurd each
  all_own room zero (a ∷ fronts) (b ∷ fronts') (q ∷ desks) each = absurd each
  all_own room (suc count) [] [] (q ∷ desks) each = absurd each
  all_own room (suc count) [] (b ∷ fronts') (q ∷ desks) each = absurd each
  all_own room (suc count) (a ∷ fronts) [] (q ∷ desks) each = absurd each
  all_own room (suc count) (a ∷ fronts) (b ∷ fronts') (q ∷ desks) each = (own_after room a b q each.0, all_own room count fronts fronts' desks each.1)

  each_served : (room : RoomId) (whole : PassState) (count : ℕ) (fronts fronts' : List L) (desks : List DeskState)
      → EachWorked left_of done_of faults_of fronts fronts' (replicate count (desk_with (new_pass room))) desks → AllByRecursion (Has whole) desks
      → EachServed left_of done_of room whole.seen fronts fronts' (map caller_at desks)
  each_served room whole zero [] [] [] each has = tt
  each_served room whole (suc count) (a ∷ fronts) (b ∷ fronts') (q ∷ desks) each has =
      (served_at room whole a b q each.0 has.0, each_served room whole count fronts fronts' desks each.1 has.1)
  each_served room whole zero [] [] (q ∷ desks) each has = absurd each
  each_served room whole zero [] (b ∷ fronts') [] each has = absurd each
  each_served room whole zero [] (b ∷ fronts') (q ∷ desks) each has = absurd each
  each_served room whole zero (a ∷ fronts) [] [] each has = absurd each
  each_served room whole zero (a ∷ fronts) [] (q ∷ desks) each has = absurd each
  each_served room whole zero (a ∷ fronts) (b ∷ fronts') [] each has = absurd each
  each_served room whole zero (a ∷ fronts) (b ∷ fronts') (q ∷ desks) each has = absurd each
  each_served room whole (suc count) [] [] [] each has = absurd each
  each_served room whole (suc count) [] [] (q ∷ desks) each has = absurd each
  each_served room whole (suc count) [] (b ∷ fronts') [] each has = absurd each
  each_served room whole (suc count) [] (b ∷ fronts') (q ∷ desks) each has = absurd each
  each_served room whole (suc count) (a ∷ fronts) [] [] each has = absurd each
  each_served room whole (suc count) (a ∷ fronts) [] (q ∷ desks) each has = absurd each
  each_served room whole (suc count) (a ∷ fronts) (b ∷ fronts') [] each has = absurd each

  pub served : (room : RoomId) (whole : PassState) (count : ℕ) (fronts fronts' : List L) (desks : List DeskState)
      → EachWorked left_of done_of faults_of fronts fronts' (replicate count (desk_with (new_pass room))) desks → Together room whole desks
      → AreServed left_of done_of room.start fronts fronts'
  served room whole count fronts fronts' desks each together = record {
    room = room;
    from = refl;
    log = whole.seen;
    legal = together.legal;
    callers = map caller_at desks;
    each = each_served room whole count fronts fronts' desks each together.has;
    differ = all_others desks together.differ;
  }

  -- ---- how the workers ended

  -- each worker has left a closed front
  pub each_closed : (fronts fronts' : List L) (desks desks' : List DeskState) → EachWorked left_of done_of faults_of fronts fronts' desks desks'
      → list_all (λ (d : DeskState). d.closed) desks' ≡ true → EachClosed left_of faults_of fronts fronts'
  each_closed [] [] [] [] each all = tt
  each_closed (a ∷ fronts) (b ∷ fronts') (p ∷ desks) (q ∷ desks') each all =
      let both = both_true q.closed (list_all (λ (d : DeskState). d.closed) desks') all in
      let here = each.0.closed both.0 in
      (here.0, here.1, each_closed fronts fronts' desks desks' each.1 both.1)
  each_closed [] [] [] (q ∷ desks') each all = absurd each
  each_closed [] [] (p ∷ desks) desks' each all = absurd each
  each_closed [] (b ∷ fronts') desks desks' each all = absurd each
  each_closed (a ∷ fronts) [] desks desks' each all = absurd each
  each_closed (a ∷ fronts) (b ∷ fronts') [] desks' each all = absurd each
  each_closed (a ∷ fronts) (b ∷ fronts') (p ∷ desks) [] each all = absurd each

  -- a worker has left a front that failed
  pub one_failed : (fronts fronts' : List L) (desks desks' : List DeskState) → EachWorked left_of done_of faults_of fronts fronts' desks desks'
      → list_all (λ (d : DeskState). d.closed) desks' ≡ false → OneFailed faults_of fronts fronts'
  one_failed [] [] [] [] each not = absurd (cc not)
  one_failed (a ∷ fronts) (b ∷ fronts') (p ∷ desks) (q ∷ desks') each not =
      one_of_two q.closed (list_all (λ (d : DeskState). d.closed) desks') not each.0.fault (one_failed fronts fronts' desks desks' each.1)
  one_failed [] [] [] (q ∷ desks') each not = absurd each
  one_failed [] [] (p ∷ desks) desks' each not = absurd each
  one_failed [] (b ∷ fronts') desks desks' each not = absurd each
  one_failed (a ∷ fronts) [] desks desks' each not = absurd each
  one_failed (a ∷ fronts) (b ∷ fronts') [] desks' each not = absurd each
  one_failed (a ∷ fronts) (b ∷ fronts') (p ∷ desks) [] each not = absurd each

-- a slice that was written over the whole of a list
take_front : {A : Type 0} (xs rest : List A) → take (length xs) (xs ++ rest) ≡ xs
take_front [] rest = refl
take_front (x ∷ xs) rest = ap (λ ys. x ∷ ys) (take_front xs rest)

pub whole_written : {A : Type 0} (count : ℕ) (xs rest : List A) → count ≡ length xs → take count (xs ++ rest) ≡ xs
whole_written count xs rest is = ap (λ n. take n (xs ++ rest)) is ∙ take_front xs rest
