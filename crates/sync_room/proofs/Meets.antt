-- A new seat is made beside another, and one seat takes over what another has seen.
use Rattle.std.proofs.Common.{◌≡◌, ℕ, zero, suc, ◌≢◌, List, [], ◌∷◌, ◌++◌, set, refl, ap, sym, ◌∙◌, subst, arith, ⊎_elim, inl, inr, Option}
use Rattle.std.proofs.lemmas.List.Elements.{Contains-append_left, Contains-append_cases}
use Rattle.std.specs.List.{Contains}
use mathlib.Core.Option.{some}
use lib.ListN.{get_elem?}
use Rattle.atomic_table.specs.Table.{State, Splits, Joins}
use Rattle.atomic_table.proofs.Lists.{at_set, at_snoc, at_longer, set_again, set_else}
use Rattle.ldar_law.specs.Machine.{Moment}
use Rattle.sync_room.specs.Calls.{RoomCall}
use Rattle.sync_room.specs.Rule.{SeatView, idle, IsRoom, FitsRoom, SeatsDiffer, IsInSlot, IsWithSeat, HasBook, tickets_of, IsStage, split_view, joined_view}
use Rattle.sync_room.specs.Rule.{nobody}
use Rattle.sync_room.proofs.Histories.{knows_none}
use Rattle.sync_room.proofs.Views.{room_set, waiting_snoc, named_nowhere, differ_turned}

-- ---- one seat more

-- the view of a new seat fits
fits_split : (start : Moment) (log : List RoomCall) (drawn : ℕ) (v : SeatView) → v.start ≡ start → FitsRoom start log drawn v
    → FitsRoom start log drawn (split_view v)
fits_split start log drawn v of_room fits = record {
  knows = knows_none log v.seen fits.knows.begins;
  of_joined = knows_none log [] (log, refl);
  own = λ name own. absurd (cc own);
  apart = λ name among nowhere. named_nowhere name nowhere;
  below = λ name nowhere. absurd (named_nowhere name nowhere);
  counted = fits.counted;
  ticket = λ t has. absurd has;
  stage = of_room;
}

-- a view without ticket and names differs from all
differ_split : (v u : SeatView) → SeatsDiffer (split_view v) u
differ_split v u = record { tickets = λ t mine theirs. absurd mine; names = λ name mine theirs. named_nowhere name mine }

-- the rule holds with one view more
room_snoc : {B : Type 0} (moment_at : B → Moment) (is_durable : B → Type 0) (start : Moment) (s : State (Option B) SeatView) (room : IsRoom moment_at is_durable start s) (w : SeatView)
    → FitsRoom start room.log room.drawn w → ((u : SeatView) → SeatsDiffer w u) → tickets_of w.stage ≡ 0
    → IsRoom moment_at is_durable start (record { words = s.words; homes = s.homes; views = s.views ++ w ∷ [] })
room_snoc moment_at is_durable start s room w fits differ idle_none = record {
  log = room.log;
  drawn = room.drawn;
  words = room.words;
  bounded = room.bounded;
  served = room.served;
  wait = let changed = waiting_snoc s.views w in let before = room.wait in omega (arith, changed, before, idle_none);
  legal = room.legal;
  fresh = room.fresh;
  fits = λ i u there. ⊎_elim (λ old. room.fits i u old) (λ (new : w ≡ u). subst (FitsRoom start room.log room.drawn) new fits) (at_snoc s.views w u i there);
  differ = λ i j a b at bt apart.
      ⊎_elim
      (λ (old : get_elem? s.views i ≡ some a).
      ⊎_elim
      (λ (still : get_elem? s.views j ≡ some b). room.differ i j a b old still apart)
      (λ (new : w ≡ b). subst (SeatsDiffer a) new (differ_turned w a (differ a)))
      (at_snoc s.views w b j bt))
      (λ (new : w ≡ a). subst (λ x. SeatsDiffer x b) new (differ b))
      (at_snoc s.views w a i at);
  home =
      ⊎_elim
      (λ (here : IsInSlot moment_at is_durable start room.log s.homes). inl here)
      (λ (out : IsWithSeat s.homes s.views).
      inr (record { out = out.out; seat = out.seat; view = out.view; there = at_longer s.views (w ∷ []) out.seat out.view out.there; has = out.has }))
      room.home;
}

-- a split keeps the rule
pub splits : {B : Type 0} (moment_at : B → Moment) (is_durable : B → Type 0) (start : Moment) (id : ℕ) (v : SeatView) → v.stage ≡ idle → Splits (IsRoom {B = B} moment_at is_durable start) id v v (split_view v)
splits moment_at is_durable start id v is s room at =
    let fits : FitsRoom start room.log room.drawn v = room.fits id v at in
    let of_room : v.start ≡ start = subst (IsStage start room.log v) is fits.stage in
    subst (λ views. IsRoom moment_at is_durable start (record { words = s.words; homes = s.homes; views = views ++ split_view v ∷ [] })) (sym (set_again s.views id v at))
    (room_snoc moment_at is_durable start s room (split_view v) (fits_split start room.log room.drawn v of_room fits) (differ_split v) refl)

-- ---- two seats become one

-- two writes at different places may be exchanged
set_apart : {A : Type 0} (xs : List A) (i j : ℕ) (a b : A) → j ≢ i → set (set xs j b) i a ≡ set (set xs i a) j b
set_apart [] i j a b apart = refl
set_apart (x ∷ xs) zero zero a b apart = absurd (apart refl)
set_apart (x ∷ xs) zero (suc j) a b apart = refl
set_apart (x ∷ xs) (suc i) zero a b apart = refl
set_apart (x ∷ xs) (suc i) (suc j) a b apart = ap (λ ys. x ∷ ys) (set_apart xs i j a b (λ e. apart (ap suc e)))

-- a view that was joined to another fits
fits_nobody : (start : Moment) (log : List RoomCall) (drawn : ℕ) → FitsRoom start log drawn nobody
fits_nobody start log drawn = record {
  knows = knows_none log [] (log, refl);
  of_joined = knows_none log [] (log, refl);
  own = λ name own. absurd (cc own);
  apart = λ name among nowhere. named_nowhere name nowhere;
  below = λ name nowhere. absurd (named_nowhere name nowhere);
  counted = omega arith;
  ticket = λ t has. absurd has;
  stage = tt;
}

-- a view that was joined to another differs from all
differ_nobody : (u : SeatView) → SeatsDiffer nobody u
differ_nobody u = record { tickets = λ t mine theirs. absurd mine; names = λ name mine theirs. named_nowhere name mine }

-- the view of a seat that took over another fits
fits_joined : (start : Moment) (log : List RoomCall) (drawn : ℕ) (v w : SeatView) → v.stage ≡ idle → SeatsDiffer v w → FitsRoom start log drawn v
    → FitsRoom start log drawn w → FitsRoom start log drawn (joined_view v w)
fits_joined start log drawn v w is differ mine theirs = record {
  knows = mine.knows;
  of_joined = theirs.knows;
  own = mine.own;
  apart = λ name a b. differ.names name (Contains-append_left v.names v.joined_names name a) (Contains-append_left w.names w.joined_names name b);
  below = λ name among.
      ⊎_elim
      (λ (a : Contains v.names name). mine.below name (Contains-append_left v.names v.joined_names name a))
      (λ (b : Contains w.names name). theirs.below name (Contains-append_left w.names w.joined_names name b))
      (Contains-append_cases v.names w.names name among);
  counted = mine.counted;
  ticket = mine.ticket;
  stage = subst (IsStage start log (joined_view v w)) (sym is) (subst (IsStage start log v) is mine.stage);
}

-- the view of a seat that took over another differs from a third
differ_joined : (v w u : SeatView) → SeatsDiffer v u → SeatsDiffer w u → SeatsDiffer (joined_view v w) u
differ_joined v w u first second = record {
  tickets = first.tickets;
  names = λ name mine theirs.
      ⊎_elim
      (λ (a : Contains v.names name). first.names name (Contains-append_left v.names v.joined_names name a) theirs)
      (λ (b : Contains w.names name). second.names name (Contains-append_left w.names w.joined_names name b) theirs)
      (Contains-append_cases v.names w.names name mine);
}

-- a join keeps the rule
pub joins : {B : Type 0} (moment_at : B → Moment) (is_durable : B → Type 0) (start : Moment) (id other : ℕ) (v w : SeatView) → v.stage ≡ idle → w.stage ≡ idle
    → Joins (IsRoom {B = B} moment_at is_durable start) id v other w (joined_view v w) nobody
joins moment_at is_durable start id other v w is its s room at apart found =
    let both : SeatView = joined_view v w in
    let there : get_elem? s.views other ≡ some w = sym (set_else s.views id other both apart) ∙ found in
    let left : State _ SeatView = record { words = s.words; homes = s.homes; views = set s.views other nobody } in
    let room_left : IsRoom moment_at is_durable start left =
    room_set moment_at is_durable start s room other w nobody there (fits_nobody start room.log room.drawn) (λ j u at_j far. differ_nobody u) (λ has. absurd (subst HasBook its has)) (ap tickets_of (sym its)) in
    let at_left : get_elem? left.views id ≡ some v = set_else s.views other id nobody (λ e. apart (sym e)) ∙ at in
    let mine : FitsRoom start room.log room.drawn v = room.fits id v at in
    let theirs : FitsRoom start room.log room.drawn w = room.fits other w there in
    let differ : SeatsDiffer v w = room.differ id other v w at there (λ e. apart (sym e)) in
    let others : (j : ℕ) (u : SeatView) → get_elem? left.views j ≡ some u → j ≢ id → SeatsDiffer both u =
    λ j u at_j far.
    ⊎_elim
    (λ (t : (j ≡ other) × (nobody ≡ u)). subst (SeatsDiffer both) t.1 (differ_turned nobody both (differ_nobody both)))
    (λ (t : (j ≢ other) × (get_elem? s.views j ≡ some u)).
    differ_joined v w u (room.differ id j v u at t.1 (λ e. far (sym e))) (room.differ other j w u there t.1 (λ e. t.0 (sym e))))
    (at_set s.views other j nobody u at_j) in
    subst (λ views. IsRoom moment_at is_durable start (record { words = s.words; homes = s.homes; views = views })) (set_apart s.views id other both nobody apart)
    (room_set moment_at is_durable start left room_left id v both at_left (fits_joined start room.log room.drawn v w is differ mine theirs) others (λ has. has) refl)
