-- The parts of the rule on all views, after one view changed.
use Rattle.std.proofs.Common.{◌≡◌, ℕ, zero, suc, ◌+◌, ◌≤◌, ◌≢◌, List, [], ◌∷◌, ◌++◌, set, refl, ap, sym, ◌∙◌, subst, arith, ⊎_elim, inl, inr, Option}
use mathlib.Core.Option.{Option as Place, some, none, some-injective, some-ne-none}
use mathlib.Core.Logic.{dite}
use native.Mathlib.Decide.{ℕ_discrete}
use lib.ListN.{get_elem?}
use Rattle.std.specs.List.{Contains}
use Rattle.atomic_table.proofs.Lists.{at_set, set_else}
use Rattle.atomic_table.specs.Table.{State}
use Rattle.ldar_law.specs.Machine.{Moment}
use Rattle.sync_room.specs.Calls.{RoomCall}
use Rattle.sync_room.specs.Rule.{SeatView, IsRoom, FitsRoom, SeatsDiffer, HasBook, tickets_of, waiting, IsInSlot, IsWithSeat, InSlotOrWithSeat}

-- what is put at a place of a list is there
pub set_there : {A : Type 0} (xs : List A) (i : ℕ) (a b : A) → get_elem? xs i ≡ some a → get_elem? (set xs i b) i ≡ some b
set_there [] i a b at = absurd (some-ne-none a (sym at))
set_there (x ∷ xs) zero a b at = refl
set_there (x ∷ xs) (suc i) a b at = set_there xs i a b at

-- a fact of all views, from the view that changed and the others
pub each_set : (P : SeatView → Type 0) (views : List SeatView) (id : ℕ) (w : SeatView) → P w
    → ((i : ℕ) (u : SeatView) → get_elem? views i ≡ some u → i ≢ id → P u)
    → (i : ℕ) (u : SeatView) → get_elem? (set views id w) i ≡ some u → P u
each_set P views id w new old i u at = ⊎_elim (λ (t : (i ≡ id) × (w ≡ u)). subst P t.1 new) (λ (t : (i ≢ id) × (get_elem? views i ≡ some u)). old i u t.1 t.0) (at_set views id i w u at)

-- views differ both ways
pub differ_turned : (v w : SeatView) → SeatsDiffer v w → SeatsDiffer w v
differ_turned v w d = record { tickets = λ t a b. d.tickets t b a; names = λ n a b. d.names n b a }

-- the views at different places differ
abbrev pub AllSeatsDiffer : List SeatView → Type 0
AllSeatsDiffer views = (i j : ℕ) (v w : SeatView) → get_elem? views i ≡ some v → get_elem? views j ≡ some w → ¬ (i ≡ j) → SeatsDiffer v w

-- all views differ, if the one that changed differs from the others
pub differ_set : (views : List SeatView) (id : ℕ) (w : SeatView) → AllSeatsDiffer views
    → ((j : ℕ) (u : SeatView) → get_elem? views j ≡ some u → j ≢ id → SeatsDiffer w u) → AllSeatsDiffer (set views id w)
differ_set views id w all new i j a b at bt apart =
    ⊎_elim
    (λ (s : (i ≡ id) × (w ≡ a)).
    ⊎_elim
    (λ (t : (j ≡ id) × (w ≡ b)). absurd (apart (s.0 ∙ sym t.0)))
    (λ (t : (j ≢ id) × (get_elem? views j ≡ some b)). subst (λ u. SeatsDiffer u b) s.1 (new j b t.1 t.0))
    (at_set views id j w b bt))
    (λ (s : (i ≢ id) × (get_elem? views i ≡ some a)).
    ⊎_elim
    (λ (t : (j ≡ id) × (w ≡ b)). subst (λ u. SeatsDiffer a u) t.1 (differ_turned w a (new i a s.1 s.0)))
    (λ (t : (j ≢ id) × (get_elem? views j ≡ some b)). all i j a b s.1 t.1 apart)
    (at_set views id j w b bt))
    (at_set views id i w a at)

module _ {B : Type 0} (homes : List (Place (Option B))) (views : List SeatView) where
  -- the book is still with a seat, if the view that changed still has it
  pub out_set : (id : ℕ) (v w : SeatView) → get_elem? views id ≡ some v → (HasBook v.stage → HasBook w.stage) → IsWithSeat homes views
      → IsWithSeat homes (set views id w)
  out_set id v w at still is =
      dite
      (ℕ_discrete is.seat id)
      (λ (same : is.seat ≡ id).
      let here : is.view ≡ v = some-injective is.view v (sym is.there ∙ (ap (get_elem? views) same ∙ at)) in
      record {
        out = is.out;
        seat = id;
        view = w;
        there = set_there views id v w at;
        has = still (subst (λ u. HasBook u.stage) here is.has);
      })
      (λ (other : ¬ (is.seat ≡ id)).
      record { out = is.out; seat = is.seat; view = is.view; there = set_else views id is.seat w other ∙ is.there; has = is.has })

  -- the book is with the seat whose view changed
  pub out_here : (id : ℕ) (v w : SeatView) → get_elem? views id ≡ some v → homes ≡ none ∷ [] → HasBook w.stage → IsWithSeat homes (set views id w)
  out_here id v w at out has = record { out = out; seat = id; view = w; there = set_there views id v w at; has = has }

-- the book is where it was, if the view that changed still has it
pub home_set : {B : Type 0} (moment_at : B → Moment) (is_durable : B → Type 0) (start : Moment) (log : List RoomCall) (homes : List (Place (Option B))) (views : List SeatView) (id : ℕ) (v w : SeatView)
    → get_elem? views id ≡ some v → (HasBook v.stage → HasBook w.stage) → InSlotOrWithSeat moment_at is_durable start log homes views
    → InSlotOrWithSeat moment_at is_durable start log homes (set views id w)
home_set moment_at is_durable start log homes views id v w at still home =
    ⊎_elim (λ (here : IsInSlot moment_at is_durable start log homes). inl here) (λ (out : IsWithSeat homes views). inr (out_set homes views id v w at still out)) home

-- a view that fits still fits when more tickets were drawn
pub fits_drawn : (start : Moment) (log : List RoomCall) (drawn more : ℕ) (v : SeatView) → drawn ≤ more → FitsRoom start log drawn v → FitsRoom start log more v
fits_drawn start log drawn more v up fits = record {
  knows = fits.knows;
  of_joined = fits.of_joined;
  own = fits.own;
  apart = fits.apart;
  below = λ name among. let below = fits.below name among in omega arith;
  counted = let counted = fits.counted in omega arith;
  ticket = λ t has. let within = fits.ticket t has in (within.0, omega arith);
  stage = fits.stage;
}

-- how many seats wait, after one view changed
pub waiting_set : (views : List SeatView) (id : ℕ) (v w : SeatView) → get_elem? views id ≡ some v
    → waiting (set views id w) + tickets_of v.stage ≡ waiting views + tickets_of w.stage
waiting_set [] id v w at = absurd (some-ne-none v (sym at))
waiting_set (x ∷ views) zero v w at = let same : tickets_of x.stage ≡ tickets_of v.stage = ap (λ u. tickets_of u.stage) (some-injective x v at) in omega (arith, same)
waiting_set (x ∷ views) (suc id) v w at = let more = waiting_set views id v w at in omega (arith, more)

-- how many seats wait, with one view more
pub waiting_snoc : (views : List SeatView) (w : SeatView) → waiting (views ++ w ∷ []) ≡ waiting views + tickets_of w.stage
waiting_snoc [] w = omega arith
waiting_snoc (x ∷ views) w = let more = waiting_snoc views w in omega (arith, more)

-- no name is among none
pub named_nowhere : (name : ℕ) → Contains [] name → ⊥
named_nowhere name among = let within = among.1 in omega arith

-- the rule still holds after one view changed and nothing else
abbrev pub room_set : {B : Type 0} (moment_at : B → Moment) (is_durable : B → Type 0) (start : Moment) (s : State (Option B) SeatView) (room : IsRoom moment_at is_durable start s) (id : ℕ) (v w : SeatView) → get_elem? s.views id ≡ some v
    → FitsRoom start room.log room.drawn w → ((j : ℕ) (u : SeatView) → get_elem? s.views j ≡ some u → j ≢ id → SeatsDiffer w u)
    → (HasBook v.stage → HasBook w.stage) → tickets_of w.stage ≡ tickets_of v.stage
    → IsRoom moment_at is_durable start (record { words = s.words; homes = s.homes; views = set s.views id w })
room_set moment_at is_durable start s room id v w at fits differ still same = record {
  log = room.log;
  drawn = room.drawn;
  words = room.words;
  bounded = room.bounded;
  served = room.served;
  wait = let changed = waiting_set s.views id v w at in let before = room.wait in omega (arith, changed, before, same);
  legal = room.legal;
  fresh = room.fresh;
  fits = each_set (FitsRoom start room.log room.drawn) s.views id w fits (λ i u there _. room.fits i u there);
  differ = differ_set s.views id w room.differ differ;
  home = home_set moment_at is_durable start room.log s.homes s.views id v w at still room.home;
}
