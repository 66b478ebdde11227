-- The call that was kept becomes the last of the history, and the book goes back into its slot.
use Rattle.std.proofs.Common.{◌≡◌, ℕ, ◌+◌, ◌<◌, ◌%◌, ◌^◌, ◌≢◌, List, [], ◌∷◌, ◌++◌, length, refl, ap, sym, ◌∙◌, subst, arith, ⊎_elim, inl, Option, Some}
use Rattle.std.proofs.Common.{slice_index, slice_set, length-append}
use Rattle.std.proofs.lemmas.List.{append-nil}
use Rattle.std.proofs.lemmas.List.Elements.{Contains-append_left, Contains-append_right}
use Rattle.std.specs.List.{Contains}
use mathlib.Core.Option.{some}
use lib.ListN.{get_elem?}
use Rattle.atomic_table.specs.Table.{State, Me, Act, Valid, Allows, homes_after, carried_after, gives}
use Rattle.ldar_law.specs.Machine.{Moment}
use Rattle.sync_room.specs.Calls.{RoomCall}
use Rattle.sync_room.specs.Rule.{SeatView, Stage, idle, waits, works, keeps, spent, IsRoom, FitsRoom, SeatsDiffer, KnowsCallers, IsServed, MayFollow}
use Rattle.sync_room.specs.Rule.{IsInSlot, IsWithSeat, HasTicket, tickets_of, IsStage, all_names, after_advance, Advances}
use Rattle.sync_room.proofs.Histories.{knows_all, knows_none, knows_more, calls_by-other, moment_after-snoc}
use Rattle.sync_room.proofs.Views.{each_set, differ_set, waiting_set, named_nowhere}

-- the stage of another seat, whose ticket is not the one that was served
stage_more : (start : Moment) (log : List RoomCall) (u : SeatView) (call : RoomCall) (stage : Stage) → (HasTicket stage (length log) → ⊥)
    → IsStage start log u stage → IsStage start (log ++ call ∷ []) u stage
stage_more start log u call idle other is = is
stage_more start log u call (waits t) other is = is
stage_more start log u call (works t) other is = absurd (other is.next)
stage_more start log u call (keeps t room) other is = absurd (other is.0.next)
stage_more start log u call spent other is = tt

-- another view fits, after one call more
fits_more : (start : Moment) (log : List RoomCall) (drawn : ℕ) (v u : SeatView) (call : RoomCall) → HasTicket v.stage (length log)
    → Contains v.names call.caller → SeatsDiffer v u → FitsRoom start log drawn u
    → FitsRoom start (log ++ call ∷ []) drawn u
fits_more start log drawn v u call has named differ fits =
    let mine : Contains (all_names v) call.caller = Contains-append_left v.names v.joined_names call.caller named in
    let not_served : HasTicket u.stage (length log) → ⊥ = λ theirs. differ.tickets (length log) has theirs in
    record {
      knows = knows_more log u.seen u.names call fits.knows
          (λ name among same. differ.names call.caller mine (Contains-append_left u.names u.joined_names call.caller (subst (Contains u.names) (sym same) among)));
      of_joined = knows_more log u.joined_seen u.joined_names call fits.of_joined
          (λ name among same. differ.names call.caller mine (Contains-append_right u.names u.joined_names call.caller (subst (Contains u.joined_names) (sym same) among)));
      own = fits.own;
      apart = fits.apart;
      below = fits.below;
      counted = fits.counted;
      ticket = λ t its.
          let within = fits.ticket t its in
          let differs : t ≢ length log = λ same. not_served (subst (HasTicket u.stage) same its) in
          (omega (arith, within.0, differs, length-append log (call ∷ [])), within.1);
      stage = stage_more start log u call u.stage not_served fits.stage;
    }

-- the view of the seat whose call came fits
fits_advance : (start : Moment) (log : List RoomCall) (drawn : ℕ) (v : SeatView) (call : RoomCall) → v.start ≡ start → v.seen ≡ log → FitsRoom start log drawn v
    → FitsRoom start (log ++ call ∷ []) drawn (after_advance v call)
fits_advance start log drawn v call of_room whole fits = record {
  knows = subst (λ seen. KnowsCallers (log ++ call ∷ []) v.names (seen ++ call ∷ [])) (sym whole) (knows_all (log ++ call ∷ []) v.names);
  of_joined = knows_none (log ++ call ∷ []) [] (log ++ call ∷ [], refl);
  own = fits.own;
  apart = λ name among nowhere. named_nowhere name nowhere;
  below = λ name among. fits.below name (Contains-append_left v.names v.joined_names name (subst (λ ns. Contains ns name) (append-nil v.names) among));
  counted = fits.counted;
  ticket = λ t has. absurd has;
  stage = of_room;
}

-- the view of the seat whose call came differs from the others
differ_advance : (v u : SeatView) (call : RoomCall) → SeatsDiffer v u → SeatsDiffer (after_advance v call) u
differ_advance v u call differ = record {
  tickets = λ t mine theirs. absurd mine;
  names = λ name mine theirs. differ.names name (Contains-append_left v.names v.joined_names name (subst (λ ns. Contains ns name) (append-nil v.names) mine)) theirs;
}

module _ {B : Type 0} (moment_at : B → Moment) (is_durable : B → Type 0) (start : Moment) where
  -- the slot, after the book was put back
  back_home : (s : State (Option B) SeatView) (room : IsRoom moment_at is_durable start s) (book : B)
      → slice_set s.homes 0 (some (Some book)) ≡ some (Some book) ∷ []
  back_home s room book =
      ⊎_elim
      (λ (here : IsInSlot moment_at is_durable start room.log s.homes). ap (λ hs. slice_set hs 0 (some (Some book))) here.there)
      (λ (out : IsWithSeat s.homes s.views). ap (λ hs. slice_set hs 0 (some (Some book))) out.out)
      room.home

  -- the step
  advanced : (id ticket : ℕ) (me : Me (Option B) SeatView) (call : RoomCall) (book : B) → me.0.stage ≡ keeps ticket call → me.1 ≡ (0, Some book) ∷ []
      → moment_at book ≡ call.end → is_durable book
      → (s : State (Option B) SeatView) (room : IsRoom moment_at is_durable start s) → get_elem? s.views id ≡ some me.0
      → (w : SeatView) × (a : Act (Option B)) × Valid s.homes me.1 a
      × IsRoom moment_at is_durable start (record { words = room.drawn ∷ (length room.log + 1) % 2 ^ 64 ∷ []; homes = homes_after s.homes me.1 a; views = slice_set s.views id w })
      × (◌≡◌ {A = Me (Option B) SeatView} (w, carried_after me.1 a) (after_advance me.0 call, []))
  advanced id ticket me call book is held moment durable s room at =
      let v : SeatView = me.0 in
      let fits : FitsRoom start room.log room.drawn v = room.fits id v at in
      let stage : IsServed start room.log v ticket × MayFollow start v room.log call = subst (IsStage start room.log v) is fits.stage in
      let has : HasTicket v.stage (length room.log) = subst (λ g. HasTicket g (length room.log)) (sym is) stage.0.next in
      let named : Contains v.names call.caller = fits.own call.caller stage.1.own in
      let below : call.caller < room.drawn = fits.below call.caller (Contains-append_left v.names v.joined_names call.caller named) in
      let within : length room.log < room.drawn = (fits.ticket (length room.log) has).1 in
      let more : length (room.log ++ call ∷ []) ≡ length room.log + 1 = length-append room.log (call ∷ []) in
      let bounded : room.drawn < 2 ^ 64 = room.bounded in
      let served : (length room.log + 1) % 2 ^ 64 ≡ length (room.log ++ call ∷ []) = omega (arith, more, within, bounded) in
      let w : SeatView = after_advance v call in
      let put : homes_after s.homes me.1 gives ≡ some (Some book) ∷ [] = ap (λ c. homes_after s.homes c gives) held ∙ back_home s room book in (
        w,
        gives,
        tt,
        record {
          log = room.log ++ call ∷ [];
          drawn = room.drawn;
          words = ap (λ n. room.drawn ∷ n ∷ []) served;
          bounded = room.bounded;
          served = omega (arith, more, within);
          wait =
              let changed = waiting_set s.views id v w at in
              let before = room.wait in
              let one_before : tickets_of v.stage ≡ 1 = ap tickets_of is in
              omega (arith, changed, before, one_before, more);
          legal = stage.1.legal;
          fresh = λ name up. calls_by-other name room.log call (λ same. omega (arith, same, below, up)) ∙ room.fresh name up;
          fits = each_set (FitsRoom start (room.log ++ call ∷ []) room.drawn) s.views id w (fits_advance start room.log room.drawn v call stage.0.of_room stage.0.whole fits)
              (λ i u there apart. fits_more start room.log room.drawn v u call has named (room.differ id i v u at there (λ e. apart (sym e))) (room.fits i u there));
          differ = differ_set s.views id w room.differ (λ j u there apart. differ_advance v u call (room.differ id j v u at there (λ e. apart (sym e))));
          home = inl (record { book = book; there = put; moment = moment ∙ sym (moment_after-snoc start room.log call); durable = durable });
        },
        ap (λ c. (w, carried_after c gives)) held,
      )

  -- an advance keeps the rule
  pub advances : (slots id ticket : ℕ) (me : Me (Option B) SeatView) (call : RoomCall) (book : B) → me.0.stage ≡ keeps ticket call
      → me.1 ≡ (0, Some book) ∷ [] → moment_at book ≡ call.end → is_durable book
      → Allows (IsRoom moment_at is_durable start) slots id me 1 (λ n. (n + 1) % 2 ^ 64) (Advances me)
  advances slots id ticket me call book is held moment durable s room count at small =
      let P : List ℕ → Type 0 = λ ws. (w : SeatView) × (a : Act (Option B)) × Valid s.homes me.1 a
      × IsRoom moment_at is_durable start (record { words = slice_set ws 1 ((slice_index ws 1 + 1) % 2 ^ 64); homes = homes_after s.homes me.1 a; views = slice_set s.views id w })
      × (◌≡◌ {A = Me (Option B) SeatView} (w, carried_after me.1 a) (after_advance me.0 call, [])) in
      let done : P s.words = subst P (sym room.words) (advanced id ticket me call book is held moment durable s room at) in
      (done.0, done.1, done.2, done.3, λ other its is'. done.4 ∙ ap (λ c. (after_advance me.0 c, [])) (cc (is, is')))
