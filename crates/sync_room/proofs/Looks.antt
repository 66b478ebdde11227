-- A seat looks at the history so far, and takes the book if it is served.
use Rattle.std.proofs.Common.{◌≡◌, ◌<◌, ◌^◌, ℕ, ◌==◌, ◌≢◌, Bool, true, false, List, [], ◌∷◌, length, refl, ap, sym, ◌∙◌, subst, arith, ⊎_elim, inr, Option, Some}
use Rattle.std.proofs.Common.{slice_index, slice_set}
use Rattle.std.proofs.lemmas.List.{append-nil}
use Rattle.std.proofs.lemmas.List.Elements.{Contains-append_left}
use Rattle.std.proofs.lemmas.Bool.Decides.{nat_tests}
use Rattle.std.specs.List.{Contains}
use mathlib.Core.Option.{some, none, some-injective}
use mathlib.Core.Logic.{dite}
use native.Mathlib.Decide.{ℕ_discrete}
use lib.ListN.{get_elem?}
use Rattle.atomic_table.specs.Table.{State, Me, Act, stepped, Valid, Allows, homes_after, carried_after, keeps as stays, takes}
use Rattle.ldar_law.specs.Machine.{Moment}
use Rattle.sync_room.specs.Calls.{RoomCall, IsLegal, moment_after}
use Rattle.sync_room.specs.Rule.{SeatView, Stage, idle, waits, works, keeps, spent, IsRoom, FitsRoom, SeatsDiffer, IsInSlot, IsWithSeat, HasTicket, HasBook}
use Rattle.sync_room.specs.Rule.{tickets_of, IsStage, all_names, after_look, Looks, LooksIdle, LooksFor, LooksServed}
use Rattle.sync_room.proofs.Histories.{knows_all, knows_none}
use Rattle.sync_room.proofs.Views.{each_set, differ_set, out_here, room_set, waiting_set, named_nowhere}

-- what a look shows
looks_at : (start : Moment) (log : List RoomCall) (drawn : ℕ) (v : SeatView) (stage : Stage) → v.start ≡ start → IsLegal start log
    → FitsRoom start log drawn v → drawn < 2 ^ 64 → Looks v (length log) (after_look v log stage)
looks_at start log drawn v stage of_room legal fits bounded = record {
  start = refl;
  legal = subst (λ from. IsLegal from log) (sym of_room) legal;
  length_is = refl;
  names = refl;
  own = refl;
  drawn = (refl, omega (arith, fits.counted, bounded));
  none_joined = (refl, refl);
  knows = fits.knows;
  of_joined = fits.of_joined;
  apart = fits.apart;
  named = λ name own. Contains-append_left v.names v.joined_names name (fits.own name own);
}

-- the view after a look fits
pub fits_look : (start : Moment) (log : List RoomCall) (drawn : ℕ) (v : SeatView) (stage : Stage) → ((t : ℕ) → HasTicket stage t → HasTicket v.stage t)
    → FitsRoom start log drawn v
    → IsStage start log (after_look v log stage) stage → FitsRoom start log drawn (after_look v log stage)
fits_look start log drawn v stage same fits is = record {
  knows = knows_all log (all_names v);
  of_joined = knows_none log [] (log, refl);
  own = λ name own. Contains-append_left v.names v.joined_names name (fits.own name own);
  apart = λ name among nowhere. named_nowhere name nowhere;
  below = λ name among. fits.below name (subst (λ ns. Contains ns name) (append-nil (all_names v)) among);
  counted = fits.counted;
  ticket = λ t has. fits.ticket t (same t has);
  stage = is;
}

-- the view after a look differs from the others
pub differ_look : (log : List RoomCall) (v u : SeatView) (stage : Stage) → ((t : ℕ) → HasTicket stage t → HasTicket v.stage t) → SeatsDiffer v u
    → SeatsDiffer (after_look v log stage) u
differ_look log v u stage same differ = record {
  tickets = λ t mine theirs. differ.tickets t (same t mine) theirs;
  names = λ name mine theirs. differ.names name (subst (λ ns. Contains ns name) (append-nil (all_names v)) mine) theirs;
}

-- the seat that has the book has the ticket that is served next
pub holder_served : (start : Moment) (log : List RoomCall) (u : SeatView) (stage : Stage) → IsStage start log u stage → HasBook stage
    → HasTicket stage (length log)
holder_served start log u idle is has = absurd has
holder_served start log u (waits t) is has = absurd has
holder_served start log u (works t) is has = is.next
holder_served start log u (keeps t call) is has = is.0.next
holder_served start log u spent is has = absurd has

module _ {B : Type 0} (moment_at : B → Moment) (is_durable : B → Type 0) (start : Moment) where
  -- a load of word 1 that changes only a view
  pub allowed : (s : State (Option B) SeatView) (room : IsRoom moment_at is_durable start s) (id : ℕ) (me : Me (Option B) SeatView) (w : SeatView) (then : ℕ → Me (Option B) SeatView → Type 0)
      → get_elem? s.views id ≡ some me.0 → FitsRoom start room.log room.drawn w
      → ((j : ℕ) (u : SeatView) → get_elem? s.views j ≡ some u → j ≢ id → SeatsDiffer w u) → (HasBook me.0.stage → HasBook w.stage)
      → tickets_of w.stage ≡ tickets_of me.0.stage
      → then (length room.log) (w, me.1)
      → (w : SeatView) × (a : Act (Option B)) × Valid s.homes me.1 a × IsRoom moment_at is_durable start (stepped s 1 (slice_index s.words 1) id me.1 w a) × then (slice_index s.words 1) (w, carried_after me.1 a)
  allowed s room id me w then at fits differ still tickets told =
      let same : s.words ≡ slice_set s.words 1 (slice_index s.words 1) = subst (λ ws. ws ≡ slice_set ws 1 (slice_index ws 1)) (sym room.words) refl in (
        w,
        stays,
        tt,
        subst (λ ws. IsRoom moment_at is_durable start (record { words = ws; homes = s.homes; views = slice_set s.views id w })) same (room_set moment_at is_durable start s room id me.0 w at fits differ still tickets),
        subst (λ n. then n (w, me.1)) (ap (λ ws. slice_index ws 1) (sym room.words)) told,
      )

  -- a look of a seat that waits for nothing
  pub looks_idle : (slots id : ℕ) (me : Me (Option B) SeatView) → me.0.stage ≡ idle
      → Allows (IsRoom moment_at is_durable start) slots id me 1 (λ n. n) (LooksIdle me)
  looks_idle slots id me is s room count at small =
      let fits : FitsRoom start room.log room.drawn me.0 = room.fits id me.0 at in
      let of_room : me.0.start ≡ start = subst (IsStage start room.log me.0) is fits.stage in
      let ticketless : (t : ℕ) → HasTicket idle t → HasTicket me.0.stage t = λ t has. absurd has in
      allowed s room id me (after_look me.0 room.log idle) (LooksIdle me) at (fits_look start room.log room.drawn me.0 idle ticketless fits of_room)
      (λ j u there apart. differ_look room.log me.0 u idle ticketless (room.differ id j me.0 u at there (λ e. apart (sym e)))) (λ has. absurd (subst HasBook is has)) (ap tickets_of (sym is))
      (record { looks = looks_at start room.log room.drawn me.0 idle of_room room.legal fits room.bounded; idle = refl; slots = refl })

  -- no seat has the book while another waits with the ticket that is served next
  pub nobody_has : (s : State (Option B) SeatView) (room : IsRoom moment_at is_durable start s) (id ticket : ℕ) (v : SeatView) → get_elem? s.views id ≡ some v
      → v.stage ≡ waits ticket → ticket ≡ length room.log
      → IsWithSeat s.homes s.views → ⊥
  nobody_has s room id ticket v at is served out =
      let u : SeatView = out.view in
      let fits : FitsRoom start room.log room.drawn u = room.fits out.seat u out.there in
      let theirs : HasTicket u.stage (length room.log) = holder_served start room.log u u.stage fits.stage out.has in
      dite
      (ℕ_discrete out.seat id)
      (λ (same : out.seat ≡ id).
      let here : u ≡ v = some-injective u v (sym out.there ∙ (ap (get_elem? s.views) same ∙ at)) in
      subst HasBook (ap (λ x. x.stage) here ∙ is) out.has)
      (λ (other : ¬ (out.seat ≡ id)).
      let mine : HasTicket v.stage (length room.log) = subst (λ g. HasTicket g (length room.log)) (sym is) served in
      (room.differ out.seat id u v out.there at other).tickets (length room.log) theirs mine)

  -- the step, if the ticket is served
  took : (slots id ticket : ℕ) (me : Me (Option B) SeatView) → me.0.stage ≡ waits ticket → me.1 ≡ []
      → (s : State (Option B) SeatView) (room : IsRoom moment_at is_durable start s)
      → get_elem? s.views id ≡ some me.0 → (length room.log == ticket) ≡ true → IsInSlot moment_at is_durable start room.log s.homes
      → (w : SeatView) × (a : Act (Option B)) × Valid s.homes me.1 a
      × IsRoom moment_at is_durable start (record { words = room.drawn ∷ length room.log ∷ []; homes = homes_after s.homes me.1 a; views = slice_set s.views id w })
      × LooksFor moment_at ticket me (length room.log) (w, carried_after me.1 a)
  took slots id ticket me is empty s room at test here =
      let fits : FitsRoom start room.log room.drawn me.0 = room.fits id me.0 at in
      let of_room : me.0.start ≡ start = subst (IsStage start room.log me.0) is fits.stage in
      let served : ticket ≡ length room.log = grind (arith, nat_tests) in
      let same : (t : ℕ) → HasTicket (works ticket) t → HasTicket me.0.stage t = λ t has. subst (λ g. HasTicket g t) (sym is) has in
      let w : SeatView = after_look me.0 room.log (works ticket) in
      let out : slice_set s.homes 0 none ≡ none ∷ [] = ap (λ hs. slice_set hs 0 none) here.there in (
        w,
        takes 0 (Some here.book),
        ap (λ hs. get_elem? hs 0) here.there,
        record {
          log = room.log;
          drawn = room.drawn;
          words = refl;
          bounded = room.bounded;
          served = room.served;
          wait =
              let changed = waiting_set s.views id me.0 w at in
              let before = room.wait in
              let one_before : tickets_of me.0.stage ≡ 1 = ap tickets_of is in
              omega (arith, changed, before, one_before);
          legal = room.legal;
          fresh = room.fresh;
          fits = each_set (FitsRoom start room.log room.drawn) s.views id w
              (fits_look start room.log room.drawn me.0 (works ticket) same fits (record { of_room = of_room; next = served; whole = refl }))
              (λ i u there _. room.fits i u there);
          differ = differ_set s.views id w room.differ (λ j u there apart. differ_look room.log me.0 u (works ticket) same (room.differ id j me.0 u at there (λ e. apart (sym e))));
          home = inr (out_here (slice_set s.homes 0 none) s.views id me.0 w at out tt);
        },
        (
          looks_at start room.log room.drawn me.0 (works ticket) of_room room.legal fits room.bounded,
          rw test (record { stage = refl; book = here.book; slots = ap (λ c. (0, Some here.book) ∷ c) empty; moment = subst (λ from. moment_at here.book ≡ moment_after from room.log) (sym of_room) here.moment }),
        ),
      )

  -- the step, if the ticket is served or not
  looked : (slots id ticket : ℕ) (me : Me (Option B) SeatView) → me.0.stage ≡ waits ticket → me.1 ≡ []
      → (s : State (Option B) SeatView) (room : IsRoom moment_at is_durable start s)
      → get_elem? s.views id ≡ some me.0 → (b : Bool) → (length room.log == ticket) ≡ b
      → (w : SeatView) × (a : Act (Option B)) × Valid s.homes me.1 a
      × IsRoom moment_at is_durable start (record { words = room.drawn ∷ length room.log ∷ []; homes = homes_after s.homes me.1 a; views = slice_set s.views id w })
      × LooksFor moment_at ticket me (length room.log) (w, carried_after me.1 a)
  looked slots id ticket me is empty s room at true test =
      let served : ticket ≡ length room.log = grind (arith, nat_tests) in
      ⊎_elim
      (λ (here : IsInSlot moment_at is_durable start room.log s.homes). took slots id ticket me is empty s room at test here)
      (λ (out : IsWithSeat s.homes s.views). absurd (nobody_has s room id ticket me.0 at is served out))
      room.home
  looked slots id ticket me is empty s room at false test =
      let fits : FitsRoom start room.log room.drawn me.0 = room.fits id me.0 at in
      let of_room : me.0.start ≡ start = subst (IsStage start room.log me.0) is fits.stage in
      let same : (t : ℕ) → HasTicket (waits ticket) t → HasTicket me.0.stage t = λ t has. subst (λ g. HasTicket g t) (sym is) has in
      let w : SeatView = after_look me.0 room.log (waits ticket) in (
        w,
        stays,
        tt,
        subst (λ ws. IsRoom moment_at is_durable start (record { words = ws; homes = s.homes; views = slice_set s.views id w })) room.words
            (room_set moment_at is_durable start s room id me.0 w at (fits_look start room.log room.drawn me.0 (waits ticket) same fits of_room)
            (λ j u there apart. differ_look room.log me.0 u (waits ticket) same (room.differ id j me.0 u at there (λ e. apart (sym e)))) (λ has. absurd (subst HasBook is has)) (ap tickets_of (sym is))),
        (looks_at start room.log room.drawn me.0 (waits ticket) of_room room.legal fits room.bounded, rw test (refl, refl)),
      )

  -- a look of a seat that waits with a ticket: if the ticket is served, the book is taken
  pub looks_served : (slots id ticket : ℕ) (me : Me (Option B) SeatView) → me.0.stage ≡ waits ticket → me.1 ≡ []
      → Allows (IsRoom moment_at is_durable start) slots id me 1 (λ n. n) (LooksServed moment_at me)
  looks_served slots id ticket me is empty s room count at small =
      let P : List ℕ → Type 0 = λ ws. (w : SeatView) × (a : Act (Option B)) × Valid s.homes me.1 a
      × IsRoom moment_at is_durable start (record { words = slice_set ws 1 (slice_index ws 1); homes = homes_after s.homes me.1 a; views = slice_set s.views id w })
      × LooksFor moment_at ticket me (slice_index ws 1) (w, carried_after me.1 a) in
      let told : P s.words = subst P (sym room.words) (looked slots id ticket me is empty s room at (length room.log == ticket) refl) in (
        told.0,
        told.1,
        told.2,
        told.3,
        λ other its. let same : ticket ≡ other = cc (is, its) in subst (λ t. LooksFor moment_at t me (slice_index s.words 1) (told.0, carried_after me.1 told.1)) same told.4,
      )
