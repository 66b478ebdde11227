-- A ticket is drawn.
use Rattle.std.proofs.Common.{◌≡◌, ℕ, ◌+◌, ◌<◌, ◌≤◌, ◌^◌, ◌==◌, ◌⊎◌, Bool, true, false, List, [], ◌∷◌, ◌++◌, length, refl, ap, sym, ◌∙◌, subst, arith, ⊎_elim}
use Rattle.std.proofs.Common.{inl, Option, Some, None, slice_index, slice_set, length-append}
use Rattle.std.proofs.lemmas.List.{append-nil}
use Rattle.std.proofs.lemmas.List.Elements.{Contains-append_left, Contains-append_right}
use Rattle.std.proofs.lemmas.Bool.Decides.{nat_tests}
use Rattle.std.specs.List.{Contains}
use mathlib.Core.Option.{some, none}
use lib.ListN.{get_elem?}
use prog.Atomic.{either}
use Rattle.atomic_table.specs.Table.{State, Me, Act, step, Valid, Allows, homes_after, carried_after, keeps as stays}
use Rattle.ldar_law.specs.Machine.{Moment}
use Rattle.sync_room.specs.Calls.{RoomCall, calls_by}
use Rattle.sync_room.specs.Rule.{SeatView, KnowsCallers, idle, IsRoom, FitsRoom, SeatsDiffer, HasBook, tickets_of, IsStage, names_at, caller_at, after_draw, after_count}
use Rattle.sync_room.specs.Rule.{Draws}
use Rattle.sync_room.proofs.Histories.{none_before, knows_named, knows_none, contains_more}
use Rattle.sync_room.proofs.Views.{each_set, differ_set, home_set, fits_drawn, room_set, waiting_set, named_nowhere}

-- the own caller of a seat that drew is among its names
own_named : (names : List ℕ) (own : Option ℕ) (ticket name : ℕ) → ((n : ℕ) → own ≡ Some n → Contains names n) → Some (caller_at own ticket) ≡ Some name
    → Contains (names_at names own ticket) name
own_named names None ticket name named is =
    let same : ticket ≡ name = cc is in
    subst (Contains (names ++ ticket ∷ [])) same (Contains-append_right names (ticket ∷ []) ticket (0, omega arith, refl))
own_named names (Some own) ticket name named is = named name is

-- a name after a draw is an old name, or the ticket
named_before : (names : List ℕ) (own : Option ℕ) (ticket name : ℕ) → Contains (names_at names own ticket ++ []) name → Contains names name ⊎ (ticket ≡ name)
named_before names None ticket name among = contains_more names ticket name (subst (λ ns. Contains ns name) (append-nil (names ++ ticket ∷ [])) among)
named_before names (Some own) ticket name among = inl (subst (λ ns. Contains ns name) (append-nil names) among)

-- what is known of the callers of a seat that drew
knows_drew : (log seen : List RoomCall) (names : List ℕ) (own : Option ℕ) (ticket : ℕ) → KnowsCallers log names seen → calls_by ticket log ≡ []
    → KnowsCallers log (names_at names own ticket) seen
knows_drew log seen names None ticket knows fresh = knows_named log seen names ticket knows fresh
knows_drew log seen names (Some own) ticket knows fresh = knows

-- the view of a seat that drew fits
fits_draw : (start : Moment) (log : List RoomCall) (drawn : ℕ) (v : SeatView) → v.stage ≡ idle → length log ≤ drawn → calls_by drawn log ≡ []
    → FitsRoom start log drawn v
    → FitsRoom start log (drawn + 1) (after_draw v drawn)
fits_draw start log drawn v is served fresh fits = record {
  knows = knows_drew log v.seen v.names v.own drawn fits.knows fresh;
  of_joined = knows_none log [] (log, refl);
  own = λ name own. own_named v.names v.own drawn name fits.own own;
  apart = λ name among nowhere. named_nowhere name nowhere;
  below = λ name among.
      ⊎_elim
      (λ (old : Contains v.names name). let below = fits.below name (Contains-append_left v.names v.joined_names name old) in omega arith)
      (λ (new : drawn ≡ name). omega arith)
      (named_before v.names v.own drawn name among);
  counted = omega arith;
  ticket = λ t has. (omega (arith, served, has), omega (arith, has));
  stage = subst (IsStage start log v) is fits.stage;
}

-- the view of a seat that found how many tickets were drawn fits
fits_count : (start : Moment) (log : List RoomCall) (drawn : ℕ) (v : SeatView) → v.stage ≡ idle → FitsRoom start log drawn v
    → FitsRoom start log drawn (after_count v drawn)
fits_count start log drawn v is fits = record {
  knows = fits.knows;
  of_joined = fits.of_joined;
  own = fits.own;
  apart = fits.apart;
  below = fits.below;
  counted = omega arith;
  ticket = fits.ticket;
  stage = subst (IsStage start log (after_count v drawn)) (sym is) (subst (IsStage start log v) is fits.stage);
}

-- it differs from the others
differ_count : (drawn : ℕ) (v u : SeatView) → SeatsDiffer v u → SeatsDiffer (after_count v drawn) u
differ_count drawn v u differ = record { tickets = differ.tickets; names = differ.names }

-- at most as many calls were seen as tickets were drawn
seen_drawn : (start : Moment) (log : List RoomCall) (drawn : ℕ) (v : SeatView) → length log ≤ drawn → FitsRoom start log drawn v → length v.seen ≤ drawn
seen_drawn start log drawn v served fits =
    let begins = fits.knows.begins in
    omega (arith, served, ap length begins.1, length-append v.seen begins.0)

-- the view of a seat that drew differs from the others
differ_draw : (start : Moment) (log : List RoomCall) (drawn : ℕ) (v u : SeatView) → FitsRoom start log drawn u → SeatsDiffer v u
    → SeatsDiffer (after_draw v drawn) u
differ_draw start log drawn v u fits differ = record {
  tickets = λ t mine theirs. let within = fits.ticket t theirs in omega (arith, mine, within.1);
  names = λ name mine theirs.
      ⊎_elim
      (λ (old : Contains v.names name). differ.names name (Contains-append_left v.names v.joined_names name old) theirs)
      (λ (new : drawn ≡ name). let below = fits.below name theirs in omega arith)
      (named_before v.names v.own drawn name mine);
}

module _ {B : Type 0} (moment_at : B → Moment) (is_durable : B → Type 0) (start : Moment) where
  -- the step, if the number was drawn or not
  drew : (slots id old : ℕ) (me : Me (Option B) SeatView) → me.0.stage ≡ idle → old + 1 < 2 ^ 64 → (s : State (Option B) SeatView)
      → (room : IsRoom moment_at is_durable start s)
      → get_elem? s.views id ≡ some me.0 → (b : Bool) → (room.drawn == old) ≡ b
      → (w : SeatView) × (a : Act (Option B)) × Valid s.homes me.1 a
      × IsRoom moment_at is_durable start (record { words = either (room.drawn == old) (old + 1) room.drawn ∷ length room.log ∷ []; homes = homes_after s.homes me.1 a; views = slice_set s.views id w })
      × Draws (step slots 0 old (old + 1) none) me room.drawn (w, carried_after me.1 a)
  drew slots id old me is bounded s room at true test =
      let same : room.drawn ≡ old = grind (arith, nat_tests) in
      let w : SeatView = after_draw me.0 room.drawn in
      let next : either (room.drawn == old) (old + 1) room.drawn ≡ room.drawn + 1 = rw test (omega (arith, same)) in (
        w,
        stays,
        tt,
        record {
          log = room.log;
          drawn = room.drawn + 1;
          words = ap (λ n. n ∷ length room.log ∷ []) next;
          bounded = omega (arith, same, bounded);
          served = let served = room.served in omega arith;
          wait =
              let changed = waiting_set s.views id me.0 w at in
              let before = room.wait in
              let none_before : tickets_of me.0.stage ≡ 0 = ap tickets_of is in
              omega (arith, changed, before, none_before);
          legal = room.legal;
          fresh = λ name up. room.fresh name (omega arith);
          fits = each_set (FitsRoom start room.log (room.drawn + 1)) s.views id w
              (fits_draw start room.log room.drawn me.0 is room.served (room.fresh room.drawn (omega arith)) (room.fits id me.0 at))
              (λ i u there _. fits_drawn start room.log room.drawn (room.drawn + 1) u (omega arith) (room.fits i u there));
          differ = differ_set s.views id w room.differ
              (λ j u there apart. differ_draw start room.log room.drawn me.0 u (room.fits j u there) (room.differ id j me.0 u at there (λ e. apart (sym e))));
          home = home_set moment_at is_durable start room.log s.homes s.views id me.0 w at (λ has. absurd (subst HasBook is has)) room.home;
        },
        (
          rw test refl,
          seen_drawn start room.log room.drawn me.0 room.served (room.fits id me.0 at),
          none_before room.log me.0.seen room.drawn (room.fits id me.0 at).knows.begins (room.fresh room.drawn (omega arith)),
          (room.fits id me.0 at).counted,
        ),
      )
  drew slots id old me is bounded s room at false test =
      let next : either (room.drawn == old) (old + 1) room.drawn ≡ room.drawn = rw test refl in
      let w : SeatView = after_count me.0 room.drawn in (
        w,
        stays,
        tt,
        subst (λ ws. IsRoom moment_at is_durable start (record { words = ws; homes = s.homes; views = slice_set s.views id w })) (room.words ∙ ap (λ n. n ∷ length room.log ∷ []) (sym next))
            (room_set moment_at is_durable start s room id me.0 w at (fits_count start room.log room.drawn me.0 is (room.fits id me.0 at))
            (λ j u there apart. differ_count room.drawn me.0 u (room.differ id j me.0 u at there (λ e. apart (sym e)))) (λ has. has) refl),
        (
          rw test refl,
          seen_drawn start room.log room.drawn me.0 room.served (room.fits id me.0 at),
          none_before room.log me.0.seen room.drawn (room.fits id me.0 at).knows.begins (room.fresh room.drawn (omega arith)),
          (room.fits id me.0 at).counted,
        ),
      )

  -- a draw keeps the rule
  pub draws : (slots id old : ℕ) (me : Me (Option B) SeatView) → me.0.stage ≡ idle → old + 1 < 2 ^ 64
      → Allows (IsRoom moment_at is_durable start) slots id me 0 (λ n. either (n == old) (old + 1) n) (Draws (step slots 0 old (old + 1) none) me)
  draws slots id old me is bounded s room count at fits =
      let P : List ℕ → Type 0 = λ ws. (w : SeatView) × (a : Act (Option B)) × Valid s.homes me.1 a
      × IsRoom moment_at is_durable start (record { words = slice_set ws 0 (either (slice_index ws 0 == old) (old + 1) (slice_index ws 0)); homes = homes_after s.homes me.1 a; views = slice_set s.views id w })
      × Draws (step slots 0 old (old + 1) none) me (slice_index ws 0) (w, carried_after me.1 a) in
      subst P (sym room.words) (drew slots id old me is bounded s room at (room.drawn == old) refl)
