-- What is in the slot of a room when no call can come any more.
use Rattle.std.proofs.Common.{◌≡◌, ℕ, ◌+◌, ◌<◌, ◌≤◌, ◌^◌, List, [], ◌∷◌, ◌++◌, length, refl, ap, sym, ◌∙◌, subst, arith, ⊎_elim, Option, Some, length-append}
use Rattle.std.proofs.lemmas.List.{append-nil}
use mathlib.Core.Option.{some, some-injective}
use lib.ListN.{get_elem?}
use Rattle.atomic_table.specs.Table.{State, Final, Seen}
use Rattle.ldar_law.specs.Machine.{Moment}
use Rattle.sync_room.specs.Calls.{RoomCall, moment_after}
use Rattle.sync_room.specs.Rule.{SeatView, waits, idle, IsRoom, FitsRoom, IsInSlot, IsWithSeat, IsStage, HasTicket, SeesLast}
use Rattle.sync_room.proofs.Looks.{nobody_has, holder_served}

-- a history that is not longer than what was seen is what was seen
whole_log : (log seen rest : List RoomCall) → log ≡ seen ++ rest → length log ≤ length seen → log ≡ seen
whole_log log seen [] is short = is ∙ append-nil seen
whole_log log seen (call ∷ rest) is short = absurd (omega (arith, short, ap length is, length-append seen (call ∷ rest)))

-- the book in the slot has the moment after the calls that were seen
pub record IsLeft {B : Type 0} (moment_at : B → Moment) (v : SeatView) (slots : List (Option B)) : Type 0 where
  pub book : B
  pub there : get_elem? slots 0 ≡ some (Some book)
  pub moment : moment_at book ≡ moment_after v.start v.seen

module _ {B : Type 0} (moment_at : B → Moment) (is_durable : B → Type 0) (start : Moment) where
  -- the book in the slot, if no seat has it
  left_in : (s : State (Option B) SeatView) (room : IsRoom moment_at is_durable start s) (v : SeatView) (slots : List (Option B))
      → ((k : ℕ) (y : Option B) → get_elem? s.homes k ≡ some (some y) → get_elem? slots k ≡ some y) → v.start ≡ start → room.log ≡ v.seen
      → (IsWithSeat s.homes s.views → ⊥) → IsLeft moment_at v slots
  left_in s room v slots values of_room whole nobody =
      ⊎_elim
      (λ (here : IsInSlot moment_at is_durable start room.log s.homes).
      record {
        book = here.book;
        there = values 0 (Some here.book) (ap (λ hs. get_elem? hs 0) here.there);
        moment = here.moment ∙ (ap (moment_after start) whole ∙ ap (λ from. moment_after from v.seen) (sym of_room));
      })
      (λ (out : IsWithSeat s.homes s.views). absurd (nobody out))
      room.home

  -- if the ticket that is served next is this seat's
  left_next : (id : ℕ) (v : SeatView) (words : List ℕ) (slots : List (Option B)) → Final (Seen (IsRoom moment_at is_durable start) id v) words slots
      → v.stage ≡ waits (length v.seen) → IsLeft moment_at v slots
  left_next id v words slots final is =
      let s : State (Option B) SeatView = final.0 in
      let room : IsRoom moment_at is_durable start s = final.1.0 in
      let at : get_elem? s.views id ≡ some v = final.1.1 in
      let fits : FitsRoom start room.log room.drawn v = room.fits id v at in
      let has : HasTicket v.stage (length v.seen) = subst (λ g. HasTicket g (length v.seen)) (sym is) refl in
      let short : length room.log ≤ length v.seen = (fits.ticket (length v.seen) has).0 in
      let whole : room.log ≡ v.seen = whole_log room.log v.seen fits.knows.begins.0 fits.knows.begins.1 short in
      left_in s room v slots final.4 (subst (IsStage start room.log v) is fits.stage) whole (λ out. nobody_has moment_at is_durable start s room id (length v.seen) v at is (ap length (sym whole)) out)

  -- if no ticket is left
  left_full : (id : ℕ) (v : SeatView) (words : List ℕ) (slots : List (Option B)) → Final (Seen (IsRoom moment_at is_durable start) id v) words slots
      → v.stage ≡ idle → 2 ^ 64 ≤ length v.seen + 1 → IsLeft moment_at v slots
  left_full id v words slots final is full =
      let s : State (Option B) SeatView = final.0 in
      let room : IsRoom moment_at is_durable start s = final.1.0 in
      let fits : FitsRoom start room.log room.drawn v = room.fits id v final.1.1 in
      let longer : length room.log ≡ length v.seen + length fits.knows.begins.0 = ap length fits.knows.begins.1 ∙ length-append v.seen fits.knows.begins.0 in
      let bounded : room.drawn < 2 ^ 64 = room.bounded in
      let served : length room.log ≤ room.drawn = room.served in
      let whole : room.log ≡ v.seen = whole_log room.log v.seen fits.knows.begins.0 fits.knows.begins.1 (omega (arith, full, longer, bounded, served)) in
      left_in s room v slots final.4 (subst (IsStage start room.log v) is fits.stage) whole
      (λ out.
      let theirs : FitsRoom start room.log room.drawn out.view = room.fits out.seat out.view out.there in
      let within = theirs.ticket (length room.log) (holder_served start room.log out.view out.view.stage theirs.stage out.has) in
      omega (arith, full, longer, bounded, within.1))

  -- the book in the slot, if no call can come
  pub left : (id : ℕ) (v : SeatView) (words : List ℕ) (slots : List (Option B)) → Final (Seen (IsRoom moment_at is_durable start) id v) words slots
      → SeesLast v → IsLeft moment_at v slots
  left id v words slots final last =
      ⊎_elim
      (λ (is : v.stage ≡ waits (length v.seen)). left_next id v words slots final is)
      (λ (full : (v.stage ≡ idle) × (2 ^ 64 ≤ length v.seen + 1)). left_full id v words slots final full.0 full.1)
      last

-- the book is what is taken out of the slot
pub left_there : {B : Type 0} (moment_at : B → Moment) (v : SeatView) (slots : List (Option B)) (taken : Option B) (is : IsLeft moment_at v slots)
    → get_elem? slots 0 ≡ some taken → taken ≡ Some is.book
left_there moment_at v slots taken is at = some-injective taken (Some is.book) (sym at ∙ is.there)

-- its moment is that after the calls that were seen
pub left_moment : {B : Type 0} (moment_at : B → Moment) (v : SeatView) (slots : List (Option B)) (book : B) → IsLeft moment_at v slots
    → get_elem? slots 0 ≡ some (Some book)
    → moment_at book ≡ moment_after v.start v.seen
left_moment moment_at v slots book is at =
    let same : book ≡ is.book = cc (left_there moment_at v slots (Some book) is at) in
    ap (moment_at) same ∙ is.moment
