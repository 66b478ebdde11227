-- A seat draws the ticket that is served next, or sees that none is left, or that a drawn ticket is not served.
use Rattle.std.proofs.Common.{◌≡◌, ◌≢◌, ◌<◌, ◌≤◌, ◌+◌, ◌^◌, ◌==◌, ℕ, true, MatchBool, [], length, ap, sym, ◌∙◌, subst, arith, inl, inr}
use Rattle.std.proofs.lemmas.Bool.Decides.{nat_tests}
use Rattle.atomic_table.specs.Table.{Me}
use Rattle.sync_room.specs.declared.room.KeptWhy.TheVariants.{Out}
use Rattle.sync_room.specs.Calls.{IsLegal}
use Rattle.sync_room.specs.Rule.{SeatView, idle, waits, LooksIdle, SeesMore, DrawsLast, after_draw, after_count}
use Rattle.sync_room.specs.Why.{IsOut}
use Rattle.sync_room.proofs.Waits.{follows_look, legal_look, missed}

-- what is known between two draws: the seat is free, and how many calls it has seen
pub record IsBetween {S : Type 0} (v : SeatView) (me : Me S SeatView) (served : ℕ) : Type 0 where
  pub follows : SeesMore v me.0
  pub legal : IsLegal me.0.start me.0.seen
  pub stage : me.0.stage ≡ idle
  pub slots : me.1 ≡ []
  pub length_is : length me.0.seen ≡ served
  pub bounded : me.0.drawn < 2 ^ 64

-- a seat that found how many tickets were drawn
follows_count : (v w : SeatView) (drawn : ℕ) → SeesMore v w → w.drawn ≤ drawn → SeesMore v (after_count w drawn)
follows_count v w drawn follows up = record {
  start = follows.start;
  names = follows.names;
  own = follows.own;
  drawn = omega (arith, follows.drawn, up);
  none_joined = follows.none_joined;
  knows = follows.knows;
}

-- after a look
pub between_look : {S : Type 0} (v : SeatView) (me new : Me S SeatView) (served : ℕ) → SeesMore v me.0 → me.1 ≡ [] → LooksIdle me served new
    → IsBetween v new served
between_look v me new served follows none look = record {
  follows = follows_look v me.0 new.0 served follows look.looks;
  legal = legal_look me.0 new.0 served look.looks;
  stage = look.idle;
  slots = look.slots ∙ none;
  length_is = look.looks.length_is;
  bounded = omega (arith, look.looks.drawn.0, look.looks.drawn.1);
}

-- after a draw that drew nothing
pub between_count : {S : Type 0} (v : SeatView) (me counted : Me S SeatView) (served drawn : ℕ) → IsBetween v me served
    → MatchBool (drawn == served) (counted ≡ (after_draw me.0 drawn, me.1)) (counted ≡ (after_count me.0 drawn, me.1)) → me.0.drawn ≤ drawn
    → drawn ≢ served
    → SeesMore v counted.0 × (counted.1 ≡ []) × (counted.0.stage ≡ idle) × (counted.0.drawn ≡ drawn)
between_count v me counted served drawn between draws up other =
    let is : counted ≡ (after_count me.0 drawn, me.1) = missed _ _ drawn served draws other in (
      subst (λ (x : SeatView). SeesMore v x) (sym (ap (λ m. m.0) is)) (follows_count v me.0 drawn between.follows up),
      ap (λ m. m.1) is ∙ between.slots,
      ap (λ m. m.0.stage) is ∙ between.stage,
      ap (λ m. m.0.drawn) is,
    )

-- after a draw that drew nothing, and a look
pub between_again : {S : Type 0} (v : SeatView) (me counted new : Me S SeatView) (served drawn more : ℕ) → IsBetween v me served
    → MatchBool (drawn == served) (counted ≡ (after_draw me.0 drawn, me.1)) (counted ≡ (after_count me.0 drawn, me.1)) → me.0.drawn ≤ drawn
    → drawn ≢ served
    → LooksIdle counted more new → IsBetween v new more
between_again v me counted new served drawn more between draws up other look =
    let found = between_count v me counted served drawn between draws up other in
    between_look v counted new more found.0 found.1 look

-- the same, if fewer tickets are served than drawn
pub out_again : {S : Type 0} (v : SeatView) (me counted new : Me S SeatView) (served drawn more : ℕ) → IsBetween v me served
    → MatchBool (drawn == served) (counted ≡ (after_draw me.0 drawn, me.1)) (counted ≡ (after_count me.0 drawn, me.1)) → me.0.drawn ≤ drawn
    → drawn ≢ served
    → LooksIdle counted more new → more < drawn → IsOut v new.0 (Out drawn more)
out_again v me counted new served drawn more between draws up other look fewer =
    let found = between_count v me counted served drawn between draws up other in
    let after : IsBetween v new more = between_look v counted new more found.0 found.1 look in
    record { follows = after.follows; free = after.stage; counts = (sym (look.looks.drawn.0 ∙ found.3), sym after.length_is, fewer) }

-- the ticket that is served next was drawn
pub last_drawn : {S : Type 0} (v : SeatView) (me new : Me S SeatView) (served drawn : ℕ) → IsBetween v me served
    → MatchBool (drawn == served) (new ≡ (after_draw me.0 drawn, me.1)) (new ≡ (after_count me.0 drawn, me.1)) → me.0.drawn ≤ drawn → drawn ≡ served
    → DrawsLast v new.0
last_drawn v me new served drawn between draws up same =
    let test : (drawn == served) ≡ true = grind (arith, nat_tests) in
    let is : new ≡ (after_draw me.0 drawn, me.1) = subst (λ b. MatchBool b (new ≡ (after_draw me.0 drawn, me.1)) (new ≡ (after_count me.0 drawn, me.1))) test draws in
    let drew : DrawsLast v (after_draw me.0 drawn) = record {
      start = between.follows.start;
      begins = between.follows.knows.begins;
      legal = between.legal;
      served = omega (arith, between.follows.drawn, up, same, between.length_is);
      last = inl (ap waits (same ∙ sym between.length_is));
    } in
    subst (λ (x : SeatView). DrawsLast v x) (sym (ap (λ m. m.0) is)) drew

-- no ticket is left
pub last_full : {S : Type 0} (v : SeatView) (me : Me S SeatView) (served : ℕ) → IsBetween v me served → 2 ^ 64 ≤ served + 1 → DrawsLast v me.0
last_full v me served between full = record {
  start = between.follows.start;
  begins = between.follows.knows.begins;
  legal = between.legal;
  served = omega (arith, between.follows.drawn, between.bounded, full, between.length_is);
  last = inr (between.stage, omega (arith, full, between.length_is));
}

-- ---- the draws of a seat that is waiting for a turn

-- a seat without slots, before its first draw
pub count_self : {S : Type 0} (me : Me S SeatView) → me.1 ≡ [] → me ≡ (after_count me.0 me.0.drawn, [])
count_self me none = ap (λ r. (me.0, r)) none

-- another ticket was the next one
pub count_again : {S : Type 0} (v : SeatView) (me new : Me S SeatView) (known next drawn : ℕ) → me ≡ (after_count v known, [])
    → MatchBool (drawn == next) (new ≡ (after_draw me.0 drawn, me.1)) (new ≡ (after_count me.0 drawn, me.1)) → drawn ≢ next
    → new ≡ (after_count v drawn, [])
count_again v me new known next drawn from draws other =
    missed _ _ drawn next draws other ∙ ap (λ m. (after_count m.0 drawn, m.1)) from

-- the ticket was drawn
pub draw_at : {S : Type 0} (v : SeatView) (me new : Me S SeatView) (known next drawn : ℕ) → me ≡ (after_count v known, [])
    → MatchBool (drawn == next) (new ≡ (after_draw me.0 drawn, me.1)) (new ≡ (after_count me.0 drawn, me.1)) → drawn ≡ next
    → new ≡ (after_draw v drawn, [])
draw_at v me new known next drawn from draws same =
    let test : (drawn == next) ≡ true = grind (arith, nat_tests) in
    subst (λ b. MatchBool b (new ≡ (after_draw me.0 drawn, me.1)) (new ≡ (after_count me.0 drawn, me.1))) test draws ∙ ap (λ m. (after_draw m.0 drawn, m.1)) from
