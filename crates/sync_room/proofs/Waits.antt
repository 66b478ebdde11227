-- A seat that waits for its turn, and what a whole call of a room does to a pass.
use Rattle.std.proofs.Common.{◌≡◌, ◌≢◌, ℕ, ◌==◌, true, false, MatchBool, arith, List, [], ◌∷◌, ◌++◌, refl, ap, sym, ◌∙◌, subst, append_assoc, Option, Some}
use Rattle.std.proofs.Common.{None}
use Rattle.std.proofs.lemmas.List.{append-nil}
use Rattle.std.proofs.lemmas.List.Elements.{filter-append}
use Rattle.std.proofs.lemmas.Bool.Decides.{nat_tests}
use Rattle.std.specs.List.{Contains}
use Rattle.atomic_table.specs.Table.{Me}
use Rattle.atomic_table.specs.Seated.{TableId}
use Rattle.ldar_law.specs.declared.reply.Reply.{Reply}
use Rattle.ldar_law.specs.declared.request.Request.{Request}
use Rattle.ldar_law.specs.Machine.{Moment}
use Rattle.sync_room.specs.Calls.{RoomCall, IsLegal, BeginsWith, calls_by}
use Rattle.sync_room.specs.Rule.{SeatView, waits, Looks, LooksFor, TakesBook, HasTurn, SeesMore, IsCall, all_names, names_at, caller_at, after_draw}
use Rattle.sync_room.specs.Rule.{after_advance, joined_view}
use Rattle.sync_room.specs.Passes.{PassState, pass_at, Asked, Met, SawMore}
use Rattle.sync_room.proofs.Histories.{knows_all}

-- beginnings of beginnings
starts_trans : (a b c : List RoomCall) → BeginsWith c b → BeginsWith b a → BeginsWith c a
starts_trans a b c later earlier = (earlier.0 ++ later.0, later.1 ∙ (ap (λ l. l ++ later.0) earlier.1 ∙ append_assoc a earlier.0 later.0))

-- a view has seen what it has seen
pub follows_self : (v : SeatView) → v.joined_seen ≡ [] → v.joined_names ≡ [] → SeesMore v v
follows_self v told names = record { start = refl; names = refl; own = refl; drawn = omega arith; none_joined = (told, names); knows = knows_all v.seen v.names }

-- a seat sees more after one look more
pub follows_look : (v w u : SeatView) (found : ℕ) → SeesMore v w → Looks w found u → SeesMore v u
follows_look v w u found follows looks =
    let all : all_names w ≡ v.names = ap (λ ns. w.names ++ ns) follows.none_joined.1 ∙ (append-nil w.names ∙ follows.names) in
    record {
      start = looks.start ∙ follows.start;
      names = looks.names ∙ all;
      own = looks.own ∙ follows.own;
      drawn = omega (arith, follows.drawn, looks.drawn.0);
      none_joined = looks.none_joined;
      knows = record {
        begins = starts_trans v.seen w.seen u.seen looks.knows.begins follows.knows.begins;
        whole = λ name named. looks.knows.whole name (subst (λ ns. Contains ns name) (sym follows.names) named) ∙ follows.knows.whole name named;
      };
    }

-- what was seen in a look is legal
pub legal_look : (w u : SeatView) (found : ℕ) → Looks w found u → IsLegal u.start u.seen
legal_look w u found looks = subst (λ from. IsLegal from u.seen) (sym looks.start) looks.legal

-- ---- a turn

module _ {B : Type 0} (moment_at : B → Moment) (ticket found : ℕ) (v : SeatView) (me new : Me (Option B) SeatView) where
  -- the look that finds the ticket served
  pub turn_served : SeesMore v me.0 → LooksFor moment_at ticket me found new → found ≡ ticket → HasTurn moment_at ticket v new
  turn_served follows looks served =
      let test : (found == ticket) ≡ true = grind (arith, nat_tests) in
      record {
        follows = follows_look v me.0 new.0 found follows looks.0;
        legal = legal_look me.0 new.0 found looks.0;
        named = looks.0.named;
        takes = subst (λ b. MatchBool b (TakesBook moment_at ticket new) ((new.0.stage ≡ waits ticket) × (new.1 ≡ me.1))) test looks.1;
      }

  -- a look that finds another ticket served
  pub turn_waits : SeesMore v me.0 → LooksFor moment_at ticket me found new → found ≢ ticket → (new.0.stage ≡ waits ticket) × (new.1 ≡ me.1) × SeesMore v new.0
  turn_waits follows looks served =
      let test : (found == ticket) ≡ false = grind (arith, nat_tests) in
      let still : (new.0.stage ≡ waits ticket) × (new.1 ≡ me.1) = subst (λ b. MatchBool b (TakesBook moment_at ticket new) ((new.0.stage ≡ waits ticket) × (new.1 ≡ me.1))) test looks.1 in
      (still.0, still.1, follows_look v me.0 new.0 found follows looks.0)

-- ---- a whole call

-- the names after a draw, by the caller
names_caller : (names : List ℕ) (own : Option ℕ) (ticket : ℕ) → names_at names own ticket ≡ names_at names own (caller_at own ticket)
names_caller names None ticket = refl
names_caller names (Some own) ticket = refl

-- a pass with an own caller calls under its name
same_caller : (own : Option ℕ) (ticket name : ℕ) → own ≡ Some name → caller_at own ticket ≡ name
same_caller None ticket name is = absurd (cc is)
same_caller (Some own) ticket name is = cc is

-- a pass without an own caller calls under its ticket
caller_fresh : (own : Option ℕ) (ticket : ℕ) → own ≡ None → caller_at own ticket ≡ ticket
caller_fresh None ticket none = refl
caller_fresh (Some own) ticket none = absurd (cc none)

-- what a whole call does to a pass, by views
pub asked_whole : (table : TableId) (v w : SeatView) (ticket : ℕ) (request : Request) (reply : Reply) (call : RoomCall) → calls_by ticket v.seen ≡ []
    → ((name : ℕ) → w.own ≡ Some name → Contains w.names name)
    → SeesMore (after_draw v ticket) w → IsCall request reply call.end w call
    → Asked (pass_at table v) request reply (pass_at table (after_advance w call))
asked_whole table v w ticket request reply call none named follows is =
    let caller : call.caller ≡ caller_at v.own ticket = cc (is.next.own, follows.own) in
    let names : w.names ≡ names_at v.names v.own call.caller = follows.names ∙ (names_caller v.names v.own ticket ∙ ap (names_at v.names v.own) (sym caller)) in
    record {
      call = call;
      between = follows.knows.begins.0;
      asked = is.asked;
      answered = is.answered;
      room = ap (λ start. record { table = table; start = start }) follows.start;
      seen = ap (λ l. l ++ call ∷ []) follows.knows.begins.1;
      legal = is.next.legal;
      own = is.next.own;
      same_own = λ name own. caller ∙ same_caller v.own ticket name own;
      names = names;
      named = named call.caller is.next.own;
      fresh = λ first. subst (λ n. calls_by n v.seen ≡ []) (sym (caller ∙ caller_fresh v.own ticket first)) none;
      whole = λ name named.
          filter-append (λ c. c.caller == name) w.seen (call ∷ [])
          ∙ ap (λ l. l ++ calls_by name (call ∷ [])) (follows.knows.whole name (subst (λ ns. Contains ns name) follows.names named));
    }

-- ---- two passes that met

-- what a join and a look do to passes, by views
met_whole : (table table' : TableId) (v w u : SeatView) (found : ℕ) → Looks (joined_view v w) found u
    → Met (pass_at table v) (pass_at table' w) (pass_at table u)
met_whole table table' v w u found looks = record {
  room = ap (λ start. record { table = table; start = start }) looks.start;
  begins_first = looks.knows.begins;
  begins_second = looks.of_joined.begins;
  legal = legal_look (joined_view v w) u found looks;
  own = looks.own;
  names = looks.names;
  apart = looks.apart;
  whole_first = looks.knows.whole;
  whole_second = looks.of_joined.whole;
}

-- what a join and a look do to passes
pub met_passes : (first second new : PassState) (table table' table'' : TableId) (v w m u : SeatView) (found : ℕ) → pass_at table v ≡ first
    → pass_at table' w ≡ second → table'' ≡ table
    → m ≡ joined_view v w → Looks m found u → new ≡ pass_at table'' u → Met first second new
met_passes first second new table table' table'' v w m u found is_first is_second same is looks is_new =
    let met : Met (pass_at table v) (pass_at table' w) (pass_at table u) = met_whole table table' v w u found (subst (λ x. Looks x found u) is looks) in
    let met_first : Met first (pass_at table' w) (pass_at table u) = subst (λ x. Met x (pass_at table' w) (pass_at table u)) is_first met in
    let met_both : Met first second (pass_at table u) = subst (λ x. Met first x (pass_at table u)) is_second met_first in
    subst (Met first second) (sym (is_new ∙ ap (λ t. pass_at t u) same)) met_both

-- what a whole call does to a pass
pub asked_pass : (old new : PassState) (table table' : TableId) (v w x : SeatView) (ticket : ℕ) (request : Request) (reply : Reply) (call : RoomCall)
    → pass_at table v ≡ old → table' ≡ table
    → calls_by ticket v.seen ≡ [] → ((name : ℕ) → w.own ≡ Some name → Contains w.names name) → SeesMore (after_draw v ticket) w
    → IsCall request reply call.end w call → x ≡ after_advance w call → new ≡ pass_at table' x → Asked old request reply new
asked_pass old new table table' v w x ticket request reply call is_old same none named follows is is_after is_new =
    let whole : Asked (pass_at table v) request reply (pass_at table (after_advance w call)) = asked_whole table v w ticket request reply call none named follows is in
    let from_old : Asked old request reply (pass_at table (after_advance w call)) = subst (λ o. Asked o request reply (pass_at table (after_advance w call))) is_old whole in
    subst (Asked old request reply) (sym (is_new ∙ (ap (λ t. pass_at t x) same ∙ ap (pass_at table) is_after))) from_old

-- ---- a pass that has seen more

-- a pass whose view has seen more
saw_whole : (table : TableId) (v u : SeatView) → SeesMore v u → SawMore (pass_at table v) (pass_at table u)
saw_whole table v u follows = record {
  room = ap (λ start. record { table = table; start = start }) follows.start;
  begins = follows.knows.begins;
  names = follows.names;
  own = follows.own;
  drawn = follows.drawn;
  whole = λ name named. follows.knows.whole name (subst (λ ns. Contains ns name) follows.names named);
}

-- the same of a pass that is that of a view
pub saw_pass : (old new : PassState) (table table' : TableId) (v u : SeatView) → pass_at table v ≡ old → table' ≡ table → SeesMore v u
    → new ≡ pass_at table' u → SawMore old new
saw_pass old new table table' v u is_old same follows is_new =
    let from_old : SawMore old (pass_at table u) = subst (λ o. SawMore o (pass_at table u)) is_old (saw_whole table v u follows) in
    subst (SawMore old) (sym (is_new ∙ ap (λ t. pass_at t u) same)) from_old

-- the case of another number
pub missed : (hit miss : Type 0) (found next : ℕ) → MatchBool (found == next) hit miss → found ≢ next → miss
missed hit miss found next is other =
    let test : (found == next) ≡ false = grind (arith, nat_tests) in
    subst (λ b. MatchBool b hit miss) test is
