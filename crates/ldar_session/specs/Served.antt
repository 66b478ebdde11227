-- What a connection was served: its items, the turns of the office, and the text of the answers. What an item is depends on the protocol.
use Rattle.std.specs.Prelude.{◌≡◌, ◌≤◌, ℕ, List, [], ◌∷◌, ◌++◌, length, take, drop, Option, MatchOption}
use Rattle.std.specs.List.{flat_map, AllByRecursion}
use Rattle.std.specs.Option.{option_to_list}
use Rattle.fact_kinds.specs.declared.limits.TheConstants.{FRAME_BATCHES}
use Rattle.ldar_law.specs.Machine.{Call, Turn}
use Rattle.ldar_ports.specs.Sink.{Piece, Puts, bytes_of, stamps_of}

-- the bytes of an item, its turn if it was passed to the office, and the text that answers it
pub record Served : Type 0 where
  pub item : List ℕ
  pub turn : Option Turn
  pub text : List ℕ

-- the bytes of the items, one after the other
abbrev pub items_of : List Served → List ℕ
items_of served = flat_map (λ s. s.item) served

-- the text of the answers, one after the other
abbrev pub texts_of : List Served → List ℕ
texts_of served = flat_map (λ s. s.text) served

-- the turns, in order
abbrev pub turns_of : List Served → List Turn
turns_of served = flat_map (λ s. option_to_list s.turn) served

-- the turns of calls, in order
abbrev pub turns_in : List Call → List Turn
turns_in calls = flat_map (λ call. call.turns) calls

-- each turn of the call has the clock at which the call returned, as in a step of the machine
abbrev pub HasItsClock : Call → Type 0
HasItsClock call = AllByRecursion (λ turn. turn.clock ≡ call.end.clock) call.turns

-- a byte of the answer was written at the clock of the item's turn or later
abbrev pub IsSince : Served → ℕ → Type 0
IsSince s stamp = MatchOption s.turn (Unit {0}) (λ turn. turn.clock ≤ stamp)

-- each written byte has a stamp of at least the clock of its item's turn; there may be fewer stamps than bytes of text
abbrev pub Stamped : List Served → List ℕ → Type 0
Stamped [] stamps = Unit {0}
Stamped (s ∷ served) stamps =
    AllByRecursion (IsSince s) (take (length s.text) stamps) × Stamped served (drop (length s.text) stamps)

-- All text was written except a part of the last group's. So no request was passed on after text that could not be written.
pub record LacksOneGroup (served : List Served) (unsaid : List ℕ) : Type 0 where
  pub before : List Served
  pub last : List Served
  pub served_are : served ≡ before ++ last
  pub group : length last ≤ FRAME_BATCHES
  pub lacks : length unsaid ≤ length (texts_of last)

-- A stretch of a connection. These calls lead the office from one value to the other, and their turns are those of the items that were
-- served, each of which is an item. The written pieces are the text of the items in order, except for what was not written, and no text was
-- written before its call returned.
pub record Stretch {O : Type 0} (IsItem : Served → Type 0) (led : O → List Call → O → Type 0) (old new : O)
    (pieces pieces' : Option (List Piece)) (served : List Served) (unsaid : List ℕ) : Type 0 where
  pub calls : List Call
  pub put : List Piece
  pub run : led old calls new
  pub turns : turns_in calls ≡ turns_of served
  pub each : AllByRecursion IsItem served
  pub puts : Puts pieces put pieces'
  pub said : texts_of served ≡ bytes_of put ++ unsaid
  pub stamped : AllByRecursion HasItsClock calls → Stamped served (stamps_of put)

-- the clock of the office's disk
abbrev pub clock_beside : {O D : Type 0} → (D → ℕ) → (O → D) → O → ℕ
clock_beside clock_of beside_of office = clock_of (beside_of office)

-- no call sets this clock back
abbrev pub NeverFalls : {O : Type 0} → (O → List Call → O → Type 0) → (O → ℕ) → Type 0
NeverFalls {O} led clock_of = (old new : O) (calls : List Call) → led old calls new → clock_of old ≤ clock_of new

-- if no call sets the clock back, none of these stamps is past the clock of the office's disk; so each is a clock of that disk
abbrev pub AreWithin : {O : Type 0} → (O → List Call → O → Type 0) → (O → ℕ) → O → List ℕ → Type 0
AreWithin led clock_of office stamps = NeverFalls led clock_of → AllByRecursion (λ stamp. stamp ≤ clock_of office) stamps

-- a stretch of a connection with no stamp past the clock at its end
pub record Talk {O : Type 0} (IsItem : Served → Type 0) (led : O → List Call → O → Type 0) (clock_of : O → ℕ) (old new : O)
    (pieces pieces' : Option (List Piece)) (served : List Served) (unsaid : List ℕ) : Type 0 where
  pub stretch : Stretch IsItem led old new pieces pieces' served unsaid
  pub within : AreWithin led clock_of new (stamps_of stretch.put)
