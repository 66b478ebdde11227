-- The protocol of a connection: how its items are read and answered, which of them form a group, and how the connection ends.
use Rattle.std.specs.Prelude.{◌≡◌, ◌+◌, ◌<◌, ◌≤◌, ◌⊎◌, ℕ, Bool, true, false, List, [], ◌∷◌, ◌++◌, length, map, take, drop, Option, None, MatchOption}
use Rattle.std.specs.Prelude.{Result, Ok, Err}
use Rattle.std.specs.List.{flat_map, AllByRecursion}
use Rattle.fact_kinds.specs.declared.batch.Batch.{Batch}
use Rattle.ldar_law.specs.declared.reply.Reply.{Reply}
use Rattle.ldar_law.specs.declared.request.Request.{Request}
use Rattle.ldar_law.specs.declared.request.Request.TheVariants.{Sync}
use Rattle.ldar_ports.specs.Source.{HasEnded}
use Rattle.office_interface.specs.Asking.{MayShareFrame, IsFromHandheld}
use Rattle.ldar_session.specs.declared.answer.Progress.{Progress}
use Rattle.ldar_session.specs.declared.ended.TheConstants.{MOST_ANSWERS}
use Rattle.ldar_ports.specs.declared.ended.Ended.{Ended}
use Rattle.ldar_ports.specs.declared.ended.Ended.TheVariants.{Done, Stopped, CutShort, Refused, ReadFault, WriteFault, Memory}
use Rattle.ldar_session.specs.declared.item.Front.{Front}
use Rattle.ldar_session.specs.declared.item.Front.TheVariants.{Whole, Unfinished, Wrong}
use Rattle.ldar_session.specs.declared.item.Item.{Item}
use Rattle.ldar_session.specs.declared.item.Item.TheVariants.{Asks, Says, Away}
use Rattle.ldar_session.specs.declared.item.Question.{Question}
use Rattle.ldar_session.specs.declared.item.Unasked.{Unasked}
use Rattle.ldar_session.specs.Served.{Served, LacksOneGroup, items_of}

-- how items are read and answered
pub record Speech : Type 1 where
  -- the bytes are one item with this request to the office; the connection closes after it or not
  pub asks : Bool → List ℕ → Request → Type 0
  -- the text that answers such an item
  pub says : Bool → Reply → List ℕ
  -- the bytes are one item that is not passed to the office, and is answered by this text
  pub answers : Bool → List ℕ → List ℕ → Type 0
  -- no item is at the front of the bytes, but one may be when more bytes have arrived
  pub awaits : List ℕ → Type 0
  -- no item is at the front of the bytes, whatever follows: they are wrong at this place, and get no answer
  pub wrong : List ℕ → ℕ → Type 0
  -- no item is at the front of the bytes, whatever follows: they are refused, and are answered by this text
  pub away : List ℕ → List ℕ → Type 0

-- the beginning of an item is shorter than this
abbrev pub FitsInto : Speech → ℕ → Type 0
FitsInto p size = (bytes : List ℕ) → p.awaits bytes → length bytes < size

-- ---- what was served

-- whether the connection closes after an item: as given if it is the last one, and otherwise not
abbrev pub closes_before : {X : Type 0} → Bool → List X → Bool
closes_before closing [] = closing
closes_before closing (x ∷ more) = false

-- the item is answered: by the reply of its turn, or by its own text if it was not passed to the office; the connection closes after it or
-- not
abbrev pub IsAnswered : Speech → Bool → Served → Type 0
IsAnswered p closing s =
    MatchOption s.turn (p.answers closing s.item s.text) (λ turn. p.asks closing s.item turn.request × (s.text ≡ p.says closing turn.reply))

-- bytes are refused, and have their answer
pub record IsAway (p : Speech) (s : Served) : Type 0 where
  pub unasked : s.turn ≡ None
  pub says : p.away s.item s.text

-- an item, or refused bytes, have their answer
abbrev pub HasAnswer : Speech → Served → Type 0
HasAnswer p s = ((closing : Bool) × IsAnswered p closing s) ⊎ IsAway p s

-- each item has its answer; the connection closes after the last one or not, and after no other
abbrev pub AreAnswered : Speech → Bool → List Served → Type 0
AreAnswered p closing [] = Unit {0}
AreAnswered p closing (s ∷ served) = IsAnswered p (closes_before closing served) s × AreAnswered p closing served

-- ---- what is at the front

-- an item that is passed to the office is at the front
pub record IsQuestion (p : Speech) (bytes : List ℕ) (question : Question) : Type 0 where
  pub within : question.used ≤ length bytes
  pub asks : p.asks question.closing (take question.used bytes) question.request

-- an item that is not passed to the office is at the front, with its answer
pub record IsUnasked (p : Speech) (bytes : List ℕ) (unasked : Unasked) : Type 0 where
  pub within : unasked.used ≤ length bytes
  pub answers : p.answers unasked.closing (take unasked.used bytes) unasked.text.items

-- this item is at the front, or all the bytes are refused
abbrev pub IsItem : Speech → List ℕ → Item → Type 0
IsItem p bytes (Asks question) = IsQuestion p bytes question
IsItem p bytes (Says unasked) = IsUnasked p bytes unasked
IsItem p bytes (Away text) = p.away bytes text.items

-- this is what is at the front
abbrev pub IsFront : Speech → List ℕ → Front → Type 0
IsFront p bytes (Whole item) = IsItem p bytes item
IsFront p bytes Unfinished = p.awaits bytes
IsFront p bytes (Wrong at) = p.wrong bytes at × (at ≤ length bytes)

-- no batch of a handheld other than 0 is at the front
abbrev pub NoneJoins : Speech → List ℕ → Type 0
NoneJoins p bytes = (used : ℕ) (closing : Bool) (batch : Batch) → used ≤ length bytes → p.asks closing (take used bytes) (Sync batch) → batch.handheld ≡ 0

-- no batch of a handheld other than 0 is at the front, unless this item is one
abbrev pub NoOtherJoins : Speech → List ℕ → Front → Type 0
NoOtherJoins p bytes (Whole (Asks question)) = ¬ (IsFromHandheld question.request) → NoneJoins p bytes
NoOtherJoins p bytes (Whole (Says unasked)) = NoneJoins p bytes
NoOtherJoins p bytes (Whole (Away text)) = NoneJoins p bytes
NoOtherJoins p bytes Unfinished = NoneJoins p bytes
NoOtherJoins p bytes (Wrong at) = NoneJoins p bytes

-- what is known about the bytes in hand afterward: about any bytes, or about these with more if more are awaited
abbrev pub Learns : (List ℕ → Type 0) → List ℕ → Front → Type 0
Learns knows bytes (Whole item) = (other : List ℕ) → knows other
Learns knows bytes Unfinished = (more : List ℕ) → knows (bytes ++ more)
Learns knows bytes (Wrong at) = Unit {0}

-- ---- groups

-- these items have these requests, one each; the connection closes after the last one or not
abbrev pub AsksEach : Speech → Bool → List (List ℕ) → List Request → Type 0
AsksEach p closing [] [] = Unit {0}
AsksEach p closing [] (request ∷ requests) = ⊥
AsksEach p closing (item ∷ items) [] = ⊥
AsksEach p closing (item ∷ items) (request ∷ requests) = p.asks (closes_before closing items) item request × AsksEach p closing items requests

-- the items of these requests are the bytes at the front, this many of them
pub record AreInFront (p : Speech) (bytes : List ℕ) (requests : List Request) (closing : Bool) (used : ℕ) : Type 0 where
  pub items : List (List ℕ)
  pub asks : AsksEach p closing items requests
  pub within : used ≤ length bytes
  pub are : bytes ≡ flat_map (λ item. item) items ++ drop used bytes

-- the group at the front: as many requests as may share a frame of the journal, but at most this many
pub record IsGroup (p : Speech) (bytes : List ℕ) (most : ℕ) (requests : List Request) (closing : Bool) (used : ℕ) : Type 0 where
  pub in_front : AreInFront p bytes requests closing used
  pub some : 0 < length requests
  pub fits : length requests ≤ most
  pub alike : MayShareFrame requests
  pub full : (length requests ≡ most) ⊎ ((closing ≡ true) ⊎ ((¬ (AllByRecursion IsFromHandheld requests)) ⊎ NoneJoins p (drop used bytes)))

-- the text of the answers to these replies; the connection closes after the last one or not
abbrev pub answers_text : Speech → Bool → List Reply → List ℕ
answers_text p closing [] = []
answers_text p closing (reply ∷ replies) = p.says (closes_before closing replies) reply ++ answers_text p closing replies

-- of the items of a group, all were served and all text was written; or all were served, and some text may not be written; or none was
-- served, as it was out of memory
abbrev pub Serves : Result (Unit {0}) Ended → List (List ℕ) → List Served → List ℕ → Type 0
Serves (Ok done) items served unsaid = (map (λ s. s.item) served ≡ items) × (unsaid ≡ [])
Serves (Err ended) items served unsaid = (map (λ s. s.item) served ≡ items) ⊎ (served ≡ [])

-- items at the front were answered, in the given number and number of bytes, and all text was written
pub record IsProgress (p : Speech) (bytes : List ℕ) (most : ℕ) (progress : Progress) (served : List Served) (rest unsaid : List ℕ) : Type 0 where
  pub said : unsaid ≡ []
  pub are : AreAnswered p progress.closing served
  pub some : 0 < length served
  pub fits : length served ≤ most
  pub answers : length served ≡ progress.answers
  pub within : progress.used ≤ length bytes
  pub behind : rest ≡ drop progress.used bytes

-- some items were answered, or none, and a part of the text may not be written after a write error or out of memory
pub record IsPartProgress (p : Speech) (most : ℕ) (ended : Ended) (served : List Served) : Type 0 where
  pub closing : Bool
  pub are : AreAnswered p closing served
  pub fits : length served ≤ most
  pub fault : (ended ≡ WriteFault) ⊎ (ended ≡ Memory)

-- the bytes were refused with this many bytes before them, and their answer was written, or only a part of it after a write error
pub record IsRefusal (p : Speech) (before : ℕ) (ended : Ended) (served : List Served) (unsaid : List ℕ) : Type 0 where
  pub last : Served
  pub served_are : served ≡ last ∷ []
  pub away : IsAway p last
  pub said : ((ended ≡ Refused before) × (unsaid ≡ [])) ⊎ (ended ≡ WriteFault)

-- what was served of the items at the front
abbrev pub GoesOn : Speech → Result Progress Ended → List ℕ → ℕ → ℕ → List Served → List ℕ → List ℕ → Type 0
GoesOn p (Ok progress) bytes most before served rest unsaid = IsProgress p bytes most progress served rest unsaid
GoesOn p (Err ended) bytes most before served rest unsaid = IsPartProgress p most ended served ⊎ IsRefusal p before ended served unsaid

-- ---- the end of a connection

-- the end of an input that has no further item, with this many bytes before, these in hand, and these unread
abbrev pub EndsInput : Speech → Ended → ℕ → List ℕ → Option (List ℕ) → Type 0
EndsInput p Done before rest left = (rest ≡ []) × HasEnded left
EndsInput p Stopped before rest left = ⊥
EndsInput p (CutShort got) before rest left = (0 < got) × (got ≡ length rest) × p.awaits rest × HasEnded left
EndsInput p (Refused at) before rest left = (place : ℕ) × p.wrong rest place × (at ≡ before + place)
EndsInput p ReadFault before rest left = p.awaits rest
EndsInput p WriteFault before rest left = ⊥
EndsInput p Memory before rest left = Unit {0}

-- all text was written to fewer items than the maximum, none closes the connection, and the bytes after them contain no further item
pub record EndsOpen (p : Speech) (ended : Ended) (served : List Served) (rest : List ℕ) (left : Option (List ℕ)) (unsaid : List ℕ) : Type 0 where
  pub said : unsaid ≡ []
  pub fewer : length served < MOST_ANSWERS
  pub are : AreAnswered p false served
  pub input : EndsInput p ended (length (items_of served)) rest left

-- all text was written to fewer items than the maximum, and the last one closes the connection
pub record EndsClosed (p : Speech) (served : List Served) (unsaid : List ℕ) : Type 0 where
  pub said : unsaid ≡ []
  pub some : 0 < length served
  pub fewer : length served < MOST_ANSWERS
  pub are : AreAnswered p true served

-- fewer items than the maximum, with this many bytes, are followed by refused bytes, which have their answer
pub record EndsRefused (p : Speech) (at : ℕ) (served : List Served) : Type 0 where
  pub before : List Served
  pub last : Served
  pub served_are : served ≡ before ++ last ∷ []
  pub fewer : length before < MOST_ANSWERS
  pub are : AreAnswered p false before
  pub away : IsAway p last
  pub counted : at ≡ length (items_of before)

-- at most the maximum number of items, of which only the last one may close the connection
pub record EndsWithin (p : Speech) (served : List Served) : Type 0 where
  pub closing : Bool
  pub are : AreAnswered p closing served
  pub most : length served ≤ MOST_ANSWERS

-- all text was written to the maximum number of items
pub record EndsStopped (p : Speech) (served : List Served) (unsaid : List ℕ) : Type 0 where
  pub said : unsaid ≡ []
  pub most : length served ≡ MOST_ANSWERS
  pub within : EndsWithin p served

-- after a write error or out of memory, only text to the last group, or the answer to refused bytes, may not be written
pub record EndsUnsaid (p : Speech) (served : List Served) (unsaid : List ℕ) : Type 0 where
  pub are : EndsWithin p served ⊎ ((at : ℕ) × EndsRefused p at served)
  pub lacks : LacksOneGroup served unsaid

-- How it ended, from what was served, the bytes in hand after it, the bytes unread in the source, and the text that was not written. If a
-- closing item or refused bytes with an answer are the last, it states nothing about the bytes after them.
abbrev pub Ends : Speech → Ended → List Served → List ℕ → Option (List ℕ) → List ℕ → Type 0
Ends p Done served rest left unsaid = EndsOpen p Done served rest left unsaid ⊎ EndsClosed p served unsaid
Ends p Stopped served rest left unsaid = EndsStopped p served unsaid
Ends p (CutShort got) served rest left unsaid = EndsOpen p (CutShort got) served rest left unsaid
Ends p (Refused at) served rest left unsaid = EndsOpen p (Refused at) served rest left unsaid ⊎ (EndsRefused p at served × (unsaid ≡ []))
Ends p ReadFault served rest left unsaid = EndsOpen p ReadFault served rest left unsaid
Ends p WriteFault served rest left unsaid = EndsUnsaid p served unsaid
Ends p Memory served rest left unsaid = EndsUnsaid p served unsaid
