-- Items that are HTTP requests, and the response to each of them.
use Rattle.std.specs.Prelude.{◌≡◌, ◌+◌, ◌<◌, ◌≤◌, ◌⊎◌, ℕ, Bool, true, false, List, length}
use Rattle.memchr.specs.Find.{OccursAt}
use Rattle.ldar_law.specs.declared.request.Request.{Request}
use Rattle.handheld_http.specs.declared.answer.Answer.TheVariants.{Reply as ToRequest, Not as AsksNothing, Status}
use Rattle.handheld_http.specs.declared.answer.Asked.TheVariants.{Request as Asks, Not}
use Rattle.handheld_http.specs.declared.answer.Refusal.{Refusal}
use Rattle.handheld_http.specs.declared.outcome.Cut.TheVariants.{More}
use Rattle.handheld_http.specs.declared.outcome.Front.{Front}
use Rattle.handheld_http.specs.declared.outcome.Front.TheVariants.{Head, Unended, Refused}
use Rattle.handheld_http.specs.Answers.{answer_bytes}
use Rattle.handheld_http.specs.Cuts.{IsCut, IsExtent, Refuses}
use Rattle.handheld_http.specs.Heads.{empty_line}
use Rattle.handheld_http.specs.Items.{HasNoItem, IsWhole}
use Rattle.handheld_http.specs.Requests.{Means}
use Rattle.ldar_session.specs.Served.{Served}
use Rattle.ldar_session.specs.Speech.{Speech, AreAnswered, HasAnswer}

-- the bytes are one request, which passes this request to the office; the connection closes after it or not
pub record AsksAs (closing : Bool) (item : List ℕ) (request : Request) : Type 0 where
  pub whole : IsWhole item closing
  pub means : Means item (Asks request)

-- the bytes are one request that is not passed to the office, and the text is the response with the reason
pub record SaysWhy (closing : Bool) (item text : List ℕ) : Type 0 where
  pub whole : IsWhole item closing
  pub why : Refusal
  pub means : Means item (Not why)
  pub says : text ≡ answer_bytes (AsksNothing why) closing

-- the bytes are refused with a status, and the text is the response
pub record SaysStatus (bytes text : List ℕ) : Type 0 where
  pub status : ℕ
  pub refused : Refuses bytes status
  pub says : text ≡ answer_bytes (Status status) true

-- each item is a request, which is answered by a response; the response to refused bytes is the last
abbrev pub request_speech : Speech
request_speech = record {
  asks = AsksAs;
  says = λ closing reply. answer_bytes (ToRequest reply) closing;
  answers = SaysWhy;
  awaits = λ bytes. IsCut bytes More;
  wrong = λ bytes at. ⊥;
  away = SaysStatus;
}

-- an item is a request, or refused bytes, and has its response
abbrev pub HasItsAnswer : Served → Type 0
HasItsAnswer s = HasAnswer request_speech s

-- each item is a request; the connection closes after the last one or not, and after no other
abbrev pub AreRequests : Bool → List Served → Type 0
AreRequests closing served = AreAnswered request_speech closing served

-- requests with bytes after them; if none closes the connection, no request is at the front of these bytes
abbrev pub IsStream : List Served → List ℕ → Type 0
IsStream served rest = (AreRequests false served × HasNoItem rest) ⊎ (AreRequests true served × (0 < length served))

-- ---- what is known about the bytes in hand

-- no empty line ends within this many bytes
abbrev pub HasNoneWithin : List ℕ → ℕ → Type 0
HasNoneWithin bytes n = (k : ℕ) → k + 4 ≤ n → ¬ (OccursAt bytes empty_line k)

-- what is known about the head at the front and, if it has not ended, within how many bytes no empty line ends
abbrev pub Knows : Front → ℕ → List ℕ → Type 0
Knows (Head extent) searched bytes = IsExtent bytes extent
Knows Unended searched bytes = (searched ≤ length bytes) × HasNoneWithin bytes searched
Knows (Refused status) searched bytes = Refuses bytes status
