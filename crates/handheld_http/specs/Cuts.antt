-- What is at the front of a connection's bytes: a request, the beginning of one, or bytes to refuse.
use Rattle.std.specs.Prelude.{◌≡◌, ℕ, ◌+◌, ◌<◌, ◌≤◌, ◌⊎◌, Bool, List, length, take, Ok, Err}
use Rattle.httparse.specs.Grammar.{RequestHead}
use Rattle.httparse.specs.Spans.{IsWithin, span_bytes}
use Rattle.handheld_http.specs.Heads.{longest_head, EndsHead, HasNoEnd, IsHead, pairs_of, body_length, closes}
use Rattle.handheld_http.specs.declared.outcome.Cut.{Cut}
use Rattle.handheld_http.specs.declared.outcome.Cut.TheVariants.{Whole, More, Refused}
use Rattle.handheld_http.specs.declared.outcome.Extent.{Extent}
use Rattle.handheld_http.specs.declared.outcome.Front.{Front}
use Rattle.handheld_http.specs.declared.outcome.Front.TheVariants.{Head, Unended, Refused as FrontRefused}

-- the bytes begin with the head h of the given length, and a body of the given length follows
pub record Begins (bytes : List ℕ) (head body : ℕ) (closing : Bool) (h : RequestHead) : Type 0 where
  pub ends : EndsHead bytes head
  pub reads : IsHead (take head bytes) h
  pub length : body_length h.method (pairs_of h) ≡ Ok body
  pub closing_is : closes h.minor (pairs_of h) ≡ closing

-- the bytes begin with the head of some request
abbrev pub BeginsRequest : List ℕ → ℕ → ℕ → Bool → Type 0
BeginsRequest bytes head body closing = (h : RequestHead) × Begins bytes head body closing h

-- the method and the target of a head are at these places
pub record IsLineAt (head : List ℕ) (extent : Extent) (h : RequestHead) : Type 0 where
  pub method_within : IsWithin (length head) extent.method
  pub target_within : IsWithin (length head) extent.target
  pub method_is : span_bytes head extent.method ≡ h.method
  pub target_is : span_bytes head extent.target ≡ h.target

-- the bytes begin with a head that has this extent
pub record IsExtent (bytes : List ℕ) (extent : Extent) : Type 0 where
  pub h : RequestHead
  pub begins : Begins bytes extent.head extent.body extent.closing h
  pub line : IsLineAt (take extent.head bytes) extent h

-- no head ends within the maximum length
pub record IsTooLong (bytes : List ℕ) (status : ℕ) : Type 0 where
  pub endless : HasNoEnd bytes
  pub long : longest_head ≤ length bytes
  pub status_is : status ≡ 431

-- the bytes up to the empty line are no head
pub record IsNoHead (bytes : List ℕ) (status : ℕ) : Type 0 where
  pub head : ℕ
  pub ends : EndsHead bytes head
  pub none : (h : RequestHead) → ¬ (IsHead (take head bytes) h)
  pub status_is : status ≡ 400

-- the head's fields do not allow a body that is read here
pub record HasNoBody (bytes : List ℕ) (status : ℕ) : Type 0 where
  pub head : ℕ
  pub h : RequestHead
  pub ends : EndsHead bytes head
  pub reads : IsHead (take head bytes) h
  pub length : body_length h.method (pairs_of h) ≡ Err status

-- the bytes are refused with this status, whatever follows
abbrev pub Refuses : List ℕ → ℕ → Type 0
Refuses bytes status = IsTooLong bytes status ⊎ (IsNoHead bytes status ⊎ HasNoBody bytes status)

-- no head has ended so far
pub record HasNoHeadYet (bytes : List ℕ) : Type 0 where
  pub endless : HasNoEnd bytes
  pub short : length bytes < longest_head

-- what the head at the front says about the request
abbrev pub IsFront : List ℕ → Front → Type 0
IsFront bytes (Head extent) = IsExtent bytes extent
IsFront bytes Unended = HasNoHeadYet bytes
IsFront bytes (FrontRefused status) = Refuses bytes status

-- the head is complete, and bytes of its body are missing
pub record LacksBody (bytes : List ℕ) : Type 0 where
  pub head : ℕ
  pub body : ℕ
  pub closing : Bool
  pub begins : BeginsRequest bytes head body closing
  pub short : length bytes < head + body

-- what is at the front
abbrev pub IsCut : List ℕ → Cut → Type 0
IsCut bytes (Whole head body closing) = BeginsRequest bytes head body closing × (head + body ≤ length bytes)
IsCut bytes More = HasNoHeadYet bytes ⊎ LacksBody bytes
IsCut bytes (Refused status) = Refuses bytes status
