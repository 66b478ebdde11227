-- How the parser's offsets describe a head.
use Rattle.std.specs.Prelude.{◌≡◌, ℕ, ◌⊎◌, List, length, Result, Ok, Err}
use Rattle.httparse.specs.Grammar.{RequestHead}
use Rattle.httparse.specs.Spans.{IsRequestAt}
use Rattle.httparse.specs.declared.spans.HeaderSpan.{HeaderSpan}
use Rattle.httparse.specs.declared.spans.RequestSpans.{RequestSpans}
use Rattle.handheld_http.specs.Heads.{IsHead, pairs_of, body_length, closes}
use Rattle.handheld_http.specs.Cuts.{IsLineAt}
use Rattle.handheld_http.specs.declared.outcome.Extent.{Extent}

-- the bytes are no head
abbrev pub IsNoHeadAtAll : List ℕ → Type 0
IsNoHeadAtAll bytes = (h : RequestHead) → ¬ (IsHead bytes h)

-- the bytes are a head, and its parts are at these offsets
abbrev pub HasHead : List ℕ → List HeaderSpan → RequestSpans → Type 0
HasHead bytes spans parts = (h : RequestHead) × IsHead bytes h × IsRequestAt bytes spans parts h

-- an accepted head with this extent
pub record IsAccepted (bytes : List ℕ) (extent : Extent) (h : RequestHead) : Type 0 where
  pub whole : extent.head ≡ length bytes
  pub reads : IsHead bytes h
  pub length_is : body_length h.method (pairs_of h) ≡ Ok extent.body
  pub closing_is : closes h.minor (pairs_of h) ≡ extent.closing
  pub line : IsLineAt bytes extent h

-- a head whose fields do not allow a body that is read here
pub record IsBarred (bytes : List ℕ) (status : ℕ) (h : RequestHead) : Type 0 where
  pub reads : IsHead bytes h
  pub length_is : body_length h.method (pairs_of h) ≡ Err status

-- the extent of a head, or the status with which it is refused
abbrev pub Judges : List ℕ → Result Extent ℕ → Type 0
Judges bytes (Ok extent) = (h : RequestHead) × IsAccepted bytes extent h
Judges bytes (Err status) = (IsNoHeadAtAll bytes × (status ≡ 400)) ⊎ ((h : RequestHead) × IsBarred bytes status h)
