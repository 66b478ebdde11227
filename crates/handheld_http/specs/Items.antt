-- The items of a connection: its requests, each the bytes of one head and of the body that its head states.
use Rattle.std.specs.Prelude.{◌≡◌, ℕ, ◌+◌, ◌≤◌, ◌<◌, ◌↔◌, Bool, true, List, [], ◌++◌, length, take, IsTrue}
use Rattle.handheld_http.specs.Cuts.{BeginsRequest, Refuses, IsCut}
use Rattle.handheld_http.specs.declared.outcome.Cut.{Cut}
use Rattle.handheld_http.specs.declared.outcome.Cut.TheVariants.{Whole, More}

-- the bytes are one request, after which the connection is closed or not
pub record IsWhole (bytes : List ℕ) (closing : Bool) : Type 0 where
  pub head : ℕ
  pub body : ℕ
  pub begins : BeginsRequest bytes head body closing
  pub whole : length bytes ≡ head + body

-- the bytes are one request
unfoldable pub IsItem : List ℕ → Type 0
IsItem bytes = (closing : Bool) × IsWhole bytes closing

-- the bytes are one request, and it is the last one that is answered
unfoldable pub IsClosing : List ℕ → Type 0
IsClosing bytes = IsWhole bytes true

-- no prefix of the bytes is a request
abbrev pub HasNoItem : List ℕ → Type 0
HasNoItem bytes = (n : ℕ) → n ≤ length bytes → ¬ (IsItem (take n bytes))

-- the bytes are refused
abbrev pub IsRefused : List ℕ → Type 0
IsRefused bytes = (status : ℕ) × Refuses bytes status

-- ---- laws

-- the maximum length of a request: of its head and its body
abbrev pub longest_item : ℕ
longest_item = 270_336

-- bytes are cut in only one way
abbrev pub OneCut : Type 0
OneCut = (bytes : List ℕ) (cut other : Cut) → IsCut bytes cut → IsCut bytes other → cut ≡ other

-- no request is a proper prefix of another
abbrev pub NoProperFront : Type 0
NoProperFront = (bytes more : List ℕ) → IsItem bytes → IsItem (bytes ++ more) → more ≡ []

-- a request has at least 4 bytes and at most the maximum
abbrev pub ItemsAreInRange : Type 0
ItemsAreInRange = (bytes : List ℕ) → IsItem bytes → (4 ≤ length bytes) × (length bytes ≤ longest_item)

-- the extent of a head does not change as more bytes arrive
abbrev pub HeadStays : Type 0
HeadStays =
    (bytes more : List ℕ) (head body : ℕ) (closing : Bool)
    → BeginsRequest bytes head body closing → BeginsRequest (bytes ++ more) head body closing

-- the head's extent decides how all received bytes are cut, whether the body is complete or not
abbrev pub HeadTellsCut : Type 0
HeadTellsCut =
    (bytes more : List ℕ) (head body : ℕ) (closing : Bool) → BeginsRequest bytes head body closing
    → (head + body ≤ length (bytes ++ more) → IsCut (bytes ++ more) (Whole head body closing))
    × (length (bytes ++ more) < head + body → IsCut (bytes ++ more) More)

-- refused bytes are still refused when more arrive
abbrev pub RefusalStays : Type 0
RefusalStays = (bytes more : List ℕ) (status : ℕ) → Refuses bytes status → Refuses (bytes ++ more) status

-- the bytes of a whole request are a request
abbrev pub WholeIsItem : Type 0
WholeIsItem =
    (bytes : List ℕ) (head body : ℕ) (closing : Bool) → IsCut bytes (Whole head body closing)
    → IsItem (take (head + body) bytes) × (IsTrue closing ↔ IsClosing (take (head + body) bytes))

-- if more bytes are awaited, no prefix is a request, and nothing is refused
abbrev pub MoreIsNone : Type 0
MoreIsNone = (bytes : List ℕ) → IsCut bytes More → HasNoItem bytes × (¬ (IsRefused bytes))

-- if bytes are refused, no prefix is a request, whatever follows
abbrev pub RefusedIsNone : Type 0
RefusedIsNone = (bytes more : List ℕ) → IsRefused bytes → HasNoItem (bytes ++ more)

-- a request is cut from bytes that begin with it
abbrev pub ItemIsCut : Type 0
ItemIsCut =
    (bytes more : List ℕ) → IsItem bytes
    → (head : ℕ) × (body : ℕ) × (closing : Bool) × IsCut (bytes ++ more) (Whole head body closing) × (head + body ≡ length bytes)
