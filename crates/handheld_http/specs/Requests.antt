-- What a request asks for, from its method, its target and its body.
use Rattle.std.specs.Prelude.{◌≡◌, ◌↔◌, ℕ, ◌+◌, Bool, true, false, ◌&&◌, ◌==◌, not, nat_eq, nat_le, nat_lt, List, get_or}
use Rattle.std.specs.Prelude.{length, take, drop, codes, Option, Some, None, ok_or, Result, Ok, Err, if◌then◌else◌}
use Rattle.std.specs.List.{before_first, after_first}
use Rattle.std.specs.Cmp.Lexicographic.{pointwise}
use Rattle.std.specs.Str.Parse.{digits_value}
use Rattle.httparse.specs.Grammar.{RequestHead}
use Rattle.ldar_days.specs.Texts.{day_of}
use Rattle.fact_kinds.specs.declared.batch.Batch.{Batch}
use Rattle.ldar_law.specs.declared.request.Request.{Request}
use Rattle.ldar_law.specs.declared.request.Request.TheVariants.{Sync as SyncRequest, Due as DueRequest, Tags as TagsRequest, Delays as DelaysRequest}
use Rattle.ldar_law.specs.declared.request.Request.TheVariants.{Route as RouteRequest, Percent as PercentRequest, Report as ReportRequest}
use Rattle.ldar_law.specs.declared.request.What.{What}
use Rattle.ldar_law.specs.declared.request.What.TheVariants.{Unit as NoUnit, Quarter as NoQuarter, Half as NoHalf, Day as NoDay, Stops as NoStops}
use Rattle.handheld_http.specs.declared.answer.Asked.{Asked}
use Rattle.handheld_http.specs.declared.answer.Asked.TheVariants.{Request as Asks, Not}
use Rattle.handheld_http.specs.declared.answer.Refusal.TheVariants.{BadBatch, NoPath, NoMethod, NoSuch}
use Rattle.handheld_http.specs.declared.outcome.Cut.TheVariants.{Whole}
use Rattle.handheld_http.specs.declared.routes.Page.{Page}
use Rattle.handheld_http.specs.declared.routes.Page.TheVariants.{Due, Tags, Delays, Route, Percent, Report}
use Rattle.handheld_http.specs.declared.routes.Resource.{Resource}
use Rattle.handheld_http.specs.declared.routes.Resource.TheVariants.{Sync, View}
use Rattle.handheld_http.specs.BatchJson.{Says}
use Rattle.handheld_http.specs.Cuts.{Begins, IsCut}
use Rattle.handheld_http.specs.Heads.{is_number, is_post}
use Rattle.handheld_http.specs.Items.{IsItem}
use Rattle.handheld_http.specs.Routes.{resource_of}

-- ---- a target, and the parts of its path

-- the path of a target: everything before the first question mark
abbrev pub path_of : List ℕ → List ℕ
path_of target = before_first (λ b. b == 63) target

-- a part of a path, up to the next slash
abbrev pub part : List ℕ → List ℕ
part text = before_first (λ b. b == 47) text

-- what follows the next slash
abbrev pub rest : List ℕ → List ℕ
rest text = after_first (λ b. b == 47) text

-- the parts of a view, after its name
abbrev pub parts_of : List ℕ → List ℕ
parts_of path = rest (rest path)

abbrev pub second_part : List ℕ → List ℕ
second_part parts = part (rest parts)

abbrev pub third_part : List ℕ → List ℕ
third_part parts = part (rest (rest parts))

-- ---- numbers and days

-- a zero is before other digits
abbrev pub has_leading_zero : List ℕ → Bool
has_leading_zero text = nat_lt 1 (length text) && get_or text 0 0 == 48

-- a decimal without leading zeros, for a number of at most `greatest`
abbrev pub is_decimal : ℕ → List ℕ → Bool
is_decimal greatest text = is_number text && not (has_leading_zero text) && nat_le (digits_value 10 text) greatest

unfoldable pub decimal_in : ℕ → List ℕ → Option ℕ
decimal_in greatest text = if is_decimal greatest text then Some (digits_value 10 text) else None

-- the unit in a part, or an error if the part has another form
abbrev pub unit_in : List ℕ → Result ℕ What
unit_in text = ok_or (decimal_in 255 text) NoUnit

abbrev pub number_in : What → List ℕ → Result ℕ What
number_in what text = ok_or (decimal_in 65_535 text) what

abbrev pub day_in : List ℕ → Result ℕ What
day_in text = ok_or (day_of text) NoDay

-- ---- views

-- one part after another
infixl 10 ◌>>=◌
abbrev pub ◌>>=◌ : {A B : Type 0} → Result A What → (A → Result B What) → Result B What
Ok a >>= f = f a
Err what >>= f = Err what

-- the request of a view, from its parts after the unit
unfoldable pub view_on : Page → ℕ → List ℕ → Result Request What
view_on Due unit parts = do
  day ← day_in (second_part parts)
  Ok (DueRequest unit day)
view_on Tags unit parts = do
  day ← day_in (second_part parts)
  Ok (TagsRequest unit day)
view_on Delays unit parts = do
  day ← day_in (second_part parts)
  Ok (DelaysRequest unit day)
view_on Route unit parts = do
  day ← day_in (second_part parts)
  stops ← number_in NoStops (third_part parts)
  Ok (RouteRequest unit day stops)
view_on Percent unit parts = do
  quarter ← number_in NoQuarter (second_part parts)
  day ← day_in (third_part parts)
  Ok (PercentRequest unit quarter day)
view_on Report unit parts = do
  half ← number_in NoHalf (second_part parts)
  day ← day_in (third_part parts)
  Ok (ReportRequest unit half day)

-- the request of a view, from its parts, or the first part that names nothing
unfoldable pub view_of : Page → List ℕ → Result Request What
view_of page parts = do
  unit ← unit_in (part parts)
  view_on page unit parts

abbrev pub asked_view : Result Request What → Asked
asked_view (Ok request) = Asks request
asked_view (Err what) = Not (NoSuch what)

-- ---- requests

abbrev pub is_get : List ℕ → Bool
is_get method = pointwise nat_eq method (codes "GET")

-- the request that the path for batches makes
abbrev pub asked_sync : Option Batch → Asked
asked_sync None = Not BadBatch
asked_sync (Some batch) = Asks (SyncRequest batch)

-- the request of a body sent to the path for batches; it must be posted
abbrev pub SyncAsks : Bool → List ℕ → Asked → Type 0
SyncAsks false body asked = asked ≡ Not (NoMethod true)
SyncAsks true body asked = (batch : Option Batch) × Says body batch × (asked ≡ asked_sync batch)

-- the request for a view; its method must be GET
abbrev pub ViewAsks : Bool → Page → List ℕ → Asked → Type 0
ViewAsks false page path asked = asked ≡ Not (NoMethod false)
ViewAsks true page path asked = asked ≡ asked_view (view_of page (parts_of path))

-- the request for what a path names, with this method and this body
abbrev pub ResourceAsks : Option Resource → List ℕ → List ℕ → List ℕ → Asked → Type 0
ResourceAsks None method path body asked = asked ≡ Not NoPath
ResourceAsks (Some Sync) method path body asked = SyncAsks (is_post method) body asked
ResourceAsks (Some (View page)) method path body asked = ViewAsks (is_get method) page path asked

-- the request with this method, this target and this body
abbrev pub RequestAsks : List ℕ → List ℕ → List ℕ → Asked → Type 0
RequestAsks method target body asked = ResourceAsks (resource_of (path_of target)) method (path_of target) body asked

-- the bytes are one request, and it asks for this
pub record Means (item : List ℕ) (asked : Asked) : Type 0 where
  pub head : ℕ
  pub body : ℕ
  pub closing : Bool
  pub h : RequestHead
  pub begins : Begins item head body closing h
  pub whole : length item ≡ head + body
  pub asks : RequestAsks h.method h.target (drop head item) asked

-- a request with a head of this length was cut
abbrev pub WasCut : List ℕ → ℕ → Type 0
WasCut bytes head = (body : ℕ) × (closing : Bool) × IsCut bytes (Whole head body closing)

-- the request that was cut asks for this
abbrev pub IsAsked : List ℕ → ℕ → Asked → Type 0
IsAsked bytes head asked =
    (body : ℕ) (closing : Bool) → IsCut bytes (Whole head body closing) → Means (take (head + body) bytes) asked

-- ---- laws

-- a request asks for only one thing
abbrev pub OneMeaning : Type 0
OneMeaning = (item : List ℕ) (asked other : Asked) → Means item asked → Means item other → asked ≡ other

-- each request asks for something, and nothing else does
abbrev pub ItemsMean : Type 0
ItemsMean = (item : List ℕ) → IsItem item ↔ ((asked : Asked) × Means item asked)
