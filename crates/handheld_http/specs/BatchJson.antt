-- The batch in the body of a request: a JSON text, read as `serde_json` reads it, with its members in any order.
use Rattle.std.specs.Prelude.{◌≡◌, ℕ, ◌&&◌, nat_lt, nat_le, List, [], ◌∷◌, length, codes, Option, Some, None, option_and_then, if◌then◌else◌}
use Rattle.std.specs.Str.{IsUtf8}
use Rattle.serde_json.specs.Data.{Data, Items, no_items, item}
use Rattle.serde_json.specs.Find.{get, as_array}
use Rattle.serde_json.specs.Read.{read}
use Rattle.fact_kinds.specs.declared.batch.Batch.{Batch}
use Rattle.fact_kinds.specs.Stated.{Stated}
use Rattle.handheld_http.specs.Members.{◌>>=◌, has_only, number, word, day}
use Rattle.handheld_http.specs.FactJson.{kind_words, body}
use Rattle.fact_kinds.specs.declared.limits.TheConstants.{BATCH_FACTS}

-- the fact in an object
unfoldable pub fact_of : Data → Option Stated
fact_of d = do
  kind ← word kind_words (get (codes "kind") d)
  day ← day (get (codes "day") d)
  minute ← number 0 1_439 (get (codes "minute") d)
  body ← body kind d
  Some (record { day = day; minute = minute; body = body })

-- the facts in an array; each element must be a fact
abbrev pub facts_of : Items → Option (List Stated)
facts_of no_items = Some []
facts_of (item d items) = do
  fact ← fact_of d
  facts ← facts_of items
  Some (fact ∷ facts)

-- a batch of 1 to 512 facts
unfoldable pub batch : ℕ → ℕ → List Stated → Option Batch
batch handheld number facts =
    if nat_lt 0 (length facts) && nat_le (length facts) BATCH_FACTS
    then Some (record { handheld = handheld; number = number; facts = facts })
    else None

-- the batch in an object
unfoldable pub batch_of : Data → Option Batch
batch_of d =
    if has_only (codes "handheld" ∷ codes "number" ∷ codes "facts" ∷ []) d then (do
      handheld ← number 0 65_535 (get (codes "handheld") d)
      count ← number 0 4_294_967_295 (get (codes "number") d)
      items ← get (codes "facts") d >>= as_array
      facts ← facts_of items
      batch handheld count facts)
    else None

-- the body is this batch
pub record IsBatchText (body : List ℕ) (batch : Batch) : Type 0 where
  pub text : IsUtf8 body
  pub says : option_and_then batch_of (read body) ≡ Some batch

-- the body is a batch, or none
abbrev pub Says : List ℕ → Option Batch → Type 0
Says body None = (batch : Batch) → ¬ (IsBatchText body batch)
Says body (Some batch) = IsBatchText body batch
