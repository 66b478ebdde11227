-- What is true inside all views.
use Rattle.std.specs.Prelude.{◌≡◌, ℕ, ◌<◌, ◌≤◌, IsTrue, List, ◌++◌, length, take, drop, filter}
use Rattle.std.specs.List.{AllByRecursion, flat_map}
use Rattle.fact_kinds.specs.declared.batch.Batch.{Batch}
use Rattle.fact_kinds.specs.declared.limits.TheConstants.{BATCH_FACTS, MOST_FACTS}
use Rattle.fact_kinds.specs.Facts.{entries_of}
use Rattle.fact_kinds.specs.Fields.{IsFact}
use Rattle.fact_kinds.specs.Identity.{identities_differ}
use Rattle.fact_kinds.specs.Stated.{Stated}
use Rattle.fact_store.specs.Kept.{Kept}
use Rattle.ldar_law.specs.Slices.{is_registered, register_facts}
use Rattle.ldar_law.specs.Verdicts.{is_ruly}
use Rattle.office_views.specs.declared.header.Header.{Header}
use Rattle.office_views.specs.Headers.{headers_of}

-- the facts of some batches, one after another
abbrev pub facts_stated : List Batch → List Stated
facts_stated batches = flat_map (λ batch. batch.facts) batches

-- the first of these batches were adopted: what the store and the register keep of them, and have room for
pub record AreOf (batches : List Batch) (store register : Kept) (headers : List Header) (count : ℕ) : Type 0 where
  pub headed : headers ≡ headers_of 0 batches
  pub counted : count ≤ length batches
  pub filled : AllByRecursion (λ batch. (0 < length batch.facts) × (length batch.facts ≤ BATCH_FACTS)) batches
  -- the facts of the adopted batches came to the store, and the entries among them to the register
  pub arrived : store.arrived ≡ flat_map entries_of (take count batches)
  pub few : length store.arrived ≤ MOST_FACTS
  pub entered : register.arrived ≡ register_facts (flat_map entries_of (take count batches))
  -- there is room for the facts of the other batches, and it may be for more
  pub more : List Stated
  pub room : store.spare ≡ facts_stated (drop count batches) ++ more
  pub more_entries : List Stated
  pub entry_room : register.spare ≡ filter (λ fact. is_registered fact.body) (facts_stated (drop count batches)) ++ more_entries
  -- the history of the adopted batches is ruly, their identities differ, and each of their facts is in its ranges
  pub ruly : IsTrue (is_ruly (take count batches))
  pub differ : IsTrue (identities_differ (take count batches))
  pub in_range : AllByRecursion (λ batch. AllByRecursion IsFact batch.facts) (take count batches)

-- .. of some batches
abbrev pub IsSound : Kept → Kept → List Header → ℕ → Type 0
IsSound store register headers count = (batches : List Batch) × AreOf batches store register headers count
