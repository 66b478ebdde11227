-- The batches that an office keeps, and the position of a batch among them.
use Rattle.std.specs.Prelude.{◌≡◌, ℕ, ◌≤◌, Bool, true, false, IsTrue, List, ◌++◌, length, map}
use Rattle.batch_positions.specs.Positions.{PositionsState}
use Rattle.fact_kinds.specs.declared.batch.Batch.{Batch}
use Rattle.fact_kinds.specs.Identity.{identity_of}
use Rattle.ldar_journal.specs.Image.{IsKept}
use Rattle.ldar_law.specs.Machine.{StandsAt}
use Rattle.ldar_law.specs.Verdicts.{is_ruly}
use Rattle.office_views.specs.Held.{Held}

-- these batches may be kept and are ruly; each is found at its position, and there is room for the spare ones
pub record IsArchive (views : Held) (positions : PositionsState) : Type 0 where
  pub kept : IsKept views.adopted
  pub ruly : IsTrue (is_ruly views.adopted)
  pub known : positions.identities ≡ map identity_of views.adopted
  pub room : length views.spare ≤ positions.room

-- batches may follow a history: together they may be kept, and each passes after those before it
pub record MayCome (history batches : List Batch) : Type 0 where
  pub kept : IsKept (history ++ batches)
  pub ruly : IsTrue (is_ruly (history ++ batches))

-- a history has the batch's identity at this position, from 1, with equal or with other content
abbrev pub IsKeptAt : List Batch → Batch → ℕ → Bool → Type 0
IsKeptAt history batch position same = (kept : Batch) × StandsAt history batch position kept × (same ≡ true → kept ≡ batch) × (same ≡ false → ¬ (kept ≡ batch))
