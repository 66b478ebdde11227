-- Definitions for a walk over the leaks of one kind, from one leak to the next.
use Rattle.std.specs.Prelude.{◌≡◌, ℕ, ◌+◌, Bool, true, false, not, Option, Some, option_and_then, List, find, slice_get}
use Rattle.std.specs.Option.{option_map_or}
use Rattle.pump_seals.specs.Repairs.{opens_tag, closing_of}

module _ {M : Type 0} (before : M → M → Bool) (by_attempt : Bool) (leaks attempts mends : List M) where
  -- the moment after which a leak can be settled: the first attempt after it, or the leak itself if no attempt is needed
  abbrev pub source : Bool → M → Option M
  source true leak = find (before leak) attempts
  source false leak = Some leak

  -- the first mend that settles a leak, if no later leak prevents it
  unfoldable pub first_mend : M → Option M
  first_mend leak = option_and_then (λ s. find (before s) mends) (source by_attempt leak)

  -- a leak is settled before the next one
  abbrev pub is_settled_before : M → M → Bool
  is_settled_before leak next = option_map_or (λ w. before w next) (first_mend leak) false

  -- there is a next leak, and this leak is not settled before it
  abbrev pub runs_on_from : M → Option M → Bool
  runs_on_from leak next = option_map_or (λ y. not (is_settled_before leak y)) next false

  abbrev pub runs_on : ℕ → Bool
  runs_on place = option_map_or (λ x. runs_on_from x (slice_get leaks (place + 1))) (slice_get leaks place) false

-- a leak is in a run of leaks that are not settled in between: the run decides whether a tag opens at the leak, and when it closes
pub record IsInRun {M : Type 0} (before : M → M → Bool) (by_attempt : Bool) (leaks attempts mends : List M) (first : M) (closed : Option M) (leak : M) : Type 0 where
  pub opens : opens_tag before by_attempt leaks attempts mends leak ≡ not (before first leak)
  pub closes : closing_of before by_attempt leaks attempts mends leak ≡ closed
  pub from_first : before leak first ≡ false
