-- When the leaks of one kind are settled, and when a tag opens and closes, decided only by the order of moments. Of two equal moments,
-- neither is before the other.
use Rattle.std.specs.Prelude.{Bool, not, ◌&&◌, ◌||◌, Option, List, find}
use Rattle.std.specs.List.{list_any}

-- an order of moments, whether an attempt is needed, the leaks of one kind, the attempts, and the mends: moments that may settle such leaks
module _ {M : Type 0} (before : M → M → Bool) (by_attempt : Bool) (leaks attempts mends : List M) where
  -- some attempt is between a leak and a mend, and no leak is between that attempt and the mend
  abbrev pub is_attempted : M → M → Bool
  is_attempted leak mend =
      list_any (λ a. before leak a && (before a mend && not (list_any (λ x. before a x && before x mend) leaks))) attempts

  -- the mend settles the leak: it is later and, if an attempt is needed, comes after one
  abbrev pub settles : M → M → Bool
  settles leak mend = before leak mend && (not by_attempt || is_attempted leak mend)

  -- some leak that passes is settled by no mend that passes
  abbrev pub is_unsettled : (M → Bool) → Bool
  is_unsettled passes = list_any (λ x. passes x && not (list_any (λ v. settles x v && passes v) mends)) leaks

  -- a tag opens at a leak: each earlier leak is settled by a mend before this one
  unfoldable pub opens_tag : M → Bool
  opens_tag leak = not (is_unsettled (λ x. before x leak))

  -- the closing of a tag that is open at a leak: the first later mend by which each leak up to that moment is settled
  unfoldable pub closing_of : M → Option M
  closing_of leak = find (λ v. before leak v && not (is_unsettled (λ x. not (before v x)))) mends
