-- A loop that appends the value of each number of a range.
use Rattle.std.proofs.Common.{◌≡◌, ℕ, ◌+◌, ◌<◌, ◌≤◌, List, [], ◌∷◌, ◌++◌, map, refl, sym, ap, ◌∙◌}
use Rattle.std.proofs.lemmas.List.{append_assoc, append-nil}
use Rattle.list_words.specs.Ranges.{until}
use Rattle.list_words.proofs.RangeLemmas.{until_none, until_more}

-- one more number
pub map_until : {B : Type 0} (f : ℕ → B) (done : List B) (low end : ℕ) (b : B) → low < end → b ≡ f low →
    (done ++ b ∷ []) ++ map f (until (low + 1) end) ≡ done ++ map f (until low end)
map_until f done low end b h is = rw (is, until_more low end h, append_assoc) refl

-- the end of the range
pub map_done : {B : Type 0} (f : ℕ → B) (done all : List B) (low end : ℕ) → end ≤ low → done ++ map f (until low end) ≡ all → done ≡ all
map_done f done all low end h e = sym (append-nil done) ∙ (ap (λ ns. done ++ map f ns) (sym (until_none low end h)) ∙ e)
