use Rattle.std.proofs.Common.{◌≡◌, ℕ, zero, suc, Some, None, List, [], ◌∷◌, drop, slice_get, refl}
use Rattle.ldar_law.specs.declared.delay.Stop.{Stop}
use Rattle.ldar_law.specs.declared.delay.Until.TheVariants.{Date, Shutdown}
use Rattle.ldar_law.specs.Delays.{end_of, end_of_first}

module _ (attempts : List ℕ) where
  -- the end of the shutdown at a place
  pub known_end : (stops : List Stop) (place : ℕ) (stop : Stop) → slice_get stops place ≡ Some stop →
      end_of_first attempts (drop place stops) ≡ Date (end_of attempts stop)
  known_end [] place stop found = cc
  known_end (x ∷ xs) zero stop found = let same : x ≡ stop = cc in rw same refl
  known_end (x ∷ xs) (suc place) stop found = known_end xs place stop found

  -- no shutdown is at the place
  pub unknown_end : (stops : List Stop) (place : ℕ) → slice_get stops place ≡ None → end_of_first attempts (drop place stops) ≡ Shutdown
  unknown_end [] zero none = refl
  unknown_end [] (suc place) none = refl
  unknown_end (x ∷ xs) zero none = cc
  unknown_end (x ∷ xs) (suc place) none = unknown_end xs place none
