-- One worker of slices with one front and one desk.
use Rattle.std.proofs.Common.{◌≡◌, ℕ, Option, List, [], ◌∷◌, length, get_or, set, arith}
use Rattle.std.specs.List.{AllByRecursion}
use Rattle.ldar_ports.specs.Front.{Connection, Finished}
use Rattle.office_server.specs.Fronts.{DeskState, EachWorked, WorkedAt}

-- a property of each element holds for this one
pub holds_alone : {A : Type 0} (P : A → Type 0) (xs : List A) (x : A) → length xs ≡ 1 → AllByRecursion P xs → P (get_or xs 0 x)
holds_alone P [] x one all = absurd (omega (arith, one))
holds_alone P (y ∷ xs) x one all = all.0

module _ {L : Type 0} (left_of : L → Option (List Connection)) (done_of : L → Option (List Finished)) (faults_of : L → ℕ) where
  -- the one worker is each worker
  pub worked_alone : (fronts : List L) (desks : List DeskState) (a b : L) (p q : DeskState) → length fronts ≡ 1 → length desks ≡ 1
      → WorkedAt left_of done_of faults_of (get_or fronts 0 a) b (get_or desks 0 p) q
      → EachWorked left_of done_of faults_of fronts (set fronts 0 b) desks (set desks 0 q)
  worked_alone [] desks a b p q one one' worked = absurd (omega (arith, one))
  worked_alone (x ∷ fronts) [] a b p q one one' worked = absurd (omega (arith, one'))
  worked_alone (x ∷ []) (y ∷ []) a b p q one one' worked = (worked, tt)
  worked_alone (x ∷ x' ∷ fronts) (y ∷ desks) a b p q one one' worked = absurd (omega (arith, one))
  worked_alone (x ∷ []) (y ∷ y' ∷ desks) a b p q one one' worked = absurd (omega (arith, one'))
