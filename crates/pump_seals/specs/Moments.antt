-- Moments of the calendar, and lists of them in order.
use Rattle.std.specs.Prelude.{◌≡◌, Bool, false, ◌&&◌, ◌||◌, nat_eq, nat_lt, List, [], ◌∷◌}
use Rattle.std.specs.List.{AllByRecursion}
use Rattle.pump_seals.specs.declared.moment.Moment.{Moment}
use Rattle.pump_seals.specs.declared.row.Mark.{Mark}
use Rattle.pump_seals.specs.declared.row.SealRow.{SealRow}

-- the first moment is before the second: on an earlier day, or at an earlier minute of the same day
unfoldable pub is_before : Moment → Moment → Bool
is_before a b = nat_lt a.day b.day || (nat_eq a.day b.day && nat_lt a.minute b.minute)

-- no element of the list is before an earlier one
abbrev pub MomentsRise : {M : Type 0} → (M → M → Bool) → List M → Type 0
MomentsRise before [] = Unit {0}
MomentsRise before (x ∷ xs) = AllByRecursion (λ y. before y x ≡ false) xs × MomentsRise before xs

-- the first mark has the earlier moment
abbrev pub mark_before : Mark → Mark → Bool
mark_before a b = is_before a.at b.at

-- the first row is before the second: it has a lower component, or the same one and an earlier moment
unfoldable pub row_before : SealRow → SealRow → Bool
row_before a b =
    nat_lt a.component b.component
    || (nat_eq a.component b.component && is_before (record { day = a.day; minute = a.minute }) (record { day = b.day; minute = b.minute }))
