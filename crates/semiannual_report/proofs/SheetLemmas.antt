-- The number of sheets of distinct components, and the numbers of six months at their places.
use Rattle.std.proofs.Common.{◌≡◌, ℕ, ◌+◌, ◌≤◌, ◌<◌, ◌^◌, nat_lt, true, List, [], ◌∷◌, length, arith}
use Rattle.std.proofs.lemmas.Bool.Decides.{nat_tests}
use Rattle.std.specs.List.{AllByRecursion}
use Rattle.list_words.specs.Order.{Ascends}
use Rattle.ldar_law.specs.declared.sheet.Sheet.{Sheet}
use Rattle.ldar_law.specs.declared.numbers.TheConstants.{MOST_COMPONENTS}
use Rattle.semiannual_report.specs.Columns.{AreOfComponents}

-- the components after one have greater numbers
all_behind : (low : ℕ) (sheets : List Sheet) → AllByRecursion (λ sheet. nat_lt low sheet.component ≡ true) sheets
    → AllByRecursion (λ sheet. low + 1 ≤ sheet.component) sheets
all_behind low [] all = all
all_behind low (sheet ∷ sheets) all = (grind (arith, nat_tests), all_behind low sheets all.1)

-- a bound of the number of ascending components up to 60,000
count_from : (low : ℕ) (sheets : List Sheet) → low ≤ 60_001 → AllByRecursion (λ sheet. low ≤ sheet.component) sheets
    → AllByRecursion (λ sheet. sheet.component ≤ MOST_COMPONENTS) sheets → Ascends (λ a b. nat_lt a.component b.component) sheets
    → length sheets + low ≤ 60_001
count_from low [] within from up_to ascend = omega arith
count_from low (sheet ∷ sheets) within from up_to ascend =
    let here = up_to.0 in
    let from_here = from.0 in
    let rest = count_from (sheet.component + 1) sheets (omega arith) (all_behind sheet.component sheets ascend.0) up_to.1 ascend.1 in
    omega arith

-- each number is at least 0
all_from_zero : (sheets : List Sheet) → AllByRecursion (λ sheet. 0 ≤ sheet.component) sheets
all_from_zero [] = tt
all_from_zero (sheet ∷ sheets) = (omega arith, all_from_zero sheets)

-- the sheets are of distinct components, so there are at most 60,001
pub count_fits : (sheets : List Sheet) → AreOfComponents sheets → length sheets < 2 ^ 32
count_fits sheets are =
    let counted = count_from 0 sheets (omega arith) (all_from_zero sheets) are.each are.ascend in
    omega arith
