-- The components of a report's columns, counted one after another.
use Rattle.std.proofs.Common.{◌≡◌, ℕ, ◌+◌, ◌<◌, ◌^◌, Bool, List, [], ◌∷◌, length, take, get_or, inl, inr, refl, arith}
use Rattle.std.specs.List.{count_by}
use Rattle.std.proofs.lemmas.Bool.{cases_Bool}
use Rattle.std.proofs.lemmas.List.Sums.{count_by-le-length, count_by_more_no, count_by_more_yes}
use Rattle.std.proofs.lemmas.List.{length-take-le}
use Rattle.fact_kinds.specs.declared.class.Kind.{Kind}
use Rattle.ldar_law.specs.declared.sheet.Sheet.{Sheet}
use Rattle.ldar_law.specs.Reports.{leaking_in, late_in}
use Rattle.semiannual_report.specs.Columns.{is_counted_as}
use Rattle.semiannual_report.specs.declared.cells.Columns.{Columns}

-- the counts in a type's columns are those of these components
pub record AreCounted (columns : Kind) (day month : ℕ) (sheets : List Sheet) (counted : Columns) : Type 0 where
  pub leaking : counted.leaking ≡ leaking_in (is_counted_as columns) sheets month
  pub late : counted.late ≡ late_in (is_counted_as columns) day sheets month

-- one more element adds its own count
one_more : {X : Type 0} (p : X → Bool) (xs : List X) (i : ℕ) (d : X) → i < length xs
    → count_by p (take (i + 1) xs) ≡ count_by p (take i xs) + count_by p (get_or xs i d ∷ [])
one_more p xs i d within =
    elim (cases_Bool (p (get_or xs i d))) [
      | inl here ↦ rw (count_by_more_yes p xs i d within here, here) refl
      | inr not ↦ rw (count_by_more_no p xs i d within not, not) (omega arith)
    ]

-- a count continues that of the elements before
goes_on : {X : Type 0} (p : X → Bool) (xs : List X) (i : ℕ) (d : X) (old new : ℕ) → i < length xs → length xs < 2 ^ 32
    → old ≡ count_by p (take i xs)
    → (old + count_by p (get_or xs i d ∷ []) < 2 ^ 32 → new ≡ old + count_by p (get_or xs i d ∷ []))
    → new ≡ count_by p (take (i + 1) xs)
goes_on p xs i d old new within few counted adds =
    let more = one_more p xs i d within in
    let all = count_by-le-length p (take (i + 1) xs) in
    let front = length-take-le (i + 1) xs (omega (arith, within)) in
    let is = adds (omega (arith, more, all, front, counted, few)) in
    omega (arith, more, is, counted)

-- one component more is counted
pub counted_more : (columns : Kind) (day month : ℕ) (sheets : List Sheet) (i : ℕ) (d : Sheet) (old new : Columns)
    → i < length sheets → length sheets < 2 ^ 32 → AreCounted columns day month (take i sheets) old
    → (old.leaking + leaking_in (is_counted_as columns) (get_or sheets i d ∷ []) month < 2 ^ 32
    → new.leaking ≡ old.leaking + leaking_in (is_counted_as columns) (get_or sheets i d ∷ []) month)
    → (old.late + late_in (is_counted_as columns) day (get_or sheets i d ∷ []) month < 2 ^ 32
    → new.late ≡ old.late + late_in (is_counted_as columns) day (get_or sheets i d ∷ []) month)
    → AreCounted columns day month (take (i + 1) sheets) new
counted_more columns day month sheets i d old new within few counted leaking late = record {
  leaking = goes_on _ sheets i d old.leaking new.leaking within few counted.leaking leaking;
  late = goes_on _ sheets i d old.late new.late within few counted.late late;
}
