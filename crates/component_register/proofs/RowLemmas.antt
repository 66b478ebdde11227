use Rattle.std.proofs.Common.{ℕ, ◌<◌, List, [], ◌∷◌, ◌++◌, length, set, refl, ◌∙◌, arith}
use Rattle.std.proofs.lemmas.List.{length-append, length-set}
use Rattle.fact_store.proofs.ListLemmas.{value_at-push, value_at-set}
use Rattle.component_register.specs.Slots.{OnlyAdds, SetsRow}

module _ {T : Type 0} where
  pub adds_same : (empty : T) (rows : List T) → OnlyAdds empty rows rows
  adds_same empty rows = record { rows = λ n. refl; grows = omega arith }

  pub adds_on : (empty : T) (a b c : List T) → OnlyAdds empty a b → OnlyAdds empty b c → OnlyAdds empty a c
  adds_on empty a b c first more = record { rows = λ n. more.rows n ∙ first.rows n; grows = omega (arith, first.grows, more.grows) }

  -- an empty row more
  pub adds_push : (empty : T) (rows : List T) → OnlyAdds empty rows (rows ++ empty ∷ [])
  adds_push empty rows =
      record {
        rows = λ n. value_at-push (λ row. row) empty rows empty n refl;
        grows = omega (arith, length-append rows (empty ∷ []));
      }

  -- a write of a row
  pub sets_row : (number : ℕ) (row : T) (rows : List T) → number < length rows → SetsRow number row rows (set rows number row)
  sets_row number row rows within =
      record {
        rows = λ empty n. value_at-set (λ r. r) empty rows number row n within;
        same = length-set rows number row;
      }
