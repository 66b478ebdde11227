-- Rows in order of import: difficult-to-monitor components after all others.
use Rattle.std.proofs.Common.{◌≡◌, ℕ, ◌+◌, Bool, true, false, not, cond, List, [], ◌∷◌, ◌++◌}
use Rattle.std.proofs.Common.{length, filter, Some, None, refl, sym, ap, ap₂, ◌∙◌, append_assoc, arith, Ok, Err}
use Rattle.std.proofs.lemmas.List.{append-nil, length-append}
use Rattle.std.proofs.lemmas.List.Elements.{filter-append}
use Rattle.fact_kinds.specs.Stated.{Stated}
use Rattle.register_import.specs.ComponentRows.{component_of, is_difficult}
use Rattle.register_import.specs.Components.{in_turn, rows_from}
use Rattle.register_import.specs.Rows.{Rows, behind}

-- the fact does not enter a difficult-to-monitor component
abbrev pub is_other : Stated → Bool
is_other fact = not (is_difficult fact)

-- the facts of rows, sorted, after other and difficult facts that were read before
abbrev pub sorted_behind : List Stated → List Stated → Rows → Rows
sorted_behind others difficult (Ok facts) = Ok ((others ++ filter is_other facts) ++ (difficult ++ filter is_difficult facts))
sorted_behind others difficult (Err at) = Err at

-- nothing was read before
pub sorted_behind-none : (rows : Rows) → sorted_behind [] [] rows ≡ in_turn rows
sorted_behind-none (Ok facts) = refl
sorted_behind-none (Err at) = refl

-- one more fact, appended to those before it if it passes
filter-behind : (p : Stated → Bool) (front : List Stated) (fact : Stated) (facts : List Stated)
    → front ++ filter p (fact ∷ facts) ≡ (front ++ filter p (fact ∷ [])) ++ filter p facts
filter-behind p front fact facts =
    ap (λ (l : List Stated). front ++ l) (filter-append p (fact ∷ []) facts)
    ∙ sym (append_assoc front (filter p (fact ∷ [])) (filter p facts))

-- one more fact was read before
pub sorted_behind-push : (others difficult more_others more_difficult : List Stated) (fact : Stated) (rows : Rows)
    → more_others ≡ others ++ filter is_other (fact ∷ []) → more_difficult ≡ difficult ++ filter is_difficult (fact ∷ [])
    → sorted_behind others difficult (behind (fact ∷ []) rows) ≡ sorted_behind more_others more_difficult rows
sorted_behind-push others difficult more_others more_difficult fact (Err at) to_others to_difficult = refl
sorted_behind-push others difficult more_others more_difficult fact (Ok facts) to_others to_difficult =
    rw (to_others, to_difficult)
    (ap₂ (λ (a b : List Stated). Ok (a ++ b)) (filter-behind is_other others fact facts) (filter-behind is_difficult difficult fact facts))

-- before the rows after the header, nothing was read
pub first_rows : (at : ℕ) (rows all : List (List (List ℕ))) → at ≡ 2 → rows ≡ all → sorted_behind [] [] (rows_from at rows) ≡ in_turn (rows_from 2 all)
first_rows at rows all second same = rw (second, same) (sorted_behind-none (rows_from 2 all))

-- a row with a fact
pub row_more : (others difficult more_others more_difficult : List Stated) (fact : Stated) (at next : ℕ) (row : List (List ℕ))
    (rows rest : List (List (List ℕ)))
    → rows ≡ row ∷ rest → component_of row ≡ Some fact → next ≡ at + 1
    → more_others ≡ others ++ filter is_other (fact ∷ []) → more_difficult ≡ difficult ++ filter is_difficult (fact ∷ [])
    → sorted_behind others difficult (rows_from at rows) ≡ sorted_behind more_others more_difficult (rows_from next rest)
row_more others difficult more_others more_difficult fact at next row rows rest rows_are said later to_others to_difficult =
    rw (rows_are, said, later) (sorted_behind-push others difficult more_others more_difficult fact (rows_from (at + 1) rest) to_others to_difficult)

-- a bad row
pub row_bad : (others difficult : List Stated) (at : ℕ) (row : List (List ℕ)) (rows rest : List (List (List ℕ)))
    → rows ≡ row ∷ rest → component_of row ≡ None → sorted_behind others difficult (rows_from at rows) ≡ Err at
row_bad others difficult at row rows rest rows_are said = rw (rows_are, said) refl

-- no more rows
pub rows_end : (others difficult : List Stated) (at : ℕ) (rows : List (List (List ℕ))) → rows ≡ []
    → sorted_behind others difficult (rows_from at rows) ≡ Ok (others ++ difficult)
rows_end others difficult at rows rows_are = rw (rows_are, append-nil others, append-nil difficult) refl

-- a fact is appended to one of the two lists
is_one_more : (difficult : Bool) (fact : Stated) (others later : List Stated)
    → length (others ++ cond (not difficult) (fact ∷ []) []) + length (later ++ cond difficult (fact ∷ []) []) ≡ length others + length later + 1
is_one_more true fact others later = omega (arith, length-append others [], length-append later (fact ∷ []))
is_one_more false fact others later = omega (arith, length-append others (fact ∷ []), length-append later [])

-- both lists together have one more fact
pub one_more : (others difficult more_others more_difficult : List Stated) (fact : Stated)
    → more_others ≡ others ++ filter is_other (fact ∷ []) → more_difficult ≡ difficult ++ filter is_difficult (fact ∷ [])
    → length more_others + length more_difficult ≡ length others + length difficult + 1
one_more others difficult more_others more_difficult fact to_others to_difficult =
    rw (to_others, to_difficult) (is_one_more (is_difficult fact) fact others difficult)
