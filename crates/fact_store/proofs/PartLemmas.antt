-- Counting and listing facts part by part.
use Rattle.std.proofs.Common.{◌≡◌, ℕ, ◌+◌, ◌<◌, ◌≤◌, List, Option, [], ◌++◌, length, take, drop, min, max, cond, count_by}
use Rattle.std.proofs.Common.{refl, sym, ap, ◌∙◌, subst, inl, inr, arith}
use Rattle.std.proofs.lemmas.Bool.{cases_lt}
use Rattle.std.proofs.lemmas.List.{append-nil, drop_all, length-take-le, take_all, take-take}
use Rattle.std.proofs.lemmas.List.Sums.{sum_by-append}
use Rattle.list_words.specs.Order.{in_order}
use Rattle.fact_kinds.specs.declared.body.FactBody.{FactBody}
use Rattle.fact_kinds.specs.Facts.{Entry, goes_first}
use Rattle.fact_kinds.specs.Stated.{Stated}
use Rattle.fact_store.specs.declared.index.Index.{Index}
use Rattle.fact_store.specs.declared.naming.Naming.{Naming}
use Rattle.fact_store.specs.Inside.{KeepsFirst}
use Rattle.fact_store.specs.Kept.{names}
use Rattle.fact_store.specs.Listing.{AreCounts, HoldInTurn, in_turn, named_in, TakeRoom}
use Rattle.fact_store.specs.Lists.{room_in, value_at, OnlyGrow}
use Rattle.fact_store.specs.Naming.{HasRoomFor, named_by}
use Rattle.fact_store.specs.Parts.{KeepsTurn}
use Rattle.fact_store.proofs.ListingLemmas.{front_behind, hold_grown}

-- the count of a number over two runs of facts is the sum
named_both : (naming : FactBody → Option ℕ) (xs ys : List Entry) (n : ℕ) → named_in naming (xs ++ ys) [] n ≡ named_in naming xs [] n + named_in naming ys [] n
named_both naming xs ys n = omega (arith, sum_by-append (λ e. cond (names naming n e) 1 0) xs ys)

-- the new facts up to the end of a part are those before it and those in it
part_new : (listed from to : ℕ) (arrived : List Entry) → from ≤ to → to ≤ length arrived
    → drop listed (take to arrived) ≡ drop listed (take from arrived) ++ drop (min (max listed from) to) (take to arrived)
part_new listed from to arrived le within =
    let came = take to arrived in
    elim (cases_lt from listed) [
      | inl before ↦
          let none : drop listed (take from arrived) ≡ [] =
          drop_all listed (take from arrived) (omega (arith, before, length-take-le from arrived (omega (arith, le, within)))) in
          rw none
          (elim (cases_lt listed to) [
            | inl inside ↦
                let at : min (max listed from) to ≡ listed = omega (arith, before, inside) in
                rw at refl
            | inr past ↦
                let at : min (max listed from) to ≡ to = omega (arith, before, past) in
                let long = length-take-le to arrived within in
                rw at (drop_all listed came (omega (arith, past, long)) ∙ sym (drop_all to came (omega (arith, long))))
          ])
      | inr behind ↦
          let at : min (max listed from) to ≡ from = omega (arith, behind, le) in
          rw at (subst (λ es. drop listed came ≡ drop listed es ++ drop from came) (take-take from to arrived le) (front_behind listed from came behind))
    ]

-- the counts up to the end of a part
pub counted_part : (naming : FactBody → Option ℕ) (listed from to : ℕ) (arrived : List Entry) (old new : List ℕ) → from ≤ to → to ≤ length arrived
    → AreCounts naming (drop listed (take from arrived)) [] old
    → ((n : ℕ) → value_at (λ c. c) 0 new n ≡ value_at (λ c. c) 0 old n + named_in naming (drop (min (max listed from) to) (take to arrived)) [] n)
    → AreCounts naming (drop listed (take to arrived)) [] new
counted_part naming listed from to arrived old new le within counted more n =
    let part = drop (min (max listed from) to) (take to arrived) in
    more n ∙ ap (λ count. count + named_in naming part [] n) (counted n)
    ∙ sym (ap (λ es. named_in naming es [] n) (part_new listed from to arrived le within) ∙ named_both naming (drop listed (take from arrived)) part n)

-- an index that made room lists the same first facts
pub grown_first : (naming : Naming) (arrived : List Entry) (old new : Index) → new.naming ≡ old.naming → new.listed ≡ old.listed
    → OnlyGrow old.lists.items new.lists.items → KeepsFirst naming arrived old → KeepsFirst naming arrived new
grown_first naming arrived old new same listed grows keeps =
    record {
      by = same ∙ keeps.by;
      within = omega (arith, listed, keeps.within);
      lists = rw listed (hold_grown (named_by naming) (take old.listed arrived) _ old.lists.items new.lists.items keeps.lists grows);
    }

module _ (naming : Naming) (arrived : List Entry) (spare : List Stated) where
  -- an index with room for all counts begins without new facts
  pub turn_begins : (old new : Index) (counts : List ℕ) → new.naming ≡ old.naming → new.listed ≡ old.listed
      → OnlyGrow old.lists.items new.lists.items → ((n : ℕ) → value_at (λ c. c) 0 counts n ≤ room_in new.lists.items n)
      → KeepsFirst naming arrived old → AreCounts (named_by old.naming) (drop old.listed arrived) spare counts → KeepsTurn naming arrived spare 0 new
  turn_begins old new counts same listed grows roomy keeps counted =
      let front = take old.listed arrived in
      let at : max new.listed 0 ≡ old.listed = omega (arith, listed) in
      let holds = hold_grown (named_by naming) front _ old.lists.items new.lists.items keeps.lists grows in
      let none : drop old.listed front ≡ [] = drop_all old.listed front (omega (arith, length-take-le old.listed arrived keeps.within)) in
      let turn : in_order goes_first front ≡ in_turn old.listed front =
      sym (rw (none, take-take old.listed old.listed arrived (omega arith)) (append-nil (in_order goes_first front))) in
      record {
        by = same ∙ keeps.by;
        within = omega (arith, listed, keeps.within);
        turned = rw (at, listed) (subst (λ es. HoldInTurn (named_by naming) front es new.lists.items) turn holds);
        room = λ n. rw at (omega (arith, roomy n, (rw keeps.by at counted) n));
      }

  -- the facts from an index on are those of a part and the others
  split_part : (from to : ℕ) (index : Index) (n : ℕ) → max index.listed from < to
      → count_by (names (named_by naming) n) (drop (max index.listed from) arrived) ≡ count_by (names (named_by naming) n)
      (drop (max index.listed from) (take to arrived)) + count_by (names (named_by naming) n) (drop to arrived)
  split_part from to index n before =
      let first = max index.listed from in
      ap (λ es. count_by (names (named_by naming) n) es) (front_behind first to arrived (omega (arith, before)))
      ∙ sum_by-append (λ e. cond (names (named_by naming) n e) 1 0) (drop first (take to arrived)) (drop to arrived)

  -- there is room for the new facts of a part
  pub room_part : (from to : ℕ) (index : Index) → max index.listed from < to → KeepsTurn naming arrived spare from index → (n : ℕ)
      → count_by (names (named_by naming) n) (drop (max index.listed from) (take to arrived)) ≤ room_in index.lists.items n
  room_part from to index before keeps n = omega (arith, keeps.room n, split_part from to index n before)

  -- the index after the places of a part's new facts were appended
  pub turn_pushed : (from to : ℕ) (old new : Index) → max old.listed from < to → to ≤ length arrived → new.naming ≡ old.naming → new.listed ≡ old.listed
      → HoldInTurn (named_by old.naming) (take to arrived) (in_turn old.listed (take to arrived)) new.lists.items
      → TakeRoom (named_by old.naming) (drop (max old.listed from) (take to arrived)) old.lists.items new.lists.items
      → KeepsTurn naming arrived spare from old → KeepsTurn naming arrived spare to new
  turn_pushed from to old new before within same listed turned takes keeps =
      let at : max new.listed to ≡ to = omega (arith, listed, before) in
      record {
        by = same ∙ keeps.by;
        within = omega (arith, listed, keeps.within);
        turned = rw (at, listed) (rw keeps.by at turned);
        room = λ n. rw at (omega (arith, keeps.room n, (rw keeps.by at takes) n, split_part from to old n before));
      }

  -- a part that is wholly listed changes nothing
  pub turn_past : (from to : ℕ) (index : Index) → from ≤ to → to ≤ max index.listed from → KeepsTurn naming arrived spare from index
      → KeepsTurn naming arrived spare to index
  turn_past from to index le past keeps =
      let at : max index.listed to ≡ max index.listed from = omega (arith, le, past) in
      record { by = keeps.by; within = keeps.within; turned = rw at keeps.turned; room = rw at keeps.room }

  -- the same state, stated by the index's own number and without reserved facts
  pub turn_own : (from : ℕ) (index : Index) → KeepsTurn naming arrived spare from index → KeepsTurn index.naming arrived [] from index
  turn_own from index keeps =
      record {
        by = refl;
        within = keeps.within;
        turned = rw keeps.by keeps.turned;
        room = λ n. rw keeps.by (omega (arith, keeps.room n));
      }

  module _ (index : Index) (turn : KeepsTurn naming arrived spare (length arrived) index) where
    -- after all parts, the lists have the places of all facts
    pub all_turned : HoldInTurn (named_by naming) arrived (in_turn index.listed arrived) index.lists.items
    all_turned =
        subst (λ es. HoldInTurn (named_by naming) es (in_turn index.listed es) index.lists.items)
        (take_all (max index.listed (length arrived)) arrived (omega arith)) turn.turned

    -- there is room for the reserved facts
    pub all_roomy : HasRoomFor (named_by naming) spare index.lists.items
    all_roomy n = omega (arith, turn.room n)
