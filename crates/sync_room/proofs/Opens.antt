-- The rule holds for a room that was just opened.
use Rattle.std.proofs.Common.{◌≡◌, ℕ, zero, suc, List, [], ◌∷◌, map, refl, ap, sym, subst, arith, inl, Option, Some}
use mathlib.Core.Option.{some, some-injective, some-ne-none}
use lib.ListN.{get_elem?}
use Rattle.atomic_table.specs.Table.{opening}
use Rattle.ldar_law.specs.Machine.{Moment}
use Rattle.sync_room.specs.Rule.{IsRoom, FitsRoom, newcomer}
use Rattle.sync_room.proofs.Histories.{knows_none}
use Rattle.sync_room.proofs.Views.{named_nowhere}

-- a fact of the only element of a list
one : {A : Type 0} (P : A → Type 0) (a : A) (i : ℕ) (b : A) → get_elem? (a ∷ []) i ≡ some b → P a → P b
one P a zero b at p = subst P (some-injective a b at) p
one P a (suc i) b at p = absurd (some-ne-none b (sym at))

-- a list of one element has no second one
one_alone : {A : Type 0} (a : A) (i j : ℕ) (b c : A) → get_elem? (a ∷ []) i ≡ some b → get_elem? (a ∷ []) j ≡ some c → i ≡ j
one_alone a zero zero b c at at' = refl
one_alone a zero (suc j) b c at at' = absurd (some-ne-none c (sym at'))
one_alone a (suc i) j b c at at' = absurd (some-ne-none b (sym at))

-- the view of the first seat fits
fits_newcomer : (start : Moment) → FitsRoom start [] 0 (newcomer start)
fits_newcomer start = record {
  knows = knows_none [] [] ([], refl);
  of_joined = knows_none [] [] ([], refl);
  own = λ name own. absurd (cc own);
  apart = λ name among nowhere. named_nowhere name nowhere;
  below = λ name nowhere. absurd (named_nowhere name nowhere);
  counted = omega arith;
  ticket = λ t has. absurd has;
  stage = refl;
}

-- the rule holds for a new room
pub opens : {B : Type 0} (moment_at : B → Moment) (is_durable : B → Type 0) (start : Moment) (items : List (Option B)) (book : B) → items ≡ Some book ∷ []
    → moment_at book ≡ start → is_durable book
    → IsRoom moment_at is_durable start (opening (0 ∷ 0 ∷ []) items (newcomer start))
opens moment_at is_durable start items book are moment durable = record {
  log = [];
  drawn = 0;
  words = refl;
  bounded = omega arith;
  served = omega arith;
  wait = refl;
  legal = record { turns = tt; numbered = λ caller. tt };
  fresh = λ name up. refl;
  fits = λ i v at. one (FitsRoom start [] 0) (newcomer start) i v at (fits_newcomer start);
  differ = λ i j v w at at' apart. absurd (apart (one_alone (newcomer start) i j v w at at'));
  home = inl (record { book = book; there = ap (map some) are; moment = moment; durable = durable });
}
