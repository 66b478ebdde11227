-- What a view needs before it renews a process unit's summaries and reads them.
use Rattle.std.proofs.Common.{◌≡◌, ℕ, Bool, ◌||◌, true, false, nat_eq, Some, None, List, [], ◌∷◌, length, slice_get, inl, inr, refl, sym, ap, ◌∙◌, subst, arith}
use Rattle.std.specs.List.{AllByRecursion, cons_option, filter_map}
use Rattle.std.proofs.lemmas.Bool.{cases_Bool}
use Rattle.std.proofs.lemmas.List.{drop_all}
use Rattle.std.proofs.lemmas.List.Sorted.{list_any-IsPermutation}
use Rattle.list_words.specs.Order.{in_order}
use Rattle.list_words.proofs.Ascending.{in_order_permutes}
use Rattle.fact_kinds.specs.declared.body.FactBody.{FactBody}
use Rattle.fact_kinds.specs.declared.body.FactBody.TheVariants.{Unit as UnitFact}
use Rattle.fact_kinds.specs.Facts.{Entry, goes_first}
use Rattle.fact_kinds.specs.Named.{component_of, unit_of, is_numbered}
use Rattle.ldar_law.specs.declared.unit_entry.UnitEntry.{UnitEntry}
use Rattle.ldar_law.specs.Equipment.{unit_entered, unit_entry_of}
use Rattle.unit_summaries.specs.Rows.{is_fresh, row_of}
use Rattle.unit_summaries.specs.Says.{IsUnitSaid}
use Rattle.unit_summaries.specs.Sound.{Are, IsRenewed, Sums, is_known}

-- once all facts are listed, the same is true
pub are_listed : (facts arrived : List Entry) (listed : ℕ) (s : Sums) → Are facts arrived listed s → Are facts arrived (length arrived) s
are_listed facts arrived listed s are = record {
  fresh = are.fresh;
  stale = are.stale;
  tail = subst (AllByRecursion (λ e. (n : ℕ) → is_numbered (component_of e.1.body) n ≡ true → is_fresh s.components n ≡ false))
      (sym (drop_all (length arrived) arrived (omega arith))) tt;
  lists = are.lists;
  unread = are.unread;
  asked = are.asked;
  counted = are.counted;
}

-- the summary of a process unit that was renewed says what the facts say
pub unit_said : (facts arrived : List Entry) (listed unit : ℕ) (s : Sums) → Are facts arrived listed s → IsRenewed facts unit s
    → IsUnitSaid facts unit (row_of s.units unit)
unit_said facts arrived listed unit s are renewed = are.lists unit renewed.shown

-- a fact that enters a process unit names it
entered_names : (unit day : ℕ) (body : FactBody) (entry : UnitEntry) → unit_entered unit day body ≡ Some entry → is_numbered (unit_of body) unit ≡ true
entered_names unit day (UnitFact other older name) entry is =
    elim (cases_Bool (nat_eq other unit)) [
      | inl here ↦ here
      | inr else ↦
          let given : None ≡ Some entry = rw else at is in
          absurd cc
    ]
entered_names unit day _ entry is = absurd cc

some_names : (unit : ℕ) (facts : List Entry) (entry : UnitEntry) → unit_entry_of unit facts ≡ Some entry → is_known facts unit ≡ true
some_names unit [] entry is = absurd cc
some_names unit (e ∷ facts) entry is =
    elim (unit_entered unit e.0.day e.1.body) as (λ o. unit_entered unit e.0.day e.1.body ≡ o
    → slice_get (cons_option o (filter_map (λ x. unit_entered unit x.0.day x.1.body) facts)) 0 ≡ Some entry
    → (is_numbered (unit_of e.1.body) unit || is_known facts unit) ≡ true) [
      | None ↦ λ none there. or_second (is_numbered (unit_of e.1.body) unit) (some_names unit facts entry there)
      | Some first ↦ λ some here. ap (λ b. b || is_known facts unit) (entered_names unit e.0.day e.1.body first some)
    ] refl is
  where
    or_second : (a : Bool) {b : Bool} → b ≡ true → (a || b) ≡ true
    or_second true is = refl
    or_second false is = is

-- a process unit that the facts enter is named by a fact that arrived
pub entered_is_known : (arrived : List Entry) (unit : ℕ) (entry : UnitEntry) → unit_entry_of unit (in_order goes_first arrived) ≡ Some entry
    → is_known arrived unit ≡ true
entered_is_known arrived unit entry is =
    list_any-IsPermutation (λ e. is_numbered (unit_of e.1.body) unit) arrived (in_order goes_first arrived) (in_order_permutes goes_first arrived)
    ∙ some_names unit (in_order goes_first arrived) entry is
