use Rattle.std.proofs.Common.{◌≡◌, ◌↔◌, ℕ, false, Option, Some, None, is_some, IsNone, IfSome, List, refl, sym, ◌∙◌}
use Rattle.std.proofs.lemmas.Bool.{false≢true}
use Rattle.ldar_law.specs.declared.delay.DelayEntry.{DelayEntry}
use Rattle.ldar_law.specs.declared.delay.Stop.{Stop}
use Rattle.ldar_law.specs.Delays.{counted_place, AreIgnored, IsLastCounted}
use Rattle.ldar_law.proofs.DelayLemmas.{none_counted, counted_place_is_last}

no_place : (place : ℕ) → Some place ≡ None → is_some (Some place) ≡ false
no_place place e = cc

module _ (detected : ℕ) (attempts : List ℕ) (stops : List Stop) (delays : List DelayEntry) where
  -- there is no place of a counted delay exactly if all are ignored
  pub none_where_ignored : (o : Option ℕ) → o ≡ counted_place detected attempts stops delays → IsNone o ↔ AreIgnored detected attempts stops delays
  none_where_ignored None is = (λ e. (none_counted detected attempts stops delays).0 (sym is), λ all. refl)
  none_where_ignored (Some place) is = (
    λ e. absurd (false≢true (sym e)),
    λ all. no_place place (is ∙ (none_counted detected attempts stops delays).1 all),
  )

  -- otherwise the place is that of the last delay that is not ignored
  pub found_last : (o : Option ℕ) → o ≡ counted_place detected attempts stops delays → IfSome o (IsLastCounted detected attempts stops delays)
  found_last None is = tt
  found_last (Some place) is = counted_place_is_last detected attempts stops delays place (sym is)
