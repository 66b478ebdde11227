use Rattle.std.proofs.Common.{◌≡◌, ℕ, ◌+◌, true, false, IsTrue, Option, Some, None, List, ◌∷◌, ◌++◌, length}
use Rattle.std.proofs.Common.{refl, sym, ap, ◌∙◌, subst, inl, inr}
use Rattle.std.specs.Prelude.{Contains}
use Rattle.std.specs.List.{flat_map}
use Rattle.std.specs.Option.{option_map, is_some, is_none}
use Rattle.std.proofs.lemmas.Bool.{false≢true, and_parts, and_from}
use Rattle.list_words.proofs.Ascending.{among_in_order}
use Rattle.list_words.proofs.Members.{Among, among_left, among_right, among_append, among_flat_map, flat_map_among}
use Rattle.fact_kinds.specs.declared.batch.Batch.{Batch}
use Rattle.fact_kinds.specs.Facts.{Entry, goes_first, entries_of, facts_of}
use Rattle.ldar_law.specs.declared.verdict.Verdict.{Verdict}
use Rattle.ldar_law.specs.declared.verdict.Verdict.TheVariants.{Pass, Denied, Full}
use Rattle.ldar_law.specs.Judged.{case_of}
use Rattle.ldar_law.specs.Verdicts.{Rule, rules, least_rule, verdict_on, is_pass, is_ruly}
use Rattle.ldar_law.proofs.BatchLemmas.{ruly_by_one_more}
use Rattle.ldar_law.proofs.VerdictLemmas.{no_rule_denies, passes_undenied, ruly_is_each}
use Rattle.history_laws.specs.RulyLaws.{OneMorePasses}
use Rattle.history_laws.proofs.Counting.{cut_at}

-- ---- a fact of a batch that passes

-- an option is `None` if its mapped value is
pub none_mapped : {X Y : Type 0} (f : X → Y) (o : Option X) → option_map f o ≡ None → o ≡ None
none_mapped f None e = refl
none_mapped f (Some x) e = absurd cc

-- mapping does not change whether an option is `Some`
pub some_mapped : {X Y : Type 0} (f : X → Y) (o : Option X) → is_some (option_map f o) ≡ is_some o
some_mapped f None = refl
some_mapped f (Some x) = refl

-- an option that is not `Some` is `None`
pub is_nothing : {X : Type 0} (o : Option X) → is_some o ≡ false → o ≡ None
is_nothing None e = refl
is_nothing (Some x) e = absurd (false≢true (sym e))

-- an option that is not `None` is `Some`
pub is_something : {X : Type 0} (o : Option X) → is_none o ≡ false → is_some o ≡ true
is_something None e = absurd (false≢true (sym e))
is_something (Some x) e = refl

-- an option that is `Some` has a value
pub something : {X : Type 0} (o : Option X) → is_some o ≡ true → (x : X) × (o ≡ Some x)
something None e = absurd (false≢true e)
something (Some x) e = (x, refl)

-- no rule denies a fact of a batch that passes
pub let_pass : (history : List Batch) (batch : Batch) → verdict_on history batch ≡ Pass
    → (before : List Entry) (entry : Entry) (after : List Entry) → entries_of batch ≡ before ++ entry ∷ after
    → (rule : Rule) → Contains rules rule → rule.denies (case_of (facts_of history) before entry after) ≡ false
let_pass history batch passes before entry after stands rule among =
    let case = case_of (facts_of history) before entry after in
    let placed : ℕ → ℕ × ℕ = λ number. (length before + 1, number) in
    no_rule_denies case (none_mapped placed (least_rule case) (((passes_undenied history batch).0 passes).0 before entry after stands)) rule among

-- the origin of a fact of a ruly history: a batch that passes after those before it
pub record Came (history : List Batch) (entry : Entry) : Type 0 where
  pub earlier : List Batch
  pub batch : Batch
  pub later : List Batch
  pub cut : history ≡ earlier ++ batch ∷ later
  pub passes : verdict_on earlier batch ≡ Pass
  pub before : List Entry
  pub after : List Entry
  pub stands : entries_of batch ≡ before ++ entry ∷ after

-- each fact has such an origin
pub came : (history : List Batch) → IsTrue (is_ruly history) → (entry : Entry) → Among (facts_of history) entry → Came history entry
came history ruly entry among =
    let found = among_flat_map entries_of history entry ((among_in_order goes_first (flat_map entries_of history) entry).1 among) in
    let place = cut_at history found.0 found.1 in
    let spot = cut_at (entries_of found.0) entry found.2 in
    record {
      earlier = place.0;
      batch = found.0;
      later = place.1;
      cut = place.2;
      passes = (ruly_is_each history).0 ruly place.0 found.0 place.1 place.2;
      before = spot.0;
      after = spot.1;
      stands = spot.2;
    }

-- the facts before it are facts of the history
pub came_before : (history : List Batch) (entry other : Entry) (c : Came history entry) → Among (facts_of c.earlier ++ c.before) other
    → Among (facts_of history) other
came_before history entry other c among =
    let held : Among (flat_map entries_of history) other =
    elim (among_append (facts_of c.earlier) c.before other among) [
      | inl first ↦
          let found = among_flat_map entries_of c.earlier other ((among_in_order goes_first (flat_map entries_of c.earlier) other).1 first) in
          flat_map_among entries_of history found.0 other
          (subst (λ h. Among h found.0) (sym c.cut) (among_left c.earlier (c.batch ∷ c.later) found.0 found.1)) found.2
      | inr second ↦
          flat_map_among entries_of history c.batch other
          (subst (λ h. Among h c.batch) (sym c.cut) (among_right c.earlier (c.batch ∷ c.later) c.batch (inl refl)))
          (subst (λ es. Among es other) (sym c.stands) (among_left c.before (entry ∷ c.after) other second))
    ] in
    (among_in_order goes_first (flat_map entries_of history) other).0 held

-- ---- one more batch

-- the verdict is `Pass` if the test passes
passes_from : (verdict : Verdict) → is_pass verdict ≡ true → verdict ≡ Pass
passes_from Pass e = refl
passes_from (Denied fact number) e = absurd (false≢true e)
passes_from (Full facts) e = absurd (false≢true e)

pub one_more_passes : OneMorePasses
one_more_passes history batch = record {
  onward = λ ruly passes. ruly_by_one_more history batch ∙ and_from (is_ruly history) (is_pass (verdict_on history batch)) ruly (ap is_pass passes);
  back = λ ruly.
      let parts = and_parts (is_ruly history) (is_pass (verdict_on history batch)) (sym (ruly_by_one_more history batch) ∙ ruly) in
      (parts.0, passes_from (verdict_on history batch) parts.1);
}
