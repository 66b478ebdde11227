use Rattle.std.proofs.Common.{◌≡◌, ℕ, ◌+◌, ◌≤◌, List, ◌++◌, length, sym, ◌∙◌, ap, subst}
use Rattle.fact_kinds.specs.declared.batch.Batch.{Batch}
use Rattle.fact_kinds.specs.Facts.{facts_of}
use Rattle.ldar_journal.specs.Image.{batches_of}
use Rattle.ldar_law.specs.Slices.{register_facts}
use Rattle.office_book.proofs.AmongLemmas.{register_stays, facts_behind, facts_fit}
use Rattle.office_book.proofs.book.Book.judged_after.Goals as goal

pub judged_behind-requires : goal.judged_behind-requires
judged_behind-requires g c =
    let history = batches_of c.args.self.now.frames in
    let same : c.self.inside.archive.adopted ≡ history = c.self.invariant.adopted ∙ ap (λ s. batches_of s.frames) c.self.view_is in
    record {
      fits = subst (λ (l : List Batch). length (facts_of l) + c.facts_in.result ≤ 8_000_000) (sym same)
          (subst (λ (n : ℕ). length (facts_of history) + n ≤ 8_000_000) (sym c.facts_in.ensures.value)
          (facts_fit history c.args.others.now c.requires.may_come));
    }

pub returns : goal.returns
returns g c =
    let history = batches_of c.args.self.now.frames in
    let others = c.args.others.now in
    let same : c.self.inside.archive.adopted ≡ history = c.self.invariant.adopted ∙ ap (λ s. batches_of s.frames) c.self.view_is in
    record {
      value = c.judged_behind.ensures.value (history ++ others)
          (register_stays history others c.requires.may_come c.requires.alike ∙ ap (λ (l : List Batch). register_facts (facts_of l)) (sym same))
          (subst (λ (l : List Batch). length (facts_of (history ++ others)) ≡ length (facts_of l) + c.facts_in.result) (sym same)
          (subst (λ (n : ℕ). length (facts_of (history ++ others)) ≡ length (facts_of history) + n) (sym c.facts_in.ensures.value)
          (facts_behind history others)));
    }
