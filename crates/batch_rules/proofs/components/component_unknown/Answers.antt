use Rattle.std.proofs.Common.{◌≡◌, Some, refl, sym, ap, ◌∙◌}
use Rattle.std.specs.Option.{is_none}
use Rattle.ldar_law.specs.Denials as law
use Rattle.batch_rules.proofs.CaseLemmas.{none_asked, none_of}
use Rattle.batch_rules.proofs.components.component_unknown.Goals as goal

pub returns-in-Some : goal.returns-in-Some
returns-in-Some c =
    let case = c.args.case.now in
    let asks : law.component_asked case.entry.1.body ≡ Some c.in-Some.field-0 =
    ap law.component_asked (sym c.body.ensures.value) ∙ sym c.component_asked.ensures.value ∙ c.in-Some.is in
    record {
      value = none_of c.asked.result c.is_none.result c.is_none.ensures ∙ ap is_none c.asked.ensures.value
          ∙ none_asked case c.in-Some.field-0 asks ∙ sym (rw (asks, law.component_unknown) refl);
    }
