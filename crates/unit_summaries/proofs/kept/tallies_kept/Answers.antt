use Rattle.std.proofs.Common.{rules, take, sym, ap, ◌∙◌, subst, arith}
use Rattle.std.specs.Prelude.{Contains}
use Rattle.std.proofs.lemmas.List.Elements.{Contains-get_or}
use Rattle.unit_summaries.proofs.kept.tallies_kept.Goals as goal

pub returns-then-from-len : goal.returns-then-from-len
returns-then-from-len c =
    let kept = c.args.kept.now in
    let one = c.d-item.result in
    record {
      value = record {
        one = one;
        held = subst (Contains kept) (sym c.d-item.is) (Contains-get_or kept c.loop-d.d-index one (omega arith));
        of_unit = search rules;
        of_startup = search rules;
        of_day = search rules;
        within = omega (arith, c.if-from-len.true, c.from.ensures, c.len.ensures, one.tallies.ok);
        value = ap (λ n. take n c.deref.result.now) c.from-then-from-len.ensures ∙ ap (take c.args.quarters) c.deref.ensures.value;
      };
    }
