use Rattle.std.proofs.Common.{ap, ◌∙◌, subst}
use Rattle.std.specs.Prelude.{Contains}
use Rattle.unit_summaries.proofs.KeptLemmas.{cut_held, keeps_pushed}
use Rattle.unit_summaries.proofs.kept.keep.Goals as goal
use Rattle.unit_summaries.proofs.kept.keep.Goals.{in-Some, in_default}

pub returns : goal.returns
returns c =
    let old = c.args.kept.now.items in
    let left = c.match-place_to_drop.kept.items in
    record {
      held = elim c.match-place_to_drop.branch [
        | in-Some w ↦
            keeps_pushed c.args.day old left c.push.new.self.items
            (λ x there. cut_held _ _ old x (subst (λ ds. Contains ds x) (ap (λ v. v.items) w.kept-is ∙ w.remove.ensures.by_index.2) there))
            c.in_ok-push.ensures.items
        | in_default w ↦
            keeps_pushed c.args.day old left c.push.new.self.items (λ x there. subst (λ ds. Contains ds x) (ap (λ v. v.items) w.kept-is) there)
            c.in_ok-push.ensures.items
      ];
    }
