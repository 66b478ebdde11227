use Rattle.std.proofs.Common.{[], ◌∷◌, ◌++◌, ap, sym, ◌∙◌, subst, append_assoc}
use Rattle.std.specs.List.{AllByRecursion}
use Rattle.office_server.specs.Together.{HasOwn}
use Rattle.office_server.proofs.Passes.{all_front, all_last, together_more}
use Rattle.office_server.proofs.desks.meet_all.Goals as goal

pub loop-desk-preserved : goal.loop-desk-preserved
loop-desk-preserved g c =
    let so_far = c.loop-desk.invariant in
    let own = subst (AllByRecursion (HasOwn c.args.room.now)) c.in-Some.ensures.items so_far.2 in (
      c.in-Some.desk ∷ so_far.0,
      so_far.1 ∙ (ap (λ l. l ++ so_far.0) c.in-Some.ensures.items ∙ append_assoc c.pop.new.self.items (c.in-Some.desk ∷ []) so_far.0),
      all_front _ _ _ own,
      together_more _ _ _ _ _ _ (sym c.into_pass.ensures.value ∙ c.in-Some-into_pass.is) (all_last _ _ _ own) c.meet-whole.ensures.met so_far.3,
    )
