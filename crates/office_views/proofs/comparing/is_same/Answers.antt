use Rattle.std.proofs.Common.{◌≡◌, Bool, true, false, ◌&&◌, [], ◌∷◌, refl, ap, ◌∙◌}
use Rattle.fact_kinds.proofs.Equality.{facts_agree}
use Rattle.office_views.proofs.comparing.is_same.Goals as goal

and_true : (b : Bool) → b ≡ (b && true)
and_true true = refl
and_true false = refl

pub returns : goal.returns
returns c =
    let a = c.args.a.now in
    let b = c.args.b.now in
    let agree = facts_agree (a ∷ []) (b ∷ []) c.eq.result (c.eq.ensures ∙ and_true _) in
    record {
      value = (
        λ told. let same : a ∷ [] ≡ b ∷ [] = agree.0 told in cc,
        λ same. agree.1 (ap (λ x. x ∷ []) same),
      );
    }
