-- The derived equality of facts and of lists of facts is true exactly for equal ones.
use Rattle.std.proofs.Common.{◌≡◌, ℕ, ◌&&◌, ◌↔◌, Bool, true, List, [], ◌∷◌, refl, sym, ap, ◌∙◌, eqb}
use Rattle.std.proofs.lemmas.Bool.{eqb-true, eq-eqb, and_parts, and_from}
use lib.Pointwise.{pointwise}
use Rattle.fact_kinds.specs.Stated.{Stated}
use Rattle.fact_kinds.specs.declared.body.FactBody.{FactBody}
use Rattle.fact_kinds.specs.contracts.body.FactBodyPartialEq.TheImpl as bodies
use Rattle.fact_kinds.specs.contracts.fact.FactPartialEq.TheImpl as facts
use Rattle.fact_kinds.proofs.FieldEquality.{pointwise_itself}
use Rattle.fact_kinds.proofs.KindEquality.{same_body}
use Rattle.fact_kinds.proofs.KindItself.{body_itself}

-- the fact with this day, minute and body
abbrev pub stated : ℕ → ℕ → FactBody → Stated
stated day minute body = record { day = day; minute = minute; body = body }

-- facts with equal day, minute and body are equal
pub same_stated : (d d' m m' : ℕ) (b b' : FactBody) → d ≡ d' → m ≡ m' → b ≡ b' → stated d m b ≡ stated d' m' b'
same_stated d d' m m' b b' x y z = cc

-- facts for which the derived equality is true are equal
same_fact : (a b : Stated) → (facts.eq-value).it a b ≡ true → a ≡ b
same_fact a b h =
    let p = and_parts (eqb a.day b.day) (eqb a.minute b.minute && (bodies.eq-value).it a.body b.body) h in
    let q = and_parts (eqb a.minute b.minute) ((bodies.eq-value).it a.body b.body) p.1 in
    let day = eqb-true a.day b.day p.0 in
    let minute = eqb-true a.minute b.minute q.0 in
    let body = same_body a.body b.body q.1 in
    same_stated a.day b.day a.minute b.minute a.body b.body day minute body

-- a fact equals itself
fact_itself : (a : Stated) → (facts.eq-value).it a a ≡ true
fact_itself a =
    and_from (eqb a.day a.day) (eqb a.minute a.minute && (bodies.eq-value).it a.body a.body) (eq-eqb a.day a.day refl)
    (and_from (eqb a.minute a.minute) ((bodies.eq-value).it a.body a.body) (eq-eqb a.minute a.minute refl) (body_itself a.body))

-- lists for which the derived equality is true are equal
same_list : (xs ys : List Stated) → pointwise (facts.eq-value).it xs ys ≡ true → xs ≡ ys
same_list [] [] h = refl
same_list (x ∷ xs) (y ∷ ys) h =
    let parts = and_parts ((facts.eq-value).it x y) (pointwise (facts.eq-value).it xs ys) h in
    let first = same_fact x y parts.0 in
    let rest = same_list xs ys parts.1 in
    cc
same_list xs ys h = absurd cc

-- the derived equality of lists is true exactly for equal lists
pub facts_agree : (xs ys : List Stated) (told : Bool) → told ≡ pointwise (facts.eq-value).it xs ys → (told ≡ true) ↔ (xs ≡ ys)
facts_agree xs ys told is = (
  λ h. same_list xs ys (sym is ∙ h),
  λ same. is ∙ ap (λ l. pointwise (facts.eq-value).it xs l) (sym same) ∙ pointwise_itself (facts.eq-value).it fact_itself xs,
)
