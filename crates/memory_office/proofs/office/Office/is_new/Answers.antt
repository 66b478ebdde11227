use Rattle.std.proofs.Common.{◌≡◌, ◌∙◌, ap, map}
use Rattle.std.specs.Prelude.{not}
use Rattle.std.specs.List.{list_any}
use Rattle.fact_kinds.specs.declared.identity.Identity.{Identity}
use Rattle.fact_kinds.specs.Identity.{identity_of}
use Rattle.office_views.specs.Held.{Held}
use Rattle.office_views.specs.Viewed.{held_of}
use Rattle.memory_office.specs.Known.{is_identity}
use Rattle.memory_office.proofs.KnownLemmas.{new_among}
use Rattle.memory_office.proofs.office.Office.is_new.Goals as goal

pub returns : goal.returns
returns c =
    let identities = c.deref.result.now in
    let same : held_of c.self.inside.views ≡ c.args.self.now = c.self.view_is in
    let kept : identities ≡ map identity_of c.args.self.now.adopted =
    c.deref.ensures.value ∙ c.self.invariant ∙ ap (λ (v : Held). map identity_of v.adopted) same in
    record {
      value = ap not (c.is_among.ensures.value ∙ ap (λ (i : Identity). list_any (is_identity i) identities) c.identity.ensures.value)
          ∙ new_among c.args.self.now.adopted identities c.args.batch.now kept;
    }
