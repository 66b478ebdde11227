-- Stretches of own calls of a pass join: no call leads nowhere, and stretches one after the other are one.
use Rattle.std.proofs.Common.{◌≡◌, Some, None, List, [], ◌++◌, map, refl, ap, sym, ◌∙◌, subst, inl, inr, ⊎_elim, append_assoc}
use Rattle.std.proofs.lemmas.Grind.{flat_map-append}
use Rattle.std.proofs.lemmas.List.{append-nil, map-append}
use Rattle.std.specs.List.{flat_map}
use Rattle.ldar_law.specs.Machine.{Call}
use Rattle.sync_room.specs.OwnCalls.{Grew, HasAsked, own_calls, session_turn}
use Rattle.sync_room.specs.Passes.{PassState}

pub grew_stays : (pass : PassState) → Grew pass [] pass
grew_stays pass = record {
  made = [];
  turns = refl;
  room = refl;
  begins = ([], sym (append-nil pass.seen));
  own = sym (append-nil (own_calls pass));
  how = inl (refl, refl);
}

-- a pass that asked twice has one caller
asked_after : (a b c : PassState) → HasAsked a b → HasAsked b c → HasAsked a c
asked_after a b c first second = record {
  name = second.name;
  own = second.own;
  named = second.named;
  before =
      ⊎_elim
      (λ (none : b.own ≡ None). absurd (cc (none, first.own)))
      (λ (is : b.own ≡ Some second.name).
      let same : first.name ≡ second.name = cc (is, first.own) in
      ⊎_elim (λ (none : a.own ≡ None). inl none) (λ (own : a.own ≡ Some first.name). inr (own ∙ ap Some same)) first.before)
      second.before;
}

pub grew_joins : (a b c : PassState) (first second : List Call) → Grew a first b → Grew b second c → Grew a (first ++ second) c
grew_joins a b c first second one two = record {
  made = one.made ++ two.made;
  turns =
      flat_map-append (λ call. call.turns) first second
      ∙ (ap (λ l. l ++ flat_map (λ call. call.turns) second) one.turns
      ∙ (ap (λ l. map session_turn one.made ++ l) two.turns ∙ sym (map-append session_turn one.made two.made)));
  room = two.room ∙ one.room;
  begins = (one.begins.0 ++ two.begins.0, two.begins.1 ∙ (ap (λ l. l ++ two.begins.0) one.begins.1 ∙ append_assoc a.seen one.begins.0 two.begins.0));
  own = two.own ∙ (ap (λ l. l ++ two.made) one.own ∙ append_assoc (own_calls a) one.made two.made);
  how =
      ⊎_elim
      (λ (same : (b ≡ a) × (one.made ≡ [])).
      ⊎_elim
      (λ (still : (c ≡ b) × (two.made ≡ [])). inl (still.0 ∙ same.0, ap (λ l. l ++ two.made) same.1 ∙ still.1))
      (λ (asked : HasAsked b c). inr (subst (λ x. HasAsked x c) same.0 asked))
      two.how)
      (λ (asked : HasAsked a b).
      ⊎_elim
      (λ (still : (c ≡ b) × (two.made ≡ [])). inr (subst (HasAsked a) (sym still.0) asked))
      (λ (again : HasAsked b c). inr (asked_after a b c asked again))
      two.how)
      one.how;
}
