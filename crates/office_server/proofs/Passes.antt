-- One pass more meets the others.
use Rattle.std.proofs.Common.{◌≡◌, ℕ, Some, List, [], ◌∷◌, ◌++◌, refl, ap, sym, ◌∙◌, subst}
use Rattle.std.proofs.lemmas.List.Elements.{Contains-append_left, Contains-append_right}
use Rattle.std.specs.List.{AllByRecursion, Contains}
use Rattle.office_server.specs.Fronts.{DeskState}
use Rattle.office_server.specs.Together.{HasOwn, Has, HaveOthers, Together}
use Rattle.sync_room.specs.Calls.{IsLegal}
use Rattle.sync_room.specs.Passes.{PassState, RoomId, Met, new_pass}

-- a property of all is one of those before the last
pub all_front : {A : Type 0} (P : A → Type 0) (xs : List A) (x : A) → AllByRecursion P (xs ++ x ∷ []) → AllByRecursion P xs
all_front P [] x all = tt
all_front P (y ∷ xs) x all = (all.0, all_front P xs x all.1)

-- .. and of the last
pub all_last : {A : Type 0} (P : A → Type 0) (xs : List A) (x : A) → AllByRecursion P (xs ++ x ∷ []) → P x
all_last P [] x all = all.0
all_last P (y ∷ xs) x all = all_last P xs x all.1

-- what follows for each follows for all
all_map : {A : Type 0} (P Q : A → Type 0) → ((x : A) → P x → Q x) → (xs : List A) → AllByRecursion P xs → AllByRecursion Q xs
all_map P Q each [] all = tt
all_map P Q each (x ∷ xs) all = (each x all.0, all_map P Q each xs all.1)

-- the callers of the pass are answered for after it met another
has_still : (whole pass new : PassState) → Met whole pass new → (desk : DeskState) → Has whole desk → Has new desk
has_still whole pass new met desk has = record {
  pass = has.pass;
  there = has.there;
  named = λ name own. subst (λ ns. Contains ns name) (sym met.names) (Contains-append_left whole.names pass.names name (has.named name own));
  calls = λ name own. met.whole_first name (has.named name own) ∙ has.calls name own;
}

-- .. and so are those of the other
has_met : (whole pass new : PassState) → Met whole pass new → (desk : DeskState) → desk.pass ≡ Some pass
    → ((name : ℕ) → pass.own ≡ Some name → Contains pass.names name) → Has new desk
has_met whole pass new met desk there named = record {
  pass = pass;
  there = there;
  named = λ name own. subst (λ ns. Contains ns name) (sym met.names) (Contains-append_right whole.names pass.names name (named name own));
  calls = λ name own. met.whole_second name (named name own);
}

-- the caller of the other pass is not one of those that met before
others_met : (whole pass new : PassState) → Met whole pass new → (desk other : DeskState) → desk.pass ≡ Some pass
    → ((name : ℕ) → pass.own ≡ Some name → Contains pass.names name) → Has whole other → HaveOthers desk other
others_met whole pass new met desk other there named has name mine theirs =
    let same : mine.pass ≡ pass = cc (mine.there, there) in
    let same' : theirs.pass ≡ has.pass = cc (theirs.there, has.there) in
    met.apart name (has.named name (ap (λ (p : PassState). p.own) (sym same') ∙ theirs.own)) (named name (ap (λ (p : PassState). p.own) (sym same) ∙ mine.own))

-- the pass of one desk more met those of the others
pub together_more : (room : RoomId) (whole pass new : PassState) (desk : DeskState) (desks : List DeskState) → desk.pass ≡ Some pass → HasOwn room desk
    → Met whole pass new → Together room whole desks → Together room new (desk ∷ desks)
together_more room whole pass new desk desks there has met together =
    let same : has.pass ≡ pass = cc (has.there, there) in
    let named : (name : ℕ) → pass.own ≡ Some name → Contains pass.names name =
    subst (λ (p : PassState). (name : ℕ) → p.own ≡ Some name → Contains p.names name) same has.named in
    let of_room : new.room ≡ room = met.room ∙ together.of_room in
    record {
      of_room = of_room;
      has = (has_met whole pass new met desk there named, all_map (Has whole) (Has new) (has_still whole pass new met) desks together.has);
      differ = (
        all_map (Has whole) (HaveOthers desk) (λ other its. others_met whole pass new met desk other there named its) desks together.has,
        together.differ,
      );
      legal = subst (λ (r : RoomId). IsLegal r.start new.seen) of_room met.legal;
    }

-- no passes met in the first one
pub together_none : (room : RoomId) → Together room (new_pass room) []
together_none room = record { of_room = refl; has = tt; differ = tt; legal = record { turns = tt; numbered = λ caller. tt } }
