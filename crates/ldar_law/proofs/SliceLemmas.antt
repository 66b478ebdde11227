use Rattle.std.proofs.Common.{◌≡◌, ℕ, Bool, true, false, Option, None, List, filter, slice_get, refl, sym, ap, ◌∙◌}
use Rattle.std.specs.Prelude.{nat_lt, option_map}
use Rattle.std.proofs.lemmas.Bool.{false≢true}
use Rattle.list_words.specs.Order.{in_order}
use Rattle.list_words.proofs.Narrowing.{find_narrowed, filter_map_narrowed}
use Rattle.fact_kinds.specs.declared.body.FactBody.{FactBody}
use Rattle.fact_kinds.specs.declared.body.FactBody.TheVariants.{Unit as UnitFact, Component as ComponentFact, Class as ClassFact, Retire, Election, Shutdown}
use Rattle.fact_kinds.specs.declared.key.Key.{Key}
use Rattle.fact_kinds.specs.Facts.{Entry}
use Rattle.fact_kinds.specs.Named.{component_of, unit_of, is_numbered}
use Rattle.ldar_law.specs.Equipment.{retires, retired_on, component_entered, class_entered, class_at, unit_entered, member_entered, election_entered}
use Rattle.ldar_law.specs.Equipment.{stop_entered}
use Rattle.ldar_law.specs.Slices.{is_registered}
use Rattle.ldar_law.specs.RegisterLaws.{HasComponent, HasUnit, OwnFactsSuffice, UnitFactsSuffice, UnitFactsJudge, RegisterFactsSuffice}

-- the fact enters nothing for a component
pub record IsSilentOnComponent (number : ℕ) (body : FactBody) : Type 0 where
  pub stays : retires number body ≡ false
  pub no_component : (retired : Option ℕ) (day : ℕ) → component_entered number retired day body ≡ None
  pub no_class : class_entered number body ≡ None

-- the fact enters nothing for a process unit
pub record IsSilentOnUnit (number : ℕ) (body : FactBody) : Type 0 where
  pub no_unit : (day : ℕ) → unit_entered number day body ≡ None
  pub no_member : member_entered number body ≡ None
  pub no_election : (key : Key) → election_entered number key body ≡ None
  pub no_stop : (day : ℕ) → stop_entered number day body ≡ None

-- a fact that does not name the component is silent on it
pub unnamed_component : (number : ℕ) (body : FactBody) → is_numbered (component_of body) number ≡ false → IsSilentOnComponent number body
unnamed_component number (ComponentFact other unit kind monomer replaces class) e =
    record { stays = refl; no_component = λ retired day. rw e refl; no_class = refl }
unnamed_component number (ClassFact other class) e = record { stays = refl; no_component = λ retired day. refl; no_class = rw e refl }
unnamed_component number (Retire other) e = record { stays = e; no_component = λ retired day. refl; no_class = refl }
unnamed_component number _ e = record { stays = refl; no_component = λ retired day. refl; no_class = refl }

-- a fact that does not name the unit is silent on it
unnamed_unit : (number : ℕ) (body : FactBody) → is_numbered (unit_of body) number ≡ false → IsSilentOnUnit number body
unnamed_unit number (UnitFact other older name) e =
    record { no_unit = λ day. rw e refl; no_member = refl; no_election = λ key. refl; no_stop = λ day. refl }
unnamed_unit number (ComponentFact component other kind monomer replaces class) e =
    record { no_unit = λ day. refl; no_member = rw e refl; no_election = λ key. refl; no_stop = λ day. refl }
unnamed_unit number (Election other mode notified) e =
    record { no_unit = λ day. refl; no_member = refl; no_election = λ key. rw e refl; no_stop = λ day. refl }
unnamed_unit number (Shutdown other days) e =
    record { no_unit = λ day. refl; no_member = refl; no_election = λ key. refl; no_stop = λ day. rw e refl }
unnamed_unit number _ e = record { no_unit = λ day. refl; no_member = refl; no_election = λ key. refl; no_stop = λ day. refl }

-- a fact that is no entry is silent on each component
pub unregistered_component : (number : ℕ) (body : FactBody) → is_registered body ≡ false → IsSilentOnComponent number body
unregistered_component number (UnitFact other older name) e = cc
unregistered_component number (ComponentFact other unit kind monomer replaces class) e = cc
unregistered_component number (ClassFact other class) e = cc
unregistered_component number (Retire other) e = cc
unregistered_component number (Election other mode notified) e = cc
unregistered_component number (Shutdown other days) e = cc
unregistered_component number _ e = record { stays = refl; no_component = λ retired day. refl; no_class = refl }

-- a fact that is no entry is silent on each unit
unregistered_unit : (number : ℕ) (body : FactBody) → is_registered body ≡ false → IsSilentOnUnit number body
unregistered_unit number (UnitFact other older name) e = cc
unregistered_unit number (ComponentFact other unit kind monomer replaces class) e = cc
unregistered_unit number (ClassFact other class) e = cc
unregistered_unit number (Retire other) e = cc
unregistered_unit number (Election other mode notified) e = cc
unregistered_unit number (Shutdown other days) e = cc
unregistered_unit number _ e = record { no_unit = λ day. refl; no_member = refl; no_election = λ key. refl; no_stop = λ day. refl }

-- what the first test passes, the second one passes
kept : (b c : Bool) → (c ≡ false → b ≡ false) → b ≡ true → c ≡ true
kept b true implies e = refl
kept b false implies e = absurd (false≢true (sym (implies refl) ∙ e))

-- leaving out facts that are silent on a component keeps everything that the register has about it
pub has_component : (number : ℕ) (q : Entry → Bool) → ((e : Entry) → q e ≡ false → IsSilentOnComponent number e.1.body) → (facts : List Entry) →
    HasComponent number (filter q facts) facts
has_component number q silent facts =
    let retired : retired_on number (filter q facts) ≡ retired_on number facts =
    ap (λ found. option_map (λ e. e.0.day) found) (find_narrowed (λ e. retires number e.1.body) q
    (λ e. kept (retires number e.1.body) (q e) (λ out. (silent e out).stays)) facts) in
    record {
      equipment = rw retired
          (ap (λ entered. slice_get entered 0)
          (filter_map_narrowed (λ e. component_entered number (retired_on number facts) e.0.day e.1.body) q
          (λ e out. (silent e out).no_component (retired_on number facts) e.0.day) facts));
      classes = filter_map_narrowed (class_at number) q (λ e out. rw (silent e out).no_class refl) facts;
    }

-- leaving out facts that are silent on a process unit keeps everything that the register has about it
pub has_unit : (number : ℕ) (q : Entry → Bool) → ((e : Entry) → q e ≡ false → IsSilentOnUnit number e.1.body) → (facts : List Entry) →
    HasUnit number (filter q facts) facts
has_unit number q silent facts =
    record {
      entry = ap (λ entered. slice_get entered 0)
          (filter_map_narrowed (λ e. unit_entered number e.0.day e.1.body) q (λ e out. (silent e out).no_unit e.0.day) facts);
      members = ap (λ entered. in_order nat_lt entered)
          (filter_map_narrowed (λ e. member_entered number e.1.body) q (λ e out. (silent e out).no_member) facts);
      elections = filter_map_narrowed (λ e. election_entered number e.0 e.1.body) q (λ e out. (silent e out).no_election e.0) facts;
      stops = filter_map_narrowed (λ e. stop_entered number e.0.day e.1.body) q (λ e out. (silent e out).no_stop e.0.day) facts;
    }

pub own_facts_suffice : OwnFactsSuffice
own_facts_suffice number facts = has_component number (λ e. is_numbered (component_of e.1.body) number) (λ e. unnamed_component number e.1.body) facts

pub unit_facts_suffice : UnitFactsSuffice
unit_facts_suffice number facts = has_unit number (λ e. is_numbered (unit_of e.1.body) number) (λ e. unnamed_unit number e.1.body) facts

pub unit_facts_judge : UnitFactsJudge
unit_facts_judge number facts = rw (unit_facts_suffice number facts).stops refl

pub register_facts_suffice : RegisterFactsSuffice
register_facts_suffice number facts = (
  has_component number (λ e. is_registered e.1.body) (λ e. unregistered_component number e.1.body) facts,
  has_unit number (λ e. is_registered e.1.body) (λ e. unregistered_unit number e.1.body) facts,
)
