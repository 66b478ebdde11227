use Rattle.std.proofs.Common.{◌≡◌, ℕ, ◌+◌, true, false, ◌||◌, Vec, Option, Some, List, [], ◌∷◌}
use Rattle.std.proofs.Common.{◌++◌, length, take, drop, slice_get, refl, sym, ap, ◌∙◌, subst, inl}
use Rattle.std.proofs.Common.{arith}
use Rattle.std.specs.List.{AllByRecursion}
use Rattle.std.specs.Ordering.{is_eq}
use Rattle.std.proofs.lemmas.Bool.{or_parts, or_from, false≢true}
use Rattle.std.proofs.lemmas.List.{drop-drop, length_push, take_all, take-append-le}
use Rattle.list_words.specs.Order.{put_in_order, in_order, AllApart}
use Rattle.list_words.proofs.Ascending.{apart_append, ascends_in_order, put_each_in_order}
use Rattle.list_words.proofs.Members.{all_at, among_right}
use Rattle.list_words.proofs.PutLemmas.{filter-put, ascends_filter}
use Rattle.fact_kinds.specs.declared.body.FactBody.{FactBody}
use Rattle.fact_kinds.specs.declared.key.Key.{Key}
use Rattle.fact_kinds.specs.Facts.{Entry, key_cmp, goes_first}
use Rattle.fact_kinds.specs.Stated.{Stated}
use Rattle.fact_kinds.proofs.KeyOrder.{strict_goes_first, apart_keys, no_tie}
use Rattle.fact_store.specs.declared.place.Place.{Place}
use Rattle.fact_store.specs.declared.index.Index.{Index}
use Rattle.fact_store.specs.declared.indexes.Indexes.{Indexes}
use Rattle.fact_store.specs.declared.naming.Naming.{Naming}
use Rattle.fact_store.specs.declared.naming.Naming.TheVariants.{Component, Unit as OfUnit, Tested, Reading}
use Rattle.fact_store.specs.Kept.{names, is_held}
use Rattle.fact_store.specs.Takes.{CanTake, Takes}
use Rattle.fact_store.specs.Inside.{AreEmpty, IsEmpty, KeepAll, KeepFirst, KeepsFirst, KeepsIndex, KeepsLists}
use Rattle.fact_store.specs.Naming.{named_by}
use Rattle.fact_store.proofs.CountLemmas.{room_for_first, room_for_others}
use Rattle.fact_store.proofs.ListingLemmas.{hold_none}

-- a fact with reserved room can be added
pub can_take : {Z : Type 0} (naming : FactBody → Option ℕ) (arrived : List Entry) (fact : Stated) (spare : List Stated) (lists : List (Vec Place Z))
    → AllApart goes_first arrived → KeepsLists naming arrived (fact ∷ spare) lists → CanTake arrived (naming fact.body) lists
can_take naming arrived fact spare lists apart keeps =
    record {
      roomy = room_for_first naming fact spare lists keeps.room;
      held = keeps.held;
      ordered = λ n. rw (keeps.listed n) (ascends_filter goes_first strict_goes_first (names naming n) (in_order goes_first arrived)
          (ascends_in_order goes_first strict_goes_first arrived apart));
    }

-- the facts in key order, with one more
pub in_order_more : (arrived : List Entry) (e : Entry) → AllApart goes_first (arrived ++ e ∷ [])
    → in_order goes_first (arrived ++ e ∷ []) ≡ put_in_order goes_first e (in_order goes_first arrived)
in_order_more arrived e apart = sym (put_each_in_order goes_first strict_goes_first (e ∷ []) arrived apart)

-- after a fact was added, the lists have its place too
pub keeps_taken : {Z : Type 0} (naming : FactBody → Option ℕ) (arrived : List Entry) (key : Key) (fact : Stated) (spare : List Stated)
    (old new : List (Vec Place Z))
    → AllApart goes_first arrived → AllApart goes_first (arrived ++ (key, fact) ∷ []) → KeepsLists naming arrived (fact ∷ spare) old
    → Takes arrived (naming fact.body) key old new → KeepsLists naming (arrived ++ (key, fact) ∷ []) spare new
keeps_taken naming arrived key fact spare old new apart after keeps takes =
    record {
      held = λ n. let long : length (arrived ++ (key, fact) ∷ []) ≡ length arrived + 1 = length_push arrived (key, fact) in
          rw long (takes.held n);
      listed = λ n. takes.listed n fact
          ∙ rw (keeps.listed n, in_order_more arrived (key, fact) after)
          (sym (filter-put goes_first strict_goes_first (names naming n) (key, fact) (in_order goes_first arrived)
          (ascends_in_order goes_first strict_goes_first arrived apart)));
      room = room_for_others naming fact spare old new keeps.room takes.room;
    }

-- a new key ties with no fact's
not_tied : (key : Key) (arrived : List Entry) (fact : Stated) → is_held key arrived ≡ false
    → AllByRecursion (λ e. AllByRecursion (λ x. (goes_first e x || goes_first x e) ≡ true) ((key, fact) ∷ [])) arrived
not_tied key [] fact new = tt
not_tied key (e ∷ es) fact new =
    let parts = or_parts (is_eq (key_cmp e.0 key)) (is_held key es) new in
    ((apart_keys e.0 key (λ tie. false≢true (sym parts.0 ∙ ap is_eq tie)), tt), not_tied key es fact parts.1)

-- facts without ties have none after a fact with a new key
pub apart_more : (arrived : List Entry) (key : Key) (fact : Stated) → AllApart goes_first arrived → is_held key arrived ≡ false
    → AllApart goes_first (arrived ++ (key, fact) ∷ [])
apart_more arrived key fact apart new = apart_append goes_first arrived ((key, fact) ∷ []) apart (tt, tt) (not_tied key arrived fact new)

-- a list is its first element and the rest
pub first_of : (facts : List Stated) (fact : Stated) → slice_get facts 0 ≡ Some fact → facts ≡ fact ∷ drop 1 facts
first_of [] fact first = cc
first_of (x ∷ xs) fact first = let same : x ≡ fact = cc in ap (λ f. f ∷ xs) same

-- the reserved facts are the next one and the rest
pub spare_first : (reserved : List Stated) (used : ℕ) (fact : Stated) → slice_get (drop used reserved) 0 ≡ Some fact
    → drop used reserved ≡ fact ∷ drop (used + 1) reserved
spare_first reserved used fact first = first_of (drop used reserved) fact first ∙ ap (λ rest. fact ∷ rest) (drop-drop 1 used reserved)

-- ---- an index

-- an index of all facts is one of the first facts, which are all of them
pub keeps_first : (naming : Naming) (arrived : List Entry) (spare : List Stated) (index : Index) → KeepsIndex naming arrived spare index
    → KeepsFirst naming arrived index
keeps_first naming arrived spare index keeps =
    let all : take index.listed arrived ≡ arrived = take_all index.listed arrived (omega (arith, keeps.all)) in
    record {
      by = keeps.by;
      within = omega (arith, keeps.all);
      lists = rw all (record { held = keeps.lists.held; listed = keeps.lists.listed });
    }

-- an index of the first facts stays one after another fact arrives
first_stay : (naming : Naming) (arrived : List Entry) (e : Entry) (index : Index) → KeepsFirst naming arrived index
    → KeepsFirst naming (arrived ++ e ∷ []) index
first_stay naming arrived e index keeps =
    record {
      by = keeps.by;
      within = omega (arith, keeps.within, length_push arrived e);
      lists = rw (take-append-le index.listed arrived (e ∷ []) keeps.within) keeps.lists;
    }

-- an empty index is one of the first facts of any
empty_first : (naming : Naming) (arrived : List Entry) (index : Index) → IsEmpty naming index → KeepsFirst naming arrived index
empty_first naming arrived index is =
    record {
      by = is.by;
      within = omega (arith, is.none);
      lists = rw is.none (hold_none (named_by naming) arrived index.lists.items (λ n. rw is.empty refl));
    }

-- an empty index lists all of no facts
empty_all : (naming : Naming) (index : Index) → IsEmpty naming index → KeepsIndex naming [] [] index
empty_all naming index is =
    record {
      by = is.by;
      all = is.none;
      lists = record { held = λ n. rw is.empty tt; listed = λ n. rw is.empty refl; room = λ n. omega arith };
    }

module _ (indexes : Indexes) where
  -- empty indexes list the first facts of any
  pub are_first : (arrived : List Entry) → AreEmpty indexes → KeepFirst arrived indexes
  are_first arrived are =
      record {
        by_component = empty_first Component arrived indexes.components are.by_component;
        by_unit = empty_first OfUnit arrived indexes.units are.by_unit;
        by_instrument = empty_first Tested arrived indexes.instruments are.by_instrument;
        by_reading = empty_first Reading arrived indexes.readings are.by_reading;
      }

  -- empty indexes list all of no facts
  pub are_all : AreEmpty indexes → KeepAll [] [] indexes
  are_all are =
      record {
        by_component = empty_all Component indexes.components are.by_component;
        by_unit = empty_all OfUnit indexes.units are.by_unit;
        by_instrument = empty_all Tested indexes.instruments are.by_instrument;
        by_reading = empty_all Reading indexes.readings are.by_reading;
      }

  -- indexes of all facts are indexes of the first ones
  pub all_first : (arrived : List Entry) (spare : List Stated) → KeepAll arrived spare indexes → KeepFirst arrived indexes
  all_first arrived spare keep =
      record {
        by_component = keeps_first Component arrived spare indexes.components keep.by_component;
        by_unit = keeps_first OfUnit arrived spare indexes.units keep.by_unit;
        by_instrument = keeps_first Tested arrived spare indexes.instruments keep.by_instrument;
        by_reading = keeps_first Reading arrived spare indexes.readings keep.by_reading;
      }

  -- indexes of the first facts stay so after another fact arrives
  pub still_first : (arrived : List Entry) (e : Entry) → KeepFirst arrived indexes → KeepFirst (arrived ++ e ∷ []) indexes
  still_first arrived e keep =
      record {
        by_component = first_stay Component arrived e indexes.components keep.by_component;
        by_unit = first_stay OfUnit arrived e indexes.units keep.by_unit;
        by_instrument = first_stay Tested arrived e indexes.instruments keep.by_instrument;
        by_reading = first_stay Reading arrived e indexes.readings keep.by_reading;
      }

module _ (naming : Naming) (arrived : List Entry) (spare : List Stated) (fact : Stated) (body : FactBody) (stated : body ≡ fact.body)
    (first : slice_get spare 0 ≡ Some fact) (apart : AllApart goes_first arrived) where
  -- the index's number of a fact is that of its body
  named_so : (index : Index) → KeepsIndex naming arrived spare index → named_by index.naming body ≡ named_by naming fact.body
  named_so index keeps = rw (keeps.by, stated) refl

  -- the next reserved fact can be added
  pub can_come : (index : Index) → KeepsIndex naming arrived spare index → CanTake arrived (named_by index.naming body) index.lists.items
  can_come index keeps =
      rw (named_so index keeps)
      (can_take (named_by naming) arrived fact (drop 1 spare) index.lists.items apart
      (subst (λ facts. KeepsLists (named_by naming) arrived facts index.lists.items) (first_of spare fact first) keeps.lists))

  -- after it was added, the index has its place too
  pub has_come : (key : Key) (old new : Index) → is_held key arrived ≡ false → KeepsIndex naming arrived spare old
      → new.naming ≡ old.naming → new.listed ≡ length arrived + 1 → Takes arrived (named_by old.naming body) key old.lists.items new.lists.items
      → KeepsIndex naming (arrived ++ (key, fact) ∷ []) (drop 1 spare) new
  has_come key old new new_key keeps same listed takes =
      record {
        by = same ∙ keeps.by;
        all = listed ∙ sym (length_push arrived (key, fact));
        lists = keeps_taken (named_by naming) arrived key fact (drop 1 spare) old.lists.items new.lists.items apart
            (apart_more arrived key fact apart new_key)
            (subst (λ facts. KeepsLists (named_by naming) arrived facts old.lists.items) (first_of spare fact first) keeps.lists)
            (subst (λ n. Takes arrived n key old.lists.items new.lists.items) (named_so old keeps) takes);
      }

-- among facts without ties, none before a fact has its key
pub not_held : (arrived : List Entry) (e : Entry) (rest : List Entry) → AllApart goes_first (arrived ++ e ∷ rest) → is_held e.0 arrived ≡ false
not_held [] e rest apart = refl
not_held (x ∷ xs) e rest apart =
    let differ = all_at (λ y. (goes_first x y || goes_first y x) ≡ true) (xs ++ e ∷ rest) e apart.0 (among_right xs (e ∷ rest) e (inl refl)) in
    or_from (is_eq (key_cmp x.0 e.0)) (is_held e.0 xs) (no_tie x.0 e.0 differ) (not_held xs e rest apart.1)
