-- The components of a process unit on a day, from their summaries.
use Rattle.std.proofs.Common.{◌≡◌, ℕ, ◌+◌, ◌<◌, ◌≤◌, true, Option, Some, None, List, ◌++◌, option_and_then, option_map, length, map, take, get_or, refl, sym, ap, ◌∙◌, subst}
use Rattle.std.specs.Prelude.{Contains}
use Rattle.std.specs.List.{AllByRecursion, filter_map}
use Rattle.std.specs.Option.{option_to_list}
use Rattle.std.proofs.lemmas.List.{map-append}
use Rattle.std.proofs.lemmas.List.Elements.{Contains-get_or}
use Rattle.list_words.specs.Order.{Ascends}
use Rattle.list_words.proofs.Members.{Among, Contains-from_among, all_at, all_from_among, all_weaker, among_from_Contains}
use Rattle.fact_kinds.specs.Facts.{Entry, goes_first}
use Rattle.history_laws.specs.DayLaws.{up_to}
use Rattle.history_laws.specs.RulyLaws.{IsEachOnce}
use Rattle.history_laws.proofs.MemberLemmas.{members_stand_in_unit}
use Rattle.history_laws.proofs.RegisterUpTo.{components_are_of_all_members}
use Rattle.history_laws.proofs.UpTo.{ascending_are_in_order}
use Rattle.ldar_law.specs.declared.equipment.Equipment.{Equipment}
use Rattle.ldar_law.specs.declared.of_unit.OfUnit.{OfUnit}
use Rattle.ldar_law.specs.Equipment.{equipment_of, members_of, stops_of}
use Rattle.ldar_law.specs.declared.numbers.TheConstants.{LAST_FACT_DAY, MOST_COMPONENTS}
use Rattle.ldar_law.specs.declared.tally.Tally.{Tally}
use Rattle.ldar_law.specs.Units.{Known, components_of, known_of, tallies_to, tally_in}
use Rattle.unit_summaries.specs.declared.known.KnownOn.{KnownOn}
use Rattle.unit_summaries.specs.declared.kept.DayTallies.{DayTallies}
use Rattle.unit_summaries.specs.declared.summary.Summary.{Summary}
use Rattle.unit_summaries.specs.declared.summary.UnitSummary.{UnitSummary}
use Rattle.unit_summaries.specs.Kept.{IsFound, IsKept, known_at, known_from, known_rows}
use Rattle.unit_summaries.specs.Known.{known_by}
use Rattle.unit_summaries.specs.Rows.{Rows, is_fresh, row_of}
use Rattle.unit_summaries.specs.Says.{IsSaid, IsUnitSaid, SaysUnit}
use Rattle.unit_summaries.specs.Sound.{Are, IsRenewed, Sums}
use Rattle.unit_summaries.specs.Tallied.{AreTallies}
use Rattle.unit_summaries.proofs.KeptLemmas.{alike_given, front_tallies}
use Rattle.unit_summaries.proofs.KnownLemmas.{known_from_is}
use Rattle.unit_summaries.proofs.ListLemmas.{given_next, number_at, numbers_long}

-- what is known of those of these numbers that the facts enter
abbrev pub known_among : List Entry → List ℕ → List Known
known_among facts numbers = filter_map (λ number. option_map (known_of facts) (equipment_of number facts)) numbers

mapped_option : {X Y : Type 0} (f : X → Y) (o : Option X) → map f (option_to_list o) ≡ option_to_list (option_map f o)
mapped_option f None = refl
mapped_option f (Some x) = refl

-- with the next number
pub known_more : (facts : List Entry) (numbers : List ℕ) (i n : ℕ) (member : Option KnownOn) (known : List KnownOn) → i < length numbers
    → n ≡ get_or numbers i n → option_map (known_by facts) member ≡ option_map (known_of facts) (equipment_of n facts)
    → map (known_by facts) known ≡ known_among facts (take i numbers)
    → map (known_by facts) (known ++ option_to_list member) ≡ known_among facts (take (i + 1) numbers)
known_more facts numbers i n member known within is same before =
    map-append (known_by facts) known (option_to_list member)
    ∙ ap (λ xs. xs ++ map (known_by facts) (option_to_list member)) before
    ∙ ap (λ xs. known_among facts (take i numbers) ++ xs) (mapped_option (known_by facts) member ∙ ap option_to_list same)
    ∙ sym (given_next (λ number. option_map (known_of facts) (equipment_of number facts)) numbers i n within is)

-- a summary of a member that was renewed says what the facts say
pub member_said : (facts arrived : List Entry) (listed unit : ℕ) (s : Sums) → Are facts arrived listed s → IsRenewed facts unit s
    → (numbers : List ℕ) → numbers ≡ members_of unit facts → (i d : ℕ) → i < length numbers
    → IsSaid facts (get_or numbers i d) (row_of s.components (get_or numbers i d))
member_said facts arrived listed unit s are renewed numbers same i d within =
    let n = get_or numbers i d in
    let held : Contains (members_of unit facts) n = subst (λ ns. Contains ns n) same (Contains-get_or numbers i d within) in
    are.fresh n (all_at (λ m. is_fresh s.components m ≡ true) (members_of unit facts) n renewed.members
    (among_from_Contains (members_of unit facts) n held))

-- ---- the rows of a process unit that was renewed

module _ (day : ℕ) (facts : List Entry) (up : Ascends goes_first facts) (unit : ℕ) (once : IsEachOnce facts) (row : UnitSummary)
    (said : SaysUnit facts unit row) where
  row_known : (n : ℕ) → Among (members_of unit facts) n → (o : Option Summary) → IsSaid facts n o
      → option_and_then (known_from day row.of_unit.stops) o ≡ option_map (known_of (up_to day facts)) (equipment_of n (up_to day facts))
  row_known n among None never = absurd never
  row_known n among (Some s) says =
      let stands = members_stand_in_unit facts unit n once (Contains-from_among (members_of unit facts) n among) in
      let both : Some stands.0 ≡ Some s.item = sym stands.1 ∙ says.equipment in
      let item : stands.0 ≡ s.item = cc in
      let here : unit ≡ s.item.unit = sym stands.3 ∙ ap (λ (i : Equipment). i.unit) item in
      known_from_is day facts n s says up row.of_unit.stops
      (ap (λ (u : OfUnit). u.stops) said.of_unit ∙ ap (λ u. stops_of u facts) here)

  -- they are its components
  pub rows_are_components : (components : Rows Summary)
      → AllByRecursion (λ n. IsSaid facts n (row_of components n)) (members_of unit facts)
      → known_rows day row.of_unit.stops components (members_of unit facts) ≡ components_of unit (up_to day facts)
  rows_are_components components all =
      alike_given (known_at day row.of_unit.stops components) (λ n. option_map (known_of (up_to day facts)) (equipment_of n (up_to day facts)))
      (members_of unit facts)
      (all_from_among (λ n. known_at day row.of_unit.stops components n ≡ option_map (known_of (up_to day facts)) (equipment_of n (up_to day facts)))
      (members_of unit facts)
      (λ n among.
      row_known n among (row_of components n) (all_at (λ m. IsSaid facts m (row_of components m)) (members_of unit facts) n all among)))
      ∙ sym (components_are_of_all_members day unit facts (ascending_are_in_order facts up) once)

-- the rows of the members of a process unit that was renewed say what the facts say
pub members_said : (facts arrived : List Entry) (listed unit : ℕ) (s : Sums) → Are facts arrived listed s → IsRenewed facts unit s
    → AllByRecursion (λ n. IsSaid facts n (row_of s.components n)) (members_of unit facts)
members_said facts arrived listed unit s are renewed =
    all_weaker (λ n. is_fresh s.components n ≡ true) (λ n. IsSaid facts n (row_of s.components n)) are.fresh (members_of unit facts) renewed.members

-- ---- the counts of its quarters that are kept

-- the law's counts stand at their places
pub law_tallies : (startup day quarter : ℕ) (cs : List Known) (tallies : List Tally) → tallies ≡ tallies_to startup day cs quarter
    → AreTallies startup day cs quarter tallies
law_tallies startup day quarter cs tallies is = record {
  count = ap length is ∙ numbers_long (tally_in startup day cs) quarter;
  each = λ k d within. ap (λ ts. get_or ts k d) is ∙ number_at (tally_in startup day cs) quarter k d within;
}

module _ (facts arrived : List Entry) (listed : ℕ) (s : Sums) (are : Are facts arrived listed s) (up : Ascends goes_first facts) (once : IsEachOnce facts)
  where
    -- of a process unit that was renewed they are the law's
    pub found_tallies : (unit startup day quarters : ℕ) (tallies : List Tally) → IsRenewed facts unit s → IsFound unit startup day quarters s.kept tallies
        → tallies ≡ tallies_to startup day (components_of unit (up_to day facts)) quarters
    found_tallies unit startup day quarters tallies renewed found = by_row (row_of s.units unit) refl (are.lists unit renewed.shown)
      where
        by_row : (o : Option UnitSummary) → row_of s.units unit ≡ o → IsUnitSaid facts unit o
            → tallies ≡ tallies_to startup day (components_of unit (up_to day facts)) quarters
        by_row None row_is never = absurd never
        by_row (Some row) row_is said =
            let one = found.one in
            let stops = row.of_unit.stops in
            let kept = all_at (IsKept facts s.components s.units) s.kept one are.counted.kept (among_from_Contains s.kept one found.held) in
            let counted = kept.counted row (ap (is_fresh s.units) found.of_unit ∙ renewed.shown) (ap (row_of s.units) found.of_unit ∙ row_is) in
            let in_unit = subst (λ u. AreTallies one.startup one.day (known_rows one.day stops s.components (members_of u facts)) one.quarters one.tallies.items)
            found.of_unit counted.are in
            let by_startup = subst (λ t. AreTallies t one.day (known_rows one.day stops s.components (members_of unit facts)) one.quarters one.tallies.items)
            found.of_startup in_unit in
            let on_day = subst (λ t. AreTallies startup t (known_rows t stops s.components (members_of unit facts)) one.quarters one.tallies.items)
            found.of_day by_startup in
            let by_law = subst (λ cs. AreTallies startup day cs one.quarters one.tallies.items)
            (rows_are_components day facts up unit once row said s.components (members_said facts arrived listed unit s are renewed)) on_day in
            found.value ∙ front_tallies startup day one.quarters quarters (components_of unit (up_to day facts)) one.tallies.items by_law found.within

    -- .. so the law's can be kept
    pub new_kept : (d : DayTallies) → IsRenewed facts d.unit s → d.startup ≤ LAST_FACT_DAY → length (members_of d.unit facts) ≤ MOST_COMPONENTS
        → d.tallies.items ≡ tallies_to d.startup d.day (components_of d.unit (up_to d.day facts)) d.quarters → IsKept facts s.components s.units d
    new_kept d renewed startup few is = record {
      startup = startup;
      long = ap length is ∙ numbers_long (tally_in d.startup d.day (components_of d.unit (up_to d.day facts))) d.quarters;
      counted = λ row fresh row_is.
          let said = subst (IsUnitSaid facts d.unit) row_is (are.lists d.unit fresh) in
          record {
            few = few;
            are = subst (λ cs. AreTallies d.startup d.day cs d.quarters d.tallies.items)
                (sym (rows_are_components d.day facts up d.unit once row said s.components (members_said facts arrived listed d.unit s are renewed)))
                (law_tallies d.startup d.day d.quarters (components_of d.unit (up_to d.day facts)) d.tallies.items is);
          };
    }
