-- The counts of quarters: their list, their room, and one component more.
use Rattle.std.proofs.Common.{◌≡◌, ℕ, ◌+◌, ◌-◌, ◌<◌, ◌≤◌, Bool, true, false, ◌&&◌, ◌||◌, List, [], ◌∷◌, ◌++◌, length}
use Rattle.std.proofs.Common.{map, take, get_or, length-take-le, set, replicate, refl, sym, ap, ◌∙◌, subst, inl, inr, arith}
use Rattle.std.specs.Prelude.{fold}
use Rattle.std.specs.List.{list_any}
use Rattle.std.proofs.lemmas.Bool.{cases_eq}
use Rattle.std.proofs.lemmas.List.{ext_get_or, get_or_default, get_or-set_same, get_or-set_other}
use Rattle.std.proofs.lemmas.List.{length-set, get_or-replicate, length-replicate, length-map, map-append}
use Rattle.std.proofs.lemmas.List.Sums.{count_by-le-length, fold-append}
use Rattle.list_words.specs.Ranges.{from_to}
use Rattle.ldar_law.specs.declared.numbers.TheConstants.{MOST_COMPONENTS}
use Rattle.ldar_law.specs.declared.delay.Stop.{Stop}
use Rattle.ldar_law.specs.declared.tag.Tag.{Tag}
use Rattle.ldar_law.specs.declared.tally.Mark.{Mark}
use Rattle.ldar_law.specs.declared.tally.Tally.{Tally}
use Rattle.ldar_law.specs.Percent.{has_delay_on, is_open_on, judging_day, mark_of}
use Rattle.ldar_law.specs.Tags.{is_delayed}
use Rattle.ldar_law.specs.Tallies.{with_mark}
use Rattle.ldar_law.specs.Units.{Known, mark_in, tally_in, tallies_to}
use Rattle.ldar_law.proofs.QuarterLemmas.{tally_counts}
use Rattle.skip_periods.specs.Seen.{mark_for}
use Rattle.unit_summaries.specs.declared.known.KnownOn.{KnownOn}
use Rattle.unit_summaries.specs.Known.{all_in_law, in_law}
use Rattle.unit_summaries.specs.Tallied.{AreTallies, Counts, CountsMore, HasRoom, HaveRoom, TellDelays}
use Rattle.unit_summaries.proofs.ListLemmas.{alike_numbers, mapped_more, numbers_long, number_at}

abbrev pub none : Tally
none = record { leaking = 0; monitored = 0 }

abbrev pub no_mark : Mark
no_mark = record { leaking = false; monitored = false }

-- the marks of a component, whose delays are told
pub marks_are : (startup day quarter : ℕ) (c : Known) (delayed : List Bool) → TellDelays startup quarter day c.tags delayed
    → map (mark_for c.item c.classes startup c.events delayed day) (from_to 1 quarter) ≡ map (λ q. mark_in startup day q c) (from_to 1 quarter)
marks_are startup day quarter c delayed told =
    alike_numbers (mark_for c.item c.classes startup c.events delayed day) (λ q. mark_in startup day q c) quarter (λ q first last.
    ap (λ b. mark_of c.item c.classes startup c.events b q day) (told q first last))

-- a list of all quarters tells of each
pub told_of_all : (startup day quarter : ℕ) (tags : List Tag) (delayed : List Bool)
    → delayed ≡ map (λ q. has_delay_on (judging_day startup q day) tags) (from_to 1 quarter) → TellDelays startup quarter day tags delayed
told_of_all startup day quarter tags delayed is =
    let told : ℕ → Bool = λ q. has_delay_on (judging_day startup q day) tags in
    λ q first last.
    ap (λ ds. get_or ds (q - 1) false) is ∙ number_at told quarter (q - 1) false (omega (arith, first, last)) ∙ ap told (omega (arith, first))

none_of_both : (a b c d : Bool) → (b || c) ≡ false → (c ≡ false → d ≡ false) → (a && b || d) ≡ false
none_of_both false false c d not_one rest = rest not_one
none_of_both true false c d not_one rest = rest not_one
none_of_both a true c d not_one rest = absurd cc

-- where no repair is delayed none is on a day
pub none_delayed_on : (day : ℕ) (tags : List Tag) → list_any is_delayed tags ≡ false → has_delay_on day tags ≡ false
none_delayed_on day [] not_one = refl
none_delayed_on day (tag ∷ tags) not_one =
    none_of_both (is_open_on day tag) (is_delayed tag) (list_any is_delayed tags) (has_delay_on day tags) not_one (none_delayed_on day tags)

-- .. and nothing has to be told
pub told_of_none : (startup day quarter : ℕ) (tags : List Tag) → list_any is_delayed tags ≡ false → TellDelays startup quarter day tags []
told_of_none startup day quarter tags not_one = λ q first last. sym (none_delayed_on (judging_day startup q day) tags not_one)

-- no quarter counts anything of no component
pub none_tallied : (startup day quarter : ℕ) → AreTallies startup day [] quarter (replicate quarter none)
none_tallied startup day quarter = record {
  count = length-replicate quarter none;
  each = λ k d within. get_or-replicate quarter k none d within;
}

-- ---- marks counted one place after the other

-- the marks before a place are counted
pub record Counting (marks : List Mark) (old now : List Tally) (place : ℕ) : Type 0 where
  pub count : length now ≡ length old
  pub done : (k : ℕ) (d : Tally) (m : Mark) → k < place → k < length old → get_or now k d ≡ with_mark (get_or old k d) (get_or marks k m)
  pub left : (k : ℕ) (d : Tally) → place ≤ k → get_or now k d ≡ get_or old k d

pub counting_none : (marks : List Mark) (old : List Tally) → Counting marks old old 0
counting_none marks old = record {
  count = refl;
  done = λ k d m before within. absurd (omega (arith, before));
  left = λ k d behind. refl;
}

pub counting_more : (marks : List Mark) (old now : List Tally) (place : ℕ) (tally new : Tally) (mark : Mark) → length marks ≡ length old
    → place < length marks → Counting marks old now place → tally ≡ get_or now place tally → mark ≡ get_or marks place mark → new ≡ with_mark tally mark
    → Counting marks old (set now place new) (place + 1)
counting_more marks old now place tally new mark same within counting tally_is mark_is new_is =
    let inside : place < length now = omega (arith, counting.count, same, within) in
    record {
      count = length-set now place new ∙ counting.count;
      done = λ k d m before kept. elim (cases_eq k place) [
        | inl here ↦
            rw here
            (get_or-set_same now place new d inside ∙ new_is
            ∙ ap (λ t. with_mark t mark) (tally_is ∙ get_or_default now place tally d inside ∙ counting.left place d (omega arith))
            ∙ ap (with_mark (get_or old place d)) (mark_is ∙ get_or_default marks place mark m within))
        | inr other ↦ get_or-set_other now place k new d other ∙ counting.done k d m (omega (arith, before, other)) kept
      ];
      left = λ k d behind. get_or-set_other now place k new d (λ here. absurd (omega (arith, behind, here))) ∙ counting.left k d (omega (arith, behind));
    }

pub counting_all : (marks : List Mark) (old now : List Tally) (place : ℕ) → length marks ≡ length old → length marks ≤ place
    → Counting marks old now place → Counts marks old now
counting_all marks old now place same end counting = record {
  count = counting.count;
  each = λ k d m within. counting.done k d m (omega (arith, same, end, within)) within;
}

-- room stays where no mark is counted yet
pub room_at : (marks : List Mark) (old now : List Tally) (place : ℕ) (tally : Tally) → length marks ≡ length old → place < length marks → HaveRoom old
    → Counting marks old now place → tally ≡ get_or now place tally → HasRoom tally
room_at marks old now place tally same within room counting is =
    let inside : place < length now = omega (arith, counting.count, same, within) in
    subst HasRoom (sym (is ∙ counting.left place tally (omega arith))) (room place tally (omega (arith, same, within)))

-- ---- components counted one after the other

-- one component more, by its marks
pub one_counted : (startup day quarter : ℕ) (c : Known) (marks : List Mark) (old new : List Tally)
    → marks ≡ map (λ q. mark_in startup day q c) (from_to 1 quarter) → length old ≡ quarter → Counts marks old new
    → CountsMore startup day (c ∷ []) old new
one_counted startup day quarter c marks old new is long counts = record {
  count = counts.count;
  each = λ k d within.
      counts.each k d no_mark within
      ∙ ap (with_mark (get_or old k d))
      (ap (λ ms. get_or ms k no_mark) is ∙ number_at (λ q. mark_in startup day q c) quarter k no_mark (omega (arith, long, within)));
}

pub none_counted : (startup day : ℕ) (old : List Tally) → CountsMore startup day [] old old
none_counted startup day old = record { count = refl; each = λ k d within. refl }

-- beside fewer than 60,000 marks one more can be counted
pub few_room : (marks : List Mark) → length marks < MOST_COMPONENTS → HasRoom (fold with_mark none marks)
few_room marks few =
    subst HasRoom (sym (tally_counts marks)) (record {
      leaking = omega (arith, few, count_by-le-length (λ (mark : Mark). mark.leaking) marks);
      monitored = omega (arith, few, count_by-le-length (λ (mark : Mark). mark.monitored) marks);
    })

module _ (startup day quarter : ℕ) where
  -- the counts of some components and of more
  pub tallied_more : (cs more : List Known) (old new : List Tally) → AreTallies startup day cs quarter old → CountsMore startup day more old new
      → AreTallies startup day (cs ++ more) quarter new
  tallied_more cs more old new are counts = record {
    count = counts.count ∙ are.count;
    each = λ k d within.
        let marks : Known → Mark = mark_in startup day (k + 1) in
        counts.each k d (omega (arith, are.count, within))
        ∙ ap (λ t. fold with_mark t (map marks more)) (are.each k d within)
        ∙ sym (fold-append with_mark none (map marks cs) (map marks more))
        ∙ ap (fold with_mark none) (sym (map-append marks cs more));
  }

  -- they are the law's
  pub tallies_are : (cs : List Known) (tallies : List Tally) → AreTallies startup day cs quarter tallies → tallies ≡ tallies_to startup day cs quarter
  tallies_are cs tallies are =
      let own : ℕ → Tally = tally_in startup day cs in
      ext_get_or none tallies (map own (from_to 1 quarter)) (are.count ∙ sym (numbers_long own quarter)) (λ k within.
      let before : k < quarter = omega (arith, are.count, within) in
      are.each k none before ∙ sym (number_at own quarter k none before))

  -- of fewer than 60,000 components one more can be counted
  pub room_for : (cs : List Known) (tallies : List Tally) → AreTallies startup day cs quarter tallies → length cs < MOST_COMPONENTS → HaveRoom tallies
  room_for cs tallies are few k d within =
      let own = mark_in startup day (k + 1) in
      subst HasRoom (sym (are.each k d (omega (arith, are.count, within)))) (few_room (map own cs) (omega (arith, few, length-map cs own)))

-- ---- with one more component

module _ (of : List Stop) (cs : List KnownOn) (i : ℕ) (c : KnownOn) (within : i < length cs) (is : c ≡ get_or cs i c) where
  -- the counts of its quarters
  pub tallies_more : (startup day quarter : ℕ) (old new : List Tally) → AreTallies startup day (all_in_law of (take i cs)) quarter old
      → CountsMore startup day (in_law of c ∷ []) old new → AreTallies startup day (all_in_law of (take (i + 1) cs)) quarter new
  tallies_more startup day quarter old new are counts =
      subst (λ ks. AreTallies startup day ks quarter new) (sym (mapped_more (in_law of) cs i c within is))
      (tallied_more startup day quarter (all_in_law of (take i cs)) (in_law of c ∷ []) old new are counts)

-- there is room for one more of at most 60,000 components
pub room_for_one : (of : List Stop) (cs : List KnownOn) (i startup day quarter : ℕ) (tallies : List Tally) → i < length cs
    → length cs ≤ MOST_COMPONENTS → AreTallies startup day (all_in_law of (take i cs)) quarter tallies → HaveRoom tallies
room_for_one of cs i startup day quarter tallies within few counted =
    room_for startup day quarter (all_in_law of (take i cs)) tallies counted
    (omega (arith, few, within, length-map (take i cs) (in_law of), length-take-le i cs (omega (arith, within))))
