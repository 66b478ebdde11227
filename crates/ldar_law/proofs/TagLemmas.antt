use Rattle.std.proofs.Common.{◌≡◌, Bool, true, false, Option, Some, None, List, [], ◌∷◌, ◌++◌, filter, filter_map, refl, sym, ap, subst, ◌∙◌}
use Rattle.std.specs.List.{AllByRecursion, cons_option}
use Rattle.std.proofs.Math.Bool.{and-false}
use Rattle.std.proofs.lemmas.Bool.{false≢true}
use Rattle.std.proofs.lemmas.List.{append-nil}
use Rattle.std.proofs.lemmas.List.Elements.{filter-append, filter_map-append}
use Rattle.list_words.specs.Order.{Ascends}
use Rattle.fact_kinds.specs.declared.key.Key.{Key}
use Rattle.fact_kinds.specs.Facts.{is_earlier}
use Rattle.fact_kinds.proofs.KeyOrder.{strict_earlier}
use Rattle.ldar_law.specs.declared.delay.DelayEntry.{DelayEntry}
use Rattle.ldar_law.specs.declared.event.Event.{Event}
use Rattle.ldar_law.specs.declared.event.Happening.{Happening}
use Rattle.ldar_law.specs.declared.event.Happening.TheVariants.{Delay}
use Rattle.ldar_law.specs.declared.span.Span.{Span}
use Rattle.ldar_law.specs.Tags.{delay_at, delay_entry, is_within, delays_of}
use Rattle.ldar_law.specs.RepairLaws.{BeginsWithClosing, DelaysLieBetween}
use Rattle.ldar_law.proofs.TestLemmas.{all_implied}

-- a property of all elements of two lists, for each of the two
all_back : {X : Type 0} (P : X → Type 0) (xs ys : List X) → AllByRecursion P (xs ++ ys) → AllByRecursion P ys
all_back P [] ys h = h
all_back P (x ∷ xs) ys h = all_back P xs ys h.1

all_front : {X : Type 0} (P : X → Type 0) (xs ys : List X) → AllByRecursion P (xs ++ ys) → AllByRecursion P xs
all_front P [] ys h = tt
all_front P (x ∷ xs) ys h = (h.0, all_front P xs ys h.1)

-- the second part of an ascending list ascends
back_ascends : {X : Type 0} (b : X → X → Bool) (xs ys : List X) → Ascends b (xs ++ ys) → Ascends b ys
back_ascends b [] ys h = h
back_ascends b (x ∷ xs) ys h = back_ascends b xs ys h.1

-- each element of the first part is before each element of the second
before_one : {X : Type 0} (b : X → X → Bool) (xs : List X) (y : X) (ys : List X) → Ascends b (xs ++ y ∷ ys) → AllByRecursion (λ x. b x y ≡ true) xs
before_one b [] y ys h = tt
before_one b (x ∷ xs) y ys h = ((all_back (λ z. b x z ≡ true) xs (y ∷ ys) h.0).0, before_one b xs y ys h.1)

-- two keys are not each before the other
not_both : (a b : Key) → is_earlier a b ≡ true → is_earlier b a ≡ false
not_both a b h =
    elim (is_earlier b a) as (λ t. is_earlier b a ≡ t → t ≡ false) [
      | true ↦ λ e. absurd (false≢true (sym ((strict_earlier (λ (k : Key). k)).irreflexive a) ∙ (strict_earlier (λ (k : Key). k)).transitive a b a h e))
      | false ↦ λ e. refl
    ] refl

module _ (span : Span) where
  -- a delay with a key within the tag is kept, and others are dropped
  kept_at : (key : Key) (what : Happening) (rest : List DelayEntry) → is_within span key ≡ true →
      filter (λ d. is_within span d.key) (cons_option (delay_at key what) rest) ≡ cons_option (delay_at key what) (filter (λ d. is_within span d.key) rest)
  kept_at key (Delay why signer expected) rest h = rw h refl
  kept_at key _ rest h = refl

  left_at : (key : Key) (what : Happening) (rest : List DelayEntry) → is_within span key ≡ false →
      filter (λ d. is_within span d.key) (cons_option (delay_at key what) rest) ≡ filter (λ d. is_within span d.key) rest
  left_at key (Delay why signer expected) rest h = rw h refl
  left_at key _ rest h = refl

  all_kept : (events : List Event) → AllByRecursion (λ e. is_within span e.key ≡ true) events → delays_of span events ≡ filter_map delay_entry events
  all_kept [] h = refl
  all_kept (e ∷ events) h = kept_at e.key e.what (filter_map delay_entry events) h.0 ∙ ap (λ ds. cons_option (delay_at e.key e.what) ds) (all_kept events h.1)

  all_left : (events : List Event) → AllByRecursion (λ e. is_within span e.key ≡ false) events → delays_of span events ≡ []
  all_left [] h = refl
  all_left (e ∷ events) h = left_at e.key e.what (filter_map delay_entry events) h.0 ∙ all_left events h.1

  of_parts : (xs ys : List Event) → delays_of span (xs ++ ys) ≡ delays_of span xs ++ delays_of span ys
  of_parts xs ys = rw (filter_map-append delay_entry xs ys) (filter-append (λ d. is_within span d.key) (filter_map delay_entry xs) (filter_map delay_entry ys))

  -- a key that is not after the detection is not within the tag
  not_after : (key : Key) → is_earlier span.detected key ≡ false → is_within span key ≡ false
  not_after key h = rw h refl

-- the closing and the events after it are not within the tag; the events between are
rest_left : (span : Span) (rest : List Event) → Ascends (λ a b. is_earlier a.key b.key) rest → BeginsWithClosing span.closed rest → delays_of span rest ≡ []
rest_left span rest asc begins = go span.closed refl begins
  where
    go : (closed : Option Key) → span.closed ≡ closed → BeginsWithClosing closed rest → delays_of span rest ≡ []
    go None e begins = rw begins refl
    go (Some key) e begins =
        let closing = begins.0 in
        let after = begins.1 in
        let out : (x : Event) → is_earlier x.key key ≡ false → is_within span x.key ≡ false =
        λ x h. rw e (rw h (and-false (is_earlier span.detected x.key))) in
        let asc' : Ascends (λ a b. is_earlier a.key b.key) (closing ∷ after) = subst (λ es. Ascends (λ a b. is_earlier a.key b.key) es) begins.3 asc in
        let first : is_earlier closing.key key ≡ false = subst (λ k. is_earlier closing.key k ≡ false) begins.2
        ((strict_earlier (λ (k : Key). k)).irreflexive closing.key) in
        let later = all_implied (λ x. is_earlier closing.key x.key ≡ true) (λ x. is_within span x.key ≡ false)
        (λ x h. out x (subst (λ k. is_earlier x.key k ≡ false) begins.2 (not_both closing.key x.key h))) after asc'.0 in
        subst (λ es. delays_of span es ≡ []) (sym begins.3) (all_left span (closing ∷ after) (out closing first, later))

between_kept : (span : Span) (leak : Event) (between rest : List Event) → Ascends (λ a b. is_earlier a.key b.key) (leak ∷ (between ++ rest)) →
    span.detected ≡ leak.key → BeginsWithClosing span.closed rest →
    AllByRecursion (λ e. is_within span e.key ≡ true) between
between_kept span leak between rest asc detected begins = go span.closed refl begins
  where
    later : AllByRecursion (λ x. is_earlier span.detected x.key ≡ true) between
    later = rw detected (all_front (λ x. is_earlier leak.key x.key ≡ true) between rest asc.0)

    go : (closed : Option Key) → span.closed ≡ closed → BeginsWithClosing closed rest → AllByRecursion (λ e. is_within span e.key ≡ true) between
    go None e begins = all_implied (λ x. is_earlier span.detected x.key ≡ true) (λ x. is_within span x.key ≡ true) (λ x h. rw (e, h) refl) between later
    go (Some key) e begins =
        let earlier : AllByRecursion (λ x. is_earlier x.key key ≡ true) between =
        all_implied (λ x. is_earlier x.key begins.0.key ≡ true) (λ x. is_earlier x.key key ≡ true) (λ x h. subst (λ k. is_earlier x.key k ≡ true) begins.2 h)
        between
        (before_one (λ a b. is_earlier a.key b.key) between begins.0 begins.1
        (subst (λ es. Ascends (λ a b. is_earlier a.key b.key) (between ++ es)) begins.3 asc.1)) in
        both_hold between later earlier
      where
        both_hold : (xs : List Event) → AllByRecursion (λ x. is_earlier span.detected x.key ≡ true) xs →
            AllByRecursion (λ x. is_earlier x.key key ≡ true) xs → AllByRecursion (λ x. is_within span x.key ≡ true) xs
        both_hold [] h h' = tt
        both_hold (x ∷ xs) h h' = (rw (e, h.0, h'.0) refl, both_hold xs h.1 h'.1)

pub delays_lie_between : DelaysLieBetween
delays_lie_between span before leak between rest asc detected begins =
    let back : Ascends (λ a b. is_earlier a.key b.key) (leak ∷ (between ++ rest)) =
    back_ascends (λ a b. is_earlier a.key b.key) before (leak ∷ (between ++ rest)) asc in
    let front = all_implied (λ x. is_earlier x.key leak.key ≡ true) (λ x. is_within span x.key ≡ false)
    (λ x h. not_after span x.key (rw detected (not_both x.key leak.key h))) before
    (before_one (λ a b. is_earlier a.key b.key) before leak (between ++ rest) asc) in
    let itself : is_within span leak.key ≡ false = not_after span leak.key (rw detected ((strict_earlier (λ (k : Key). k)).irreflexive leak.key)) in
    of_parts span before (leak ∷ (between ++ rest))
    ∙ rw (all_left span before front)
    (left_at span leak.key leak.what (filter_map delay_entry (between ++ rest)) itself
    ∙ (of_parts span between rest
    ∙ rw (
      all_kept span between (between_kept span leak between rest back detected begins),
      rest_left span rest (back_ascends (λ a b. is_earlier a.key b.key) between rest back.1) begins,
    )
    (append-nil (filter_map delay_entry between))))
