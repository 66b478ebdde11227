use Rattle.std.proofs.Common.{◌≡◌, ◌<◌, ◌≤◌, ◌⊎◌, ◌↔◌, ℕ, zero, suc, true, false, cond, Option, Some, None, List, [], ◌∷◌, ◌++◌, reverse, length, slice_get}
use Rattle.std.proofs.Common.{take, option_map, option_and_then, refl, sym, ap, ◌∙◌, subst, inl, inr, arith}
use Rattle.std.specs.Prelude.{unwrap_or}
use Rattle.std.proofs.lemmas.Bool.{cases_Bool, false≢true}
use Rattle.std.proofs.Math.Seq.{take-append_seam}
use Rattle.std.proofs.lemmas.List.{reverse-append, length-reverse, take-append-le}
use Rattle.ldar_law.specs.declared.delay.DelayEntry.{DelayEntry}
use Rattle.ldar_law.specs.declared.delay.Stop.{Stop}
use Rattle.ldar_law.specs.Delays.{is_past, due_given, last_counted, counted_delay, is_ignored, AreIgnored, IsLastCounted}
use Rattle.ldar_law.specs.RepairLaws.{OneMoreDelay, CountedPlaceIsOfDelay, NoneCounted, CountedPlaceIsLast}

pub one_more_delay : OneMoreDelay
one_more_delay detected attempts stops delays delay =
    rw (reverse-append delays (delay ∷ []))
    (elim (cases_Bool (is_past delay.key.day (due_given detected attempts stops (counted_delay detected attempts stops delays)))) [
      | inl t ↦ rw t refl
      | inr f ↦ rw f refl
    ])

-- an element keeps its place if others follow
kept_place : {X : Type 0} (xs ys : List X) (i : ℕ) (x : X) → slice_get xs i ≡ Some x → slice_get (xs ++ ys) i ≡ Some x
kept_place [] ys i x e = cc
kept_place (y ∷ xs) ys zero x e = e
kept_place (y ∷ xs) ys (suc i) x e = kept_place xs ys i x e

-- an element added at the end has the list's length as its place
next_place : {X : Type 0} (xs : List X) (x : X) → slice_get (xs ++ x ∷ []) (length xs) ≡ Some x
next_place [] x = refl
next_place (y ∷ xs) x = next_place xs x

reverse_more : {X : Type 0} (x : X) (xs : List X) → reverse (x ∷ xs) ≡ reverse xs ++ x ∷ []
reverse_more x xs = reverse-append (x ∷ []) xs

reverse_twice : {X : Type 0} (xs : List X) → reverse (reverse xs) ≡ xs
reverse_twice [] = refl
reverse_twice (x ∷ xs) = rw (reverse_more x xs, reverse-append (reverse xs) (x ∷ []), reverse_twice xs) refl

module _ (detected : ℕ) (attempts : List ℕ) (stops : List Stop) where
  -- the place is that of the delay
  placed : (delays : List DelayEntry) (c : ℕ × DelayEntry) → last_counted detected attempts stops delays ≡ Some c → slice_get (reverse delays) c.0 ≡ Some c.1
  placed [] c e = cc
  placed (latest ∷ earlier) c e =
      elim (cases_Bool (is_past latest.key.day (due_given detected attempts stops (option_map (λ o. o.1) (last_counted detected attempts stops earlier))))) [
        | inl t ↦ rw (reverse_more latest earlier)
            (kept_place (reverse earlier) (latest ∷ []) c.0 c.1
            (placed earlier c (subst (λ b. cond b (last_counted detected attempts stops earlier) (Some (length earlier, latest)) ≡ Some c) t e)))
        | inr f ↦
            let this : Some (length earlier, latest) ≡ Some c =
            subst (λ b. cond b (last_counted detected attempts stops earlier) (Some (length earlier, latest)) ≡ Some c) f e in
            let same : (length earlier, latest) ≡ c = ap (λ o. unwrap_or o c) this in
            rw (reverse_more latest earlier)
            (subst (λ d. slice_get (reverse earlier ++ latest ∷ []) d.0 ≡ Some d.1) same
            (subst (λ n. slice_get (reverse earlier ++ latest ∷ []) n ≡ Some latest) (length-reverse earlier) (next_place (reverse earlier) latest)))
      ]

  -- the delay is at the place that was found
  found_there : (delays : List DelayEntry) (o : Option (ℕ × DelayEntry)) → last_counted detected attempts stops (reverse delays) ≡ o →
      option_and_then (slice_get delays) (option_map (λ c. c.0) o) ≡ option_map (λ c. c.1) o
  found_there delays None e = refl
  found_there delays (Some c) e = subst (λ ds. slice_get ds c.0 ≡ Some c.1) (reverse_twice delays) (placed (reverse delays) c e)

pub counted_place_is_of_delay : CountedPlaceIsOfDelay
counted_place_is_of_delay detected attempts stops delays =
    found_there detected attempts stops delays (last_counted detected attempts stops (reverse delays)) refl

-- after one more element, the element at a place is an old one or the new one
one_or_last : {X : Type 0} (xs : List X) (x : X) (place : ℕ) (y : X) → slice_get (xs ++ x ∷ []) place ≡ Some y →
    ((place < length xs) × (slice_get xs place ≡ Some y)) ⊎ ((place ≡ length xs) × (x ≡ y))
one_or_last [] x zero y e = inr (refl, cc)
one_or_last [] x (suc place) y e = cc
one_or_last (z ∷ xs) x zero y e = inl (omega arith, e)
one_or_last (z ∷ xs) x (suc place) y e = elim (one_or_last xs x place y e) [
  | inl here ↦ let lt : place < length xs = here.0 in inl (omega arith, here.1)
  | inr last ↦ inr (ap suc last.0, last.1)
]

-- a place with an element is less than the length
found_within : {X : Type 0} (xs : List X) (place : ℕ) (x : X) → slice_get xs place ≡ Some x → place ≤ length xs
found_within [] place x e = cc
found_within (y ∷ xs) zero x e = omega arith
found_within (y ∷ xs) (suc place) x e = let within = found_within xs place x e in omega (arith, within)

-- the elements before a place are unchanged if one more follows
front_kept : {X : Type 0} (xs : List X) (x : X) (place : ℕ) → place ≤ length xs → take place (xs ++ x ∷ []) ≡ take place xs
front_kept xs x place within = take-append-le place xs (x ∷ []) within

-- the elements before the added one are the whole old list
whole_front : {X : Type 0} (xs : List X) (x : X) → take (length xs) (xs ++ x ∷ []) ≡ xs
whole_front xs x = take-append_seam xs (x ∷ [])

module _ (detected : ℕ) (attempts : List ℕ) (stops : List Stop) where
  -- the latest of some delays, given latest first, is judged by the others
  judged_by_others : (latest : DelayEntry) (earlier : List DelayEntry) → is_ignored detected attempts stops (reverse earlier) latest
      ≡ is_past latest.key.day (due_given detected attempts stops (option_map (λ c. c.1) (last_counted detected attempts stops earlier)))
  judged_by_others latest earlier =
      ap (λ ds. is_past latest.key.day (due_given detected attempts stops (option_map (λ c. c.1) (last_counted detected attempts stops ds))))
      (reverse_twice earlier)

  -- after one more ignored delay, all delays are ignored if all were before
  more_ignored : (delays : List DelayEntry) (delay : DelayEntry) → is_ignored detected attempts stops delays delay ≡ true →
      AreIgnored detected attempts stops delays → AreIgnored detected attempts stops (delays ++ delay ∷ [])
  more_ignored delays delay ignored all place other stands = elim (one_or_last delays delay place other stands) [
    | inl here ↦ let within : place ≤ length delays = let lt : place < length delays = here.0 in omega arith in
        rw (front_kept delays delay place within) (all place other here.1)
    | inr last ↦ rw (last.0, whole_front delays delay, sym last.1) ignored
  ]

  -- after one more ignored delay, the last one that counts is unchanged
  last_stays : (delays : List DelayEntry) (delay : DelayEntry) (place : ℕ) → is_ignored detected attempts stops delays delay ≡ true →
      IsLastCounted detected attempts stops delays place → IsLastCounted detected attempts stops (delays ++ delay ∷ []) place
  last_stays delays delay place ignored last = record {
    delay = last.delay;
    stands = kept_place delays (delay ∷ []) place last.delay last.stands;
    counts = rw (front_kept delays delay place (found_within delays place last.delay last.stands)) last.counts;
    later = λ after other past stands. elim (one_or_last delays delay after other stands) [
      | inl here ↦ let within : after ≤ length delays = let lt : after < length delays = here.0 in omega arith in
          rw (front_kept delays delay after within) (last.later after other past here.1)
      | inr end ↦ rw (end.0, whole_front delays delay, sym end.1) ignored
    ];
  }

  -- one more delay that counts is the last one that does
  is_last : (delays : List DelayEntry) (delay : DelayEntry) → is_ignored detected attempts stops delays delay ≡ false →
      IsLastCounted detected attempts stops (delays ++ delay ∷ []) (length delays)
  is_last delays delay counts = record {
    delay = delay;
    stands = next_place delays delay;
    counts = rw (whole_front delays delay) counts;
    later = λ after other past stands. elim (one_or_last delays delay after other stands) [
      | inl here ↦ let lt : after < length delays = here.0 in absurd (omega arith)
      | inr end ↦ let same : after ≡ length delays = end.0 in absurd (omega arith)
    ];
  }

  -- what `last_counted` returns for some delays, latest first
  abbrev Given : Option (ℕ × DelayEntry) → List DelayEntry → Type 0
  Given None delays = AreIgnored detected attempts stops delays
  Given (Some c) delays = IsLastCounted detected attempts stops delays c.0

  -- the same result after one more ignored delay
  given_more : (o : Option (ℕ × DelayEntry)) (delays : List DelayEntry) (delay : DelayEntry) → is_ignored detected attempts stops delays delay ≡ true →
      Given o delays → Given o (delays ++ delay ∷ [])
  given_more None delays delay ignored given = more_ignored delays delay ignored given
  given_more (Some c) delays delay ignored given = last_stays delays delay c.0 ignored given

  -- what `last_counted` returns is the last delay that is not ignored
  given_of : (delays : List DelayEntry) → Given (last_counted detected attempts stops delays) (reverse delays)
  given_of [] = λ place delay stands. cc
  given_of (latest ∷ earlier) =
      let judged = judged_by_others latest earlier in
      rw (reverse_more latest earlier)
      (elim (cases_Bool (is_past latest.key.day (due_given detected attempts stops (option_map (λ c. c.1) (last_counted detected attempts stops earlier))))) [
        | inl t ↦ rw t (given_more (last_counted detected attempts stops earlier) (reverse earlier) latest (judged ∙ t) (given_of earlier))
        | inr f ↦ rw f (subst (IsLastCounted detected attempts stops (reverse earlier ++ latest ∷ [])) (length-reverse earlier)
            (is_last (reverse earlier) latest (judged ∙ f)))
      ])

-- what it returns for delays in key order
given_in_order : (detected : ℕ) (attempts : List ℕ) (stops : List Stop) (delays : List DelayEntry) →
    Given detected attempts stops (last_counted detected attempts stops (reverse delays)) delays
given_in_order detected attempts stops delays =
    subst (Given detected attempts stops (last_counted detected attempts stops (reverse delays))) (reverse_twice delays)
    (given_of detected attempts stops (reverse delays))

-- if one delay counts, not all are ignored
not_all : (detected : ℕ) (attempts : List ℕ) (stops : List Stop) (delays : List DelayEntry) (place : ℕ) → IsLastCounted detected attempts stops delays place →
    AreIgnored detected attempts stops delays → ⊥
not_all detected attempts stops delays place last all = false≢true (sym last.counts ∙ all place last.delay last.stands)

-- there is no result exactly if all delays are ignored
none_given : (detected : ℕ) (attempts : List ℕ) (stops : List Stop) (delays : List DelayEntry) (o : Option (ℕ × DelayEntry)) →
    Given detected attempts stops o delays → (option_map (λ c. c.0) o ≡ None) ↔ AreIgnored detected attempts stops delays
none_given detected attempts stops delays None given = (λ e. given, λ all. refl)
none_given detected attempts stops delays (Some c) given =
    (λ e. absurd (let no : ⊥ = cc in no), λ all. absurd (not_all detected attempts stops delays c.0 given all))

pub none_counted : NoneCounted
none_counted detected attempts stops delays =
    none_given detected attempts stops delays (last_counted detected attempts stops (reverse delays)) (given_in_order detected attempts stops delays)

-- the result is the last delay that counts
last_given : (detected : ℕ) (attempts : List ℕ) (stops : List Stop) (delays : List DelayEntry) (place : ℕ) (o : Option (ℕ × DelayEntry)) →
    Given detected attempts stops o delays → option_map (λ c. c.0) o ≡ Some place → IsLastCounted detected attempts stops delays place
last_given detected attempts stops delays place None given e = cc
last_given detected attempts stops delays place (Some c) given e =
    let same : c.0 ≡ place = cc in subst (IsLastCounted detected attempts stops delays) same given

pub counted_place_is_last : CountedPlaceIsLast
counted_place_is_last detected attempts stops delays place e =
    last_given detected attempts stops delays place (last_counted detected attempts stops (reverse delays)) (given_in_order detected attempts stops delays) e
