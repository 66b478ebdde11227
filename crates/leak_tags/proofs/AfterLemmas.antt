-- Some event that passes, seen with those after it: with one more event, and since the last leak.
use Rattle.std.proofs.Common.{◌≡◌, Bool, true, false, not, ◌&&◌, ◌||◌, List, [], ◌∷◌, ◌++◌, refl, sym, ap, ◌∙◌, append_assoc}
use Rattle.std.proofs.lemmas.List.{append-nil}
use Rattle.std.specs.List.{list_any}
use Rattle.std.proofs.lemmas.Bool.{or_left}
use Rattle.std.proofs.lemmas.List.Folds.{list_any-append}
use Rattle.list_words.specs.Words.{somewhere_from}
use Rattle.ldar_law.specs.declared.event.Event.{Event}
use Rattle.ldar_law.specs.Happenings.{is_leak}
use Rattle.leak_tags.specs.Telling.{some_after, since_leak}

-- ---- tests

-- a disjunction with false
pub or_false : (b : Bool) → (b || false) ≡ b
or_false true = refl
or_false false = refl

-- a disjunction with true
pub or_true : (b : Bool) → (b || true) ≡ true
or_true true = refl
or_true false = refl

-- a conjunction with true
pub and_true : (b : Bool) → (b && true) ≡ b
and_true true = refl
and_true false = refl

-- a conjunction with false
pub and_false : (b : Bool) → (b && false) ≡ false
and_false true = refl
and_false false = refl

-- disjunction is commutative
pub or_swap : (a b : Bool) → (a || b) ≡ (b || a)
or_swap true true = refl
or_swap true false = refl
or_swap false true = refl
or_swap false false = refl

-- disjunction is associative
or_regroup : (a b c : Bool) → (a || (b || c)) ≡ ((a || b) || c)
or_regroup true b c = refl
or_regroup false b c = refl

-- a disjunction of four tests, regrouped
or_sort : (a b c d : Bool) → ((a || b) || (c || d)) ≡ ((a || c) || (b || d))
or_sort true b c d = refl
or_sort false true true d = refl
or_sort false true false d = refl
or_sort false false c d = refl

-- conjunction distributes over disjunction
pub and_over : (a b c : Bool) → (a && (b || c)) ≡ ((a && b) || (a && c))
and_over true b c = refl
and_over false b c = refl

-- ---- some event

-- tests that agree everywhere
pub some_same : (p q : Event → List Event → Bool) → ((e : Event) (after : List Event) → p e after ≡ q e after) → (events : List Event) →
    some_after p events ≡ some_after q events
some_same p q same [] = refl
some_same p q same (e ∷ after) =
    ap (λ b. b || some_after p after) (same e after) ∙ ap (λ b. q e after || b) (some_same p q same after)

-- tests that agree at each event of a list
pub some_at : (whole : List Event) (p q : Event → List Event → Bool) →
    ((before : List Event) (e : Event) (after : List Event) → before ++ e ∷ after ≡ whole → p e after ≡ q e after) →
    (front events : List Event) → front ++ events ≡ whole → some_after p events ≡ some_after q events
some_at whole p q same front [] at = refl
some_at whole p q same front (e ∷ after) at =
    ap (λ b. b || some_after p after) (same front e after at)
    ∙ ap (λ b. q e after || b) (some_at whole p q same (front ++ e ∷ []) after (append_assoc front (e ∷ []) after ∙ at))

-- one of two tests
pub some_or : (p q : Event → List Event → Bool) (events : List Event) →
    some_after (λ e after. p e after || q e after) events ≡ (some_after p events || some_after q events)
some_or p q [] = refl
some_or p q (e ∷ after) =
    ap (λ b. (p e after || q e after) || b) (some_or p q after)
    ∙ or_sort (p e after) (q e after) (some_after p after) (some_after q after)

-- a test that never passes
pub some_none : (events : List Event) → some_after (λ _ _. false) events ≡ false
some_none [] = refl
some_none (e ∷ after) = some_none after

-- with one more event
pub some_more : (p : Event → List Event → Bool) (events : List Event) (v : Event) →
    some_after p (events ++ v ∷ []) ≡ (some_after (λ e after. p e (after ++ v ∷ [])) events || p v [])
some_more p [] v = or_false (p v [])
some_more p (e ∷ after) v =
    ap (λ b. p e (after ++ v ∷ []) || b) (some_more p after v)
    ∙ or_regroup (p e (after ++ v ∷ [])) (some_after (λ x rest. p x (rest ++ v ∷ [])) after) (p v [])

-- a test that does not look at the earlier events
pub somewhere_is_after : (p : Event → List Event → Bool) (front events : List Event) →
    somewhere_from (λ _ e after. p e after) front events ≡ some_after p events
somewhere_is_after p front [] = refl
somewhere_is_after p front (e ∷ after) = ap (λ b. p e after || b) (somewhere_is_after p (front ++ e ∷ []) after)

-- a test that does not look at the later events, with one more event
pub somewhere_before : (p : List Event → Event → Bool) (front events : List Event) (v : Event) →
    somewhere_from (λ before e _. p before e) front (events ++ v ∷ []) ≡ (somewhere_from (λ before e _. p before e) front events || p (front ++ events) v)
somewhere_before p front [] v = or_false (p front v) ∙ ap (λ before. p before v) (sym (append-nil front))
somewhere_before p front (e ∷ after) v =
    ap (λ b. p front e || b) (somewhere_before p (front ++ e ∷ []) after v)
    ∙ ap (λ before. p front e || (somewhere_from (λ x y _. p x y) (front ++ e ∷ []) after || p before v)) (append_assoc front (e ∷ []) after)
    ∙ or_regroup (p front e) (somewhere_from (λ x y _. p x y) (front ++ e ∷ []) after) (p (front ++ e ∷ after) v)

-- ---- tests of events

-- with one more event
pub any_more : (p : Event → Bool) (events : List Event) (v : Event) → list_any p (events ++ v ∷ []) ≡ (list_any p events || p v)
any_more p events v = list_any-append p events (v ∷ []) ∙ ap (λ b. list_any p events || b) (or_false (p v))

-- some element passes if there is one that does
any_there : (p : Event → Bool) (before : List Event) (e : Event) (after : List Event) → p e ≡ true → list_any p (before ++ e ∷ after) ≡ true
any_there p [] e after passes = or_left (p e) (list_any p after) passes
any_there p (x ∷ before) e after passes = ap (λ b. p x || b) (any_there p before e after passes) ∙ or_true (p x)

-- ---- since the last leak

-- if a leak fails the test, only the events after it count
pub since_that_leak : (p : Event → Bool) (before : List Event) (e : Event) (after : List Event) → is_leak e.what ≡ true → p e ≡ false →
    since_leak p (before ++ e ∷ after) ≡ since_leak p after
since_that_leak p [] e after leaks fails = ap (λ b. (b && not (list_any (λ x. is_leak x.what) after)) || since_leak p after) fails
since_that_leak p (x ∷ before) e after leaks fails =
    ap (λ b. (p x && not b) || since_leak p (before ++ e ∷ after)) (any_there (λ y. is_leak y.what) before e after leaks)
    ∙ ap (λ b. b || since_leak p (before ++ e ∷ after)) (and_false (p x))
    ∙ since_that_leak p before e after leaks fails

-- a test before another event, with it
passes_before : (b any leaks : Bool) → (b && not (any || leaks)) ≡ (not leaks && (b && not any))
passes_before b true true = and_false b
passes_before b true false = refl
passes_before b false true = and_false b
passes_before b false false = refl

-- a test with a condition that does not depend on the event
some_under : (t : Bool) (p : Event → List Event → Bool) (events : List Event) → some_after (λ e after. t && p e after) events ≡ (t && some_after p events)
some_under true p events = refl
some_under false p events = some_none events

-- with one more event
pub since_more : (p : Event → Bool) (events : List Event) (v : Event) → since_leak p (events ++ v ∷ []) ≡ ((not (is_leak v.what) && since_leak p events) || p v)
since_more p events v =
    some_more (λ e after. p e && not (list_any (λ x. is_leak x.what) after)) events v
    ∙ ap (λ b. b || (p v && true))
    (some_same
    (λ e after. p e && not (list_any (λ x. is_leak x.what) (after ++ v ∷ [])))
    (λ e after. not (is_leak v.what) && (p e && not (list_any (λ x. is_leak x.what) after)))
    (λ e after.
    ap (λ b. p e && not b) (any_more (λ x. is_leak x.what) after v)
    ∙ passes_before (p e) (list_any (λ x. is_leak x.what) after) (is_leak v.what))
    events
    ∙ some_under (not (is_leak v.what)) (λ e after. p e && not (list_any (λ x. is_leak x.what) after)) events)
    ∙ ap (λ b. (not (is_leak v.what) && since_leak p events) || b) (and_true (p v))
