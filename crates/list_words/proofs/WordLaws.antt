use Rattle.std.proofs.Common.{◌≡◌, ◌⊎◌, Bool, true, false, ◌||◌, cond, Option, Some, None, is_some, List, [], ◌∷◌, ◌++◌, refl, sym, ap, ◌∙◌, inl, inr}
use Rattle.std.specs.List.{list_any, cons_option}
use Rattle.std.specs.Option.{option_or}
use Rattle.std.proofs.lemmas.Bool.{cases_Bool, false≢true, or_cases, or_left, or_right}
use Rattle.std.proofs.lemmas.List.{append_assoc, append-nil}
use Rattle.list_words.specs.Words.{somewhere_from, first_from, first_given_from, each_from, each_where, last_such, Passes, PassesFirst, Gives, GivesFirst}
use Rattle.list_words.specs.Words.{PassesLast, SomewhereDecides, FirstWhereIsFirst, FirstWhereFinds, FirstGivenIsFirst, FirstGivenFinds, EachWhereHolds}
use Rattle.list_words.specs.Words.{LastSuchIsLast, LastSuchFinds}
use Rattle.list_words.proofs.Members.{Among, among_from_Contains, Contains-from_among}
use Rattle.list_words.proofs.WordLemmas.{last_such-cons, last_such_here}

-- Each word walks on after a prefix, so each proof is about a walk that starts after any prefix.

-- a prefix with one more element at its end, joined to a list
front_cons : {X : Type 0} (front : List X) (x : X) (b : List X) → (front ++ x ∷ []) ++ b ≡ front ++ x ∷ b
front_cons front x b = append_assoc front (x ∷ []) b

-- a walk that returns true has an element that passes
somewhere_holds : {X : Type 0} (p : List X → X → List X → Bool) (front xs : List X) → somewhere_from p front xs ≡ true
    → (x : X) × Passes (λ b y a. p (front ++ b) y a) xs x
somewhere_holds p front [] h = absurd (false≢true h)
somewhere_holds p front (x ∷ xs) h =
    elim (or_cases (p front x xs) (somewhere_from p (front ++ x ∷ []) xs) h) [
      | inl here ↦ (x, record { before = []; after = xs; stands = refl; passes = rw (append-nil front) here })
      | inr there ↦ let found = somewhere_holds p (front ++ x ∷ []) xs there in (
        found.0,
        record {
          before = x ∷ found.1.before;
          after = found.1.after;
          stands = ap (λ ys. x ∷ ys) found.1.stands;
          passes = rw (sym (front_cons front x found.1.before)) found.1.passes;
        },
      )
    ]

-- an element that passes makes the walk return true
somewhere_reaches : {X : Type 0} (p : List X → X → List X → Bool) (front before : List X) (x : X) (after : List X) → p (front ++ before) x after ≡ true
    → somewhere_from p front (before ++ x ∷ after) ≡ true
somewhere_reaches p front [] x after e = or_left _ _ (rw (append-nil front) at e)
somewhere_reaches p front (w ∷ ws) x after e =
    or_right _ _ (somewhere_reaches p (front ++ w ∷ []) ws x after (rw (front_cons front w ws) e))

-- the law of `some_element`
pub somewhere_decides : (X : Type 0) → SomewhereDecides X
somewhere_decides X p xs = (
  λ h. somewhere_holds p [] xs h,
  λ found. rw found.1.stands (somewhere_reaches p [] found.1.before found.0 found.1.after found.1.passes),
)

-- an option is empty or has a value
cases_Option : {X : Type 0} (o : Option X) → (o ≡ None) ⊎ ((x : X) × (o ≡ Some x))
cases_Option None = inl refl
cases_Option (Some x) = inr (x, refl)

-- if the first element has no value, no element of a prefix longer by it has one
none_longer : {X Y : Type 0} (f : List X → X → List X → Option Y) (front : List X) (w : X) (ws rest : List X) → f front w (ws ++ rest) ≡ None
    → ((a : List X) (y : X) (b : List X) → ws ≡ a ++ y ∷ b → f ((front ++ w ∷ []) ++ a) y (b ++ rest) ≡ None) → (a : List X) (y : X) (b : List X)
    → w ∷ ws ≡ a ++ y ∷ b → f (front ++ a) y (b ++ rest) ≡ None
none_longer f front w ws rest here others [] y b e =
    let same : w ≡ y = cc in
    let tail : ws ≡ b = cc in
    rw (append-nil front, sym same, sym tail) here
none_longer f front w ws rest here others (v ∷ a) y b e =
    let same : w ≡ v = cc in
    let tail : ws ≡ a ++ y ∷ b = cc in
    rw (sym same, sym (front_cons front w a)) (others a y b tail)

-- an empty prefix has no element
nothing_in_front : {X : Type 0} (a : List X) (y : X) (b : List X) → ¬ ([] ≡ a ++ y ∷ b)
nothing_in_front [] y b e = cc
nothing_in_front (v ∷ a) y b e = cc

-- the value of a walk is that of the first element that has one
given_holds : {X Y : Type 0} (f : List X → X → List X → Option Y) (front xs : List X) (given : Y) → first_given_from f front xs ≡ Some given
    → GivesFirst (λ b y a. f (front ++ b) y a) xs given
given_holds f front [] given h = cc
given_holds f front (x ∷ xs) given h =
    elim (cases_Option (f front x xs)) [
      | inl nothing ↦
          let rest = given_holds f (front ++ x ∷ []) xs given (rw nothing at h) in
          record {
            before = x ∷ rest.before;
            element = rest.element;
            after = rest.after;
            stands = ap (λ ys. x ∷ ys) rest.stands;
            gives = rw (sym (front_cons front x rest.before)) rest.gives;
            none_before = none_longer f front x rest.before (rest.element ∷ rest.after) (rw rest.stands at nothing) rest.none_before;
          }
      | inr something ↦ record {
        before = [];
        element = x;
        after = xs;
        stands = refl;
        gives = rw (append-nil front) (something.1 ∙ (rw something.1 at h));
        none_before = λ a y b e. absurd (nothing_in_front a y b e);
      }
    ]

-- the first element that has a value makes the walk return it
given_reaches : {X Y : Type 0} (f : List X → X → List X → Option Y) (front before : List X) (x : X) (after : List X) (given : Y)
    → f (front ++ before) x after ≡ Some given → ((a : List X) (y : X) (b : List X) → before ≡ a ++ y ∷ b → f (front ++ a) y (b ++ x ∷ after) ≡ None)
    → first_given_from f front (before ++ x ∷ after) ≡ Some given
given_reaches f front [] x after given e none = rw (rw (append-nil front) at e) refl
given_reaches f front (w ∷ ws) x after given e none =
    rw (rw (append-nil front) at (none [] w ws refl))
    (given_reaches f (front ++ w ∷ []) ws x after given (rw (front_cons front w ws) e)
    (λ a y b s. rw (front_cons front w a) (none (w ∷ a) y b (ap (λ ys. w ∷ ys) s))))

-- the law of `first_gift`
pub first_given_is_first : (X Y : Type 0) → FirstGivenIsFirst X Y
first_given_is_first X Y f xs given = (
  λ h. given_holds f [] xs given h,
  λ g. rw g.stands (given_reaches f [] g.before g.element g.after given g.gives g.none_before),
)

-- the element itself if it passes, so that `first_where` is a case of `first_given`
chosen : {X : Type 0} → (List X → X → List X → Bool) → List X → X → List X → Option X
chosen p b x a = cond (p b x a) (Some x) None

-- `first_from` is `first_given_from` of the chosen elements
first_is_given : {X : Type 0} (p : List X → X → List X → Bool) (front xs : List X) → first_from p front xs ≡ first_given_from (chosen p) front xs
unfolding chosen
first_is_given p front [] = refl
first_is_given p front (x ∷ xs) =
    elim (cases_Bool (p front x xs)) [
      | inl e ↦ rw e refl
      | inr e ↦ rw e (first_is_given p (front ++ x ∷ []) xs)
    ]

-- a chosen element passes
chosen_passes : {X : Type 0} (p : List X → X → List X → Bool) (b : List X) (x : X) (a : List X) (y : X) → chosen p b x a ≡ Some y → (p b x a ≡ true) × (x ≡ y)
unfolding chosen
chosen_passes p b x a y h =
    elim (cases_Bool (p b x a)) [
      | inl e ↦ let some : Some x ≡ Some y = rw e at h in (e, cc)
      | inr e ↦ let nothing : None ≡ Some y = rw e at h in cc
    ]

-- an element that is not chosen fails
chosen_fails : {X : Type 0} (p : List X → X → List X → Bool) (b : List X) (x : X) (a : List X) → chosen p b x a ≡ None → p b x a ≡ false
unfolding chosen
chosen_fails p b x a h =
    elim (cases_Bool (p b x a)) [
      | inl e ↦ let some : Some x ≡ None = rw e at h in cc
      | inr e ↦ e
    ]

-- the first chosen element is the first that passes
passes_first : {X : Type 0} (p : List X → X → List X → Bool) (xs : List X) (x : X) → GivesFirst (chosen p) xs x → PassesFirst p xs x
passes_first p xs x g =
    let here = chosen_passes p g.before g.element g.after x g.gives in
    record {
      before = g.before;
      after = g.after;
      stands = g.stands ∙ ap (λ y. g.before ++ y ∷ g.after) here.1;
      passes = rw (sym here.1) here.0;
      none_before = λ a y b s. rw (sym here.1) (chosen_fails p a y (b ++ g.element ∷ g.after) (g.none_before a y b s));
    }

-- the first element that passes is the first chosen one
gives_first : {X : Type 0} (p : List X → X → List X → Bool) (xs : List X) (x : X) → PassesFirst p xs x → GivesFirst (chosen p) xs x
unfolding chosen
gives_first p xs x g =
    record {
      before = g.before;
      element = x;
      after = g.after;
      stands = g.stands;
      gives = rw g.passes refl;
      none_before = λ a y b s. rw (g.none_before a y b s) refl;
    }

-- the law of `first_element`
pub first_where_is_first : (X : Type 0) → FirstWhereIsFirst X
first_where_is_first X p xs x = (
  λ h. passes_first p xs x (given_holds (chosen p) [] xs x (sym (first_is_given p [] xs) ∙ h)),
  λ first. first_is_given p [] xs ∙ (first_given_is_first X X (chosen p) xs x).1 (gives_first p xs x first),
)

-- a choice of two options has a value exactly if one of them has
is_some-or : {X : Type 0} (o r : Option X) → is_some (option_or o r) ≡ (is_some o || is_some r)
is_some-or None r = refl
is_some-or (Some x) r = refl

-- a walk returns a value exactly if some element has one
given_finds : {X Y : Type 0} (f : List X → X → List X → Option Y) (front xs : List X)
    → is_some (first_given_from f front xs) ≡ somewhere_from (λ b x a. is_some (f b x a)) front xs
given_finds f front [] = refl
given_finds f front (x ∷ xs) =
    is_some-or (f front x xs) (first_given_from f (front ++ x ∷ []) xs)
    ∙ ap (λ b. is_some (f front x xs) || b) (given_finds f (front ++ x ∷ []) xs)

-- the law of `first_gift_found`
pub first_given_finds : (X Y : Type 0) → FirstGivenFinds X Y
first_given_finds X Y f xs = given_finds f [] xs

-- a walk returns an element exactly if one passes
first_finds : {X : Type 0} (p : List X → X → List X → Bool) (front xs : List X) → is_some (first_from p front xs) ≡ somewhere_from p front xs
first_finds p front [] = refl
first_finds p front (x ∷ xs) =
    elim (cases_Bool (p front x xs)) [
      | inl e ↦ rw e refl
      | inr e ↦ rw e (first_finds p (front ++ x ∷ []) xs)
    ]

-- the law of `first_element_found`
pub first_where_finds : (X : Type 0) → FirstWhereFinds X
first_where_finds X p xs = first_finds p [] xs

-- a value of a later element is a value of the list
each_later : {X Y : Type 0} (f : List X → X → List X → Option Y) (front : List X) (x : X) (xs : List X) (given : Y)
    → Gives (λ b y a. f ((front ++ x ∷ []) ++ b) y a) xs given → Gives (λ b y a. f (front ++ b) y a) (x ∷ xs) given
each_later f front x xs given rest =
    record {
      before = x ∷ rest.before;
      element = rest.element;
      after = rest.after;
      stands = ap (λ ys. x ∷ ys) rest.stands;
      gives = rw (sym (front_cons front x rest.before)) rest.gives;
    }

-- a value of this element or of a later one is a value of the list
each_first : {X Y : Type 0} (f : List X → X → List X → Option Y) (front : List X) (x : X) (xs : List X) (given y : Y) → f front x xs ≡ Some y
    → Among (y ∷ each_from f (front ++ x ∷ []) xs) given →
    (Among (each_from f (front ++ x ∷ []) xs) given → Gives (λ b y a. f ((front ++ x ∷ []) ++ b) y a) xs given)
    → Gives (λ b y a. f (front ++ b) y a) (x ∷ xs) given
each_first f front x xs given y e h rest =
    elim h [
      | inl same ↦ record { before = []; element = x; after = xs; stands = refl; gives = rw (append-nil front) (e ∙ ap (λ z. Some z) same) }
      | inr later ↦ each_later f front x xs given (rest later)
    ]

-- each value of a walk is the value of an element
each_holds : {X Y : Type 0} (f : List X → X → List X → Option Y) (front xs : List X) (given : Y) → Among (each_from f front xs) given
    → Gives (λ b y a. f (front ++ b) y a) xs given
each_holds f front [] given h = absurd h
each_holds f front (x ∷ xs) given h =
    elim (cases_Option (f front x xs)) [
      | inl nothing ↦ each_later f front x xs given (each_holds f (front ++ x ∷ []) xs given (rw nothing at h))
      | inr something ↦ each_first f front x xs given something.0 something.1 (rw something.1 at h) (each_holds f (front ++ x ∷ []) xs given)
    ]

-- a member stays one after an option is put at the head
among_option : {Y : Type 0} (o : Option Y) (ys : List Y) (given : Y) → Among ys given → Among (cons_option o ys) given
among_option None ys given h = h
among_option (Some y) ys given h = inr h

-- the value of an element is among those of the walk
each_reaches : {X Y : Type 0} (f : List X → X → List X → Option Y) (front before : List X) (x : X) (after : List X) (given : Y)
    → f (front ++ before) x after ≡ Some given → Among (each_from f front (before ++ x ∷ after)) given
each_reaches f front [] x after given e = rw (rw (append-nil front) at e) (inl refl)
each_reaches f front (w ∷ ws) x after given e =
    among_option (f front w (ws ++ x ∷ after)) (each_from f (front ++ w ∷ []) (ws ++ x ∷ after)) given
    (each_reaches f (front ++ w ∷ []) ws x after given (rw (front_cons front w ws) e))

-- the law of `each_gift`
pub each_where_holds : (X Y : Type 0) → EachWhereHolds X Y
each_where_holds X Y f xs given = (
  λ h. each_holds f [] xs given (among_from_Contains (each_where f xs) given h),
  λ g. Contains-from_among (each_where f xs) given (rw g.stands (each_reaches f [] g.before g.element g.after given g.gives)),
)

-- anything or true is true
or_true : (b : Bool) → (b || true) ≡ true
or_true false = refl
or_true true = refl

-- anything or false is itself
or_nothing : (b : Bool) → (b || false) ≡ b
or_nothing false = refl
or_nothing true = refl

-- `last_such` returns an element exactly if one passes
last_finds : {X : Type 0} (p : X → Bool) (xs : List X) → is_some (last_such p xs) ≡ list_any p xs
last_finds p [] = refl
last_finds p (x ∷ xs) =
    ap is_some (last_such-cons p x xs)
    ∙ is_some-or (last_such p xs) (cond (p x) (Some x) None)
    ∙ elim (cases_Bool (p x)) [
      | inl e ↦ rw (e, last_finds p xs) (or_true (list_any p xs))
      | inr e ↦ rw (e, last_finds p xs) (or_nothing (list_any p xs))
    ]

-- the law of `last_element_found`
pub last_such_finds : (X : Type 0) → LastSuchFinds X
last_such_finds X p xs = last_finds p xs

-- the first element is the last that passes if it passes and no later one does
last_in_front : {X : Type 0} (p : X → Bool) (y : X) (ys : List X) (x : X) → list_any p ys ≡ false → cond (p y) (Some y) None ≡ Some x → PassesLast p (y ∷ ys) x
last_in_front p y ys x none h =
    let here = chosen_passes (λ _ z _. p z) [] y ys x (unfold chosen in h) in
    record { before = []; after = ys; stands = ap (λ z. z ∷ ys) here.1; passes = rw (sym here.1) here.0; none_after = none }

-- what `last_such` returns is the last element that passes
last_holds : {X : Type 0} (p : X → Bool) (xs : List X) (x : X) → last_such p xs ≡ Some x → PassesLast p xs x
last_holds p [] x h = cc
last_holds p (y ∷ ys) x h =
    let whole = sym (last_such-cons p y ys) ∙ h in
    elim (cases_Option (last_such p ys)) [
      | inl nothing ↦ last_in_front p y ys x (sym (last_finds p ys) ∙ ap is_some nothing) (rw nothing at whole)
      | inr something ↦ let same : Some something.0 ≡ Some x = rw something.1 at whole in
          let rest = last_holds p ys x (something.1 ∙ same) in
          record { before = y ∷ rest.before; after = rest.after; stands = ap (λ zs. y ∷ zs) rest.stands; passes = rest.passes; none_after = rest.none_after }
    ]

-- the law of `last_element`
pub last_such_is_last : (X : Type 0) → LastSuchIsLast X
last_such_is_last X p xs x = (
  λ h. last_holds p xs x h,
  λ last. rw last.stands (last_such_here p last.before x last.after last.passes last.none_after),
)
