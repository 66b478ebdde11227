-- Runs of calls can be joined: no calls are a run, and two consecutive runs are one.
use Rattle.std.specs.Prelude.{◌≡◌, ℕ, ◌≤◌, ◌⊎◌, Option, Some, None, List, [], ◌∷◌, ◌++◌}
use Rattle.std.proofs.Common.{inl, inr, refl, ◌∙◌, subst, arith, length-append}
use Rattle.disk_model.specs.Told.{Told, BothTold}
use Rattle.ldar_journal.specs.Shelf.{Shelf}
use Rattle.ldar_law.specs.Machine.{State, Moment, Call, Turn, Steps, GroupStep, Runs}
use Rattle.office_book.specs.Safe.{StandsInRun, AreBehind, IsSafe, Leads, state_of, moment_of}

-- ---- runs of the machine

-- a group may begin earlier, in the same state
group_earlier : (start later : Moment) (turns : List Turn) (end : Moment) → later.state ≡ start.state → start.faults ≤ later.faults → start.clock ≤ later.clock
    → GroupStep later turns end → GroupStep start turns end
group_earlier start later turns end same faults clock step =
    let time = step.time in
    let first = step.count.0 in
    record {
      some = step.some;
      fits = step.fits;
      steps = subst (λ (state : State). Steps state turns end.state) same step.steps;
      before = step.before;
      count = (omega arith, step.count.1);
      time = omega arith;
      call = step.call;
    }

-- two consecutive runs are one
runs_join : (a b c : Moment) (first second : List Call) → Runs a first b → Runs b second c → Runs a (first ++ second) c
runs_join a b c [] [] one two =
    let early = one.1 in
    let late = two.1 in
    let sooner = one.2 in
    let later = two.2 in
    (two.0 ∙ one.0, omega arith, omega arith)
runs_join a b c [] (call ∷ second) one two = (group_earlier a b call.turns call.end one.0 one.1 one.2 two.0, two.1)
runs_join a b c (call ∷ first) second one two = (one.0, runs_join call.end b c first second one.1 two)

-- the clock does not fall in a run
runs_time : (start end : Moment) (calls : List Call) → Runs start calls end → start.clock ≤ end.clock
runs_time start end [] run = run.2
runs_time start end (call ∷ calls) run =
    let step = run.0.time in
    let rest = runs_time call.end end calls run.1 in
    omega arith

-- ---- what a crash leaves of two runs

-- an image in a state of a run is in a state of a longer run
stands_before : (state : State) (first second : List Call) (image : List ℕ) → StandsInRun state first image → StandsInRun state (first ++ second) image
stands_before state [] [] image stands = stands
stands_before state [] (call ∷ second) image stands = inl stands
stands_before state (call ∷ first) second image stands =
    elim stands [ inl here ↦ inl here | inr later ↦ inr (stands_before call.end.state first second image later) ]

-- an image in a state of a run is in a state of a run that began earlier
stands_after : (start end : Moment) (first second : List Call) (image : List ℕ) → Runs start first end
    → StandsInRun end.state second image → StandsInRun start.state (first ++ second) image
stands_after start end [] second image run stands = subst (λ (state : State). StandsInRun state second image) run.0 stands
stands_after start end (call ∷ first) second image run stands = inr (stands_after call.end end first second image run.1 stands)

-- images after each call of a run are still in its states when another run follows
behind_more : (left left' : ℕ → List ℕ → Type 0) (start middle : Moment) (first second : List Call) → Runs start first middle
    → ((t : ℕ) (image : List ℕ) → t ≤ middle.clock → left' t image → left t image ⊎ StandsInRun middle.state second image)
    → AreBehind left first → AreBehind left' second → AreBehind left' (first ++ second)
behind_more left left' start middle [] second run since one two = two
behind_more left left' start middle (call ∷ first) second run since one two = (
  λ image late. elim (since call.end.clock image (runs_time call.end middle first run.1) late) [
    | inl before ↦ stands_before call.end.state first second image (one.0 image before)
    | inr stands ↦ stands_after call.end middle first second image run.1 stands
  ],
  behind_more left left' call.end middle first second run.1 since one.1 two,
)

module _ {D : Type 0} (left_of : D → ℕ → List ℕ → Type 0) (clock_of faults_of : D → ℕ) where
  -- two safe runs are one safe run
  safe_joins : (a b c : Shelf D) (first second : List Call) → Runs (moment_of clock_of faults_of a) first (moment_of clock_of faults_of b)
      → IsSafe clock_of left_of a first b → IsSafe clock_of left_of b second c → IsSafe clock_of left_of a (first ++ second) c
  safe_joins a b c first second run one two = record {
    since = record {
      since = λ t image le left.
          let time = runs_time (moment_of clock_of faults_of a) (moment_of clock_of faults_of b) first run in
          elim (two.since.since t image (omega arith) left) [
            | inl before ↦ elim (one.since.since t image le before) [
              | inl earlier ↦ inl earlier
              | inr stands ↦ inr (stands_before (state_of a) first second image stands)
            ]
            | inr stands ↦ inr (stands_after (moment_of clock_of faults_of a) (moment_of clock_of faults_of b) first second image run stands)
          ];
    };
    behind =
        behind_more (left_of b.disk) (left_of c.disk) (moment_of clock_of faults_of a) (moment_of clock_of faults_of b) first second run two.since.since
        one.behind two.behind;
  }

-- ---- exposed values

-- a statement that holds anyway holds for an exposed value
told_all : {T P : Type 0} (x : Option T) → P → Told x (λ _. P)
told_all None p = tt
told_all (Some now) p = p

-- a value is exposed before and after if nothing changes
both_told_itself : {T : Type 0} (x : Option T) → BothTold x x (λ _ _. Unit {0})
both_told_itself None = tt
both_told_itself (Some now) = tt

-- whether a value is exposed does not change over two steps
both_told_join : {T : Type 0} (x y z : Option T) → BothTold x y (λ _ _. Unit {0}) → BothTold y z (λ _ _. Unit {0}) → BothTold x z (λ _ _. Unit {0})
both_told_join None None z one two = two
both_told_join None (Some now) z one two = absurd one
both_told_join (Some now) None z one two = absurd one
both_told_join (Some now) (Some later) z one two = elim z as (λ z. BothTold (Some later) z (λ _ _. Unit {0}) → BothTold (Some now) z (λ _ _. Unit {0})) [
  | None ↦ λ never. absurd never
  | Some last ↦ λ both. tt
] two

-- a statement for an exposed value that follows from one before and one after
told_join : {T : Type 0} (P Q R : Type 0) → (P → Q → R) → (x y : Option T) → BothTold x y (λ _ _. Unit {0})
    → Told x (λ _. P) → Told y (λ _. Q) → Told x (λ _. R)
told_join P Q R joins None y both p q = tt
told_join P Q R joins (Some now) None both p q = absurd both
told_join P Q R joins (Some now) (Some later) both p q = joins p q

-- ---- stretches of calls

module _ {D : Type 0} (content_of : D → Option (List ℕ)) (left_of : D → ℕ → List ℕ → Type 0) (clock_of name_of faults_of : D → ℕ) where
  -- no calls lead from an office to itself
  pub leads_stays : (office : Shelf D) → Leads content_of left_of clock_of name_of faults_of office [] office
  leads_stays office = record {
    runs = (refl, omega arith, omega arith);
    name = refl;
    tells = both_told_itself (content_of office.disk);
    frames = omega arith;
    safe = told_all (content_of office.disk) (record { since = record { since = λ t image le left. inl left }; behind = tt });
  }

  -- two consecutive runs of calls are one
  pub leads_joins : (a b c : Shelf D) (first second : List Call) → Leads content_of left_of clock_of name_of faults_of a first b
      → Leads content_of left_of clock_of name_of faults_of b second c → Leads content_of left_of clock_of name_of faults_of a (first ++ second) c
  leads_joins a b c first second one two =
      let few = one.frames in
      let more = two.frames in
      let long = length-append first second in
      record {
        runs = runs_join (moment_of clock_of faults_of a) (moment_of clock_of faults_of b) (moment_of clock_of faults_of c) first second one.runs two.runs;
        name = two.name ∙ one.name;
        tells = both_told_join (content_of a.disk) (content_of b.disk) (content_of c.disk) one.tells two.tells;
        frames = omega arith;
        safe = told_join _ _ _ (safe_joins left_of clock_of faults_of a b c first second one.runs)
            (content_of a.disk) (content_of b.disk) one.tells one.safe two.safe;
      }
