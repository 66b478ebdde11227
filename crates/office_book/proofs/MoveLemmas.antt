-- Consecutive parts of a call, and the call that they make up.
use Rattle.std.proofs.Common.{◌≡◌, ◌≢◌, ◌⊎◌, inl, inr, ℕ, ◌+◌, ◌≤◌, Bool, false, Option, Some, None, List, [], ◌∷◌, ◌++◌, length, refl}
use Rattle.std.proofs.Common.{sym, ◌∙◌, ap, subst, arith}
use Rattle.std.specs.List.{AllByRecursion}
use Rattle.std.proofs.lemmas.List.{append-nil}
use Rattle.disk_model.specs.Faults.{Rose}
use Rattle.disk_model.specs.Keeps.{Keeps}
use Rattle.disk_model.specs.Told.{Told, BothTold}
use Rattle.fact_kinds.specs.declared.batch.Batch.{Batch}
use Rattle.ldar_journal.specs.Crash.{LeavesOnly, OnDisk}
use Rattle.ldar_journal.specs.Image.{batches_of, Opens}
use Rattle.ldar_journal.specs.Shelf.{Shelf, OpensToEither, OpensAs, OpensEither}
use Rattle.ldar_journal.proofs.CrashLemmas.{LeavesOnly-stays, LeavesOnly-weaker, LeavesOnly-joins, OnDisk-weaker}
use Rattle.ldar_journal.proofs.Histories.{batches_of-push}
use Rattle.ldar_law.specs.declared.reply.Reply.{Reply}
use Rattle.ldar_law.specs.declared.reply.Reply.TheVariants.{Fault}
use Rattle.ldar_law.specs.declared.request.Request.{Request}
use Rattle.ldar_law.specs.Machine.{State, Moment, Call, Turn, Finding, not_asked, they_stand, they_are_gone, Steps, IsOfCall, settled}
use Rattle.office_interface.specs.Asking.{requests_of, replies_of}
use Rattle.office_book.specs.Safe.{StandsIn, IsSafe, Leads, state_of, moment_of, frames_written}
use Rattle.office_book.specs.Moves.{Moves}
use Rattle.office_book.specs.Serving.{Serves, IsFound, turns_of, certain, has_some}
use Rattle.office_book.proofs.ServingLemmas.{serves_steps, faults_steps, of_call, requests_asked, replies_given}

-- ---- exposed values

told_map : {T : Type 0} (P Q : Type 0) → (P → Q) → (x : Option T) → Told x (λ _. P) → Told x (λ _. Q)
told_map P Q f None told = tt
told_map P Q f (Some now) told = f told

-- a statement under the condition that bytes are exposed, from a later value to an earlier one
told_back : {T : Type 0} (P : Type 0) (x y : Option T) → BothTold x y (λ _ _. Unit {0}) → Told y (λ _. P) → Told x (λ _. P)
told_back P None y both told = tt
told_back P (Some now) None both told = absurd both
told_back P (Some now) (Some later) both told = told

-- both values are exposed, whatever else holds of them
pub both_tell : {T : Type 0} (P : T → T → Type 0) (x y : Option T) → BothTold x y P → BothTold x y (λ _ _. Unit {0})
both_tell P None None both = tt
both_tell P None (Some new) both = absurd both
both_tell P (Some old) None both = absurd both
both_tell P (Some old) (Some new) both = tt

both_itself : {T : Type 0} (x : Option T) → BothTold x x (λ _ _. Unit {0})
both_itself None = tt
both_itself (Some now) = tt

both_join : {T : Type 0} (x y z : Option T) → BothTold x y (λ _ _. Unit {0}) → BothTold y z (λ _ _. Unit {0}) → BothTold x z (λ _ _. Unit {0})
both_join None None z one two = two
both_join None (Some now) z one two = absurd one
both_join (Some now) None z one two = absurd one
both_join (Some now) (Some later) None one two = absurd two
both_join (Some now) (Some later) (Some last) one two = tt

-- ---- images of a journal, by its history

-- frames that bytes open to are a history
pub stands_either : (image : List ℕ) (frames : List (List Batch)) (doubt : List Batch) → OpensToEither image frames doubt
    → OpensEither image (batches_of frames) doubt
stands_either image frames doubt opens = elim opens [
  | inl before ↦ inl (frames, refl, before)
  | inr after ↦ inr (frames ++ doubt ∷ [], batches_of-push frames doubt, after)
]

-- an image of a journal opens to its history, with or without the batches in doubt
pub stands_as : (image : List ℕ) (frames : List (List Batch)) (doubt : List Batch) → OpensAs image frames doubt → OpensEither image (batches_of frames) doubt
stands_as image frames [] opens = inl (frames, refl, opens)
stands_as image frames (batch ∷ doubt) opens = stands_either image frames (batch ∷ doubt) opens

-- an image in a settled state was in the state before
pub stands_settled : (found : Finding) (state : State) (image : List ℕ) → StandsIn (settled found state) image → StandsIn state image
stands_settled not_asked state image stands = stands
stands_settled they_stand state image stands = elim stands [
  | inl whole ↦ inr whole
  | inr more ↦ inr (subst (λ (l : List Batch). Opens image l) (append-nil (state.history ++ state.doubt)) more)
]
stands_settled they_are_gone state image stands = elim stands [
  | inl before ↦ inl before
  | inr more ↦ inl (subst (λ (l : List Batch). Opens image l) (append-nil state.history) more)
]

-- a count that rose since a later moment rose since an earlier one
earlier_rise : (old middle new : ℕ) → old ≤ middle → Rose middle new → Rose old new
earlier_rise old middle new le (inl rose) = inl (omega arith)
earlier_rise old middle new le (inr full) = inr full

-- there are at most as many turns as requests
turns_within : (found : Finding) (doubt : Bool) (before : ℕ) (end : Moment) (requests : List Request) (replies : List Reply)
    → length (turns_of found doubt before end requests replies) ≤ length requests
turns_within found doubt before end [] replies = omega arith
turns_within found doubt before end (request ∷ requests) [] = omega arith
turns_within found doubt before end (request ∷ requests) (reply ∷ replies) =
    let rest = turns_within not_asked doubt before end requests replies in omega arith

-- there are at most 16 turns
few_turns : (found : Finding) (doubt : Bool) (before : ℕ) (end : Moment) (requests : List Request) (replies : List Reply)
    → length requests ≤ 16 → length (turns_of found doubt before end requests replies) ≤ 16
few_turns found doubt before end requests replies few =
    let within = turns_within found doubt before end requests replies in omega arith

module _ {D : Type 0} (content_of : D → Option (List ℕ)) (images_of : D → List ℕ → Type 0) (left_of : D → ℕ → List ℕ → Type 0)
    (clock_of name_of faults_of : D → ℕ) where
  -- nothing was done
  pub moves_stays : (shelf : Shelf D) → OnDisk (content_of shelf.disk) (images_of shelf.disk) (StandsIn (state_of shelf))
      → Moves content_of images_of left_of clock_of name_of faults_of shelf shelf 0
  moves_stays shelf stands = record {
    keeps = record { time = omega arith; name = refl; count = omega arith };
    tells = both_itself (content_of shelf.disk);
    frames = omega arith;
    leaves = LeavesOnly-stays clock_of left_of shelf.disk _;
    stands = stands;
  }

  -- nothing was done, although a frame might have been written
  pub moves_nothing : (shelf : Shelf D) → OnDisk (content_of shelf.disk) (images_of shelf.disk) (StandsIn (state_of shelf))
      → Moves content_of images_of left_of clock_of name_of faults_of shelf shelf 1
  moves_nothing shelf stands = record {
    keeps = record { time = omega arith; name = refl; count = omega arith };
    tells = both_itself (content_of shelf.disk);
    frames = omega arith;
    leaves = LeavesOnly-stays clock_of left_of shelf.disk _;
    stands = stands;
  }

  -- the effect of a call of a journal, from the images that are possible in between
  pub moves_by : (old new : Shelf D) (written : ℕ) (may : List ℕ → Type 0) (both : List ℕ → List ℕ → Type 0)
      → ((image : List ℕ) → may image → StandsIn (state_of old) image ⊎ StandsIn (state_of new) image)
      → Keeps clock_of name_of faults_of old.disk new.disk → BothTold (content_of old.disk) (content_of new.disk) both
      → frames_written new ≤ frames_written old + written
      → LeavesOnly clock_of left_of old.disk new.disk (λ image. Told (content_of old.disk) (λ _. may image))
      → OnDisk (content_of new.disk) (images_of new.disk) (λ image. OpensAs image new.frames new.doubt)
      → Moves content_of images_of left_of clock_of name_of faults_of old new written
  moves_by old new written may both stand keeps tells frames leaves opens = record {
    keeps = keeps;
    tells = both_tell both (content_of old.disk) (content_of new.disk) tells;
    frames = frames;
    leaves = LeavesOnly-weaker clock_of left_of old.disk new.disk _ _ (λ image told. told_map _ _ (stand image) (content_of old.disk) told) leaves;
    stands = OnDisk-weaker _ _ (λ image. stands_as image new.frames new.doubt) (content_of new.disk) (images_of new.disk) opens;
  }

  -- a settling, and the part after it
  pub moves_join : (old middle new : Shelf D) (written : ℕ) → ((image : List ℕ) → StandsIn (state_of middle) image → StandsIn (state_of old) image)
      → Moves content_of images_of left_of clock_of name_of faults_of old middle 0
      → Moves content_of images_of left_of clock_of name_of faults_of middle new written
      → Moves content_of images_of left_of clock_of name_of faults_of old new written
  moves_join old middle new written back one two =
      let early = one.keeps.time in
      let late = two.keeps.time in
      let first = one.keeps.count in
      let second = two.keeps.count in
      let few = one.frames in
      let more = two.frames in
      record {
        keeps = record { time = omega arith; name = two.keeps.name ∙ one.keeps.name; count = omega arith };
        tells = both_join (content_of old.disk) (content_of middle.disk) (content_of new.disk) one.tells two.tells;
        frames = omega arith;
        leaves = LeavesOnly-joins clock_of left_of old.disk middle.disk new.disk _ early
            (LeavesOnly-weaker clock_of left_of old.disk middle.disk _ _
            (λ image told. told_map (StandsIn (state_of old) image ⊎ StandsIn (state_of middle) image)
            (StandsIn (state_of old) image ⊎ StandsIn (state_of new) image)
            (λ either. elim either [ inl before ↦ inl before | inr between ↦ inl (back image between) ]) (content_of old.disk) told) one.leaves)
            (LeavesOnly-weaker clock_of left_of middle.disk new.disk _ _
            (λ image told. told_map (StandsIn (state_of middle) image ⊎ StandsIn (state_of new) image)
            (StandsIn (state_of old) image ⊎ StandsIn (state_of new) image)
            (λ either. elim either [ inl between ↦ inl (back image between) | inr after ↦ inr after ]) (content_of old.disk)
            (told_back _ (content_of old.disk) (content_of middle.disk) one.tells told)) two.leaves);
        stands = two.stands;
      }

  module _ (only_now : (d : D) (image : List ℕ) → left_of d (clock_of d) image → images_of d image) where
    -- one call is safe
    safe_call : (x y : Option (List ℕ)) (old new : Shelf D) (turns : List Turn) → BothTold x y (λ _ _. Unit {0})
        → LeavesOnly clock_of left_of old.disk new.disk (λ image. Told x (λ _. StandsIn (state_of old) image ⊎ StandsIn (state_of new) image))
        → OnDisk y (images_of new.disk) (StandsIn (state_of new))
        → Told x (λ _. IsSafe clock_of left_of old (record { turns = turns; end = moment_of clock_of faults_of new } ∷ []) new)
    safe_call None y old new turns both leaves stands = tt
    safe_call (Some before) None old new turns both leaves stands = absurd both
    safe_call (Some before) (Some after) old new turns both leaves stands = record {
      since = leaves;
      behind = (λ image now. stands.1 image (only_now new.disk image now), tt);
    }

    -- the turns of one call lead from the value before to the value after
    leads_call : (old new : Shelf D) (turns : List Turn) → turns ≢ [] → length turns ≤ 16 → Steps (state_of old) turns (state_of new)
        → AllByRecursion (IsOfCall (faults_of old.disk) (moment_of clock_of faults_of new)) turns
        → Moves content_of images_of left_of clock_of name_of faults_of old new 1
        → Leads content_of left_of clock_of name_of faults_of old (record { turns = turns; end = moment_of clock_of faults_of new } ∷ []) new
    leads_call old new turns some few steps each moves = record {
      runs = (
        record {
          some = some;
          fits = few;
          steps = steps;
          before = faults_of old.disk;
          count = (omega arith, moves.keeps.count);
          time = moves.keeps.time;
          call = each;
        },
        (refl, omega arith, omega arith),
      );
      name = moves.keeps.name;
      tells = moves.tells;
      frames = moves.frames;
      safe = safe_call (content_of old.disk) (content_of new.disk) old new turns moves.tells moves.leaves moves.stands;
    }

    -- what a call of an office ensures: these requests were sent in one call, and these are the replies
    abbrev pub IsCall : Shelf D → List Request → List Reply → Shelf D → Type 0
    IsCall old requests replies new =
        (call : Call) × Leads content_of left_of clock_of name_of faults_of old (call ∷ []) new × (requests_of call ≡ requests) × (replies_of call ≡ replies)
        × (call.end.clock ≤ clock_of new.disk)

    -- a call that settled, if needed, and then answered
    pub serves_call : (faulty : Type 0) (old middle new : Shelf D) (found : Finding) (request : Request) (requests : List Request) (reply : Reply)
        (replies : List Reply)
        → IsFound found (state_of old) (state_of middle)
        → Moves content_of images_of left_of clock_of name_of faults_of old middle 0
        → Moves content_of images_of left_of clock_of name_of faults_of middle new 1
        → (faulty → Rose (faults_of middle.disk) (faults_of new.disk))
        → Serves faulty (batches_of middle.frames) (request ∷ requests) (reply ∷ replies) (state_of new)
        → length replies ≡ length requests → length (request ∷ requests) ≤ 16
        → IsCall old (request ∷ requests) (reply ∷ replies) new
    serves_call faulty old middle new found request requests reply replies is_found one two rises serves each few =
        let end = moment_of clock_of faults_of new in
        let doubt = has_some (state_of new).doubt in
        let before = faults_of old.disk in
        let turns = turns_of found doubt before end (request ∷ requests) (reply ∷ replies) in
        let is : settled found (state_of old) ≡ certain (batches_of middle.frames) =
        sym is_found.is ∙ ap (λ (d : List Batch). record { history = batches_of middle.frames; doubt = d }) is_found.certain in
        let back = λ (image : List ℕ) (stands : StandsIn (state_of middle) image).
        stands_settled found (state_of old) image (subst (λ (s : State). StandsIn s image) is_found.is stands) in
        let early = one.keeps.count in
        let rises_whole = λ (why : faulty). earlier_rise (faults_of old.disk) (faults_of middle.disk) (faults_of new.disk) early (rises why) in (
          record { turns = turns; end = end },
          leads_call old new turns (λ none. cc)
              (few_turns found doubt before end (request ∷ requests) (reply ∷ replies) few)
              (serves_steps faulty before end rises_whole found (state_of old) (batches_of middle.frames) request requests reply replies is_found.can is serves)
              (of_call found doubt before end (request ∷ requests) (reply ∷ replies))
              (moves_join old middle new 1 back one two),
          requests_asked found doubt before end (request ∷ requests) (reply ∷ replies) (omega arith),
          replies_given found doubt before end (request ∷ requests) (reply ∷ replies) (omega arith),
          omega arith,
        )

    -- a call whose settling failed
    pub faults_call : (old new : Shelf D) (request : Request) (requests : List Request) (replies : List Reply)
        → Moves content_of images_of left_of clock_of name_of faults_of old new 0 → Rose (faults_of old.disk) (faults_of new.disk)
        → old.doubt ≢ [] → state_of new ≡ state_of old → AllByRecursion (λ (reply : Reply). reply ≡ Fault) replies
        → length replies ≡ length requests → length (request ∷ requests) ≤ 16
        → IsCall old (request ∷ requests) (Fault ∷ replies) new
    faults_call old new request requests replies moves rose doubt stays faults each few =
        let end = moment_of clock_of faults_of new in
        let before = faults_of old.disk in
        let turns = turns_of not_asked false before end (request ∷ requests) (Fault ∷ replies) in
        let frames = moves.frames in (
          record { turns = turns; end = end },
          leads_call old new turns (λ none. cc)
              (few_turns not_asked false before end (request ∷ requests) (Fault ∷ replies) few)
              (faults_steps before end (state_of old) request requests replies rose doubt stays faults)
              (of_call not_asked false before end (request ∷ requests) (Fault ∷ replies))
              (record { keeps = moves.keeps; tells = moves.tells; frames = omega arith; leaves = moves.leaves; stands = moves.stands }),
          requests_asked not_asked false before end (request ∷ requests) (Fault ∷ replies) (omega arith),
          replies_given not_asked false before end (request ∷ requests) (Fault ∷ replies) (omega arith),
          omega arith,
        )
