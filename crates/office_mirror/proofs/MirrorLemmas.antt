-- Answers that a mirror took: what was served of them, and stretches of them.
use Rattle.std.proofs.Common.{◌≡◌, ◌⊎◌, inl, inr, ℕ, ◌<◌, ◌≤◌, Option, Some, None, List, [], ◌∷◌, ◌++◌, length, take, drop, replicate, All, IsTrue, Err}
use Rattle.std.proofs.Common.{refl, sym, ap, subst, ◌∙◌, arith, append_assoc, length-append}
use Rattle.std.specs.List.{AllByRecursion}
use Rattle.std.proofs.lemmas.List.{append-nil}
use Rattle.std.proofs.lemmas.Grind.{flat_map-append}
use Rattle.list_words.proofs.Members.{all_append, all_weaker}
use Rattle.disk_model.specs.Told.{Told, BothTold}
use Rattle.fact_kinds.specs.declared.batch.Batch.{Batch}
use Rattle.ldar_journal.specs.Crash.{LeavesOnly}
use Rattle.ldar_journal.specs.Image.{batches_of}
use Rattle.ldar_journal.specs.Shelf.{Shelf}
use Rattle.ldar_law.specs.Machine.{Call, Turn, Moment, Runs}
use Rattle.ldar_ports.specs.Sink.{Piece, Puts, IsStamped, bytes_of, stamps_of}
use Rattle.ldar_ports.proofs.PutsLemmas.{stamps_of-stamped}
use Rattle.ldar_session.specs.Served.{Served, Stamped, Talk, clock_beside, items_of, texts_of, turns_in, turns_of}
use Rattle.ldar_ports.specs.declared.ended.Ended.{Ended as InputEnded}
use Rattle.ldar_ports.specs.declared.ended.Ended.TheVariants.{Done, Stopped, CutShort, Refused, ReadFault, WriteFault, Memory}
use Rattle.ldar_session.proofs.RunLemmas.{runs_have_clocks, run_never_falls}
use Rattle.ldar_session.proofs.StampLemmas.{all_parts, all_replicate, all_take}
use Rattle.ldar_session.proofs.TalkLemmas.{talk_none, talk_more}
use Rattle.office_book.specs.Safe.{Leads, state_of, moment_of}
use Rattle.office_book.specs.SafeLaws.{leads_stays, leads_joins}
use Rattle.fact_kinds.specs.Identity.{identities_differ}
use Rattle.ldar_law.specs.Verdicts.{is_ruly}
use Rattle.office_mirror.specs.declared.answer.Answer.{Answer}
use Rattle.office_mirror.specs.declared.taken.Taken.{Taken}
use Rattle.office_mirror.specs.AnswerGrammar.{SpellsAnswer}
use Rattle.office_mirror.specs.Fronts.{From, HoldsFront, IsMirrorOf}
use Rattle.office_mirror.specs.Taking.{IsTaken, KeepsMirror, MirrorsAs}
use Rattle.office_mirror.specs.declared.ended.MirrorEnded.{MirrorEnded}
use Rattle.office_mirror.specs.declared.ended.MirrorEnded.TheVariants.{Ended, Stranger}
use Rattle.office_mirror.specs.MirrorEnds.{EndsMirror, EndsTurn, NoStrangers}
use Rattle.office_mirror.specs.MirrorRun.{Take, IsOfAnswer, AreTakes, AllFrom, TakesAnswers, bytes_taken, line_of, served_for, served_of}
use Rattle.office_mirror.specs.Reading.{EndsReading}

-- ---- what was served of an answer

pub turns_of-served_for : (bytes line : List ℕ) (turns : List Turn) → turns_of (served_for bytes line turns) ≡ turns
turns_of-served_for bytes line [] = refl
turns_of-served_for bytes line (turn ∷ []) = refl
turns_of-served_for bytes line (turn ∷ other ∷ turns) = ap (λ l. turn ∷ l) (turns_of-served_for bytes line (other ∷ turns))

pub items_of-served_for : (bytes line : List ℕ) (turns : List Turn) → items_of (served_for bytes line turns) ≡ bytes
items_of-served_for bytes line [] = append-nil bytes
items_of-served_for bytes line (turn ∷ []) = append-nil bytes
items_of-served_for bytes line (turn ∷ other ∷ turns) = items_of-served_for bytes line (other ∷ turns)

pub texts_of-served_for : (bytes line : List ℕ) (turns : List Turn) → texts_of (served_for bytes line turns) ≡ line
texts_of-served_for bytes line [] = append-nil line
texts_of-served_for bytes line (turn ∷ []) = append-nil line
texts_of-served_for bytes line (turn ∷ other ∷ turns) = texts_of-served_for bytes line (other ∷ turns)

-- a property of everything is one of each element
pub all_hold : {X : Type 0} (xs : List X) → AllByRecursion (λ _. Unit {0}) xs
all_hold [] = tt
all_hold (x ∷ xs) = (tt, all_hold xs)

-- the line was written at a clock after all turns
stamped_for : (bytes line : List ℕ) (turns : List Turn) (clock : ℕ) (stamps : List ℕ) → AllByRecursion (λ turn. turn.clock ≤ clock) turns
    → AllByRecursion (λ stamp. clock ≤ stamp) stamps → Stamped (served_for bytes line turns) stamps
stamped_for bytes line [] clock stamps early late = (all_hold (take (length line) stamps), tt)
stamped_for bytes line (turn ∷ []) clock stamps early late =
    let first = early.0 in
    let since = all_weaker (λ stamp. clock ≤ stamp) (λ stamp. turn.clock ≤ stamp) (λ stamp le. omega (arith, first, le)) stamps late in
    (all_take (λ stamp. turn.clock ≤ stamp) (length line) stamps since, tt)
stamped_for bytes line (turn ∷ other ∷ turns) clock stamps early late = (tt, stamped_for bytes line (other ∷ turns) clock stamps early.1 late)

-- the turns of a run are not later than its end
pub turns_early : (calls : List Call) (start end : Moment) → Runs start calls end → AllByRecursion (λ turn. turn.clock ≤ end.clock) (turns_in calls)
turns_early [] start end runs = tt
turns_early (call ∷ calls) start end runs =
    let own = runs_have_clocks start end (call ∷ calls) runs in
    let later = run_never_falls call.end end calls runs.1 in
    all_append (λ turn. turn.clock ≤ end.clock) call.turns (turns_in calls)
    (all_weaker (λ turn. turn.clock ≡ call.end.clock) (λ turn. turn.clock ≤ end.clock) (λ turn is. omega (arith, is, later)) call.turns own.0)
    (turns_early calls call.end end runs.1)

-- ---- stretches of answers

-- of two stretches
told_both : (x y : Option (List ℕ)) (P Q R : Type 0) → BothTold x y (λ _ _. Unit {0}) → Told x (λ _. P) → Told y (λ _. Q) → (P → Q → R) → Told x (λ _. R)
told_both None y P Q R tells one two both = tt
told_both (Some x) None P Q R tells one two both = absurd tells
told_both (Some x) (Some y) P Q R tells one two both = both one two

-- answers one after the other
pub takes_join : (history middle last : List Batch) (first second : List Take) → AreTakes history first middle → AreTakes middle second last
    → AreTakes history (first ++ second) last
takes_join history middle last [] second one two = subst (λ (h : List Batch). AreTakes h second last) one two
takes_join history middle last (t ∷ first) second one two = (one.0, takes_join t.history middle last first second one.1 two)

module _ {D : Type 0} (content_of : D → Option (List ℕ)) (left_of : D → ℕ → List ℕ → Type 0) (clock_of name_of faults_of : D → ℕ) where
  abbrev Led : Shelf D → List Call → Shelf D → Type 0
  Led = Leads content_of left_of clock_of name_of faults_of

  abbrev clock_at : Shelf D → ℕ
  clock_at = clock_beside clock_of (λ (office : Shelf D). office.disk)

  -- the calls of an answer, and its line
  pub talk_for : (old new : Shelf D) (calls : List Call) (pieces pieces' : Option (List Piece)) (put : List Piece) (bytes line unsaid : List ℕ)
      → Led old calls new → Puts pieces put pieces' → line ≡ bytes_of put ++ unsaid → All (IsStamped (clock_of new.disk)) put
      → Talk IsOfAnswer Led clock_at old new pieces pieces' (served_for bytes line (turns_in calls)) unsaid
  talk_for old new calls pieces pieces' put bytes line unsaid led puts said stamped =
      let turns = turns_in calls in
      let clock = clock_of new.disk in
      let stamps = stamps_of-stamped clock put stamped in
      let many = length (bytes_of put) in
      record {
        stretch = record {
          calls = calls;
          put = put;
          run = led;
          turns = sym (turns_of-served_for bytes line turns);
          each = all_hold (served_for bytes line turns);
          puts = puts;
          said = texts_of-served_for bytes line turns ∙ said;
          stamped = λ own. stamped_for bytes line turns clock (stamps_of put)
              (turns_early calls (moment_of clock_of faults_of old) (moment_of clock_of faults_of new) led.runs)
              (subst (AllByRecursion (λ stamp. clock ≤ stamp)) (sym stamps) (all_replicate (λ stamp. clock ≤ stamp) many clock (omega arith)));
        };
        within = λ never.
            subst (AllByRecursion (λ stamp. stamp ≤ clock)) (sym stamps) (all_replicate (λ stamp. stamp ≤ clock) many clock (omega arith));
      }

  -- one answer, and its line
  pub takes_one : (old new : Shelf D) (answer : Answer) (calls : List Call) (taken : Taken) (bytes : List ℕ) (pieces pieces' : Option (List Piece))
      (put : List Piece) (unsaid : List ℕ) (disk : D) → SpellsAnswer bytes answer → Led old calls new
      → IsTaken answer (length (batches_of old.frames)) (batches_of new.frames) calls taken
      → ((all : List Batch) → IsTrue (is_ruly all) → IsTrue (identities_differ all) → IsMirrorOf all (state_of old) → From all answer
      → KeepsMirror content_of left_of clock_of all old new × MirrorsAs answer taken)
      → disk ≡ new.disk → Puts pieces put pieces' → line_of taken ≡ bytes_of put ++ unsaid → All (IsStamped (clock_of disk)) put
      → TakesAnswers content_of left_of clock_of name_of faults_of old new pieces pieces'
      (record { bytes = bytes; answer = answer; calls = calls; history = batches_of new.frames; taken = taken } ∷ []) unsaid
  takes_one old new answer calls taken bytes pieces pieces' put unsaid disk spells led told mirrors same puts says stamped =
      let served = served_for bytes (line_of taken) (turns_in calls) in
      record {
        talk = subst (λ (l : List Served). Talk IsOfAnswer Led clock_at old new pieces pieces' l unsaid) (sym (append-nil served))
            (talk_for old new calls pieces pieces' put bytes (line_of taken) unsaid led puts says
            (subst (λ (d : D). All (IsStamped (clock_of d)) put) same stamped));
        taken = (record { spells = spells; told = told }, refl);
        mirrors = λ all ruly differ mirror from. let both = mirrors all ruly differ mirror from.0 in (both.0, (both.1, tt));
      }

  -- a mirror that took nothing is one of what it was
  pub no_answers : (office : Shelf D) (pieces : Option (List Piece))
      → TakesAnswers content_of left_of clock_of name_of faults_of office office pieces pieces [] []
  no_answers office pieces = record {
    talk = talk_none IsOfAnswer Led clock_at (leads_stays content_of left_of clock_of name_of faults_of) office pieces;
    taken = refl;
    mirrors = λ all ruly differ mirror from. (
      record {
        images = told_none (content_of office.disk) (LeavesOnly clock_of left_of office.disk office.disk (HoldsFront all (length (batches_of office.frames))))
            (record { since = λ t image le left. inl left });
        mirror = mirror;
        grows = omega arith;
      },
      tt,
    );
  }
    where
      told_none : (x : Option (List ℕ)) (P : Type 0) → P → Told x (λ _. P)
      told_none None P p = tt
      told_none (Some x) P p = p

  -- a front with at least this number of batches has at least any smaller number
  lower : (all : List Batch) (few many : ℕ) (image : List ℕ) → few ≤ many → HoldsFront all many image → HoldsFront all few image
  lower all few many image le holds =
      let low = holds.low in
      record { count = holds.count; low = omega (arith, le, low); within = holds.within; opens = holds.opens }

  -- what is kept in two stretches is kept in both
  keeps_join : (all : List Batch) (a b c : Shelf D) → clock_of a.disk ≤ clock_of b.disk → BothTold (content_of a.disk) (content_of b.disk) (λ _ _. Unit {0})
      → KeepsMirror content_of left_of clock_of all a b → KeepsMirror content_of left_of clock_of all b c
      → KeepsMirror content_of left_of clock_of all a c
  keeps_join all a b c later tells one two =
      let grows = one.grows in
      let more = two.grows in
      let n = length (batches_of a.frames) in
      let m = length (batches_of b.frames) in
      record {
        images = told_both (content_of a.disk) (content_of b.disk) (LeavesOnly clock_of left_of a.disk b.disk (HoldsFront all n))
            (LeavesOnly clock_of left_of b.disk c.disk (HoldsFront all m)) (LeavesOnly clock_of left_of a.disk c.disk (HoldsFront all n)) tells
            one.images two.images (λ first second. record {
              since = λ t image le left. elim (second.since t image (omega (arith, le, later)) left) [
                | inl before ↦ first.since t image le before
                | inr holds ↦ inr (lower all n m image grows holds)
              ];
            });
        mirror = two.mirror;
        grows = omega (arith, grows, more);
      }

  -- two stretches are one
  pub answers_join : (a b c : Shelf D) (pieces pieces' pieces'' : Option (List Piece)) (first second : List Take) (unsaid : List ℕ)
      → TakesAnswers content_of left_of clock_of name_of faults_of a b pieces pieces' first []
      → TakesAnswers content_of left_of clock_of name_of faults_of b c pieces' pieces'' second unsaid
      → TakesAnswers content_of left_of clock_of name_of faults_of a c pieces pieces'' (first ++ second) unsaid
  answers_join a b c pieces pieces' pieces'' first second unsaid one two =
      let led = one.talk.stretch.run in
      let later = run_never_falls (moment_of clock_of faults_of a) (moment_of clock_of faults_of b) one.talk.stretch.calls led.runs in
      record {
        talk = subst (λ (l : List Served). Talk IsOfAnswer Led clock_at a c pieces pieces'' l unsaid) (sym (flat_map-append _ first second))
            (talk_more IsOfAnswer Led clock_at (leads_joins content_of left_of clock_of name_of faults_of) a b c pieces pieces' pieces''
            (served_of first) (served_of second) unsaid one.talk two.talk);
        taken = takes_join (batches_of a.frames) (batches_of b.frames) (batches_of c.frames) first second one.taken two.taken;
        mirrors = λ all ruly differ mirror from.
            let parts = all_parts _ first second from in
            let sooner = one.mirrors all ruly differ mirror parts.0 in
            let next = two.mirrors all ruly differ sooner.0.mirror parts.1 in
            (keeps_join all a b c later led.tells sooner.0 next.0, all_append _ first second sooner.1 next.1);
      }

-- ---- bytes

-- the bytes of the answers are those of what was served
pub items_of-served_of : (takes : List Take) → items_of (served_of takes) ≡ bytes_taken takes
items_of-served_of [] = refl
items_of-served_of (t ∷ takes) =
    let line = line_of t.taken in
    let served = served_for t.bytes line (turns_in t.calls) in
    flat_map-append (λ (s : Served). s.item) served (served_of takes)
    ∙ ap (λ l. l ++ items_of (served_of takes)) (items_of-served_for t.bytes line (turns_in t.calls)) ∙ ap (λ l. t.bytes ++ l) (items_of-served_of takes)

-- .. of one more
pub bytes_more : (takes : List Take) (t : Take) → bytes_taken (takes ++ t ∷ []) ≡ bytes_taken takes ++ t.bytes
bytes_more takes t = flat_map-append (λ (t : Take). t.bytes) takes (t ∷ []) ∙ ap (λ l. bytes_taken takes ++ l) (append-nil t.bytes)

pub items_more : (takes : List Take) (t : Take) → items_of (served_of (takes ++ t ∷ [])) ≡ items_of (served_of takes) ++ t.bytes
items_more takes t = items_of-served_of (takes ++ t ∷ []) ∙ bytes_more takes t ∙ ap (λ l. l ++ t.bytes) (sym (items_of-served_of takes))

-- an answer at the front of the bytes in hand comes after those that were taken
pub items_on : (takes : List Take) (t : Take) (bytes item rest : List ℕ) → bytes ≡ item ++ rest → t.bytes ≡ item
    → items_of (served_of takes) ++ bytes ≡ items_of (served_of (takes ++ t ∷ [])) ++ rest
items_on takes t bytes item rest are same =
    let items = items_of (served_of takes) in
    ap (λ l. items ++ l) are ∙ sym (append_assoc items item rest) ∙ ap (λ l. (items ++ l) ++ rest) (sym same)
    ∙ ap (λ l. l ++ rest) (sym (items_more takes t))

-- ---- ends

-- the input has no further answer
pub reading_ends : (ended : InputEnded) (takes : List Take) (before : ℕ) (rest : List ℕ) (left : Option (List ℕ)) → NoStrangers takes
    → length takes < 1_000_000 → length (bytes_taken takes) ≡ before → EndsReading ended before rest left → EndsMirror (Ended ended) takes rest left []
reading_ends Done takes before rest left own fewer long ends = record { said = refl; own = own; fewer = fewer; input = ends }
reading_ends Stopped takes before rest left own fewer long ends = absurd ends
reading_ends (CutShort got) takes before rest left own fewer long ends = record { said = refl; own = own; fewer = fewer; input = ends }
reading_ends (Refused at) takes before rest left own fewer long ends =
    record { said = refl; own = own; fewer = fewer; input = subst (λ n. EndsReading (Refused at) n rest left) (sym long) ends }
reading_ends ReadFault takes before rest left own fewer long ends = record { said = refl; own = own; fewer = fewer; input = ends }
reading_ends WriteFault takes before rest left own fewer long ends = absurd ends
reading_ends Memory takes before rest left own fewer long ends = record { said = refl; own = own; fewer = fewer; input = ends }

-- the line of the last answer is not written in full
pub turn_ends : (ended : MirrorEnded) (t : Take) (unsaid : List ℕ) (takes : List Take) (rest : List ℕ) (left : Option (List ℕ)) → NoStrangers takes
    → length takes < 1_000_000 → EndsTurn (Err ended) t unsaid → EndsMirror ended (takes ++ t ∷ []) rest left unsaid
turn_ends (Ended Done) t unsaid takes rest left own fewer ends = absurd ends
turn_ends (Ended Stopped) t unsaid takes rest left own fewer ends = absurd ends
turn_ends (Ended (CutShort got)) t unsaid takes rest left own fewer ends = absurd ends
turn_ends (Ended (Refused at)) t unsaid takes rest left own fewer ends = absurd ends
turn_ends (Ended ReadFault) t unsaid takes rest left own fewer ends = absurd ends
turn_ends (Ended WriteFault) t unsaid takes rest left own fewer ends = record {
  before = takes;
  last = t;
  are = refl;
  own = all_append _ takes (t ∷ []) own (ends.0, tt);
  most = omega (arith, length-append takes (t ∷ []), fewer);
  lacks = ends.1;
}
turn_ends (Ended Memory) t unsaid takes rest left own fewer ends = absurd ends
turn_ends (Stranger index) t unsaid takes rest left own fewer ends = record {
  before = takes;
  last = t;
  are = refl;
  said = ends.0;
  own = own;
  most = omega (arith, length-append takes (t ∷ []), fewer);
  reply = ends.1;
  told = ends.2;
}
