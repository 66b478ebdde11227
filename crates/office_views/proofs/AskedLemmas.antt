-- What a view shows, by what it asks of a process unit.
use Rattle.std.proofs.Common.{◌≡◌, ◌⊎◌, ℕ, ◌≤◌, Bool, true, false, ◌&&◌, cond, nat_eq, nat_le, Option, Some, None, Result, Ok, Err, IfOk, List}
use Rattle.std.proofs.Common.{refl, sym, ap, ◌∙◌, inl, inr, subst, arith}
use Rattle.std.specs.declared.alloc.AllocError.{AllocError}
use Rattle.std.proofs.lemmas.Bool.{and_parts}
use Rattle.std.proofs.lemmas.Bool.Decides.{nat_tests}
use Rattle.fact_kinds.specs.Facts.{Entry}
use Rattle.ldar_law.specs.declared.reply.Reply.{Reply}
use Rattle.ldar_law.specs.declared.reply.Reply.TheVariants.{NoSuch, Shown as Told}
use Rattle.ldar_law.specs.declared.report.Report.{Report}
use Rattle.ldar_law.specs.declared.request.Request.{Request}
use Rattle.ldar_law.specs.declared.request.Request.TheVariants.{Sync, Due, Tags, Delays, Route, Percent, Report as ReportView}
use Rattle.ldar_law.specs.declared.request.What.{What}
use Rattle.ldar_law.specs.declared.request.What.TheVariants.{Unit as NoUnit, Quarter as NoQuarter, Half as NoHalf, Stops as NoStops}
use Rattle.ldar_law.specs.declared.unit_entry.UnitEntry.{UnitEntry}
use Rattle.ldar_law.specs.Equipment.{unit_entry_of}
use Rattle.ldar_law.specs.Reports.{has_half_begun, has_quarter_begun}
use Rattle.ldar_law.specs.Shown.{of_unit, quarter_text, report_of_unit, view_of}
use Rattle.ldar_law.specs.Texts.{delays_text, due_text, route_text, tags_text}
use Rattle.ldar_law.specs.Units.{delays_of_unit, duties_of_unit, routes_of_unit, tags_of_unit}
use Rattle.office_views.specs.declared.shown.Shown.{Shown}
use Rattle.office_views.specs.Answers.{half_text_of, in_text, report_asked, IsShown, IsText, IsView, Shows}
use Rattle.office_views.specs.Asked.{asked, lacked, unless_lacked, view_unit}
use Rattle.office_views.proofs.AnswerLemmas.{asked_of_none, asked_of_unit, no_unit_shown, unit_shown}

-- ---- what was asked

unless_whole : (e : UnitEntry) (lacks : Option What) (entry : UnitEntry) → unless_lacked e lacks ≡ Ok entry → (e ≡ entry) × (lacks ≡ None)
unless_whole e None entry is = (cc, refl)
unless_whole e (Some what) entry is = absurd cc

unless_none : (e : UnitEntry) (lacks : Option What) (what : What) → unless_lacked e lacks ≡ Err what → lacks ≡ Some what
unless_none e None what is = absurd cc
unless_none e (Some w) what is = let same : w ≡ what = cc in ap (λ x. Some x) same

-- there is all that was asked
pub asked_whole : (request : Request) (known : Option UnitEntry) (entry : UnitEntry) → asked request known ≡ Ok entry
    → (known ≡ Some entry) × (lacked request entry ≡ None)
asked_whole request None entry is = absurd cc
asked_whole request (Some e) entry is =
    let parts = unless_whole e (lacked request e) entry is in
    (ap (λ x. Some x) parts.0, subst (λ x. lacked request x ≡ None) parts.0 parts.1)

-- or there is none of something: of the unit, or of what is asked of it
pub asked_none : (request : Request) (known : Option UnitEntry) (what : What) → asked request known ≡ Err what
    → ((known ≡ None) × (what ≡ NoUnit)) ⊎ ((entry : UnitEntry) × (known ≡ Some entry) × (lacked request entry ≡ Some what))
asked_none request None what is = let same : NoUnit ≡ what = cc in inl (refl, sym same)
asked_none request (Some e) what is = inr (e, refl, unless_none e (lacked request e) what is)

-- ---- what is shown of it

-- what a view shows of a process unit that was entered
abbrev pub unit_reply : Request → List Entry → UnitEntry → Reply
unit_reply (Sync batch) facts entry = NoSuch NoUnit
unit_reply (Due unit day) facts entry = Told (due_text unit day (duties_of_unit entry day facts))
unit_reply (Tags unit day) facts entry = Told (tags_text unit day (tags_of_unit entry day facts))
unit_reply (Delays unit day) facts entry = Told (delays_text unit day (delays_of_unit entry facts))
unit_reply (Route unit day stops) facts entry =
    cond (nat_eq stops 0) (NoSuch NoStops) (Told (route_text unit day stops (routes_of_unit entry day facts stops)))
unit_reply (Percent unit quarter day) facts entry =
    cond (has_quarter_begun entry.startup quarter day) (Told (quarter_text entry quarter day facts)) (NoSuch NoQuarter)
unit_reply (ReportView unit half day) facts entry =
    cond (has_half_begun entry.startup half day) (Told (half_text_of entry half day facts)) (NoSuch NoHalf)

view_is : (request : Request) (facts : List Entry) → IsView request
    → view_of request facts ≡ Some (of_unit (view_unit request) facts (unit_reply request facts))
view_is (Sync batch) facts view = absurd view
view_is (Due unit day) facts view = refl
view_is (Tags unit day) facts view = refl
view_is (Delays unit day) facts view = refl
view_is (Route unit day stops) facts view = refl
view_is (Percent unit quarter day) facts view = refl
view_is (ReportView unit half day) facts view = refl

-- a choice that lacks something
lacks_first : (b : Bool) (none what : What) (told : Reply) → cond b (Some none) None ≡ Some what → cond b (NoSuch none) told ≡ NoSuch what
lacks_first true none what told is = let same : none ≡ what = cc in ap NoSuch same
lacks_first false none what told is = absurd (let never : None ≡ Some what = is in cc)

lacks_second : (b : Bool) (none what : What) (told : Reply) → cond b None (Some none) ≡ Some what → cond b told (NoSuch none) ≡ NoSuch what
lacks_second true none what told is = absurd (let never : None ≡ Some what = is in cc)
lacks_second false none what told is = let same : none ≡ what = cc in ap NoSuch same

never_lacks : (what : What) → None ≡ Some what → ⊥
never_lacks what is = cc

-- what is lacked is what there is none of
lacked_shown : (request : Request) (facts : List Entry) (entry : UnitEntry) (what : What) → IsView request → lacked request entry ≡ Some what
    → unit_reply request facts entry ≡ NoSuch what
lacked_shown (Sync batch) facts entry what view is = absurd view
lacked_shown (Due unit day) facts entry what view is = absurd (never_lacks what is)
lacked_shown (Tags unit day) facts entry what view is = absurd (never_lacks what is)
lacked_shown (Delays unit day) facts entry what view is = absurd (never_lacks what is)
lacked_shown (Route unit day stops) facts entry what view is =
    lacks_first (nat_eq stops 0) NoStops what (Told (route_text unit day stops (routes_of_unit entry day facts stops))) is
lacked_shown (Percent unit quarter day) facts entry what view is =
    lacks_second (has_quarter_begun entry.startup quarter day) NoQuarter what (Told (quarter_text entry quarter day facts)) is
lacked_shown (ReportView unit half day) facts entry what view is =
    lacks_second (has_half_begun entry.startup half day) NoHalf what (Told (half_text_of entry half day facts)) is

-- a choice that lacks nothing
pub not_first : (b : Bool) (none : What) → cond b (Some none) None ≡ None → b ≡ false
not_first true none is = absurd (let never : Some none ≡ None = is in cc)
not_first false none is = refl

pub not_second : (b : Bool) (none : What) → cond b None (Some none) ≡ None → b ≡ true
not_second true none is = refl
not_second false none is = absurd (let never : Some none ≡ None = is in cc)

text_first : (b : Bool) (none : Reply) (text : List ℕ) → b ≡ false → IsText (cond b none (Told text))
text_first b none text is = subst (λ c. IsText (cond c none (Told text))) (sym is) (text, refl)

text_second : (b : Bool) (none : Reply) (text : List ℕ) → b ≡ true → IsText (cond b (Told text) none)
text_second b none text is = subst (λ c. IsText (cond c (Told text) none)) (sym is) (text, refl)

-- where nothing is lacked, a text is shown
pub whole_shown : (request : Request) (facts : List Entry) (entry : UnitEntry) → IsView request → lacked request entry ≡ None
    → IsText (unit_reply request facts entry)
whole_shown (Sync batch) facts entry view is = absurd view
whole_shown (Due unit day) facts entry view is = (due_text unit day (duties_of_unit entry day facts), refl)
whole_shown (Tags unit day) facts entry view is = (tags_text unit day (tags_of_unit entry day facts), refl)
whole_shown (Delays unit day) facts entry view is = (delays_text unit day (delays_of_unit entry facts), refl)
whole_shown (Route unit day stops) facts entry view is =
    text_first (nat_eq stops 0) (NoSuch NoStops) (route_text unit day stops (routes_of_unit entry day facts stops)) (not_first (nat_eq stops 0) NoStops is)
whole_shown (Percent unit quarter day) facts entry view is =
    text_second (has_quarter_begun entry.startup quarter day) (NoSuch NoQuarter) (quarter_text entry quarter day facts)
    (not_second (has_quarter_begun entry.startup quarter day) NoQuarter is)
whole_shown (ReportView unit half day) facts entry view is =
    text_second (has_half_begun entry.startup half day) (NoSuch NoHalf) (half_text_of entry half day facts)
    (not_second (has_half_begun entry.startup half day) NoHalf is)

module _ (request : Request) (facts : List Entry) (view : IsView request) where
  -- what there is none of is shown
  pub none_is_shown : (what : What) → asked request (unit_entry_of (view_unit request) facts) ≡ Err what → view_of request facts ≡ Some (NoSuch what)
  none_is_shown what is =
      let told : of_unit (view_unit request) facts (unit_reply request facts) ≡ NoSuch what =
      elim (asked_none request (unit_entry_of (view_unit request) facts) what is) [
        | inl none ↦ no_unit_shown (view_unit request) facts (unit_reply request facts) none.0 ∙ ap NoSuch (sym none.1)
        | inr some ↦ unit_shown (view_unit request) facts (unit_reply request facts) some.0 some.1 ∙ lacked_shown request facts some.0 what view some.2
      ] in
      view_is request facts view ∙ ap (λ reply. Some reply) told

  -- where there is all that is asked, a text is shown
  pub text_is_shown : (entry : UnitEntry) → asked request (unit_entry_of (view_unit request) facts) ≡ Ok entry
      → (reply : Reply) × (view_of request facts ≡ Some reply) × IsText reply
  text_is_shown entry is =
      let whole = asked_whole request (unit_entry_of (view_unit request) facts) entry is in (
        unit_reply request facts entry,
        view_is request facts view ∙ ap (λ reply. Some reply) (unit_shown (view_unit request) facts (unit_reply request facts) entry whole.0),
        whole_shown request facts entry view whole.1,
      )

  -- what is shown of a process unit that was entered
  pub unit_is_shown : (entry : UnitEntry) (result : Result Shown AllocError) → unit_entry_of (view_unit request) facts ≡ Some entry
      → Shows result (unit_reply request facts entry) → IsShown result (view_of request facts)
  unit_is_shown entry result entered shows = (
    unit_reply request facts entry,
    view_is request facts view ∙ ap (λ reply. Some reply) (unit_shown (view_unit request) facts (unit_reply request facts) entry entered),
    shows,
  )

-- a text is what is shown
pub text_shows : (text : Result (List ℕ) AllocError) (bytes : List ℕ) → IfOk text (λ t. t ≡ bytes) → Shows (in_text text) (Told bytes)
text_shows (Ok text) bytes is = ap Told is
text_shows (Err memory) bytes is = (bytes, refl)

-- a text is shown where it is not lacked
pub shows_first : (result : Result Shown AllocError) (b : Bool) (none : What) (told : Reply) → cond b (Some none) None ≡ None → Shows result told
    → Shows result (cond b (NoSuch none) told)
shows_first result b none told is shows = subst (λ c. Shows result (cond c (NoSuch none) told)) (sym (not_first b none is)) shows

pub shows_second : (result : Result Shown AllocError) (b : Bool) (none : What) (told : Reply) → cond b None (Some none) ≡ None → Shows result told
    → Shows result (cond b told (NoSuch none))
shows_second result b none told is shows = subst (λ c. Shows result (cond c told (NoSuch none))) (sym (not_second b none is)) shows

-- ---- what a view asks, where it is not lacked

pub some_stops : (stops : ℕ) → cond (nat_eq stops 0) (Some NoStops) None ≡ None → 1 ≤ stops
some_stops stops is = let other : nat_eq stops 0 ≡ false = not_first (nat_eq stops 0) NoStops is in grind (arith, nat_tests)

pub quarter_begun : (startup quarter day : ℕ) → cond (has_quarter_begun startup quarter day) None (Some NoQuarter) ≡ None
    → has_quarter_begun startup quarter day ≡ true
quarter_begun startup quarter day is = not_second (has_quarter_begun startup quarter day) NoQuarter is

pub half_begun : (startup half day : ℕ) → cond (has_half_begun startup half day) None (Some NoHalf) ≡ None → has_half_begun startup half day ≡ true
half_begun startup half day is = not_second (has_half_begun startup half day) NoHalf is

pub from_one : (n : ℕ) (b : Bool) → (nat_le 1 n && b) ≡ true → 1 ≤ n
from_one n b both = let low : nat_le 1 n ≡ true = (and_parts (nat_le 1 n) b both).0 in grind (arith, nat_tests)

-- ---- the report of a half

lacks_report : (b : Bool) (what : What) (report : Report) → cond b None (Some NoHalf) ≡ Some what → cond b (Ok report) (Err NoHalf) ≡ Err what
lacks_report true what report is = absurd (never_lacks what is)
lacks_report false what report is = let same : NoHalf ≡ what = cc in ap (λ w. Err w) same

module _ (unit half day : ℕ) (facts : List Entry) where
  -- there is none of something
  pub none_is_told : (what : What) → asked (ReportView unit half day) (unit_entry_of unit facts) ≡ Err what → report_asked unit half day facts ≡ Err what
  none_is_told what is =
      elim (asked_none (ReportView unit half day) (unit_entry_of unit facts) what is) [
        | inl none ↦ asked_of_none unit half day facts none.0 ∙ ap (λ w. Err w) (sym none.1)
        | inr some ↦ asked_of_unit unit half day facts some.0 some.1
            ∙ lacks_report (has_half_begun some.0.startup half day) what (report_of_unit some.0 half day facts) some.2
      ]

  -- there is a report
  pub report_is_told : (entry : UnitEntry) → unit_entry_of unit facts ≡ Some entry → has_half_begun entry.startup half day ≡ true
      → report_asked unit half day facts ≡ Ok (report_of_unit entry half day facts)
  report_is_told entry entered begun =
      asked_of_unit unit half day facts entry entered ∙ ap (λ b. cond b (Ok (report_of_unit entry half day facts)) (Err NoHalf)) begun
