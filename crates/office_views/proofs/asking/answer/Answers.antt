use Rattle.std.proofs.Common.{◌≡◌, ℕ, ◌≤◌, None, true, sym, subst}
use Rattle.history_laws.specs.DayLaws.{up_to}
use Rattle.ldar_law.specs.declared.reply.Reply.TheVariants as replies
use Rattle.ldar_law.specs.declared.request.Request.{Request}
use Rattle.ldar_law.specs.declared.request.What.TheVariants.{Quarter as NoQuarter, Half as NoHalf, Stops as NoStops}
use Rattle.ldar_law.specs.Reports.{half_month, has_half_begun, has_quarter_begun}
use Rattle.ldar_law.specs.Shown.{view_day}
use Rattle.ldar_law.specs.Shown as law
use Rattle.ldar_law.specs.Texts.{delays_text, due_text, route_text, tags_text}
use Rattle.ldar_law.specs.Units.{components_of, delays_of_unit, duties_of_unit, routes_of_unit, tags_of_unit, tallies_to}
use Rattle.office_views.specs.Answers.{half_text_of, in_text, Shows}
use Rattle.office_views.specs.Asked.{AreTalliesDue, AreTalliesOf, lacked, IsInCalendar}
use Rattle.office_views.proofs.AskedLemmas.{from_one, half_begun, quarter_begun, shows_first, shows_second, some_stops}
use Rattle.office_views.specs.Sources.{facts_from}
use Rattle.office_views.proofs.AskedLemmas.{text_shows, unit_is_shown, unit_reply}
use Rattle.office_views.proofs.asking.answer.Goals as goal

pub route_on-requires-clause-stops : goal.route_on-requires-clause-stops
route_on-requires-clause-stops c =
    some_stops c.in-Route.stops (subst (λ r. lacked r c.args.entry.now ≡ None) c.in-Route.is c.requires.whole.nothing_lacked)

pub quarter_text-requires-clause-quarter : goal.quarter_text-requires-clause-quarter
quarter_text-requires-clause-quarter c =
    let entry = c.args.entry.now in
    from_one c.in-Percent.quarter _
    (subst (λ r. lacked r entry ≡ None → has_quarter_begun entry.startup c.in-Percent.quarter (view_day r) ≡ true) (sym c.in-Percent.is)
    (quarter_begun entry.startup c.in-Percent.quarter _) c.requires.whole.nothing_lacked)

pub due_on-requires-clause-tallies : goal.due_on-requires-clause-tallies
due_on-requires-clause-tallies c =
    let entry = c.args.entry.now in
    let facts = facts_from c.args.source.now in
    let tallies = c.args.tallies.now in
    subst (λ day. AreTalliesDue entry day (up_to day facts) tallies) (sym (subst (λ r. c.args.source.now.day ≡ view_day r) c.in-Due.is c.requires.day))
    (subst (λ r. AreTalliesOf r entry (up_to (view_day r) facts) tallies) c.in-Due.is c.requires.tallies)

pub route_on-requires-clause-tallies : goal.route_on-requires-clause-tallies
route_on-requires-clause-tallies c =
    let entry = c.args.entry.now in
    let facts = facts_from c.args.source.now in
    let tallies = c.args.tallies.now in
    subst (λ day. AreTalliesDue entry day (up_to day facts) tallies) (sym (subst (λ r. c.args.source.now.day ≡ view_day r) c.in-Route.is c.requires.day))
    (subst (λ r. AreTalliesOf r entry (up_to (view_day r) facts) tallies) c.in-Route.is c.requires.tallies)

pub quarter_text-requires-clause-tallies : goal.quarter_text-requires-clause-tallies
quarter_text-requires-clause-tallies c =
    let entry = c.args.entry.now in
    let facts = facts_from c.args.source.now in
    let tallies = c.args.tallies.now in
    subst (λ day. tallies ≡ tallies_to entry.startup day (components_of entry.unit (up_to day facts)) c.in-Percent.quarter)
    (sym (subst (λ r. c.args.source.now.day ≡ view_day r) c.in-Percent.is c.requires.day))
    (subst (λ r. AreTalliesOf r entry (up_to (view_day r) facts) tallies) c.in-Percent.is c.requires.tallies)

pub half_text-requires-clause-begun : goal.half_text-requires-clause-begun
half_text-requires-clause-begun c =
    let entry = c.args.entry.now in
    subst (λ day. has_half_begun entry.startup c.in-Report.half day ≡ true) (sym c.requires.day)
    (subst (λ r. lacked r entry ≡ None → has_half_begun entry.startup c.in-Report.half (view_day r) ≡ true) (sym c.in-Report.is)
    (half_begun entry.startup c.in-Report.half _) c.requires.whole.nothing_lacked)

pub half_text-requires-clause-half : goal.half_text-requires-clause-half
half_text-requires-clause-half c =
    let entry = c.args.entry.now in
    from_one c.in-Report.half _
    (subst (λ r. lacked r entry ≡ None → has_half_begun entry.startup c.in-Report.half (view_day r) ≡ true) (sym c.in-Report.is)
    (half_begun entry.startup c.in-Report.half _) c.requires.whole.nothing_lacked)

pub half_text-requires-clause-in_calendar : goal.half_text-requires-clause-in_calendar
half_text-requires-clause-in_calendar c =
    let entry = c.args.entry.now in
    subst (λ r. IsInCalendar r entry → half_month entry.startup c.in-Report.half ≤ 25_199) (sym c.in-Report.is) (λ within. within)
    c.requires.whole.in_calendar

pub returns-in-Due : goal.returns-in-Due
returns-in-Due c =
    let request = c.args.request.now in
    let entry = c.args.entry.now in
    let facts = facts_from c.args.source.now in
    let text = λ (day : ℕ). due_text c.in-Due.unit day (duties_of_unit entry day (up_to day facts)) in
    let told = λ (r : Request). Shows (in_text c.due_on.result) (replies.Shown (text (view_day r))) in
    let reply = λ (r : Request). Shows (in_text c.due_on.result) (unit_reply r (up_to (view_day r) facts) entry) in
    let shows = subst (λ day. Shows (in_text c.due_on.result) (replies.Shown (text day))) c.requires.day
    (text_shows c.due_on.result _ c.due_on.ensures.value) in
    record {
      value = unit_is_shown request (up_to (view_day request) facts) c.requires.view entry (in_text c.due_on.result) c.requires.entered
          (subst (λ r. told r → reply r) (sym c.in-Due.is) (λ shows. shows) shows);
    }

pub returns-in-Tags : goal.returns-in-Tags
returns-in-Tags c =
    let request = c.args.request.now in
    let entry = c.args.entry.now in
    let facts = facts_from c.args.source.now in
    let text = λ (day : ℕ). tags_text c.in-Tags.unit day (tags_of_unit entry day (up_to day facts)) in
    let told = λ (r : Request). Shows (in_text c.tags_on.result) (replies.Shown (text (view_day r))) in
    let reply = λ (r : Request). Shows (in_text c.tags_on.result) (unit_reply r (up_to (view_day r) facts) entry) in
    let shows = subst (λ day. Shows (in_text c.tags_on.result) (replies.Shown (text day))) c.requires.day
    (text_shows c.tags_on.result _ c.tags_on.ensures.value) in
    record {
      value = unit_is_shown request (up_to (view_day request) facts) c.requires.view entry (in_text c.tags_on.result) c.requires.entered
          (subst (λ r. told r → reply r) (sym c.in-Tags.is) (λ shows. shows) shows);
    }

pub returns-in-Delays : goal.returns-in-Delays
returns-in-Delays c =
    let request = c.args.request.now in
    let entry = c.args.entry.now in
    let facts = facts_from c.args.source.now in
    let text = λ (day : ℕ). delays_text c.in-Delays.unit day (delays_of_unit entry (up_to day facts)) in
    let told = λ (r : Request). Shows (in_text c.delays_on.result) (replies.Shown (text (view_day r))) in
    let reply = λ (r : Request). Shows (in_text c.delays_on.result) (unit_reply r (up_to (view_day r) facts) entry) in
    let shows = subst (λ day. Shows (in_text c.delays_on.result) (replies.Shown (text day))) c.requires.day
    (text_shows c.delays_on.result _ c.delays_on.ensures.value) in
    record {
      value = unit_is_shown request (up_to (view_day request) facts) c.requires.view entry (in_text c.delays_on.result) c.requires.entered
          (subst (λ r. told r → reply r) (sym c.in-Delays.is) (λ shows. shows) shows);
    }

pub returns-in-Route : goal.returns-in-Route
returns-in-Route c =
    let request = c.args.request.now in
    let entry = c.args.entry.now in
    let facts = facts_from c.args.source.now in
    let text = λ (day : ℕ). route_text c.in-Route.unit day c.in-Route.stops (routes_of_unit entry day (up_to day facts) c.in-Route.stops) in
    let told = λ (r : Request). Shows (in_text c.route_on.result) (replies.Shown (text (view_day r))) in
    let reply = λ (r : Request). Shows (in_text c.route_on.result) (unit_reply r (up_to (view_day r) facts) entry) in
    let shows = subst (λ day. Shows (in_text c.route_on.result) (replies.Shown (text day))) c.requires.day
    (text_shows c.route_on.result _ c.route_on.ensures.value) in
    record {
      value = unit_is_shown request (up_to (view_day request) facts) c.requires.view entry (in_text c.route_on.result) c.requires.entered
          (subst (λ r. lacked r entry ≡ None → told r → reply r) (sym c.in-Route.is) (shows_first (in_text c.route_on.result) _ NoStops _)
          c.requires.whole.nothing_lacked shows);
    }

pub returns-in-Percent : goal.returns-in-Percent
returns-in-Percent c =
    let request = c.args.request.now in
    let entry = c.args.entry.now in
    let facts = facts_from c.args.source.now in
    let text = λ (day : ℕ). law.quarter_text entry c.in-Percent.quarter day (up_to day facts) in
    let told = λ (r : Request). Shows (in_text c.quarter_text.result) (replies.Shown (text (view_day r))) in
    let reply = λ (r : Request). Shows (in_text c.quarter_text.result) (unit_reply r (up_to (view_day r) facts) entry) in
    let shows = subst (λ day. Shows (in_text c.quarter_text.result) (replies.Shown (text day))) c.requires.day
    (text_shows c.quarter_text.result _ c.quarter_text.ensures.value) in
    record {
      value = unit_is_shown request (up_to (view_day request) facts) c.requires.view entry (in_text c.quarter_text.result) c.requires.entered
          (subst (λ r. lacked r entry ≡ None → told r → reply r) (sym c.in-Percent.is) (shows_second (in_text c.quarter_text.result) _ NoQuarter _)
          c.requires.whole.nothing_lacked shows);
    }

pub returns-in-Report : goal.returns-in-Report
returns-in-Report c =
    let request = c.args.request.now in
    let entry = c.args.entry.now in
    let facts = facts_from c.args.source.now in
    let text = λ (day : ℕ). half_text_of entry c.in-Report.half day (up_to day facts) in
    let told = λ (r : Request). Shows (in_text c.half_text.result) (replies.Shown (text (view_day r))) in
    let reply = λ (r : Request). Shows (in_text c.half_text.result) (unit_reply r (up_to (view_day r) facts) entry) in
    let shows = subst (λ day. Shows (in_text c.half_text.result) (replies.Shown (text day))) c.requires.day
    (text_shows c.half_text.result _ c.half_text.ensures.value) in
    record {
      value = unit_is_shown request (up_to (view_day request) facts) c.requires.view entry (in_text c.half_text.result) c.requires.entered
          (subst (λ r. lacked r entry ≡ None → told r → reply r) (sym c.in-Report.is) (shows_second (in_text c.half_text.result) _ NoHalf _)
          c.requires.whole.nothing_lacked shows);
    }
