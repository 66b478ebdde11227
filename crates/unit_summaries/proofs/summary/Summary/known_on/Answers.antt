use Rattle.std.proofs.Common.{filter, nat_le, refl, sym, ap, ◌∙◌}
use Rattle.history_laws.specs.DayLaws.{events_to}
use Rattle.unit_summaries.specs.declared.known.KnownOn.{KnownOn}
use Rattle.unit_summaries.proofs.KnownLemmas.{known_none, known_some}
use Rattle.unit_summaries.proofs.summary.Summary.known_on.Goals as goal

pub returns-in-Some : goal.returns-in-Some
returns-in-Some c =
    let day = c.args.day in
    let k : KnownOn = record {
      item = c.in-Some.item;
      classes = c.classes_to.result;
      events = c.front_of.result;
      day = day;
      all_events = c.as_slice-in-Some-2.result;
      spans = c.as_slice-in-Some-3.result;
    } in
    let classes = c.classes_to.ensures.value ∙ ap (filter (λ entered. nat_le entered.0.day day)) c.as_slice.ensures.value in
    let events = c.front_of.ensures.value ∙ ap (events_to day) c.as_slice-in-Some.ensures.value in
    record {
      value = λ facts number says up.
          known_some day facts number c.args.self.now says up c.in-Some.item k (sym c.in-Some.ensures.value) refl classes events;
      known = record {
        item = sym c.in-Some.ensures.value;
        classes = classes;
        events = events;
        day = refl;
        all_events = c.as_slice-in-Some-2.ensures.value;
        spans = c.as_slice-in-Some-3.ensures.value;
      };
    }

pub returns-in-None : goal.returns-in-None
returns-in-None c = record {
  value = λ facts number says up. known_none c.args.day facts number c.args.self.now says up (sym c.in-None.ensures.value);
  known = sym c.in-None.ensures.value;
}
