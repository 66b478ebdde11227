-- The state of a walk over the events of a component at a place, and the tags that are still to come.
use Rattle.std.specs.Prelude.{◌≡◌, ℕ, true, Option, Some, None, is_some, IfSome, option_map, List, ◌∷◌, take, drop}
use Rattle.list_words.specs.Words.{first_from, each_from}
use Rattle.fact_kinds.specs.declared.class.Kind.{Kind}
use Rattle.fact_kinds.specs.declared.key.Key.{Key}
use Rattle.ldar_law.specs.declared.event.Event.{Event}
use Rattle.ldar_law.specs.declared.span.Span.{Span}
use Rattle.ldar_law.specs.Spans as law
use Rattle.leak_tags.specs.declared.open_leaks.OpenLeaks.{OpenLeaks}
use Rattle.leak_tags.specs.declared.walk.OpenTag.{OpenTag}
use Rattle.leak_tags.specs.declared.walk.Walk.{Walk}
use Rattle.leak_tags.specs.CleanPairs.{IsPairFor}
use Rattle.leak_tags.specs.OpenLeaks.{is_open}
use Rattle.leak_tags.specs.Telling.{IsAt, IsNext}

-- the closing of a tag that is open before a place
abbrev pub closing_from : Kind → List Event → ℕ → Option Key
closing_from kind events place = option_map (λ e. e.key) (first_from (λ front e _. law.closes kind front e) (take place events) (drop place events))

-- the tag that was open, closed or still open
abbrev pub closed_tag : Kind → List Event → OpenTag → Option Key → Span
closed_tag kind events tag closed = record {
  detected = tag.detected;
  attempted = tag.attempted;
  closed = closed;
  removable = law.is_removable kind events closed;
}

-- the tags that open at a place or later
abbrev pub tags_from : Kind → List Event → ℕ → List Span
tags_from kind events place = each_from (law.span_at kind events) (take place events) (drop place events)

-- the tags that open there, after the one that is open before, if there is one
abbrev pub rest_of : Kind → List Event → Option OpenTag → ℕ → List Span
rest_of kind events None place = tags_from kind events place
rest_of kind events (Some tag) place = closed_tag kind events tag (closing_from kind events place) ∷ tags_from kind events place

-- a tag is open exactly if some leak is; without an open tag the walk keeps no summary of leaks, since each leak starts over
pub record Walks (kind : Kind) (walk : Walk) (events : List Event) (place : ℕ) : Type 0 where
  pub seen : OpenLeaks
  pub at : IsAt kind seen events place
  pub has_tag : is_some walk.tag ≡ is_open seen
  pub same : is_some walk.tag ≡ true → walk.leaks ≡ seen
  pub next : IsNext walk.next events place
  pub pair : IfSome walk.pair (λ pair. IsPairFor kind pair events)
