-- The command so far, with one more positional.
use Rattle.std.proofs.Common.{◌≡◌, ◌∙◌, ◌+◌, ◌<◌, ℕ, List, [], ◌∷◌, ◌++◌, length, map, take, ap, sym}
use Rattle.std.specs.Borrow.{Bor}
use Rattle.std.specs.List.{slice_index_or}
use Rattle.std.proofs.lemmas.List.{map-append}
use Rattle.std.proofs.lemmas.Grind.{take_at_read}
use Rattle.clap.specs.Words.{Rule, Text, new_app, with_rule}
use Rattle.clap.specs.Simple.{on_top}
use Rattle.command_words.specs.Parsing.{command_with, positional}

-- the command with one more rule is the command with one more id
pub with_rule-command_with : (name : Text) (ids : List Text) (id : Text)
    → with_rule (command_with name ids) (positional id) ≡ command_with name (ids ++ id ∷ [])
with_rule-command_with name ids id =
    ap (λ (rules : List Rule). on_top (λ shape. record shape { rules = rules }) (new_app name)) (sym (map-append positional ids (id ∷ [])))

-- the ids up to a place, including the one there
pub ids_to-next : (ids : List (Bor Text)) (at : ℕ) (other : Bor Text) → at < length ids
    → map (λ id. id.now) (take at ids) ++ (slice_index_or ids at other).now ∷ [] ≡ map (λ id. id.now) (take (at + 1) ids)
ids_to-next ids at other within =
    sym (map-append (λ (id : Bor Text). id.now) (take at ids) (slice_index_or ids at other ∷ []))
    ∙ ap (map (λ id. id.now)) (sym (take_at_read ids at other within).1)
