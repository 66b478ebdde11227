-- The command that words are is the one that their positionals are.
use Rattle.std.proofs.Common.{◌≡◌, ◌==◌, ◌+◌, ℕ, Bool, true, false, not, Option, Some, None, List, [], ◌∷◌, length, refl, arith, if◌then◌else◌}
use Rattle.std.proofs.lemmas.Grind.{common_steps}
use Rattle.std.specs.List.{list_all}
use Rattle.command_words.specs.Parsing.{name_in}
use Rattle.command_words.specs.Positionals.{is_option, positionals_of}
use Rattle.office_commands.specs.declared.command.Command.{Command}
use Rattle.office_commands.specs.Command.{command_in, command_of, command_with, only_if}

-- a test of the words is one of the command
tested : (b : Bool) (word : List ℕ) (further : List (List ℕ)) (o : Option Command) → command_of word further ≡ o
    → command_with word (if b then Some further else None) ≡ only_if b o
tested true word further None is = is
tested true word further (Some command) is = is
tested false word further None is = refl
tested false word further (Some command) is = refl

-- the number of words, and the first is the name
pub command_with-positionals : (count : ℕ) (words : List (List ℕ)) → length words ≡ count + 1
    → command_with (name_in words) (positionals_of count words) ≡ command_in words
command_with-positionals count [] long = absurd (omega (arith, long))
command_with-positionals count (word ∷ further) long =
    let same : (length further == count) ≡ true = grind (arith, common_steps) in
    rw same (tested (list_all (λ word. not (is_option word)) further) word further (command_of word further) refl)
