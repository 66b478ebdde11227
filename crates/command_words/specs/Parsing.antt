-- How the positionals of a command are declared to clap, and what clap finds.
use Rattle.std.specs.Prelude.{◌≡◌, true, List, [], ◌∷◌, Option, Some, None, codes, map, option_map}
use Rattle.std.specs.List.{slice_index_or}
use Rattle.clap.specs.Words.{App, Rule, Text, fault_of, first_value, found_of, is_simple, is_simple_and_free, kind_of, matches_of, new_app, new_rule, rows_of, takes}
use Rattle.clap.specs.Simple.{on_top}
use Rattle.clap.specs.declared.error.Error.{Error}
use Rattle.clap.specs.declared.error.kind.ErrorKind.TheVariants.{OutOfMemory}
use Rattle.clap.specs.declared.parser.matches.ArgMatches.{ArgMatches}
use Rattle.clap.specs.declared.parser.matches.Found.{Found}
use Rattle.command_words.specs.Positionals.{are_plain}

-- the name of a command is its first word
abbrev pub name_in : List Text → Text
name_in words = slice_index_or words 0 []

-- a required positional
abbrev pub positional : Text → Rule
positional id = record (new_rule id) { required = true }

-- the command with a name, and with required positionals of these ids
abbrev pub command_with : Text → List Text → App
command_with name ids = on_top (λ shape. record shape { rules = map positional ids }) (new_app name)

-- the ids of one, two, three and four positionals
abbrev pub ids_of_one : List Text
ids_of_one = codes "first" ∷ []

abbrev pub ids_of_two : List Text
ids_of_two = codes "first" ∷ codes "second" ∷ []

abbrev pub ids_of_three : List Text
ids_of_three = codes "first" ∷ codes "second" ∷ codes "third" ∷ []

abbrev pub ids_of_four : List Text
ids_of_four = codes "first" ∷ codes "second" ∷ codes "third" ∷ codes "fourth" ∷ []

-- a word before others, if both exist
abbrev pub in_front : Option Text → Option (List Text) → Option (List Text)
in_front None words = None
in_front (Some word) words = option_map (λ words. word ∷ words) words

-- the values found for these ids, in their order, if each has one
abbrev pub values_in : Found → List Text → Option (List Text)
values_in found [] = Some []
values_in found (id ∷ ids) = in_front (first_value found id) (values_in found ids)

-- the parse failed because it ran out of memory
abbrev pub IsWantOfMemory : Error → Type 0
IsWantOfMemory error = kind_of error ≡ OutOfMemory

-- clap accepted the words for this command, and found this in them
pub record IsTaken (app : App) (words : List Text) (found : Found) : Type 0 where
  pub faultless : is_simple_and_free app ≡ true → fault_of app words ≡ []
  pub rows : is_simple app ≡ true → rows_of found ≡ matches_of app words

-- the result of a parse: clap accepted the words; or it refuses them, or one of them is an option
abbrev pub Finds : App → List Text → Option ArgMatches → Type 0
Finds app words None = are_plain words ≡ true → ¬ (takes app words ≡ true)
Finds app words (Some matches) = (are_plain words ≡ true) × IsTaken app words (found_of matches)
