use Rattle.std.proofs.Common.{◌∙◌, map, refl, subst, sym}
use Rattle.std.specs.String.{string_bytes}
use Rattle.clap.specs.Words.{found_of}
use Rattle.command_words.specs.Parsing.{Finds, command_with, name_in, ids_of_one}
use Rattle.command_words.proofs.CountedWords.{takes-one_positional, values_in-one_positional}
use Rattle.command_words.proofs.PositionalLemmas.{are_plain-positionals, positionals_of-none}
use Rattle.command_words.proofs.RefusedWords.{counted_one, positionals_of-faultless}
use Rattle.command_words.proofs.positionals.one_positional.Goals as goal

-- clap took the words, so they are as many
pub returns-in-Some-clause-value : goal.returns-in-Some-clause-value
returns-in-Some-clause-value c =
    let words = map string_bytes c.args.words.now in
    let taken = subst (Finds (command_with (name_in words) ids_of_one) words) c.in-Some.is c.in_ok-matches.ensures.found in
    c.one_in.ensures.value
    ∙ values_in-one_positional words (found_of c.in-Some.matches)
    (positionals_of-faultless 1 ids_of_one counted_one words taken.0 (taken.1.faultless refl)) (taken.1.rows refl)

-- it did not, so they are not
pub returns-in-None-clause-value : goal.returns-in-None-clause-value
returns-in-None-clause-value c =
    let words = map string_bytes c.args.words.now in
    let refused = subst (Finds (command_with (name_in words) ids_of_one) words) c.in-None.is c.in_ok-matches.ensures.found in
    sym (positionals_of-none 1 words
    (λ tested. refused (are_plain-positionals 1 words tested) (takes-one_positional words tested)))
