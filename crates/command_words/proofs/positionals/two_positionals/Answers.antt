use Rattle.std.proofs.Common.{◌∙◌, map, refl, subst, sym}
use Rattle.std.specs.String.{string_bytes}
use Rattle.clap.specs.Words.{found_of}
use Rattle.command_words.specs.Parsing.{Finds, command_with, name_in, ids_of_two}
use Rattle.command_words.proofs.CountedWords.{takes-two_positionals, values_in-two_positionals}
use Rattle.command_words.proofs.PositionalLemmas.{are_plain-positionals, positionals_of-none}
use Rattle.command_words.proofs.RefusedWords.{counted_two, positionals_of-faultless}
use Rattle.command_words.proofs.positionals.two_positionals.Goals as goal

-- clap accepted the words, so there are two
pub returns-in-Some-clause-value : goal.returns-in-Some-clause-value
returns-in-Some-clause-value c =
    let words = map string_bytes c.args.words.now in
    let taken = subst (Finds (command_with (name_in words) ids_of_two) words) c.in-Some.is c.in_ok-matches.ensures.found in
    c.two_in.ensures.value
    ∙ values_in-two_positionals words (found_of c.in-Some.matches)
    (positionals_of-faultless 2 ids_of_two counted_two words taken.0 (taken.1.faultless refl)) (taken.1.rows refl)

-- clap refused the words, so they are not two plain words
pub returns-in-None-clause-value : goal.returns-in-None-clause-value
returns-in-None-clause-value c =
    let words = map string_bytes c.args.words.now in
    let refused = subst (Finds (command_with (name_in words) ids_of_two) words) c.in-None.is c.in_ok-matches.ensures.found in
    sym (positionals_of-none 2 words
    (λ tested. refused (are_plain-positionals 2 words tested) (takes-two_positionals words tested)))
