use Rattle.std.proofs.Common.{◌≡◌, ◌∙◌, ℕ, List, ap, arith, length, map}
use Rattle.std.proofs.lemmas.Grind.{common_steps}
use Rattle.std.proofs.lemmas.Result.{IfOk-weaker}
use Rattle.std.specs.String.{string_bytes}
use Rattle.command_words.specs.Parsing.{name_in}
use Rattle.command_words.specs.Positionals.{positionals_of}
use Rattle.office_commands.specs.Command.{command_with}
use Rattle.office_commands.proofs.WordLemmas.{command_with-positionals}
use Rattle.office_commands.proofs.command.command_of.Goals as goal

pub returns-in-len2-clause-value : goal.returns-in-len2-clause-value
returns-in-len2-clause-value c =
    let words = map string_bytes c.args.words.now in
    let long : length words ≡ 2 = grind (arith, common_steps) in
    let named : c.as_str-in-len2.result.now ≡ name_in words = grind (arith, common_steps) in
    IfOk-weaker c.of_two_words.result _ _
    (λ command is. is ∙ ap (λ (name : List ℕ). command_with name (positionals_of 1 words)) named ∙ command_with-positionals 1 words long)
    c.of_two_words.ensures.value

pub returns-in-len3-clause-value : goal.returns-in-len3-clause-value
returns-in-len3-clause-value c =
    let words = map string_bytes c.args.words.now in
    let long : length words ≡ 3 = grind (arith, common_steps) in
    let named : c.as_str-in-len3.result.now ≡ name_in words = grind (arith, common_steps) in
    IfOk-weaker c.of_three_words.result _ _
    (λ command is. is ∙ ap (λ (name : List ℕ). command_with name (positionals_of 2 words)) named ∙ command_with-positionals 2 words long)
    c.of_three_words.ensures.value

pub returns-in-len4-clause-value : goal.returns-in-len4-clause-value
returns-in-len4-clause-value c =
    let words = map string_bytes c.args.words.now in
    let long : length words ≡ 4 = grind (arith, common_steps) in
    let named : c.as_str-in-len4.result.now ≡ name_in words = grind (arith, common_steps) in
    IfOk-weaker c.of_four_words.result _ _
    (λ command is. is ∙ ap (λ (name : List ℕ). command_with name (positionals_of 3 words)) named ∙ command_with-positionals 3 words long)
    c.of_four_words.ensures.value

pub returns-in-len5-clause-value : goal.returns-in-len5-clause-value
returns-in-len5-clause-value c =
    let words = map string_bytes c.args.words.now in
    let long : length words ≡ 5 = grind (arith, common_steps) in
    let named : c.as_str-in-len5.result.now ≡ name_in words = grind (arith, common_steps) in
    IfOk-weaker c.of_five_words.result _ _
    (λ command is. is ∙ ap (λ (name : List ℕ). command_with name (positionals_of 4 words)) named ∙ command_with-positionals 4 words long)
    c.of_five_words.ensures.value
