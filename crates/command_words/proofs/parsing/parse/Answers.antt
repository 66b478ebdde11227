use Rattle.std.proofs.Common.{◌≡◌, ◌∙◌, [], ap, map, subst, sym, true, arith, rules}
use Rattle.std.proofs.lemmas.Grind.{common_steps}
use Rattle.std.specs.String.{string_bytes}
use Rattle.clap.specs.Words.{App, Text, fault_of, found_of, is_simple, is_simple_and_free, matches_of, rows_of, takes}
use Rattle.command_words.specs.Parsing.{command_with, name_in}
use Rattle.command_words.specs.Positionals.{are_plain}
use Rattle.command_words.proofs.parsing.parse.Goals as goal

-- clap accepted the words for the command that was made
pub returns-in-Ok-clause-found : goal.returns-in-Ok-clause-found
returns-in-Ok-clause-found c =
    let words = map string_bytes c.args.words.now in
    let ids = map (λ id. id.now) c.args.ids.now in
    let name : c.as_str.result.now ≡ name_in words = grind (arith, common_steps) in
    let app = c.in_ok-command.ensures.value ∙ ap (λ (name : Text). command_with name ids) name in
    let plain : are_plain words ≡ true = search rules in (
      plain,
      record {
        faultless = λ simple. subst (λ (a : App). fault_of a words ≡ []) app (c.in-Ok.ensures.kinds (ap is_simple_and_free app ∙ simple));
        rows =
            λ simple. subst (λ (a : App). rows_of (found_of c.in-Ok.matches) ≡ matches_of a words) app
            (c.in-Ok.ensures.matches (ap is_simple app ∙ simple)).0;
      },
    )

-- clap refused the words, and did not run out of memory
pub returns-clause-found : goal.returns-clause-found
returns-clause-found c plain taken =
    let words = map string_bytes c.args.words.now in
    let ids = map (λ id. id.now) c.args.ids.now in
    let name : c.as_str.result.now ≡ name_in words = grind (arith, common_steps) in
    let app = c.in_ok-command.ensures.value ∙ ap (λ (name : Text). command_with name ids) name in
    c.in_default-kind.not-OutOfMemory (c.kind.ensures ∙ c.in-Err.ensures.passes (ap (λ (a : App). takes a words) app ∙ taken))
