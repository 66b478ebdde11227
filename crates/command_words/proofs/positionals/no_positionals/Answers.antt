use Rattle.std.proofs.Common.{◌∙◌, map}
use Rattle.std.specs.String.{string_bytes}
use Rattle.command_words.proofs.RefusedWords.{is_some-finds}
use Rattle.command_words.proofs.positionals.no_positionals.Goals as goal

pub returns-clause-value : goal.returns-clause-value
returns-clause-value c =
    c.is_some.ensures ∙ is_some-finds (map string_bytes c.args.words.now) c.in_ok-parse.field-0 c.in_ok-parse.ensures.found
