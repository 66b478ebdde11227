use Rattle.std.proofs.Common.{◌≡◌, ◌∙◌, ap, ap₂, map, take, rules, slice_index_or}
use Rattle.clap.specs.Words.{rule_of, with_rule}
use Rattle.command_words.specs.Parsing.{command_with, positional}
use Rattle.command_words.proofs.ParsingLemmas.{with_rule-command_with, ids_to-next}
use Rattle.command_words.proofs.parsing.command_with.Goals as goal

-- one more positional is declared
pub loop-id-preserved : goal.loop-id-preserved
loop-id-preserved c =
    let ids = c.args.ids.now in
    let at = c.loop-id.id-index in
    let id = c.required.result.id in
    let is_positional : rule_of c.required.result ≡ positional (slice_index_or ids at id).now = search rules in
    c.in_ok-command.ensures.shape (search rules) ∙ ap₂ with_rule c.loop-id.invariant is_positional
    ∙ with_rule-command_with c.args.name.now (map (λ id. id.now) (take at ids)) (slice_index_or ids at id).now
    ∙ ap (command_with c.args.name.now) (ids_to-next ids at id (search rules))
