use Rattle.std.proofs.Common.{◌≡◌, ◌∙◌, ◌-◌, sym, take, drop, length, arith}
use Rattle.std.proofs.lemmas.Grind.{common_steps}
use Rattle.std.specs.String.{string_bytes}
use Rattle.command_words.proofs.PositionalLemmas.{are_plain-tested}
use Rattle.command_words.proofs.parsing.are_plain.Goals as goal

pub returns-in-len1-up : goal.returns-in-len1-up
returns-in-len1-up c =
    let words = c.args.words.now in
    let behind : take (length words - 1) (drop 1 words) ≡ drop 1 words = grind (arith, common_steps) in
    record {
      value =
          c.have_no_option.ensures.value
          ∙ sym (are_plain-tested string_bytes words (take (length words - 1) (drop 1 words)) c.in-len1-up.len_at_least behind);
    }
