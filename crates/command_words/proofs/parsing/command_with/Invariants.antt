use Rattle.std.proofs.Common.{◌≡◌, map, take}
use Rattle.clap.specs.Words.{app_of}
use Rattle.command_words.specs.Parsing.{command_with}
use Rattle.command_words.proofs.parsing.command_with.Given as goal

-- the ids so far are declared
abbrev pub invariant-loop-id : goal.invariant-loop-id
invariant-loop-id l = app_of l.command ≡ command_with l.name (map (λ id. id.now) (take l.id-index l.ids))
