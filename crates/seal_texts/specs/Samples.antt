-- Values for the worked examples: duties and tags of component 5.
use Rattle.std.specs.Prelude.{ℕ, Option}
use Rattle.seal_texts.specs.declared.line.SealLine.{SealLine}
use Rattle.seal_texts.specs.declared.line.SealLine.TheVariants.{Duty, Tag}

-- a duty of a cause, and a tag of a sort
abbrev pub duty : ℕ → ℕ → Option ℕ → SealLine
duty cause due met = Duty 5 (record { cause = cause; due = due; met = met })

abbrev pub tag : ℕ → ℕ → Option ℕ → Option ℕ → SealLine
tag sort detected attempted closed = Tag 5 (record { sort = sort; detected = detected; attempted = attempted; closed = closed })
