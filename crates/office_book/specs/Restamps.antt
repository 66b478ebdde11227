-- A turn with other counts of errors and another clock.
use Rattle.std.specs.Prelude.{ℕ}
use Rattle.ldar_law.specs.Machine.{Turn}

-- the turn with these counts of errors before and after it, and this clock
abbrev pub restamped : Turn → ℕ → ℕ → ℕ → Turn
restamped turn before after clock = record {
  request = turn.request;
  reply = turn.reply;
  found = turn.found;
  in_doubt = turn.in_doubt;
  before = before;
  after = after;
  clock = clock;
}
