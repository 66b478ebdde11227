-- The cells of a report, read from the bytes in which a table keeps them.
use Rattle.std.specs.Prelude.{ℕ, zero, suc, ◌+◌, ◌*◌, ◌/◌, List, [], ◌∷◌, Option, Some, None, length, take, drop, slice_index_or}
use Rattle.fact_kinds.specs.declared.key.Key.{Key}
use Rattle.ldar_law.specs.declared.delay.DelayLine.{DelayLine}
use Rattle.ldar_law.specs.declared.delay.Stop.{Stop}
use Rattle.ldar_law.specs.declared.delay.Until.{Until}
use Rattle.ldar_law.specs.declared.delay.Until.TheVariants.{Date, Shutdown, WhileIsolated, NoDate}
use Rattle.ldar_law.specs.Delays.{delay_entered}

-- ---- numbers at a place in the bytes

-- the byte at a place
abbrev pub one_in : List ℕ → ℕ → ℕ
one_in bytes at = slice_index_or bytes at 0

-- the number in two bytes
abbrev pub two_in : List ℕ → ℕ → ℕ
two_in bytes at = one_in bytes at * 256 + one_in bytes (at + 1)

-- the number in four bytes
abbrev pub four_in : List ℕ → ℕ → ℕ
four_in bytes at = two_in bytes at * 65_536 + two_in bytes (at + 2)

-- a day, or none for 0
abbrev pub day_in : ℕ → Option ℕ
day_in zero = None
day_in (suc n) = Some (suc n)

-- the due day of a repair, from its kind and day
abbrev pub until_in : ℕ → ℕ → Until
until_in zero day = Date day
until_in (suc zero) day = Shutdown
until_in (suc (suc zero)) day = WhileIsolated
until_in (suc (suc (suc kind))) day = NoDate

-- ---- lines

-- the key of the delay in a line
abbrev pub key_in : List ℕ → Key
key_in bytes = record { day = two_in bytes 4; minute = two_in bytes 6; handheld = two_in bytes 8; number = four_in bytes 10; index = two_in bytes 14 }

-- the line of a delayed repair, from 26 bytes
abbrev pub line_in : List ℕ → DelayLine
line_in bytes = record {
  component = two_in bytes 0;
  detected = two_in bytes 2;
  delay = delay_entered (key_in bytes) (one_in bytes 16) (two_in bytes 17) (day_in (two_in bytes 19));
  until = until_in (one_in bytes 21) (two_in bytes 22);
  closed = day_in (two_in bytes 24);
}

-- a process unit shutdown, from 4 bytes
abbrev pub stop_in : List ℕ → Stop
stop_in bytes = record { first = two_in bytes 0; last = two_in bytes 2 }

-- ---- one after the other

-- the values in this many pieces of one width
abbrev pub pieces_in : {X : Type 0} → ℕ → (List ℕ → X) → ℕ → List ℕ → List X
pieces_in width read zero bytes = []
pieces_in width read (suc count) bytes = read (take width bytes) ∷ pieces_in width read count (drop width bytes)

-- the numbers of a report
abbrev pub months_in : List ℕ → List ℕ
months_in bytes = pieces_in 4 (λ piece. four_in piece 0) (length bytes / 4) bytes

-- the lines of delayed repairs
abbrev pub delays_in : List ℕ → List DelayLine
delays_in bytes = pieces_in 26 line_in (length bytes / 26) bytes

-- the shutdowns
abbrev pub stops_in : List ℕ → List Stop
stops_in bytes = pieces_in 4 stop_in (length bytes / 4) bytes
