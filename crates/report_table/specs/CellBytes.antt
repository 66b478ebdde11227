-- The bytes in which a table keeps the cells of a report. Numbers are big-endian.
use Rattle.std.specs.Prelude.{ℕ, List, ◌++◌, Option, Some, None}
use Rattle.std.specs.List.{flat_map}
use Rattle.fact_kinds.specs.Fields.{big_endian}
use Rattle.fact_kinds.specs.declared.key.Key.{Key}
use Rattle.ldar_law.specs.declared.delay.DelayEntry.{DelayEntry}
use Rattle.ldar_law.specs.declared.delay.DelayLine.{DelayLine}
use Rattle.ldar_law.specs.declared.delay.Stop.{Stop}
use Rattle.ldar_law.specs.declared.delay.Until.{Until}
use Rattle.ldar_law.specs.declared.delay.Until.TheVariants.{Date, Shutdown, WhileIsolated, NoDate}

-- a day, or 0 for none
abbrev pub day_bytes : Option ℕ → List ℕ
day_bytes None = big_endian 2 0
day_bytes (Some day) = big_endian 2 day

-- the key of a fact: day, minute, handheld, batch number, index
abbrev pub key_bytes : Key → List ℕ
key_bytes key =
    big_endian 2 key.day ++ big_endian 2 key.minute ++ big_endian 2 key.handheld ++ big_endian 4 key.number ++ big_endian 2 key.index

-- the due day of a repair: 0 and the day; or 1 for a shutdown, 2 for while isolated, 3 for no day, followed by 0
abbrev pub until_bytes : Until → List ℕ
until_bytes (Date day) = big_endian 1 0 ++ big_endian 2 day
until_bytes Shutdown = big_endian 1 1 ++ big_endian 2 0
until_bytes WhileIsolated = big_endian 1 2 ++ big_endian 2 0
until_bytes NoDate = big_endian 1 3 ++ big_endian 2 0

-- a delay of repair: its key, ground, signer and expected day
abbrev pub delay_bytes : DelayEntry → List ℕ
delay_bytes delay = key_bytes delay.key ++ big_endian 1 delay.ground ++ big_endian 2 delay.signer ++ day_bytes delay.expected

-- the line of a delayed repair, in 26 bytes
abbrev pub line_bytes : DelayLine → List ℕ
line_bytes line =
    big_endian 2 line.component ++ (big_endian 2 line.detected ++ (delay_bytes line.delay ++ (until_bytes line.until ++ day_bytes line.closed)))

-- a process unit shutdown, in 4 bytes
abbrev pub stop_bytes : Stop → List ℕ
stop_bytes stop = big_endian 2 stop.first ++ big_endian 2 stop.last

-- the 36 numbers of a report, each in 4 bytes
abbrev pub months_bytes : List ℕ → List ℕ
months_bytes months = flat_map (big_endian 4) months

-- the lines of delayed repairs, one after the other
abbrev pub delays_bytes : List DelayLine → List ℕ
delays_bytes lines = flat_map line_bytes lines

-- the shutdowns, one after the other
abbrev pub stops_bytes : List Stop → List ℕ
stops_bytes stops = flat_map stop_bytes stops
