-- The bytes of cells are read back as those cells.
use Rattle.std.proofs.Common.{◌≡◌, ℕ, zero, suc, ◌+◌, ◌*◌, ◌/◌, ◌%◌, ◌^◌, ◌<◌, ◌≤◌, List, [], ◌∷◌, ◌++◌, take, drop, length, Option}
use Rattle.std.proofs.Common.{Some, None, refl, sym, ap, ap₂, ◌∙◌, take_at, drop_at, arith}
use Rattle.std.specs.List.{flat_map, AllByRecursion}
use Rattle.ldar_days.specs.Calendar.{IsDay}
use Rattle.fact_kinds.specs.Fields.{big_endian}
use Rattle.ldar_law.specs.declared.delay.DelayLine.{DelayLine}
use Rattle.ldar_law.specs.declared.delay.Stop.{Stop}
use Rattle.ldar_law.specs.declared.delay.Until.{Until}
use Rattle.ldar_law.specs.declared.delay.Until.TheVariants.{Date, Shutdown, WhileIsolated, NoDate}
use Rattle.report_table.specs.CellBytes.{day_bytes, key_bytes, until_bytes, line_bytes, stop_bytes, months_bytes, delays_bytes, stops_bytes}
use Rattle.report_table.specs.CellsIn.{two_in, four_in, one_in, day_in, until_in, line_in, stop_in, pieces_in, months_in, delays_in, stops_in}
use Rattle.report_table.specs.Ranges.{IsDayOrNone, IsUntil, IsLine, IsStop, AreMonths}
use Rattle.report_table.proofs.ReadBack.{pieces_long, line_long}

-- ---- numbers

-- a byte
one_back : (n : ℕ) → n < 2 ^ 8 → n / 1 % 256 ≡ n
one_back n small = omega (arith, small)

-- two bytes
two_back : (n : ℕ) → n < 2 ^ 16 → n / 256 % 256 * 256 + n / 1 % 256 ≡ n
two_back n small = omega (arith, small)

-- four bytes, from two numbers of two bytes
four_back : (n : ℕ) → n < 2 ^ 32
    → (n / 16_777_216 % 256 * 256 + n / 65_536 % 256) * 65_536 + (n / 256 % 256 * 256 + n / 1 % 256) ≡ n
four_back n small =
    let high : n / 16_777_216 % 256 * 256 + n / 65_536 % 256 ≡ n / 65_536 = omega (arith, small) in
    let low : n / 256 % 256 * 256 + n / 1 % 256 ≡ n % 65_536 = omega (arith, small) in
    omega (arith, high, low)

-- the number of a day, or 0
abbrev day_number : Option ℕ → ℕ
day_number None = 0
day_number (Some day) = day

-- the bytes of a day or 0
day_two : (day : Option ℕ) → day_bytes day ≡ big_endian 2 (day_number day)
day_two None = refl
day_two (Some day) = refl

-- a day
some_day : (day : ℕ) → IsDay day → day_in day ≡ Some day
some_day zero is = absurd (omega (arith, is.0))
some_day (suc day) is = refl

-- a day or none
day_back : (day : Option ℕ) → IsDayOrNone day → day_in (day_number day / 256 % 256 * 256 + day_number day / 1 % 256) ≡ day
day_back None is = refl
day_back (Some day) is = ap day_in (two_back day (omega (arith, is.0, is.1))) ∙ some_day day is

-- the kind of a repair's due day, and its day
abbrev kind_of : Until → ℕ
kind_of (Date day) = 0
kind_of Shutdown = 1
kind_of WhileIsolated = 2
kind_of NoDate = 3

-- the day of a repair's due day, or 0
abbrev end_of : Until → ℕ
end_of (Date day) = day
end_of Shutdown = 0
end_of WhileIsolated = 0
end_of NoDate = 0

-- the bytes of a repair's due day
until_three : (until : Until) → until_bytes until ≡ big_endian 1 (kind_of until) ++ big_endian 2 (end_of until)
until_three (Date day) = refl
until_three Shutdown = refl
until_three WhileIsolated = refl
until_three NoDate = refl

-- the due day of a repair
until_back : (until : Until) → IsUntil until → until_in (kind_of until / 1 % 256) (end_of until / 256 % 256 * 256 + end_of until / 1 % 256) ≡ until
until_back (Date day) is = ap Date (two_back day (omega (arith, is.0, is.1)))
until_back Shutdown is = refl
until_back WhileIsolated is = refl
until_back NoDate is = refl

-- ---- lines

-- the bytes of a line, from those of its numbers
abbrev line_numbers : DelayLine → List ℕ
line_numbers line =
    big_endian 2 line.component ++ (big_endian 2 line.detected ++ ((key_bytes line.delay.key ++ big_endian 1 line.delay.ground
    ++ big_endian 2 line.delay.signer ++ big_endian 2 (day_number line.delay.expected))
    ++ ((big_endian 1 (kind_of line.until) ++ big_endian 2 (end_of line.until)) ++ big_endian 2 (day_number line.closed))))

line_is : (line : DelayLine) → line_bytes line ≡ line_numbers line
line_is line = λ i.
    big_endian 2 line.component ++ (big_endian 2 line.detected ++ ((key_bytes line.delay.key ++ big_endian 1 line.delay.ground
    ++ big_endian 2 line.delay.signer ++ day_two line.delay.expected i) ++ (until_three line.until i ++ day_two line.closed i)))

-- a day fits into two bytes
small_day : (day : ℕ) → IsDay day → day < 2 ^ 16
small_day day is = omega (arith, is.0, is.1)

-- a line is read back
line_back : (line : DelayLine) → IsLine line → line_in (line_bytes line) ≡ line
line_back line is =
    let key = line.delay.key in
    let expected = day_back line.delay.expected is.delay.expected in
    let until = until_back line.until is.until in
    let closed = day_back line.closed is.closed in
    ap line_in (line_is line) ∙ (λ i. record {
      component = two_back line.component is.component i;
      detected = two_back line.detected (small_day line.detected is.detected) i;
      delay = record {
        key = record {
          day = two_back key.day (small_day key.day is.delay.key.day) i;
          minute = two_back key.minute is.delay.key.minute i;
          handheld = two_back key.handheld is.delay.key.handheld i;
          number = four_back key.number is.delay.key.number i;
          index = two_back key.index is.delay.key.index i;
        };
        ground = one_back line.delay.ground is.delay.ground i;
        signer = two_back line.delay.signer is.delay.signer i;
        expected = expected i;
      };
      until = until i;
      closed = closed i;
    })

-- a shutdown is read back
stop_back : (stop : Stop) → IsStop stop → stop_in (stop_bytes stop) ≡ stop
stop_back stop is = λ i. record {
  first = two_back stop.first (small_day stop.first is.first) i;
  last = two_back stop.last (small_day stop.last is.last) i;
}

-- ---- one after the other

module _ {X : Type 0} (spell : X → List ℕ) (read : List ℕ → X) (width : ℕ) (wide : (x : X) → length (spell x) ≡ width)
    (P : X → Type 0) (back : (x : X) → P x → read (spell x) ≡ x) where
  -- pieces are read back
  pieces_back : (xs : List X) → AllByRecursion P xs → pieces_in width read (length xs) (flat_map spell xs) ≡ xs
  pieces_back [] all = refl
  pieces_back (x ∷ xs) all =
      ap₂ (λ first more. first ∷ more) (ap read (take_at (spell x) (flat_map spell xs) width (wide x)) ∙ back x all.0)
      (ap (pieces_in width read (length xs)) (drop_at (spell x) (flat_map spell xs) width (wide x)) ∙ pieces_back xs all.1)

-- the numbers of a report
pub months_back : (months : List ℕ) → AreMonths months → months_in (months_bytes months) ≡ months
months_back months are =
    let long = pieces_long (big_endian 4) 4 (λ n. refl) months in
    let count : length (months_bytes months) / 4 ≡ length months = omega (arith, long) in
    ap (λ n. pieces_in 4 (λ piece. four_in piece 0) n (months_bytes months)) count
    ∙ pieces_back (big_endian 4) (λ piece. four_in piece 0) 4 (λ n. refl) (λ n. n < 2 ^ 32) four_back months are.small

-- the lines of delayed repairs
pub delays_back : (lines : List DelayLine) → AllByRecursion IsLine lines → delays_in (delays_bytes lines) ≡ lines
delays_back lines are =
    let long = pieces_long line_bytes 26 line_long lines in
    let count : length (delays_bytes lines) / 26 ≡ length lines = omega (arith, long) in
    ap (λ n. pieces_in 26 line_in n (delays_bytes lines)) count ∙ pieces_back line_bytes line_in 26 line_long IsLine line_back lines are

-- the shutdowns
pub stops_back : (stops : List Stop) → AllByRecursion IsStop stops → stops_in (stops_bytes stops) ≡ stops
stops_back stops are =
    let long = pieces_long stop_bytes 4 (λ stop. refl) stops in
    let count : length (stops_bytes stops) / 4 ≡ length stops = omega (arith, long) in
    ap (λ n. pieces_in 4 stop_in n (stops_bytes stops)) count ∙ pieces_back stop_bytes stop_in 4 (λ stop. refl) IsStop stop_back stops are
