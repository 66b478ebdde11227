-- Bytes at a place in others, split into the pieces that they consist of.
use Rattle.std.proofs.Common.{◌≡◌, ℕ, ◌+◌, ◌*◌, ◌/◌, ◌%◌, ◌^◌, ◌<◌, ◌≤◌, List, [], ◌∷◌, ◌++◌, zero, suc, take, drop, length, get_or, Option}
use Rattle.std.proofs.Common.{Some, None, IfSome, is_none, true, false, refl, sym, ap, ◌∙◌, take-take, take_at, drop_at, drop-drop, arith}
use Rattle.std.proofs.lemmas.List.{drop_more, drop-take, length-append}
use Rattle.std.specs.List.{flat_map, AllByRecursion}
use Rattle.fact_kinds.specs.declared.key.Key.{Key}
use Rattle.fact_kinds.specs.Fields.{big_endian}
use Rattle.ldar_law.specs.declared.delay.DelayEntry.{DelayEntry}
use Rattle.ldar_law.specs.declared.delay.DelayLine.{DelayLine}
use Rattle.ldar_law.specs.declared.delay.Stop.{Stop}
use Rattle.ldar_law.specs.declared.delay.Until.{Until}
use Rattle.ldar_law.specs.declared.delay.Until.TheVariants.{Date, Shutdown, WhileIsolated, NoDate}
use Rattle.report_table.specs.CellBytes.{day_bytes, key_bytes, until_bytes, delay_bytes, line_bytes, stop_bytes, months_bytes, delays_bytes, stops_bytes}
use Rattle.report_table.specs.Ranges.{IsLine, IsStop, AreMonths}

-- two pieces, one after the other
pub parted : (xs a b : List ℕ) (at n m next : ℕ) → length a ≡ n → next ≡ at + n → take (n + m) (drop at xs) ≡ a ++ b
    → (take n (drop at xs) ≡ a) × (take m (drop next xs) ≡ b)
parted xs a b at n m next long is both = (
  sym (take-take n (n + m) (drop at xs) (omega arith)) ∙ ap (take n) both ∙ take_at a b n long,
  ap (λ k. take m (drop k xs)) is ∙ ap (take m) (sym (drop-drop n at xs)) ∙ sym (drop-take n m (drop at xs)) ∙ ap (drop n) both ∙ drop_at a b n long,
)

-- a byte
pub one_read : (xs : List ℕ) (at n : ℕ) → at < length xs → n < 2 ^ 8 → take 1 (drop at xs) ≡ big_endian 1 n → get_or xs at 0 ≡ n
one_read xs at n within small is =
    let byte : get_or xs at 0 ≡ n / 1 % 256 = ap (λ l. get_or l 0 0) (sym (ap (take 1) (drop_more xs at 0 within)) ∙ is) in
    omega (arith, byte, small)

-- two bytes
pub two_read : (xs : List ℕ) (at n : ℕ) → at + 2 ≤ length xs → n < 2 ^ 16 → take 2 (drop at xs) ≡ big_endian 2 n
    → get_or xs at 0 * 256 + get_or xs (at + 1) 0 ≡ n
two_read xs at n within small is =
    let here : take 2 (drop at xs) ≡ get_or xs at 0 ∷ get_or xs (at + 1) 0 ∷ [] =
    ap (take 2) (drop_more xs at 0 (omega (arith, within)) ∙ ap (λ l. get_or xs at 0 ∷ l) (drop_more xs (at + 1) 0 (omega (arith, within)))) in
    let high : get_or xs at 0 ≡ n / 256 % 256 = ap (λ l. get_or l 0 0) (sym here ∙ is) in
    let low : get_or xs (at + 1) 0 ≡ n / 1 % 256 = ap (λ l. get_or l 1 0) (sym here ∙ is) in
    omega (arith, high, low, small)

-- four bytes, as the two numbers of two bytes each
pub four_parts : (n : ℕ) → n < 2 ^ 32 → big_endian 4 n ≡ big_endian 2 (n / 65_536) ++ big_endian 2 (n % 65_536)
four_parts n small =
    let first : n / 16_777_216 % 256 ≡ n / 65_536 / 256 % 256 = omega (arith, small) in
    let second : n / 65_536 % 256 ≡ n / 65_536 / 1 % 256 = omega (arith, small) in
    let third : n / 256 % 256 ≡ n % 65_536 / 256 % 256 = omega (arith, small) in
    let fourth : n / 1 % 256 ≡ n % 65_536 / 1 % 256 = omega (arith, small) in
    λ i. first i ∷ second i ∷ third i ∷ fourth i ∷ []

-- ---- pieces of one width

module _ {X : Type 0} (f : X → List ℕ) (width : ℕ) (wide : (x : X) → length (f x) ≡ width) where
  -- the length of the pieces
  pub pieces_long : (xs : List X) → length (flat_map f xs) ≡ width * length xs
  pieces_long [] = omega arith
  pieces_long (x ∷ xs) = length-append (f x) (flat_map f xs) ∙ omega (arith, wide x, pieces_long xs)

  -- the piece at a place, and its item
  pub piece_at : (P : X → Type 0) (xs : List X) (at : ℕ) → AllByRecursion P xs → at < length xs
      → (x : X) × (P x) × (take (at + 1) xs ≡ take at xs ++ x ∷ []) × (take width (drop (width * at) (flat_map f xs)) ≡ f x)
  piece_at P [] at all within = absurd (omega (arith, within))
  piece_at P (x ∷ xs) zero all within =
      let none : width * 0 ≡ 0 = omega arith in
      (x, all.0, refl, ap (λ k. take width (drop k (f x ++ flat_map f xs))) none ∙ take_at (f x) (flat_map f xs) width (wide x))
  piece_at P (x ∷ xs) (suc at) all within =
      let found = piece_at P xs at all.1 (omega (arith, within)) in
      let next : suc at + 1 ≡ suc (at + 1) = omega arith in
      let on : width * suc at ≡ width + width * at = omega arith in (
        found.0,
        found.1,
        ap (λ k. take k (x ∷ xs)) next ∙ ap (λ l. x ∷ l) found.2,
        ap (λ k. take width (drop k (f x ++ flat_map f xs))) on
            ∙ ap (take width) (sym (drop-drop (width * at) width (f x ++ flat_map f xs))
            ∙ ap (drop (width * at)) (drop_at (f x) (flat_map f xs) width (wide x)))
            ∙ found.3,
      )

-- ---- the bytes of a report's parts

-- a day or none has two bytes
pub day_long : (day : Option ℕ) → length (day_bytes day) ≡ 2
day_long None = refl
day_long (Some day) = refl

-- the due day of a repair has three bytes
pub until_long : (until : Until) → length (until_bytes until) ≡ 3
until_long (Date day) = refl
until_long Shutdown = refl
until_long WhileIsolated = refl
until_long NoDate = refl

-- a delay has 17 bytes
pub delay_long : (delay : DelayEntry) → length (delay_bytes delay) ≡ 17
delay_long delay =
    ap (λ n. suc (suc (suc (suc (suc (suc (suc (suc (suc (suc (suc (suc (suc (suc (suc (n)))))))))))))))) (day_long delay.expected)

-- a line has 26 bytes
pub line_long : (line : DelayLine) → length (line_bytes line) ≡ 26
line_long line =
    let tail : length (until_bytes line.until ++ day_bytes line.closed) ≡ 5 =
    length-append (until_bytes line.until) (day_bytes line.closed) ∙ omega (arith, until_long line.until, day_long line.closed) in
    let rest : length (delay_bytes line.delay ++ (until_bytes line.until ++ day_bytes line.closed)) ≡ 22 =
    length-append (delay_bytes line.delay) (until_bytes line.until ++ day_bytes line.closed) ∙ omega (arith, delay_long line.delay, tail) in
    ap (λ n. suc (suc (suc (suc n)))) rest

module _ (xs : List ℕ) (at : ℕ) where
  -- the parts of a key
  pub record KeyParts (key : Key) : Type 0 where
    pub day : take 2 (drop at xs) ≡ big_endian 2 key.day
    pub minute : take 2 (drop (at + 2) xs) ≡ big_endian 2 key.minute
    pub handheld : take 2 (drop (at + 4) xs) ≡ big_endian 2 key.handheld
    pub number : take 4 (drop (at + 6) xs) ≡ big_endian 4 key.number
    pub index : take 2 (drop (at + 10) xs) ≡ big_endian 2 key.index

  -- the parts of a key are at the key's place
  pub key_parts : (key : Key) → take 12 (drop at xs) ≡ key_bytes key → KeyParts key
  key_parts key is =
      let day = parted xs (big_endian 2 key.day) _ at 2 10 (at + 2) refl refl is in
      let minute = parted xs (big_endian 2 key.minute) _ (at + 2) 2 8 (at + 4) refl (omega arith) day.1 in
      let handheld = parted xs (big_endian 2 key.handheld) _ (at + 4) 2 6 (at + 6) refl (omega arith) minute.1 in
      let number = parted xs (big_endian 4 key.number) (big_endian 2 key.index) (at + 6) 4 2 (at + 10) refl (omega arith) handheld.1 in
      record { day = day.0; minute = minute.0; handheld = handheld.0; number = number.0; index = number.1 }

  -- the parts of a delay
  pub record DelayParts (delay : DelayEntry) : Type 0 where
    pub key : take 12 (drop at xs) ≡ key_bytes delay.key
    pub ground : take 1 (drop (at + 12) xs) ≡ big_endian 1 delay.ground
    pub signer : take 2 (drop (at + 13) xs) ≡ big_endian 2 delay.signer
    pub expected : take 2 (drop (at + 15) xs) ≡ day_bytes delay.expected

  -- the parts of a delay are at the delay's place
  pub delay_parts : (delay : DelayEntry) → take 17 (drop at xs) ≡ delay_bytes delay → DelayParts delay
  delay_parts delay is =
      let key = parted xs (key_bytes delay.key) _ at 12 5 (at + 12) refl refl is in
      let ground = parted xs (big_endian 1 delay.ground) _ (at + 12) 1 4 (at + 13) refl (omega arith) key.1 in
      let signer = parted xs (big_endian 2 delay.signer) (day_bytes delay.expected) (at + 13) 2 2 (at + 15) refl (omega arith) ground.1 in
      record { key = key.0; ground = ground.0; signer = signer.0; expected = signer.1 }

  -- the parts of a line
  pub record LineParts (line : DelayLine) : Type 0 where
    pub component : take 2 (drop at xs) ≡ big_endian 2 line.component
    pub detected : take 2 (drop (at + 2) xs) ≡ big_endian 2 line.detected
    pub delay : take 17 (drop (at + 4) xs) ≡ delay_bytes line.delay
    pub until : take 3 (drop (at + 21) xs) ≡ until_bytes line.until
    pub closed : take 2 (drop (at + 24) xs) ≡ day_bytes line.closed

  -- the parts of a line are at the line's place
  pub line_parts : (line : DelayLine) → take 26 (drop at xs) ≡ line_bytes line → LineParts line
  line_parts line is =
      let component = parted xs (big_endian 2 line.component) _ at 2 24 (at + 2) refl refl is in
      let detected = parted xs (big_endian 2 line.detected) _ (at + 2) 2 22 (at + 4) refl (omega arith) component.1 in
      let delay = parted xs (delay_bytes line.delay) _ (at + 4) 17 5 (at + 21) (delay_long line.delay) (omega arith) detected.1 in
      let until = parted xs (until_bytes line.until) (day_bytes line.closed) (at + 21) 3 2 (at + 24) (until_long line.until) (omega arith) delay.1 in
      record { component = component.0; detected = detected.0; delay = delay.0; until = until.0; closed = until.1 }

  -- the days of a shutdown
  pub stop_parts : (stop : Stop) → take 4 (drop at xs) ≡ stop_bytes stop
      → (take 2 (drop at xs) ≡ big_endian 2 stop.first) × (take 2 (drop (at + 2) xs) ≡ big_endian 2 stop.last)
  stop_parts stop is = parted xs (big_endian 2 stop.first) (big_endian 2 stop.last) at 2 2 (at + 2) refl refl is

-- ---- the next piece of a list of items

-- the next item, which fits and is at its place
pub record Next {X : Type 0} (f : X → List ℕ) (width : ℕ) (P : X → Type 0) (given : List X) (bytes : List ℕ) (at : ℕ) : Type 0 where
  pub item : X
  pub fits : P item
  pub follows : take (at + 1) given ≡ take at given ++ item ∷ []
  pub stands : take width (drop (width * at) bytes) ≡ f item

-- the item at a place of the list is the next one
pub next_of : {X : Type 0} (f : X → List ℕ) (width : ℕ) → ((x : X) → length (f x) ≡ width) → (P : X → Type 0) (given : List X) (bytes : List ℕ) (at : ℕ)
    → AllByRecursion P given → bytes ≡ flat_map f given → at < length given → Next f width P given bytes at
next_of f width wide P given bytes at all is within =
    let found = piece_at f width wide P given at all within in
    record { item = found.0; fits = found.1; follows = found.2; stands = ap (λ l. take width (drop (width * at) l)) is ∙ found.3 }

-- a line
pub next_line : (given : List DelayLine) (bytes : List ℕ) (at : ℕ) → AllByRecursion IsLine given → bytes ≡ delays_bytes given
    → at < length bytes / 26 → Next line_bytes 26 IsLine given bytes at
next_line given bytes at all is within =
    next_of line_bytes 26 line_long IsLine given bytes at all is (omega (arith, within, ap length is, pieces_long line_bytes 26 line_long given))

-- a shutdown
pub next_stop : (given : List Stop) (bytes : List ℕ) (at : ℕ) → AllByRecursion IsStop given → bytes ≡ stops_bytes given
    → at < length bytes / 4 → Next stop_bytes 4 IsStop given bytes at
next_stop given bytes at all is within =
    next_of stop_bytes 4 (λ _. refl) IsStop given bytes at all is (omega (arith, within, ap length is, pieces_long stop_bytes 4 (λ _. refl) given))

-- a number
pub next_number : (given : List ℕ) (bytes : List ℕ) (at : ℕ) → AreMonths given → bytes ≡ months_bytes given → at < 36
    → Next (big_endian 4) 4 (λ n. n < 2 ^ 32) given bytes at
next_number given bytes at are is within =
    next_of (big_endian 4) 4 (λ _. refl) (λ n. n < 2 ^ 32) given bytes at are.small is (omega (arith, within, are.places))

-- the number of lines, from the length of the bytes
pub lines_long : (given : List DelayLine) (bytes : List ℕ) → bytes ≡ delays_bytes given → length bytes ≡ 26 * length given
lines_long given bytes is = ap length is ∙ pieces_long line_bytes 26 line_long given

-- the number of shutdowns, from the length of the bytes
pub stops_long : (given : List Stop) (bytes : List ℕ) → bytes ≡ stops_bytes given → length bytes ≡ 4 * length given
stops_long given bytes is = ap length is ∙ pieces_long stop_bytes 4 (λ _. refl) given

-- the number of numbers, from the length of the bytes
pub months_long : (given : List ℕ) (bytes : List ℕ) → AreMonths given → bytes ≡ months_bytes given → length bytes ≡ 144
months_long given bytes are is = ap length is ∙ pieces_long (big_endian 4) 4 (λ _. refl) given ∙ omega (arith, are.places)

-- ---- what is read back is equal

-- the item of an option, or another one for None
abbrev item_or : {X : Type 0} → X → Option X → X
item_or other None = other
item_or other (Some item) = item

-- an option has only one item
pub same_item : {X : Type 0} (a b : X) → Some a ≡ Some b → a ≡ b
same_item a b is = ap (item_or a) is

-- `None` has no item
pub no_item : {X Y : Type 0} (x : X) → None ≡ Some x → Y
no_item x is = let none : true ≡ false = ap is_none is in absurd cc

-- four bytes are two numbers of two bytes
pub four_halves : (xs : List ℕ) (at n : ℕ) → n < 2 ^ 32 → take 4 (drop at xs) ≡ big_endian 4 n
    → (take 2 (drop at xs) ≡ big_endian 2 (n / 65_536)) × (take 2 (drop (at + 2) xs) ≡ big_endian 2 (n % 65_536))
four_halves xs at n small is =
    parted xs (big_endian 2 (n / 65_536)) (big_endian 2 (n % 65_536)) at 2 2 (at + 2) refl refl (is ∙ four_parts n small)

-- keys with equal parts are equal
pub same_key : (a b : Key) → a.day ≡ b.day → a.minute ≡ b.minute → a.handheld ≡ b.handheld → a.number ≡ b.number → a.index ≡ b.index → a ≡ b
same_key a b day minute handheld number index =
    λ i. record { day = day i; minute = minute i; handheld = handheld i; number = number i; index = index i }

-- delays with equal parts are equal
pub same_delay : (a b : DelayEntry) → a.key ≡ b.key → a.ground ≡ b.ground → a.signer ≡ b.signer → a.expected ≡ b.expected → a ≡ b
same_delay a b key ground signer expected = λ i. record { key = key i; ground = ground i; signer = signer i; expected = expected i }

-- lines with equal parts are equal
pub same_line : (a b : DelayLine) → a.component ≡ b.component → a.detected ≡ b.detected → a.delay ≡ b.delay → a.until ≡ b.until → a.closed ≡ b.closed → a ≡ b
same_line a b component detected delay until closed =
    λ i. record { component = component i; detected = detected i; delay = delay i; until = until i; closed = closed i }

-- shutdowns with equal days are equal
pub same_stop : (a b : Stop) → a.first ≡ b.first → a.last ≡ b.last → a ≡ b
same_stop a b first last = λ i. record { first = first i; last = last i }

-- a weaker property of an optional item
pub if_some_then : {X : Type 0} (P Q : X → Type 0) (found : Option X) → ((x : X) → P x → Q x) → IfSome found P → IfSome found Q
if_some_then P Q None step holds = holds
if_some_then P Q (Some x) step holds = step x holds

-- an option with an item is not `None`
pub given_is_given : {X Y : Type 0} (found : Option X) (item : X) → found ≡ Some item → is_none found ≡ true → Y
given_is_given found item is none = let both : false ≡ true = sym (ap is_none is) ∙ none in absurd cc
