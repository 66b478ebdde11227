-- The derived equality of delay lines and shutdowns, and of lists of them, is equality.
use Rattle.std.proofs.Common.{◌≡◌, ◌&&◌, ◌↔◌, ℕ, Bool, true, Option, Some, None, List, [], ◌∷◌, refl, sym, ap, ◌∙◌, eqb, arith}
use Rattle.std.proofs.lemmas.Bool.{eqb-true, eq-eqb, and_parts}
use Rattle.std.proofs.lemmas.Bool.Decides.{nat_tests}
use Rattle.std.specs.Option.{option_eq}
use lib.Pointwise.{pointwise}
use Rattle.fact_kinds.specs.declared.key.Key.{Key}
use Rattle.fact_kinds.specs.contracts.key.KeyPartialEq.TheImpl as keys
use Rattle.fact_kinds.proofs.FieldEquality.{pointwise_itself}
use Rattle.ldar_law.specs.declared.delay.DelayEntry.{DelayEntry}
use Rattle.ldar_law.specs.declared.delay.DelayLine.{DelayLine}
use Rattle.ldar_law.specs.declared.delay.Stop.{Stop}
use Rattle.ldar_law.specs.declared.delay.Until.{Until}
use Rattle.ldar_law.specs.declared.delay.Until.TheVariants.{Date, Shutdown, WhileIsolated, NoDate}
use Rattle.ldar_law.specs.contracts.delay.DelayEntryPartialEq.TheImpl as delays
use Rattle.ldar_law.specs.contracts.delay.DelayLinePartialEq.TheImpl as lines
use Rattle.ldar_law.specs.contracts.delay.StopPartialEq.TheImpl as stops
use Rattle.ldar_law.specs.contracts.delay.UntilPartialEq.TheImpl as untils

-- optional days that are equal by the test are equal
same_day : (a b : Option ℕ) → option_eq eqb a b ≡ true → a ≡ b
same_day None None h = refl
same_day (Some a) (Some b) h = ap Some (eqb-true a b h)
same_day a b h = absurd cc

-- an optional day is equal to itself by the test
day_itself : (a : Option ℕ) → option_eq eqb a a ≡ true
day_itself None = refl
day_itself (Some a) = eq-eqb a a refl

-- keys that are equal by the test are equal
same_key : (a b : Key) → (keys.eq-value).it a b ≡ true → a ≡ b
same_key a b h = grind (arith, nat_tests)

-- a key is equal to itself by the test
key_itself : (a : Key) → (keys.eq-value).it a a ≡ true
key_itself a = grind (arith, nat_tests)

-- due days of repairs that are equal by the test are equal
same_until : (a b : Until) → (untils.eq-value).it a b ≡ true → a ≡ b
same_until (Date a) (Date b) h = ap Date (eqb-true a b h)
same_until Shutdown Shutdown h = refl
same_until WhileIsolated WhileIsolated h = refl
same_until NoDate NoDate h = refl
same_until a b h = absurd cc

-- a due day of a repair is equal to itself by the test
until_itself : (a : Until) → (untils.eq-value).it a a ≡ true
until_itself (Date a) = eq-eqb a a refl
until_itself Shutdown = refl
until_itself WhileIsolated = refl
until_itself NoDate = refl

-- delays that are equal by the test are equal
same_delay : (a b : DelayEntry) → (delays.eq-value).it a b ≡ true → a ≡ b
same_delay a b h = grind (arith, nat_tests, same_key, same_day)

-- a delay is equal to itself by the test
delay_itself : (a : DelayEntry) → (delays.eq-value).it a a ≡ true
delay_itself a = grind (arith, nat_tests, key_itself, day_itself)

-- a line from its parts
abbrev line : ℕ → ℕ → DelayEntry → Until → Option ℕ → DelayLine
line component detected delay until closed = record { component = component; detected = detected; delay = delay; until = until; closed = closed }

-- lines with equal parts are equal
same_parts : (c c' d d' : ℕ) (e e' : DelayEntry) (u u' : Until) (o o' : Option ℕ) → c ≡ c' → d ≡ d' → e ≡ e' → u ≡ u' → o ≡ o'
    → line c d e u o ≡ line c' d' e' u' o'
same_parts c c' d d' e e' u u' o o' components days delays untils closings = cc

-- lines that are equal by the test are equal
same_line : (a b : DelayLine) → (lines.eq-value).it a b ≡ true → a ≡ b
same_line a b h =
    let delay = (delays.eq-value).it a.delay b.delay in
    let until = (untils.eq-value).it a.until b.until in
    let closed = option_eq eqb a.closed b.closed in
    let first = and_parts (eqb a.component b.component) (eqb a.detected b.detected && (delay && (until && closed))) h in
    let second = and_parts (eqb a.detected b.detected) (delay && (until && closed)) first.1 in
    let third = and_parts delay (until && closed) second.1 in
    let fourth = and_parts until closed third.1 in
    same_parts a.component b.component a.detected b.detected a.delay b.delay a.until b.until a.closed b.closed
    (eqb-true a.component b.component first.0) (eqb-true a.detected b.detected second.0) (same_delay a.delay b.delay third.0)
    (same_until a.until b.until fourth.0) (same_day a.closed b.closed fourth.1)

-- a line is equal to itself by the test
line_itself : (a : DelayLine) → (lines.eq-value).it a a ≡ true
line_itself a = grind (arith, nat_tests, delay_itself, until_itself, day_itself)

-- shutdowns that are equal by the test are equal
same_stop : (a b : Stop) → (stops.eq-value).it a b ≡ true → a ≡ b
same_stop a b h = grind (arith, nat_tests)

-- a shutdown is equal to itself by the test
stop_itself : (a : Stop) → (stops.eq-value).it a a ≡ true
stop_itself a = grind (arith, nat_tests)

module _ {X : Type 0} (E : X → X → Bool) (same : (a b : X) → E a b ≡ true → a ≡ b) (itself : (a : X) → E a a ≡ true) where
  -- lists that are equal by the test are equal
  same_list : (xs ys : List X) → pointwise E xs ys ≡ true → xs ≡ ys
  same_list [] [] h = refl
  same_list (x ∷ xs) (y ∷ ys) h =
      let parts = and_parts (E x y) (pointwise E xs ys) h in
      let first = same x y parts.0 in
      let rest = same_list xs ys parts.1 in
      cc
  same_list xs ys h = absurd cc

  -- two lists are equal by the test exactly if they are equal
  lists_agree : (xs ys : List X) (told : Bool) → told ≡ pointwise E xs ys → (told ≡ true) ↔ (xs ≡ ys)
  lists_agree xs ys told is = (
    λ h. same_list xs ys (sym is ∙ h),
    λ same. is ∙ ap (λ l. pointwise E xs l) (sym same) ∙ pointwise_itself E itself xs,
  )

-- two lists of lines are equal by the test exactly if they are equal
pub lines_agree : (xs ys : List DelayLine) (told : Bool) → told ≡ pointwise (lines.eq-value).it xs ys → (told ≡ true) ↔ (xs ≡ ys)
lines_agree = lists_agree (lines.eq-value).it same_line line_itself

-- two lists of shutdowns are equal by the test exactly if they are equal
pub stops_agree : (xs ys : List Stop) (told : Bool) → told ≡ pointwise (stops.eq-value).it xs ys → (told ≡ true) ↔ (xs ≡ ys)
stops_agree = lists_agree (stops.eq-value).it same_stop stop_itself
