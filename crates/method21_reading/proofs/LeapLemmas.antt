-- Leaps skip no drift assessment that voids a reading.
use Rattle.std.proofs.Common.{◌≡◌, ℕ, ◌+◌, ◌-◌, ◌*◌, ◌<◌, ◌≤◌, Bool, true, false, not, ◌&&◌, nat_eq, Option, Some, None, List, length, set, get_or}
use Rattle.std.proofs.Common.{refl, sym, ap, ◌∙◌, subst, inl, inr, arith, mul-le-mul_right, mul-le-mul_left, mul-lt-mul_of_pos_right}
use Rattle.std.specs.Prelude.{unwrap_or}
use Rattle.std.specs.List.{AllWithin}
use Rattle.std.proofs.lemmas.Bool.{cases_Bool, cases_lt, cases_eq, false≢true, eq-eqb, eqb-true, ltb-true, ltb-false, le-ltb, and_from}
use Rattle.std.proofs.lemmas.List.{get_or-set_same, get_or-set_other, length-set, get_or_past}
use Rattle.fact_kinds.specs.declared.body.FactBody.{FactBody}
use Rattle.fact_kinds.specs.declared.body.FactBody.TheVariants.{Drift}
use Rattle.fact_kinds.specs.Facts.{Entry}
use Rattle.ldar_law.specs.Fitness.{sum_of, has_drifted, is_above_drifted, is_drift_past}
use Rattle.ldar_law.proofs.TestLemmas.{both}
use Rattle.method21_reading.specs.declared.leaps.Leap.{Leap}
use Rattle.method21_reading.specs.Leaps.{is_clear, failed_in, NonePast, LeadsOver, LeapsTo, LeapsFrom, leap_in}
use Rattle.method21_reading.proofs.PlaceLemmas.{fails_right, fails_left, not_is_true}

-- ---- two assessments

-- if an assessment does not void a reading, nor does one that drifted no further; their known values and sums are v, s and w, t
carried : (limit ppm v s w t : ℕ) → 0 < v → ppm * (3 * v) ≤ limit * s → s * (3 * w) ≤ 3 * v * t → ppm * (3 * w) ≤ limit * t
carried limit ppm v s w t pos room no_further =
    elim (cases_lt (limit * t) (ppm * (3 * w))) [
      | inl lt ↦
          let larger : limit * t * (3 * v) < ppm * (3 * w) * (3 * v) = mul-lt-mul_of_pos_right {k = 3 * v} lt (omega (arith, pos)) in
          let here : ppm * (3 * v) * (3 * w) ≤ limit * s * (3 * w) = mul-le-mul_right (3 * w) room in
          let there : limit * (s * (3 * w)) ≤ limit * (3 * v * t) = mul-le-mul_left limit no_further in
          absurd (omega (arith, larger, here, there))
      | inr le ↦ le
    ]

-- the known value of a failed drift assessment is not 0
not_zero : (value sum : ℕ) → has_drifted value sum ≡ true → 0 < value
not_zero value sum e = let lt = ltb-true (3 * value) ((3 * value - sum) * 10) e in omega (arith, lt)

not_above : (limit ppm value sum : ℕ) → is_above_drifted limit ppm value sum ≡ false → ppm * (3 * value) ≤ limit * sum
not_above limit ppm value sum f = ltb-false (limit * sum) (ppm * (3 * value)) f

abbrev three : ℕ → ℕ → ℕ → Option (ℕ × ℕ × ℕ)
three a b c = Some (a, b, c)

some_three : (a b c d e f : ℕ) → three a b c ≡ three d e f → (a ≡ d) × (b ≡ e) × (c ≡ f)
some_three a b c d e f is = (
  ap (λ (o : Option (ℕ × ℕ × ℕ)). (unwrap_or o (0, 0, 0)).0) is,
  ap (λ (o : Option (ℕ × ℕ × ℕ)). (unwrap_or o (0, 0, 0)).1) is,
  ap (λ (o : Option (ℕ × ℕ × ℕ)). (unwrap_or o (0, 0, 0)).2) is,
)

to_not : (b : Bool) → b ≡ false → not b ≡ true
to_not b f = rw f refl

-- an assessment that does not void a reading is not past it
pub clear_not_past : (instrument limit ppm : ℕ) (body : FactBody) → is_clear instrument limit ppm body ≡ true → is_drift_past instrument limit ppm body ≡ false
clear_not_past instrument limit ppm (Drift of value readings) e =
    fails_right (nat_eq of instrument && has_drifted value (sum_of readings)) _ (not_is_true _ (both e).1)
clear_not_past instrument limit ppm _ e = refl

-- if an assessment does not void a reading, nor does one that drifted no further
between_not_past : (instrument limit ppm of value : ℕ) (readings : ℕ × ℕ × ℕ) (body : FactBody) →
    is_clear instrument limit ppm (Drift of value readings) ≡ true → is_drift_past of (3 * value) (sum_of readings) body ≡ false →
    is_drift_past instrument limit ppm body ≡ false
between_not_past instrument limit ppm of value readings (Drift other known found) clear no_further =
    let own = both (both clear).0 in
    let room = not_above limit ppm value (sum_of readings) (not_is_true _ (both clear).1) in
    elim (cases_Bool (nat_eq other instrument && has_drifted known (sum_of found))) [
      | inl t ↦
          let same : nat_eq other of ≡ true = eq-eqb other of (omega (arith, eqb-true other instrument (both t).0, eqb-true of instrument own.0)) in
          let failed : (nat_eq other of && has_drifted known (sum_of found)) ≡ true = and_from _ _ same (both t).1 in
          let less : is_above_drifted (3 * value) (sum_of readings) known (sum_of found) ≡ false =
          subst (λ b. (b && is_above_drifted (3 * value) (sum_of readings) known (sum_of found)) ≡ false) failed no_further in
          fails_right (nat_eq other instrument && has_drifted known (sum_of found)) _ (le-ltb (limit * sum_of found) (ppm * (3 * known))
          (carried limit ppm value (sum_of readings) known (sum_of found) (not_zero value (sum_of readings) own.1) room
          (not_above (3 * value) (sum_of readings) known (sum_of found) less)))
      | inr f ↦ fails_left _ _ f
    ]
between_not_past instrument limit ppm of value readings _ clear no_further = refl

-- if an assessment that drifted further does not void a reading, nor does the other one
further_clear : (instrument limit ppm of value : ℕ) (readings : ℕ × ℕ × ℕ) (body : FactBody) → has_drifted value (sum_of readings) ≡ true →
    is_drift_past of (3 * value) (sum_of readings) body ≡ true → is_clear instrument limit ppm body ≡ true →
    is_clear instrument limit ppm (Drift of value readings) ≡ true
further_clear instrument limit ppm of value readings (Drift other known found) drifted further clear =
    let own = both (both clear).0 in
    let room = not_above limit ppm known (sum_of found) (not_is_true _ (both clear).1) in
    let same = both (both further).0 in
    let more = ltb-true (3 * value * sum_of found) (sum_of readings * (3 * known)) (both further).1 in
    let is : nat_eq of instrument ≡ true = eq-eqb of instrument (omega (arith, eqb-true other instrument own.0, eqb-true other of same.0)) in
    and_from _ _ (and_from _ _ is drifted) (to_not _ (le-ltb (limit * sum_of readings) (ppm * (3 * value))
    (carried limit ppm known (sum_of found) value (sum_of readings) (not_zero known (sum_of found) own.1) room (omega (arith, more)))))
further_clear instrument limit ppm of value readings _ drifted further clear = absurd (false≢true clear)

-- the numbers of a failed drift assessment
pub drift_in : (body : FactBody) (of limit sum : ℕ) → failed_in body ≡ Some (of, limit, sum) →
    (value : ℕ) × (readings : ℕ × ℕ × ℕ) × (body ≡ Drift of value readings) × (has_drifted value (sum_of readings) ≡ true)
    × (limit ≡ 3 * value) × (sum ≡ sum_of readings)
drift_in (Drift other value readings) of limit sum is =
    elim (cases_Bool (has_drifted value (sum_of readings))) [
      | inl t ↦
          let some : three other (3 * value) (sum_of readings) ≡ three of limit sum = rw t at is in
          let parts = some_three other (3 * value) (sum_of readings) of limit sum some in
          (value, readings, ap (λ n. Drift n value readings) parts.0, t, sym parts.1, sym parts.2)
      | inr f ↦ let none : None ≡ three of limit sum = rw f at is in absurd cc
    ]
drift_in _ of limit sum is = absurd cc

pub no_drift_in : (instrument limit ppm : ℕ) (body : FactBody) → failed_in body ≡ None → is_clear instrument limit ppm body ≡ false
no_drift_in instrument limit ppm (Drift of value readings) is =
    elim (cases_Bool (has_drifted value (sum_of readings))) [
      | inl t ↦ let some : three of (3 * value) (sum_of readings) ≡ None = rw t at is in absurd cc
      | inr f ↦ fails_left _ _ (fails_right (nat_eq of instrument) _ f)
    ]
no_drift_in instrument limit ppm _ is = refl

-- ---- places

-- a property on two consecutive ranges holds on both together
pub joined_within : {X : Type 0} (P : X → Type 0) (xs : List X) (low mid high : ℕ) → AllWithin P xs low mid → AllWithin P xs mid high → AllWithin P xs low high
joined_within P xs low mid high first second k d above below =
    elim (cases_lt k mid) [
      | inl lt ↦ first k d above lt
      | inr le ↦ second k d le below
    ]

-- the leap to the first assessment that drifted further, with a jump from there
pub leaps_further : (facts : List Entry) (at of value : ℕ) (readings : ℕ × ℕ × ℕ) (next jump depth : ℕ) →
    ((d : Entry) → (get_or facts at d).1.body ≡ Drift of value readings) → has_drifted value (sum_of readings) ≡ true →
    at + 1 ≤ next → next ≤ length facts → next ≤ jump → jump ≤ length facts → NonePast of (3 * value) (sum_of readings) facts (at + 1) next →
    (next < length facts → AllWithin (λ e. is_drift_past of (3 * value) (sum_of readings) e.1.body ≡ true) facts next (next + 1)) →
    LeadsOver facts next jump → LeapsTo facts at (record { next = next; jump = jump; depth = depth })
leaps_further facts at of value readings next jump depth is drifted later bound over_next over_bound none past leads =
    let over : (instrument limit ppm : ℕ) (d : Entry) → is_clear instrument limit ppm (get_or facts at d).1.body ≡ true →
    NonePast instrument limit ppm facts at next =
    λ instrument limit ppm d clear k e above below. elim (cases_lt at k) [
      | inl lt ↦
          between_not_past instrument limit ppm of value readings (get_or facts k e).1.body
          (subst (λ b. is_clear instrument limit ppm b ≡ true) (is d) clear) (none k e (omega (arith, lt)) below)
      | inr le ↦
          let same : k ≡ at = omega (arith, le, above) in
          clear_not_past instrument limit ppm (get_or facts k e).1.body
          (ap (λ n. is_clear instrument limit ppm (get_or facts n e).1.body) same
          ∙ ap (is_clear instrument limit ppm) (is e ∙ sym (is d)) ∙ clear)
    ] in
    record {
      next_later = (omega (arith, later), bound);
      jump_later = (omega (arith, later, over_next), over_bound);
      next = over;
      jump = λ instrument limit ppm d within clear.
          let rest = leads instrument limit ppm d within clear in
          let here : is_clear instrument limit ppm (get_or facts at d).1.body ≡ true =
          ap (is_clear instrument limit ppm) (is d)
          ∙ further_clear instrument limit ppm of value readings (get_or facts next d).1.body drifted
          (past (omega (arith, over_next, within)) next d (omega arith) (omega arith)) rest.0 in
          (here, joined_within (λ e. is_drift_past instrument limit ppm e.1.body ≡ false) facts at next jump (over instrument limit ppm d here) rest.1);
    }

-- the leap from a fact that is no failed drift assessment
pub leaps_on : (facts : List Entry) (at depth : ℕ) → at < length facts →
    ((d : Entry) (instrument limit ppm : ℕ) → is_clear instrument limit ppm (get_or facts at d).1.body ≡ false) →
    LeapsTo facts at (record { next = at + 1; jump = length facts; depth = depth })
leaps_on facts at depth within never = record {
  next_later = (omega arith, omega (arith, within));
  jump_later = (within, omega arith);
  next = λ instrument limit ppm d clear. absurd (false≢true (sym (never d instrument limit ppm) ∙ clear));
  jump = λ instrument limit ppm d short clear. absurd (omega (arith, short));
}

-- a jump of length 0 skips nothing
pub leads_nowhere : (facts : List Entry) (place : ℕ) → LeadsOver facts place place
leads_nowhere facts place = λ instrument limit ppm d within clear. (clear, λ k e above below. absurd (omega (arith, above, below)))

module _ (facts : List Entry) (leaps : List Leap) (from : ℕ) (sound : LeapsFrom facts leaps from) where
  -- the leap from a place within the list
  leap_within : (place : ℕ) → from ≤ place → place < length facts → LeapsTo facts place (leap_in leaps place)
  leap_within place above within = sound.each place _ above within

  -- the jump at the end
  jump_at_end : (place : ℕ) → length facts ≤ place → (leap_in leaps place).jump ≡ length facts
  jump_at_end place past = ap (λ l. l.jump) (get_or_past leaps place _ (omega (arith, past, sound.all))) ∙ sound.all

  -- two jumps, one after the other
  pub two_jumps : from ≤ length facts →
      let far = (leap_in leaps from).jump in let farther = (leap_in leaps far).jump in
      ((from ≤ farther) × (farther ≤ length facts)) × LeadsOver facts from farther
  two_jumps within =
      let far = (leap_in leaps from).jump in
      let farther = (leap_in leaps far).jump in
      elim (cases_lt from (length facts)) [
        | inl lt ↦
            let first = leap_within from (omega arith) lt in
            elim (cases_lt far (length facts)) [
              | inl before ↦
                  let second = leap_within far (omega (arith, first.jump_later)) before in (
                    (omega (arith, first.jump_later, second.jump_later), second.jump_later.1),
                    λ instrument limit ppm d short clear.
                        let b = second.jump instrument limit ppm d short clear in
                        let a = first.jump instrument limit ppm d before b.0 in
                        (a.0, joined_within (λ e. is_drift_past instrument limit ppm e.1.body ≡ false) facts from far farther a.1 b.1),
                  )
              | inr past ↦
                  let end = jump_at_end far past in
                  ((omega (arith, within, end), omega (arith, end)), λ instrument limit ppm d short clear. absurd (omega (arith, short, end)))
            ]
        | inr past ↦
            let first = jump_at_end from past in
            let end = jump_at_end far (omega (arith, first)) in
            ((omega (arith, within, end), omega (arith, end)), λ instrument limit ppm d short clear. absurd (omega (arith, short, end)))
      ]

-- one more leap
pub leaps_more : (facts : List Entry) (leaps : List Leap) (at : ℕ) (leap : Leap) → at < length facts → LeapsFrom facts leaps (at + 1) → LeapsTo facts at leap →
    LeapsFrom facts (set leaps at leap) at
leaps_more facts leaps at leap within sound to = record {
  all = length-set leaps at leap ∙ sound.all;
  each = λ k d above below. elim (cases_eq k at) [
    | inl same ↦
        subst (λ n. LeapsTo facts n (get_or (set leaps at leap) n d)) (sym same)
        (subst (LeapsTo facts at) (sym (get_or-set_same leaps at leap d (omega (arith, within, sound.all)))) to)
    | inr differ ↦
        subst (LeapsTo facts k) (sym (get_or-set_other leaps at k leap d differ))
        (sound.each k d (omega (arith, above, differ)) below)
  ];
}

-- the leaps from a place on include those from a later place on
pub leaps_later : (facts : List Entry) (leaps : List Leap) (from : ℕ) → LeapsFrom facts leaps 0 → LeapsFrom facts leaps from
leaps_later facts leaps from sound = record { all = sound.all; each = λ at d above below. sound.each at d (omega arith) below }
