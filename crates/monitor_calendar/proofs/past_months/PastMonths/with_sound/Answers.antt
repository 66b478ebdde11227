use Rattle.std.proofs.Common.{◌≡◌, ◌<◌, ◌≤◌, true, false, [], ◌∷◌, ◌++◌, is_some, sym, subst, inl, inr, arith}
use Rattle.ldar_days.specs.Calendar.{month_of}
use Rattle.ldar_law.specs.Happenings.{is_leak, is_routine_below}
use Rattle.monitor_calendar.specs.Behind.{Tells, pair_with}
use Rattle.monitor_calendar.proofs.PastLemmas.{told_same, told_paired, told_below}
use Rattle.monitor_calendar.proofs.past_months.PastMonths.with_sound.Goals as goal

pub returns-then-is_some : goal.returns-then-is_some
returns-then-is_some c =
    let e = c.args.e.now in
    let sound : is_leak e.what ≡ false = c.requires.sound in
    let paired : is_some c.args.self.pair ≡ true = cc in
    record { value = λ last front tells le. told_paired c.args.self last front e tells le paired sound }

pub returns-then-not-is_routine_below : goal.returns-then-not-is_routine_below
returns-then-not-is_routine_below c =
    let e = c.args.e.now in
    let sound : is_leak e.what ≡ false = c.requires.sound in
    let fails : is_routine_below e.what ≡ false = cc in
    record { value = λ last front tells le. told_same c.args.self last front e tells le sound (inr fails) }

pub returns-then-month-self : goal.returns-then-month-self
returns-then-month-self c =
    let e = c.args.e.now in
    let at : c.number-month.result ≡ month_of e.key.day = omega arith in
    let sound : is_leak e.what ≡ false = c.requires.sound in
    let early : month_of e.key.day ≤ c.args.self.leak = omega arith in
    record { value = λ last front tells le. told_same c.args.self last front e tells le sound (inl early) }

pub returns : goal.returns
returns c =
    let e = c.args.e.now in
    let at : c.number-month.result ≡ month_of e.key.day = omega arith in
    let sound : is_leak e.what ≡ false = c.requires.sound in
    let after : c.args.self.leak < month_of e.key.day = omega arith in
    let read : is_routine_below e.what ≡ true = cc in
    record {
      value = λ last front tells le.
          subst (λ p. Tells (record { leak = c.args.self.leak; below = c.number-month.result; pair = p }) (month_of e.key.day) (front ++ e ∷ []))
          (sym c.pair_with.ensures.value)
          (subst (λ m. Tells (record { leak = c.args.self.leak; below = m; pair = pair_with c.args.self m }) (month_of e.key.day) (front ++ e ∷ [])) (sym at)
          (told_below c.args.self last front e tells le sound after read));
    }
