use Rattle.std.proofs.Common.{◌-◌, ◌&&◌, length, drop, find, option_map, sym, ap, ◌∙◌, arith}
use Rattle.std.proofs.lemmas.List.{take_all, length-drop}
use Rattle.fact_kinds.specs.Facts.{is_earlier}
use Rattle.ldar_law.specs.Fitness.{is_calibration}
use Rattle.method21_reading.specs.Readings as readings
use Rattle.method21_reading.proofs.VoidLemmas.{next_behind}
use Rattle.method21_reading.proofs.calibration.calibration_after.Goals as goal

pub returns : goal.returns
returns c =
    let a = c.args in
    let facts = a.facts.now in
    let rest = take_all (length facts - a.count) (drop a.count facts) (omega (arith, length-drop a.count facts)) in
    record {
      value = λ later.
          next_behind facts a.count a.key.now a.instrument later c.requires.ordered c.requires.within c.requires.earlier
          ∙ ap
          (λ es. readings.is_before (option_map (λ e. e.0) (find (λ e. is_calibration a.instrument e.1.body && is_earlier a.key.now e.0) es)) later)
          (sym rest)
          ∙ ap (λ next. readings.is_before next later) (sym c.first_later.ensures.value);
    }
