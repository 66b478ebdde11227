use Rattle.std.proofs.Common.{take, sym, ap, ◌∙◌}
use Rattle.std.specs.List.{list_any}
use Rattle.method21_reading.specs.Gases.{calibrates_on, calibrates_within_on}
use Rattle.method21_reading.proofs.GasLemmas.{calibrated_in_front, within_in_front}
use Rattle.method21_reading.proofs.instrument.Instrument.least_gas.Goals as goal

pub returns-clause-any : goal.returns-clause-any
returns-clause-any c =
    let a = c.args in
    let day = a.key.now.day in
    c.least_before.ensures.any
    ∙ ap (λ es. list_any (calibrates_on a.instrument day) (take a.count es)) c.calibrations.ensures.value
    ∙ sym (calibrated_in_front a.self.now.calibrations a.key.now a.count c.requires.bound c.requires.count a.instrument)

pub returns-clause-least : goal.returns-clause-least
returns-clause-least c most =
    let a = c.args in
    let day = a.key.now.day in
    c.least_before.ensures.least most
    ∙ ap (λ es. list_any (calibrates_within_on a.instrument most day) (take a.count es)) c.calibrations.ensures.value
    ∙ sym (within_in_front a.self.now.calibrations a.key.now a.count c.requires.bound c.requires.count a.instrument most)
