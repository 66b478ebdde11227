use Rattle.std.proofs.Common.{◌≡◌, ℕ, ◌+◌, ◌-◌, ap, drop, take, subst, sym, ◌∙◌, arith}
use Rattle.std.proofs.lemmas.List.{drop-drop}
use Rattle.ldar_facts.specs.Form.{Takes}
use Rattle.fact_kinds.specs.Name.{spelled_name}
use Rattle.ldar_facts.specs.Letters.{name_form}
use Rattle.ldar_facts.proofs.PaddedName.{name_stands}
use Rattle.ldar_facts.proofs.field_at.name_at.Goals as goal

pub returns-in-Some : goal.returns-in-Some
returns-in-Some c =
    let twelve : c.args.at + 12 - c.args.at ≡ 12 = omega arith in
    let stands = sym (c.copy_from_slice.ensures.after ∙ ap (λ n. take n (drop c.args.at c.args.bytes.now)) twelve) ∙ c.in-Some.ensures.1 in
    name_stands c.args.at c.args.bytes.now c.in-Some.name c.in-Some.ensures.0 stands

pub returns-in-None : goal.returns-in-None
returns-in-None c =
    let read : Takes name_form.read c.name_by_letters.result (drop c.args.at c.args.bytes.now) (drop 12 (drop c.args.at c.args.bytes.now)) =
    subst (λ l. Takes name_form.read c.name_by_letters.result l (drop 12 l)) c.bytes_from.ensures c.name_by_letters.ensures in
    subst (λ l. Takes name_form.read c.name_by_letters.result (drop c.args.at c.args.bytes.now) l) (drop-drop 12 c.args.at c.args.bytes.now) read
