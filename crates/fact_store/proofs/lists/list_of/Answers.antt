use Rattle.std.proofs.Common.{◌≡◌, [], sym, ◌∙◌, arith}
use Rattle.fact_store.proofs.ListLemmas.{value_at-read, value_at-past}
use Rattle.fact_store.proofs.lists.list_of.Goals as goal

pub returns-then-at-len : goal.returns-then-at-len
returns-then-at-len g c =
    let lists = c.args.lists.now in
    let number : c.from-at.result ≡ c.args.number = cc in
    record {
      value = c.as_slice.ensures.value
          ∙ sym (value_at-read (λ v. v.items) [] lists.items c.args.number c.index.result.now (omega (arith, lists.ok.0)) (rw number at c.index.ensures));
    }

pub returns-else-at-len : goal.returns-else-at-len
returns-else-at-len g c =
    let lists = c.args.lists.now in
    record { value = sym (value_at-past (λ v. v.items) [] lists.items c.args.number (omega (arith, lists.ok.0))) }
