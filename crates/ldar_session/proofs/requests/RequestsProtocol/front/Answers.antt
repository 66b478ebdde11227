use Rattle.std.proofs.Common.{◌+◌, ◌<◌, ◌++◌, inl, inr, length, sym, subst, arith}
use Rattle.std.proofs.lemmas.Bool.{cases_lt}
use Rattle.handheld_http.proofs.ItemLaws.{extent_stays}
use Rattle.ldar_session.specs.Requests.{Knows}
use Rattle.ldar_session.proofs.RequestLemmas.{lacks_body, none_joins_more, none_joins_refused, unended_knows}
use Rattle.ldar_session.proofs.requests.RequestsProtocol.front.Goals as goal

-- bytes of the body are missing
pub returns-else-has_body-clause-joins : goal.returns-else-has_body-clause-joins
returns-else-has_body-clause-joins c =
    let bytes = c.args.bytes.now in
    let extent = c.in-Head.extent in
    let short : length bytes < extent.head + extent.body =
    elim (cases_lt (length bytes) (extent.head + extent.body)) [
      | inl lt ↦ lt
      | inr ge ↦ let there = c.has_body.ensures.value.1 (omega (arith, ge)) in let missing = c.if-has_body.false in absurd cc
    ] in
    none_joins_more bytes (lacks_body bytes extent c.in-Head.ensures.value short)

pub returns-else-has_body-clause-known : goal.returns-else-has_body-clause-known
returns-else-has_body-clause-known c more = extent_stays c.args.bytes.now more c.in-Head.extent c.in-Head.ensures.value

-- the head has not ended
pub returns-in-Unended-clause-joins : goal.returns-in-Unended-clause-joins
returns-in-Unended-clause-joins c = none_joins_more c.args.bytes.now (inl c.in-Unended.ensures.value)

pub returns-in-Unended-clause-known : goal.returns-in-Unended-clause-known
returns-in-Unended-clause-known c more =
    subst (λ known. Knows known (length c.args.bytes.now) (c.args.bytes.now ++ more)) (sym c.in-Unended.is)
    (unended_knows c.args.bytes.now more c.in-Unended.ensures.value)

-- the bytes are refused
pub returns-in_ok-text-in-Refused-clause-joins : goal.returns-in_ok-text-in-Refused-clause-joins
returns-in_ok-text-in-Refused-clause-joins c = none_joins_refused c.args.bytes.now c.in-Refused.status c.in-Refused.ensures.value
