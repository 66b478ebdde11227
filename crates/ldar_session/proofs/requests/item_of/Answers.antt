use Rattle.ldar_session.proofs.RequestLemmas.{extent_asks, extent_says, none_joins_alone, none_joins_unasked}
use Rattle.ldar_session.proofs.requests.item_of.Goals as goal

-- the request is passed to the office
pub returns-in-Request-clause-value : goal.returns-in-Request-clause-value
returns-in-Request-clause-value c =
    let means = rw c.in-Request.is at c.in_ok-request.ensures.value in record {
      within = c.requires.whole;
      asks = extent_asks c.args.bytes.now c.args.extent c.in-Request.request c.requires.begins c.requires.whole means;
    }

pub returns-in-Request-clause-joins : goal.returns-in-Request-clause-joins
returns-in-Request-clause-joins c =
    let means = rw c.in-Request.is at c.in_ok-request.ensures.value in
    none_joins_alone c.args.bytes.now c.args.extent c.in-Request.request c.requires.begins means

-- the request is not passed to the office
pub returns-in_ok-text_of-in-Not-clause-value : goal.returns-in_ok-text_of-in-Not-clause-value
returns-in_ok-text_of-in-Not-clause-value c =
    let means = rw c.in-Not.is at c.in_ok-request.ensures.value in record {
      within = c.requires.whole;
      answers = extent_says c.args.bytes.now c.args.extent c.in-Not.refusal c.in_ok-text_of-in-Not.field-0.items c.requires.begins c.requires.whole means
          c.in_ok-text_of-in-Not.ensures.value;
    }

pub returns-in_ok-text_of-in-Not-clause-joins : goal.returns-in_ok-text_of-in-Not-clause-joins
returns-in_ok-text_of-in-Not-clause-joins c =
    let means = rw c.in-Not.is at c.in_ok-request.ensures.value in
    none_joins_unasked c.args.bytes.now c.args.extent c.in-Not.refusal c.requires.begins means
