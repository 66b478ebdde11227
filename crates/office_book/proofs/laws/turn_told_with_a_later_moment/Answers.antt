use Rattle.office_book.proofs.Restamped.{restamps}
use Rattle.office_book.proofs.laws.turn_told_with_a_later_moment.Goals as goal

pub returns : goal.returns
returns c = record { law = restamps }
