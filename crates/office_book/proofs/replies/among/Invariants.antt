use Rattle.std.proofs.Common.{◌≡◌, ◌+◌, take, None}
use Rattle.std.specs.List.{position_from}
use Rattle.fact_kinds.specs.Identity.{identity_of, is_of}
use Rattle.office_book.proofs.replies.among.Given as goal

abbrev pub invariant-loop-other : goal.invariant-loop-other
invariant-loop-other l = record {
  place : l.position ≡ l.first + l.other-index;
  none : position_from (is_of (identity_of l.batch)) l.first (take l.other-index l.others) ≡ None;
}
