use Rattle.std.proofs.Common.{◌≡◌, ◌+◌, ◌++◌, replicate}
use Rattle.std.specs.Prelude.{vec_len, vec_capacity}
use Rattle.ldar_law.specs.declared.reply.Reply.TheVariants as replied
use Rattle.office_book.proofs.requests.push_faults.Given as goal

abbrev pub invariant-loop : goal.invariant-loop
invariant-loop l = record {
  items : l.replies.items ≡ l.fn.replies.items ++ replicate l.counter replied.Fault;
  long : vec_len l.replies ≡ vec_len l.fn.replies + l.counter;
  capacity : vec_capacity l.replies ≡ vec_capacity l.fn.replies;
}
