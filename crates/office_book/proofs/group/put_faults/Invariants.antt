use Rattle.std.proofs.Common.{◌≡◌, ◌-◌, ◌≤◌, ◌++◌, length, take, replicate}
use Rattle.ldar_law.specs.declared.reply.Reply.TheVariants as replied
use Rattle.office_book.proofs.group.put_faults.Given as goal

abbrev pub invariant-loop-place : goal.invariant-loop-place
invariant-loop-place l = record {
  faults : take l.place l.replies ≡ take l.from l.fn.replies ++ replicate (l.place - l.from) replied.Fault;
  begins : l.from ≤ l.place;
  long : length l.replies ≡ length l.fn.replies;
}
