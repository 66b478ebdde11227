use Rattle.std.proofs.Common.{◌≡◌, ◌+◌, take}
use Rattle.std.specs.Prelude.{vec_len, vec_capacity}
use Rattle.sync_room.specs.OwnCalls.{AskedAll}
use Rattle.sync_room.proofs.seated.Seated.ask_each.Given as goal

-- the requests gone over so far were asked, and there is room for the other replies
abbrev pub invariant-loop-request : goal.invariant-loop-request
invariant-loop-request g l =
    AskedAll l.fn.self (take l.request-index l.requests) l.fn.replies.items l.replies.items l.self
    × (vec_len l.replies ≡ vec_len l.fn.replies + l.request-index)
    × (vec_capacity l.replies ≡ vec_capacity l.fn.replies)
