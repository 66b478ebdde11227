-- The requests and replies of one call of an office.
use Rattle.std.specs.Prelude.{◌≢◌, ◌<◌, List, length, map}
use Rattle.std.specs.List.{AllByRecursion}
use Rattle.ldar_law.specs.declared.request.Request.{Request}
use Rattle.ldar_law.specs.declared.request.Request.TheVariants.{Sync, Due, Tags, Delays, Route, Percent, Report as ReportView}
use Rattle.ldar_law.specs.declared.reply.Reply.{Reply}
use Rattle.ldar_law.specs.Machine.{Call}
pub use Rattle.ldar_law.specs.Replies.{HasRule}

-- the requests of a call, and its replies
abbrev pub requests_of : Call → List Request
requests_of call = map (λ turn. turn.request) call.turns

abbrev pub replies_of : Call → List Reply
replies_of call = map (λ turn. turn.reply) call.turns

-- a batch of a handheld other than 0: it makes no entry in the register, so denials of later batches in its group do not depend on it
abbrev pub IsFromHandheld : Request → Type 0
IsFromHandheld (Sync batch) = batch.handheld ≢ 0
IsFromHandheld (Due unit day) = ⊥
IsFromHandheld (Tags unit day) = ⊥
IsFromHandheld (Delays unit day) = ⊥
IsFromHandheld (Route unit day stops) = ⊥
IsFromHandheld (Percent unit quarter day) = ⊥
IsFromHandheld (ReportView unit half day) = ⊥

-- the request is to keep a batch
abbrev pub IsSync : Request → Type 0
IsSync (Sync batch) = Unit {0}
IsSync (Due unit day) = ⊥
IsSync (Tags unit day) = ⊥
IsSync (Delays unit day) = ⊥
IsSync (Route unit day stops) = ⊥
IsSync (Percent unit quarter day) = ⊥
IsSync (ReportView unit half day) = ⊥

-- one request, or several batches of handhelds
abbrev pub MayShareFrame : List Request → Type 0
MayShareFrame requests = 1 < length requests → AllByRecursion IsFromHandheld requests
