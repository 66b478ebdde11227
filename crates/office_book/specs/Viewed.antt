-- The reply to a view.
use Rattle.std.specs.Prelude.{Result, Ok, Err}
use Rattle.ldar_law.specs.declared.reply.Reply.{Reply}
use Rattle.ldar_law.specs.declared.reply.Reply.TheVariants.{Memory}
use Rattle.office_views.specs.Answers.{reply_of}
use Rattle.office_views.specs.declared.shown.Shown.{Shown}

-- the reply with what is shown, or out of memory
abbrev pub reply_shown : {E : Type 0} → Result Shown E → Reply
reply_shown (Ok shown) = reply_of shown
reply_shown (Err e) = Memory
