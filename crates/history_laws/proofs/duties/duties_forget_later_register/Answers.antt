use Rattle.history_laws.proofs.DutyLemmas.{duties_forget_later_register, marks_forget_later_register}
use Rattle.history_laws.proofs.duties.duties_forget_later_register.Goals as goal

pub returns : goal.returns
returns c = record { duties = duties_forget_later_register; marks = marks_forget_later_register }
