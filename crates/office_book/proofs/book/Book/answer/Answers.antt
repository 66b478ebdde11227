use Rattle.std.proofs.Common.{◌≡◌, [], ◌∷◌, List, refl, sym, ◌∙◌, ap, subst, arith}
use Rattle.std.specs.List.{AllByRecursion}
use Rattle.ldar_journal.proofs.CrashLemmas.{AnswersInRoom-weaker}
use Rattle.office_book.proofs.GroupLemmas.{all_sync, alone, one_place}
use Rattle.office_book.proofs.book.Book.answer.Goals as goal

pub sync-requires-clause-syncs : goal.sync-requires-clause-syncs
sync-requires-clause-syncs g c = all_sync c.args.requests.now c.index-requests-0.result c.requires.alike c.index-requests-0.is (c.is_sync.ensures.sync c.if-is_sync.true)
