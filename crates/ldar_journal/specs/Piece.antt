-- Reasons for which reading a piece of a file fails.
use Rattle.ldar_journal.specs.declared.opening.OpenWhy.{OpenWhy}
use Rattle.ldar_journal.specs.declared.opening.OpenWhy.TheVariants.{Disk, NotAJournal, Damaged, Memory}

-- reading fails only for these two reasons
abbrev pub IsFaultOrMemory : OpenWhy → Type 0
IsFaultOrMemory Disk = Unit {0}
IsFaultOrMemory NotAJournal = ⊥
IsFaultOrMemory (Damaged at) = ⊥
IsFaultOrMemory Memory = Unit {0}
