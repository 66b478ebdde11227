use Rattle.std.proofs.Common.{◌<◌, ◌^◌, length, take}
use Rattle.fact_kinds.specs.declared.class.Kind.TheVariants.{Valve, Pump, Compressor}
use Rattle.semiannual_report.proofs.CountLemmas.{AreCounted}
use Rattle.semiannual_report.proofs.cells.month_cells.Given as goal

-- the components so far are counted in the columns of each type
abbrev pub invariant-loop-sheet : goal.invariant-loop-sheet
invariant-loop-sheet l =
    length l.sheets < 2 ^ 32
    → AreCounted Valve l.day l.month (take l.sheet-index l.sheets) l.valves
    × AreCounted Pump l.day l.month (take l.sheet-index l.sheets) l.pumps
    × AreCounted Compressor l.day l.month (take l.sheet-index l.sheets) l.compressors
