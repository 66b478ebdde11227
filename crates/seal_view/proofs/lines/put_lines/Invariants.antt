use Rattle.std.proofs.Common.{◌≡◌, ◌++◌, map, take}
use Rattle.seal_texts.specs.declared.line.SealLine.TheVariants.{Duty, Tag}
use Rattle.seal_view.proofs.lines.put_lines.Given as goal

abbrev pub invariant-loop-duty : goal.invariant-loop-duty
invariant-loop-duty l = l.lines.items ≡ l.fn.lines.items ++ map (Duty l.component) (take l.duty-index l.duties)

abbrev pub invariant-loop-tag : goal.invariant-loop-tag
invariant-loop-tag l = l.lines.items ≡ l.fn.lines.items ++ map (Duty l.component) l.duties ++ map (Tag l.component) (take l.tag-index l.tags)
