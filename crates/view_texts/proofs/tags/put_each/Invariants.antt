use Rattle.std.proofs.Common.{◌≡◌, ◌++◌, take}
use Rattle.std.specs.Prelude.{string_bytes}
use Rattle.std.specs.List.{flat_map}
use Rattle.ldar_law.specs.Texts.{tag_line}
use Rattle.view_texts.proofs.tags.put_each.Given as goal

abbrev pub invariant-loop-tag : goal.invariant-loop-tag
invariant-loop-tag l = string_bytes l.text ≡ string_bytes l.initial.text ++ flat_map tag_line (take l.tag-index l.tags)
