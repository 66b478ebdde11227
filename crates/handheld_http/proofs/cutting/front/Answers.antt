use Rattle.std.proofs.Common.{sym, arith}
use Rattle.std.proofs.lemmas.List.{take_all}
use Rattle.handheld_http.proofs.cutting.front.Goals as goal

pub returns-then-bytes-lt-LONGEST_HEAD : goal.returns-then-bytes-lt-LONGEST_HEAD
returns-then-bytes-lt-LONGEST_HEAD c = sym (take_all 8_192 c.args.bytes.now (omega arith))
