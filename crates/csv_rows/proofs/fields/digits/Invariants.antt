use Rattle.std.proofs.Common.{◌≡◌, ◌≤◌, ◌+◌, ◌*◌, ◌-◌, drop}
use Rattle.std.specs.Char.{is_ascii_digit}
use Rattle.std.specs.List.{fold, list_all}
use Rattle.csv_rows.proofs.fields.digits.Given as goal

abbrev pub invariant-loop-byte : goal.invariant-loop-byte
invariant-loop-byte l =
    (fold (λ n digit. 10 * n + (digit - 48)) l.number (drop l.byte-index l.text) ≡ fold (λ n digit. 10 * n + (digit - 48)) 0 l.text)
    × (list_all is_ascii_digit (drop l.byte-index l.text) ≡ list_all is_ascii_digit l.text)
    × (l.number ≤ l.fn.high)
