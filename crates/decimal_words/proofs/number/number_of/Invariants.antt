use Rattle.std.proofs.Common.{◌≡◌, min, take}
use Rattle.std.specs.Str.Parse.{digits_value}
use Rattle.decimal_words.proofs.number.number_of.Given as goal

-- the digits so far write it
abbrev pub invariant-loop-digit : goal.invariant-loop-digit
invariant-loop-digit l = l.number ≡ min 4_294_967_296 (digits_value 10 (take l.digit-index l.digits))
