use Rattle.std.specs.Str.Parse.{AllDigits, digits_value}
use Rattle.std.proofs.Common.{◌≡◌, take}
use Rattle.cap_log.proofs.parts.decimals.digits_within.Given as goal

-- the digits so far, and their number
abbrev pub invariant-loop-index : goal.invariant-loop-index
invariant-loop-index l = record {
  digits : AllDigits 10 (take l.index l.bytes);
  value_is : l.value ≡ digits_value 10 (take l.index l.bytes);
}
