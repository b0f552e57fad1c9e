use Rattle.std.proofs.Common.{◌≡◌, ◌<◌, ◌^◌, drop}
use Rattle.ff_time.specs.Digits.{digits_from}
use Rattle.ff_time.proofs.decimal.digits.Given as goal

abbrev pub invariant-digits : goal.invariant-digits
invariant-digits l = record {
  so_far : digits_from l.value (drop l.i l.bytes) ≡ digits_from 0 l.bytes;
  few : l.value < 10 ^ l.i;
}
