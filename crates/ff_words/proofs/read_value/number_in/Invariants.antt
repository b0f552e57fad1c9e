use Rattle.std.proofs.Common.{◌≡◌, ◌<◌, ◌^◌, take}
use Rattle.std.specs.List.{AllByRecursion}
use Rattle.ff_time.specs.Duration.{IsDigit, number}
use Rattle.ff_words.proofs.read_value.number_in.Given as goal

abbrev pub invariant-loop-byte : goal.invariant-loop-byte
invariant-loop-byte l = record {
  digits : AllByRecursion IsDigit (take l.byte-index l.text);
  value : l.number ≡ number (take l.byte-index l.text);
  small : l.number < 10 ^ l.byte-index;
}
