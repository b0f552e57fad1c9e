use Rattle.std.proofs.Common.{◌≡◌, ◌++◌, Some, length}
use Rattle.std.proofs.Math.Utf8.{encodes}
use Rattle.std.specs.Str.Iter.{chars_rest}
use Rattle.ff_lang.specs.laws.Reading.{start}
use Rattle.ff_lang.proofs.Runs.{run}
use Rattle.ff_lang.proofs.read.parsed.Given as goal

abbrev pub invariant-loop-c : goal.invariant-loop-c
invariant-loop-c l = record {
  split : l.text ≡ encodes l.yielded ++ chars_rest l.c-iterator;
  place : l.at ≡ length (encodes l.yielded);
  so_far : run (encodes l.yielded) start ≡ Some l.parser;
}
