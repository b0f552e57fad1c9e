use Rattle.std.proofs.Common.{◌≡◌, ◌++◌, string_bytes}
use Rattle.std.specs.Str.Iter.{chars_rest}
use Rattle.ff_lang.specs.laws.Printing.{escaped_value}
use Rattle.ff_lang.proofs.print.push_value.Given as goal

abbrev pub invariant-loop-c : goal.invariant-loop-c
invariant-loop-c l =
    string_bytes l.out ++ escaped_value (chars_rest l.c-iterator) ≡ string_bytes l.fn.out ++ escaped_value l.value
