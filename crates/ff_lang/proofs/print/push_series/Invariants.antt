use Rattle.std.proofs.Common.{◌≡◌, ◌++◌, string_bytes, drop}
use Rattle.ff_lang.specs.laws.Printing.{led, series}
use Rattle.ff_lang.proofs.print.push_series.Given as goal

abbrev pub invariant-loop-item : goal.invariant-loop-item
invariant-loop-item g l =
    string_bytes l.out ++ led g.T.Print.text_of l.separator (drop l.item-index l.rest) ≡ string_bytes l.fn.out ++ series g.T.Print.text_of l.separator l.items
