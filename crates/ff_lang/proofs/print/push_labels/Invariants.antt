use Rattle.std.proofs.Common.{◌≡◌, ◌++◌, string_bytes, drop}
use Rattle.ff_lang.specs.laws.Printing.{printed_labels}
use Rattle.ff_lang.proofs.print.push_labels.Given as goal

abbrev pub invariant-loop-label : goal.invariant-loop-label
invariant-loop-label l =
    string_bytes l.out ++ printed_labels (drop l.label-index l.labels) ≡ string_bytes l.fn.out ++ printed_labels l.labels
