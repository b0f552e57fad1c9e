use Rattle.std.proofs.Common.{◌≡◌, ◌∙◌, ◌≤◌, true, leb, refl, sym, arith}
use Rattle.std.proofs.lemmas.Bool.{leb-true}
use Rattle.ff_flac_frame.specs.Codes.{order_of}
use Rattle.ff_flac_frame.proofs.FrameSound.{order_in}
use Rattle.ff_flac_frame.proofs.RestoredLemmas.{IsRestored-of_kind}
use Rattle.ff_flac_frame.proofs.reading.read_subframe.Goals as goal
use Rattle.ff_flac_frame.proofs.reading.read_subframe.Goals.{then-code-ge2, else-code-ge2}

pub read_rest-requires-clause-order : goal.read_rest-requires-clause-order
read_rest-requires-clause-order c = order_in c.args.block c.in_ok-code.code c.in_ok-code.ensures.passed

pub invariant_of-result : goal.invariant_of-result
invariant_of-result c = record {
  restored = λ on.
      elim c.if-code-ge2.branch [
        | then-code-ge2 w ↦
            let code = c.in_ok-code.code in
            let shift = c.in_ok-shift in
            let read = c.in_ok-rest.field-0 in
            let is_on : read.restored.is_on ≡ true = sym w.result-is ∙ on in
            let total = (c.in_ok-rest.ensures.follows is_on).total in
            rw (c.kind_from.ensures, c.order_from-2.ensures.value, c.of.ensures, c.of-2.ensures, c.of-3.ensures, c.of-4.ensures)
            (IsRestored-of_kind code (leb 32 code) (order_of code) shift.shift shift.coefs.items c.in_ok-warm.warm.items read.rest.items read.restored.samples.items
            w.if-code-ge2.true refl (rw (c.order_from.ensures.value, c.as_slice-2.ensures.value ∙ c.in_ok-wide.ensures ∙ c.as_slice.ensures.value, c.as_slice-3.ensures.value) at total))
        | else-code-ge2 w ↦ let later : 2 ≤ c.in_ok-code.code = leb-true 2 c.in_ok-code.code (sym w.result-is ∙ on) in absurd (omega arith)
      ];
}
