use Rattle.std.proofs.Common.{◌≡◌, ◌∙◌, ℕ, ℤ, List, Bool, [], ◌∷◌, sym, ap}
use Rattle.ff_bits.specs.Reading.{Done, times}
use Rattle.ff_flac_frame.specs.Frame.{rice}
use Rattle.ff_flac_frame.proofs.PassedLemmas.{past_some}
use Rattle.ff_flac_frame.proofs.passing.pass_rices.Goals as goal
use Rattle.ff_flac_frame.proofs.passing.pass_rices.Goals.{then-left-mask-eq0, else-left-mask-eq0}

pub loop-left-preserved-in-Some : goal.loop-left-preserved-in-Some
loop-left-preserved-in-Some c =
    let k : ℕ = c.args.k in
    let l = c.loop-left in
    let filled : c.if-left-mask-eq0.near ≡ l.near =
    elim c.if-left-mask-eq0.branch [ then-left-mask-eq0 w ↦ w.near-is ∙ w.fill.ensures | else-left-mask-eq0 w ↦ w.near-is ] in
    let four = c.in-Some.field-0 in
    let xs : List ℤ = four.0 ∷ four.1 ∷ four.2 ∷ four.3 ∷ [] in
    let read : times 4 (rice k) l.near ≡ Done xs c.next_four.new.near = ap (λ (bits : List Bool). times 4 (rice k) bits) (sym filled) ∙ c.in-Some.ensures.read in
    past_some (rice k) 4 l.left l.near _ xs c.next_four.new.near c.in-Some.ensures.left read l.invariant
