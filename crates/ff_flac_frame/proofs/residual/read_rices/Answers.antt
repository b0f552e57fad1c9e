use Rattle.std.proofs.Common.{◌≡◌, ◌∙◌, ℕ, ℤ, List, Bool, [], ◌∷◌, sym, ap, arith}
use Rattle.std.proofs.Common.{to_z, of_z}
use Rattle.std.specs.Int.{w32}
use Rattle.std.proofs.lemmas.Int.{to_z-of_z}
use Rattle.ff_bits.specs.Reading.{Done, times}
use Rattle.ff_flac_frame.specs.Frame.{rice}
use Rattle.ff_flac_frame.proofs.Loops.{times_go_on, times_next}
use Rattle.ff_flac_frame.proofs.residual.read_rices.Goals as goal
use Rattle.ff_flac_frame.proofs.residual.read_rices.Goals.{then-left-mask-eq0, else-left-mask-eq0}

pub loop-left-preserved-in-Some : goal.loop-left-preserved-in-Some
loop-left-preserved-in-Some c =
    let k : ℕ = c.args.k in
    let l = c.loop-left in
    let filled : c.if-left-mask-eq0.near ≡ l.near =
    elim c.if-left-mask-eq0.branch [ then-left-mask-eq0 w ↦ w.near-is ∙ w.fill.ensures | else-left-mask-eq0 w ↦ w.near-is ] in
    let four = c.in-Some.four in
    let xs : List ℤ = four.0 ∷ four.1 ∷ four.2 ∷ four.3 ∷ [] in
    let read : times 4 (rice k) l.near ≡ Done xs c.next_four.new.near = ap (λ (bits : List Bool). times 4 (rice k) bits) (sym filled) ∙ c.in-Some.ensures.read in
    let on = times_go_on (rice k) 4 l.left l.out.items l.near _ xs c.next_four.new.near c.in-Some.ensures.left read l.invariant.read in
    record {
      read = rw c.push_four.ensures.items on;
      room = omega (arith, l.invariant.room, c.push_four.ensures.len, c.push_four.ensures.capacity);
    }

pub loop-left-preserved : goal.loop-left-preserved
loop-left-preserved c =
    let k : ℕ = c.args.k in
    let l = c.loop-left in
    let filled : c.if-left-mask-eq0.near ≡ l.near =
    elim c.if-left-mask-eq0.branch [ then-left-mask-eq0 w ↦ w.near-is ∙ w.fill.ensures | else-left-mask-eq0 w ↦ w.near-is ] in
    let x : ℤ = c.in_ok-value-in-None.value in
    let o = c.in_ok-value-in-None.ensures in
    let fit : to_z w32 (of_z w32 x) ≡ x = to_z-of_z w32 x o.fits in
    let same : c.next_four.new.near ≡ l.near = c.in-None.ensures.unchanged ∙ filled in
    let read : rice k l.near ≡ Done x c.next_rice.new.near = ap (λ (bits : List Bool). rice k bits) (sym same) ∙ o.reads in
    let on = times_next (rice k) l.left l.out.items l.near _ x c.next_rice.new.near c.loop-left-test.true read l.invariant.read in
    record {
      read = rw (c.push_reserved.ensures.items, fit) on;
      room = omega (arith, l.invariant.room, c.push_reserved.ensures.len, c.push_reserved.ensures.capacity);
    }
