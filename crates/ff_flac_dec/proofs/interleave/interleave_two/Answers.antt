use Rattle.std.proofs.Common.{rules, ◌≡◌, ◌+◌, ◌-◌, ◌∙◌, ◌++◌, ◌∷◌, [], ℤ, pos, List, length, get_or, to_z, of_z, refl, ap, arith, length-append}
use Rattle.std.specs.Int.{w32}
use Rattle.ff_flac_dec.specs.Channels.{interleaved_from}
use Rattle.ff_flac_dec.proofs.SoundLemmas.{two_go_on}
use Rattle.ff_flac_dec.proofs.interleave.interleave_two.Goals as goal

pub loop-i-preserved : goal.loop-i-preserved
loop-i-preserved c =
    let l = c.loop-i in
    let xs = c.args.first.now in
    let ys = c.args.second.now in
    let x : ℤ = get_or xs l.i (pos 0) in
    let y : ℤ = get_or ys l.i (pos 0) in
    let x_is : to_z w32 (of_z w32 x) ≡ x = search rules in
    let y_is : to_z w32 (of_z w32 y) ≡ y = search rules in
    let one : c.push_reserved.new.self.items ≡ l.out.items ++ x ∷ [] = c.push_reserved.ensures.items ∙ ap (λ (z : ℤ). l.out.items ++ z ∷ []) x_is in
    let two : c.push_reserved-in-loop-i.new.self.items ≡ (l.out.items ++ x ∷ []) ++ y ∷ [] =
    c.push_reserved-in-loop-i.ensures.items ∙ ap (λ (z : ℤ). c.push_reserved.new.self.items ++ z ∷ []) y_is ∙ ap (λ (m : List ℤ). m ++ y ∷ []) one in
    record {
      total = ap (λ (m : List ℤ). m ++ interleaved_from (xs ∷ ys ∷ []) (length xs - (l.i + 1)) (l.i + 1)) two
          ∙ two_go_on (xs ∷ ys ∷ []) (length xs) l.i l.out.items _ x y c.loop-i-test.true refl l.invariant.total;
      count = rw two (omega (arith, length-append (l.out.items ++ x ∷ []) (y ∷ []), length-append l.out.items (x ∷ []), l.invariant.count));
      room = rw (c.push_reserved-in-loop-i.ensures.capacity, c.push_reserved.ensures.capacity) l.invariant.room;
    }
