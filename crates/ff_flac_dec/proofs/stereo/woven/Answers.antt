use Rattle.std.proofs.Common.{rules, ◌≡◌, ◌<◌, ◌+◌, ◌-◌, ◌∙◌, ◌++◌, ◌∷◌, [], ℤ, pos, List, length, get_or, to_z, of_z, ap, arith, length-append}
use Rattle.std.specs.Int.{w32}
use Rattle.ff_flac_dec.specs.Channels.{left_right, interleaved_from}
use Rattle.ff_flac_dec.proofs.JoinLemmas.{left_at, right_at, joint_frame, same_x, same_y}
use Rattle.ff_flac_dec.proofs.SoundLemmas.{two_go_on}
use Rattle.ff_flac_dec.proofs.stereo.woven.Goals as goal

pub loop-i-preserved : goal.loop-i-preserved
loop-i-preserved c =
    let l = c.loop-i in
    let xs = c.args.first.now in
    let ys = c.args.second.now in
    let there : l.i < length ys = omega (arith, c.requires.same, c.loop-i-test.true) in
    let x : ℤ = get_or xs l.i (pos 0) in
    let y : ℤ = get_or ys l.i (pos 0) in
    let x_is : to_z w32 (of_z w32 x) ≡ x = same_x x y (c.requires.first l.i c.loop-i-test.true) (c.requires.second l.i there) in
    let y_is : to_z w32 (of_z w32 y) ≡ y = same_y x y (c.requires.first l.i c.loop-i-test.true) (c.requires.second l.i there) in
    let left : ℤ = left_at c.args.form x y in
    let right : ℤ = right_at c.args.form x y in
    let left_is : c.left_of.result ≡ left = rw (x_is, y_is) at c.left_of.ensures in
    let right_is : c.right_of.result ≡ right = rw (x_is, y_is) at c.right_of.ensures in
    let left_kept : to_z w32 (of_z w32 c.left_of.result) ≡ c.left_of.result = search rules in
    let right_kept : to_z w32 (of_z w32 c.right_of.result) ≡ c.right_of.result = search rules in
    let one : c.push_reserved.new.self.items ≡ l.out.items ++ left ∷ [] = c.push_reserved.ensures.items ∙ ap (λ (z : ℤ). l.out.items ++ z ∷ []) (left_kept ∙ left_is) in
    let two : c.push_reserved-in-loop-i.new.self.items ≡ (l.out.items ++ left ∷ []) ++ right ∷ [] =
    c.push_reserved-in-loop-i.ensures.items ∙ ap (λ (z : ℤ). c.push_reserved.new.self.items ++ z ∷ []) (right_kept ∙ right_is) ∙ ap (λ (m : List ℤ). m ++ right ∷ []) one in
    record {
      total = ap (λ (m : List ℤ). m ++ interleaved_from (left_right c.args.form xs ys) (length xs - (l.i + 1)) (l.i + 1)) two
          ∙ two_go_on (left_right c.args.form xs ys) (length xs) l.i l.out.items _ left right c.loop-i-test.true (joint_frame c.args.form xs ys l.i c.loop-i-test.true there) l.invariant.total;
      count = rw two (omega (arith, length-append (l.out.items ++ left ∷ []) (right ∷ []), length-append l.out.items (left ∷ []), l.invariant.count));
      room = rw (c.push_reserved-in-loop-i.ensures.capacity, c.push_reserved.ensures.capacity) l.invariant.room;
    }
