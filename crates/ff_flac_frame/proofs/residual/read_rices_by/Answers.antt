use Rattle.std.proofs.Common.{◌≡◌, ◌∙◌, ℕ, ℤ, List, Bool, [], ◌∷◌, sym, ap, arith}
use Rattle.std.proofs.Common.{to_z, of_z}
use Rattle.std.specs.Int.{w32}
use Rattle.std.proofs.lemmas.Int.{to_z-of_z}
use Rattle.ff_bits.specs.Reading.{Done, times}
use Rattle.ff_flac_frame.specs.laws.Front.{with_front}
use Rattle.ff_flac_frame.specs.Frame.{rice}
use Rattle.ff_flac_frame.proofs.Loops.{times_go_on, times_next}
use Rattle.ff_flac_frame.proofs.RestoringLemmas.{Restores-more, newest_same}
use Rattle.ff_flac_frame.proofs.residual.read_rices_by.Goals as goal
use Rattle.ff_flac_frame.proofs.residual.read_rices_by.Goals.{in-Some, in-None+in_ok-value-in-None, Joined-next_four, then-left-mask-eq0, else-left-mask-eq0}

-- what is read behind the residuals that were pushed
reads_on : (c : Joined-next_four) → with_front c.match-next_four.out.items (times c.match-next_four.left (rice c.args.k) c.match-next_four.near)
    ≡ with_front c.args.out.now.items (times c.args.count (rice c.args.k) c.args.reader.now)
reads_on c =
    let k : ℕ = c.args.k in
    let l = c.loop-left in
    let filled : c.if-left-mask-eq0.near ≡ l.near =
    elim c.if-left-mask-eq0.branch [ then-left-mask-eq0 w ↦ w.near-is ∙ w.fill.ensures | else-left-mask-eq0 w ↦ w.near-is ] in
    elim c.match-next_four.branch [
      | in-Some w ↦
          let four = w.in-Some.four in
          let xs : List ℤ = four.0 ∷ four.1 ∷ four.2 ∷ four.3 ∷ [] in
          let read : times 4 (rice k) l.near ≡ Done xs c.next_four.new.near = ap (λ (bits : List Bool). times 4 (rice k) bits) (sym filled) ∙ w.in-Some.ensures.read in
          let on = times_go_on (rice k) 4 l.left l.out.items l.near _ xs c.next_four.new.near w.in-Some.ensures.left read l.invariant.read in
          rw (w.out-is, w.push_four.ensures.items, w.left-is, w.near-is) on
      | in-None+in_ok-value-in-None w ↦
          let x : ℤ = w.in_ok-value-in-None.value in
          let o = w.in_ok-value-in-None.ensures in
          let fit : to_z w32 (of_z w32 x) ≡ x = to_z-of_z w32 x o.fits in
          let same : c.next_four.new.near ≡ l.near = w.in-None.ensures.unchanged ∙ filled in
          let read : rice k l.near ≡ Done x w.next_rice.new.near = ap (λ (bits : List Bool). rice k bits) (sym same) ∙ o.reads in
          let on = times_next (rice k) l.left l.out.items l.near _ x w.next_rice.new.near c.loop-left-test.true read l.invariant.read in
          rw (w.out-is, w.push_reserved.ensures.items, fit, w.left-is, w.near-is) on
    ]

pub returns-then-not-is_within-clause-reads : goal.returns-then-not-is_within-clause-reads
returns-then-not-is_within-clause-reads c =
    let m = c.match-next_four in
    let total = with_front c.args.out.now.items (times c.args.count (rice c.args.k) c.args.reader.now) in
    let on = reads_on (goal.at.returns-then-not-is_within-clause-reads c).Joined-next_four in
    let there : with_front m.out.items (times m.left (rice c.args.k) c.reader.result) ≡ total = rw c.reader.ensures on in
    rw there at c.read_rices.ensures

pub loop-left-preserved : goal.loop-left-preserved
loop-left-preserved c =
    let l = c.loop-left in
    let p = c.args.predictor.now in
    let old : List ℤ = l.restoring.samples.items in
    let on = reads_on (goal.at.loop-left-preserved c).Joined-next_four in
    elim c.match-next_four.branch [
      | in-Some w ↦
          let four = w.in-Some.four in
          let xs : List ℤ = four.0 ∷ four.1 ∷ four.2 ∷ four.3 ∷ [] in
          let e = w.restore_four-is_within.ensures in
          let new = w.restore_four-is_within.new in
          let t = sym w.is_within-is ∙ c.if-not-is_within.false in
          let more = Restores-more p old l.out.items xs new.samples.items new.last l.invariant.restores (e.ready t) (e.next t) in
          let some = w.in-Some.ensures.left in
          record {
            read = on;
            room = rw (w.out-is, w.left-is) (omega (arith, l.invariant.room, w.push_four.ensures.len, w.push_four.ensures.capacity, some));
            room_restored = rw (w.restoring-is, w.left-is) (omega (arith, l.invariant.room_restored, e.len t, e.capacity, some));
            on = rw w.restoring-is l.invariant.on;
            restores = rw (w.restoring-is, w.out-is, w.push_four.ensures.items) more;
            newest = rw (w.last-is, w.restoring-is) (newest_same p new.samples.items new.last (e.ready t));
          }
      | in-None+in_ok-value-in-None w ↦
          let x : ℤ = to_z w32 (of_z w32 w.in_ok-value-in-None.value) in
          let e = w.restore_next-is_within.ensures in
          let new = w.restore_next-is_within.new in
          let t = sym w.is_within-is ∙ c.if-not-is_within.false in
          let more = Restores-more p old l.out.items (x ∷ []) new.samples.items new.last l.invariant.restores (e.ready t) (e.next t) in
          let some = c.loop-left-test.true in
          record {
            read = on;
            room = rw (w.out-is, w.left-is) (omega (arith, l.invariant.room, w.push_reserved.ensures.len, w.push_reserved.ensures.capacity, some));
            room_restored = rw (w.restoring-is, w.left-is) (omega (arith, l.invariant.room_restored, e.len t, e.capacity, some));
            on = rw w.restoring-is l.invariant.on;
            restores = rw (w.restoring-is, w.out-is, w.push_reserved.ensures.items) more;
            newest = rw (w.last-is, w.restoring-is) (newest_same p new.samples.items new.last (e.ready t));
          }
    ]
