use Rattle.std.proofs.Common.{◌≡◌, ◌+◌, ◌-◌, ℕ, false, map, take, arith, ap, sym, ◌∙◌, subst}
use Rattle.ff_stream.specs.declared.item.Item.{Item}
use Rattle.ff_stream.specs.declared.item.Lane.TheVariants.{Frames}
use Rattle.ff_stream.specs.Within.{passes_limits}
use Rattle.ff_filter.specs.Views.{Gave}
use Rattle.ff_joins.specs.Joined.{rows_to, flattened}
use Rattle.ff_joins.specs.laws.Lots.{lots, lane_of, last_port, lots_view}
use Rattle.ff_joins.specs.laws.JoinSeen.{join_seen}
use Rattle.ff_joins.specs.laws.JoinDrawing.{due, kept_rows}
use Rattle.ff_joins.proofs.Framing.{started_skipped}
use Rattle.ff_joins.proofs.Decisions.{due_is, rest_cut, rest_frame, gave_frame}
use Rattle.ff_joins.proofs.join.Join.give.Goals as goal

pub close-requires-clause-last : goal.close-requires-clause-last
close-requires-clause-last c =
    let m = c.args.self.now in
    let k = c.args.count in
    rest_cut m c.requires.more c.requires.open k c.args.after c.requires.next
    (ap (λ (x : Item). passes_limits (Frames m.head) m.given x) (due_is m k) ∙ c.next_start.ensures.none c.in-None.is (flattened (take k (rows_to
    (last_port m.inlets.items) (kept_rows (lots m.inlets.items))))))

pub close-requires-then-is_long-clause-last : goal.close-requires-then-is_long-clause-last
close-requires-then-is_long-clause-last c =
    let m = c.args.self.now in
    rest_cut m c.requires.more c.requires.open c.args.count c.args.after c.requires.next
    (ap (λ (x : Item). passes_limits (Frames m.head) m.given x) (sym c.in_ok-item.ensures) ∙ (sym c.is_long.ensures.is ∙ c.if-is_long.true))

pub invariant_of-self-2 : goal.invariant_of-self-2
invariant_of-self-2 c =
    let m = c.args.self.now in
    let t = m.there in
    let len = c.skip_rows.ensures.len in
    let s = m.started in
    record {
      there = omega (arith, t, len);
      started = started_skipped m.first c.args.count (lots m.inlets.items 0) (lots c.skip_rows.new.inlets.items 0) s (c.skip_rows.ensures.lots 0);
    }

pub returns-clause-gives : goal.returns-clause-gives
returns-clause-gives c =
    let m = c.args.self.now in
    let k = c.args.count in
    let is = c.skip_rows.new.inlets.items in
    let short : passes_limits (Frames m.head) m.given (due m k) ≡ false =
    ap (λ (x : Item). passes_limits (Frames m.head) m.given x) (sym c.in_ok-item.ensures) ∙ (sym c.is_long.ensures.is ∙ c.if-is_long.false) in
    subst (λ (x : Item). Gave (join_seen m) (lots_view (map lane_of is) m.head (last_port is) m.first (m.given + 1) (lots is) m.ended m.stopped c.args.after) 0 x)
    (sym c.in_ok-item.ensures)
    (gave_frame m k c.args.after (map lane_of is) (last_port is) (lots is) c.requires.open
    (rest_frame m c.requires.more c.requires.open k c.args.after c.requires.next short)
    c.skip_rows.ensures.lanes (ap (λ (j : ℕ). j - 1) c.skip_rows.ensures.len) c.skip_rows.ensures.lots)
