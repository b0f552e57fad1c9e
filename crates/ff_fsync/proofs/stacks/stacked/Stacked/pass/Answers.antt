use Rattle.std.proofs.Common.{◌≡◌, ℕ, ◌+◌, [], ◌∷◌, ap, sym, ◌∙◌, arith, true, false}
use Rattle.ff_frame.specs.declared.head.StreamHead.{StreamHead}
use Rattle.ff_filter.specs.Made.{is_over}
use Rattle.std.proofs.lemmas.Bool.{iff_false}
use Rattle.ff_stream.specs.declared.item.Lane.{Lane}
use Rattle.ff_stream.specs.declared.item.Lane.TheVariants.{Frames}
use Rattle.ff_stream.specs.Within.{passes_limits}
use Rattle.ff_filter.specs.laws.Limits.{limited}
use Rattle.ff_filter.specs.Views.{View, closes}
use Rattle.ff_fsync.specs.Sides.{side_at, sync_view}
use Rattle.ff_fsync.specs.laws.Syncs.{sides_of}
use Rattle.ff_fsync.specs.stacks.Bases.{told_view}
use Rattle.ff_fsync.specs.laws.stacks.Limits.{long_at, limits_view}
use Rattle.ff_fsync.specs.stacks.Shapes.{stacked}
use Rattle.ff_fsync.specs.laws.stacks.Stacked.{sync_seen}
use Rattle.ff_fsync.proofs.StacksLemmas.Closing.{closes_so, closes_not}
use Rattle.ff_fsync.proofs.StacksLemmas.Limiting.{limits_gave, limits_cut, limited_on, limited_last, alone_at}
use Rattle.ff_fsync.proofs.stacks.stacked.Stacked.pass.Goals as goal

pub returns-then-closes : goal.returns-then-closes
returns-then-closes c = λ v one g.
    let m = c.args.self.now in
    let lane : Lane = Frames m.sync.head in
    let x = c.args.item in
    let shut : closes x ≡ true = closes_so x (c.closes.ensures.0 c.if-closes.true) in
    limits_gave lane m.before m.before v (sync_seen m) 0 x (λ t. limited_last (passes_limits lane) m.before x t (limited (passes_limits lane) m.before t) shut)
    (alone_at v 0 one (omega (arith, one))) g

pub returns-then-is_long : goal.returns-then-is_long
returns-then-is_long c = λ v one g.
    let m = c.args.self.now in
    let lane : Lane = Frames m.sync.head in
    let x = c.args.item in
    let more : closes x ≡ false = closes_not x (iff_false c.closes.ensures c.if-closes.false) in
    let late : passes_limits lane m.before x ≡ true = ap (λ n. long_at m.sync.head m.before n) (sym c.end_ticks.ensures.is) ∙ (sym c.is_long.ensures.is ∙ c.if-is_long.true) in
    let n = c.let_go.new.self in
    let e = c.let_go.ensures in
    let u : View = limits_view (Frames n.head) m.before (told_view m.units.items (sync_view (stacked n.stack.shape) n.shortest (Frames n.head) n.from (sides_of n.inputs.items) n.ended n.stopped)) in
    let after : (p : ℕ) → (side_at (Frames n.head) (sides_of n.inputs.items) p).after ≡ (side_at lane (sides_of m.sync.inputs.items) p).after = rw e.head e.emptied.shut in
    limits_cut lane m.before v (sync_seen m) u 0 x more late (alone_at v 0 one (omega (arith, one))) g e.emptied.lanes (ap (λ (h : StreamHead). Frames h ∷ []) e.head)
    (λ i p. is_over (after p i)) (λ i q. e.stopped i) e.ended

pub returns : goal.returns
returns c = λ v one g.
    let m = c.args.self.now in
    let lane : Lane = Frames m.sync.head in
    let x = c.args.item in
    let more : closes x ≡ false = closes_not x (iff_false c.closes.ensures c.if-closes.false) in
    let within : passes_limits lane m.before x ≡ false = ap (λ n. long_at m.sync.head m.before n) (sym c.end_ticks.ensures.is) ∙ (sym c.is_long.ensures.is ∙ c.if-is_long.false) in
    limits_gave lane m.before (m.before + 1) v (sync_seen m) 0 x (λ t. limited_on (passes_limits lane) m.before x t more within)
    (alone_at v 0 one (omega (arith, one))) g
