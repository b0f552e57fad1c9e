use Rattle.std.proofs.Common.{◌≡◌, suc, ◌+◌, ap, sym, ◌∙◌, refl, subst, arith, cond, true, false, List}
use Rattle.ff_frame.specs.declared.video.VFrame.{VFrame}
use Rattle.ff_stream.specs.declared.item.Lane.TheVariants.{Frames}
use Rattle.ff_stream.specs.Within.{some_pass, passes_limits}
use Rattle.ff_filter.specs.Joins.{silence}
use Rattle.ff_fsync.specs.Sides.{left_to_show, frames_of}
use Rattle.ff_fsync.specs.laws.Syncs.{sides_of, standing_of, timing_of}
use Rattle.ff_fsync.specs.Synced.{pictures}
use Rattle.ff_fsync.specs.laws.stacks.Limits.{long_at}
use Rattle.ff_fsync.specs.stacks.Shapes.{stacked, lasts}
use Rattle.ff_fsync.specs.laws.stacks.Stacked.{is_cut}
use Rattle.ff_fsync.proofs.StacksLemmas.Lasting.{cut_next, cut_none}
use Rattle.ff_fsync.proofs.stacks.stacked.Stacked.is_cut.Goals as goal

pub returns-in-None : goal.returns-in-None
returns-in-None c =
    let m = c.args.self.now in
    sym (cut_none m.sync.head m.sync.shortest m.sync.inputs.items (stacked m.sync.stack.shape) (passes_limits (Frames m.sync.head)) c.loop-time.from c.loop-time.before
    (c.in-None.ensures.none refl)) ∙ c.loop-time.invariant.same

pub returns-then-is_long : goal.returns-then-is_long
returns-then-is_long c =
    let m = c.args.self.now in
    let t = c.in-Some.time in
    let passes = passes_limits (Frames m.sync.head) in
    let fs : List VFrame = frames_of (pictures (timing_of m.sync.shortest m.sync.inputs.items) (standing_of m.sync.head m.sync.inputs.items) t) in
    let late : long_at m.sync.head c.loop-time.before (t + lasts t fs) ≡ true =
    ap (λ n. long_at m.sync.head c.loop-time.before (t + n)) (sym c.lasts.ensures.is) ∙ (sym c.is_long.ensures.is ∙ c.if-is_long.true) in
    sym (cut_next m.sync.head m.sync.shortest m.sync.inputs.items (stacked m.sync.stack.shape) passes c.loop-time.from t c.loop-time.before c.in-Some.ensures.due
    ∙ ap (λ b. cond b true (some_pass passes (c.loop-time.before + 1)
    (left_to_show (stacked m.sync.stack.shape) m.sync.shortest (Frames m.sync.head) (suc t) (sides_of m.sync.inputs.items) silence).items)) late) ∙ c.loop-time.invariant.same

pub loop-time-preserved : goal.loop-time-preserved
loop-time-preserved c =
    let m = c.args.self.now in
    let t = c.in-Some.time in
    let passes = passes_limits (Frames m.sync.head) in
    let fs : List VFrame = frames_of (pictures (timing_of m.sync.shortest m.sync.inputs.items) (standing_of m.sync.head m.sync.inputs.items) t) in
    let within : long_at m.sync.head c.loop-time.before (t + lasts t fs) ≡ false =
    ap (λ n. long_at m.sync.head c.loop-time.before (t + n)) (sym c.lasts.ensures.is) ∙ (sym c.is_long.ensures.is ∙ c.if-is_long.false) in
    let next : suc t ≡ t + 1 = omega arith in
    record {
      same = subst (λ n. some_pass passes (c.loop-time.before + 1)
          (left_to_show (stacked m.sync.stack.shape) m.sync.shortest (Frames m.sync.head) n (sides_of m.sync.inputs.items) silence).items ≡ is_cut m) next
          (sym (cut_next m.sync.head m.sync.shortest m.sync.inputs.items (stacked m.sync.stack.shape) passes c.loop-time.from t c.loop-time.before c.in-Some.ensures.due
          ∙ ap (λ b. cond b true (some_pass passes (c.loop-time.before + 1)
          (left_to_show (stacked m.sync.stack.shape) m.sync.shortest (Frames m.sync.head) (suc t) (sides_of m.sync.inputs.items) silence).items)) within) ∙ c.loop-time.invariant.same);
      few = c.is_long.ensures.few c.if-is_long.false;
    }
