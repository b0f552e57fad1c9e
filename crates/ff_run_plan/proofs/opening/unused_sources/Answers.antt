use Rattle.std.proofs.Common.{ap, sym, ◌∙◌, ◌<◌, arith}
use Rattle.ff_run_plan.specs.Openings.{is_read}
use Rattle.ff_run_plan.proofs.Marks.{bit_of, next_mark}
use Rattle.ff_run_plan.proofs.opening.unused_sources.Goals as goal
use Rattle.ff_run_plan.proofs.opening.unused_sources.Goals.{then-some_reads, else-some_reads}

pub loop-k-preserved : goal.loop-k-preserved
loop-k-preserved c =
    let there : c.loop-k.k < c.args.sources = (let t = c.loop-k-test.true in omega (arith, t)) in
    let read = c.some_reads.ensures in
    let p = is_read c.args.nodes.now in
    elim c.if-some_reads.branch [
      | then-some_reads w ↦ next_mark p c.args.sources c.loop-k.k c.loop-k.marks c.if-some_reads.last there c.loop-k.invariant (w.last-is ∙ ap bit_of (sym w.if-some_reads.true ∙ read))
      | else-some_reads w ↦ next_mark p c.args.sources c.loop-k.k c.loop-k.marks c.if-some_reads.last there c.loop-k.invariant (w.last-is ∙ ap bit_of (sym w.if-some_reads.false ∙ read))
    ]
