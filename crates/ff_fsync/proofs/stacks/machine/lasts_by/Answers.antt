use Rattle.std.proofs.Common.{◌∙◌, arith}
use Rattle.ff_fsync.proofs.StacksLemmas.Lasting.{lasts_at_next}
use Rattle.ff_fsync.proofs.stacks.machine.lasts_by.Goals as goal

pub pictures-preserved : goal.pictures-preserved
pictures-preserved c =
    let q = c.args.queue.now in
    record {
      is = c.lasts_on-lasts.ensures.is
          ∙ lasts_at_next q.items c.pictures.i c.index.result.now c.args.time c.pictures.lasts
          (omega (arith, c.pictures-test.true, c.len-i-end.ensures, q.ok.0)) c.index.ensures c.pictures.invariant.is;
      near = c.lasts_on-lasts.ensures.near;
    }
