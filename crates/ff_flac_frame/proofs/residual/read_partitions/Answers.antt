use Rattle.std.proofs.lemmas.Result.{err_from_is_err_and}
use Rattle.ff_flac_frame.proofs.ResidualLemmas.{partitions_goes_on, partitions_fails, partitions_done}
use Rattle.ff_flac_frame.proofs.residual.read_partitions.Goals as goal

pub returns-in_err-read_partition-clause-reads : goal.returns-in_err-read_partition-clause-reads
returns-in_err-read_partition-clause-reads c =
    let p = err_from_is_err_and c.from_residual.result c.from_residual.ensures.1 in
    let l = c.loop-i in
    let e = c.in_err-read_partition in
    rw (p.1, p.2) (partitions_fails c.args.w c.args.count l.out.items c.args.n l.i l.reader _ e.field-0.0 c.loop-i-test.true e.ensures.reads l.invariant.read)

pub loop-i-preserved : goal.loop-i-preserved
loop-i-preserved c =
    let l = c.loop-i in
    let o = c.in_ok-read_partition.ensures in
    record {
      read = partitions_goes_on c.args.w c.args.count l.out.items c.args.n l.i l.reader _ c.loop-i-test.true _ _ o.reads l.invariant.read;
      follows = o.follows;
    }

pub returns-clause-reads : goal.returns-clause-reads
returns-clause-reads c = partitions_done c.args.w c.args.count c.loop-i.out.items c.args.n c.loop-i.i c.loop-i.reader _ c.loop-i-test.false c.loop-i.invariant.read
