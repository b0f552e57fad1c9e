use Rattle.std.proofs.Common.{◌≡◌, ◌-◌, ◌∙◌, ℕ, List, [], length, None, false, inl, refl, sym, subst, arith}
use Rattle.ff_net.specs.Pasts.{start}
use Rattle.ff_node_demux.specs.Demuxing.{DemuxStands, demux_task}
use Rattle.ff_node_demux.proofs.DemuxSteps.{demux_start, drop_nil}
use Rattle.ff_node_demux.proofs.demux.Demux.new.Goals as goal

pub returns-clause-stands : goal.returns-clause-stands
returns-clause-stands g c = λ file told.
    let K = g.C.PacketCut.is in
    let left = g.S.Source.left c.args.src in
    let head = c.args.head.now in
    let input = c.args.input in
    let nothing = demux_start K left c.new.result input head file c.requires c.new.ensures.head c.new.ensures.goes_on c.new.ensures.cuts told in (
      subst (λ (k : ℕ). DemuxStands K left c.new.result k 0 false false None (start (demux_task K input head file))) (sym c.start.ensures.value) nothing,
      record { tells_is = refl; events_are = refl; stopped_is = (λ e. cc, λ i. absurd i) },
    )

pub returns-clause-unread : goal.returns-clause-unread
returns-clause-unread g c =
    let K = g.C.PacketCut.is in
    let head = c.args.head.now in
    record {
      is_head = c.requires;
      fed = λ e. record {
        cuts = subst (λ (xs : List ℕ). K.cuts c.new.result head xs 0) (sym (drop_nil (K.start head))) c.new.ensures.cuts;
        skipped = let k : K.start head ≡ K.start head - length {A = ℕ} [] = omega arith in c.start.ensures.value ∙ k;
      };
      near = inl refl;
    }
