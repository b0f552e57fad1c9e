use Rattle.std.proofs.Common.{append_assoc, rules}
use Rattle.std.proofs.lemmas.Int.{to_z-of_z}
use mir.Syntax.{w64}
use mir.Val.{SFits}
use Rattle.ff_mux.proofs.frame_hash.push_fields.Goals as goal

pub returns : goal.returns
returns c =
    let dts : SFits w64 c.args.pkt.now.dts = search rules in
    let pts : SFits w64 c.args.pkt.now.pts = search rules in
    let duration : SFits w64 c.args.pkt.now.duration = search rules in
    simp (
      c.in_ok-push_size.ensures,
      c.in_ok-push_ticks-3.ensures,
      c.in_ok-push_ticks-2.ensures,
      c.in_ok-push_ticks.ensures,
      c.in_ok-push_number.ensures,
      c.as_slice.ensures,
      to_z-of_z w64 c.args.pkt.now.dts dts,
      to_z-of_z w64 c.args.pkt.now.pts pts,
      to_z-of_z w64 c.args.pkt.now.duration duration,
      append_assoc,
    )
