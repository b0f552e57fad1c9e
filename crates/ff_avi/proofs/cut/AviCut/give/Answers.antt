use Rattle.std.proofs.Common.{◌≡◌, ◌∙◌, ◌+◌, ap, arith, pos, refl}
use Rattle.ff_frame.specs.Packet.{packet_at}
use Rattle.ff_avi.specs.Data.{packet_of}
use Rattle.ff_avi.proofs.CutLaws.{unit_given, packet_near}
use Rattle.ff_avi.proofs.cut.AviCut.give.Goals as goal

pub returns-clause-ok : goal.returns-clause-ok
returns-clause-ok c =
    let cut = c.args.self.now in
    let unit = c.args.unit in
    let same : c.packet-p.result ≡ packet_of unit cut.place cut.held.bytes =
    c.packet-p.ensures ∙ ap (packet_at (pos unit.time) (pos unit.duration) (cut.place + unit.skip)) c.in_ok-bytes.ensures.ok in
    let near = c.requires.step.near in (
      unit_given cut _ unit c.args.pad c.args.next c.packet-p.result c.requires.passed.0 c.requires.passed.1 c.requires.turn c.requires.there.0 c.requires.there.1 same
          (record { of_lanes = refl; of_first = refl; of_from = refl; of_left = c.requires.passed.0; of_pad = refl; of_known = refl; of_place = refl; of_bytes = c.in_ok-bytes.ensures.rest }),
      packet_near unit cut.place _ cut.held.bytes c.packet-p.result same (omega (arith, near)),
    )
