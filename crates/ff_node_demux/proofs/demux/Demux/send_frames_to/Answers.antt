use Rattle.ff_node_demux.proofs.Sending.{same_demux}
use Rattle.ff_node_demux.proofs.demux.Demux.send_frames_to.Goals as goal

pub returns : goal.returns
returns g c =
    let given = c.self-1.given in
    same_demux c.args.self.now c.send_frames_to.new.self c.send_frames_to.ensures given.0 given.1.0 given.1.1.0 given.1.1.1.0 given.1.1.1.1.0 given.1.1.1.1.1.0
