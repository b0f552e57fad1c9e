use Rattle.ff_test_machines.proofs.Stream.{next_sends}
use Rattle.ff_test_net.proofs.net.links.put_packet.Goals as goal

pub try_put-requires : goal.try_put-requires
try_put-requires g c = next_sends _ _ _ c.requires.sent c.requires.few c.requires.item
