use Rattle.std.proofs.Common.{false}
use Rattle.ff_test_net.proofs.network.five.run_five.Given as goal

abbrev pub ghosts-run_network : goal.ghosts-run_network
ghosts-run_network g a = record { claims = false }
