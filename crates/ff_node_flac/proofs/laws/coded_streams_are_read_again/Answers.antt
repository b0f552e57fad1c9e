use Rattle.ff_node_flac.proofs.FilesRead.{streams}
use Rattle.ff_node_flac.proofs.laws.coded_streams_are_read_again.Goals as goal

pub returns : goal.returns
returns c = streams
