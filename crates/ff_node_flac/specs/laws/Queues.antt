-- What coding keeps of what it was fed and gave.
use Rattle.std.specs.Prelude.{◌≡◌, Bool, true, false, List, [], ◌∷◌, ◌++◌, length}
use mathlib.Core.List.{IsPrefix}
use Rattle.ff_frame.specs.declared.audio.AFrame.{AFrame}
use Rattle.ff_frame.specs.declared.packet.Pkt.{Pkt}
use Rattle.ff_stream.specs.declared.item.Item.TheVariants.{Packet}
use Rattle.ff_flac_enc.specs.declared.format.Format.{Format}
use Rattle.ff_flac_enc.specs.laws.Cuts.{has_ended}
use Rattle.ff_flac_enc.specs.Gathered.{blocks_due}
use Rattle.ff_node_flac.specs.declared.queue.Queue.{Queue}
use Rattle.ff_node_flac.specs.Packets.{packet_of}
use Rattle.ff_node_flac.specs.Coding.{passes_in_flac}
use Rattle.ff_node_flac.specs.laws.Gathering.{Gathers}

-- what the frames are coded in
abbrev pub format_of_queue : Queue → Format
format_of_queue q = q.format

-- whether the input ended
abbrev pub queue_ended : Queue → Bool
queue_ended q = has_ended q.blocks

-- it was fed these frames, at the depth that is coded, and gave these blocks
abbrev pub Queues : Queue → List AFrame → List AFrame → Type 0
Queues q fed done = Gathers q.blocks q.cut.items q.codes.items q.counter q.given fed done

-- whatever it was fed and gave, it still was
abbrev pub StillQueues : Queue → Queue → Type 0
StillQueues old new = (fed done : List AFrame) → Queues old fed done → Queues new fed done

-- all blocks that are due were cut
abbrev pub AllCut : Queue → Type 0
AllCut q = (fed done : List AFrame) → Queues q fed done → length (blocks_due (queue_ended q) fed) ≡ length (done ++ q.cut.items)

-- all blocks that are due of what one was fed were cut in the other
abbrev pub AllCutSince : Queue → Queue → Type 0
AllCutSince old new = (fed done : List AFrame) → Queues old fed done → length (blocks_due (queue_ended new) fed) ≡ length (done ++ new.cut.items)

-- all blocks that are due were given
abbrev pub HasGivenAll : Queue → List AFrame → List AFrame → Type 0
HasGivenAll q fed done = blocks_due (queue_ended q) fed ≡ done

-- the next block that is due, and its packet, which can be told
pub record GivesNext (new : Queue) (packet : Pkt) (fed done : List AFrame) : Type 0 where
  pub block : AFrame
  pub stands : Queues new fed (done ++ block ∷ [])
  pub is : packet ≡ packet_of block (length done)
  pub told : passes_in_flac (length done) (Packet packet) ≡ false

-- the packet of the next block that is due can't be told
pub record IsTooLong (old : Queue) (fed done : List AFrame) : Type 0 where
  pub block : AFrame
  pub due : IsPrefix (done ++ block ∷ []) (blocks_due (queue_ended old) fed)
  pub long : passes_in_flac (length done) (Packet (packet_of block (length done))) ≡ true
