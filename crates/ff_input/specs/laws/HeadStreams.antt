-- What is true of every stream that a head tells of, whichever format the input has.
use Rattle.std.specs.Prelude.{Option, Some, None, IfSome}
use Rattle.std.specs.List.{AllByRecursion}
use Rattle.std.proofs.Common.{inl, inr}
use Rattle.ff_frame.specs.declared.head.StreamHead.{StreamHead}
use Rattle.ff_frame.specs.declared.head.StreamHead.TheVariants.{Audio, Video}
use Rattle.ff_avi.specs.Sound as avi
use Rattle.ff_input.specs.declared.one_of.OneOf.TheVariants.{First, Other}
use Rattle.ff_input.specs.Formats.{InputHead, IsHead, single_owes, streams_in}
use Rattle.ff_input.specs.laws.Streams.{IsInputStream}

avi_stream : (head : StreamHead) → avi.IsStream head → IsInputStream head
avi_stream (Audio tb rate bits channels codec) h = inl h
avi_stream (Video tb format width height sar_num sar_den) h = inr (inr (h.columns, h.rows, h.ticks))

avi_streams : (first : StreamHead) (second : Option StreamHead) → avi.IsStream first → IfSome second avi.IsStream
    → AllByRecursion IsInputStream (avi.streams_with first second)
avi_streams first None one other = (avi_stream first one, tt)
avi_streams first (Some second) one other = (avi_stream first one, (avi_stream second other, tt))

pub head_streams : (head : InputHead) → IsHead head → AllByRecursion IsInputStream (streams_in head)
head_streams (First head) h = (single_owes.streams head h, tt)
head_streams (Other head) h = avi_streams head.first head.second h.first h.second
