-- Streams: no format replaces a byte of one.
use Rattle.std.proofs.Common.{◌≡◌, Bool, true, false, List, [], ◌∷◌, refl}
use Rattle.ff_format.specs.Layouts.{Layout, IsStreamed, streamed_of}
use Rattle.ff_format.specs.Outputs.{layout_of_first}
use Rattle.ff_format.specs.declared.format.FileFormat.TheVariants as format
use Rattle.ff_format.specs.declared.format.Rf64.{Rf64 as Mode}
use Rattle.ff_frame.specs.declared.head.StreamHead.{StreamHead}
use Rattle.ff_mux.specs.writers.AnyWriters.{StreamsAreStreamed}
use Rattle.ff_mux.specs.writers.RawFile.{raw_layout}
use Rattle.ff_wav.specs.Layout.{wav_layout_in}

-- a format that would be patched or bounded
cut_off : (streamed : Bool) (layout : Layout) → streamed ≡ true → IsStreamed (streamed_of streamed layout)
cut_off true layout e = record { unpatched = λ n totals. refl; unbounded = refl }
cut_off false layout e = cc

-- a layout of one stream that is never patched
first_alone : (layout : StreamHead → Layout) (heads : List StreamHead) → ((head : StreamHead) → IsStreamed (layout head)) → IsStreamed (layout_of_first layout heads)
first_alone layout [] streams = record { unpatched = λ n totals. refl; unbounded = refl }
first_alone layout (head ∷ heads) streams = streams head

wav : (streamed : Bool) (mode : Mode) (head : StreamHead) → streamed ≡ true → IsStreamed (wav_layout_in streamed mode head)
wav true mode head e = record { unpatched = λ n totals. refl; unbounded = refl }
wav false mode head e = cc

raw : (heads : List StreamHead) → IsStreamed (layout_of_first (λ head. raw_layout) heads)
raw heads = first_alone (λ head. raw_layout) heads (λ head. record { unpatched = λ n totals. refl; unbounded = refl })

pub streams_are_streamed : StreamsAreStreamed
streams_are_streamed format.Wav options heads e = first_alone (wav_layout_in options.streamed options.rf64) heads (λ head. wav options.streamed options.rf64 head e)
streams_are_streamed format.Au options heads e = cut_off options.streamed _ e
streams_are_streamed format.Flac options heads e = cut_off options.streamed _ e
streams_are_streamed format.Y4m options heads e = first_alone _ heads (λ head. record { unpatched = λ n totals. refl; unbounded = refl })
streams_are_streamed format.U8 options heads e = raw heads
streams_are_streamed format.S8 options heads e = raw heads
streams_are_streamed format.S16le options heads e = raw heads
streams_are_streamed format.S16be options heads e = raw heads
streams_are_streamed format.S24le options heads e = raw heads
streams_are_streamed format.S24be options heads e = raw heads
streams_are_streamed format.S32le options heads e = raw heads
streams_are_streamed format.S32be options heads e = raw heads
streams_are_streamed format.RawVideo options heads e = raw heads
streams_are_streamed other options heads e = record { unpatched = λ n totals. refl; unbounded = refl }
