-- What decoders and encoders are made for.
use Rattle.ff_frame.specs.declared.head.Codec.{Codec}
use Rattle.ff_frame.specs.declared.head.StreamHead.{StreamHead}
use Rattle.ff_node_codec.specs.declared.codecs.flac.FlacDecoder.{FlacDecoder}
use Rattle.ff_node_codec.specs.declared.codecs.pcm.PcmDecoder.{PcmDecoder}
use Rattle.ff_node_codec.specs.declared.codecs.pcm.PcmEncoder.{PcmEncoder}
use Rattle.ff_node_codec.specs.declared.codecs.raw.RawDecoder.{RawDecoder}

-- the head of the stream that is decoded
abbrev pub pcm_head : PcmDecoder → StreamHead
pcm_head d = d.head

abbrev pub raw_head : RawDecoder → StreamHead
raw_head d = d.head

abbrev pub flac_head : FlacDecoder → StreamHead
flac_head d = d.head

-- the codec of the packets that are made
abbrev pub pcm_codec : PcmEncoder → Codec
pcm_codec e = e.codec
