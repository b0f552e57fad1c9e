-- The formats of inputs, a line for each in each list: its heads, its first words, its cut. By them the head of a whole input: in the
-- format that was given, or in the one whose first word it has.
use Rattle.std.specs.Prelude.{⊤, ℕ, List, [], ◌∷◌, ◌++◌, map, Option, Some, None, Err}
use Rattle.ff_avi.specs.Heads as avi
use Rattle.ff_avi.specs.Sound as avi_heads
use Rattle.ff_avi.specs.declared.head.AviHead.{AviHead}
use Rattle.ff_avi.specs.declared.head.AviState.{AviState}
use Rattle.ff_avi.specs.declared.walk.Avi.{Avi}
use Rattle.ff_frame.specs.declared.head.StreamHead.{StreamHead}
use Rattle.ff_reader.specs.Cutters.{Cutter}
use Rattle.ff_reader.specs.Heads as heads
use Rattle.ff_reader.specs.declared.walk.HeadWalk.{HeadWalk}
use Rattle.ff_reader.specs.declared.fault.HeadFault.TheVariants.{Unsupported}
use Rattle.ff_format.specs.declared.format.FileFormat.{FileFormat}
use Rattle.ff_format.specs.declared.format.FileFormat.TheVariants as format
use Rattle.ff_pcm.specs.declared.body.head.PcmHead.{PcmHead}
use Rattle.ff_pcm.specs.declared.body.cut.PcmCut.{PcmCut}
use Rattle.ff_pcm.specs.body.Cuts.{pcm_cutter}
use Rattle.ff_au.specs.Heads as au
use Rattle.ff_au.specs.declared.walk.Au.{Au}
use Rattle.ff_wav.specs.Heads as wav
use Rattle.ff_wav.specs.Heads.{WavWalk}
use Rattle.ff_y4m.specs.declared.head.Y4mHead.{Y4mHead}
use Rattle.ff_y4m.specs.declared.cut.Y4mCut.{Y4mCut}
use Rattle.ff_y4m.specs.Cuts.{y4m_cutter}
use Rattle.ff_y4m.specs.Heads as y4m
use Rattle.ff_y4m.specs.Lines.{space, line_feed}
use Rattle.ff_flac_dec.specs.declared.head.FlacHead.{FlacHead}
use Rattle.ff_flac_dec.specs.declared.cut.FlacCut.{FlacCut}
use Rattle.ff_flac_dec.specs.Cuts.{flac_cutter}
use Rattle.ff_flac_dec.specs.Heads as flac
use Rattle.ff_flac_dec.specs.Tags as flac_tags
use Rattle.ff_flac_dec.specs.Heads.{FlacWalk}
use Rattle.ff_input.specs.declared.formats.Y4mWalk.{Y4mWalk}
use Rattle.ff_input.specs.declared.one_of.OneOf.{OneOf}
use Rattle.ff_input.specs.declared.one_of.OneOf.TheVariants.{First, Other}
use Rattle.ff_input.specs.Answers.{as_found, either_head, either_reached, units_reached, flac_reached, wav_reached}
use Rattle.ff_input.specs.Either.{IsEither, either, either_cutter}
use Rattle.ff_input.specs.FirstWords.{Word, named_in}
use Rattle.ff_input.specs.laws.FlacShapes.{flac_owes}
use Rattle.ff_input.specs.laws.Owed.{Owes, either_owes}
use Rattle.ff_input.specs.laws.PcmShapes.{pcm_owes}
use Rattle.ff_input.specs.laws.Y4mShapes.{y4m_owes}

-- ---- a line for each format

-- of one stream: its heads, walks and cuts
abbrev pub SingleHead : Type 0
SingleHead = OneOf PcmHead (OneOf Y4mHead (OneOf FlacHead PcmHead))

abbrev pub SingleWalk : Type 0
SingleWalk = OneOf WavWalk (OneOf Y4mWalk (OneOf FlacWalk (HeadWalk Au PcmHead ⊤)))

abbrev pub SingleCut : Type 0
SingleCut = OneOf PcmCut (OneOf Y4mCut (OneOf FlacCut PcmCut))

-- of one stream or several: its heads and walks
abbrev pub InputHead : Type 0
InputHead = OneOf SingleHead AviHead

abbrev pub AnyWalk : Type 0
AnyWalk = OneOf SingleWalk (HeadWalk Avi AviHead AviState)

-- a head, or the fault for which there is none
abbrev pub Found : Type 0
Found = heads.Found InputHead

-- its head, or the fault for which there is none, in a whole input; others aren't read
abbrev pub head_in : FileFormat → List ℕ → Found
head_in format.Wav bs = as_found First (as_found First (wav.head bs))
head_in format.Y4m bs = as_found First (as_found Other (as_found First (y4m.head bs)))
head_in format.Flac bs = as_found First (as_found Other (as_found Other (as_found First (flac.head bs))))
head_in format.Au bs = as_found First (as_found Other (as_found Other (as_found Other (au.head bs))))
head_in format.Avi bs = as_found Other (avi.head bs)
head_in _ bs = Err (Unsupported 0)

-- what its inputs begin with: `RIFF` or `RF64`, any four bytes and `WAVE`; `YUV4MPEG2` and a space or a line feed; `fLaC`,
-- or `ID3` where tags come before it; `.snd`; `RIFF`, any four bytes and `AVI `
abbrev pub first_words : List Word
first_words =
    record { word = wav.riff_magic; format = format.Wav }
    ∷ record { word = wav.rf64_magic; format = format.Wav }
    ∷ record { word = map Some (y4m.magic ++ space ∷ []); format = format.Y4m }
    ∷ record { word = map Some (y4m.magic ++ line_feed ∷ []); format = format.Y4m }
    ∷ record { word = flac_tags.magic; format = format.Flac }
    ∷ record { word = flac_tags.tag_magic; format = format.Flac }
    ∷ record { word = au.magic; format = format.Au }
    ∷ record { word = avi.magic; format = format.Avi }
    ∷ []

-- of its walk: the head of a whole input, and that it has read this front; over a line, which is read anew, any
abbrev pub any_head : AnyWalk → List ℕ → Found
any_head = either_head (either_head (λ w. wav.head) (either_head (λ w. y4m.head) (either_head (λ w. flac.head) (λ w. au.head)))) (λ w. avi.head)

abbrev pub any_reached : AnyWalk → List ℕ → Type 0
any_reached = either_reached (either_reached wav_reached (either_reached (λ w front. Unit {0}) (either_reached flac_reached (units_reached au.grammar))))
    (units_reached avi.grammar)

-- of one stream: its cut, and what it owes by it
abbrev pub single_cutter : Cutter SingleHead SingleCut
single_cutter = either_cutter pcm_cutter (either_cutter y4m_cutter (either_cutter flac_cutter pcm_cutter))

pub single_owes : Owes single_cutter
single_owes = either_owes pcm_owes (either_owes y4m_owes (either_owes flac_owes pcm_owes))

-- ---- of any

-- what is true of every head that is read, and the heads of its streams, by number
abbrev pub IsHead : InputHead → Type 0
IsHead = IsEither single_cutter.IsHead avi_heads.IsHead

abbrev pub streams_in : InputHead → List StreamHead
streams_in = either (λ head. single_cutter.stream_head head ∷ []) avi_heads.streams_of

-- the format whose first word an input has
abbrev pub named : List ℕ → Option FileFormat
named bs = named_in first_words bs

-- the head of an input in a format, if it has one
abbrev pub head_by : Option FileFormat → List ℕ → Found
head_by (Some f) bs = head_in f bs
head_by None bs = Err (Unsupported 0)

-- the head of an input whose format was given, or is told by its first bytes
unfoldable pub input_head : Option FileFormat → List ℕ → Found
input_head (Some f) bs = head_in f bs
input_head None bs = head_by (named bs) bs
