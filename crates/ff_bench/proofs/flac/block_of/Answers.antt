use Rattle.std.proofs.Common.{◌≡◌, ◌∙◌, ap, arith, length, sym, subst, ℤ, List}
use Rattle.std.specs.List.{All}
use Rattle.std.proofs.lemmas.List.Elements.{All-same}
use Rattle.ff_frame.specs.Audio.{IsAudio, FitsBits}
use Rattle.ff_flac_enc.specs.Frame.{IsBlock}
use Rattle.ff_bench.proofs.flac.block_of.Goals as goal

is_audio : (samples items : List ℤ) → samples ≡ items → length items ≡ 8192 → All (FitsBits 16) items → IsAudio 16 2 samples
is_audio samples items e len fit =
    let long : length samples ≡ 8192 = ap length e ∙ len in
    record {
      some_bits = omega arith;
      few_bits = omega arith;
      some_channels = omega arith;
      few_channels = omega arith;
      sample_frames = 4096;
      interleaved = omega (arith, long);
      some_sample_frames = omega arith;
      few_sample_frames = omega arith;
      within_bits = All-same (FitsBits 16) samples items e fit;
    }

pub make-requires : goal.make-requires
make-requires c = is_audio c.new.result c.in_ok-samples.samples.items c.new.ensures c.in_ok-samples.ensures.len c.in_ok-samples.ensures.fit

pub returns : goal.returns
returns c =
    let long : length c.new.result ≡ 8192 = ap length c.new.ensures ∙ c.in_ok-samples.ensures.len in
    subst IsBlock (sym c.make.ensures) (record {
      sound = is_audio c.new.result c.in_ok-samples.samples.items c.new.ensures c.in_ok-samples.ensures.len c.in_ok-samples.ensures.fit;
      few_samples = omega (arith, long);
      few_bits = omega arith;
      rate = omega arith;
    })
