use Rattle.std.proofs.Common.{append_assoc}
use Rattle.ff_mux.specs.FlacHead.{stream_info}
use Rattle.ff_mux.proofs.flac.push_info.Goals as goal

pub returns : goal.returns
unfolding stream_info
returns c = simp (
  c.in_ok-push_md5.ensures,
  c.in_ok-extend_from_slice-2.ensures.items,
  c.to_be_bytes.ensures,
  c.sound.ensures,
  c.in_ok-push_size-2.ensures,
  c.in_ok-push_size.ensures,
  c.in_ok-extend_from_slice.ensures.items,
  append_assoc,
)
