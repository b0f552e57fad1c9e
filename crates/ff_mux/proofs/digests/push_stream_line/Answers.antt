use Rattle.std.proofs.Common.{append_assoc}
use Rattle.ff_mux.proofs.digests.push_stream_line.Goals as goal

pub returns : goal.returns
returns c = λ all h. simp (
  c.in_ok-push.ensures.items,
  c.in_ok-push_named.ensures,
  c.in_ok-extend_from_slice-2.ensures.items,
  c.in_ok-extend_from_slice.ensures.items,
  c.letter_of.ensures,
  c.name.ensures,
  c.as_bytes.ensures.value,
  c.as_str.ensures.value,
  c.in_ok-number.ensures.ok,
  c.in_ok-digest.ensures all h,
  append_assoc,
)
