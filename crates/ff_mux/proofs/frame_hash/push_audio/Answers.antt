use Rattle.std.proofs.Common.{append_assoc}
use Rattle.ff_mux.proofs.frame_hash.push_audio.Goals as goal

pub returns : goal.returns
returns c = λ bits. simp (
  c.in_ok-push_about-5.ensures,
  c.in_ok-push_about-4.ensures,
  c.in_ok-push_about-3.ensures,
  c.in_ok-push_about-2.ensures,
  c.in_ok-push_about.ensures,
  c.as_str.ensures.value,
  c.as_str-2.ensures.value,
  c.as_str-3.ensures.value,
  c.name.ensures,
  c.in_ok-base.ensures,
  c.in_ok-rate.ensures.ok,
  c.in_ok-layout.ensures,
  append_assoc,
)
