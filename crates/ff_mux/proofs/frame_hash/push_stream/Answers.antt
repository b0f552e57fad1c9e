use Rattle.std.proofs.Common.{◌≡◌, ◌++◌, OnOk, subst, sym}
use Rattle.ff_frame.specs.declared.head.StreamHead.{StreamHead}
use Rattle.ff_mux.specs.FrameHash.{stream_lines}
use Rattle.ff_mux.proofs.frame_hash.push_stream.Goals as goal

pub returns-in-Audio : goal.returns-in-Audio
returns-in-Audio c = subst (λ (h : StreamHead). OnOk c.push_audio.result (c.push_audio.new.out.items ≡ c.args.out.now.items ++ stream_lines c.args.stream h)) (sym c.in-Audio.is) (c.push_audio.ensures c.in-Audio.bits)

pub returns-in-Video : goal.returns-in-Video
returns-in-Video c = subst (λ (h : StreamHead). OnOk c.push_video.result (c.push_video.new.out.items ≡ c.args.out.now.items ++ stream_lines c.args.stream h)) (sym c.in-Video.is) (c.push_video.ensures c.in-Video.format)
