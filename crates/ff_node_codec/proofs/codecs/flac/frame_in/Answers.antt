use Rattle.std.proofs.Common.{ℕ, List, length, Err, ap, sym, subst, ◌∙◌}
use Rattle.ff_flac_frame.specs.Frame.{Begins, IsNever}
use Rattle.ff_flac_frame.specs.laws.Parts.{frame_of}
use Rattle.ff_flac_dec.specs.Streams.{stream_of}
use Rattle.ff_node_codec.specs.laws.codecs.FlacLaws.{held_more, whole_begins, none_begins, none_ever}
use Rattle.ff_node_codec.proofs.codecs.flac.frame_in.Goals as goal

pub returns-then-frame-bytes : goal.returns-then-frame-bytes
returns-then-frame-bytes c =
    let frame = c.in-Ok.frame in
    let Here : List ℕ → Type 0 = λ xs. (n : ℕ) × Begins (stream_of c.args.head.now.head) xs (frame_of n frame) frame.len in
    let begins = subst Here c.as_slice-bytes.ensures c.in-Ok.ensures.ok in (
      begins.0,
      whole_begins c.args.head.now.head c.args.packet.now (frame_of begins.0 frame) frame.len begins.1
          (c.if-frame-bytes.true ∙ ap (λ (xs : List ℕ). length xs) c.as_slice-bytes.ensures),
    )

pub returns-else-frame-bytes : goal.returns-else-frame-bytes
returns-else-frame-bytes c =
    let frame = c.in-Ok.frame in
    let Here : List ℕ → Type 0 = λ xs. (n : ℕ) × Begins (stream_of c.args.head.now.head) xs (frame_of n frame) frame.len in
    let begins = subst Here c.as_slice-bytes.ensures c.in-Ok.ensures.ok in
    held_more c.args.head.now.head c.args.packet.now (frame_of begins.0 frame) frame.len begins.1
    (λ e. c.if-frame-bytes.false (e ∙ ap (λ (xs : List ℕ). length xs) (sym c.as_slice-bytes.ensures)))

pub returns-in-Err-NotYet : goal.returns-in-Err-NotYet
returns-in-Err-NotYet c =
    let not_yet = c.in-Err-NotYet.ensures.not_yet (ap Err c.in-Err-NotYet.field-0-is) in
    none_begins c.args.head.now.head c.args.packet.now
    (λ f len b. not_yet.0 f len (subst (λ (xs : List ℕ). Begins (stream_of c.args.head.now.head) xs f len) (sym c.as_slice-bytes.ensures) b))

pub returns-in-Err-Never : goal.returns-in-Err-Never
returns-in-Err-Never c =
    none_ever c.args.head.now.head c.args.packet.now
    (subst (IsNever (stream_of c.args.head.now.head)) c.as_slice-bytes.ensures (c.in-Err-Never.ensures.never (ap Err c.in-Err-Never.field-0-is)))
