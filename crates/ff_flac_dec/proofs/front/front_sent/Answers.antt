use Rattle.std.proofs.Common.{◌≡◌, ◌∙◌, ℕ, List, length, take, Err, sym, ap, subst, arith}
use Rattle.std.proofs.lemmas.List.{length-take-le}
use Rattle.ff_flac_frame.specs.Frame.{Begins}
use Rattle.ff_flac_frame.specs.laws.Parts.{frame_of}
use Rattle.ff_flac_frame.proofs.LawLemmas.{alone}
use Rattle.ff_flac_dec.specs.declared.front.Front.TheVariants.{Whole}
use Rattle.ff_flac_dec.proofs.UnitLaws.{unit_begins, begins_bounds, wait_is, other_is}
use Rattle.ff_flac_dec.proofs.front.front_sent.Goals as goal

pub send-requires : goal.send-requires
send-requires c =
    let s = c.args.stream.now in
    let bytes = c.args.bytes.now in
    let frame = c.in-Ok.frame in
    let f = c.in-Ok.ensures.ok in
    let own = alone s c.requires bytes (frame_of f.0 frame) frame.len f.1 in
    let len : frame.len ≡ length (take frame.len bytes) = sym (length-take-le frame.len bytes f.1.0) in (
      f.0,
      subst (λ (xs : List ℕ). Begins s xs (frame_of f.0 frame) (length xs)) (sym c.front-own.ensures)
          (subst (λ (n : ℕ). Begins s (take frame.len bytes) (frame_of f.0 frame) n) len own),
    )

pub returns-in-Ok-clause-exact : goal.returns-in-Ok-clause-exact
returns-in-Ok-clause-exact c =
    let f = c.in-Ok.ensures.ok in
    sym (unit_begins c.args.stream.now c.args.bytes.now (frame_of f.0 c.in-Ok.frame) c.in-Ok.frame.len f.1)

pub returns-in-Ok-clause-bounds : goal.returns-in-Ok-clause-bounds
returns-in-Ok-clause-bounds c = λ len block is.
    let frame = c.in-Ok.frame in
    let f = c.in-Ok.ensures.ok in
    let l : frame.len ≡ len = cc in
    let k : frame.block ≡ block = cc in
    begins_bounds c.args.stream.now c.requires c.args.bytes.now (frame_of f.0 frame) frame.len len block f.1 l k

pub returns-in-Err-NotYet-clause-exact : goal.returns-in-Err-NotYet-clause-exact
returns-in-Err-NotYet-clause-exact c = wait_is c.args.stream.now c.requires c.args.bytes.now (c.in-Err-NotYet.ensures.not_yet (ap Err c.in-Err-NotYet.field-0-is))

pub returns-in-Err-Never-clause-exact : goal.returns-in-Err-Never-clause-exact
returns-in-Err-Never-clause-exact c = other_is c.args.stream.now c.requires c.args.bytes.now (c.in-Err-Never.ensures.never (ap Err c.in-Err-Never.field-0-is))
