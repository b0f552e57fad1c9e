use Rattle.std.proofs.Common.{◌<◌, ◌∙◌, List, ap, arith, length, slice_set}
use Rattle.std.proofs.lemmas.List.{length-set}
use Rattle.ff_frame.specs.declared.video.VFrame.{VFrame}
use Rattle.ff_fsync.specs.laws.Inputs.{all_back}
use Rattle.ff_fsync.specs.laws.Syncs.{sides_of}
use Rattle.ff_fsync.proofs.GivenBack.{begun_there, back_more}
use Rattle.ff_fsync.proofs.lending.lend.Goals as goal

pub lend-picture-requires : goal.lend-picture-requires
lend-picture-requires c =
    let v = c.inputs.invariant in
    let i = c.inputs.inputs in
    record { some = begun_there c.args.inputs.now.items i.items c.inputs.pictures.items c.inputs.p c.index_mut.result.now c.requires.begun v.lent v.moved (omega (arith, c.inputs-test.true, c.len-p-end.ensures, c.args.inputs.now.ok.0, v.long)) c.index_mut.ensures.value }

pub inputs-preserved : goal.inputs-preserved
inputs-preserved c =
    let v = c.inputs.invariant in
    let i = c.inputs.inputs in
    let p = c.inputs.p in
    let lt : p < length i.items = omega (arith, c.inputs-test.true, c.len-p-end.ensures, c.args.inputs.now.ok.0, v.long) in
    let more = c.push_reserved.ensures in
    record {
      lent = ap (λ (fs : List VFrame). all_back fs (sides_of (slice_set i.items p c.lend-picture.new.self))) more.items
          ∙ (back_more c.inputs.pictures.items i.items p c.lend-picture.new.self c.index_mut.result.now c.lend-picture.result v.moved lt c.index_mut.ensures.value c.lend-picture.ensures ∙ v.lent);
      moved = omega (arith, more.len, v.moved, c.push_reserved.new.self.ok.0, c.inputs.pictures.ok.0);
      long = length-set i.items p c.lend-picture.new.self ∙ v.long;
      room = omega (arith, more.capacity, v.room);
    }
