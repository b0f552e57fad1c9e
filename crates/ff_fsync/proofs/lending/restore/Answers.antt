use Rattle.std.proofs.Common.{◌<◌, List, ◌∙◌, ap, arith, length, subst, sym}
use Rattle.std.proofs.lemmas.List.{length-set}
use Rattle.ff_frame.specs.declared.video.VFrame.{VFrame}
use Rattle.ff_stream.specs.declared.item.Lane.{Lane}
use Rattle.ff_fsync.specs.laws.Inputs.{all_back}
use Rattle.ff_fsync.specs.Sides.{Side, Sound}
use Rattle.ff_fsync.specs.laws.Syncs.{sides_of}
use Rattle.ff_fsync.proofs.GivenBack.{fills_there, back_less}
use Rattle.ff_fsync.proofs.lending.restore.Goals as goal

pub take_back-requires : goal.take_back-requires
take_back-requires c =
    let v = c.pictures.invariant in
    let old = c.pictures.pictures in
    let new = c.pop.new.self in
    let sound : (lane : Lane) → Sound lane (all_back old.items (sides_of c.pictures.inputs.items)) = λ lane. subst (λ (ss : List Side). Sound lane ss) (sym v.back) (c.requires.sound lane) in
    record {
      fills = fills_there c.pictures.inputs.items new.items old.items c.len.result c.index_mut.result.now c.in-Some.picture sound c.in-Some.ensures.items (omega (arith, c.len.ensures, new.ok.0))
          (omega (arith, c.len.ensures, c.in-Some.ensures.len, old.ok.0, new.ok.0, v.no_more)) c.index_mut.ensures.value;
    }

pub pictures-preserved : goal.pictures-preserved
pictures-preserved c =
    let v = c.pictures.invariant in
    let is = c.pictures.inputs.items in
    let old = c.pictures.pictures in
    let new = c.pop.new.self in
    let i = c.take_back.new.self in
    let long = length-set is c.len.result i in
    let less : c.len.result < length is = omega (arith, c.len.ensures, c.in-Some.ensures.len, old.ok.0, new.ok.0, v.no_more) in
    record {
      back = back_less new.items is c.len.result i c.index_mut.result.now c.in-Some.picture (omega (arith, c.len.ensures, new.ok.0)) less c.index_mut.ensures.value c.take_back.ensures
          ∙ (ap (λ (fs : List VFrame). all_back fs (sides_of is)) (sym c.in-Some.ensures.items) ∙ v.back);
      no_more = omega (arith, long, c.len.ensures, new.ok.0, less);
    }
