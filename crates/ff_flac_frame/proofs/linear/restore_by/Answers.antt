use Rattle.std.proofs.Common.{◌≡◌, ◌∙◌, ◌+◌, ◌<◌, ◌++◌, ◌∷◌, [], ℤ, pos, ◌+ℤ◌, List, length, drop, get_or, to_z, of_z, refl, sym, ap, subst, arith, length-append}
use Rattle.std.specs.Int.{w32, w64}
use Rattle.std.proofs.lemmas.Int.{ints, to_z-of_z}
use Rattle.ff_frame.specs.Audio.{FitsBits}
use Rattle.ff_flac_frame.specs.Prediction.{ago, linear, restored, AllInDepth}
use Rattle.ff_flac_frame.proofs.PredictionLemmas.{leaves, IsSmall-in_depth, AllInDepth-push, ago_push, restored-step}
use Rattle.ff_flac_frame.proofs.PredictionLemmas.{all_wider}
use Rattle.ff_flac_frame.proofs.linear.restore_by.Goals as goal

pub next_linear-x-requires-clause-within : goal.next_linear-x-requires-clause-within
next_linear-x-requires-clause-within c = subst (λ (ys : List ℤ). AllInDepth 25 ys) (sym c.as_slice-in-loop-r.ensures.value) (all_wider c.args.depth 25 c.loop-r.out.items c.requires.depth_high c.loop-r.invariant.within)

pub returns-then-not-is_in_depth-clause-none : goal.returns-then-not-is_in_depth-clause-none
returns-then-not-is_in_depth-clause-none c =
    let x = c.next_linear-x.result in
    let s = to_z-of_z w64 x c.next_linear-x.ensures.fits in
    let x-is = c.next_linear-x.ensures.value ∙ ap (λ (ys : List ℤ). linear c.args.coefs.now c.args.shift ys +ℤ get_or c.args.rest.now c.loop-r.r-index (pos 0)) c.as_slice-in-loop-r.ensures.value in
    λ all. leaves c.args.depth (linear c.args.coefs.now c.args.shift) c.loop-r.out.items c.args.rest.now _ c.loop-r.r-index x (omega arith) x-is c.loop-r.invariant.total
    (λ g. let t = c.if-not-is_in_depth.ensures.1 (subst (λ (y : ℤ). FitsBits c.args.depth y) (sym s) g) in cc) all

pub overflow_cast-x : goal.overflow_cast-x
overflow_cast-x c =
    let x = c.next_linear-x.result in
    let s = to_z-of_z w64 x c.next_linear-x.ensures.fits in
    let m = IsSmall-in_depth c.args.depth x c.requires.depth_high (subst (λ (y : ℤ). FitsBits c.args.depth y) s (c.if-not-is_in_depth.ensures.0 refl)) in
    rw s (omega (arith, ints))

pub loop-r-preserved : goal.loop-r-preserved
loop-r-preserved c =
    let l = c.loop-r in
    let x = c.next_linear-x.result in
    let s = to_z-of_z w64 x c.next_linear-x.ensures.fits in
    let x-is = c.next_linear-x.ensures.value ∙ ap (λ (ys : List ℤ). linear c.args.coefs.now c.args.shift ys +ℤ get_or c.args.rest.now l.r-index (pos 0)) c.as_slice-in-loop-r.ensures.value in
    let g = subst (λ (y : ℤ). FitsBits c.args.depth y) s (c.if-not-is_in_depth.ensures.0 refl) in
    let m = IsSmall-in_depth c.args.depth x c.requires.depth_high g in
    let s32 : to_z w32 (of_z w32 x) ≡ x = to_z-of_z w32 x (omega (arith, ints)) in
    let e : to_z w32 (of_z w32 (to_z w64 (of_z w64 x))) ≡ x = rw s s32 in
    let items : c.push_reserved.new.self.items ≡ l.out.items ++ x ∷ [] = c.push_reserved.ensures.items ∙ ap (λ (y : ℤ). l.out.items ++ y ∷ []) e in
    let lt : l.r-index < length c.args.rest.now = omega arith in
    record {
      total = subst (λ (ys : List ℤ). restored (linear c.args.coefs.now c.args.shift) ys (drop (l.r-index + 1) c.args.rest.now) ≡ restored (linear c.args.coefs.now c.args.shift) c.args.samples.items c.args.rest.now) (sym items)
          (ap (λ (y : ℤ). restored (linear c.args.coefs.now c.args.shift) (l.out.items ++ y ∷ []) (drop (l.r-index + 1) c.args.rest.now)) x-is ∙ sym (restored-step (linear c.args.coefs.now c.args.shift) l.out.items c.args.rest.now l.r-index lt) ∙ l.invariant.total);
      last = s ∙ sym (ap (λ (ys : List ℤ). ago 1 ys) items ∙ ago_push l.out.items x);
      there = rw items (omega (arith, length-append l.out.items (x ∷ []), l.invariant.there));
      within = subst (λ (ys : List ℤ). AllInDepth c.args.depth ys) (sym items) (AllInDepth-push c.args.depth l.out.items x l.invariant.within g);
      room = omega (arith, l.invariant.room, c.push_reserved.ensures.len, c.push_reserved.ensures.capacity, lt);
    }
