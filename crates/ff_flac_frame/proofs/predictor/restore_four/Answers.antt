use Rattle.std.proofs.Common.{◌≡◌, ◌∙◌, [], ◌∷◌, List, ℤ, ap, refl, arith, rules, to_z, of_z}
use Rattle.std.specs.Int.{w32}
use Rattle.ff_flac_frame.specs.Prediction.{restored}
use Rattle.ff_flac_frame.specs.laws.Restoring.{predicted}
use Rattle.ff_flac_frame.proofs.predictor.restore_four.Goals as goal

pub returns-clause-next : goal.returns-clause-next
returns-clause-next c = λ t.
    let r = c.args.four in
    let step : ℤ → List ℤ → List ℤ = λ (x : ℤ) (ys : List ℤ). restored (predicted c.args.predictor.now) ys (x ∷ []) in
    let a = c.if-not-restore_next.ensures.next refl in
    let b = c.if-not-restore_next-2.ensures.next refl ∙ ap (step (to_z w32 (of_z w32 r.1))) a in
    let d = c.if-not-restore_next-3.ensures.next refl ∙ ap (step (to_z w32 (of_z w32 r.2))) b in
    let all = c.restore_next-4.ensures.next t ∙ ap (step (to_z w32 (of_z w32 r.3))) d in
    let f0 : to_z w32 (of_z w32 r.0) ≡ r.0 = search rules in
    let f1 : to_z w32 (of_z w32 r.1) ≡ r.1 = search rules in
    let f2 : to_z w32 (of_z w32 r.2) ≡ r.2 = search rules in
    let f3 : to_z w32 (of_z w32 r.3) ≡ r.3 = search rules in
    rw (f0, f1, f2, f3) at all

pub returns-clause-len : goal.returns-clause-len
returns-clause-len c = λ t.
    let one = c.if-not-restore_next.ensures.len refl in
    let two = c.if-not-restore_next-2.ensures.len refl in
    let three = c.if-not-restore_next-3.ensures.len refl in
    omega (arith, one, two, three, c.restore_next-4.ensures.len t)
