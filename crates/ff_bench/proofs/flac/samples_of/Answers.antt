use Rattle.std.proofs.Common.{◌≡◌, ◌++◌, ◌∙◌, ap, arith, rules, length, ℤ, List, [], ◌∷◌, w32}
use Rattle.std.specs.Prelude.{FitsSigned}
use Rattle.std.proofs.lemmas.Int.{to_z-of_z}
use Rattle.std.proofs.lemmas.List.{length-append}
use Rattle.std.proofs.lemmas.List.Elements.{All-push, All-same}
use Rattle.ff_frame.specs.Audio.{FitsBits}
use Rattle.ff_bench.proofs.flac.samples_of.Goals as goal

pub loop-preserved : goal.loop-preserved
loop-preserved c =
    let l : ℤ = c.next-left.result.0 in
    let r : ℤ = c.next-left.result.1 in
    let before : List ℤ = c.loop.samples.items in
    let between : List ℤ = c.push.new.self.items in
    let after : List ℤ = c.push-in-loop.new.self.items in
    let fl : FitsSigned w32 l = search rules in
    let fr : FitsSigned w32 r = search rules in
    let a : between ≡ before ++ (l ∷ []) = c.in_ok-push.ensures.items ∙ ap (λ z. before ++ (z ∷ [])) (to_z-of_z w32 l fl) in
    let b : after ≡ between ++ (r ∷ []) = c.in_ok-push-2.ensures.items ∙ ap (λ z. between ++ (z ∷ [])) (to_z-of_z w32 r fr) in
    record {
      len = ap length b ∙ length-append between (r ∷ []) ∙ omega (arith, ap length a, length-append before (l ∷ []), c.loop.invariant.len);
      fit = All-same (FitsBits 16) after (between ++ (r ∷ [])) b
          (All-push (FitsBits 16) between r (All-same (FitsBits 16) between (before ++ (l ∷ [])) a (All-push (FitsBits 16) before l c.loop.invariant.fit c.next-left.ensures.left)) c.next-left.ensures.right);
    }
