use Rattle.std.proofs.Common.{◌≡◌, ◌++◌, ◌∷◌, [], ◌∙◌, ℕ, List, ap}
use Rattle.ff_concat.specs.declared.track.Track.{Track}
use Rattle.ff_concat.specs.laws.Tracks.{view_of}
use Rattle.ff_concat.proofs.Startings.{start_one}
use Rattle.ff_concat.proofs.starting.of_one.Goals as goal

pub returns : goal.returns
returns c =
    let n = c.args.segments in
    let rs = c.in_ok-reaches.reaches.items in
    let t = c.in_ok-track.track in
    let k = c.numerator-tick.result in
    let ticks : c.push_reserved.new.self.items ≡ k ∷ [] = c.push_reserved.ensures.items ∙ ap (λ (xs : List ℕ). xs ++ k ∷ []) c.in_ok-ticks.ensures.items in
    let tracks : c.push_reserved-2.new.self.items ≡ t ∷ [] = c.push_reserved-2.ensures.items ∙ ap (λ (xs : List Track). xs ++ t ∷ []) c.in_ok-tracks.ensures.items in
    ap (λ (ks : List ℕ). view_of ks n rs c.push_reserved-2.new.self.items) ticks
    ∙ (ap (λ (ts : List Track). view_of (k ∷ []) n rs ts) tracks
    ∙ start_one c.args.head.now k n t rs c.in_ok-track.ensures c.in_ok-reaches.ensures c.numerator-tick.ensures.is)
