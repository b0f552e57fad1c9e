use Rattle.std.proofs.Common.{◌≡◌, ◌++◌, ◌∷◌, [], ◌*◌, ◌∙◌, ℕ, List, ap}
use Rattle.ff_frame.specs.Heads.{base_of_head}
use Rattle.ff_concat.specs.declared.track.Track.{Track}
use Rattle.ff_concat.specs.laws.Tracks.{view_of}
use Rattle.ff_concat.proofs.Startings.{start_two}
use Rattle.ff_concat.proofs.starting.of_two.Goals as goal

pub returns : goal.returns
returns c =
    let n = c.args.segments in
    let h = c.args.first.now in
    let g = c.args.second.now in
    let rs = c.in_ok-reaches.reaches.items in
    let t = c.in_ok-track.track in
    let u = c.in_ok-other_track.other_track in
    let a = c.numerator.result * c.denominator.result in
    let b = c.numerator-2.result * c.denominator-2.result in
    let ticks : c.push_reserved-2.new.self.items ≡ a ∷ b ∷ [] = c.push_reserved-2.ensures.items
    ∙ ap (λ (xs : List ℕ). xs ++ b ∷ []) (c.push_reserved.ensures.items ∙ ap (λ (xs : List ℕ). xs ++ a ∷ []) c.in_ok-ticks.ensures.items) in
    let tracks : c.push_reserved-4.new.self.items ≡ t ∷ u ∷ [] = c.push_reserved-4.ensures.items
    ∙ ap (λ (xs : List Track). xs ++ u ∷ []) (c.push_reserved-3.ensures.items ∙ ap (λ (xs : List Track). xs ++ t ∷ []) c.in_ok-tracks.ensures.items) in
    ap (λ (ks : List ℕ). view_of ks n rs c.push_reserved-4.new.self.items) ticks
    ∙ (ap (λ (ts : List Track). view_of (a ∷ b ∷ []) n rs ts) tracks
    ∙ start_two h g a b n (n * 2) t u rs c.in_ok-track.ensures c.in_ok-other_track.ensures c.in_ok-reaches.ensures
    (ap (λ (x : ℕ). x * c.denominator.result) c.numerator.ensures.is ∙ ap (λ (x : ℕ). (base_of_head h).num * x) c.denominator.ensures.is)
    (ap (λ (x : ℕ). x * c.denominator-2.result) c.numerator-2.ensures.is ∙ ap (λ (x : ℕ). (base_of_head g).num * x) c.denominator-2.ensures.is))
