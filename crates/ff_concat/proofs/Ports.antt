-- How many inputs and outputs there are.
use Rattle.std.proofs.Common.{◌≡◌, ◌<◌, ◌*◌, ℕ, length, ap, sym, ◌∙◌, subst}
use Rattle.ff_concat.specs.declared.concat.Concat.{Concat}
use Rattle.ff_concat.specs.laws.Tracks.{lanes_of, concat_view}
use Rattle.ff_concat.specs.laws.TrackLaws.{repeated-length, lanes-length}

pub ins_are : (m : Concat) → length (concat_view m).ins ≡ length m.reaches.items
ins_are m = repeated-length m.segments (lanes_of m.tracks.items) ∙ (ap (λ (k : ℕ). m.segments * k) (lanes-length m.tracks.items) ∙ sym m.inputs)

pub outs_are : (m : Concat) → length (concat_view m).outs ≡ length m.tracks.items
outs_are m = lanes-length m.tracks.items

pub in_there : (m : Concat) (p : ℕ) → p < length (concat_view m).ins → p < length m.reaches.items
in_there m p lt = subst (λ (k : ℕ). p < k) (ins_are m) lt

pub out_there : (m : Concat) (q : ℕ) → q < length (concat_view m).outs → q < length m.tracks.items
out_there m q lt = subst (λ (k : ℕ). q < k) (outs_are m) lt
