-- Of valid streams whose heads go together the frames side by side are in shape for the head that `join` gives its output.
use Rattle.std.proofs.Common.{◌≡◌, ℕ, zero, suc, ◌+◌, ◌<◌, ◌≤◌, Bool, true, false, get_or, List, [], ◌∷◌, length, refl, ap, sym, ◌∙◌, subst, arith}
use Rattle.std.specs.Prelude.{◌==◌, nat_le, Ok}
use Rattle.std.proofs.lemmas.Bool.{and_parts, eqb-true, leb-true}
use Rattle.ff_frame.specs.declared.config.ConfigError.TheVariants.{Mismatch, BadSize}
use Rattle.ff_frame.specs.declared.head.Codec.{Codec}
use Rattle.ff_frame.specs.declared.head.Codec.TheVariants.{RawVideo}
use Rattle.ff_frame.specs.declared.head.StreamHead.{StreamHead}
use Rattle.ff_frame.specs.declared.head.StreamHead.TheVariants.{Audio as AudioHead, Video as VideoHead}
use Rattle.ff_frame.specs.Heads.{base_of_head}
use Rattle.ff_stream.specs.declared.item.Lane.TheVariants.{Frames}
use Rattle.ff_stream.specs.Lanes.{AreInShape, IsValid}
use Rattle.ff_stream.specs.Within.{within, passes_limits}
use Rattle.ff_stream.specs.laws.WithinLaws.{within_valid}
use Rattle.ff_filter.specs.Joins.{Ports}
use Rattle.ff_filter.specs.Options.{is_sound, Checked}
use Rattle.ff_joins.specs.Arguments.{each_head}
use Rattle.ff_joins.specs.JoinOptions.{rate_of, bits_of, channels_of, channels_in, is_like, with_channels, AreAlike}
use Rattle.ff_joins.specs.laws.JoinShapes.{channels_to}
use Rattle.ff_joins.specs.JoinView.{channels_at}
use Rattle.ff_joins.specs.Joined.{side_to_side}
use Rattle.ff_joins.proofs.JoinShape.{sound_shape}

-- the channels of all, counted from either end
channels_shift : (f : ℕ → ℕ) (n : ℕ) → channels_to f (suc n) ≡ f 0 + channels_to (λ p. f (suc p)) n
channels_shift f zero = omega arith
channels_shift f (suc n) = let h = channels_shift f n in omega (arith, h)

channels_all : (hs : List StreamHead) → channels_to (channels_at hs) (length hs) ≡ channels_in hs
channels_all [] = refl
channels_all (h ∷ hs) = channels_shift (channels_at (h ∷ hs)) (length hs) ∙ ap (λ (k : ℕ). channels_of h + k) (channels_all hs)

abbrev codec_of : StreamHead → Codec
codec_of (AudioHead tb rate bits channels codec) = codec
codec_of (VideoHead tb format width height num den) = RawVideo

-- a head of sound by its parts
sound_parts : (h : StreamHead) → is_sound h ≡ true → h ≡ AudioHead (base_of_head h) (rate_of h) (bits_of h) (channels_of h) (codec_of h)
sound_parts (AudioHead tb rate bits channels codec) e = refl
sound_parts (VideoHead tb format width height num den) e = cc

module _ (h : StreamHead) where
  abbrev head_at : List StreamHead → ℕ → StreamHead
  head_at hs p = get_or hs p h

  each_there : (f : StreamHead → Bool) (hs : List StreamHead) (p : ℕ) → each_head f hs ≡ true → p < length hs → f (head_at hs p) ≡ true
  each_there f [] p e lt = absurd (omega (arith, lt))
  each_there f (k ∷ hs) zero e lt = (and_parts (f k) (each_head f hs) e).0
  each_there f (k ∷ hs) (suc p) e lt = each_there f hs p (and_parts (f k) (each_head f hs) e).1 (omega (arith, lt))

  channels_there : (hs : List StreamHead) (p : ℕ) → p < length hs → channels_of (head_at hs p) ≡ channels_at hs p
  channels_there [] p lt = absurd (omega (arith, lt))
  channels_there (k ∷ hs) zero lt = refl
  channels_there (k ∷ hs) (suc p) lt = channels_there hs p (omega (arith, lt))

  alike_there : (hs : List StreamHead) (p : ℕ) → each_head (is_like h) hs ≡ true → p < length (h ∷ hs)
      → (rate_of (head_at (h ∷ hs) p) ≡ rate_of h) × (bits_of (head_at (h ∷ hs) p) ≡ bits_of h)
  alike_there hs zero e lt = (refl, refl)
  alike_there hs (suc p) e lt =
      let k = head_at hs p in
      let a = and_parts (rate_of k == rate_of h) (bits_of k == bits_of h) (each_there (is_like h) hs p e (omega (arith, lt))) in
      (eqb-true (rate_of k) (rate_of h) a.0, eqb-true (bits_of k) (bits_of h) a.1)

-- heads that go together
record GoTogether (h : StreamHead) (hs : List StreamHead) (head : StreamHead) : Type 0 where
  like : each_head (is_like h) hs ≡ true
  few : channels_in (h ∷ hs) ≤ 8
  is : head ≡ with_channels h (channels_in (h ∷ hs))

go_together : (h : StreamHead) (hs : List StreamHead) (head : StreamHead) → AreAlike (h ∷ hs) (Ok head) → GoTogether h hs head
go_together h hs head a = at (each_head (is_like h) hs) (nat_le (channels_in (h ∷ hs)) 8) refl refl a
  where
    at : (b c : Bool) → each_head (is_like h) hs ≡ b → nat_le (channels_in (h ∷ hs)) 8 ≡ c
        → Checked b Mismatch (λ q. Checked c BadSize (λ u. u ≡ Ok (with_channels h (channels_in (h ∷ hs)))) q) (Ok head) → GoTogether h hs head
    at true true e f r = record { like = e; few = leb-true (channels_in (h ∷ hs)) 8 f; is = cc (r) }
    at true false e f r = cc (r)
    at false c e f r = cc (r)

module _ (h : StreamHead) (hs : List StreamHead) (ss : Ports) (sound : each_head is_sound (h ∷ hs) ≡ true) (like : each_head (is_like h) hs ≡ true)
    (valid : (p : ℕ) → p < length (h ∷ hs) → IsValid (Frames (get_or (h ∷ hs) p h)) (ss p)) where
  port_is : (p : ℕ) → p < length (h ∷ hs) → get_or (h ∷ hs) p h
      ≡ AudioHead (base_of_head (get_or (h ∷ hs) p h)) (rate_of h) (bits_of h) (channels_at (h ∷ hs) p) (codec_of (get_or (h ∷ hs) p h))
  port_is p lt =
      let k = get_or (h ∷ hs) p h in
      let a = alike_there h hs p like lt in
      let s = sound_parts k (each_there h is_sound (h ∷ hs) p sound lt) in
      s ∙ (ap (λ (r : ℕ). AudioHead (base_of_head k) r (bits_of k) (channels_of k) (codec_of k)) a.0
      ∙ (ap (λ (b : ℕ). AudioHead (base_of_head k) (rate_of h) b (channels_of k) (codec_of k)) a.1
      ∙ ap (λ (c : ℕ). AudioHead (base_of_head k) (rate_of h) (bits_of h) c (codec_of k)) (channels_there h (h ∷ hs) p lt)))

  -- for the head of the first with the channels of all
  all_shape : (all : ℕ) → channels_in (h ∷ hs) ≡ all → all ≤ 8
      → AreInShape (Frames (AudioHead (base_of_head h) (rate_of h) (bits_of h) all (codec_of h)))
      (side_to_side (length hs) (channels_at (h ∷ hs)) (rate_of h) (bits_of h) all ss).items
  all_shape all e few = sound_shape (length hs) (channels_at (h ∷ hs)) (λ p. base_of_head (get_or (h ∷ hs) p h)) (λ p. codec_of (get_or (h ∷ hs) p h))
      (rate_of h) (bits_of h) all (base_of_head h) (codec_of h) ss (λ p lt. subst (λ (k : StreamHead). IsValid (Frames k) (ss p)) (port_is p lt) (valid p lt))
      (channels_all (h ∷ hs) ∙ e) few

-- behind its limits the output of `join` is valid
pub join_valid : (h : StreamHead) (hs : List StreamHead) (head : StreamHead) (ss : Ports) → each_head is_sound (h ∷ hs) ≡ true → AreAlike (h ∷ hs) (Ok head)
    → ((p : ℕ) → p < length (h ∷ hs) → IsValid (Frames (get_or (h ∷ hs) p h)) (ss p))
    → IsValid (Frames head) (within (passes_limits (Frames head)) (side_to_side (length hs) (channels_at (h ∷ hs)) (rate_of head) (bits_of head) (channels_of head) ss))
join_valid h hs head ss sound alike valid =
    let g = go_together h hs head alike in
    let c = channels_in (h ∷ hs) in
    let is : head ≡ AudioHead (base_of_head h) (rate_of h) (bits_of h) c (codec_of h) =
    g.is ∙ parts h (and_parts (is_sound h) (each_head is_sound hs) sound).0 c in
    subst (λ (k : StreamHead). IsValid (Frames k) (within (passes_limits (Frames k))
    (side_to_side (length hs) (channels_at (h ∷ hs)) (rate_of k) (bits_of k) (channels_of k) ss))) (sym is)
    (within_valid (Frames (AudioHead (base_of_head h) (rate_of h) (bits_of h) c (codec_of h)))
    (side_to_side (length hs) (channels_at (h ∷ hs)) (rate_of h) (bits_of h) c ss) (all_shape h hs ss sound g.like valid c refl g.few))
  where
    parts : (k : StreamHead) → is_sound k ≡ true → (c : ℕ) → with_channels k c ≡ AudioHead (base_of_head k) (rate_of k) (bits_of k) c (codec_of k)
    parts (AudioHead tb rate bits channels codec) e c = refl
    parts (VideoHead tb format width height num den) e c = cc
