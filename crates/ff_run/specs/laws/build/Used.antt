-- Which streams of an input are used, as its demuxer has them.
use Rattle.std.specs.Prelude.{◌≡◌, ◌⊎◌, ℕ, zero, suc, List, [], ◌∷◌, map, Option, Some, None, IsSome, refl}
use Rattle.std.proofs.Common.{arith, inl, inr, ap, subst, sym}
use Rattle.ff_frame.specs.declared.head.StreamHead.{StreamHead}
use Rattle.ff_avi.specs.declared.head.AviHead.{AviHead}
use Rattle.ff_avi.specs.Sound.{streams_of, streams_with}
use Rattle.ff_node_avi.specs.Demuxing as avi
use Rattle.ff_node_avi.specs.Demuxing.{heads_of, ports_of}
use Rattle.ff_input.specs.Formats.{InputHead, SingleHead, single_cutter, streams_in}
use Rattle.ff_input.specs.declared.one_of.OneOf.TheVariants.{First, Other}
use Rattle.ff_run_plan.specs.Kinds.{AreUsed, used_heads}
use Rattle.ff_stream.specs.declared.item.Lane.TheVariants.{Packets}

-- the one of an input of one stream
pub single_used : (head : StreamHead) (used : List ℕ) → AreUsed (head ∷ []) used → used ≡ 0 ∷ []
single_used head [] are = absurd (let some = are.some in omega (arith, some))
single_used head (n ∷ []) are = (let lt = are.there.0 in let same : n ≡ 0 = omega (arith, lt) in ap (λ (k : ℕ). k ∷ []) same)
single_used head (n ∷ m ∷ more) are = absurd (let lt = are.there.1.0 in let le = are.rise.1.0 in omega (arith, lt, le))

-- one of two, or both
two_used : (first second : StreamHead) (used : List ℕ) → AreUsed (first ∷ second ∷ []) used → (used ≡ 0 ∷ []) ⊎ ((used ≡ 1 ∷ []) ⊎ (used ≡ 0 ∷ 1 ∷ []))
two_used first second [] are = absurd (let some = are.some in omega (arith, some))
two_used first second (zero ∷ []) are = inl refl
two_used first second (suc zero ∷ []) are = inr (inl refl)
two_used first second (suc (suc n) ∷ []) are = absurd (let lt = are.there.0 in omega (arith, lt))
two_used first second (zero ∷ m ∷ []) are =
    let lt = are.there.1.0 in
    let le = are.rise.1.0 in
    let same : m ≡ 1 = omega (arith, lt, le) in
    inr (inr (ap (λ (k : ℕ). 0 ∷ k ∷ []) same))
two_used first second (suc n ∷ m ∷ []) are = absurd (let lt = are.there.1.0 in let le = are.rise.1.0 in omega (arith, lt, le))
two_used first second (n ∷ m ∷ k ∷ more) are = absurd (let lt = are.there.1.1.0 in let le = are.rise.1.0 in let next = are.rise.1.1.0 in omega (arith, lt, le, next))

used_of : (head : AviHead) (second : Option StreamHead) (used : List ℕ) → head.second ≡ second → AreUsed (streams_with head.first second) used → avi.AreUsed head used
used_of head None used e are = inl (single_used head.first used are)
used_of head (Some second) used e are = elim (two_used head.first second used are) [
  | inl one ↦ inl one
  | inr other ↦ inr (subst (λ (o : Option StreamHead). IsSome o) (sym e) refl, other)
]

pub avi_used : (head : AviHead) (used : List ℕ) → AreUsed (streams_of head) used → avi.AreUsed head used
avi_used head used are = used_of head head.second used refl are

-- and their heads
heads_with : (head : AviHead) (second : Option StreamHead) (used : List ℕ) → head.second ≡ second → avi.AreUsed head used
    → used_heads (streams_with head.first second) used ≡ heads_of (ports_of head used)
heads_with head None used e (inl one) = rw one refl
heads_with head None used e (inr other) = absurd (let none = subst (λ (o : Option StreamHead). IsSome o) e other.0 in cc)
heads_with head (Some second) used e (inl one) = rw one refl
heads_with head (Some second) used e (inr (there, inl last)) = rw (last, e) refl
heads_with head (Some second) used e (inr (there, inr both)) = rw (both, e) refl

pub avi_heads : (head : AviHead) (used : List ℕ) → avi.AreUsed head used → used_heads (streams_of head) used ≡ heads_of (ports_of head used)
avi_heads head used are = heads_with head head.second used refl are

-- ---- by the head of any input: the lanes of its demuxer

single_one : (head : StreamHead) (used : List ℕ) → used ≡ 0 ∷ [] → Packets head ∷ [] ≡ map (λ h. Packets h) (used_heads (head ∷ []) used)
single_one head used e = rw e refl

pub single_lanes : (head : InputHead) (one : SingleHead) (used : List ℕ) → head ≡ First one → AreUsed (streams_in head) used
    → Packets (single_cutter.stream_head one) ∷ [] ≡ map (λ h. Packets h) (used_heads (streams_in head) used)
single_lanes head one used e are =
    subst (λ (h : InputHead). AreUsed (streams_in h) used → Packets (single_cutter.stream_head one) ∷ [] ≡ map (λ x. Packets x) (used_heads (streams_in h) used)) (sym e)
    (λ a. single_one (single_cutter.stream_head one) used (single_used (single_cutter.stream_head one) used a)) are

pub avi_used_in : (head : InputHead) (of_avi : AviHead) (used : List ℕ) → head ≡ Other of_avi → AreUsed (streams_in head) used → avi.AreUsed of_avi used
avi_used_in head of_avi used e are =
    subst (λ (h : InputHead). AreUsed (streams_in h) used → avi.AreUsed of_avi used) (sym e) (λ a. avi_used of_avi used a) are

pub avi_lanes : (head : InputHead) (of_avi : AviHead) (used : List ℕ) → head ≡ Other of_avi → AreUsed (streams_in head) used
    → map (λ h. Packets h) (heads_of (ports_of of_avi used)) ≡ map (λ h. Packets h) (used_heads (streams_in head) used)
avi_lanes head of_avi used e are =
    subst (λ (h : InputHead). AreUsed (streams_in h) used → map (λ x. Packets x) (heads_of (ports_of of_avi used)) ≡ map (λ x. Packets x) (used_heads (streams_in h) used)) (sym e)
    (λ a. ap (λ (hs : List StreamHead). map (λ (x : StreamHead). Packets x) hs) (sym (avi_heads of_avi used (avi_used of_avi used a)))) are
