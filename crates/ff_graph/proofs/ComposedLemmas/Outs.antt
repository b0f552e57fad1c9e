-- The open output pads of a text: those that feed no input pad, each once, and no others.
use Rattle.std.proofs.Common.{◌≡◌, ℕ, zero, suc, ◌+◌, ◌<◌, Bool, true, false, List, [], ◌∷◌, length, map, slice_get, slice_index_or, Option, None, Some}
use Rattle.std.proofs.Common.{refl, ap, sym, ◌∙◌, subst, ◌⊎◌, inl, inr, arith}
use Rattle.ff_frame.specs.declared.head.StreamHead.{StreamHead}
use Rattle.ff_graph_links.specs.declared.pads.drawn.Pad.{Pad}
use Rattle.ff_graph_links.specs.pads.Links.{Seen}
use Rattle.ff_graph.specs.Configured.{OpenOut, feeds_one, unless_fed, outs_at, outs_from}
use Rattle.ff_graph_dag.specs.wiring.Flows.{source_at}
use Rattle.ff_graph.proofs.ComposedLemmas.Elements.{some_same, no_some, got_below, split, front, back, or_got, or_none, there_or_not, got, mapped, unmapped, map_or}
use Rattle.ff_graph.proofs.ComposedLemmas.Fed.{pad_of, feeds, is_fed}

-- ---- those of one filter

module _ (sources : List (List (Option Pad))) where
  pub record IsOut (k : ℕ) (labels : List (List ℕ)) (q : ℕ) (hs : List StreamHead) (o : OpenOut) : Type 0 where
    pub at : ℕ
    pub pad : o.at ≡ pad_of k (q + at)
    pub head : slice_get hs at ≡ Some o.head
    pub label : o.label ≡ slice_get labels (q + at)
    pub free : feeds_one sources o.at ≡ false

  later : (k : ℕ) (labels : List (List ℕ)) (q : ℕ) (h : StreamHead) (hs : List StreamHead) (o : OpenOut) → IsOut k labels (suc q) hs o → IsOut k labels q (h ∷ hs) o
  later k labels q h hs o i =
      let z : suc q + i.at ≡ q + suc i.at = omega arith in
      record {
        at = suc i.at;
        pad = i.pad ∙ ap (λ (m : ℕ). pad_of k m) z;
        head = i.head;
        label = i.label ∙ ap (λ (m : ℕ). slice_get labels m) z;
        free = i.free;
      }

  abbrev out_of : ℕ → List (List ℕ) → ℕ → StreamHead → OpenOut
  out_of k labels q h = record { at = pad_of k q; label = slice_get labels q; head = h }

  out_at : (labels : List (List ℕ)) (k q : ℕ) (hs : List StreamHead) (n : ℕ) (o : OpenOut) → slice_get (outs_at sources labels k q hs) n ≡ Some o → IsOut k labels q hs o
  out_at labels k q [] n o e = no_some o e
  out_at labels k q (h ∷ hs) n o e = at (feeds_one sources (pad_of k q)) refl n e (λ m g. later k labels q h hs o (out_at labels k (suc q) hs m o g))
    where
      at : (b : Bool) → feeds_one sources (pad_of k q) ≡ b → (m : ℕ) → slice_get (unless_fed b (out_of k labels q h) (outs_at sources labels k (suc q) hs)) m ≡ Some o
          → ((j : ℕ) → slice_get (outs_at sources labels k (suc q) hs) j ≡ Some o → IsOut k labels q (h ∷ hs) o) → IsOut k labels q (h ∷ hs) o
      at true t m g on = on m g
      at false t zero g on =
          (let same : out_of k labels q h ≡ o = some_same (out_of k labels q h) o g in
          let z : q ≡ q + 0 = omega arith in
          record {
            at = 0;
            pad = sym (ap (λ (x : OpenOut). x.at) same) ∙ ap (λ (m : ℕ). pad_of k m) z;
            head = ap (λ (x : OpenOut). Some x.head) same;
            label = sym (ap (λ (x : OpenOut). x.label) same) ∙ ap (λ (m : ℕ). slice_get labels m) z;
            free = ap (λ (x : OpenOut). feeds_one sources x.at) (sym same) ∙ t;
          })
      at false t (suc m) g on = on m g

  apart_at : (labels : List (List ℕ)) (k q : ℕ) (hs : List StreamHead) (n m : ℕ) (o p : OpenOut) → slice_get (outs_at sources labels k q hs) n ≡ Some o
      → slice_get (outs_at sources labels k q hs) m ≡ Some p → o.at ≡ p.at → n ≡ m
  apart_at labels k q [] n m o p e g s = no_some o e
  apart_at labels k q (h ∷ hs) n m o p e g s =
      at (feeds_one sources (pad_of k q)) n m e g (λ x y a b. apart_at labels k (suc q) hs x y o p a b s)
    where
      first : (x y : OpenOut) (j : ℕ) → out_of k labels q h ≡ x → slice_get (outs_at sources labels k (suc q) hs) j ≡ Some y → x.at ≡ y.at → ⊥
      first x y j own there same =
          (let i : IsOut k labels (suc q) hs y = out_at labels k (suc q) hs j y there in
          let a : q ≡ suc q + i.at = ap (λ (z : OpenOut). z.at.pad) own ∙ ap (λ (z : Pad). z.pad) same ∙ ap (λ (z : Pad). z.pad) i.pad in
          absurd (omega arith))

      at : (b : Bool) (n m : ℕ) → slice_get (unless_fed b (out_of k labels q h) (outs_at sources labels k (suc q) hs)) n ≡ Some o
          → slice_get (unless_fed b (out_of k labels q h) (outs_at sources labels k (suc q) hs)) m ≡ Some p
          → ((x y : ℕ) → slice_get (outs_at sources labels k (suc q) hs) x ≡ Some o → slice_get (outs_at sources labels k (suc q) hs) y ≡ Some p → x ≡ y) → n ≡ m
      at true n m e g on = on n m e g
      at false zero zero e g on = refl
      at false zero (suc m) e g on = absurd (first o p m (some_same (out_of k labels q h) o e) g s)
      at false (suc n) zero e g on = absurd (first p o n (some_same (out_of k labels q h) p g) e (sym s))
      at false (suc n) (suc m) e g on = ap (λ (x : ℕ). suc x) (on n m e g)

  stands_at : (labels : List (List ℕ)) (k q : ℕ) (hs : List StreamHead) (j i : ℕ) (h : StreamHead) → i ≡ q + j → slice_get hs j ≡ Some h
      → feeds_one sources (pad_of k i) ≡ false → (n : ℕ) × (o : OpenOut) × (slice_get (outs_at sources labels k q hs) n ≡ Some o) × (o.at ≡ pad_of k i)
  stands_at labels k q [] j i h z e free = no_some h e
  stands_at labels k q (x ∷ hs) zero i h z e free =
      let here : q ≡ i = omega arith in
      let own : feeds_one sources (pad_of k q) ≡ false = ap (λ (m : ℕ). feeds_one sources (pad_of k m)) here ∙ free in (
        0,
        out_of k labels q x,
        ap (λ (b : Bool). slice_get (unless_fed b (out_of k labels q x) (outs_at sources labels k (suc q) hs)) 0) own,
        ap (λ (m : ℕ). pad_of k m) here,
      )
  stands_at labels k q (x ∷ hs) (suc j) i h z e free =
      let more = stands_at labels k (suc q) hs j i h (omega arith) e free in
      at (feeds_one sources (pad_of k q)) more.0 more.1 more.2 more.3
    where
      at : (b : Bool) (n : ℕ) (o : OpenOut) → slice_get (outs_at sources labels k (suc q) hs) n ≡ Some o → o.at ≡ pad_of k i
          → (m : ℕ) × (p : OpenOut) × (slice_get (unless_fed b (out_of k labels q x) (outs_at sources labels k (suc q) hs)) m ≡ Some p) × (p.at ≡ pad_of k i)
      at true n o g s = (n, o, g, s)
      at false n o g s = (suc n, o, g, s)

  -- ---- those of all filters

  pub record IsOpenOut (k : ℕ) (ds : List Seen) (heads : List (List StreamHead)) (o : OpenOut) : Type 0 where
    pub at : ℕ
    pub filter : o.at.filter ≡ k + at
    pub own : Seen
    pub there : slice_get ds at ≡ Some own
    pub given : List StreamHead
    pub heads_there : slice_get heads at ≡ Some given
    pub head : slice_get given o.at.pad ≡ Some o.head
    pub label : o.label ≡ slice_get own.filter.outs o.at.pad
    pub free : feeds_one sources o.at ≡ false

  open_here : (k : ℕ) (d : Seen) (ds : List Seen) (hs : List StreamHead) (heads : List (List StreamHead)) (o : OpenOut) → IsOut k d.filter.outs 0 hs o
      → IsOpenOut k (d ∷ ds) (hs ∷ heads) o
  open_here k d ds hs heads o i =
      let zero_in : 0 + i.at ≡ i.at = omega arith in
      let pad : o.at.pad ≡ i.at = ap (λ (x : Pad). x.pad) i.pad ∙ zero_in in
      let z : k ≡ k + 0 = omega arith in
      record {
        at = 0;
        filter = ap (λ (x : Pad). x.filter) i.pad ∙ z;
        own = d;
        there = refl;
        given = hs;
        heads_there = refl;
        head = ap (λ (m : ℕ). slice_get hs m) pad ∙ i.head;
        label = i.label ∙ ap (λ (m : ℕ). slice_get d.filter.outs m) (zero_in ∙ sym pad);
        free = i.free;
      }

  open_later : (k : ℕ) (d : Seen) (ds : List Seen) (hs : List StreamHead) (heads : List (List StreamHead)) (o : OpenOut) → IsOpenOut (suc k) ds heads o
      → IsOpenOut k (d ∷ ds) (hs ∷ heads) o
  open_later k d ds hs heads o i =
      let f = i.filter in
      record {
        at = suc i.at;
        filter = omega (arith, f);
        own = i.own;
        there = i.there;
        given = i.given;
        heads_there = i.heads_there;
        head = i.head;
        label = i.label;
        free = i.free;
      }

  open_from : (k : ℕ) (ds : List Seen) (heads : List (List StreamHead)) (n : ℕ) (o : OpenOut) → slice_get (outs_from sources k ds heads) n ≡ Some o
      → IsOpenOut k ds heads o
  open_from k [] heads n o e = no_some o e
  open_from k (d ∷ ds) [] n o e = no_some o e
  open_from k (d ∷ ds) (hs ∷ heads) n o e =
      elim (split (outs_at sources d.filter.outs k 0 hs) (outs_from sources (suc k) ds heads) n o e) as (λ _. IsOpenOut k (d ∷ ds) (hs ∷ heads) o) [
        | inl g ↦ open_here k d ds hs heads o (out_at d.filter.outs k 0 hs n o g)
        | inr g ↦ open_later k d ds hs heads o (open_from (suc k) ds heads g.0 o g.2)
      ]

  not_both : (k : ℕ) (labels : List (List ℕ)) (ds : List Seen) (hs : List StreamHead) (heads : List (List StreamHead)) (n m : ℕ) (o p : OpenOut)
      → slice_get (outs_at sources labels k 0 hs) n ≡ Some o → slice_get (outs_from sources (suc k) ds heads) m ≡ Some p → o.at ≡ p.at → ⊥
  not_both k labels ds hs heads n m o p e g s =
      let a : IsOut k labels 0 hs o = out_at labels k 0 hs n o e in
      let b : IsOpenOut (suc k) ds heads p = open_from (suc k) ds heads m p g in
      let x : o.at.filter ≡ k = ap (λ (r : Pad). r.filter) a.pad in
      let y = b.filter in
      let same : o.at.filter ≡ p.at.filter = ap (λ (r : Pad). r.filter) s in
      absurd (omega (arith, x, y, same))

  apart_from : (k : ℕ) (ds : List Seen) (heads : List (List StreamHead)) (n m : ℕ) (o p : OpenOut) → slice_get (outs_from sources k ds heads) n ≡ Some o
      → slice_get (outs_from sources k ds heads) m ≡ Some p → o.at ≡ p.at → n ≡ m
  apart_from k [] heads n m o p e g s = no_some o e
  apart_from k (d ∷ ds) [] n m o p e g s = no_some o e
  apart_from k (d ∷ ds) (hs ∷ heads) n m o p e g s =
      elim (split (outs_at sources d.filter.outs k 0 hs) (outs_from sources (suc k) ds heads) n o e) as (λ _. n ≡ m) [
        | inl a ↦ elim (split (outs_at sources d.filter.outs k 0 hs) (outs_from sources (suc k) ds heads) m p g) as (λ _. n ≡ m) [
          | inl b ↦ apart_at d.filter.outs k 0 hs n m o p a b s
          | inr b ↦ absurd (not_both k d.filter.outs ds hs heads n b.0 o p a b.2 s)
        ]
        | inr a ↦ elim (split (outs_at sources d.filter.outs k 0 hs) (outs_from sources (suc k) ds heads) m p g) as (λ _. n ≡ m) [
          | inl b ↦ absurd (not_both k d.filter.outs ds hs heads m a.0 p o b a.2 (sym s))
          | inr b ↦
              let same : a.0 ≡ b.0 = apart_from (suc k) ds heads a.0 b.0 o p a.2 b.2 s in
              let x : n ≡ length (outs_at sources d.filter.outs k 0 hs) + a.0 = a.1 in
              let y : m ≡ length (outs_at sources d.filter.outs k 0 hs) + b.0 = b.1 in
              omega arith
        ]
      ]

  stands_from : (k : ℕ) (ds : List Seen) (heads : List (List StreamHead)) (j f i : ℕ) (hs : List StreamHead) (h : StreamHead) → length heads ≡ length ds → f ≡ k + j
      → slice_get heads j ≡ Some hs → slice_get hs i ≡ Some h → feeds_one sources (pad_of f i) ≡ false
      → (n : ℕ) × (o : OpenOut) × (slice_get (outs_from sources k ds heads) n ≡ Some o) × (o.at ≡ pad_of f i)
  stands_from k ds [] j f i hs h size z e g free = no_some hs e
  stands_from k [] (x ∷ heads) j f i hs h size z e g free = absurd (omega arith)
  stands_from k (d ∷ ds) (x ∷ heads) zero f i hs h size z e g free =
      let same : x ≡ hs = some_same x hs e in
      let here : f ≡ k = omega arith in
      let own = stands_at d.filter.outs k 0 x i i h (omega arith) (ap (λ (y : List StreamHead). slice_get y i) same ∙ g)
      (ap (λ (m : ℕ). feeds_one sources (pad_of m i)) (sym here) ∙ free) in (
        own.0,
        own.1,
        front (outs_at sources d.filter.outs k 0 x) (outs_from sources (suc k) ds heads) own.0 own.1 own.2,
        own.3 ∙ ap (λ (m : ℕ). pad_of m i) (sym here),
      )
  stands_from k (d ∷ ds) (x ∷ heads) (suc j) f i hs h size z e g free =
      let more = stands_from (suc k) ds heads j f i hs h (omega arith) (omega arith) e g free in (
        length (outs_at sources d.filter.outs k 0 x) + more.0,
        more.1,
        back (outs_at sources d.filter.outs k 0 x) (outs_from sources (suc k) ds heads) more.0 ∙ more.2,
        more.3,
      )

  -- ---- by their place

  abbrev pub outs_in : List Seen → List (List StreamHead) → List Pad
  outs_in ds heads = map (λ o. o.at) (outs_from sources 0 ds heads)

  pub outs_free : (ds : List Seen) (heads : List (List StreamHead)) (q f i : ℕ) (p : Pad) → slice_get (outs_in ds heads) q ≡ Some p
      → source_at sources f i ≡ Some (Some p) → ⊥
  outs_free ds heads q f i p e fed =
      let o = unmapped (λ (x : OpenOut). x.at) (outs_from sources 0 ds heads) q p e in
      let is : IsOpenOut 0 ds heads o.0 = open_from 0 ds heads q o.0 o.1 in
      let free : feeds_one sources p ≡ false = ap (λ (x : Pad). feeds_one sources x) (sym o.2) ∙ is.free in
      let feeds_it : feeds_one sources p ≡ true = is_fed sources p f i fed in
      cc

  pub outs_once : (ds : List Seen) (heads : List (List StreamHead)) (q o : ℕ) (p : Pad) → slice_get (outs_in ds heads) q ≡ Some p
      → slice_get (outs_in ds heads) o ≡ Some p → q ≡ o
  outs_once ds heads q o p e g =
      let x = unmapped (λ (x : OpenOut). x.at) (outs_from sources 0 ds heads) q p e in
      let y = unmapped (λ (x : OpenOut). x.at) (outs_from sources 0 ds heads) o p g in
      apart_from 0 ds heads q o x.0 y.0 x.1 y.1 (x.2 ∙ sym y.2)

  counts_at : (heads : List (List StreamHead)) (k : ℕ) → slice_index_or (map (λ hs. length hs) heads) k 0 ≡ length (slice_index_or heads k [])
  counts_at heads k = map_or (λ (hs : List StreamHead). length hs) heads k []

  -- what an open output pad is
  pub open_out : (ds : List Seen) (heads : List (List StreamHead)) (q : ℕ) (o : OpenOut) → slice_get (outs_from sources 0 ds heads) q ≡ Some o
      → slice_get (slice_index_or heads o.at.filter []) o.at.pad ≡ Some o.head
  open_out ds heads q o e =
      let is : IsOpenOut 0 ds heads o = open_from 0 ds heads q o e in
      let f = is.filter in
      let here : is.at ≡ o.at.filter = omega (arith, f) in
      ap (λ (hs : List StreamHead). slice_get hs o.at.pad) (ap (λ (n : ℕ). slice_index_or heads n []) (sym here) ∙ or_got heads is.at [] is.given is.heads_there) ∙ is.head

  pub outs_there : (ds : List Seen) (heads : List (List StreamHead)) (q : ℕ) (p : Pad) → slice_get (outs_in ds heads) q ≡ Some p
      → p.pad < slice_index_or (map (λ hs. length hs) heads) p.filter 0
  outs_there ds heads q p e =
      let o = unmapped (λ (x : OpenOut). x.at) (outs_from sources 0 ds heads) q p e in
      let lt = got_below (slice_index_or heads o.0.at.filter []) o.0.at.pad o.0.head (open_out ds heads q o.0 o.1) in
      let count = counts_at heads o.0.at.filter in
      let own : o.0.at.pad < slice_index_or (map (λ hs. length hs) heads) o.0.at.filter 0 = omega (arith, lt, count) in
      subst (λ (x : Pad). x.pad < slice_index_or (map (λ hs. length hs) heads) x.filter 0) o.2 own

  free_out : (ds : List Seen) (heads : List (List StreamHead)) → length heads ≡ length ds → (p : Pad)
      → p.pad < length (slice_index_or heads p.filter []) → feeds_one sources p ≡ false → (q : ℕ) × (slice_get (outs_in ds heads) q ≡ Some p)
  free_out ds heads size p lt free = at (there_or_not (slice_get heads p.filter))
    where
      at : (slice_get heads p.filter ≡ None) ⊎ ((hs : List StreamHead) × (slice_get heads p.filter ≡ Some hs)) → (q : ℕ) × (slice_get (outs_in ds heads) q ≡ Some p)
      at (inl none) =
          (let no : length (slice_index_or heads p.filter []) ≡ 0 = ap (λ (hs : List StreamHead). length hs) (or_none heads p.filter [] none) in
          absurd (omega (arith, no, lt)))
      at (inr h) =
          (let same = or_got heads p.filter [] h.0 h.1 in
          let count : length (slice_index_or heads p.filter []) ≡ length h.0 = ap (λ (hs : List StreamHead). length hs) same in
          let one = got h.0 p.pad (omega (arith, lt, count)) in
          let s = stands_from 0 ds heads p.filter p.filter p.pad h.0 one.0 size (omega arith) h.1 one.1 free in
          (s.0, mapped (λ (x : OpenOut). x.at) (outs_from sources 0 ds heads) s.0 s.1 s.2 ∙ ap (λ (x : Pad). Some x) s.3))

  pub outs_all : (ds : List Seen) (heads : List (List StreamHead)) → length heads ≡ length ds → (p : Pad)
      → p.pad < slice_index_or (map (λ hs. length hs) heads) p.filter 0
      → ((f : ℕ) × (i : ℕ) × (source_at sources f i ≡ Some (Some p))) ⊎ ((q : ℕ) × (slice_get (outs_in ds heads) q ≡ Some p))
  outs_all ds heads size p lt = at (feeds_one sources p) refl
    where
      at : (b : Bool) → feeds_one sources p ≡ b
          → ((f : ℕ) × (i : ℕ) × (source_at sources f i ≡ Some (Some p))) ⊎ ((q : ℕ) × (slice_get (outs_in ds heads) q ≡ Some p))
      at true t = inl (feeds sources p t)
      at false t = (let count = counts_at heads p.filter in inr (free_out ds heads size p (omega (arith, lt, count)) t))
