-- What is written of packets grows with them.
use Rattle.std.specs.Prelude.{◌≡◌, ℕ, ◌≤◌, Bool, true, false, if◌then◌else◌, List, ◌++◌, length, Option, Some, None, refl}
use Rattle.std.proofs.Common.{inl, inr, ap, sym, ◌∙◌, subst, arith, append_assoc, length-append}
use Rattle.std.proofs.lemmas.Bool.Decides.{nat_tests}
use Rattle.std.proofs.lemmas.List.Concat.{flat_map-append}
use mathlib.Core.List.{IsPrefix}
use Rattle.ff_time.specs.Fraction.{Fraction}
use Rattle.ff_frame.specs.declared.totals.Totals.{Totals}
use Rattle.ff_stream.specs.Stream.{Mark, still_open, whole, broken, Stream, LiesBelow}
use Rattle.ff_stream.specs.laws.Order.{prefix_self, prefix_trans, below_items}
use Rattle.ff_stream.specs.Ports.{AllBelow}
use Rattle.ff_node_mux.specs.merge.Merges.{Placed}
use Rattle.ff_net.specs.declared.fault.Fault.{Fault}
use Rattle.ff_net.specs.Ways.{Flow}
use Rattle.ff_format.specs.Layouts.{Layout, body, written, fits}
use Rattle.ff_node_mux.specs.Muxing.{mixed, text_by, text_for, file_for, file_by, size_for, cause_for, mux_cause, HoldsOf, HoldsSmall}
use Rattle.ff_node_mux.specs.laws.Mixing.{mixed_grows}

module _ (layout : Layout) where
  -- further packets are further bytes
  pub body_more : (xs ys : List Placed) → body layout (xs ++ ys) ≡ body layout xs ++ body layout ys
  body_more xs ys = flat_map-append (λ (p : Placed). layout.text p.0 p.1) xs ys

  pub size_more : (xs ys : List Placed) → length (body layout (xs ++ ys)) ≡ length (body layout xs ++ body layout ys)
  size_more xs ys = ap length (body_more xs ys)

  pub written_more : (xs ys : List Placed) → written layout (xs ++ ys) ≡ written layout xs ++ body layout ys
  written_more xs ys =
      ap (λ b. layout.header ++ b) (body_more xs ys) ∙ sym (append_assoc layout.header (body layout xs) (body layout ys))

  -- what is written of the packets stands in front of the text
  written_front : (m : Mark) (packets : List Placed) → IsPrefix (written layout packets) (text_by layout m packets)
  written_front still_open packets = prefix_self (written layout packets)
  written_front whole packets = (layout.tail packets, refl)
  written_front broken packets = prefix_self (written layout packets)

  pub open_text : (r : Stream Placed) → r.mark ≡ still_open → text_for layout r ≡ written layout r.items
  open_text r o = ap (λ (m : Mark). text_by layout m r.items) o

  pub open_file : (totals : Option Totals) (r : Stream Placed) → r.mark ≡ still_open → file_for layout totals r ≡ None
  open_file totals r o = ap (λ (m : Mark). file_by layout m totals r.items) o

  items_more : (xs ys zs : List Placed) (m : Mark) → xs ++ zs ≡ ys → IsPrefix (written layout xs) (text_by layout m ys)
  items_more xs ys zs m e =
      let more : written layout xs ++ body layout zs ≡ written layout ys = sym (written_more xs zs) ∙ ap (λ (is : List Placed). written layout is) e in
      prefix_trans (written layout xs) (written layout ys) (text_by layout m ys) (body layout zs, more) (written_front m ys)

  -- the text of packets behind which more may come stands in front of that of each that go on from them
  pub text_grows : (r s : Stream Placed) → r.mark ≡ still_open → IsPrefix r.items s.items → IsPrefix (text_for layout r) (text_for layout s)
  text_grows r s o p = subst (λ (t : List ℕ). IsPrefix t (text_for layout s)) (sym (open_text r o)) (items_more r.items s.items p.0 s.mark p.1)

  -- what was held of packets is held of each that go on from them
  pub held_grows : (totals : Option Totals) (bytes : List ℕ) (r s : Stream Placed) → LiesBelow r s → HoldsOf layout totals bytes r → HoldsOf layout totals bytes s
  held_grows totals bytes r s (inl e) h = subst (λ (t : Stream Placed). HoldsOf layout totals bytes t) e h
  held_grows totals bytes r s (inr b) (inl p) = inl (prefix_trans bytes (text_for layout r) (text_for layout s) p (text_grows r s b.0 b.1))
  held_grows totals bytes r s (inr b) (inr f) = let none : None ≡ Some bytes = sym (open_file totals r b.0) ∙ f in cc

  -- totals are told of what is whole alone
  pub held_open : (totals totals' : Option Totals) (bytes : List ℕ) (r : Stream Placed) → r.mark ≡ still_open → HoldsOf layout totals bytes r
      → HoldsOf layout totals' bytes r
  held_open totals totals' bytes r o (inl p) = inl p
  held_open totals totals' bytes r o (inr f) = let none : None ≡ Some bytes = sym (open_file totals r o) ∙ f in cc

  pub small_held : (totals : Option Totals) (bytes : List ℕ) (s : Stream Placed) → HoldsSmall layout totals bytes s → HoldsOf layout totals bytes s
  small_held totals bytes s h = held_grows totals bytes h.0 s h.1 h.3

  -- ---- sizes

  pub size_less : (xs ys zs : List Placed) → xs ++ zs ≡ ys → length (body layout xs) ≤ length (body layout ys)
  size_less xs ys zs e =
      let more : body layout xs ++ body layout zs ≡ body layout ys = sym (body_more xs zs) ∙ ap (λ (is : List Placed). body layout is) e in
      omega (arith, ap length more, length-append (body layout xs) (body layout zs))

  pub size_grows : (r s : Stream Placed) → LiesBelow r s → size_for layout r ≤ size_for layout s
  size_grows r s b = let p = below_items r s b in size_less r.items s.items p.0 p.1

  pub fits_less : (longest : Option ℕ) (a b : ℕ) → a ≤ b → fits longest b ≡ true → fits longest a ≡ true
  fits_less None a b le f = refl
  fits_less (Some most) a b le f = grind (arith, nat_tests)

  cause_at : (longest : Option ℕ) (a b : ℕ) (c : Fault) (fault : Fault) → a ≤ b → (if fits longest a then None else Some fault) ≡ Some c
      → (if fits longest b then None else Some fault) ≡ Some c
  cause_at longest a b c fault le e = pick (fits longest b) refl
    where
      pick : (v : Bool) → fits longest b ≡ v → (if v then None else Some fault) ≡ Some c
      pick true f =
          let g : fits longest a ≡ true = fits_less longest a b le f in
          let none : None ≡ Some c = ap (λ (w : Bool). if w then None else Some fault) (sym g) ∙ e in
          cc
      pick false f = pick_a (fits longest a) e
        where
          pick_a : (w : Bool) → (if w then None else Some fault) ≡ Some c → Some fault ≡ Some c
          pick_a true e = cc
          pick_a false e = e

  -- packets that are too many bytes stay so
  pub cause_grows : (r s : Stream Placed) (c : Fault) → LiesBelow r s → cause_for layout r ≡ Some c → cause_for layout s ≡ Some c
  cause_grows r s c b e = cause_at layout.longest (size_for layout r) (size_for layout s) c _ (size_grows r s b) e

  pub causes_grow : (bases : List Fraction) (rs ss : List Flow) (c : Fault) → AllBelow rs ss → mux_cause layout bases rs ≡ Some c → mux_cause layout bases ss ≡ Some c
  causes_grow bases rs ss c b e = cause_grows (mixed bases rs) (mixed bases ss) c (mixed_grows bases rs ss b) e
