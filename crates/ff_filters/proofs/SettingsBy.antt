-- What values make of settings, is what the manuals say.
use Rattle.std.proofs.Common.{◌≡◌, ℕ, zero, suc, ◌≤◌, ◌==◌, Bool, true, false, nat_le, cond, ◌&&◌, Option, Some, None, option_map, List, codes, refl, sym, ap, ◌∙◌, arith}
use Rattle.std.specs.Str.{bytes_eq}
use Rattle.std.proofs.lemmas.Bool.Decides.{nat_tests}
use Rattle.ff_time.specs.Digits.{number_of, ratio_of, IsRate}
use Rattle.ff_time.specs.Fraction.{Fraction}
use Rattle.ff_filter.specs.declared.plain.ExprSettings.{ExprSettings}
use Rattle.ff_filter.specs.Plain.{no_manual, expr_manual}
use Rattle.ff_filter.specs.declared.spread.copies.SplitSettings.{SplitSettings}
use Rattle.ff_filter.specs.spread.Splits.{split_manual}
use Rattle.ff_vfilter.specs.declared.sizes.Sizes.{Sizes}
use Rattle.ff_vfilter.specs.declared.crop.CropSettings.{CropSettings}
use Rattle.ff_vfilter.specs.declared.pad.PadSettings.{PadSettings}
use Rattle.ff_vfilter.specs.declared.fps.FpsSettings.{FpsSettings}
use Rattle.ff_vfilter.specs.Sizes.{put}
use Rattle.ff_vfilter.specs.Crops.{crop_manual}
use Rattle.ff_vfilter.specs.Pads.{pad_manual}
use Rattle.ff_vfilter.specs.FpsOptions.{fps_manual}
use Rattle.ff_fsync.specs.declared.stacks.options.StackSettings.{StackSettings}
use Rattle.ff_fsync.specs.stacks.Options.{SetsStack, stack_manual}
use Rattle.ff_joins.specs.declared.join_options.JoinSettings.{JoinSettings}
use Rattle.ff_joins.specs.JoinOptions.{join_manual}
use Rattle.ff_concat.specs.Arguments.{concat_manual, concat_set}
use Rattle.ff_filter.specs.Options.{number_between, ranged}
use Rattle.ff_filters.specs.Texts.{on_some, base_of, rate_base}
use Rattle.ff_filters.specs.SetBy.{set_none, set_expr, set_crop, set_pad, set_fps, set_split, set_stack, set_join}
use Rattle.ff_filters.proofs.LowestTerms.{base_in, base_out}
use Rattle.ff_filters.proofs.Readings.{SetsBy}

-- ---- what is there

pub from_map : {A B : Type 0} (f : A → B) (o : Option A) (u : B) → option_map f o ≡ Some u → (x : A) × (o ≡ Some x) × (f x ≡ u)
from_map f None u e = cc
from_map f (Some x) u e = (x, refl, cc)

from_some : {A B : Type 0} (f : A → Option B) (o : Option A) (u : B) → on_some f o ≡ Some u → (x : A) × (o ≡ Some x) × (f x ≡ Some u)
from_some f None u e = cc
from_some f (Some x) u e = (x, refl, e)

-- ---- numbers from one to another

pub between_in : (lo hi n : ℕ) → lo ≤ n → n ≤ hi → number_between lo hi (Some n) ≡ Some n
between_in lo hi n p q = let e : (nat_le lo n && nat_le n hi) ≡ true = grind (arith, nat_tests) in ap (λ (c : Bool). cond c (Some n) None) e

pub ranged_in : (lo hi n : ℕ) (text : List ℕ) → number_of 5 text ≡ Some n → lo ≤ n → n ≤ hi → ranged lo hi text ≡ Some n
ranged_in lo hi n text e p q = ap (number_between lo hi) e ∙ between_in lo hi n p q

pub record Between (lo hi n : ℕ) (o : Option ℕ) : Type 0 where
  pub is : o ≡ Some n
  pub low : lo ≤ n
  pub high : n ≤ hi

tested : (lo hi m n : ℕ) (c : Bool) → c ≡ (nat_le lo m && nat_le m hi) → cond c (Some m) None ≡ Some n → Between lo hi n (Some m)
tested lo hi m n true e f = (let same : m ≡ n = cc in record { is = f; low = grind (arith, nat_tests); high = grind (arith, nat_tests) })
tested lo hi m n false e f = cc

pub between_out : (lo hi n : ℕ) (o : Option ℕ) → number_between lo hi o ≡ Some n → Between lo hi n o
between_out lo hi n None e = cc
between_out lo hi n (Some m) e = tested lo hi m n (nat_le lo m && nat_le m hi) refl e

pub ranged_out : (lo hi n : ℕ) (text : List ℕ) → ranged lo hi text ≡ Some n → Between lo hi n (number_of 5 text)
ranged_out lo hi n text e = between_out lo hi n (number_of 5 text) e

-- ---- the filters

pub none_set : SetsBy no_manual (λ s. s) set_none
none_set = record { sets = λ s option value t h. absurd h; takes = λ s option value u e. cc }

if_same : {A : Type 0} (c : Bool) (x u : A) → cond c (Some x) None ≡ Some u → c ≡ true
if_same true x u e = refl
if_same false x u e = cc

expr_same : (t : ExprSettings) → t.given ≡ true → (let s : ExprSettings = record { given = true } in s) ≡ t
expr_same t e = ap (λ (b : Bool). let s : ExprSettings = record { given = b } in s) (sym e)

pub expr_set : SetsBy expr_manual (λ s. s) set_expr
expr_set = record {
  sets = λ s option value t h. ap (λ (c : Bool). let g : Option ExprSettings = Some (record { given = true }) in cond c g None) h.0 ∙ ap Some (expr_same t h.1);
  takes = λ s option value u e. (record { given = true }, (if_same (bytes_eq value (codes "PTS-STARTPTS")) (record { given = true }) u e, refl));
}

crop_same : (t : CropSettings) (z : Sizes) → t.sizes ≡ z → (let s : CropSettings = record { sizes = z } in s) ≡ t
crop_same t z e = ap (λ (x : Sizes). let s : CropSettings = record { sizes = x } in s) (sym e)

pub crop_set : SetsBy crop_manual (λ s. s) set_crop
crop_set = record {
  sets = λ s option value t h. ap (option_map (λ n. let c : CropSettings = record { sizes = put s.sizes option n } in c)) h.1 ∙ ap Some
      (crop_same t (put s.sizes option h.0) h.2);
  takes = λ s option value u e. let k = from_map (λ n. let c : CropSettings = record { sizes = put s.sizes option n } in c) (number_of 5 value) u
      e in (record { sizes = put s.sizes option k.0 }, (k.0, k.1, refl));
}

pad_same : (t : PadSettings) (z : Sizes) → t.sizes ≡ z → (let s : PadSettings = record { sizes = z } in s) ≡ t
pad_same t z e = ap (λ (x : Sizes). let s : PadSettings = record { sizes = x } in s) (sym e)

pub pad_set : SetsBy pad_manual (λ s. s) set_pad
pad_set = record {
  sets = λ s option value t h. ap (option_map (λ n. let c : PadSettings = record { sizes = put s.sizes option n } in c)) h.1 ∙ ap Some
      (pad_same t (put s.sizes option h.0) h.2);
  takes = λ s option value u e. let k = from_map (λ n. let c : PadSettings = record { sizes = put s.sizes option n } in c) (number_of 5 value) u
      e in (record { sizes = put s.sizes option k.0 }, (k.0, k.1, refl));
}

pub rate_in : (value : List ℕ) (base : Fraction) → IsRate value base → rate_base value ≡ Some base
rate_in value base h = ap (on_some base_of) h.ratio ∙ base_in h.n h.d base h.lowest h.small

pub rate_out : (value : List ℕ) (base : Fraction) → rate_base value ≡ Some base → IsRate value base
rate_out value base e =
    let k = from_some base_of (ratio_of value) base e in
    let is = base_out k.0.0 k.0.1 base k.2 in
    record { n = k.0.0; d = k.0.1; ratio = k.1; lowest = is.0; small = is.1 }

pub fps_set : SetsBy fps_manual (λ s. s) set_fps
fps_set = record {
  sets = λ s option value t h. ap (option_map (λ (b : Fraction). let f : FpsSettings = record { base = b } in f)) (rate_in value t.base h);
  takes = λ s option value u e. let k = from_map (λ (b : Fraction). let f : FpsSettings = record { base = b } in f) (rate_base value) u
      e in (record { base = k.0 }, rate_out value k.0 k.1);
}

pub split_set : SetsBy split_manual (λ s. s) set_split
split_set = record {
  sets = λ s option value t h. ap (option_map (λ n. let c : SplitSettings = record { outputs = n } in c)) (ranged_in 1 16 t.outputs value h.number h.some h.few);
  takes = λ s option value u e.
      let k = from_map (λ n. let c : SplitSettings = record { outputs = n } in c) (ranged 1 16 value) u e in
      let b = ranged_out 1 16 k.0 value k.1 in
      (record { outputs = k.0 }, record { number = b.is; some = b.low; few = b.high });
}

pub join_set : SetsBy join_manual (λ s. s) set_join
join_set = record {
  sets = λ s option value t h. ap (option_map (λ n. let c : JoinSettings = record { inputs = n } in c)) h;
  takes = λ s option value u e.
      let k = from_map (λ n. let c : JoinSettings = record { inputs = n } in c) (ranged 2 8 value) u e in
      (record { inputs = k.0 }, k.1);
}

pub concat_sets : SetsBy concat_manual (λ s. s) concat_set
concat_sets = record { sets = λ s option value t h. h; takes = λ s option value u e. (u, e) }

flag_is : (b : Bool) → (cond b 1 0 == 1) ≡ b
flag_is true = refl
flag_is false = refl

flag_in : (b : Bool) → cond b 1 0 ≤ 1
flag_in true = omega arith
flag_in false = omega arith

flag_back : (n : ℕ) → n ≤ 1 → cond (n == 1) 1 0 ≡ n
flag_back zero le = refl
flag_back (suc zero) le = refl
flag_back (suc (suc n)) le = absurd (omega (arith, le))

stack_sets : (s : StackSettings) (option : ℕ) (value : List ℕ) (t : StackSettings) → SetsStack s option value t → set_stack s option value ≡ Some t
stack_sets s zero value t h =
    ap (option_map (λ n. let c : StackSettings = record { inputs = n; shortest = s.shortest } in c)) (ranged_in 2 16 t.inputs value h.0 h.1 h.2)
    ∙ ap (λ (b : Bool). let c : StackSettings = record { inputs = t.inputs; shortest = b } in Some c) (sym h.3)
stack_sets s (suc option) value t h =
    ap (option_map (λ n. let c : StackSettings = record { inputs = s.inputs; shortest = n == 1 } in c))
    (ranged_in 0 1 (cond t.shortest 1 0) value h.0 (omega arith) (flag_in t.shortest))
    ∙ (ap (λ (b : Bool). let c : StackSettings = record { inputs = s.inputs; shortest = b } in Some c) (flag_is t.shortest)
    ∙ ap (λ n. let c : StackSettings = record { inputs = n; shortest = t.shortest } in Some c) (sym h.1))

stack_takes : (s : StackSettings) (option : ℕ) (value : List ℕ) (u : StackSettings) → set_stack s option value ≡ Some u
    → (t : StackSettings) × SetsStack s option value t
stack_takes s zero value u e =
    let k = from_map (λ n. let c : StackSettings = record { inputs = n; shortest = s.shortest } in c) (ranged 2 16 value) u e in
    let b = ranged_out 2 16 k.0 value k.1 in
    (record { inputs = k.0; shortest = s.shortest }, (b.is, b.low, b.high, refl))
stack_takes s (suc option) value u e =
    let k = from_map (λ n. let c : StackSettings = record { inputs = s.inputs; shortest = n == 1 } in c) (ranged 0 1 value) u e in
    let b = ranged_out 0 1 k.0 value k.1 in
    (record { inputs = s.inputs; shortest = k.0 == 1 }, (b.is ∙ ap Some (sym (flag_back k.0 b.high)), refl))

pub stack_set : SetsBy stack_manual (λ s. s) set_stack
stack_set = record { sets = stack_sets; takes = stack_takes }
