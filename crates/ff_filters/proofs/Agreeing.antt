-- Each filter is what its function says.
use Rattle.std.proofs.Common.{◌≡◌, ℕ, ◌<◌, ◌^◌, ◌==◌, nat_le, Bool, true, false, cond, Option, Some, None, Result, Ok, Err, List, [], ◌∷◌, length, refl, sym, ap}
use Rattle.std.proofs.Common.{subst, ◌∙◌}
use Rattle.ff_time.specs.Fraction.{Fraction}
use Rattle.ff_frame.specs.declared.config.ConfigError.{ConfigError}
use Rattle.ff_frame.specs.declared.config.ConfigError.TheVariants.{Pads, Kind, Mismatch, BadSize, BadOption}
use Rattle.ff_frame.specs.declared.head.StreamHead.{StreamHead}
use Rattle.ff_frame.specs.declared.head.StreamHead.TheVariants.{Audio, Video}
use Rattle.ff_frame.specs.Heads.{base_of_head}
use Rattle.ff_lang.specs.declared.graph.Arg.{Arg}
use Rattle.ff_filter.specs.Options.{is_sound, is_video, Manual, AreRead, IsConfigured, Checked}
use Rattle.ff_filter.specs.declared.lasting.settings.TrimSettings.{TrimSettings}
use Rattle.ff_filter.specs.declared.range.Range.{Range}
use Rattle.ff_filter.specs.Ranges.{IsCeiling}
use Rattle.ff_filter.specs.lasting.Lastings.{trim_manual, near_one}
use Rattle.ff_filter.specs.declared.rebase.Rebase.{Rebase}
use Rattle.ff_filter.specs.Plain.{no_manual, expr_manual, IsRebase}
use Rattle.ff_filter.specs.spread.Splits.{split_manual, IsSplit}
use Rattle.ff_planes.specs.declared.rectangle.Rectangle.{Rectangle}
use Rattle.ff_vfilter.specs.declared.lasting_trim.LastingTrim.{LastingTrim}
use Rattle.ff_vfilter.specs.declared.crop.CropSettings.{CropSettings}
use Rattle.ff_vfilter.specs.declared.pad.PadSettings.{PadSettings}
use Rattle.ff_vfilter.specs.Crops.{crop_manual, crop_makes, IsCrop}
use Rattle.ff_vfilter.specs.Pads.{pad_manual, Padded, pad_makes, IsPad}
use Rattle.ff_vfilter.specs.FpsOptions.{fps_manual, IsFps}
use Rattle.ff_vfilter.specs.Trims.{MakesTrim, IsTrim}
use Rattle.ff_afilter.specs.declared.lasting_atrim.LastingATrim.{LastingATrim}
use Rattle.ff_afilter.specs.Trims.{MakesATrim, IsATrim}
use Rattle.ff_fsync.specs.declared.stacks.options.StackSettings.{StackSettings}
use Rattle.ff_fsync.specs.declared.stacks.shape.Direction.{Direction}
use Rattle.ff_fsync.specs.stacks.Options.{stack_manual, counted}
use Rattle.ff_fsync.specs.stacks.Stacks.{StackOf, Unless, stack_on, AfterRead, IsStack}
use Rattle.ff_fsync.specs.stacks.Heads.{input_fault, stack_fault}
use Rattle.ff_concat.specs.Arguments.{concat_manual, concat_set, concat_start}
use Rattle.ff_concat.specs.ConcatOptions.{IsConcat}
use Rattle.ff_concat.proofs.Agreeing.{concat_is as segments_are}
use Rattle.ff_joins.specs.JoinOptions.{channels_in, join_manual, inputs_said, is_like, AreAlike, IsJoin}
use Rattle.ff_joins.specs.Arguments.{GoesOn, AfterRead as AfterArgs, each_head}
use Rattle.ff_filters.specs.Ticks.{TrimTimes, set_trim, ticks_at, in_bits, in_bits-near, range_in}
use Rattle.ff_filters.specs.ReadBy.{and_then, unless, read_by, configured_by}
use Rattle.ff_filters.specs.SetBy.{set_none, set_expr, set_crop, set_pad, set_fps, set_split, set_stack, set_join}
use Rattle.ff_filters.specs.Configured.{plain_by, rebase_by, all_times, trimmed_as, trim_by, atrimmed_as, atrim_by, cropped_as, crop_by, padded_as, pad_by, fps_by, split_by, stacked_as, stack_by}
use Rattle.ff_filters.specs.Configured.{checked, concat_by, joined_as, join_by}
use Rattle.ff_filters.proofs.Readings.{SetsBy, result_of, read_is, configured_is}
use Rattle.ff_filters.proofs.SettingsBy.{none_set, expr_set, crop_set, pad_set, fps_set, split_set, join_set, concat_sets, stack_set}
use Rattle.ff_filters.proofs.RangeTicks.{times_of, trim_times, trim_set, ceiling_is, in_bits-same, range_is}

-- ---- of one input

pub plain_is : {X : Type 0} (wanted : StreamHead → Bool) (of : StreamHead → X) (args : List Arg) (heads : List StreamHead) (r : Result X ConfigError)
    → IsConfigured wanted no_manual (record {}) (λ head s q. q ≡ Ok (of head)) args heads r → plain_by wanted of args heads ≡ r
plain_is wanted of args heads r h =
    configured_is no_manual (λ s. s) set_none none_set (λ head s q. q ≡ Ok (of head)) (λ head s. Ok (of head)) (λ head s q e. sym e) wanted (record {}) args heads r h

pub rebase_is : (wanted : StreamHead → Bool) (args : List Arg) (heads : List StreamHead) (r : Result Rebase ConfigError) → IsRebase wanted args heads r
    → rebase_by wanted args heads ≡ r
rebase_is wanted args heads r h =
    configured_is expr_manual (λ s. s) set_expr expr_set (λ head s q. q ≡ cond s.given (Ok (record { head = head; first = None })) (Err BadOption))
    (λ head s. cond s.given (Ok (record { head = head; first = None })) (Err BadOption)) (λ head s q e. sym e) wanted (record { given = false }) args heads r h

pub crop_is : (args : List Arg) (heads : List StreamHead) (r : Result (StreamHead × Rectangle) ConfigError) → IsCrop args heads r → crop_by args heads ≡ r
crop_is args heads r h = configured_is crop_manual (λ s. s) set_crop crop_set crop_makes cropped_as made is_video (record { sizes = _ }) args heads r h
  where
    made : (head : StreamHead) (s : CropSettings) (q : Result (StreamHead × Rectangle) ConfigError) → crop_makes head s q → cropped_as head s ≡ q
    made (Audio tb rate bits channels codec) s q e = sym e
    made (Video tb format width height sar_num sar_den) s q e = sym e

pub pad_is : (args : List Arg) (heads : List StreamHead) (r : Result Padded ConfigError) → IsPad args heads r → pad_by args heads ≡ r
pad_is args heads r h = configured_is pad_manual (λ s. s) set_pad pad_set pad_makes padded_as made is_video (record { sizes = _ }) args heads r h
  where
    made : (head : StreamHead) (s : PadSettings) (q : Result Padded ConfigError) → pad_makes head s q → padded_as head s ≡ q
    made (Audio tb rate bits channels codec) s q e = sym e
    made (Video tb format width height sar_num sar_den) s q e = sym e

pub fps_is : (args : List Arg) (heads : List StreamHead) (r : Result (StreamHead × Fraction) ConfigError) → IsFps args heads r → fps_by args heads ≡ r
fps_is args heads r h =
    configured_is fps_manual (λ s. s) set_fps fps_set (λ head s q. q ≡ Ok (head, s.base)) (λ head s. Ok (head, s.base)) (λ head s q e. sym e)
    is_video (record { base = record { num = 1; den = 25 } }) args heads r h

pub split_is : (wanted : StreamHead → Bool) (args : List Arg) (heads : List StreamHead) (r : Result (StreamHead × ℕ) ConfigError) → IsSplit wanted args heads r
    → split_by wanted args heads ≡ r
split_is wanted args heads r h =
    configured_is split_manual (λ s. s) set_split split_set (λ head s q. q ≡ Ok (head, s.outputs)) (λ head s. Ok (head, s.outputs)) (λ head s q e. sym e)
    wanted (record { outputs = 2 }) args heads r h

-- settings that are all times are so as they are shown
all_is : (all : TrimSettings) → all.range.start ≡ 0 → all.range.stop ≡ None → all.lasting ≡ 0 → trim_times all ≡ all_times
all_is all first last none =
    ap (λ (n : ℕ). let u : TrimTimes = record { range = record { start = n; stop = all.range.stop }; lasting = all.lasting } in u) first
    ∙ (ap (λ (o : Option ℕ). let u : TrimTimes = record { range = record { start = 0; stop = o }; lasting = all.lasting } in u) last
    ∙ ap (λ (n : ℕ). let u : TrimTimes = record { range = record { start = 0; stop = None }; lasting = n } in u) none)

lasting_is : (us : ℕ) (tb : Fraction) (k : ℕ) → k < 2 ^ 63 → IsCeiling us tb k → k ≡ in_bits (ticks_at tb us)
lasting_is us tb k near is = sym (in_bits-same (ticks_at tb us) k (ceiling_is us tb k is) near)

trim_same : (m : LastingTrim) (h : StreamHead) (r : Range) (k : ℕ) (q : k < 2 ^ 63) → m.trim.head ≡ h → m.trim.range ≡ r → m.lasting ≡ k
    → m ≡ record { trim = record { head = h; range = r }; lasting = k; near = q }
trim_same m h r k q e f g =
    subst (λ j. (q : j < 2 ^ 63) → m ≡ record { trim = record { head = h; range = r }; lasting = j; near = q }) g
    (λ q. subst (λ (x : StreamHead). m ≡ record { trim = record { head = x; range = r }; lasting = m.lasting; near = q }) e
    (subst (λ (y : Range). m ≡ record { trim = record { head = m.trim.head; range = y }; lasting = m.lasting; near = q }) f
    (ap (λ (b : m.lasting < 2 ^ 63). let n : LastingTrim = record { trim = m.trim; lasting = m.lasting; near = b } in n) (near_one m.lasting m.near q)))) q

pub trim_is : (args : List Arg) (heads : List StreamHead) (r : Result LastingTrim ConfigError) → IsTrim args heads r → trim_by args heads ≡ r
trim_is args heads r h =
    subst (λ (u : TrimTimes). configured_by is_video trim_manual set_trim u trimmed_as args heads ≡ r) (all_is h.0 h.1 h.2 h.3)
    (configured_is trim_manual trim_times set_trim trim_set MakesTrim trimmed_as made is_video h.0 args heads r h.4)
  where
    made : (head : StreamHead) (s : TrimSettings) (q : Result LastingTrim ConfigError) → MakesTrim head s q → trimmed_as head (trim_times s) ≡ q
    made head s q k =
        let tb = base_of_head head in
        ap Ok (sym (trim_same k.0 head (range_in tb (times_of s.range)) (in_bits (ticks_at tb s.lasting)) (in_bits-near (ticks_at tb s.lasting)) k.1
        (sym (range_is s.range tb k.0.trim.range k.2)) (lasting_is s.lasting tb k.0.lasting k.0.near k.3))) ∙ sym k.4

atrim_same : (m : LastingATrim) (h : StreamHead) (r : Range) (k : ℕ) (q : k < 2 ^ 63) → m.trim.head ≡ h → m.trim.range ≡ r → m.lasting ≡ k
    → m ≡ record { trim = record { head = h; range = r }; lasting = k; near = q }
atrim_same m h r k q e f g =
    subst (λ j. (q : j < 2 ^ 63) → m ≡ record { trim = record { head = h; range = r }; lasting = j; near = q }) g
    (λ q. subst (λ (x : StreamHead). m ≡ record { trim = record { head = x; range = r }; lasting = m.lasting; near = q }) e
    (subst (λ (y : Range). m ≡ record { trim = record { head = m.trim.head; range = y }; lasting = m.lasting; near = q }) f
    (ap (λ (b : m.lasting < 2 ^ 63). let n : LastingATrim = record { trim = m.trim; lasting = m.lasting; near = b } in n) (near_one m.lasting m.near q)))) q

pub atrim_is : (args : List Arg) (heads : List StreamHead) (r : Result LastingATrim ConfigError) → IsATrim args heads r → atrim_by args heads ≡ r
atrim_is args heads r h =
    subst (λ (u : TrimTimes). configured_by is_sound trim_manual set_trim u atrimmed_as args heads ≡ r) (all_is h.0 h.1 h.2 h.3)
    (configured_is trim_manual trim_times set_trim trim_set MakesATrim atrimmed_as made is_sound h.0 args heads r h.4)
  where
    made : (head : StreamHead) (s : TrimSettings) (q : Result LastingATrim ConfigError) → MakesATrim head s q → atrimmed_as head (trim_times s) ≡ q
    made head s q k =
        let tb = base_of_head head in
        ap Ok (sym (atrim_same k.0 head (range_in tb (times_of s.range)) (in_bits (ticks_at tb s.lasting)) (in_bits-near (ticks_at tb s.lasting)) k.1
        (sym (range_is s.range tb k.0.trim.range k.2)) (lasting_is s.lasting tb k.0.lasting k.0.near k.3))) ∙ sym k.4

-- ---- of several inputs

unless_is : {X : Type 0} (o : Option ConfigError) (r q : Result X ConfigError) (Others : Type 0) → (Others → q ≡ r) → Unless o r Others → unless o q ≡ r
unless_is None r q Others same h = same h
unless_is (Some e) r q Others same h = sym h

planned_is : (d : Direction) (heads : List StreamHead) (r : Result StackOf ConfigError) (q : Result StackSettings ConfigError) → AfterRead d heads r q
    → and_then (stacked_as d heads) q ≡ r
planned_is d heads r (Err e) h = sym h
planned_is d [] r (Ok s) h = sym h
planned_is d (x ∷ xs) r (Ok s) h = unless_is (stack_fault d x (x ∷ xs)) r (Ok (stack_on d x (x ∷ xs) s.shortest)) (r ≡ Ok (stack_on d x (x ∷ xs) s.shortest))
    (λ e. sym e) h

result_same : {S : Type 0} (r : Result S ConfigError) → result_of (λ s. s) r ≡ r
result_same (Ok s) = refl
result_same (Err e) = refl

pub stack_is : (d : Direction) (args : List Arg) (heads : List StreamHead) (r : Result StackOf ConfigError) → IsStack d args heads r → stack_by d args heads ≡ r
stack_is d args heads r h =
    unless_is (input_fault (counted false 0 2 args) is_video heads) r _ _
    (λ (k : (q : Result StackSettings ConfigError) × AreRead stack_manual false 0 (record { inputs = 2; shortest = false }) args q × AfterRead d heads r q).
    ap (and_then (stacked_as d heads)) (read_is stack_manual (λ s. s) set_stack stack_set false 0 (record { inputs = 2; shortest = false }) args k.0 k.1 ∙ result_same
    k.0) ∙ planned_is d heads r k.0 k.2) h

checked_is : {X : Type 0} (c : Bool) (e : ConfigError) (q r : Result X ConfigError) (next : Result X ConfigError → Type 0) → (next r → q ≡ r) → Checked c e next r
    → checked c e q ≡ r
checked_is true e q r next same h = same h
checked_is false e q r next same h = sym h

goes_on : {S X : Type 0} (next : S → Result X ConfigError → Type 0) (then : S → Result X ConfigError) (q : Result S ConfigError) (r : Result X ConfigError)
    → ((s : S) → next s r → then s ≡ r) → GoesOn next q r → and_then then q ≡ r
goes_on next then (Ok s) r same h = same s h
goes_on next then (Err e) r same h = sym h

args_is : {S X : Type 0} (manual : Manual S) (set : S → ℕ → List ℕ → Option S) (is : SetsBy manual (λ s. s) set) (s : S) (args : List Arg)
    (next : S → Result X ConfigError → Type 0) (then : S → Result X ConfigError) (r : Result X ConfigError)
    → ((t : S) → next t r → then t ≡ r) → AfterArgs manual s args next r → and_then then (read_by manual set false 0 s args) ≡ r
args_is manual set is s args next then r same h =
    ap (and_then then) (read_is manual (λ t. t) set is false 0 s args h.0 h.1 ∙ result_same h.0) ∙ goes_on next then h.0 r same h.2

pub concat_is : (args : List Arg) (heads : List StreamHead) (r : Result (List StreamHead × ℕ) ConfigError) → IsConcat args heads r → concat_by args heads ≡ r
concat_is args heads r h =
    segments_are args heads (read_by concat_manual concat_set false 0 (concat_start args) args) r
    (λ q k. read_is concat_manual (λ s. s) concat_set concat_sets false 0 (concat_start args) args q k ∙ result_same q) h

joined_is : (heads : List StreamHead) (r : Result StreamHead ConfigError) → AreAlike heads r → joined_as heads ≡ r
joined_is [] r h = sym h
joined_is (x ∷ xs) r h =
    checked_is (each_head (is_like x) xs) Mismatch _ r _ (λ k. checked_is (nat_le (channels_in (x ∷ xs)) 8) BadSize _ r _ (λ e. sym e) k) h

pub join_is : (args : List Arg) (heads : List StreamHead) (r : Result StreamHead ConfigError) → IsJoin args heads r → join_by args heads ≡ r
join_is args heads r h =
    checked_is (length heads == inputs_said args) Pads _ r _
    (λ k. checked_is (each_head is_sound heads) Kind _ r _
    (λ l. args_is join_manual set_join join_set (record { inputs = 2 }) args (λ s w. AreAlike heads w) (λ s. joined_as heads) r (λ s j. joined_is heads r j) l) k) h
