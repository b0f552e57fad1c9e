-- A trim is configured.
use Rattle.std.proofs.Common.{◌≡◌, List, None, Result, Ok, Err, inr}
use Rattle.ff_frame.specs.declared.config.ConfigError.{ConfigError}
use Rattle.ff_frame.specs.declared.head.StreamHead.{StreamHead}
use Rattle.ff_lang.specs.declared.graph.Arg.{Arg}
use Rattle.ff_filter.specs.declared.lasting.settings.TrimSettings.{TrimSettings}
use Rattle.ff_filter.specs.Options.{is_video, AreSet, IsRefused}
use Rattle.ff_filter.specs.lasting.Lastings.{trim_manual}
use Rattle.ff_filter.proofs.Configuring.{configured, refused}
use Rattle.ff_vfilter.specs.declared.lasting_trim.LastingTrim.{LastingTrim}
use Rattle.ff_vfilter.specs.Trims.{MakesTrim, IsTrim}

pub trim_refused : (all : TrimSettings) (args : List Arg) (heads : List StreamHead) (q : Result (StreamHead × TrimSettings) ConfigError) (e : ConfigError)
    → AreSet is_video trim_manual all args heads q → q ≡ Err e → all.range.start ≡ 0 → all.range.stop ≡ None → all.lasting ≡ 0 → IsRefused (IsTrim args heads) e
trim_refused all args heads q e set is a b d = inr (all, a, b, d, refused is_video trim_manual all _ args heads q e set is)

pub trim_configured : (all : TrimSettings) (args : List Arg) (heads : List StreamHead) (q : Result (StreamHead × TrimSettings) ConfigError) (head : StreamHead) (settings : TrimSettings) (m : LastingTrim)
    → AreSet is_video trim_manual all args heads q → q ≡ Ok (head, settings) → all.range.start ≡ 0 → all.range.stop ≡ None → all.lasting ≡ 0 → MakesTrim head settings (Ok m) → IsTrim args heads (Ok m)
trim_configured all args heads q head settings m set is a b d made = (all, a, b, d, configured is_video trim_manual all _ args heads q head settings _ set is made)
