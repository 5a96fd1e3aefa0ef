-- Parameters one behind the other.
use Rattle.std.specs.Prelude.{◌≡◌, drop, ℕ, zero, suc, ◌+◌, List, [], ◌∷◌, ◌++◌, codes}
use Rattle.std.specs.Fmt.{decimal}
use Rattle.ec_ctypes.specs.trees.Embedded.{PartData}
use Rattle.ec_language.specs.Letters.{Text, dollar}
use Rattle.ec_host_defs.specs.Bound.{sent_from}
use Rattle.ec_host_defs.specs.Programs.{ProgramData, Denoted}
use Rattle.ec_params.specs.declared.sending.Sending.{Sending as SendingText}

-- so many more behind that of this number
abbrev pub more_parameters : ℕ → ℕ → Text
more_parameters n zero = []
more_parameters n (suc count) =
    codes ", " ++ (dollar ∷ (decimal (n + 1) ++ more_parameters (n + 1) count))

-- what is written, and what the parts behind make of it
abbrev pub whole : ProgramData → Denoted → List PartData → SendingText → Text
whole p ds ps s = s.text ++ sent_from p s.number ps (drop s.at ds)

-- These parts are put at the end: whatever stands behind them, the whole is the same.
pub record Sends (p : ProgramData) (ds : Denoted)
    (ps : List PartData) (old new : SendingText) : Type 0 where
  pub is : (qs : List PartData) → whole p ds qs new ≡ whole p ds (ps ++ qs) old
