-- A run whose outputs pass on what they kept back.
use Rattle.std.proofs.Common.{◌≡◌, ◌⊎◌, ℕ, ◌≤◌, List, Option}
use Rattle.std.specs.declared.alloc.Global.{Global}
use Rattle.std.specs.declared.dyn_box.DynBox.{DynBox}
use Rattle.std.specs.Io.KnownBytes.{Keeps}
use Rattle.ec_base.specs.Causes.{Rose}
use Rattle.ec_link.specs.declared.rack.Rack.{Rack}
use Rattle.ec_link.specs.Logged.{Talk}
use Rattle.ec_execution_defs.specs.Programs.{Executable}
use Rattle.ec_execute.specs.declared.running.RunEnd.{RunEnd}
use Rattle.ec_execute.specs.declared.running.RunEnd.TheVariants as ends
use Rattle.ec_execute.specs.Runs.{Ran}
use Rattle.ec_execute.proofs.Ending.{flushed_whole, flushed_part}

module _ {X : Type 0} {F : X → Type 0} (talk : DynBox X Global F → Option Talk) (faults : DynBox X Global F → ℕ) {O E : Type 0} (held : O → Option (List ℕ)) (puts : O → ℕ) (told : E → Option (List ℕ)) (tells : E → ℕ)
    (x : Executable) (turns : ℕ) (first last : Rack X F) (out put flushed_out : O) (err said flushed_err : E) (output : Keeps (held put) (held flushed_out)) (errors : Keeps (told said) (told flushed_err)) (end : RunEnd) where
  -- where both did
  pub flushed : puts flushed_out ≡ puts put → tells flushed_err ≡ tells said → Ran talk faults held puts told tells x turns out put err said first last end
      → Ran talk faults held puts told tells x turns out flushed_out err flushed_err first last end
  flushed a b r = record {
    growth = r.growth;
    connects = r.connects;
    performs = flushed_whole held puts told tells _ r.growth out put flushed_out err said flushed_err output errors end a b r.performs;
  }

  -- where one of them failed
  pub unflushed : puts put ≤ puts flushed_out → tells said ≤ tells flushed_err → Rose (puts put) (puts flushed_out) ⊎ Rose (tells said) (tells flushed_err)
      → Ran talk faults held puts told tells x turns out put err said first last end → Ran talk faults held puts told tells x turns out flushed_out err flushed_err first last ends.WriteFault
  unflushed a b rose r = record {
    growth = r.growth;
    connects = r.connects;
    performs = flushed_part held puts told tells _ r.growth out put flushed_out err said flushed_err output errors end a b rose r.performs;
  }
