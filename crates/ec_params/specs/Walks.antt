-- Going through the hosts of a statement, with the lowest fault so far.
use Rattle.std.specs.Prelude.{◌≡◌, ◌++◌, drop, Option}
use Rattle.ec_base.specs.declared.fault.FaultKind.{FaultKind}
use Rattle.ec_ctypes.specs.trees.Embedded.{HostData}
use Rattle.ec_ctypes.specs.trees.Exprs.{ExprData}
use Rattle.ec_host_defs.specs.Faults.{uses_faults}
use Rattle.ec_host_defs.specs.Programs.{ProgramData, Denoted}
use Rattle.ec_host_defs.specs.Uses.{Uses}
use Rattle.ec_params.specs.declared.walk.Walk.{Walk}
use Rattle.ec_params.specs.Least.{lower_of, least}

-- the lowest fault, once these hosts are gone through too
abbrev pub found : ProgramData → Denoted → Uses → Walk → Option FaultKind
found p ds us w = lower_of w.fault (least (uses_faults p us (drop w.at ds)))

-- These hosts were gone through: whatever stands behind them, the lowest fault is the same.
pub record Walks (p : ProgramData) (ds : Denoted) (us : Uses) (old new : Walk) : Type 0 where
  pub is : (vs : Uses) → found p ds vs new ≡ found p ds (us ++ vs) old

abbrev pub host_of : ExprData → Option ExprData → HostData
host_of e i = record { value = e; indicator = i }
