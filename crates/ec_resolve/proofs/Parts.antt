-- A function, part by part.
use Rattle.std.proofs.Common.{◌≡◌, ◌∙◌, [], Result, Ok, Err, refl, sym, ap}
use Rattle.ec_base.specs.declared.stop.OutOfMemory.{OutOfMemory}
use Rattle.ec_ctypes.specs.declared.tree.unit.Func.{Func}
use Rattle.ec_ctypes.specs.declared.tree.unit.Top.{Top}
use Rattle.ec_ctypes.specs.declared.tree.unit.Top.TheVariants as top
use Rattle.ec_ctypes.specs.trees.Units.{FuncData}
use Rattle.ec_ctypes.specs.views.Units.{func_view, top_view}
use Rattle.ec_resolve_forms.specs.declared.resolver.Resolver.{Resolver}
use Rattle.ec_resolve_forms.specs.Seen.{from, Reaches}
use Rattle.ec_resolve_forms.proofs.Following.{reached_as}
use Rattle.ec_resolving_defs.specs.Programs.{function_rule, top_rule}
use Rattle.ec_resolving_defs.specs.Storage.{chain, ask}
use Rattle.ec_resolve.specs.Functions.{function_parts}

parts_same : (f : FuncData) (r : Resolver) → from (function_parts f) r ≡ from (function_rule [] f) r
unfolding chain ask
parts_same f r = refl

pub parts_reached : (r : Result (Unit {0}) OutOfMemory) (f : FuncData) (old new : Resolver) → Reaches (λ u. u) (from (function_parts f) old) r new → Reaches (λ u. u) (from (function_rule [] f) old) r new
parts_reached (Ok u) f old new p = reached_as (parts_same f old) p
parts_reached (Err x) f old new p = p

-- what stands at the top level is a function
pub func_reached : (r : Result (Unit {0}) OutOfMemory) (t : Top) (f g : Func) (old new : Resolver) → t ≡ top.Func f → g ≡ f → Reaches (λ u. u) (from (function_rule [] (func_view g)) old) r new → Reaches (λ u. u) (from (top_rule [] (top_view t)) old) r new
func_reached (Ok u) t f g old new is same p = reached_as (λ i. from (top_rule [] (top_view ((ap top.Func same ∙ sym is) i))) old) p
func_reached (Err x) t f g old new is same p = p
