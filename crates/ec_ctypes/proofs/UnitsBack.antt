-- Programs from their data.
use Rattle.std.proofs.Common.{◌≡◌, refl, map}
use Rattle.std.specs.Prelude.{option_map}
use Rattle.ec_ctypes.specs.declared.tree.unit.Param.{Param}
use Rattle.ec_ctypes.specs.declared.tree.unit.Func.{Func}
use Rattle.ec_ctypes.specs.declared.tree.unit.Top.{Top}
use Rattle.ec_ctypes.specs.declared.tree.unit.Top.TheVariants as top
use Rattle.ec_ctypes.specs.declared.tree.unit.Unit.{Unit as Program}
use Rattle.ec_ctypes.specs.trees.Units.{ParamData, FuncData, TopData, include_top, directive_top, decl_top, func_top, mark_top, UnitData}
use Rattle.ec_ctypes.specs.views.Stmts.{stmts_view}
use Rattle.ec_ctypes.specs.views.Embedded.{emb_view}
use Rattle.ec_ctypes.specs.views.Units.{param_view, func_view, top_view, unit_view}
use Rattle.ec_ctypes.proofs.Undone.{map_undone, option_undone, undone_same}
use Rattle.ec_ctypes.proofs.ExprsBack.{base_back, base_undone, dims_back, dims_undone, decl_back, decl_undone}
use Rattle.ec_ctypes.proofs.StmtsBack.{stmts_back, stmts_undone}
use Rattle.ec_ctypes.proofs.EmbeddedBack.{emb_back, emb_undone}

-- the value that has this data, and that the data has no other
abbrev pub param_back : ParamData → Param
param_back p = record { base = base_back p.base; stars = p.stars; name = p.name; dims = dims_back p.dims; section = p.section }

pub param_undone : (p : Param) → param_back (param_view p) ≡ p
param_undone p = λ i. record { base = base_undone p.base i; stars = p.stars; name = p.name; dims = dims_undone p.dims i; section = p.section }

abbrev pub func_back : FuncData → Func
func_back f = record { base = base_back f.base; stars = f.stars; name = f.name; params = map param_back f.params; body = option_map stmts_back f.body; section = f.section; line = f.line }

pub func_undone : (f : Func) → func_back (func_view f) ≡ f
func_undone f = λ i. record { base = base_undone f.base i; stars = f.stars; name = f.name; params = map_undone param_view param_back param_undone f.params i; body = option_undone stmts_view stmts_back stmts_undone f.body i; section = f.section; line = f.line }

abbrev pub top_back : TopData → Top
top_back (include_top bytes) = top.Include bytes
top_back (directive_top n) = top.Directive n
top_back (decl_top d) = top.Decl (decl_back d)
top_back (func_top f) = top.Func (func_back f)
top_back (mark_top opens line) = top.Mark opens line

pub top_undone : (t : Top) → top_back (top_view t) ≡ t
top_undone (top.Include bytes) = refl
top_undone (top.Directive n) = refl
top_undone (top.Decl d) = λ i. top.Decl (decl_undone d i)
top_undone (top.Func f) = λ i. top.Func (func_undone f i)
top_undone (top.Mark opens line) = refl

abbrev pub unit_back : UnitData → Program
unit_back u = record { tops = map top_back u.tops; embs = map emb_back u.embs; last = u.last }

pub unit_undone : (u : Program) → unit_back (unit_view u) ≡ u
unit_undone u = λ i. record { tops = map_undone top_view top_back top_undone u.tops i; embs = map_undone emb_view emb_back emb_undone u.embs i; last = u.last }

-- where two have one view, they are one
pub same_param : (a : Param) → (b : Param) → param_view a ≡ param_view b → a ≡ b
same_param = undone_same param_view param_back param_undone

pub same_func : (a : Func) → (b : Func) → func_view a ≡ func_view b → a ≡ b
same_func = undone_same func_view func_back func_undone

pub same_top : (a : Top) → (b : Top) → top_view a ≡ top_view b → a ≡ b
same_top = undone_same top_view top_back top_undone

pub same_unit : (a : Program) → (b : Program) → unit_view a ≡ unit_view b → a ≡ b
same_unit = undone_same unit_view unit_back unit_undone
