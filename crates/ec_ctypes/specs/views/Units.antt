-- The data of programs.
use Rattle.std.specs.Prelude.{map, option_map}
use Rattle.ec_ctypes.specs.declared.tree.unit.Param.{Param}
use Rattle.ec_ctypes.specs.declared.tree.unit.Func.{Func}
use Rattle.ec_ctypes.specs.declared.tree.unit.Top.{Top}
use Rattle.ec_ctypes.specs.declared.tree.unit.Top.TheVariants as top
use Rattle.ec_ctypes.specs.declared.tree.unit.Unit.{Unit as Program}
use Rattle.ec_ctypes.specs.trees.Units.{ParamData, FuncData, TopData, include_top, directive_top, decl_top, func_top, mark_top, UnitData}
use Rattle.ec_ctypes.specs.views.Exprs.{base_view, dims_view, decl_view}
use Rattle.ec_ctypes.specs.views.Stmts.{stmts_view}
use Rattle.ec_ctypes.specs.views.Embedded.{emb_view}

abbrev pub param_view : Param → ParamData
param_view p = record {
  base = base_view p.base;
  stars = p.stars;
  name = p.name;
  dims = dims_view p.dims;
  section = p.section;
}

abbrev pub func_view : Func → FuncData
func_view f =
    record {
      base = base_view f.base;
      stars = f.stars;
      name = f.name;
      params = map param_view f.params;
      body = option_map stmts_view f.body;
      section = f.section;
      line = f.line;
    }

abbrev pub top_view : Top → TopData
top_view (top.Include bytes) = include_top bytes
top_view (top.Directive n) = directive_top n
top_view (top.Decl d) = decl_top (decl_view d)
top_view (top.Func f) = func_top (func_view f)
top_view (top.Mark opens line) = mark_top opens line

abbrev pub unit_view : Program → UnitData
unit_view u = record { tops = map top_view u.tops; embs = map emb_view u.embs; last = u.last }
