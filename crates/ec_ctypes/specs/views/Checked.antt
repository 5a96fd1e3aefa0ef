-- The data of what is found out about a program.
use Rattle.std.specs.Prelude.{ℕ, List, map, option_map}
use Rattle.ec_ctypes.specs.declared.embedded.emb.Cond.{Cond}
use Rattle.ec_ctypes.specs.declared.embedded.emb.Action.{Action}
use Rattle.ec_ctypes.specs.declared.checked.library.Sym.{Sym}
use Rattle.ec_ctypes.specs.declared.checked.typed.HandlerTable.{HandlerTable}
use Rattle.ec_ctypes.specs.declared.checked.typed.Typed.{Typed}
use Rattle.ec_ctypes.specs.declared.checked.bound.Place.{Place}
use Rattle.ec_ctypes.specs.declared.checked.bound.Bound.{Bound}
use Rattle.ec_ctypes.specs.declared.tree.expr.Expr.{Expr}
use Rattle.ec_ctypes.specs.declared.types.ty.Ty.{Ty}
use Rattle.ec_ctypes.specs.trees.Types.{TyData}
use Rattle.ec_ctypes.specs.trees.Checked.{MarkData, TypedData, IndicatorData, PlaceData, BoundData}
use Rattle.ec_ctypes.specs.views.Types.{ty_view, structs_view}
use Rattle.ec_ctypes.specs.views.Exprs.{expr_view}
use Rattle.ec_ctypes.specs.views.Embedded.{action_view}
use Rattle.ec_ctypes.specs.views.Units.{unit_view}

abbrev pub mark_view : ℕ × Cond × Action → MarkData
mark_view m = (m.0, m.1, action_view m.2)

abbrev pub handlers_view : HandlerTable → List MarkData
handlers_view table = map mark_view table.marks

abbrev pub name_view : ℕ × Ty → ℕ × TyData
name_view n = (n.0, ty_view n.1)

abbrev pub typed_view : Typed → TypedData
typed_view t =
    record {
      unit = unit_view t.unit;
      structs = structs_view t.structs;
      names = map name_view t.names;
      hosts = t.hosts.hosts;
      handlers = handlers_view t.handlers;
      denoted = t.denoted;
    }

abbrev pub indicator_view : Sym × Expr × ℕ × ℕ → IndicatorData
indicator_view i = (i.0, expr_view i.1, i.2, i.3)

abbrev pub place_view : Place → PlaceData
place_view p = record {
  sym = p.sym;
  value = expr_view p.value;
  size = p.size;
  count = p.count;
  step = p.step;
  ind = option_map indicator_view p.ind;
}

abbrev pub bound_view : Bound → BoundData
bound_view b = record {
  text = b.text;
  texts = map expr_view b.texts;
  ins = map place_view b.ins;
  outs = map place_view b.outs;
}
