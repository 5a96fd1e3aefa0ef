-- What is found out about a program, from its data.
use Rattle.std.proofs.Common.{◌≡◌, ℕ, List, map}
use Rattle.std.specs.Prelude.{option_map}
use Rattle.ec_ctypes.specs.declared.embedded.emb.Cond.{Cond}
use Rattle.ec_ctypes.specs.declared.embedded.emb.Action.{Action}
use Rattle.ec_ctypes.specs.declared.checked.library.Sym.{Sym}
use Rattle.ec_ctypes.specs.declared.checked.typed.HandlerTable.{HandlerTable}
use Rattle.ec_ctypes.specs.declared.checked.typed.Typed.{Typed}
use Rattle.ec_ctypes.specs.declared.checked.bound.Place.{Place}
use Rattle.ec_ctypes.specs.declared.checked.bound.Bound.{Bound}
use Rattle.ec_ctypes.specs.declared.tree.expr.Expr.{Expr}
use Rattle.ec_ctypes.specs.declared.types.ty.Ty.{Ty}
use Rattle.ec_ctypes.specs.trees.Types.{TyData}
use Rattle.ec_ctypes.specs.trees.Checked.{MarkData, TypedData, IndicatorData, PlaceData, BoundData}
use Rattle.ec_ctypes.specs.views.Types.{struct_view}
use Rattle.ec_ctypes.specs.views.Exprs.{expr_view}
use Rattle.ec_ctypes.specs.views.Checked.{mark_view, handlers_view, name_view, typed_view, indicator_view, place_view, bound_view}
use Rattle.ec_ctypes.proofs.Undone.{map_undone, option_undone, undone_same}
use Rattle.ec_ctypes.proofs.TypesBack.{ty_back, ty_undone, struct_back, struct_undone}
use Rattle.ec_ctypes.proofs.ExprsBack.{expr_back, expr_undone}
use Rattle.ec_ctypes.proofs.EmbeddedBack.{action_back, action_undone}
use Rattle.ec_ctypes.proofs.UnitsBack.{unit_back, unit_undone}

-- the value that has this data, and that the data has no other
abbrev mark_back : MarkData → ℕ × Cond × Action
mark_back m = (m.0, m.1, action_back m.2)

mark_undone : (m : ℕ × Cond × Action) → mark_back (mark_view m) ≡ m
mark_undone m = λ i. (m.0, m.1, action_undone m.2 i)

abbrev pub handlers_back : List MarkData → HandlerTable
handlers_back marks = record { marks = map mark_back marks }

pub handlers_undone : (table : HandlerTable) → handlers_back (handlers_view table) ≡ table
handlers_undone table = λ i. record { marks = map_undone mark_view mark_back mark_undone table.marks i }

abbrev name_back : ℕ × TyData → ℕ × Ty
name_back n = (n.0, ty_back n.1)

name_undone : (n : ℕ × Ty) → name_back (name_view n) ≡ n
name_undone n = λ i. (n.0, ty_undone n.1 i)

abbrev pub typed_back : TypedData → Typed
typed_back t = record { unit = unit_back t.unit; structs = map struct_back t.structs; names = map name_back t.names; hosts = record { hosts = t.hosts }; handlers = handlers_back t.handlers; denoted = t.denoted }

pub typed_undone : (t : Typed) → typed_back (typed_view t) ≡ t
typed_undone t = λ i. record { unit = unit_undone t.unit i; structs = map_undone struct_view struct_back struct_undone t.structs i; names = map_undone name_view name_back name_undone t.names i; hosts = t.hosts; handlers = handlers_undone t.handlers i; denoted = t.denoted }

abbrev indicator_back : IndicatorData → Sym × Expr × ℕ × ℕ
indicator_back x = (x.0, expr_back x.1, x.2, x.3)

indicator_undone : (x : Sym × Expr × ℕ × ℕ) → indicator_back (indicator_view x) ≡ x
indicator_undone x = λ i. (x.0, expr_undone x.1 i, x.2, x.3)

abbrev pub place_back : PlaceData → Place
place_back p = record { sym = p.sym; value = expr_back p.value; size = p.size; count = p.count; step = p.step; ind = option_map indicator_back p.ind }

pub place_undone : (p : Place) → place_back (place_view p) ≡ p
place_undone p = λ i. record { sym = p.sym; value = expr_undone p.value i; size = p.size; count = p.count; step = p.step; ind = option_undone indicator_view indicator_back indicator_undone p.ind i }

abbrev pub bound_back : BoundData → Bound
bound_back b = record { text = b.text; texts = map expr_back b.texts; ins = map place_back b.ins; outs = map place_back b.outs }

pub bound_undone : (b : Bound) → bound_back (bound_view b) ≡ b
bound_undone b = λ i. record { text = b.text; texts = map_undone expr_view expr_back expr_undone b.texts i; ins = map_undone place_view place_back place_undone b.ins i; outs = map_undone place_view place_back place_undone b.outs i }

-- where two have one view, they are one
pub same_handlers : (a : HandlerTable) → (b : HandlerTable) → handlers_view a ≡ handlers_view b → a ≡ b
same_handlers = undone_same handlers_view handlers_back handlers_undone

pub same_typed : (a : Typed) → (b : Typed) → typed_view a ≡ typed_view b → a ≡ b
same_typed = undone_same typed_view typed_back typed_undone

pub same_place : (a : Place) → (b : Place) → place_view a ≡ place_view b → a ≡ b
same_place = undone_same place_view place_back place_undone

pub same_bound : (a : Bound) → (b : Bound) → bound_view a ≡ bound_view b → a ≡ b
same_bound = undone_same bound_view bound_back bound_undone
