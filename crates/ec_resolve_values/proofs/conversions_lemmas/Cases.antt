-- What operators make of values of each type, by cases.
use Rattle.std.proofs.Common.{◌≡◌, Bool, refl, pos}
use Rattle.ec_ctypes.specs.declared.tree.expr.BinOp.{BinOp}
use Rattle.ec_ctypes.specs.declared.tree.expr.UnOp.{UnOp}
use Rattle.ec_ctypes.specs.declared.tree.expr.UnOp.TheVariants.{Addr, Deref, Plus, Minus, Not, Flip}
use Rattle.ec_ctypes.specs.trees.Types.{TyData, void, arithmetic, pointer, array, structure}
use Rattle.ec_memory_defs.specs.Memory.{number}
use Rattle.ec_meaning_defs.specs.resolved.Resolved.{Exp, constant}
use Rattle.ec_resolving_defs.specs.Conversions as form
use Rattle.ec_typing_defs.specs.Worlds.{World}
use Rattle.ec_resolve_values.specs.conversions.Scalars.{binary_of, bumped_of, compound_of, element_of, scalar_in, unary_of}

pub binary : (w : World) (op : BinOp) (s t : TyData) (x y : Exp) → form.binary_exp w op s x t y ≡ binary_of op (scalar_in w s) x (scalar_in w t) y
binary w op void void x y = refl
binary w op void (arithmetic b) x y = refl
binary w op void (pointer v) x y = refl
binary w op void (array v m) x y = refl
binary w op void (structure j) x y = refl
binary w op (arithmetic a) void x y = refl
binary w op (arithmetic a) (arithmetic b) x y = refl
binary w op (arithmetic a) (pointer v) x y = refl
binary w op (arithmetic a) (array v m) x y = refl
binary w op (arithmetic a) (structure j) x y = refl
binary w op (pointer u) void x y = refl
binary w op (pointer u) (arithmetic b) x y = refl
binary w op (pointer u) (pointer v) x y = refl
binary w op (pointer u) (array v m) x y = refl
binary w op (pointer u) (structure j) x y = refl
binary w op (array u n) void x y = refl
binary w op (array u n) (arithmetic b) x y = refl
binary w op (array u n) (pointer v) x y = refl
binary w op (array u n) (array v m) x y = refl
binary w op (array u n) (structure j) x y = refl
binary w op (structure k) void x y = refl
binary w op (structure k) (arithmetic b) x y = refl
binary w op (structure k) (pointer v) x y = refl
binary w op (structure k) (array v m) x y = refl
binary w op (structure k) (structure j) x y = refl

pub element : (w : World) (s t : TyData) (x y : Exp) → form.element_exp w s x t y ≡ element_of (scalar_in w s) x (scalar_in w t) y
element w void void x y = refl
element w void (arithmetic b) x y = refl
element w void (pointer v) x y = refl
element w void (array v m) x y = refl
element w void (structure j) x y = refl
element w (arithmetic a) void x y = refl
element w (arithmetic a) (arithmetic b) x y = refl
element w (arithmetic a) (pointer v) x y = refl
element w (arithmetic a) (array v m) x y = refl
element w (arithmetic a) (structure j) x y = refl
element w (pointer u) void x y = refl
element w (pointer u) (arithmetic b) x y = refl
element w (pointer u) (pointer v) x y = refl
element w (pointer u) (array v m) x y = refl
element w (pointer u) (structure j) x y = refl
element w (array u n) void x y = refl
element w (array u n) (arithmetic b) x y = refl
element w (array u n) (pointer v) x y = refl
element w (array u n) (array v m) x y = refl
element w (array u n) (structure j) x y = refl
element w (structure k) void x y = refl
element w (structure k) (arithmetic b) x y = refl
element w (structure k) (pointer v) x y = refl
element w (structure k) (array v m) x y = refl
element w (structure k) (structure j) x y = refl

pub compound : (w : World) (op : BinOp) (old : Bool) (s t : TyData) (x y : Exp) → form.compound w op old s x t y ≡ compound_of op old (scalar_in w s) x (scalar_in w t) y
compound w op old void void x y = refl
compound w op old void (arithmetic b) x y = refl
compound w op old void (pointer v) x y = refl
compound w op old void (array v m) x y = refl
compound w op old void (structure j) x y = refl
compound w op old (arithmetic a) void x y = refl
compound w op old (arithmetic a) (arithmetic b) x y = refl
compound w op old (arithmetic a) (pointer v) x y = refl
compound w op old (arithmetic a) (array v m) x y = refl
compound w op old (arithmetic a) (structure j) x y = refl
compound w op old (pointer u) void x y = refl
compound w op old (pointer u) (arithmetic b) x y = refl
compound w op old (pointer u) (pointer v) x y = refl
compound w op old (pointer u) (array v m) x y = refl
compound w op old (pointer u) (structure j) x y = refl
compound w op old (array u n) void x y = refl
compound w op old (array u n) (arithmetic b) x y = refl
compound w op old (array u n) (pointer v) x y = refl
compound w op old (array u n) (array v m) x y = refl
compound w op old (array u n) (structure j) x y = refl
compound w op old (structure k) void x y = refl
compound w op old (structure k) (arithmetic b) x y = refl
compound w op old (structure k) (pointer v) x y = refl
compound w op old (structure k) (array v m) x y = refl
compound w op old (structure k) (structure j) x y = refl

pub unary : (w : World) (op : UnOp) (t : TyData) (e : Exp) → form.unary_exp op t e ≡ unary_of op (scalar_in w t) e
unary w Addr void e = refl
unary w Deref void e = refl
unary w Plus void e = refl
unary w Minus void e = refl
unary w Not void e = refl
unary w Flip void e = refl
unary w op (arithmetic a) e = refl
unary w Addr (pointer u) e = refl
unary w Deref (pointer u) e = refl
unary w Plus (pointer u) e = refl
unary w Minus (pointer u) e = refl
unary w Not (pointer u) e = refl
unary w Flip (pointer u) e = refl
unary w Addr (array u n) e = refl
unary w Deref (array u n) e = refl
unary w Plus (array u n) e = refl
unary w Minus (array u n) e = refl
unary w Not (array u n) e = refl
unary w Flip (array u n) e = refl
unary w Addr (structure k) e = refl
unary w Deref (structure k) e = refl
unary w Plus (structure k) e = refl
unary w Minus (structure k) e = refl
unary w Not (structure k) e = refl
unary w Flip (structure k) e = refl

pub bumped : (w : World) (before up : Bool) (t : TyData) (x : Exp) → form.bumped w before up t x ≡ bumped_of before up (scalar_in w t) x (constant (number (pos 1)))
bumped w before up void x = refl
bumped w before up (arithmetic a) x = refl
bumped w before up (pointer u) x = refl
bumped w before up (array u n) x = refl
bumped w before up (structure k) x = refl
