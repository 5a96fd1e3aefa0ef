-- Expressions as they are read: constants are of arithmetic types, and an assignment has an operator that assigns.
use Rattle.std.specs.Prelude.{◌≡◌, true, Some, None}
use Rattle.ec_ctypes.specs.trees.Types.{TyData, void, arithmetic, pointer, array, structure}
use Rattle.ec_ctypes.specs.trees.Exprs.{ExprData, integer, character, string, identifier, unary, binary, assign, bump, call, call_other, index, member, arrow, cast, size_type, size_expr, ExprList, no_exprs, exprs}
use Rattle.ec_sound_form_laws.specs.Laws.{assigns}

abbrev pub IsArithmetic : TyData → Type 0
IsArithmetic void = ⊥
IsArithmetic (arithmetic a) = Unit {0}
IsArithmetic (pointer t) = ⊥
IsArithmetic (array t n) = ⊥
IsArithmetic (structure k) = ⊥

abbrev mutual
  pub IsPlain : ExprData → Type 0
  IsPlain (integer n t) = IsArithmetic t
  IsPlain (character c) = Unit {0}
  IsPlain (string s) = Unit {0}
  IsPlain (identifier x) = Unit {0}
  IsPlain (unary op e) = IsPlain e
  IsPlain (binary op a b) = IsPlain a × IsPlain b
  IsPlain (assign None a b) = IsPlain a × IsPlain b
  IsPlain (assign (Some op) a b) = (assigns op ≡ true) × IsPlain a × IsPlain b
  IsPlain (bump before up e) = IsPlain e
  IsPlain (call f es) = ArePlain es
  IsPlain (call_other f es) = IsPlain f × ArePlain es
  IsPlain (index a b) = IsPlain a × IsPlain b
  IsPlain (member e m) = IsPlain e
  IsPlain (arrow e m) = IsPlain e
  IsPlain (cast b stars e) = IsPlain e
  IsPlain (size_type b stars) = Unit {0}
  IsPlain (size_expr e) = IsPlain e

  pub ArePlain : ExprList → Type 0
  ArePlain no_exprs = Unit {0}
  ArePlain (exprs e es) = IsPlain e × ArePlain es
