-- Whether a struct with its members stands in an expression, or in one beside a declared name. What has none is written as it was read.
use Rattle.std.specs.Prelude.{Bool, true, false, ◌||◌}
use Rattle.ec_ctypes.specs.trees.Exprs.{ExprData, integer, character, string, identifier, unary, binary, assign, bump, call, call_other, index, member, arrow, cast, size_type, size_expr, ExprList, no_exprs, exprs, BaseData, words, varchar, tagged, struct_base, DimData, open_dim, dim, DimList, no_dims, dims, InitData, one, many, InitList, no_inits, inits, InitOption, no_init, some_init, DeclaratorData, declarator, DeclaratorList, no_declarators, declarators}

abbrev pub is_struct : BaseData → Bool
is_struct (words ws) = false
is_struct varchar = false
is_struct (tagged t) = false
is_struct (struct_base t ms) = true

abbrev mutual
  pub has_struct : ExprData → Bool
  has_struct (integer n t) = false
  has_struct (character c) = false
  has_struct (string s) = false
  has_struct (identifier x) = false
  has_struct (unary op a) = has_struct a
  has_struct (binary op a b) = has_struct a || has_struct b
  has_struct (assign op a b) = has_struct a || has_struct b
  has_struct (bump before up a) = has_struct a
  has_struct (call f es) = any_has_struct es
  has_struct (call_other f es) = has_struct f || any_has_struct es
  has_struct (index a b) = has_struct a || has_struct b
  has_struct (member a m) = has_struct a
  has_struct (arrow a m) = has_struct a
  has_struct (cast b stars a) = is_struct b || has_struct a
  has_struct (size_type b stars) = is_struct b
  has_struct (size_expr a) = has_struct a

  pub any_has_struct : ExprList → Bool
  any_has_struct no_exprs = false
  any_has_struct (exprs e es) = has_struct e || any_has_struct es

abbrev pub dim_has_struct : DimData → Bool
dim_has_struct open_dim = false
dim_has_struct (dim e) = has_struct e

abbrev pub any_dim_has_struct : DimList → Bool
any_dim_has_struct no_dims = false
any_dim_has_struct (dims d ds) = dim_has_struct d || any_dim_has_struct ds

abbrev mutual
  pub init_has_struct : InitData → Bool
  init_has_struct (one e) = has_struct e
  init_has_struct (many is) = any_init_has_struct is

  pub any_init_has_struct : InitList → Bool
  any_init_has_struct no_inits = false
  any_init_has_struct (inits i is) = init_has_struct i || any_init_has_struct is

abbrev pub initializer_has_struct : InitOption → Bool
initializer_has_struct no_init = false
initializer_has_struct (some_init i) = init_has_struct i

abbrev pub declarator_has_struct : DeclaratorData → Bool
declarator_has_struct (declarator stars name ds i) =
    any_dim_has_struct ds || initializer_has_struct i

abbrev pub any_declarator_has_struct : DeclaratorList → Bool
any_declarator_has_struct no_declarators = false
any_declarator_has_struct (declarators d ds) =
    declarator_has_struct d || any_declarator_has_struct ds
