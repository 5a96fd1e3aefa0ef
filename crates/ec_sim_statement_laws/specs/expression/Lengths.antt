-- Trees in which each VARCHAR ends in a length that is a constant of 1 or more, as the marks and VARCHARs of an accepted source do (PostgreSQL manual, 36.4.4).
use Rattle.std.specs.Prelude.{◌≡◌, Bool, true, false}
use Rattle.ec_ctypes.specs.trees.Exprs.{ExprData, integer, character, string, identifier, unary, binary, assign, bump, call, call_other, index, member, arrow, cast, size_type, size_expr, ExprList, no_exprs, exprs, BaseData, words, varchar, tagged, struct_base, DimData, open_dim, dim, DimList, no_dims, dims, InitData, one, many, InitList, no_inits, inits, InitOption, no_init, some_init, DeclaratorData, declarator, DeclaratorList, no_declarators, declarators, DeclData, decl, DeclList, no_decls, decls}
use Rattle.ec_host_defs.specs.sections.Lengths.{ends_in_length}
use Rattle.ec_typing_defs.specs.Expressions.{is_varchar}

-- the array lengths of a declarator, of a VARCHAR or not
abbrev pub EndsInLength : Bool → DimList → Type 0
EndsInLength false ds = Unit {0}
EndsInLength true ds = ends_in_length ds ≡ true

abbrev mutual
  pub HaveLengths : ExprData → Type 0
  HaveLengths (integer n t) = Unit {0}
  HaveLengths (character c) = Unit {0}
  HaveLengths (string s) = Unit {0}
  HaveLengths (identifier x) = Unit {0}
  HaveLengths (unary op e) = HaveLengths e
  HaveLengths (binary op a b) = HaveLengths a × HaveLengths b
  HaveLengths (assign op a b) = HaveLengths a × HaveLengths b
  HaveLengths (bump before up e) = HaveLengths e
  HaveLengths (call f es) = HaveLengthsIn es
  HaveLengths (call_other f es) = HaveLengths f × HaveLengthsIn es
  HaveLengths (index a b) = HaveLengths a × HaveLengths b
  HaveLengths (member e m) = HaveLengths e
  HaveLengths (arrow e m) = HaveLengths e
  HaveLengths (cast b stars e) = BaseHasLengths b × HaveLengths e
  HaveLengths (size_type b stars) = BaseHasLengths b
  HaveLengths (size_expr e) = HaveLengths e

  pub HaveLengthsIn : ExprList → Type 0
  HaveLengthsIn no_exprs = Unit {0}
  HaveLengthsIn (exprs e es) = HaveLengths e × HaveLengthsIn es

  pub BaseHasLengths : BaseData → Type 0
  BaseHasLengths (words ws) = Unit {0}
  BaseHasLengths varchar = Unit {0}
  BaseHasLengths (tagged t) = Unit {0}
  BaseHasLengths (struct_base t ds) = MembersHaveLengths ds

  pub MembersHaveLengths : DeclList → Type 0
  MembersHaveLengths no_decls = Unit {0}
  MembersHaveLengths (decls d ds) = DeclHasLengths d × MembersHaveLengths ds

  pub DeclHasLengths : DeclData → Type 0
  DeclHasLengths (decl b items section line) =
      BaseHasLengths b × ItemsHaveLengths (is_varchar b) items

  pub ItemsHaveLengths : Bool → DeclaratorList → Type 0
  ItemsHaveLengths varchars no_declarators = Unit {0}
  ItemsHaveLengths varchars (declarators d ds) =
      ItemHasLengths varchars d × ItemsHaveLengths varchars ds

  pub ItemHasLengths : Bool → DeclaratorData → Type 0
  ItemHasLengths varchars (declarator stars name ds init) =
      EndsInLength varchars ds × DimsHaveLengths ds × InitHasLengths init

  pub DimsHaveLengths : DimList → Type 0
  DimsHaveLengths no_dims = Unit {0}
  DimsHaveLengths (dims d ds) = DimHasLengths d × DimsHaveLengths ds

  pub DimHasLengths : DimData → Type 0
  DimHasLengths open_dim = Unit {0}
  DimHasLengths (dim e) = HaveLengths e

  pub InitHasLengths : InitOption → Type 0
  InitHasLengths no_init = Unit {0}
  InitHasLengths (some_init i) = PartHasLengths i

  pub PartHasLengths : InitData → Type 0
  PartHasLengths (one e) = HaveLengths e
  PartHasLengths (many is) = PartsHaveLengths is

  pub PartsHaveLengths : InitList → Type 0
  PartsHaveLengths no_inits = Unit {0}
  PartsHaveLengths (inits i is) = PartHasLengths i × PartsHaveLengths is
