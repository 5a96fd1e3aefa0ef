-- Declarations and expressions as they are written: each VARCHAR as its struct, members on the line on which they stand, and no section (PostgreSQL manual, 36.4.4).
use Rattle.std.specs.Prelude.{ℕ, ◌++◌, List, [], ◌∷◌, Option, Some, None, false, codes}
use Rattle.ec_base.specs.declared.line.Line.{Line}
use Rattle.ec_ctypes.specs.trees.Exprs.{ExprData, integer, character, string, identifier, unary, binary, assign, bump, call, call_other, index, member, arrow, cast, size_type, size_expr, ExprList, no_exprs, exprs, BaseData, words, varchar, tagged, struct_base, DimData, open_dim, dim, DimList, no_dims, dims, InitData, one, many, InitList, no_inits, inits, InitOption, no_init, some_init, DeclaratorData, declarator, DeclaratorList, no_declarators, declarators, DeclData, decl, DeclList, no_decls, decls}
use Rattle.ec_language.specs.Letters.{Text}

-- ---- parts of trees

abbrev pub at_line : ℕ → Line
at_line n = record { 0 = n }

abbrev pub one_declarator : DeclaratorData → DeclaratorList
one_declarator d = declarators d no_declarators

abbrev pub joined_decls : DeclList → DeclList → DeclList
joined_decls no_decls es = es
joined_decls (decls d ds) es = decls d (joined_decls ds es)

-- ---- VARCHAR

-- the tag of the struct of a VARCHAR of this name
abbrev pub varchar_tag : Text → Text
varchar_tag name = codes "varchar_" ++ name

-- the array lengths of a VARCHAR but for the last, which is the length of its text
abbrev pub outer_dims : DimList → DimList
outer_dims no_dims = no_dims
outer_dims (dims d no_dims) = no_dims
outer_dims (dims d (dims e es)) = dims d (outer_dims (dims e es))

abbrev pub last_dim : DimList → DimList
last_dim no_dims = no_dims
last_dim (dims d no_dims) = dims d no_dims
last_dim (dims d (dims e es)) = last_dim (dims e es)

abbrev pub plain_member : ℕ → Text → Text → DimList → DeclData
plain_member n type name ds =
    decl (words (type ∷ [])) (one_declarator (declarator 0 name ds no_init)) false (at_line n)

-- `int len; char arr[N];`
abbrev pub varchar_members : ℕ → DimList → DeclList
varchar_members n length = decls (plain_member n (codes "int") (codes "len") no_dims)
    (decls (plain_member n (codes "char") (codes "arr") length) no_decls)

-- `struct tag { int len; char arr[N]; }`
abbrev pub varchar_struct : ℕ → Option Text → DimList → BaseData
varchar_struct n tag length = struct_base tag (varchar_members n length)

-- the declaration of a VARCHAR with these array lengths, as a member or not
abbrev pub varchar_decl : ℕ → Option Text → ℕ → Text → DimList → InitOption → DeclData
varchar_decl n tag stars name ds init = decl (varchar_struct n tag (last_dim ds))
    (one_declarator (declarator stars name (outer_dims ds) init)) false (at_line n)

-- ---- what stands on this line

module _ (n : ℕ) where
  abbrev mutual
    pub written_expr : ExprData → ExprData
    written_expr (integer v t) = integer v t
    written_expr (character c) = character c
    written_expr (string s) = string s
    written_expr (identifier x) = identifier x
    written_expr (unary op e) = unary op (written_expr e)
    written_expr (binary op a b) = binary op (written_expr a) (written_expr b)
    written_expr (assign op a b) = assign op (written_expr a) (written_expr b)
    written_expr (bump before up e) = bump before up (written_expr e)
    written_expr (call f es) = call f (written_exprs es)
    written_expr (call_other f es) = call_other (written_expr f) (written_exprs es)
    written_expr (index a b) = index (written_expr a) (written_expr b)
    written_expr (member e m) = member (written_expr e) m
    written_expr (arrow e m) = arrow (written_expr e) m
    written_expr (cast b stars e) = cast (written_base b) stars (written_expr e)
    written_expr (size_type b stars) = size_type (written_base b) stars
    written_expr (size_expr e) = size_expr (written_expr e)

    pub written_exprs : ExprList → ExprList
    written_exprs no_exprs = no_exprs
    written_exprs (exprs e es) = exprs (written_expr e) (written_exprs es)

    pub written_base : BaseData → BaseData
    written_base (words ws) = words ws
    written_base varchar = varchar
    written_base (tagged t) = tagged t
    written_base (struct_base t ds) = struct_base t (written_members ds)

    -- members; each VARCHAR has a declaration of its own, whose struct has no tag
    pub written_members : DeclList → DeclList
    written_members no_decls = no_decls
    written_members (decls d ds) = joined_decls (written_member d) (written_members ds)

    pub written_member : DeclData → DeclList
    written_member (decl varchar ds section line) = varchar_members_of ds
    written_member (decl b ds section line) =
        decls (decl (written_base b) (written_declarators ds) false (at_line n)) no_decls

    pub varchar_members_of : DeclaratorList → DeclList
    varchar_members_of no_declarators = no_decls
    varchar_members_of (declarators d ds) = decls (varchar_member d) (varchar_members_of ds)

    pub varchar_member : DeclaratorData → DeclData
    varchar_member (declarator stars name ds init) =
        varchar_decl n None stars name (written_dims ds) (written_initializer init)

    pub written_dim : DimData → DimData
    written_dim open_dim = open_dim
    written_dim (dim e) = dim (written_expr e)

    pub written_dims : DimList → DimList
    written_dims no_dims = no_dims
    written_dims (dims d ds) = dims (written_dim d) (written_dims ds)

    pub written_init : InitData → InitData
    written_init (one e) = one (written_expr e)
    written_init (many is) = many (written_inits is)

    pub written_inits : InitList → InitList
    written_inits no_inits = no_inits
    written_inits (inits i is) = inits (written_init i) (written_inits is)

    pub written_initializer : InitOption → InitOption
    written_initializer no_init = no_init
    written_initializer (some_init i) = some_init (written_init i)

    pub written_declarator : DeclaratorData → DeclaratorData
    written_declarator (declarator stars name ds init) =
        declarator stars name (written_dims ds) (written_initializer init)

    pub written_declarators : DeclaratorList → DeclaratorList
    written_declarators no_declarators = no_declarators
    written_declarators (declarators d ds) =
        declarators (written_declarator d) (written_declarators ds)

  -- ---- declarations

  abbrev pub varchar_object : DeclaratorData → DeclData
  varchar_object (declarator stars name ds init) =
      varchar_decl n (Some (varchar_tag name)) stars name
      (written_dims ds) (written_initializer init)

  abbrev pub varchar_objects : DeclaratorList → List DeclData
  varchar_objects no_declarators = []
  varchar_objects (declarators d ds) = varchar_object d ∷ varchar_objects ds

  -- A declaration is written as itself, and one of VARCHARs as one for each.
  abbrev pub written_decl : DeclData → List DeclData
  written_decl (decl varchar ds section line) = varchar_objects ds
  written_decl (decl b ds section line) =
      decl (written_base b) (written_declarators ds) false (at_line n) ∷ []

  abbrev pub written_option : Option ExprData → Option ExprData
  written_option None = None
  written_option (Some e) = Some (written_expr e)
