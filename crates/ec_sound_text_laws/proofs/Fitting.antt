-- Where the phase of declare sections finds no fault in written C, its declarations can all have types.
use Rattle.std.proofs.Common.{◌≡◌, ℕ, zero, suc, ◌+◌, Bool, true, false, not, ◌&&◌, ◌||◌, List, [], ◌∷◌, ◌++◌, refl, sym, Option, Some, None, Ok, if◌then◌else◌}
use Rattle.std.proofs.lemmas.Bool.{false≢true}
use Rattle.ec_base.specs.declared.fault.FaultKind.{FaultKind}
use Rattle.ec_base.specs.declared.fault.FaultKind.TheVariants.{F9, F13}
use Rattle.ec_base.specs.declared.line.Line.{Line}
use Rattle.ec_base.specs.declared.stop.Stop.{Stop}
use Rattle.ec_ctypes.specs.trees.Exprs.{ExprData, integer, character, string, identifier, unary, binary, assign, bump, call, call_other, index, member, arrow, cast, size_type, size_expr, ExprList, no_exprs, exprs, BaseData, words, varchar, tagged, struct_base, DimData, open_dim, dim, DimList, no_dims, dims, InitData, one, many, InitList, no_inits, inits, InitOption, no_init, some_init, DeclaratorData, declarator, DeclaratorList, no_declarators, declarators, DeclData, decl, DeclList, no_decls, decls}
use Rattle.ec_ctypes.specs.trees.Stmts.{StmtData, stmt, StmtKindData, empty_stmt, expr_stmt, block_stmt, if_stmt, while_stmt, do_stmt, for_stmt, break_stmt, continue_stmt, return_stmt, goto_stmt, label_stmt, decl_stmt, emb_stmt, mark_stmt, StmtList, no_stmts, stmts, StmtOption, no_stmt, some_stmt}
use Rattle.ec_ctypes.specs.trees.Units.{ParamData, FuncData, TopData, include_top, directive_top, decl_top, func_top, mark_top, UnitData}
use Rattle.ec_language.specs.First.{Violation, comes_before, earlier, first_of, stop_at}
use Rattle.ec_host_defs.specs.sections.Answers.{fault_unless, faults_of, faults_at, depth_behind, section_behind, section_at, violations_at, violations_from, violations, stop_of_unit, answer_by, hosts_answer}
use Rattle.ec_host_defs.specs.sections.Declared.{hosts_of}
use Rattle.ec_host_defs.specs.sections.Lengths.{ends_in_length}
use Rattle.ec_host_defs.specs.sections.Places.{PlaceData, holds, mark, Places, of_expr, of_exprs, of_base, of_decls, of_decl, of_declarators, of_declarator, of_dims, of_dim, of_init_option, of_init, of_inits, of_option, of_stmt, of_stmts, of_stmt_option, of_params, of_body, of_function, of_top, of_tops}
use Rattle.ec_host_defs.specs.sections.Uses.{UsesData, ◌&◌, in_type, in_declared, in_base, in_param_base, in_expr, in_exprs, in_dim, in_dims, in_init, in_inits, in_init_option, in_declarator, in_declarators, in_expr_option, in_param, in_params}
use Rattle.ec_sound_text_laws.specs.Read.{ReadExpr, ReadExprs, ReadBase, ReadMember, ReadMembers, ReadDim, ReadDims, ReadInit, ReadInits, ReadInitializer, ReadDeclarator, ReadDeclarators, ReadDecl, ReadOption, ReadStmt, ReadKind, ReadStmts, ReadOther, ReadParams, ReadBody, ReadTop, ReadTops}
use Rattle.ec_typing_defs.specs.Expressions.{is_varchar}
use Rattle.ec_sim_statement_laws.specs.expression.Lengths.{EndsInLength}
use Rattle.ec_sim_program_laws.specs.types.Flat.{IsFlat, AreFlat, BaseIsFlat, MembersAreFlat, DeclIsFlat, ItemsAreFlat, ItemIsFlat, DimsAreFlat, DimIsFlat, InitIsFlat, PartIsFlat, PartsAreFlat, OptionIsFlat, StmtIsFlat, KindIsFlat, StmtsAreFlat, OtherIsFlat, ParamsAreFlat, BodyIsFlat, TopIsFlat, TopsAreFlat}
use Rattle.ec_sim_program_laws.proofs.types_lemmas.Fits.{Fits, FitAll, FitsBase, HasDeclarators, FitMembers, FitsDecl, FitItems, FitsItem, FitDims, FitsDim, FitsInit, FitsPart, FitParts, FitsOption, FitsStmt, FitsKind, FitStmts, FitsOther, FitParams, FitsBody, FitsTop, FitTops}

-- ---- tests

neither : (x y : Bool) → (x || y) ≡ false → (x ≡ false) × (y ≡ false)
neither true y e = absurd (cc)
neither false y e = (refl, e)

turn_not : (x : Bool) → not x ≡ true → x ≡ false
turn_not true e = absurd (cc)
turn_not false e = refl

both : (x y : Bool) → (x && y) ≡ true → (x ≡ true) × (y ≡ true)
both true y e = (refl, e)
both false y e = absurd (cc)

either_first : (x : Bool) → (x || false) ≡ true → x ≡ true
either_first true e = refl
either_first false e = e

either_second : (x y : Bool) → y ≡ true → (x || y) ≡ true
either_second true y e = refl
either_second false y e = e

-- ---- uses

-- no pointer and no parameter, and none without a length
record Fine (u : UsesData) : Type 0 where
  allowed : u.left_out ≡ false
  lengths : (u.any && u.lacks_length) ≡ false

fine_first : (a b : UsesData) → Fine (a & b) → Fine a
fine_first a b f = record { allowed = (neither a.left_out b.left_out f.allowed).0; lengths = go a.any b.any a.lacks_length b.lacks_length f.lengths }
  where
    go : (x y z w : Bool) → ((x || y) && (z || w)) ≡ false → (x && z) ≡ false
    go true y z w e = (neither z w e).0
    go false y z w e = refl

fine_second : (a b : UsesData) → Fine (a & b) → Fine b
fine_second a b f = record { allowed = (neither a.left_out b.left_out f.allowed).1; lengths = go a.any b.any a.lacks_length b.lacks_length f.lengths }
  where
    go : (x y z w : Bool) → ((x || y) && (z || w)) ≡ false → (y && w) ≡ false
    go x false z w e = refl
    go true true z w e = (neither z w e).1
    go false true z w e = (neither z w e).1

abbrev AllFine : Places → Type 0
AllFine [] = Unit {0}
AllFine (holds last line uses ∷ ps) = Fine uses × AllFine ps
AllFine (mark opens line ∷ ps) = AllFine ps

fine_parts : (ps qs : Places) → AllFine (ps ++ qs) → AllFine ps × AllFine qs
fine_parts [] qs h = (tt, h)
fine_parts (holds last line uses ∷ ps) qs h = let p = fine_parts ps qs h.1 in ((h.0, p.0), p.1)
fine_parts (mark opens line ∷ ps) qs h = fine_parts ps qs h

-- ---- faults

no_fault : (b : Bool) (kind : FaultKind) (rest : List FaultKind) → fault_unless b kind ++ rest ≡ [] → (b ≡ true) × (rest ≡ [])
no_fault true kind rest e = (refl, e)
no_fault false kind rest e = absurd (cc)

uses_fine : (section : Bool) (u : UsesData) → faults_of section u ≡ [] → Fine u
uses_fine section u e =
    let p = no_fault (not u.left_out && (section || not u.any)) F9 (fault_unless (not (section && u.lacks_length)) F13) e in
    let a = both (not u.left_out) (section || not u.any) p.0 in
    record { allowed = turn_not u.left_out a.0; lengths = go section u.any u.lacks_length a.1 (last (not (section && u.lacks_length)) p.1) }
  where
    last : (b : Bool) → fault_unless b F13 ≡ [] → b ≡ true
    last true e = refl
    last false e = absurd (cc)

    go : (s any lacks : Bool) → (s || not any) ≡ true → not (s && lacks) ≡ true → (any && lacks) ≡ false
    go s false lacks a b = refl
    go true true lacks a b = turn_not lacks b
    go false true lacks a b = absurd (false≢true a)

none_at : (n : ℕ) (p : PlaceData) (kinds : List FaultKind) (rest : List Violation) → violations_at n p kinds ++ rest ≡ [] → (kinds ≡ []) × (rest ≡ [])
none_at n p [] rest e = (refl, e)
none_at n p (k ∷ kinds) rest e = absurd (cc)

places_fine : (n depth : ℕ) (section : Bool) (ps : Places) → violations_from n depth section ps ≡ [] → AllFine ps
places_fine n depth section [] e = tt
places_fine n depth section (holds last line uses ∷ ps) e =
    let p = none_at n (holds last line uses) (faults_of (section_at last section) uses) (violations_from (n + 1) depth section ps) e in
    (uses_fine (section_at last section) uses p.0, places_fine (n + 1) depth section ps p.1)
places_fine n depth section (mark opens line ∷ ps) e =
    let p = none_at n (mark opens line) (faults_at depth section (mark opens line) ps) (violations_from (n + 1) (depth_behind depth (mark opens line)) (section_behind section (mark opens line)) ps) e in
    places_fine (n + 1) (depth_behind depth (mark opens line)) (section_behind section (mark opens line)) ps p.1

-- ---- what is no VARCHAR

is_so : (x : Bool) → not x ≡ false → x ≡ true
is_so true e = refl
is_so false e = absurd (cc)

-- a declarator that is a VARCHAR
ends : (b : BaseData) (stars : ℕ) (ds : DimList) → Fine (in_declared b stars ds) → EndsInLength (is_varchar b) ds
ends varchar zero ds f = is_so (ends_in_length ds) f.lengths
ends varchar (suc stars) ds f = absurd (false≢true (sym f.allowed))
ends (words ws) stars ds f = tt
ends (tagged t) stars ds f = tt
ends (struct_base t ms) stars ds f = tt

-- a type name or a result
no_type : (b : BaseData) (stars : ℕ) → Fine (in_type b stars) → is_varchar b ≡ false
no_type varchar zero f = absurd (false≢true (sym f.lengths))
no_type varchar (suc stars) f = absurd (false≢true (sym f.allowed))
no_type (words ws) stars f = refl
no_type (tagged t) stars f = refl
no_type (struct_base t ms) stars f = refl

no_param : (b : BaseData) → Fine (in_param_base b) → is_varchar b ≡ false
no_param varchar f = absurd (false≢true (sym f.allowed))
no_param (words ws) f = refl
no_param (tagged t) f = refl
no_param (struct_base t ms) f = refl

-- ---- expressions and declarations

has_declarators : (d : DeclData) → ReadMember d → HasDeclarators d
has_declarators (decl b no_declarators section line) e = absurd e
has_declarators (decl b (declarators d ds) section line) e = tt

mutual
  expr_fits : (e : ExprData) → Fine (in_expr e) → AllFine (of_expr e) → IsFlat e → ReadExpr e → Fits e
  expr_fits (integer v t) f h l s = tt
  expr_fits (character c) f h l s = tt
  expr_fits (string w) f h l s = tt
  expr_fits (identifier x) f h l s = tt
  expr_fits (unary op a) f h l s = expr_fits a f h l s
  expr_fits (binary op a b) f h l s =
      let p = fine_parts (of_expr a) (of_expr b) h in
      let q = s in
      (expr_fits a (fine_first (in_expr a) (in_expr b) f) p.0 l.0 q.0, expr_fits b (fine_second (in_expr a) (in_expr b) f) p.1 l.1 q.1)
  expr_fits (assign None a b) f h l s =
      let p = fine_parts (of_expr a) (of_expr b) h in
      (expr_fits a (fine_first (in_expr a) (in_expr b) f) p.0 l.0 s.0, expr_fits b (fine_second (in_expr a) (in_expr b) f) p.1 l.1 s.1)
  expr_fits (assign (Some op) a b) f h l s =
      let p = fine_parts (of_expr a) (of_expr b) h in
      (expr_fits a (fine_first (in_expr a) (in_expr b) f) p.0 l.0 s.1, expr_fits b (fine_second (in_expr a) (in_expr b) f) p.1 l.1 s.2)
  expr_fits (bump before up a) f h l s = expr_fits a f h l s
  expr_fits (call g es) f h l s = all_fit es f h l s
  expr_fits (call_other a es) f h l s =
      let p = fine_parts (of_expr a) (of_exprs es) h in
      let q = s in
      (expr_fits a (fine_first (in_expr a) (in_exprs es) f) p.0 l.0 q.0, all_fit es (fine_second (in_expr a) (in_exprs es) f) p.1 l.1 q.1)
  expr_fits (index a b) f h l s =
      let p = fine_parts (of_expr a) (of_expr b) h in
      let q = s in
      (expr_fits a (fine_first (in_expr a) (in_expr b) f) p.0 l.0 q.0, expr_fits b (fine_second (in_expr a) (in_expr b) f) p.1 l.1 q.1)
  expr_fits (member a m) f h l s = expr_fits a f h l s
  expr_fits (arrow a m) f h l s = expr_fits a f h l s
  expr_fits (cast b stars a) f h l s =
      let p = fine_parts (of_base b) (of_expr a) h in
      let q = s in
      (no_type b stars (fine_first (in_type b stars) (in_expr a) f), base_fits b p.0 l.0 q.0, expr_fits a (fine_second (in_type b stars) (in_expr a) f) p.1 l.1 q.1)
  expr_fits (size_type b stars) f h l s = (no_type b stars f, base_fits b h l s)
  expr_fits (size_expr a) f h l s = expr_fits a f h l s

  all_fit : (es : ExprList) → Fine (in_exprs es) → AllFine (of_exprs es) → AreFlat es → ReadExprs es → FitAll es
  all_fit no_exprs f h l s = tt
  all_fit (exprs e es) f h l s =
      let p = fine_parts (of_expr e) (of_exprs es) h in
      let q = s in
      (expr_fits e (fine_first (in_expr e) (in_exprs es) f) p.0 l.0 q.0, all_fit es (fine_second (in_expr e) (in_exprs es) f) p.1 l.1 q.1)

  base_fits : (b : BaseData) → AllFine (of_base b) → BaseIsFlat b → ReadBase b → FitsBase b
  base_fits varchar h l s = tt
  base_fits (words ws) h l s = tt
  base_fits (tagged t) h l s = tt
  base_fits (struct_base t no_decls) h l s = absurd s
  base_fits (struct_base t (decls d ds)) h l s = (tt, members_fit (decls d ds) h l s)

  members_fit : (ds : DeclList) → AllFine (of_decls ds) → MembersAreFlat ds → ReadMembers ds → FitMembers ds
  members_fit no_decls h l s = tt
  members_fit (decls d ds) h l s =
      let p = fine_parts (of_decl d) (of_decls ds) h in
      let q = s in
      (has_declarators d q.0, member_fits d p.0 l.0 q.0, members_fit ds p.1 l.1 q.1)

  member_fits : (d : DeclData) → AllFine (of_decl d) → DeclIsFlat d → ReadMember d → FitsDecl d
  member_fits (decl b no_declarators section line) h l s = absurd s
  member_fits (decl b (declarators d ds) section line) h l s =
      let p = fine_parts (of_base b) (of_declarators (declarators d ds)) h.1 in
      (base_fits b p.0 l.0 s.0, items_fit b (declarators d ds) (fine_second (in_base b) (in_declarators b (declarators d ds)) h.0) p.1 l.1 (s.1, s.2))

  items_fit : (b : BaseData) (ds : DeclaratorList) → Fine (in_declarators b ds) → AllFine (of_declarators ds) → ItemsAreFlat ds → ReadDeclarators ds → FitItems (is_varchar b) ds
  items_fit b no_declarators f h l s = tt
  items_fit b (declarators d ds) f h l s =
      let p = fine_parts (of_declarator d) (of_declarators ds) h in
      let q = s in
      (item_fits b d (fine_first (in_declarator b d) (in_declarators b ds) f) p.0 l.0 q.0, items_fit b ds (fine_second (in_declarator b d) (in_declarators b ds) f) p.1 l.1 q.1)

  item_fits : (b : BaseData) (d : DeclaratorData) → Fine (in_declarator b d) → AllFine (of_declarator d) → ItemIsFlat d → ReadDeclarator d → FitsItem (is_varchar b) d
  item_fits b (declarator stars name ds i) f h l s =
      let p = fine_parts (of_dims ds) (of_init_option i) h in
      let g = fine_second (in_declared b stars ds) (in_dims ds & in_init_option i) f in
      let q = s in (
        ends b stars ds (fine_first (in_declared b stars ds) (in_dims ds & in_init_option i) f),
        l.0,
        dims_fit ds (fine_first (in_dims ds) (in_init_option i) g) p.0 l.1 q.0,
        initializer_fits i (fine_second (in_dims ds) (in_init_option i) g) p.1 l.2 q.1,
      )

  dims_fit : (ds : DimList) → Fine (in_dims ds) → AllFine (of_dims ds) → DimsAreFlat ds → ReadDims ds → FitDims ds
  dims_fit no_dims f h l s = tt
  dims_fit (dims d ds) f h l s =
      let p = fine_parts (of_dim d) (of_dims ds) h in
      let q = s in
      (dim_fits d (fine_first (in_dim d) (in_dims ds) f) p.0 l.0 q.0, dims_fit ds (fine_second (in_dim d) (in_dims ds) f) p.1 l.1 q.1)

  dim_fits : (d : DimData) → Fine (in_dim d) → AllFine (of_dim d) → DimIsFlat d → ReadDim d → FitsDim d
  dim_fits open_dim f h l s = tt
  dim_fits (dim e) f h l s = expr_fits e f h l s

  initializer_fits : (i : InitOption) → Fine (in_init_option i) → AllFine (of_init_option i) → InitIsFlat i → ReadInitializer i → FitsInit i
  initializer_fits no_init f h l s = tt
  initializer_fits (some_init i) f h l s = part_fits i f h l s

  part_fits : (i : InitData) → Fine (in_init i) → AllFine (of_init i) → PartIsFlat i → ReadInit i → FitsPart i
  part_fits (one e) f h l s = expr_fits e f h l s
  part_fits (many no_inits) f h l s = tt
  part_fits (many (inits i is)) f h l s = parts_fit (inits i is) f h l s

  parts_fit : (is : InitList) → Fine (in_inits is) → AllFine (of_inits is) → PartsAreFlat is → ReadInits is → FitParts is
  parts_fit no_inits f h l s = tt
  parts_fit (inits i is) f h l s =
      let p = fine_parts (of_init i) (of_inits is) h in
      let q = s in
      (part_fits i (fine_first (in_init i) (in_inits is) f) p.0 l.0 q.0, parts_fit is (fine_second (in_init i) (in_inits is) f) p.1 l.1 q.1)

-- ---- statements

option_fits : (e : Option ExprData) → Fine (in_expr_option e) → AllFine (of_option e) → OptionIsFlat e → ReadOption e → FitsOption e
option_fits None f h l s = tt
option_fits (Some e) f h l s = expr_fits e f h l s

declaration_fits : (d : DeclData) → AllFine (of_decl d) → DeclIsFlat d → ReadDecl d → FitsDecl d
declaration_fits (decl b ds section line) h l s =
    let p = fine_parts (of_base b) (of_declarators ds) h.1 in
    let q = s in
    (base_fits b p.0 l.0 q.0, items_fit b ds (fine_second (in_base b) (in_declarators b ds) h.0) p.1 l.1 q.1)

mutual
  stmt_fits : (s : StmtData) → AllFine (of_stmt s) → StmtIsFlat s → ReadStmt s → FitsStmt s
  stmt_fits (stmt line kind) h l s = kind_fits line kind h l s

  kind_fits : (line : Line) (kind : StmtKindData) → AllFine (of_stmt (stmt line kind)) → KindIsFlat kind → ReadKind kind → FitsKind kind
  kind_fits line empty_stmt h l s = tt
  kind_fits line (expr_stmt e) h l s = expr_fits e h.0 h.1 l s
  kind_fits line (block_stmt ss) h l s = stmts_fit ss h.1 l s
  kind_fits line (if_stmt e a other) h l s =
      let p = fine_parts (of_expr e) (of_stmt a ++ of_stmt_option other) h.1 in
      let q = fine_parts (of_stmt a) (of_stmt_option other) p.1 in
      (expr_fits e h.0 p.0 l.0 s.0, stmt_fits a q.0 l.1 s.1, other_fits other q.1 l.2 s.2)
  kind_fits line (while_stmt e a) h l s =
      let p = fine_parts (of_expr e) (of_stmt a) h.1 in
      let r = s in
      (expr_fits e h.0 p.0 l.0 r.0, stmt_fits a p.1 l.1 r.1)
  kind_fits line (do_stmt a e) h l s =
      let p = fine_parts (of_stmt a) (of_expr e) h.1 in
      let r = s in
      (stmt_fits a p.0 l.0 r.0, expr_fits e h.0 p.1 l.1 r.1)
  kind_fits line (for_stmt x y z a) h l s =
      let p = fine_parts (of_option x) (of_option y ++ (of_option z ++ of_stmt a)) h.1 in
      let q = fine_parts (of_option y) (of_option z ++ of_stmt a) p.1 in
      let r = fine_parts (of_option z) (of_stmt a) q.1 in
      let f = fine_second (in_expr_option x) (in_expr_option y & in_expr_option z) h.0 in (
        option_fits x (fine_first (in_expr_option x) (in_expr_option y & in_expr_option z) h.0) p.0 l.0 s.0,
        option_fits y (fine_first (in_expr_option y) (in_expr_option z) f) q.0 l.1 s.1,
        option_fits z (fine_second (in_expr_option y) (in_expr_option z) f) r.0 l.2 s.2,
        stmt_fits a r.1 l.3 s.3,
      )
  kind_fits line break_stmt h l s = tt
  kind_fits line continue_stmt h l s = tt
  kind_fits line (return_stmt e) h l s = option_fits e h.0 h.1 l s
  kind_fits line (goto_stmt x) h l s = tt
  kind_fits line (label_stmt x a) h l s = stmt_fits a h.1 l s
  kind_fits line (decl_stmt d) h l s = declaration_fits d h l s
  kind_fits line (emb_stmt n) h l s = absurd s
  kind_fits line (mark_stmt opens) h l s = absurd s

  stmts_fit : (ss : StmtList) → AllFine (of_stmts ss) → StmtsAreFlat ss → ReadStmts ss → FitStmts ss
  stmts_fit no_stmts h l s = tt
  stmts_fit (stmts a ss) h l s =
      let p = fine_parts (of_stmt a) (of_stmts ss) h in
      let q = s in
      (stmt_fits a p.0 l.0 q.0, stmts_fit ss p.1 l.1 q.1)

  other_fits : (o : StmtOption) → AllFine (of_stmt_option o) → OtherIsFlat o → ReadOther o → FitsOther o
  other_fits no_stmt h l s = tt
  other_fits (some_stmt a) h l s = stmt_fits a h l s

-- ---- programs

params_fit : (qs : List ParamData) → Fine (in_params qs) → AllFine (of_params qs) → ParamsAreFlat qs → ReadParams qs → FitParams qs
params_fit [] f h l s = tt
params_fit (q ∷ qs) f h l s =
    let p = fine_parts (of_base q.base ++ of_dims q.dims) (of_params qs) h in
    let r = fine_parts (of_base q.base) (of_dims q.dims) p.0 in
    let g = fine_first (in_param q) (in_params qs) f in (
      (no_param q.base (fine_first (in_param_base q.base) (in_dims q.dims) g), base_fits q.base r.0 l.0 s.0.0, dims_fit q.dims (fine_second (in_param_base q.base) (in_dims q.dims) g) r.1 l.2 s.0.1),
      params_fit qs (fine_second (in_param q) (in_params qs) f) p.1 l.3 s.1,
    )

body_fits : (b : Option StmtList) → AllFine (of_body b) → BodyIsFlat b → ReadBody b → FitsBody b
body_fits None h l s = tt
body_fits (Some ss) h l s = stmts_fit ss h l s

func_fits : (f : FuncData) → AllFine (of_function f) → TopIsFlat (func_top f) → ReadTop (func_top f) → FitsTop (func_top f)
func_fits f h l s =
    let p = fine_parts (of_base f.base) (of_params f.params ++ of_body f.body) h.1 in
    let q = fine_parts (of_params f.params) (of_body f.body) p.1 in (
      no_type f.base f.stars (fine_first (in_type f.base f.stars) (in_params f.params) h.0),
      base_fits f.base p.0 l.0 s.0,
      params_fit f.params (fine_second (in_type f.base f.stars) (in_params f.params) h.0) q.0 l.1 s.1,
      body_fits f.body q.1 l.2 s.2,
    )

top_fits : (t : TopData) → AllFine (of_top t) → TopIsFlat t → ReadTop t → FitsTop t
top_fits (include_top bytes) h l s = tt
top_fits (directive_top n) h l s = absurd s
top_fits (decl_top d) h l s = declaration_fits d h l s
top_fits (func_top f) h l s = func_fits f h l s
top_fits (mark_top opens line) h l s = absurd s

tops_fit : (ts : List TopData) → AllFine (of_tops ts) → TopsAreFlat ts → ReadTops ts → FitTops ts
tops_fit [] h l s = tt
tops_fit (t ∷ ts) h l s =
    let p = fine_parts (of_top t) (of_tops ts) h in
    let q = s in
    (top_fits t p.0 l.0 q.0, tops_fit ts p.1 l.1 q.1)

-- ---- the answer

some_earlier : (v : Violation) (x : Option Violation) → stop_at (earlier v x) ≡ None → ⊥
some_earlier v None e = cc
some_earlier v (Some w) e = go (comes_before w v) e
  where
    go : (b : Bool) → stop_at (if b then Some w else Some v) ≡ None → ⊥
    go true e = cc
    go false e = cc

none_first : (vs : List Violation) → stop_at (first_of vs) ≡ None → vs ≡ []
none_first [] e = refl
none_first (v ∷ vs) e = absurd (some_earlier v (first_of vs) e)

pub unit_fits : (u : UnitData) (hosts : List ℕ) → hosts_answer u ≡ Ok hosts → ReadTops u.tops → TopsAreFlat u.tops → FitTops u.tops
unit_fits u hosts e s l = tops_fit u.tops (places_fine 0 0 false (of_tops u.tops) (none_first (violations u) (go (stop_of_unit u) e))) l s
  where
    go : (x : Option Stop) → answer_by (hosts_of u) x ≡ Ok hosts → x ≡ None
    go None e = refl
    go (Some stop) e = absurd (cc)
