-- Where no place has a fault, VARCHAR is the type of what a declaration declares alone.
use Rattle.std.proofs.Common.{◌≡◌, ℕ, zero, suc, ◌+◌, Bool, true, false, not, ◌&&◌, ◌||◌, List, [], ◌∷◌, ◌++◌, refl, sym, Option, Some, None, Ok, if◌then◌else◌}
use Rattle.std.proofs.lemmas.Bool.{false≢true}
use Rattle.ec_base.specs.declared.fault.FaultKind.{FaultKind}
use Rattle.ec_base.specs.declared.fault.FaultKind.TheVariants.{F9, F13}
use Rattle.ec_base.specs.declared.stop.Stop.{Stop}
use Rattle.ec_ctypes.specs.trees.Exprs.{ExprData, integer, character, string, identifier, unary, binary, assign, bump, call, call_other, index, member, arrow, cast, size_type, size_expr, ExprList, no_exprs, exprs, BaseData, words, varchar, tagged, struct_base, DimData, open_dim, dim, DimList, no_dims, dims, InitData, one, many, InitList, no_inits, inits, InitOption, no_init, some_init, DeclaratorData, declarator, DeclaratorList, no_declarators, declarators, DeclData, decl, DeclList, no_decls, decls}
use Rattle.ec_ctypes.specs.trees.Stmts.{StmtData, stmt, empty_stmt, expr_stmt, block_stmt, if_stmt, while_stmt, do_stmt, for_stmt, break_stmt, continue_stmt, return_stmt, goto_stmt, label_stmt, decl_stmt, emb_stmt, mark_stmt, StmtList, no_stmts, stmts, StmtOption, no_stmt, some_stmt}
use Rattle.ec_ctypes.specs.trees.Units.{ParamData, FuncData, TopData, include_top, directive_top, decl_top, func_top, mark_top, UnitData}
use Rattle.ec_language.specs.First.{Violation, comes_before, earlier, first_of, stop_at}
use Rattle.ec_language.specs.Letters.{Text}
use Rattle.ec_language.proofs.Classes.{neither, turn_not}
use Rattle.ec_language.proofs.Ends.{both}
use Rattle.ec_host_defs.specs.sections.Answers.{fault_unless, faults_of, faults_at, depth_behind, section_behind, section_at, violations_at, violations_from, violations, stop_of_unit, answer_by, hosts_answer}
use Rattle.ec_host_defs.specs.sections.Declared.{hosts_of}
use Rattle.ec_host_defs.specs.sections.Places.{PlaceData, holds, mark, Places, of_expr, of_exprs, of_base, of_decls, of_decl, of_declarators, of_declarator, of_dims, of_dim, of_init_option, of_init, of_inits, of_option, of_stmt, of_stmts, of_stmt_option, of_params, of_body, of_function, of_top, of_tops}
use Rattle.ec_host_defs.specs.sections.Uses.{UsesData, ◌&◌, in_type, in_declared, in_base, in_param_base, in_expr, in_exprs, in_dim, in_dims, in_init, in_inits, in_init_option, in_declarator, in_declarators, in_expr_option, in_param, in_params}
use Rattle.ec_written_laws.specs.source.Kept.{keeps_tag, keeps_expr, keeps_exprs, keeps_type, keeps_base, keeps_members, keeps_decl, keeps_dim, keeps_dims, keeps_init, keeps_inits, keeps_initializer, keeps_declarator, keeps_declarators, keeps_option, keeps_stmt, keeps_stmts, keeps_else, keeps_params, keeps_body, keeps_func, keeps_top, keeps_tops, is_kept}
use Rattle.ec_written_laws.specs.kept.Phases.{by_sections}

join : {x y : Bool} → x ≡ true → y ≡ true → (x && y) ≡ true
join p q = λ i. p i && q i

-- ---- uses

-- no pointer and no parameter, and none without a length
record Fine (u : UsesData) : Type 0 where
  allowed : u.left_out ≡ false
  lengths : (u.any && u.lacks_length) ≡ false

-- parts of what is found together
fine_first : (a b : UsesData) → Fine (a & b) → Fine a
fine_first a b f = record { allowed = (neither a.left_out b.left_out f.allowed).0; lengths = go a.any b.any a.lacks_length b.lacks_length f.lengths }
  where
    go : (x y z w : Bool) → ((x || y) && (z || w)) ≡ false → (x && z) ≡ false
    go true y z w e = (neither z w e).0
    go false y z w e = refl

fine_second : (a b : UsesData) → Fine (a & b) → Fine b
fine_second a b f = record { allowed = (neither a.left_out b.left_out f.allowed).1; lengths = go a.any b.any a.lacks_length b.lacks_length f.lengths }
  where
    go : (x y z w : Bool) → ((x || y) && (z || w)) ≡ false → (y && w) ≡ false
    go x false z w e = refl
    go true true z w e = (neither z w e).1
    go false true z w e = (neither z w e).1

abbrev AllFine : Places → Type 0
AllFine [] = Unit {0}
AllFine (holds last line uses ∷ ps) = Fine uses × AllFine ps
AllFine (mark opens line ∷ ps) = AllFine ps

fine_parts : (ps qs : Places) → AllFine (ps ++ qs) → AllFine ps × AllFine qs
fine_parts [] qs h = (tt, h)
fine_parts (holds last line uses ∷ ps) qs h = let p = fine_parts ps qs h.1 in ((h.0, p.0), p.1)
fine_parts (mark opens line ∷ ps) qs h = fine_parts ps qs h

-- ---- faults

no_fault : (b : Bool) (kind : FaultKind) (rest : List FaultKind) → fault_unless b kind ++ rest ≡ [] → (b ≡ true) × (rest ≡ [])
no_fault true kind rest e = (refl, e)
no_fault false kind rest e = absurd (cc)

uses_fine : (section : Bool) (u : UsesData) → faults_of section u ≡ [] → Fine u
uses_fine section u e =
    let p = no_fault (not u.left_out && (section || not u.any)) F9 (fault_unless (not (section && u.lacks_length)) F13) e in
    let a = both (not u.left_out) (section || not u.any) p.0 in
    record { allowed = turn_not u.left_out a.0; lengths = go section u.any u.lacks_length a.1 (last (not (section && u.lacks_length)) p.1) }
  where
    last : (b : Bool) → fault_unless b F13 ≡ [] → b ≡ true
    last true e = refl
    last false e = absurd (cc)

    go : (s any lacks : Bool) → (s || not any) ≡ true → not (s && lacks) ≡ true → (any && lacks) ≡ false
    go s false lacks a b = refl
    go true true lacks a b = turn_not lacks b
    go false true lacks a b = absurd (false≢true a)

none_at : (n : ℕ) (p : PlaceData) (kinds : List FaultKind) (rest : List Violation) → violations_at n p kinds ++ rest ≡ [] → (kinds ≡ []) × (rest ≡ [])
none_at n p [] rest e = (refl, e)
none_at n p (k ∷ kinds) rest e = absurd (cc)

places_fine : (n depth : ℕ) (section : Bool) (ps : Places) → violations_from n depth section ps ≡ [] → AllFine ps
places_fine n depth section [] e = tt
places_fine n depth section (holds last line uses ∷ ps) e =
    let p = none_at n (holds last line uses) (faults_of (section_at last section) uses) (violations_from (n + 1) depth section ps) e in
    (uses_fine (section_at last section) uses p.0, places_fine (n + 1) depth section ps p.1)
places_fine n depth section (mark opens line ∷ ps) e =
    let p = none_at n (mark opens line) (faults_at depth section (mark opens line) ps) (violations_from (n + 1) (depth_behind depth (mark opens line)) (section_behind section (mark opens line)) ps) e in
    places_fine (n + 1) (depth_behind depth (mark opens line)) (section_behind section (mark opens line)) ps p.1

-- ---- expressions and declarations

tag_kept : (t : Option Text) → keeps_tag by_sections t ≡ true
tag_kept None = refl
tag_kept (Some t) = refl

mutual
  expr_kept : (e : ExprData) → Fine (in_expr e) → AllFine (of_expr e) → keeps_expr by_sections e ≡ true
  expr_kept (integer v t) f h = refl
  expr_kept (character c) f h = refl
  expr_kept (string s) f h = refl
  expr_kept (identifier x) f h = refl
  expr_kept (unary op a) f h = expr_kept a f h
  expr_kept (binary op a b) f h = let p = fine_parts (of_expr a) (of_expr b) h in join (expr_kept a (fine_first (in_expr a) (in_expr b) f) p.0) (expr_kept b (fine_second (in_expr a) (in_expr b) f) p.1)
  expr_kept (assign op a b) f h = let p = fine_parts (of_expr a) (of_expr b) h in join (expr_kept a (fine_first (in_expr a) (in_expr b) f) p.0) (expr_kept b (fine_second (in_expr a) (in_expr b) f) p.1)
  expr_kept (bump before up a) f h = expr_kept a f h
  expr_kept (call g es) f h = exprs_kept es f h
  expr_kept (call_other a es) f h = let p = fine_parts (of_expr a) (of_exprs es) h in join (expr_kept a (fine_first (in_expr a) (in_exprs es) f) p.0) (exprs_kept es (fine_second (in_expr a) (in_exprs es) f) p.1)
  expr_kept (index a b) f h = let p = fine_parts (of_expr a) (of_expr b) h in join (expr_kept a (fine_first (in_expr a) (in_expr b) f) p.0) (expr_kept b (fine_second (in_expr a) (in_expr b) f) p.1)
  expr_kept (member a m) f h = expr_kept a f h
  expr_kept (arrow a m) f h = expr_kept a f h
  expr_kept (cast b stars a) f h = let p = fine_parts (of_base b) (of_expr a) h in join (type_kept b stars (fine_first (in_type b stars) (in_expr a) f) p.0) (expr_kept a (fine_second (in_type b stars) (in_expr a) f) p.1)
  expr_kept (size_type b stars) f h = type_kept b stars f h
  expr_kept (size_expr a) f h = expr_kept a f h

  exprs_kept : (es : ExprList) → Fine (in_exprs es) → AllFine (of_exprs es) → keeps_exprs by_sections es ≡ true
  exprs_kept no_exprs f h = refl
  exprs_kept (exprs e es) f h = let p = fine_parts (of_expr e) (of_exprs es) h in join (expr_kept e (fine_first (in_expr e) (in_exprs es) f) p.0) (exprs_kept es (fine_second (in_expr e) (in_exprs es) f) p.1)

  type_kept : (b : BaseData) (stars : ℕ) → Fine (in_type b stars) → AllFine (of_base b) → keeps_type by_sections b ≡ true
  type_kept varchar zero f h = absurd (false≢true (sym f.lengths))
  type_kept varchar (suc stars) f h = absurd (false≢true (sym f.allowed))
  type_kept (words ws) stars f h = refl
  type_kept (tagged t) stars f h = refl
  type_kept (struct_base t ds) stars f h = join (tag_kept t) (decls_kept ds h)

  base_kept : (b : BaseData) → AllFine (of_base b) → keeps_base by_sections b ≡ true
  base_kept varchar h = refl
  base_kept (words ws) h = refl
  base_kept (tagged t) h = refl
  base_kept (struct_base t ds) h = join (tag_kept t) (decls_kept ds h)

  decls_kept : (ds : DeclList) → AllFine (of_decls ds) → keeps_members by_sections ds ≡ true
  decls_kept no_decls h = refl
  decls_kept (decls d ds) h = let p = fine_parts (of_decl d) (of_decls ds) h in join (decl_kept d p.0) (decls_kept ds p.1)

  decl_kept : (d : DeclData) → AllFine (of_decl d) → keeps_decl by_sections d ≡ true
  decl_kept (decl b ds section line) h =
      let p = fine_parts (of_base b) (of_declarators ds) h.1 in
      join (base_kept b p.0) (declarators_kept b ds (fine_second (in_base b) (in_declarators b ds) h.0) p.1)

  declarators_kept : (b : BaseData) (ds : DeclaratorList) → Fine (in_declarators b ds) → AllFine (of_declarators ds) → keeps_declarators by_sections ds ≡ true
  declarators_kept b no_declarators f h = refl
  declarators_kept b (declarators d ds) f h =
      let p = fine_parts (of_declarator d) (of_declarators ds) h in
      join (declarator_kept b d (fine_first (in_declarator b d) (in_declarators b ds) f) p.0) (declarators_kept b ds (fine_second (in_declarator b d) (in_declarators b ds) f) p.1)

  declarator_kept : (b : BaseData) (d : DeclaratorData) → Fine (in_declarator b d) → AllFine (of_declarator d) → keeps_declarator by_sections d ≡ true
  declarator_kept b (declarator stars name ds i) f h =
      let p = fine_parts (of_dims ds) (of_init_option i) h in
      let g = fine_second (in_declared b stars ds) (in_dims ds & in_init_option i) f in
      join (dims_kept ds (fine_first (in_dims ds) (in_init_option i) g) p.0) (initializer_kept i (fine_second (in_dims ds) (in_init_option i) g) p.1)

  dims_kept : (ds : DimList) → Fine (in_dims ds) → AllFine (of_dims ds) → keeps_dims by_sections ds ≡ true
  dims_kept no_dims f h = refl
  dims_kept (dims d ds) f h = let p = fine_parts (of_dim d) (of_dims ds) h in join (dim_kept d (fine_first (in_dim d) (in_dims ds) f) p.0) (dims_kept ds (fine_second (in_dim d) (in_dims ds) f) p.1)

  dim_kept : (d : DimData) → Fine (in_dim d) → AllFine (of_dim d) → keeps_dim by_sections d ≡ true
  dim_kept open_dim f h = refl
  dim_kept (dim e) f h = expr_kept e f h

  initializer_kept : (i : InitOption) → Fine (in_init_option i) → AllFine (of_init_option i) → keeps_initializer by_sections i ≡ true
  initializer_kept no_init f h = refl
  initializer_kept (some_init i) f h = init_kept i f h

  init_kept : (i : InitData) → Fine (in_init i) → AllFine (of_init i) → keeps_init by_sections i ≡ true
  init_kept (one e) f h = expr_kept e f h
  init_kept (many is) f h = inits_kept is f h

  inits_kept : (is : InitList) → Fine (in_inits is) → AllFine (of_inits is) → keeps_inits by_sections is ≡ true
  inits_kept no_inits f h = refl
  inits_kept (inits i is) f h = let p = fine_parts (of_init i) (of_inits is) h in join (init_kept i (fine_first (in_init i) (in_inits is) f) p.0) (inits_kept is (fine_second (in_init i) (in_inits is) f) p.1)

-- ---- statements

option_kept : (e : Option ExprData) → Fine (in_expr_option e) → AllFine (of_option e) → keeps_option by_sections e ≡ true
option_kept None f h = refl
option_kept (Some e) f h = expr_kept e f h

mutual
  stmt_kept : (s : StmtData) → AllFine (of_stmt s) → keeps_stmt by_sections s ≡ true
  stmt_kept (stmt line empty_stmt) h = refl
  stmt_kept (stmt line (expr_stmt e)) h = expr_kept e h.0 h.1
  stmt_kept (stmt line (block_stmt ss)) h = stmts_kept ss h.1
  stmt_kept (stmt line (if_stmt e s other)) h =
      let p = fine_parts (of_expr e) (of_stmt s ++ of_stmt_option other) h.1 in
      let q = fine_parts (of_stmt s) (of_stmt_option other) p.1 in
      join (expr_kept e h.0 p.0) (join (stmt_kept s q.0) (else_kept other q.1))
  stmt_kept (stmt line (while_stmt e s)) h = let p = fine_parts (of_expr e) (of_stmt s) h.1 in join (expr_kept e h.0 p.0) (stmt_kept s p.1)
  stmt_kept (stmt line (do_stmt s e)) h = let p = fine_parts (of_stmt s) (of_expr e) h.1 in join (stmt_kept s p.0) (expr_kept e h.0 p.1)
  stmt_kept (stmt line (for_stmt x y z s)) h =
      let p = fine_parts (of_option x) (of_option y ++ (of_option z ++ of_stmt s)) h.1 in
      let q = fine_parts (of_option y) (of_option z ++ of_stmt s) p.1 in
      let r = fine_parts (of_option z) (of_stmt s) q.1 in
      let f = fine_second (in_expr_option x) (in_expr_option y & in_expr_option z) h.0 in
      join (join (option_kept x (fine_first (in_expr_option x) (in_expr_option y & in_expr_option z) h.0) p.0) (join (option_kept y (fine_first (in_expr_option y) (in_expr_option z) f) q.0) (option_kept z (fine_second (in_expr_option y) (in_expr_option z) f) r.0))) (stmt_kept s r.1)
  stmt_kept (stmt line break_stmt) h = refl
  stmt_kept (stmt line continue_stmt) h = refl
  stmt_kept (stmt line (return_stmt e)) h = option_kept e h.0 h.1
  stmt_kept (stmt line (goto_stmt l)) h = refl
  stmt_kept (stmt line (label_stmt l s)) h = stmt_kept s h.1
  stmt_kept (stmt line (decl_stmt d)) h = decl_kept d h
  stmt_kept (stmt line (emb_stmt n)) h = refl
  stmt_kept (stmt line (mark_stmt opens)) h = refl

  stmts_kept : (ss : StmtList) → AllFine (of_stmts ss) → keeps_stmts by_sections ss ≡ true
  stmts_kept no_stmts h = refl
  stmts_kept (stmts s ss) h = let p = fine_parts (of_stmt s) (of_stmts ss) h in join (stmt_kept s p.0) (stmts_kept ss p.1)

  else_kept : (o : StmtOption) → AllFine (of_stmt_option o) → keeps_else by_sections o ≡ true
  else_kept no_stmt h = refl
  else_kept (some_stmt s) h = stmt_kept s h

-- ---- programs

param_type : (b : BaseData) → Fine (in_param_base b) → AllFine (of_base b) → keeps_type by_sections b ≡ true
param_type varchar f h = absurd (false≢true (sym f.allowed))
param_type (words ws) f h = refl
param_type (tagged t) f h = refl
param_type (struct_base t ds) f h = join (tag_kept t) (decls_kept ds h)

params_kept : (qs : List ParamData) → Fine (in_params qs) → AllFine (of_params qs) → keeps_params by_sections qs ≡ true
params_kept [] f h = refl
params_kept (q ∷ qs) f h =
    let p = fine_parts (of_base q.base ++ of_dims q.dims) (of_params qs) h in
    let r = fine_parts (of_base q.base) (of_dims q.dims) p.0 in
    let g = fine_first (in_param q) (in_params qs) f in
    join (join (param_type q.base (fine_first (in_param_base q.base) (in_dims q.dims) g) r.0) (dims_kept q.dims (fine_second (in_param_base q.base) (in_dims q.dims) g) r.1)) (params_kept qs (fine_second (in_param q) (in_params qs) f) p.1)

body_kept : (b : Option StmtList) → AllFine (of_body b) → keeps_body by_sections b ≡ true
body_kept None h = refl
body_kept (Some ss) h = stmts_kept ss h

func_kept : (f : FuncData) → AllFine (of_function f) → keeps_func by_sections f ≡ true
func_kept f h =
    let p = fine_parts (of_base f.base) (of_params f.params ++ of_body f.body) h.1 in
    let q = fine_parts (of_params f.params) (of_body f.body) p.1 in
    join (type_kept f.base f.stars (fine_first (in_type f.base f.stars) (in_params f.params) h.0) p.0) (join (params_kept f.params (fine_second (in_type f.base f.stars) (in_params f.params) h.0) q.0) (body_kept f.body q.1))

top_kept : (t : TopData) → AllFine (of_top t) → keeps_top by_sections t ≡ true
top_kept (include_top bytes) h = refl
top_kept (directive_top n) h = refl
top_kept (decl_top d) h = decl_kept d h
top_kept (func_top f) h = func_kept f h
top_kept (mark_top opens line) h = refl

tops_kept : (ts : List TopData) → AllFine (of_tops ts) → keeps_tops by_sections ts ≡ true
tops_kept [] h = refl
tops_kept (t ∷ ts) h = let p = fine_parts (of_top t) (of_tops ts) h in join (top_kept t p.0) (tops_kept ts p.1)

-- ---- the answer

some_earlier : (v : Violation) (x : Option Violation) → stop_at (earlier v x) ≡ None → ⊥
some_earlier v None e = cc
some_earlier v (Some w) e = go (comes_before w v) e
  where
    go : (b : Bool) → stop_at (if b then Some w else Some v) ≡ None → ⊥
    go true e = cc
    go false e = cc

pub none_first : (vs : List Violation) → stop_at (first_of vs) ≡ None → vs ≡ []
none_first [] e = refl
none_first (v ∷ vs) e = absurd (some_earlier v (first_of vs) e)

pub unit_kept : (u : UnitData) (hosts : List ℕ) → hosts_answer u ≡ Ok hosts → is_kept by_sections u ≡ true
unit_kept u hosts e = tops_kept u.tops (places_fine 0 0 false (of_tops u.tops) (none_first (violations u) (go (stop_of_unit u) e)))
  where
    go : (x : Option Stop) → answer_by (hosts_of u) x ≡ Ok hosts → x ≡ None
    go None e = refl
    go (Some stop) e = absurd (cc)
