-- Where no place has a fault, each VARCHAR ends in a length.
use Rattle.std.proofs.Common.{◌≡◌, ℕ, zero, suc, ◌+◌, Bool, true, false, not, ◌&&◌, ◌||◌, List, [], ◌∷◌, ◌++◌, refl, sym, Option, Some, None, Ok, if◌then◌else◌}
use Rattle.std.proofs.lemmas.Bool.{false≢true}
use Rattle.ec_base.specs.declared.fault.FaultKind.{FaultKind}
use Rattle.ec_base.specs.declared.fault.FaultKind.TheVariants.{F9, F13}
use Rattle.ec_base.specs.declared.stop.Stop.{Stop}
use Rattle.ec_ctypes.specs.trees.Exprs.{ExprData, integer, character, string, identifier, unary, binary, assign, bump, call, call_other, index, member, arrow, cast, size_type, size_expr, ExprList, no_exprs, exprs, BaseData, words, varchar, tagged, struct_base, DimData, open_dim, dim, DimList, no_dims, dims, InitData, one, many, InitList, no_inits, inits, InitOption, no_init, some_init, DeclaratorData, declarator, DeclaratorList, no_declarators, declarators, DeclData, decl, DeclList, no_decls, decls}
use Rattle.ec_ctypes.specs.trees.Stmts.{StmtData, stmt, empty_stmt, expr_stmt, block_stmt, if_stmt, while_stmt, do_stmt, for_stmt, break_stmt, continue_stmt, return_stmt, goto_stmt, label_stmt, decl_stmt, emb_stmt, mark_stmt, StmtList, no_stmts, stmts, StmtOption, no_stmt, some_stmt}
use Rattle.ec_ctypes.specs.trees.Units.{ParamData, FuncData, TopData, include_top, directive_top, decl_top, func_top, mark_top, UnitData}
use Rattle.ec_language.specs.First.{Violation, comes_before, earlier, first_of, stop_at}
use Rattle.ec_language.proofs.Classes.{neither, turn_not}
use Rattle.ec_language.proofs.Ends.{both}
use Rattle.ec_host_defs.specs.sections.Answers.{fault_unless, faults_of, faults_at, depth_behind, section_behind, section_at, violations_at, violations_from, violations, stop_of_unit, answer_by, hosts_answer}
use Rattle.ec_host_defs.specs.sections.Declared.{hosts_of}
use Rattle.ec_host_defs.specs.sections.Lengths.{ends_in_length}
use Rattle.ec_host_defs.specs.sections.Places.{PlaceData, holds, mark, Places, of_expr, of_exprs, of_base, of_decls, of_decl, of_declarators, of_declarator, of_dims, of_dim, of_init_option, of_init, of_inits, of_option, of_stmt, of_stmts, of_stmt_option, of_params, of_body, of_function, of_top, of_tops}
use Rattle.ec_host_defs.specs.sections.Uses.{UsesData, ◌&◌, in_type, in_declared, in_base, in_param_base, in_expr, in_exprs, in_dim, in_dims, in_init, in_inits, in_init_option, in_declarator, in_declarators, in_expr_option, in_param, in_params}
use Rattle.ec_typing_defs.specs.Expressions.{is_varchar}
use Rattle.ec_sim_statement_laws.specs.expression.Lengths.{EndsInLength, HaveLengths, HaveLengthsIn, BaseHasLengths, MembersHaveLengths, DeclHasLengths, ItemsHaveLengths, ItemHasLengths, DimsHaveLengths, DimHasLengths, InitHasLengths, PartHasLengths, PartsHaveLengths}
use Rattle.ec_sim_program_laws.specs.program.Shape.{OptionHasLengths, ParamsHaveLengths}
use Rattle.ec_sim_program_laws.specs.standing.Varchars.{StmtHasLengths, StmtsHaveLengths, OtherHasLengths, BodyHasLengths, TopHasLengths, TopsHaveLengths}

-- ---- uses

-- no pointer and no parameter, and none without a length
record Fine (u : UsesData) : Type 0 where
  allowed : u.left_out ≡ false
  lengths : (u.any && u.lacks_length) ≡ false

-- parts of what is found together
fine_first : (a b : UsesData) → Fine (a & b) → Fine a
fine_first a b f = record { allowed = (neither a.left_out b.left_out f.allowed).0; lengths = go a.any b.any a.lacks_length b.lacks_length f.lengths }
  where
    go : (x y z w : Bool) → ((x || y) && (z || w)) ≡ false → (x && z) ≡ false
    go true y z w e = (neither z w e).0
    go false y z w e = refl

fine_second : (a b : UsesData) → Fine (a & b) → Fine b
fine_second a b f = record { allowed = (neither a.left_out b.left_out f.allowed).1; lengths = go a.any b.any a.lacks_length b.lacks_length f.lengths }
  where
    go : (x y z w : Bool) → ((x || y) && (z || w)) ≡ false → (y && w) ≡ false
    go x false z w e = refl
    go true true z w e = (neither z w e).1
    go false true z w e = (neither z w e).1

abbrev AllFine : Places → Type 0
AllFine [] = Unit {0}
AllFine (holds last line uses ∷ ps) = Fine uses × AllFine ps
AllFine (mark opens line ∷ ps) = AllFine ps

fine_parts : (ps qs : Places) → AllFine (ps ++ qs) → AllFine ps × AllFine qs
fine_parts [] qs h = (tt, h)
fine_parts (holds last line uses ∷ ps) qs h = let p = fine_parts ps qs h.1 in ((h.0, p.0), p.1)
fine_parts (mark opens line ∷ ps) qs h = fine_parts ps qs h

-- ---- faults

no_fault : (b : Bool) (kind : FaultKind) (rest : List FaultKind) → fault_unless b kind ++ rest ≡ [] → (b ≡ true) × (rest ≡ [])
no_fault true kind rest e = (refl, e)
no_fault false kind rest e = absurd (cc)

uses_fine : (section : Bool) (u : UsesData) → faults_of section u ≡ [] → Fine u
uses_fine section u e =
    let p = no_fault (not u.left_out && (section || not u.any)) F9 (fault_unless (not (section && u.lacks_length)) F13) e in
    let a = both (not u.left_out) (section || not u.any) p.0 in
    record { allowed = turn_not u.left_out a.0; lengths = go section u.any u.lacks_length a.1 (last (not (section && u.lacks_length)) p.1) }
  where
    last : (b : Bool) → fault_unless b F13 ≡ [] → b ≡ true
    last true e = refl
    last false e = absurd (cc)

    go : (s any lacks : Bool) → (s || not any) ≡ true → not (s && lacks) ≡ true → (any && lacks) ≡ false
    go s false lacks a b = refl
    go true true lacks a b = turn_not lacks b
    go false true lacks a b = absurd (false≢true a)

none_at : (n : ℕ) (p : PlaceData) (kinds : List FaultKind) (rest : List Violation) → violations_at n p kinds ++ rest ≡ [] → (kinds ≡ []) × (rest ≡ [])
none_at n p [] rest e = (refl, e)
none_at n p (k ∷ kinds) rest e = absurd (cc)

places_fine : (n depth : ℕ) (section : Bool) (ps : Places) → violations_from n depth section ps ≡ [] → AllFine ps
places_fine n depth section [] e = tt
places_fine n depth section (holds last line uses ∷ ps) e =
    let p = none_at n (holds last line uses) (faults_of (section_at last section) uses) (violations_from (n + 1) depth section ps) e in
    (uses_fine (section_at last section) uses p.0, places_fine (n + 1) depth section ps p.1)
places_fine n depth section (mark opens line ∷ ps) e =
    let p = none_at n (mark opens line) (faults_at depth section (mark opens line) ps) (violations_from (n + 1) (depth_behind depth (mark opens line)) (section_behind section (mark opens line)) ps) e in
    places_fine (n + 1) (depth_behind depth (mark opens line)) (section_behind section (mark opens line)) ps p.1

-- ---- expressions and declarations

is_so : (x : Bool) → not x ≡ false → x ≡ true
is_so true e = refl
is_so false e = absurd (cc)

-- a declarator that is a VARCHAR
ends : (b : BaseData) (stars : ℕ) (ds : DimList) → Fine (in_declared b stars ds) → EndsInLength (is_varchar b) ds
ends varchar zero ds f = is_so (ends_in_length ds) f.lengths
ends varchar (suc stars) ds f = absurd (false≢true (sym f.allowed))
ends (words ws) stars ds f = tt
ends (tagged t) stars ds f = tt
ends (struct_base t ms) stars ds f = tt

mutual
  in_expression : (e : ExprData) → Fine (in_expr e) → AllFine (of_expr e) → HaveLengths e
  in_expression (integer v t) f h = tt
  in_expression (character c) f h = tt
  in_expression (string s) f h = tt
  in_expression (identifier x) f h = tt
  in_expression (unary op a) f h = in_expression a f h
  in_expression (binary op a b) f h = let p = fine_parts (of_expr a) (of_expr b) h in (in_expression a (fine_first (in_expr a) (in_expr b) f) p.0, in_expression b (fine_second (in_expr a) (in_expr b) f) p.1)
  in_expression (assign op a b) f h = let p = fine_parts (of_expr a) (of_expr b) h in (in_expression a (fine_first (in_expr a) (in_expr b) f) p.0, in_expression b (fine_second (in_expr a) (in_expr b) f) p.1)
  in_expression (bump before up a) f h = in_expression a f h
  in_expression (call g es) f h = in_expressions es f h
  in_expression (call_other a es) f h = let p = fine_parts (of_expr a) (of_exprs es) h in (in_expression a (fine_first (in_expr a) (in_exprs es) f) p.0, in_expressions es (fine_second (in_expr a) (in_exprs es) f) p.1)
  in_expression (index a b) f h = let p = fine_parts (of_expr a) (of_expr b) h in (in_expression a (fine_first (in_expr a) (in_expr b) f) p.0, in_expression b (fine_second (in_expr a) (in_expr b) f) p.1)
  in_expression (member a m) f h = in_expression a f h
  in_expression (arrow a m) f h = in_expression a f h
  in_expression (cast b stars a) f h = let p = fine_parts (of_base b) (of_expr a) h in (base_lengths b p.0, in_expression a (fine_second (in_type b stars) (in_expr a) f) p.1)
  in_expression (size_type b stars) f h = base_lengths b h
  in_expression (size_expr a) f h = in_expression a f h

  in_expressions : (es : ExprList) → Fine (in_exprs es) → AllFine (of_exprs es) → HaveLengthsIn es
  in_expressions no_exprs f h = tt
  in_expressions (exprs e es) f h = let p = fine_parts (of_expr e) (of_exprs es) h in (in_expression e (fine_first (in_expr e) (in_exprs es) f) p.0, in_expressions es (fine_second (in_expr e) (in_exprs es) f) p.1)

  base_lengths : (b : BaseData) → AllFine (of_base b) → BaseHasLengths b
  base_lengths varchar h = tt
  base_lengths (words ws) h = tt
  base_lengths (tagged t) h = tt
  base_lengths (struct_base t ds) h = members_lengths ds h

  members_lengths : (ds : DeclList) → AllFine (of_decls ds) → MembersHaveLengths ds
  members_lengths no_decls h = tt
  members_lengths (decls d ds) h = let p = fine_parts (of_decl d) (of_decls ds) h in (decl_lengths d p.0, members_lengths ds p.1)

  decl_lengths : (d : DeclData) → AllFine (of_decl d) → DeclHasLengths d
  decl_lengths (decl b ds section line) h =
      let p = fine_parts (of_base b) (of_declarators ds) h.1 in
      (base_lengths b p.0, items_lengths b ds (fine_second (in_base b) (in_declarators b ds) h.0) p.1)

  items_lengths : (b : BaseData) (ds : DeclaratorList) → Fine (in_declarators b ds) → AllFine (of_declarators ds) → ItemsHaveLengths (is_varchar b) ds
  items_lengths b no_declarators f h = tt
  items_lengths b (declarators d ds) f h =
      let p = fine_parts (of_declarator d) (of_declarators ds) h in
      (item_lengths b d (fine_first (in_declarator b d) (in_declarators b ds) f) p.0, items_lengths b ds (fine_second (in_declarator b d) (in_declarators b ds) f) p.1)

  item_lengths : (b : BaseData) (d : DeclaratorData) → Fine (in_declarator b d) → AllFine (of_declarator d) → ItemHasLengths (is_varchar b) d
  item_lengths b (declarator stars name ds i) f h =
      let p = fine_parts (of_dims ds) (of_init_option i) h in
      let g = fine_second (in_declared b stars ds) (in_dims ds & in_init_option i) f in
      (ends b stars ds (fine_first (in_declared b stars ds) (in_dims ds & in_init_option i) f), dims_lengths ds (fine_first (in_dims ds) (in_init_option i) g) p.0, initializer_lengths i (fine_second (in_dims ds) (in_init_option i) g) p.1)

  dims_lengths : (ds : DimList) → Fine (in_dims ds) → AllFine (of_dims ds) → DimsHaveLengths ds
  dims_lengths no_dims f h = tt
  dims_lengths (dims d ds) f h = let p = fine_parts (of_dim d) (of_dims ds) h in (dim_lengths d (fine_first (in_dim d) (in_dims ds) f) p.0, dims_lengths ds (fine_second (in_dim d) (in_dims ds) f) p.1)

  dim_lengths : (d : DimData) → Fine (in_dim d) → AllFine (of_dim d) → DimHasLengths d
  dim_lengths open_dim f h = tt
  dim_lengths (dim e) f h = in_expression e f h

  initializer_lengths : (i : InitOption) → Fine (in_init_option i) → AllFine (of_init_option i) → InitHasLengths i
  initializer_lengths no_init f h = tt
  initializer_lengths (some_init i) f h = part_lengths i f h

  part_lengths : (i : InitData) → Fine (in_init i) → AllFine (of_init i) → PartHasLengths i
  part_lengths (one e) f h = in_expression e f h
  part_lengths (many is) f h = parts_lengths is f h

  parts_lengths : (is : InitList) → Fine (in_inits is) → AllFine (of_inits is) → PartsHaveLengths is
  parts_lengths no_inits f h = tt
  parts_lengths (inits i is) f h = let p = fine_parts (of_init i) (of_inits is) h in (part_lengths i (fine_first (in_init i) (in_inits is) f) p.0, parts_lengths is (fine_second (in_init i) (in_inits is) f) p.1)

-- ---- statements

option_lengths : (e : Option ExprData) → Fine (in_expr_option e) → AllFine (of_option e) → OptionHasLengths e
option_lengths None f h = tt
option_lengths (Some e) f h = in_expression e f h

mutual
  in_statement : (s : StmtData) → AllFine (of_stmt s) → StmtHasLengths s
  in_statement (stmt line empty_stmt) h = tt
  in_statement (stmt line (expr_stmt e)) h = in_expression e h.0 h.1
  in_statement (stmt line (block_stmt ss)) h = in_statements ss h.1
  in_statement (stmt line (if_stmt e s other)) h =
      let p = fine_parts (of_expr e) (of_stmt s ++ of_stmt_option other) h.1 in
      let q = fine_parts (of_stmt s) (of_stmt_option other) p.1 in
      (in_expression e h.0 p.0, in_statement s q.0, in_other other q.1)
  in_statement (stmt line (while_stmt e s)) h = let p = fine_parts (of_expr e) (of_stmt s) h.1 in (in_expression e h.0 p.0, in_statement s p.1)
  in_statement (stmt line (do_stmt s e)) h = let p = fine_parts (of_stmt s) (of_expr e) h.1 in (in_statement s p.0, in_expression e h.0 p.1)
  in_statement (stmt line (for_stmt x y z s)) h =
      let p = fine_parts (of_option x) (of_option y ++ (of_option z ++ of_stmt s)) h.1 in
      let q = fine_parts (of_option y) (of_option z ++ of_stmt s) p.1 in
      let r = fine_parts (of_option z) (of_stmt s) q.1 in
      let f = fine_second (in_expr_option x) (in_expr_option y & in_expr_option z) h.0 in
      (option_lengths x (fine_first (in_expr_option x) (in_expr_option y & in_expr_option z) h.0) p.0, option_lengths y (fine_first (in_expr_option y) (in_expr_option z) f) q.0, option_lengths z (fine_second (in_expr_option y) (in_expr_option z) f) r.0, in_statement s r.1)
  in_statement (stmt line break_stmt) h = tt
  in_statement (stmt line continue_stmt) h = tt
  in_statement (stmt line (return_stmt e)) h = option_lengths e h.0 h.1
  in_statement (stmt line (goto_stmt l)) h = tt
  in_statement (stmt line (label_stmt l s)) h = in_statement s h.1
  in_statement (stmt line (decl_stmt d)) h = decl_lengths d h
  in_statement (stmt line (emb_stmt n)) h = tt
  in_statement (stmt line (mark_stmt opens)) h = tt

  in_statements : (ss : StmtList) → AllFine (of_stmts ss) → StmtsHaveLengths ss
  in_statements no_stmts h = tt
  in_statements (stmts s ss) h = let p = fine_parts (of_stmt s) (of_stmts ss) h in (in_statement s p.0, in_statements ss p.1)

  in_other : (o : StmtOption) → AllFine (of_stmt_option o) → OtherHasLengths o
  in_other no_stmt h = tt
  in_other (some_stmt s) h = in_statement s h

-- ---- programs

params_lengths : (qs : List ParamData) → Fine (in_params qs) → AllFine (of_params qs) → ParamsHaveLengths qs
params_lengths [] f h = tt
params_lengths (q ∷ qs) f h =
    let p = fine_parts (of_base q.base ++ of_dims q.dims) (of_params qs) h in
    let r = fine_parts (of_base q.base) (of_dims q.dims) p.0 in
    let g = fine_first (in_param q) (in_params qs) f in
    (base_lengths q.base r.0, dims_lengths q.dims (fine_second (in_param_base q.base) (in_dims q.dims) g) r.1, params_lengths qs (fine_second (in_param q) (in_params qs) f) p.1)

body_lengths : (b : Option StmtList) → AllFine (of_body b) → BodyHasLengths b
body_lengths None h = tt
body_lengths (Some ss) h = in_statements ss h

func_lengths : (f : FuncData) → AllFine (of_function f) → TopHasLengths (func_top f)
func_lengths f h =
    let p = fine_parts (of_base f.base) (of_params f.params ++ of_body f.body) h.1 in
    let q = fine_parts (of_params f.params) (of_body f.body) p.1 in
    (base_lengths f.base p.0, params_lengths f.params (fine_second (in_type f.base f.stars) (in_params f.params) h.0) q.0, body_lengths f.body q.1)

top_lengths : (t : TopData) → AllFine (of_top t) → TopHasLengths t
top_lengths (include_top bytes) h = tt
top_lengths (directive_top n) h = tt
top_lengths (decl_top d) h = decl_lengths d h
top_lengths (func_top f) h = func_lengths f h
top_lengths (mark_top opens line) h = tt

tops_lengths : (ts : List TopData) → AllFine (of_tops ts) → TopsHaveLengths ts
tops_lengths [] h = tt
tops_lengths (t ∷ ts) h = let p = fine_parts (of_top t) (of_tops ts) h in (top_lengths t p.0, tops_lengths ts p.1)

-- ---- the answer

some_earlier : (v : Violation) (x : Option Violation) → stop_at (earlier v x) ≡ None → ⊥
some_earlier v None e = cc
some_earlier v (Some w) e = go (comes_before w v) e
  where
    go : (b : Bool) → stop_at (if b then Some w else Some v) ≡ None → ⊥
    go true e = cc
    go false e = cc

none_first : (vs : List Violation) → stop_at (first_of vs) ≡ None → vs ≡ []
none_first [] e = refl
none_first (v ∷ vs) e = absurd (some_earlier v (first_of vs) e)

pub unit_lengths : (u : UnitData) (hosts : List ℕ) → hosts_answer u ≡ Ok hosts → TopsHaveLengths u.tops
unit_lengths u hosts e = tops_lengths u.tops (places_fine 0 0 false (of_tops u.tops) (none_first (violations u) (go (stop_of_unit u) e)))
  where
    go : (x : Option Stop) → answer_by (hosts_of u) x ≡ Ok hosts → x ≡ None
    go None e = refl
    go (Some stop) e = absurd (cc)
