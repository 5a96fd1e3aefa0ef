-- What is written uses no VARCHAR, and has no marks.
use Rattle.std.proofs.Common.{◌≡◌, ◌∙◌, ℕ, zero, suc, ◌+◌, Bool, true, false, ◌&&◌, List, [], ◌∷◌, ◌++◌, refl, ap, sym, Option, Some, None, Ok, ◌⊎◌, inl, inr}
use Rattle.std.proofs.lemmas.Bool.{false≢true}
use Rattle.std.specs.Prelude.{not, ◌||◌, ◌==◌}
use Rattle.ec_base.specs.declared.line.Line.{Line}
use Rattle.ec_ctypes.specs.trees.Exprs.{ExprData, integer, character, string, identifier, unary, binary, assign, bump, call, call_other, index, member, arrow, cast, size_type, size_expr, ExprList, no_exprs, exprs, BaseData, words, varchar, tagged, struct_base, DimData, open_dim, dim, DimList, no_dims, dims, InitData, one, many, InitList, no_inits, inits, InitOption, no_init, some_init, DeclaratorData, declarator, DeclaratorList, no_declarators, declarators, DeclData, decl, DeclList, no_decls, decls}
use Rattle.ec_ctypes.specs.trees.Stmts.{StmtData, stmt, StmtKindData, empty_stmt, expr_stmt, block_stmt, if_stmt, while_stmt, do_stmt, for_stmt, break_stmt, continue_stmt, return_stmt, goto_stmt, label_stmt, decl_stmt, emb_stmt, mark_stmt, StmtList, no_stmts, stmts, StmtOption, no_stmt, some_stmt}
use Rattle.ec_ctypes.specs.trees.Units.{ParamData, FuncData, TopData, include_top, directive_top, decl_top, func_top, mark_top, UnitData}
use Rattle.ec_language.specs.First.{Violation, first_of, stop_at}
use Rattle.ec_language.specs.Productions.{line_of}
use Rattle.ec_host_defs.specs.sections.Answers.{faults_of, section_at, violations_at, violations_from, faults_at, violations, answer_by, hosts_answer}
use Rattle.ec_host_defs.specs.sections.Declared.{hosts_of}
use Rattle.ec_host_defs.specs.sections.Places.{Places, holds, mark, of_expr, of_exprs, of_base, of_decls, of_decl, of_declarators, of_declarator, of_dims, of_dim, of_init_option, of_init, of_inits, of_option, of_stmt, of_kind, of_stmts, of_stmt_option, of_params, of_body, of_function, of_top, of_tops}
use Rattle.ec_host_defs.specs.sections.Uses.{UsesData, nowhere, ◌&◌, in_type, in_declared, in_param_base, in_expr, in_exprs, in_dim, in_dims, in_init, in_inits, in_init_option, in_declarator, in_declarators, in_base, in_expr_option, in_kind, in_param, in_params, in_function}
use Rattle.ec_writing_defs.specs.Chunks.{line_behind}
use Rattle.ec_writing_defs.specs.Programs.{stmt_chunks}
use Rattle.ec_writing_defs.specs.Shapes.{fits_type, is_character, is_free_name, is_plain_name, is_assignable, is_tag, is_tag_option, are_type_words, is_no_name, is_written_expr, are_written_exprs, is_written_base, are_written_members, is_written_member, is_written_dim, are_written_dims, is_written_init, are_some_inits, are_written_inits, is_written_initializer, is_written_declarator, are_written_declarators, is_written_decl, is_line, is_written_option, is_open, is_declaration, is_written_stmt, is_written_kind, is_written_else, are_written_items, is_written_item, is_written_name, is_written_param, are_written_params, is_void_list, is_written_body, is_written_func, is_include_line, is_written_top, are_written_tops, none_embedded, is_written_shape}

both : (a b : Bool) → a && b ≡ true → (a ≡ true) × (b ≡ true)
both true b h = (refl, h)
both false b h = absurd (false≢true h)

either : (a b : Bool) → a || b ≡ true → (a ≡ true) ⊎ (b ≡ true)
either true b h = inl refl
either false b h = inr h

-- ---- places without a VARCHAR

abbrev AllHold : Places → Type 0
AllHold [] = Unit {0}
AllHold (holds last line uses ∷ ps) = (uses ≡ nowhere) × AllHold ps
AllHold (mark opens line ∷ ps) = ⊥

all_hold : (ps qs : Places) → AllHold ps → AllHold qs → AllHold (ps ++ qs)
all_hold [] qs h k = k
all_hold (holds last line uses ∷ ps) qs h k = (h.0, all_hold ps qs h.1 k)
all_hold (mark opens line ∷ ps) qs h k = h

-- the uses of a part, and the places in it
record Plain (u : UsesData) (ps : Places) : Type 0 where
  uses : u ≡ nowhere
  places : AllHold ps

none : Plain nowhere []
none = record { uses = refl; places = tt }

joined : (u v : UsesData) (ps qs : Places) → Plain u ps → Plain v qs → Plain (u & v) (ps ++ qs)
joined u v ps qs h k = record { uses = λ i. h.uses i & k.uses i; places = all_hold ps qs h.places k.places }

-- a base that is no VARCHAR
record IsNoVarchar (b : BaseData) : Type 0 where
  type : (stars : ℕ) → in_type b stars ≡ nowhere
  alone : in_base b ≡ nowhere
  declared : (stars : ℕ) (ds : DimList) → in_declared b stars ds ≡ nowhere
  param : in_param_base b ≡ nowhere

no_varchar : (n : ℕ) (b : BaseData) → is_written_base n b ≡ true → IsNoVarchar b
no_varchar n (words ws) h = record { type = λ s. refl; alone = refl; declared = λ s ds. refl; param = refl }
no_varchar n varchar h = absurd (false≢true h)
no_varchar n (tagged t) h = record { type = λ s. refl; alone = refl; declared = λ s ds. refl; param = refl }
no_varchar n (struct_base t ms) h = record { type = λ s. refl; alone = refl; declared = λ s ds. refl; param = refl }

mutual
  expr_plain : (n : ℕ) (e : ExprData) → is_written_expr n e ≡ true → Plain (in_expr e) (of_expr e)
  expr_plain n (integer v t) h = none
  expr_plain n (character c) h = none
  expr_plain n (string s) h = none
  expr_plain n (identifier x) h = none
  expr_plain n (unary op a) h = expr_plain n a h
  expr_plain n (binary op a b) h = let p = both (is_written_expr n a) (is_written_expr n b) h in joined (in_expr a) (in_expr b) (of_expr a) (of_expr b) (expr_plain n a p.0) (expr_plain n b p.1)
  expr_plain n (assign o a b) h =
      let q = both (is_assignable o) (is_written_expr n a && is_written_expr n b) h in
      let p = both (is_written_expr n a) (is_written_expr n b) q.1 in joined (in_expr a) (in_expr b) (of_expr a) (of_expr b) (expr_plain n a p.0) (expr_plain n b p.1)
  expr_plain n (bump before up a) h = expr_plain n a h
  expr_plain n (call f es) h = exprs_plain n es (both (is_free_name f) (are_written_exprs n es) h).1
  expr_plain n (call_other f es) h =
      let q = both (is_no_name f) (is_written_expr n f && are_written_exprs n es) h in
      let p = both (is_written_expr n f) (are_written_exprs n es) q.1 in
      joined (in_expr f) (in_exprs es) (of_expr f) (of_exprs es) (expr_plain n f p.0) (exprs_plain n es p.1)
  expr_plain n (index a b) h = let p = both (is_written_expr n a) (is_written_expr n b) h in joined (in_expr a) (in_expr b) (of_expr a) (of_expr b) (expr_plain n a p.0) (expr_plain n b p.1)
  expr_plain n (member a m) h = expr_plain n a (both (is_plain_name m) (is_written_expr n a) h).1
  expr_plain n (arrow a m) h = expr_plain n a (both (is_plain_name m) (is_written_expr n a) h).1
  expr_plain n (cast b stars a) h =
      let p = both (is_written_base n b) (is_written_expr n a) h in
      joined (in_type b stars) (in_expr a) (of_base b) (of_expr a) (record { uses = (no_varchar n b p.0).type stars; places = base_holds n b p.0 }) (expr_plain n a p.1)
  expr_plain n (size_type b stars) h = record { uses = (no_varchar n b h).type stars; places = base_holds n b h }
  expr_plain n (size_expr a) h = expr_plain n a h

  exprs_plain : (n : ℕ) (es : ExprList) → are_written_exprs n es ≡ true → Plain (in_exprs es) (of_exprs es)
  exprs_plain n no_exprs h = none
  exprs_plain n (exprs e es) h =
      let p = both (is_written_expr n e) (are_written_exprs n es) h in
      joined (in_expr e) (in_exprs es) (of_expr e) (of_exprs es) (expr_plain n e p.0) (exprs_plain n es p.1)

  base_holds : (n : ℕ) (b : BaseData) → is_written_base n b ≡ true → AllHold (of_base b)
  base_holds n (words ws) h = tt
  base_holds n varchar h = tt
  base_holds n (tagged t) h = tt
  base_holds n (struct_base t no_decls) h = tt
  base_holds n (struct_base t (decls m ms)) h =
      let q = both (is_tag_option t) (is_written_member n m && are_written_members n ms) h in
      let p = both (is_written_member n m) (are_written_members n ms) q.1 in
      all_hold (of_decl m) (of_decls ms) (member_holds n m p.0) (members_hold n ms p.1)

  members_hold : (n : ℕ) (ms : DeclList) → are_written_members n ms ≡ true → AllHold (of_decls ms)
  members_hold n no_decls h = tt
  members_hold n (decls m ms) h =
      let p = both (is_written_member n m) (are_written_members n ms) h in
      all_hold (of_decl m) (of_decls ms) (member_holds n m p.0) (members_hold n ms p.1)

  member_holds : (n : ℕ) (d : DeclData) → is_written_member n d ≡ true → AllHold (of_decl d)
  member_holds n (decl b no_declarators section line) h = absurd (false≢true h)
  member_holds n (decl b (declarators d ds) section line) h =
      let q = both (not section && line.0 == n) (is_written_base n b && (is_written_declarator n d && are_written_declarators n ds)) h in
      let p = both (is_written_base n b) (is_written_declarator n d && are_written_declarators n ds) q.1 in
      let r = both (is_written_declarator n d) (are_written_declarators n ds) p.1 in
      let x = joined (in_declarator b d) (in_declarators b ds) (of_declarator d) (of_declarators ds) (declarator_plain n b d (no_varchar n b p.0) r.0) (declarators_plain n b ds (no_varchar n b p.0) r.1) in
      ((λ i. (no_varchar n b p.0).alone i & x.uses i), all_hold (of_base b) (of_declarators (declarators d ds)) (base_holds n b p.0) x.places)

  declarators_plain : (n : ℕ) (b : BaseData) (ds : DeclaratorList) → IsNoVarchar b → are_written_declarators n ds ≡ true → Plain (in_declarators b ds) (of_declarators ds)
  declarators_plain n b no_declarators q h = none
  declarators_plain n b (declarators d ds) q h =
      let p = both (is_written_declarator n d) (are_written_declarators n ds) h in
      joined (in_declarator b d) (in_declarators b ds) (of_declarator d) (of_declarators ds) (declarator_plain n b d q p.0) (declarators_plain n b ds q p.1)

  declarator_plain : (n : ℕ) (b : BaseData) (d : DeclaratorData) → IsNoVarchar b → is_written_declarator n d ≡ true → Plain (in_declarator b d) (of_declarator d)
  declarator_plain n b (declarator stars name ds i) q h =
      let p = both (is_plain_name name) (are_written_dims n ds && is_written_initializer n i) h in
      let r = both (are_written_dims n ds) (is_written_initializer n i) p.1 in
      let x = joined (in_dims ds) (in_init_option i) (of_dims ds) (of_init_option i) (dims_plain n ds r.0) (initializer_plain n i r.1) in
      record { uses = λ j. q.declared stars ds j & x.uses j; places = x.places }

  dims_plain : (n : ℕ) (ds : DimList) → are_written_dims n ds ≡ true → Plain (in_dims ds) (of_dims ds)
  dims_plain n no_dims h = none
  dims_plain n (dims d ds) h =
      let p = both (is_written_dim n d) (are_written_dims n ds) h in
      joined (in_dim d) (in_dims ds) (of_dim d) (of_dims ds) (dim_plain n d p.0) (dims_plain n ds p.1)

  dim_plain : (n : ℕ) (d : DimData) → is_written_dim n d ≡ true → Plain (in_dim d) (of_dim d)
  dim_plain n open_dim h = none
  dim_plain n (dim e) h = expr_plain n e h

  initializer_plain : (n : ℕ) (i : InitOption) → is_written_initializer n i ≡ true → Plain (in_init_option i) (of_init_option i)
  initializer_plain n no_init h = none
  initializer_plain n (some_init i) h = init_plain n i h

  init_plain : (n : ℕ) (i : InitData) → is_written_init n i ≡ true → Plain (in_init i) (of_init i)
  init_plain n (one e) h = expr_plain n e h
  init_plain n (many no_inits) h = none
  init_plain n (many (inits i is)) h =
      let p = both (is_written_init n i) (are_written_inits n is) h in
      joined (in_init i) (in_inits is) (of_init i) (of_inits is) (init_plain n i p.0) (inits_plain n is p.1)

  inits_plain : (n : ℕ) (is : InitList) → are_written_inits n is ≡ true → Plain (in_inits is) (of_inits is)
  inits_plain n no_inits h = none
  inits_plain n (inits i is) h =
      let p = both (is_written_init n i) (are_written_inits n is) h in
      joined (in_init i) (in_inits is) (of_init i) (of_inits is) (init_plain n i p.0) (inits_plain n is p.1)

-- a declaration
declared_holds : (n : ℕ) (b : BaseData) (ds : DeclaratorList) → is_written_base n b ≡ true → are_written_declarators n ds ≡ true
    → (in_base b & in_declarators b ds ≡ nowhere) × AllHold (of_base b ++ of_declarators ds)
declared_holds n b ds h k =
    let q = no_varchar n b h in
    let p = declarators_plain n b ds q k in
    ((λ i. q.alone i & p.uses i), all_hold (of_base b) (of_declarators ds) (base_holds n b h) p.places)

decl_holds : (n : ℕ) (d : DeclData) → is_written_decl n d ≡ true → AllHold (of_decl d)
decl_holds n (decl b ds section line) h =
    let q = both (not section && line.0 == n) (is_written_base n b && are_written_declarators n ds) h in
    let p = both (is_written_base n b) (are_written_declarators n ds) q.1 in
    declared_holds n b ds p.0 p.1

option_plain : (n : ℕ) (e : Option ExprData) → is_written_option n e ≡ true → Plain (in_expr_option e) (of_option e)
option_plain n None h = none
option_plain n (Some e) h = expr_plain n e h

-- ---- statements

mutual
  stmt_holds : (s : StmtData) → is_written_stmt s ≡ true → AllHold (of_stmt s)
  stmt_holds (stmt line kind) h = kind_holds line kind (both (is_line line.0) (is_written_kind line.0 kind) h).1

  kind_holds : (line : Line) (kind : StmtKindData) → is_written_kind line.0 kind ≡ true → AllHold (of_kind line kind)
  kind_holds line empty_stmt h = (refl, tt)
  kind_holds line (expr_stmt e) h = let p = expr_plain line.0 e h in (p.uses, p.places)
  kind_holds line (block_stmt ss) h = (refl, items_hold ss h)
  kind_holds line (if_stmt e s other) h =
      let q = both (is_written_expr line.0 e) (is_written_stmt s && is_written_else (is_open s) other) h in
      let r = both (is_written_stmt s) (is_written_else (is_open s) other) q.1 in
      let p = expr_plain line.0 e q.0 in
      (p.uses, all_hold (of_expr e) (of_stmt s ++ of_stmt_option other) p.places (all_hold (of_stmt s) (of_stmt_option other) (stmt_holds s r.0) (else_holds (is_open s) other r.1)))
  kind_holds line (while_stmt e s) h =
      let q = both (is_written_expr line.0 e) (is_written_stmt s) h in
      let p = expr_plain line.0 e q.0 in (p.uses, all_hold (of_expr e) (of_stmt s) p.places (stmt_holds s q.1))
  kind_holds line (do_stmt s e) h =
      let q = both (is_written_stmt s) (is_written_expr (line_behind (suc line.0) (stmt_chunks s)) e) h in
      let p = expr_plain (line_behind (suc line.0) (stmt_chunks s)) e q.1 in (p.uses, all_hold (of_stmt s) (of_expr e) (stmt_holds s q.0) p.places)
  kind_holds line (for_stmt a b c s) h =
      let q = both (is_written_option line.0 a && (is_written_option line.0 b && is_written_option line.0 c)) (is_written_stmt s) h in
      let r = both (is_written_option line.0 a) (is_written_option line.0 b && is_written_option line.0 c) q.0 in
      let t = both (is_written_option line.0 b) (is_written_option line.0 c) r.1 in
      let x = option_plain line.0 a r.0 in let y = option_plain line.0 b t.0 in let z = option_plain line.0 c t.1 in (
        (λ i. x.uses i & (y.uses i & z.uses i)),
        all_hold (of_option a) (of_option b ++ (of_option c ++ of_stmt s)) x.places (all_hold (of_option b) (of_option c ++ of_stmt s) y.places (all_hold (of_option c) (of_stmt s) z.places (stmt_holds s q.1))),
      )
  kind_holds line break_stmt h = (refl, tt)
  kind_holds line continue_stmt h = (refl, tt)
  kind_holds line (return_stmt e) h = let p = option_plain line.0 e h in (p.uses, p.places)
  kind_holds line (goto_stmt l) h = (refl, tt)
  kind_holds line (label_stmt l s) h = (refl, stmt_holds s (both (is_plain_name l) (is_written_stmt s) h).1)
  kind_holds line (decl_stmt d) h = absurd (false≢true h)
  kind_holds line (emb_stmt m) h = absurd (false≢true h)
  kind_holds line (mark_stmt opens) h = absurd (false≢true h)

  else_holds : (opens : Bool) (other : StmtOption) → is_written_else opens other ≡ true → AllHold (of_stmt_option other)
  else_holds opens no_stmt h = tt
  else_holds opens (some_stmt s) h = stmt_holds s (both (not opens) (is_written_stmt s) h).1

  items_hold : (ss : StmtList) → are_written_items ss ≡ true → AllHold (of_stmts ss)
  items_hold no_stmts h = tt
  items_hold (stmts s ss) h =
      let p = both (is_written_item s) (are_written_items ss) h in
      all_hold (of_stmt s) (of_stmts ss) (item_holds s p.0) (items_hold ss p.1)

  item_holds : (s : StmtData) → is_written_item s ≡ true → AllHold (of_stmt s)
  item_holds (stmt line kind) h =
      let q = both (is_line line.0) (is_declaration line.0 kind || is_written_kind line.0 kind) h in
      elim (either (is_declaration line.0 kind) (is_written_kind line.0 kind) q.1) [
        | inl d ↦ declaration_holds line kind d
        | inr k ↦ kind_holds line kind k
      ]

  declaration_holds : (line : Line) (kind : StmtKindData) → is_declaration line.0 kind ≡ true → AllHold (of_kind line kind)
  declaration_holds line (decl_stmt d) h = decl_holds line.0 d h
  declaration_holds line empty_stmt h = absurd (false≢true h)
  declaration_holds line (expr_stmt e) h = absurd (false≢true h)
  declaration_holds line (block_stmt ss) h = absurd (false≢true h)
  declaration_holds line (if_stmt e s other) h = absurd (false≢true h)
  declaration_holds line (while_stmt e s) h = absurd (false≢true h)
  declaration_holds line (do_stmt s e) h = absurd (false≢true h)
  declaration_holds line (for_stmt a b c s) h = absurd (false≢true h)
  declaration_holds line break_stmt h = absurd (false≢true h)
  declaration_holds line continue_stmt h = absurd (false≢true h)
  declaration_holds line (return_stmt e) h = absurd (false≢true h)
  declaration_holds line (goto_stmt l) h = absurd (false≢true h)
  declaration_holds line (label_stmt l s) h = absurd (false≢true h)
  declaration_holds line (emb_stmt m) h = absurd (false≢true h)
  declaration_holds line (mark_stmt opens) h = absurd (false≢true h)

-- ---- programs

param_plain : (n : ℕ) (q : ParamData) → is_written_param n q ≡ true → Plain (in_param q) (of_base q.base ++ of_dims q.dims)
param_plain n q h =
    let p = both (not q.section && is_written_base n q.base) (is_written_name q.name && are_written_dims n q.dims) h in
    let r = both (not q.section) (is_written_base n q.base) p.0 in
    let t = both (is_written_name q.name) (are_written_dims n q.dims) p.1 in
    let ds = dims_plain n q.dims t.1 in
    record {
      uses = λ i. (no_varchar n q.base r.1).param i & ds.uses i;
      places = all_hold (of_base q.base) (of_dims q.dims) (base_holds n q.base r.1) ds.places;
    }

params_plain : (n : ℕ) (qs : List ParamData) → are_written_params n qs ≡ true → Plain (in_params qs) (of_params qs)
params_plain n [] h = none
params_plain n (q ∷ qs) h =
    let p = both (is_written_param n q) (are_written_params n qs) h in
    joined (in_param q) (in_params qs) (of_base q.base ++ of_dims q.dims) (of_params qs) (param_plain n q p.0) (params_plain n qs p.1)

body_holds : (b : Option StmtList) → is_written_body b ≡ true → AllHold (of_body b)
body_holds None h = tt
body_holds (Some ss) h = items_hold ss h

function_holds : (f : FuncData) → is_written_func f ≡ true → AllHold (of_function f)
function_holds f h =
    let n = f.line.0 in
    let rest = (is_written_base n f.base && is_plain_name f.name) && ((are_written_params n f.params && not (is_void_list f.params)) && is_written_body f.body) in
    let q = both (not f.section && is_line n) rest h in
    let r = both (is_written_base n f.base && is_plain_name f.name) ((are_written_params n f.params && not (is_void_list f.params)) && is_written_body f.body) q.1 in
    let b = both (is_written_base n f.base) (is_plain_name f.name) r.0 in
    let t = both (are_written_params n f.params && not (is_void_list f.params)) (is_written_body f.body) r.1 in
    let ps = params_plain n f.params (both (are_written_params n f.params) (not (is_void_list f.params)) t.0).0 in (
      (λ i. (no_varchar n f.base b.0).type f.stars i & ps.uses i),
      all_hold (of_base f.base) (of_params f.params ++ of_body f.body) (base_holds n f.base b.0) (all_hold (of_params f.params) (of_body f.body) ps.places (body_holds f.body t.1)),
    )

top_holds : (t : TopData) → is_written_top t ≡ true → AllHold (of_top t)
top_holds (include_top bytes) h = tt
top_holds (directive_top n) h = tt
top_holds (decl_top d) h = decl_holds (line_of d).0 d (both (is_line (line_of d).0) (is_written_decl (line_of d).0 d) h).1
top_holds (func_top f) h = function_holds f h
top_holds (mark_top opens line) h = absurd (false≢true h)

tops_hold : (ts : List TopData) → are_written_tops ts ≡ true → AllHold (of_tops ts)
tops_hold [] h = tt
tops_hold (t ∷ ts) h =
    let p = both (is_written_top t) (are_written_tops ts) h in
    all_hold (of_top t) (of_tops ts) (top_holds t p.0) (tops_hold ts p.1)

-- ---- no fault

none_there : (section : Bool) → faults_of section nowhere ≡ []
none_there true = refl
none_there false = refl

without_faults : (n depth : ℕ) (section : Bool) (ps : Places) → AllHold ps → violations_from n depth section ps ≡ []
without_faults n depth section [] h = refl
without_faults n depth section (holds last line uses ∷ ps) h =
    (λ i. violations_at n (holds last line uses) (faults_at depth section (holds last line (h.0 i)) ps) ++ violations_from (n + 1) depth section ps)
    ∙ ap (λ kinds. violations_at n (holds last line uses) kinds ++ violations_from (n + 1) depth section ps) (none_there (section_at last section)) ∙ without_faults (n + 1) depth section ps h.1
without_faults n depth section (mark opens line ∷ ps) h = absurd h

pub no_sections : (u : UnitData) → is_written_shape u ≡ true → hosts_answer u ≡ Ok (hosts_of u)
no_sections u h =
    ap (λ vs. answer_by (hosts_of u) (stop_at (first_of vs)))
    (without_faults 0 0 false (of_tops u.tops) (tops_hold u.tops (both (are_written_tops u.tops) (none_embedded u.embs) h).0))
