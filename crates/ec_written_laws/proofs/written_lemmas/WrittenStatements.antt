-- What is written of statements and programs has the written shape.
use Rattle.std.proofs.Common.{◌≡◌, ℕ, zero, suc, Bool, true, false, not, ◌&&◌, ◌||◌, List, [], ◌∷◌, ◌++◌, map, refl, sym, ap, ◌∙◌, subst, Option, Some, None, eqb-true}
use Rattle.std.specs.Prelude.{◌==◌}
use Rattle.std.proofs.lemmas.Bool.{false≢true}
use Rattle.ec_base.specs.declared.line.Line.{Line}
use Rattle.ec_ctypes.specs.trees.Exprs.{BaseData, words, varchar, tagged, struct_base, DimList, no_dims, dims, DeclData, decl}
use Rattle.ec_ctypes.specs.trees.Stmts.{StmtData, stmt, StmtKindData, empty_stmt, expr_stmt, block_stmt, if_stmt, while_stmt, do_stmt, for_stmt, break_stmt, continue_stmt, return_stmt, goto_stmt, label_stmt, decl_stmt, emb_stmt, mark_stmt, StmtList, no_stmts, stmts, StmtOption, no_stmt, some_stmt}
use Rattle.ec_ctypes.specs.trees.Units.{ParamData, FuncData, TopData, include_top, directive_top, decl_top, func_top, mark_top, UnitData}
use Rattle.ec_language.specs.Letters.{Text}
use Rattle.ec_language.specs.Productions.{is_void}
use Rattle.ec_language.proofs.Ends.{both}
use Rattle.ec_writing_defs.specs.Shapes.{is_plain_name, is_line, is_written_expr, is_written_decl, is_open, is_open_kind, is_open_else, is_declaration, is_written_stmt, is_written_kind, is_written_else, are_written_items, is_written_item, is_written_name, is_written_param, are_written_params, is_void_list, is_written_body, is_written_func, is_written_top, are_written_tops, is_written_shape}
use Rattle.ec_written_laws.specs.source.SourceShape.{is_source_expr, is_source_base, are_source_dims, are_source_declarators, is_source_decl, is_source_option, is_source_stmt, is_source_kind, is_source_else, are_source_items, is_source_item, is_source_param, are_source_params, is_source_body, is_source_func, is_source_top, are_source_tops, is_source_shape}
use Rattle.ec_written_laws.specs.source.Kept.{written, keeps_expr, keeps_type, keeps_dims, keeps_option, keeps_stmt, keeps_kind, keeps_stmts, keeps_else, keeps_param, keeps_params, keeps_body, keeps_func, keeps_top, keeps_tops, is_kept}
use Rattle.ec_expansion_defs.specs.Declarations.{written_expr, written_base, written_dims, written_decl}
use Rattle.ec_expansion_defs.specs.Lines.{line_after}
use Rattle.ec_expansion_defs.specs.Programs.{unit_of}
use Rattle.ec_expansion_defs.specs.Statements.{before_stmts, decl_stmts, optional_stmt, or_empty, written_stmt, written_kind, written_items, written_item, written_else, written_body, written_param, written_func, written_top, written_tops}
use Rattle.ec_expansion_defs.proofs.LinesBehind.{stmt_line}
use Rattle.ec_written_laws.specs.written.Blocks.{IsBlockOption}
use Rattle.ec_written_laws.proofs.written_lemmas.WrittenParts.{join, expr_is, type_is, dims_are, are_written_decls, decl_is, option_is}

pub items_before : (xs : List StmtData) (ss : StmtList) → are_written_items (before_stmts xs no_stmts) ≡ true → are_written_items ss ≡ true → are_written_items (before_stmts xs ss) ≡ true
items_before [] ss h k = k
items_before (x ∷ xs) ss h k = let p = both (is_written_item x) (are_written_items (before_stmts xs no_stmts)) h in join p.0 (items_before xs ss p.1 k)

decls_are : (line : Line) (ds : List DeclData) → is_line line.0 ≡ true → are_written_decls line.0 ds ≡ true → are_written_items (before_stmts (decl_stmts line ds) no_stmts) ≡ true
decls_are line [] l h = refl
decls_are line (d ∷ ds) l h =
    let p = both (is_written_decl line.0 d) (are_written_decls line.0 ds) h in
    join (join l (ap (λ x. x || false) p.0)) (decls_are line ds l p.1)

or_second : (a b : Bool) → b ≡ true → (a || b) ≡ true
or_second true b h = refl
or_second false b h = h

no_other : (a : Bool) → (a || false) ≡ true → a ≡ true
no_other true h = refl
no_other false h = h

pub as_item : (s : StmtData) → is_written_stmt s ≡ true → is_written_item s ≡ true
as_item (stmt line kind) h = let p = both (is_line line.0) (is_written_kind line.0 kind) h in join p.0 (or_second (is_declaration line.0 kind) (is_written_kind line.0 kind) p.1)

module _ (embedded : ℕ → Option StmtKindData) (blocks : (k : ℕ) → IsBlockOption (embedded k)) where
  shut_block : (x : Option StmtKindData) → IsBlockOption x → is_open_kind (or_empty x) ≡ false
  shut_block None h = refl
  shut_block (Some kind) h = h.shut

  mutual
    same_open : (s : StmtData) → is_open (written_stmt embedded s) ≡ is_open s
    same_open (stmt line kind) = same_kind line.0 kind

    same_kind : (n : ℕ) (kind : StmtKindData) → is_open_kind (written_kind embedded n kind) ≡ is_open_kind kind
    same_kind n (if_stmt e s other) = same_else other
    same_kind n (while_stmt e s) = same_open s
    same_kind n (for_stmt a b c s) = same_open s
    same_kind n (label_stmt l s) = same_open s
    same_kind n empty_stmt = refl
    same_kind n (expr_stmt e) = refl
    same_kind n (block_stmt ss) = refl
    same_kind n (do_stmt s e) = refl
    same_kind n break_stmt = refl
    same_kind n continue_stmt = refl
    same_kind n (return_stmt e) = refl
    same_kind n (goto_stmt l) = refl
    same_kind n (decl_stmt d) = refl
    same_kind n (emb_stmt k) = shut_block (embedded k) (blocks k)
    same_kind n (mark_stmt opens) = refl

    same_else : (o : StmtOption) → is_open_else (written_else embedded o) ≡ is_open_else o
    same_else no_stmt = refl
    same_else (some_stmt s) = same_open s

  block_is : (n : ℕ) (x : Option StmtKindData) → IsBlockOption x → is_written_kind n (or_empty x) ≡ true
  block_is n None h = refl
  block_is n (Some kind) h = h.shape n

  optional_is : (line : Line) (x : Option StmtKindData) → is_line line.0 ≡ true → IsBlockOption x → are_written_items (before_stmts (optional_stmt line x) no_stmts) ≡ true
  optional_is line None l h = refl
  optional_is line (Some kind) l h = join (as_item (stmt line kind) (join l (h.shape line.0))) refl

  alone : (s : StmtData) → is_written_stmt s ≡ true → are_written_items (before_stmts (s ∷ []) no_stmts) ≡ true
  alone s h = join (as_item s h) refl

  mutual
    stmt_is : (s : StmtData) → is_source_stmt s ≡ true → keeps_stmt written s ≡ true → is_written_stmt (written_stmt embedded s) ≡ true
    stmt_is (stmt line kind) h k = let p = both (is_line line.0) (is_source_kind kind) h in join p.0 (kind_is line.0 kind p.1 k)

    kind_is : (n : ℕ) (kind : StmtKindData) → is_source_kind kind ≡ true → keeps_kind written kind ≡ true → is_written_kind n (written_kind embedded n kind) ≡ true
    kind_is n empty_stmt h k = refl
    kind_is n (expr_stmt e) h k = expr_is n e h k
    kind_is n (block_stmt ss) h k = items_are ss h k
    kind_is n (if_stmt e s other) h k =
        let p = both (is_source_expr e) (is_source_stmt s && is_source_else (is_open s) other) h in
        let a = both (is_source_stmt s) (is_source_else (is_open s) other) p.1 in
        let q = both (keeps_expr written e) (keeps_stmt written s && keeps_else written other) k in
        let b = both (keeps_stmt written s) (keeps_else written other) q.1 in
        join (expr_is n e p.0 q.0) (join (stmt_is s a.0 b.0) (else_is (is_open s) (is_open (written_stmt embedded s)) (same_open s) other a.1 b.1))
    kind_is n (while_stmt e s) h k =
        let p = both (is_source_expr e) (is_source_stmt s) h in
        let q = both (keeps_expr written e) (keeps_stmt written s) k in
        join (expr_is n e p.0 q.0) (stmt_is s p.1 q.1)
    kind_is n (do_stmt s e) h k =
        let p = both (is_source_stmt s) (is_source_expr e) h in
        let q = both (keeps_stmt written s) (keeps_expr written e) k in
        let behind = line_after (written_stmt embedded s) in
        join (stmt_is s p.0 q.0) (subst (λ m. is_written_expr m (written_expr behind e) ≡ true) (sym (stmt_line (written_stmt embedded s) (suc n))) (expr_is behind e p.1 q.1))
    kind_is n (for_stmt x y z s) h k =
        let p = both (is_source_option x && (is_source_option y && is_source_option z)) (is_source_stmt s) h in
        let a = both (is_source_option x) (is_source_option y && is_source_option z) p.0 in
        let b = both (is_source_option y) (is_source_option z) a.1 in
        let q = both (keeps_option written x && (keeps_option written y && keeps_option written z)) (keeps_stmt written s) k in
        let c = both (keeps_option written x) (keeps_option written y && keeps_option written z) q.0 in
        let d = both (keeps_option written y) (keeps_option written z) c.1 in
        join (join (option_is n x a.0 c.0) (join (option_is n y b.0 d.0) (option_is n z b.1 d.1))) (stmt_is s p.1 q.1)
    kind_is n break_stmt h k = refl
    kind_is n continue_stmt h k = refl
    kind_is n (return_stmt e) h k = option_is n e h k
    kind_is n (goto_stmt l) h k = h
    kind_is n (label_stmt l s) h k = let p = both (is_plain_name l) (is_source_stmt s) h in join p.0 (stmt_is s p.1 k)
    kind_is n (decl_stmt d) h k = absurd (false≢true h)
    kind_is n (emb_stmt m) h k = block_is n (embedded m) (blocks m)
    kind_is n (mark_stmt opens) h k = absurd (false≢true h)

    else_is : (before after : Bool) → after ≡ before → (o : StmtOption) → is_source_else before o ≡ true → keeps_else written o ≡ true → is_written_else after (written_else embedded o) ≡ true
    else_is before after e no_stmt h k = refl
    else_is before after e (some_stmt s) h k = let p = both (not before) (is_source_stmt s) h in join (ap not e ∙ p.0) (stmt_is s p.1 k)

    items_are : (ss : StmtList) → are_source_items ss ≡ true → keeps_stmts written ss ≡ true → are_written_items (written_items embedded ss) ≡ true
    items_are no_stmts h k = refl
    items_are (stmts s ss) h k =
        let p = both (is_source_item s) (are_source_items ss) h in
        let q = both (keeps_stmt written s) (keeps_stmts written ss) k in
        items_before (written_item embedded s) (written_items embedded ss) (item_is s p.0 q.0) (items_are ss p.1 q.1)

    item_is : (s : StmtData) → is_source_item s ≡ true → keeps_stmt written s ≡ true → are_written_items (before_stmts (written_item embedded s) no_stmts) ≡ true
    item_is (stmt line (decl_stmt d)) h k =
        let p = both (is_line line.0) (is_source_decl d || false) h in
        decls_are line (written_decl line.0 d) p.0 (decl_is line.0 d (no_other (is_source_decl d) p.1) k)
    item_is (stmt line (emb_stmt m)) h k = optional_is line (embedded m) (both (is_line line.0) true h).0 (blocks m)
    item_is (stmt line (mark_stmt opens)) h k = refl
    item_is (stmt line empty_stmt) h k = let p = both (is_line line.0) (is_source_kind empty_stmt) h in alone (stmt line (written_kind embedded line.0 empty_stmt)) (join p.0 (kind_is line.0 empty_stmt p.1 k))
    item_is (stmt line (expr_stmt e)) h k = let p = both (is_line line.0) (is_source_kind (expr_stmt e)) h in alone (stmt line (written_kind embedded line.0 (expr_stmt e))) (join p.0 (kind_is line.0 (expr_stmt e) p.1 k))
    item_is (stmt line (block_stmt ss)) h k = let p = both (is_line line.0) (is_source_kind (block_stmt ss)) h in alone (stmt line (written_kind embedded line.0 (block_stmt ss))) (join p.0 (kind_is line.0 (block_stmt ss) p.1 k))
    item_is (stmt line (if_stmt e s other)) h k = let p = both (is_line line.0) (is_source_kind (if_stmt e s other)) h in alone (stmt line (written_kind embedded line.0 (if_stmt e s other))) (join p.0 (kind_is line.0 (if_stmt e s other) p.1 k))
    item_is (stmt line (while_stmt e s)) h k = let p = both (is_line line.0) (is_source_kind (while_stmt e s)) h in alone (stmt line (written_kind embedded line.0 (while_stmt e s))) (join p.0 (kind_is line.0 (while_stmt e s) p.1 k))
    item_is (stmt line (do_stmt s e)) h k = let p = both (is_line line.0) (is_source_kind (do_stmt s e)) h in alone (stmt line (written_kind embedded line.0 (do_stmt s e))) (join p.0 (kind_is line.0 (do_stmt s e) p.1 k))
    item_is (stmt line (for_stmt x y z s)) h k = let p = both (is_line line.0) (is_source_kind (for_stmt x y z s)) h in alone (stmt line (written_kind embedded line.0 (for_stmt x y z s))) (join p.0 (kind_is line.0 (for_stmt x y z s) p.1 k))
    item_is (stmt line break_stmt) h k = let p = both (is_line line.0) (is_source_kind break_stmt) h in alone (stmt line (written_kind embedded line.0 break_stmt)) (join p.0 (kind_is line.0 break_stmt p.1 k))
    item_is (stmt line continue_stmt) h k = let p = both (is_line line.0) (is_source_kind continue_stmt) h in alone (stmt line (written_kind embedded line.0 continue_stmt)) (join p.0 (kind_is line.0 continue_stmt p.1 k))
    item_is (stmt line (return_stmt e)) h k = let p = both (is_line line.0) (is_source_kind (return_stmt e)) h in alone (stmt line (written_kind embedded line.0 (return_stmt e))) (join p.0 (kind_is line.0 (return_stmt e) p.1 k))
    item_is (stmt line (goto_stmt l)) h k = let p = both (is_line line.0) (is_source_kind (goto_stmt l)) h in alone (stmt line (written_kind embedded line.0 (goto_stmt l))) (join p.0 (kind_is line.0 (goto_stmt l) p.1 k))
    item_is (stmt line (label_stmt l s)) h k = let p = both (is_line line.0) (is_source_kind (label_stmt l s)) h in alone (stmt line (written_kind embedded line.0 (label_stmt l s))) (join p.0 (kind_is line.0 (label_stmt l s) p.1 k))

  -- ---- programs

  body_is : (b : Option StmtList) → is_source_body b ≡ true → keeps_body written b ≡ true → is_written_body (written_body embedded b) ≡ true
  body_is None h k = refl
  body_is (Some ss) h k = items_are ss h k

  param_is : (n : ℕ) (q : ParamData) → is_source_param q ≡ true → keeps_param written q ≡ true → is_written_param n (written_param embedded n q) ≡ true
  param_is n q h k =
      let p = both (is_source_base q.base) (is_written_name q.name && are_source_dims q.dims) h in
      let a = both (is_written_name q.name) (are_source_dims q.dims) p.1 in
      let c = both (keeps_type written q.base) (keeps_dims written q.dims) k in
      join (type_is n q.base p.0 c.0) (join a.0 (dims_are n q.dims a.1 c.1))

  params_are : (n : ℕ) (qs : List ParamData) → are_source_params qs ≡ true → keeps_params written qs ≡ true → are_written_params n (map (written_param embedded n) qs) ≡ true
  params_are n [] h k = refl
  params_are n (q ∷ qs) h k =
      let p = both (is_source_param q) (are_source_params qs) h in
      let c = both (keeps_param written q) (keeps_params written qs) k in
      join (param_is n q p.0 c.0) (params_are n qs p.1 c.1)

  same_void : (n : ℕ) (b : BaseData) (stars : ℕ) (name : Option Text) (ds : DimList) → is_void (written_base n b) stars name (written_dims n ds) ≡ is_void b stars name ds
  same_void n (words []) stars name ds = refl
  same_void n (words (w ∷ [])) zero None no_dims = refl
  same_void n (words (w ∷ [])) zero None (dims d ds) = refl
  same_void n (words (w ∷ [])) zero (Some x) ds = refl
  same_void n (words (w ∷ [])) (suc stars) name ds = refl
  same_void n (words (w ∷ v ∷ ws)) stars name ds = refl
  same_void n varchar stars name ds = refl
  same_void n (tagged t) stars name ds = refl
  same_void n (struct_base t ms) stars name ds = refl

  same_list : (n : ℕ) (qs : List ParamData) → is_void_list (map (written_param embedded n) qs) ≡ is_void_list qs
  same_list n [] = refl
  same_list n (q ∷ []) = same_void n q.base q.stars q.name q.dims
  same_list n (q ∷ r ∷ qs) = refl

  func_is : (f : FuncData) → is_source_func f ≡ true → keeps_func written f ≡ true → is_written_func (written_func embedded f) ≡ true
  func_is f h k =
      let n = f.line.0 in
      let p = both (is_line n) ((is_source_base f.base && is_plain_name f.name) && ((are_source_params f.params && not (is_void_list f.params)) && is_source_body f.body)) h in
      let a = both (is_source_base f.base && is_plain_name f.name) ((are_source_params f.params && not (is_void_list f.params)) && is_source_body f.body) p.1 in
      let b = both (is_source_base f.base) (is_plain_name f.name) a.0 in
      let c = both (are_source_params f.params && not (is_void_list f.params)) (is_source_body f.body) a.1 in
      let d = both (are_source_params f.params) (not (is_void_list f.params)) c.0 in
      let q = both (keeps_type written f.base) (keeps_params written f.params && keeps_body written f.body) k in
      let r = both (keeps_params written f.params) (keeps_body written f.body) q.1 in
      join p.0 (join (join (type_is n f.base b.0 q.0) b.1) (join (join (params_are n f.params d.0 r.0) (ap not (same_list n f.params) ∙ d.1)) (body_is f.body c.1 r.1)))

  tops_joined : (ts us : List TopData) → are_written_tops ts ≡ true → are_written_tops us ≡ true → are_written_tops (ts ++ us) ≡ true
  tops_joined [] us h k = k
  tops_joined (t ∷ ts) us h k = let p = both (is_written_top t) (are_written_tops ts) h in join p.0 (tops_joined ts us p.1 k)

  -- each stands on this line
  decl_tops : (n : ℕ) (ds : List DeclData) → is_line n ≡ true → are_written_decls n ds ≡ true → are_written_tops (map decl_top ds) ≡ true
  decl_tops n [] l h = refl
  decl_tops n (decl b ds section line ∷ more) l h =
      let p = both (is_written_decl n (decl b ds section line)) (are_written_decls n more) h in
      let same : line.0 ≡ n = on_line p.0 in
      join (join (ap is_line same ∙ l) (subst (λ m. is_written_decl m (decl b ds section line) ≡ true) (sym same) p.0)) (decl_tops n more l p.1)
    where
      on_line : is_written_decl n (decl b ds section line) ≡ true → line.0 ≡ n
      on_line e = eqb-true _ _ (both (not section) (line.0 == n) (both (not section && line.0 == n) _ e).0).1

  top_is : (t : TopData) → is_source_top t ≡ true → keeps_top written t ≡ true → are_written_tops (written_top embedded t) ≡ true
  top_is (include_top bytes) h k = join h refl
  top_is (directive_top m) h k = refl
  top_is (decl_top (decl b ds section line)) h k =
      decl_tops line.0 (written_decl line.0 (decl b ds section line)) (both (is_line line.0) (is_source_base b && are_source_declarators ds) h).0 (decl_is line.0 (decl b ds section line) h k)
  top_is (func_top f) h k = join (func_is f h k) refl
  top_is (mark_top opens line) h k = refl

  pub tops_are : (ts : List TopData) → are_source_tops ts ≡ true → keeps_tops written ts ≡ true → are_written_tops (written_tops embedded ts) ≡ true
  tops_are [] h k = refl
  tops_are (t ∷ ts) h k =
      let p = both (is_source_top t) (are_source_tops ts) h in
      let q = both (keeps_top written t) (keeps_tops written ts) k in
      tops_joined (written_top embedded t) (written_tops embedded ts) (top_is t p.0 q.0) (tops_are ts p.1 q.1)

pub program_is : (u : UnitData) (embedded : ℕ → Option StmtKindData) → is_source_shape u ≡ true → is_kept written u ≡ true → ((n : ℕ) → IsBlockOption (embedded n)) → is_written_shape (unit_of (written_tops embedded u.tops)) ≡ true
program_is u embedded h k blocks = join (tops_are embedded blocks u.tops h k) refl
