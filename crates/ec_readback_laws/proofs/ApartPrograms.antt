-- The chunks of statements, functions and programs stand apart.
use Rattle.std.proofs.Common.{◌≡◌, ℕ, zero, suc, ◌<◌, Bool, true, false, not, ◌&&◌, ◌⊎◌, List, [], ◌∷◌, ◌++◌, refl, inl, inr, sym, subst, arith, Option, Some, None, append-nil, take, append_assoc, ap, ◌∙◌}
use Rattle.std.specs.Prelude.{codes, nat_lt, ◌==◌, ◌||◌}
use Rattle.std.proofs.lemmas.Bool.{false≢true}
use Rattle.std.proofs.lemmas.Bool.Decides.{nat_tests}
use Rattle.ec_ctypes.specs.declared.text.token.Punct.{Punct}
use Rattle.ec_ctypes.specs.declared.text.token.Punct.TheVariants as p
use Rattle.ec_ctypes.specs.trees.Exprs.{ExprData, DimList, no_dims, dims, DeclData, decl}
use Rattle.ec_ctypes.specs.trees.Stmts.{StmtData, stmt, StmtKindData, empty_stmt, expr_stmt, block_stmt, if_stmt, while_stmt, do_stmt, for_stmt, break_stmt, continue_stmt, return_stmt, goto_stmt, label_stmt, decl_stmt, emb_stmt, mark_stmt, StmtList, no_stmts, stmts, StmtOption, no_stmt, some_stmt}
use Rattle.ec_ctypes.specs.trees.Units.{ParamData, FuncData, TopData, include_top, directive_top, decl_top, func_top, mark_top}
use Rattle.ec_language.specs.Letters.{Text, newline, is_word_byte, is_not_newline, begins, begins_with, each, same_text}
use Rattle.ec_language.specs.ReadTokens.{include_behind}
use Rattle.ec_language.proofs.Ends.{both}
use Rattle.ec_language.proofs.Classes.{either}
use Rattle.ec_writing_defs.specs.Chunks.{blank, line_end, line_mark, Chunks, text_of, line_behind}
use Rattle.ec_writing_defs.specs.Expressions.{mark, word, in_parens, star_chunks, expr_chunks, base_chunks, dims_chunks, decl_chunks}
use Rattle.ec_writing_defs.specs.Programs.{option_chunks, head_chunks, stmt_chunks, kind_chunks, items_chunks, else_chunks, block_chunks, param_name, param_chunks, more_params_chunks, params_chunks, body_chunks, func_chunks, top_chunks, tops_chunks}
use Rattle.ec_writing_defs.specs.Shapes.{is_plain_name, is_line, is_written_expr, is_written_base, are_written_dims, are_written_declarators, is_written_decl, is_declaration, is_written_option, is_open, is_written_stmt, is_written_kind, is_written_else, are_written_items, is_written_item, is_written_name, is_written_param, are_written_params, is_void_list, is_written_body, is_written_func, is_written_top, are_written_tops, has_no_piece, is_line_end}
use Rattle.ec_readback_laws.proofs.Marks.{is_tail}
use Rattle.ec_readback_laws.proofs.Lexing.{begins_hash}
use Rattle.ec_readback_laws.proofs.Parts.{begins_line, Fits, AllFit}
use Rattle.ec_readback_laws.proofs.Apart.{Fine, fine_append, fine_all, Closing, weaker, a_mark, word_fits, plain_start, stars_fine, is_loose, parens_fine, expr_fine, base_fine, dims_closing, dims_fine, named_fine, decl_parts_fine, declarators_fine}
use Rattle.ec_readback_laws.proofs.Starts.{begins_token, no_line, token_before, line_before, expr_line, base_token, stars_token}

whole_fine : (n : ℕ) (e : ExprData) (rest : Chunks) → is_written_expr n e ≡ true → Closing true rest → Fine (expr_chunks e) rest
whole_fine n e rest h c = expr_fine n e h rest (weaker (is_loose e) rest c)

-- a declaration, before the end of its line
decl_fine : (n : ℕ) (d : DeclData) (rest : Chunks) → is_written_decl n d ≡ true → Fine (decl_chunks d ++ line_end ∷ []) rest
decl_fine n (decl b ds section line) rest h =
    let k = both (not section && line.0 == n) (is_written_base n b && are_written_declarators n ds) h in
    let j = both (is_written_base n b) (are_written_declarators n ds) k.1 in
    fine_append (decl_chunks (decl b ds section line)) (line_end ∷ []) rest
    (decl_parts_fine n b ds (line_end ∷ rest) refl (base_fine n b j.0) (declarators_fine n ds (line_end ∷ rest) j.1)) (tt, tt)

-- ---- statements

line_fits : (n : ℕ) (cs : Chunks) → is_line n ≡ true → Fits (line_mark n) cs
line_fits n cs h =
    let k = both (nat_lt 0 n) (nat_lt n 1000000000) h in
    let a = k.0 in
    let b = k.1 in
    (less 0 n a, less n 1000000000 b)
  where
    less : (x y : ℕ) → nat_lt x y ≡ true → x < y
    less x y e = grind (arith, nat_tests)

semicolon : (rest : Chunks) → Fine (mark p.Semicolon ∷ line_end ∷ []) rest
semicolon rest = ((refl, refl, refl), (tt, tt))

option_fine : (n : ℕ) (m : Punct) (e : Option ExprData) (rest : Chunks) → is_written_option n e ≡ true → Closing true (mark m ∷ rest) → Fine (option_chunks e) (mark m ∷ rest)
option_fine n m None rest h c = tt
option_fine n m (Some e) rest h c = whole_fine n e (mark m ∷ rest) h c

option_line : (e : Option ExprData) (rest : Chunks) → begins_line rest ≡ false → begins_line (option_chunks e ++ rest) ≡ false
option_line None rest l = l
option_line (Some e) rest l = expr_line e rest

condition_fine : (n : ℕ) (e : ExprData) (rest : Chunks) → is_written_expr n e ≡ true → begins_line rest ≡ false → Fine (blank ∷ in_parens (expr_chunks e)) rest
condition_fine n e rest h l = (refl, parens_fine n e (expr_fine n e h) rest l)

head_fine : (n : ℕ) (a b c : Option ExprData) (rest : Chunks) → is_written_option n a ≡ true → is_written_option n b ≡ true → is_written_option n c ≡ true → begins_line rest ≡ false → Fine (head_chunks a b c) rest
head_fine n a b c rest h k l q =
    let zs = mark p.Semicolon ∷ blank ∷ option_chunks c ++ mark p.RightParen ∷ [] in
    let ys = blank ∷ option_chunks b ++ zs in
    let xs = option_chunks a ++ mark p.Semicolon ∷ [] in (
      (refl, line_before xs ys rest (line_before (option_chunks a) (mark p.Semicolon ∷ []) (ys ++ rest) (option_line a (mark p.Semicolon ∷ ys ++ rest) refl)), refl),
      fine_append xs ys rest
          (fine_append (option_chunks a) (mark p.Semicolon ∷ []) (ys ++ rest) (option_fine n p.Semicolon a (ys ++ rest) h (a_mark p.Semicolon (ys ++ rest) refl)) ((refl, refl, refl), tt)) (
            line_before (option_chunks b) zs rest (option_line b (zs ++ rest) refl),
            fine_append (option_chunks b) zs rest (option_fine n p.Semicolon b ((blank ∷ option_chunks c ++ mark p.RightParen ∷ []) ++ rest) k (a_mark p.Semicolon ((blank ∷ option_chunks c ++ mark p.RightParen ∷ []) ++ rest) refl)) (
              (refl, refl, refl),
              (
                line_before (option_chunks c) (mark p.RightParen ∷ []) rest (option_line c (mark p.RightParen ∷ rest) refl),
                fine_append (option_chunks c) (mark p.RightParen ∷ []) rest (option_fine n p.RightParen c rest l (a_mark p.RightParen rest refl)) ((refl, q, refl), tt),
              ),
            ),
          ),
    )

block_fine : (ss : StmtList) → ((r : Chunks) → Fine (items_chunks ss) r) → (rest : Chunks) → Fine (block_chunks ss) (line_end ∷ rest)
block_fine ss f rest = ((refl, refl, refl), (tt, fine_append (items_chunks ss) (mark p.RightBrace ∷ []) (line_end ∷ rest) (f (mark p.RightBrace ∷ line_end ∷ rest)) ((refl, refl, refl), tt)))

declared_fine : (n : ℕ) (kind : StmtKindData) (rest : Chunks) → is_declaration n kind ≡ true → Fine (kind_chunks kind) rest
declared_fine n (decl_stmt d) rest h = decl_fine n d rest h
declared_fine n empty_stmt rest h = absurd (false≢true h)
declared_fine n _ rest h = absurd (false≢true h)

one_item : (n : ℕ) (kind : StmtKindData) (rest : Chunks) → (is_written_kind n kind ≡ true → Fine (kind_chunks kind) rest) → (is_declaration n kind ≡ true) ⊎ (is_written_kind n kind ≡ true) → Fine (kind_chunks kind) rest
one_item n kind rest f (inl h) = declared_fine n kind rest h
one_item n kind rest f (inr h) = f h

mutual
  pub stmt_fine : (s : StmtData) → is_written_stmt s ≡ true → (rest : Chunks) → Fine (stmt_chunks s) rest
  stmt_fine (stmt line kind) h rest = let k = both (is_line line.0) (is_written_kind line.0 kind) h in (line_fits line.0 (kind_chunks kind ++ rest) k.0, kind_fine line.0 kind k.1 rest)

  kind_fine : (n : ℕ) (kind : StmtKindData) → is_written_kind n kind ≡ true → (rest : Chunks) → Fine (kind_chunks kind) rest
  kind_fine n empty_stmt h rest = semicolon rest
  kind_fine n (expr_stmt e) h rest = fine_append (expr_chunks e) (mark p.Semicolon ∷ line_end ∷ []) rest (whole_fine n e (mark p.Semicolon ∷ line_end ∷ rest) h (a_mark p.Semicolon (line_end ∷ rest) refl)) (semicolon rest)
  kind_fine n (block_stmt ss) h rest = fine_append (block_chunks ss) (line_end ∷ []) rest (block_fine ss (λ r. items_fine ss h r) rest) (tt, tt)
  kind_fine n (if_stmt e s other) h rest =
      let k = both (is_written_expr n e) (is_written_stmt s && is_written_else (is_open s) other) h in
      let j = both (is_written_stmt s) (is_written_else (is_open s) other) k.1 in
      let ys = line_end ∷ stmt_chunks s ++ else_chunks other in (
        ((refl, refl, refl, refl), refl, refl),
        fine_append (blank ∷ in_parens (expr_chunks e)) ys rest (condition_fine n e (ys ++ rest) k.0 refl)
            (tt, fine_append (stmt_chunks s) (else_chunks other) rest (stmt_fine s j.0 (else_chunks other ++ rest)) (else_fine (is_open s) other j.1 rest)),
      )
  kind_fine n (while_stmt e s) h rest = let k = both (is_written_expr n e) (is_written_stmt s) h in
      (((refl, refl, refl, refl), refl, refl), fine_append (blank ∷ in_parens (expr_chunks e)) (line_end ∷ stmt_chunks s) rest (condition_fine n e ((line_end ∷ stmt_chunks s) ++ rest) k.0 refl) (tt, stmt_fine s k.1 rest))
  kind_fine n (do_stmt s e) h rest =
      let m = line_behind (suc n) (stmt_chunks s) in
      let k = both (is_written_stmt s) (is_written_expr m e) h in
      let zs = mark p.Semicolon ∷ line_end ∷ [] in
      let ys = word (codes "while") ∷ blank ∷ in_parens (expr_chunks e) ++ zs in (
        ((refl, refl, refl, refl), refl, refl),
        (
          tt,
          fine_append (stmt_chunks s) ys rest (stmt_fine s k.0 (ys ++ rest))
              (((refl, refl, refl, refl), refl, refl), fine_append (blank ∷ in_parens (expr_chunks e)) zs rest (condition_fine m e (zs ++ rest) k.1 refl) (semicolon rest)),
        ),
      )
  kind_fine n (for_stmt a b c s) h rest =
      let k = both (is_written_option n a && (is_written_option n b && is_written_option n c)) (is_written_stmt s) h in
      let i = both (is_written_option n a) (is_written_option n b && is_written_option n c) k.0 in
      let j = both (is_written_option n b) (is_written_option n c) i.1 in
      (((refl, refl, refl, refl), refl, refl), (refl, fine_append (head_chunks a b c) (line_end ∷ stmt_chunks s) rest (head_fine n a b c ((line_end ∷ stmt_chunks s) ++ rest) i.0 j.0 j.1 refl) (tt, stmt_fine s k.1 rest)))
  kind_fine n break_stmt h rest = (((refl, refl, refl, refl), refl, refl), semicolon rest)
  kind_fine n continue_stmt h rest = (((refl, refl, refl, refl), refl, refl), semicolon rest)
  kind_fine n (return_stmt None) h rest = (((refl, refl, refl, refl), refl, refl), semicolon rest)
  kind_fine n (return_stmt (Some e)) h rest = (
    ((refl, refl, refl, refl), refl, refl),
    fine_append (blank ∷ expr_chunks e) (mark p.Semicolon ∷ line_end ∷ []) rest
        (expr_line e (mark p.Semicolon ∷ line_end ∷ rest), whole_fine n e (mark p.Semicolon ∷ line_end ∷ rest) h (a_mark p.Semicolon (line_end ∷ rest) refl)) (semicolon rest),
  )
  kind_fine n (goto_stmt l) h rest = (((refl, refl, refl, refl), refl, refl), (refl, (word_fits l (mark p.Semicolon ∷ line_end ∷ rest) h refl refl refl, semicolon rest)))
  kind_fine n (label_stmt l s) h rest = let k = both (is_plain_name l) (is_written_stmt s) h in
      (word_fits l (mark p.Colon ∷ line_end ∷ stmt_chunks s ++ rest) k.0 refl refl refl, ((refl, refl, refl), (tt, stmt_fine s k.1 rest)))
  kind_fine n (decl_stmt d) h rest = absurd (false≢true h)
  kind_fine n (emb_stmt m) h rest = absurd (false≢true h)
  kind_fine n (mark_stmt opens) h rest = absurd (false≢true h)

  else_fine : (opens : Bool) (o : StmtOption) → is_written_else opens o ≡ true → (rest : Chunks) → Fine (else_chunks o) rest
  else_fine opens no_stmt h rest = tt
  else_fine opens (some_stmt s) h rest = (((refl, refl, refl, refl), refl, refl), (tt, stmt_fine s ((both (not opens) (is_written_stmt s) h).1) rest))

  pub items_fine : (ss : StmtList) → are_written_items ss ≡ true → (rest : Chunks) → Fine (items_chunks ss) rest
  items_fine no_stmts h rest = tt
  items_fine (stmts s ss) h rest = let k = both (is_written_item s) (are_written_items ss) h in
      fine_append (stmt_chunks s) (items_chunks ss) rest (item_fine s k.0 (items_chunks ss ++ rest)) (items_fine ss k.1 rest)

  item_fine : (s : StmtData) → is_written_item s ≡ true → (rest : Chunks) → Fine (stmt_chunks s) rest
  item_fine (stmt line kind) h rest = let k = both (is_line line.0) (is_declaration line.0 kind || is_written_kind line.0 kind) h in
      (line_fits line.0 (kind_chunks kind ++ rest) k.0, one_item line.0 kind rest (λ w. kind_fine line.0 kind w rest) (either (is_declaration line.0 kind) (is_written_kind line.0 kind) k.1))

-- ---- functions and programs

param_free : (n : ℕ) (x : Option Text) (ds : DimList) (rest : Chunks) → Closing true rest → (begins is_word_byte (text_of ((param_name n x ++ dims_chunks ds) ++ rest)) ≡ false) × (begins_line ((param_name n x ++ dims_chunks ds) ++ rest) ≡ false)
param_free zero None ds rest c = let b : Closing true (dims_chunks ds ++ rest) = dims_closing ds rest c in (b.word, b.line)
param_free (suc n) None ds rest c = (refl, refl)
param_free zero (Some x) ds rest c = (refl, refl)
param_free (suc n) (Some x) ds rest c = (refl, refl)

dims_soft : (ds : DimList) (rest : Chunks) → begins is_tail (text_of rest) ≡ false → begins is_tail (text_of (dims_chunks ds ++ rest)) ≡ false
dims_soft no_dims rest h = h
dims_soft (dims d ds) rest h = refl

names_fine : (n : ℕ) (x : Option Text) (r : Chunks) → is_written_name x ≡ true → Closing true r → begins is_tail (text_of r) ≡ false → Fine (param_name n x) r
names_fine zero None r h c u = tt
names_fine (suc n) None r h c u = (refl, stars_fine (suc n) r u c.line)
names_fine zero (Some x) r h c u = (refl, named_fine zero x r h c)
names_fine (suc n) (Some x) r h c u = (refl, named_fine (suc n) x r h c)

param_fine : (n : ℕ) (q : ParamData) (rest : Chunks) → is_written_param n q ≡ true → Closing true rest → begins is_tail (text_of rest) ≡ false → Fine (param_chunks q) rest
param_fine n q rest h c u =
    let k = both (not q.section && is_written_base n q.base) (is_written_name q.name && are_written_dims n q.dims) h in
    let i = both (not q.section) (is_written_base n q.base) k.0 in
    let j = both (is_written_name q.name) (are_written_dims n q.dims) k.1 in
    let f = param_free q.stars q.name q.dims rest c in
    let b : Closing true (dims_chunks q.dims ++ rest) = dims_closing q.dims rest c in
    fine_append (base_chunks q.base) (param_name q.stars q.name ++ dims_chunks q.dims) rest (base_fine n q.base i.1 ((param_name q.stars q.name ++ dims_chunks q.dims) ++ rest) f.0 f.1)
    (fine_append (param_name q.stars q.name) (dims_chunks q.dims) rest (names_fine q.stars q.name (dims_chunks q.dims ++ rest) j.0 b (dims_soft q.dims rest u)) (dims_fine n q.dims rest j.1 c.line))

param_token : (n : ℕ) (q : ParamData) (rest : Chunks) → is_written_param n q ≡ true → begins_token (param_chunks q ++ rest) ≡ true
param_token n q rest h =
    let k = both (not q.section && is_written_base n q.base) (is_written_name q.name && are_written_dims n q.dims) h in
    token_before (base_chunks q.base) (param_name q.stars q.name ++ dims_chunks q.dims) rest (base_token n q.base ((param_name q.stars q.name ++ dims_chunks q.dims) ++ rest) ((both (not q.section) (is_written_base n q.base) k.0).1))

more_params_closing : (qs : List ParamData) (rest : Chunks) → Closing true (more_params_chunks qs ++ mark p.RightParen ∷ rest) × (begins is_tail (text_of (more_params_chunks qs ++ mark p.RightParen ∷ rest)) ≡ false)
more_params_closing [] rest = (a_mark p.RightParen rest refl, refl)
more_params_closing (q ∷ qs) rest = (a_mark p.Comma ((blank ∷ param_chunks q ++ more_params_chunks qs) ++ mark p.RightParen ∷ rest) refl, refl)

one_param_fine : (n : ℕ) (q : ParamData) (qs : List ParamData) (rest : Chunks) → is_written_param n q ≡ true → Fine (more_params_chunks qs) (mark p.RightParen ∷ rest)
    → (begins_line ((param_chunks q ++ more_params_chunks qs) ++ mark p.RightParen ∷ rest) ≡ false) × Fine (param_chunks q ++ more_params_chunks qs) (mark p.RightParen ∷ rest)
one_param_fine n q qs rest h f =
    let more = more_params_chunks qs ++ mark p.RightParen ∷ rest in
    let c = more_params_closing qs rest in (
      line_before (param_chunks q) (more_params_chunks qs) (mark p.RightParen ∷ rest) (no_line (param_chunks q ++ more) (param_token n q more h)),
      fine_append (param_chunks q) (more_params_chunks qs) (mark p.RightParen ∷ rest) (param_fine n q more h c.0 c.1) f,
    )

more_params_fine : (n : ℕ) (qs : List ParamData) (rest : Chunks) → are_written_params n qs ≡ true → Fine (more_params_chunks qs) (mark p.RightParen ∷ rest)
more_params_fine n [] rest h = tt
more_params_fine n (q ∷ qs) rest h = let k = both (is_written_param n q) (are_written_params n qs) h in let o = one_param_fine n q qs rest k.0 (more_params_fine n qs rest k.1) in
    ((refl, refl, refl), (o.0, o.1))

params_fine : (n : ℕ) (qs : List ParamData) (rest : Chunks) → are_written_params n qs ≡ true → begins_line rest ≡ false → Fine (params_chunks qs) rest
params_fine n [] rest h l = ((refl, refl, refl), (((refl, refl, refl, refl), refl, refl), ((refl, l, refl), tt)))
params_fine n (q ∷ qs) rest h l =
    let k = both (is_written_param n q) (are_written_params n qs) h in
    let o = one_param_fine n q qs rest k.0 (more_params_fine n qs rest k.1) in
    let ps = param_chunks q ++ more_params_chunks qs in
    ((refl, line_before ps (mark p.RightParen ∷ []) rest o.0, refl), fine_append ps (mark p.RightParen ∷ []) rest o.1 ((refl, l, refl), tt))

body_line : (b : Option StmtList) (rest : Chunks) → begins_line (body_chunks b ++ rest) ≡ false
body_line None rest = refl
body_line (Some ss) rest = refl

body_fine : (b : Option StmtList) (rest : Chunks) → is_written_body b ≡ true → Fine (body_chunks b) (line_end ∷ rest)
body_fine None rest h = ((refl, refl, refl), tt)
body_fine (Some ss) rest h = (tt, block_fine ss (λ r. items_fine ss h r) rest)

params_head : (qs : List ParamData) → (cs : Chunks) × (params_chunks qs ≡ mark p.LeftParen ∷ cs)
params_head [] = (_, refl)
params_head (q ∷ qs) = (_, refl)

func_fine : (f : FuncData) (rest : Chunks) → is_written_func f ≡ true → Fine (top_chunks (func_top f)) rest
func_fine f rest h =
    let k = both (not f.section && is_line f.line.0) ((is_written_base f.line.0 f.base && is_plain_name f.name) && ((are_written_params f.line.0 f.params && not (is_void_list f.params)) && is_written_body f.body)) h in
    let a = both (not f.section) (is_line f.line.0) k.0 in
    let i = both (is_written_base f.line.0 f.base && is_plain_name f.name) ((are_written_params f.line.0 f.params && not (is_void_list f.params)) && is_written_body f.body) k.1 in
    let j = both (is_written_base f.line.0 f.base) (is_plain_name f.name) i.0 in
    let l = both (are_written_params f.line.0 f.params && not (is_void_list f.params)) (is_written_body f.body) i.1 in
    let m = both (are_written_params f.line.0 f.params) (not (is_void_list f.params)) l.0 in
    let r = line_end ∷ rest in
    let ps = params_chunks f.params in
    let zs = word f.name ∷ ps ++ body_chunks f.body in
    let ys = blank ∷ star_chunks f.stars ++ zs in
    let e = params_head f.params in (
      line_fits f.line.0 ((func_chunks f ++ line_end ∷ []) ++ rest) a.1,
      fine_append (func_chunks f) (line_end ∷ []) rest
          (fine_append (base_chunks f.base) ys r (base_fine f.line.0 f.base j.0 (ys ++ r) refl refl) (
            line_before (star_chunks f.stars) zs r (no_line (star_chunks f.stars ++ (zs ++ r)) (stars_token f.stars f.name ((ps ++ body_chunks f.body) ++ r))),
            fine_append (star_chunks f.stars) zs r (stars_fine f.stars (zs ++ r) (plain_start f.name _ j.1) refl) (
              subst (λ qs. Fits (word f.name) ((qs ++ body_chunks f.body) ++ r)) (sym e.1) (word_fits f.name ((mark p.LeftParen ∷ e.0 ++ body_chunks f.body) ++ r) j.1 refl refl refl),
              fine_append ps (body_chunks f.body) r (params_fine f.line.0 f.params (body_chunks f.body ++ r) m.0 (body_line f.body r)) (body_fine f.body rest l.1),
            ),
          ))
          (tt, tt),
    )

-- what stands at the top level begins with `#`, as the first byte of its first line
top_hash : (t : TopData) (rest : Chunks) → is_written_top t ≡ true → begins_hash (text_of (top_chunks t ++ rest)) ≡ true
top_hash (decl_top d) rest h = refl
top_hash (func_top f) rest h = refl
top_hash (include_top s) rest h = hash s (text_of (line_end ∷ rest)) (both (begins_with (codes "#include") s) (each is_not_newline s && (has_no_piece s && is_line_end (include_behind (s ++ newline ∷ [])))) h).0
  where
    hash : (s t : Text) → begins_with (codes "#include") s ≡ true → begins_hash (s ++ t) ≡ true
    hash [] t e = absurd (false≢true e)
    hash (b ∷ s) t e = let k = both (35 == b) (same_text (codes "include") (take 7 s)) e in let l = k.0 in grind (arith, nat_tests)
top_hash (directive_top n) rest h = absurd (false≢true h)
top_hash (mark_top b l) rest h = absurd (false≢true h)

tops_hash : (ts : List TopData) → are_written_tops ts ≡ true → begins_hash (text_of (tops_chunks ts ++ [])) ≡ true
tops_hash [] h = refl
tops_hash (t ∷ ts) h = let k = both (is_written_top t) (are_written_tops ts) h in ap (λ cs. begins_hash (text_of cs)) (append_assoc (top_chunks t) (tops_chunks ts) []) ∙ top_hash t (tops_chunks ts ++ []) k.0

top_fine : (t : TopData) (rest : Chunks) → is_written_top t ≡ true → begins_hash (text_of rest) ≡ true → Fine (top_chunks t) rest
top_fine (decl_top d) rest h e = of d h
  where
    of : (d : DeclData) → is_written_top (decl_top d) ≡ true → Fine (top_chunks (decl_top d)) rest
    of (decl b ds section line) h = let k = both (is_line line.0) (is_written_decl line.0 (decl b ds section line)) h in
        (line_fits line.0 ((decl_chunks (decl b ds section line) ++ line_end ∷ []) ++ rest) k.0, decl_fine line.0 (decl b ds section line) rest k.1)
top_fine (func_top f) rest h e = func_fine f rest h
top_fine (include_top s) rest h e = (((h, e), refl, refl), (tt, tt))
top_fine (directive_top n) rest h e = absurd (false≢true h)
top_fine (mark_top b l) rest h e = absurd (false≢true h)

tops_fine : (ts : List TopData) → are_written_tops ts ≡ true → Fine (tops_chunks ts) []
tops_fine [] h = tt
tops_fine (t ∷ ts) h = let k = both (is_written_top t) (are_written_tops ts) h in
    fine_append (top_chunks t) (tops_chunks ts) [] (top_fine t (tops_chunks ts ++ []) k.0 (tops_hash ts k.1)) (tops_fine ts k.1)

pub tops_apart : (ts : List TopData) → are_written_tops ts ≡ true → AllFit (tops_chunks ts)
tops_apart ts h = subst AllFit (append-nil (tops_chunks ts)) (fine_all (tops_chunks ts) [] (tops_fine ts h) tt)
