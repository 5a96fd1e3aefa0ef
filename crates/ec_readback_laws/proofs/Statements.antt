-- Declarations on a line of their own, and statements, are derived from what they are written as.
use Rattle.std.proofs.Common.{◌≡◌, ℕ, suc, Bool, true, false, not, ◌&&◌, ◌⊎◌, [], ◌∷◌, ◌++◌, refl, inl, inr, ap, sym, subst, Option, Some, None}
use Rattle.std.specs.Prelude.{codes, ◌==◌, ◌||◌}
use Rattle.std.proofs.lemmas.Bool.{false≢true}
use Rattle.ec_ctypes.specs.declared.text.token.Punct.TheVariants as p
use Rattle.ec_ctypes.specs.trees.Exprs.{ExprData, BaseData, DeclaratorList, DeclData, decl}
use Rattle.ec_ctypes.specs.trees.Stmts.{StmtData, stmt, StmtKindData, empty_stmt, expr_stmt, block_stmt, if_stmt, while_stmt, do_stmt, for_stmt, break_stmt, continue_stmt, return_stmt, goto_stmt, label_stmt, decl_stmt, emb_stmt, mark_stmt, StmtList, no_stmts, stmts, StmtOption, no_stmt, some_stmt}
use Rattle.ec_ctypes.specs.trees.Tokens.{word_token, punct_token}
use Rattle.ec_language.specs.Productions.{Start, OpenStatement, for_expression}
use Rattle.ec_language.specs.Productions as g
use Rattle.ec_language.proofs.Ends.{both}
use Rattle.ec_language.proofs.Classes.{either}
use Rattle.ec_writing_defs.specs.Chunks.{line_end, line_mark, Chunks, behind, line_behind}
use Rattle.ec_writing_defs.specs.Expressions.{level, mark, in_parens, expr_chunks, base_chunks, declarators_chunks, decl_chunks}
use Rattle.ec_writing_defs.specs.Programs.{option_chunks, return_chunks, head_chunks, stmt_chunks, kind_chunks, items_chunks, block_chunks}
use Rattle.ec_writing_defs.specs.Shapes.{is_plain_name, is_written_expr, is_written_base, are_written_declarators, is_written_decl, is_declaration, is_line, is_written_option, is_open, is_open_kind, is_written_stmt, is_written_kind, is_written_else, are_written_items, is_written_item}
use Rattle.ec_readback_laws.proofs.Derivations.{Written, On, settled, done, token, gap, new_line, marked, part, inner, inner_alone, full, last_part, last_inner, last_full, here, next, made}
use Rattle.ec_readback_laws.proofs.Expressions.{as_whole, expr_written, name_in_grammar, parenthesized, base_written, declarators_written, off, line_is_here}
use Rattle.ec_readback_laws.proofs.Starts.{begins_token, token_before, expr_token, base_token, starts_at}

-- ---- declarations

-- of a declaration on this line: what it is made of
pub record DeclaredOn (n : ℕ) (d : DeclData) : Type 0 where
  pub base : BaseData
  pub items : DeclaratorList
  pub is : d ≡ decl base items false (record { 0 = n })
  pub based : is_written_base n base ≡ true
  pub listed : are_written_declarators n items ≡ true

pub on_line : (n : ℕ) (d : DeclData) → is_written_decl n d ≡ true → DeclaredOn n d
on_line n (decl b ds section line) h =
    let k = both (not section && line.0 == n) (is_written_base n b && are_written_declarators n ds) h in
    let i = both (not section) (line.0 == n) k.0 in
    let j = both (is_written_base n b) (are_written_declarators n ds) k.1 in
    let e : line.0 ≡ n = line_is_here line.0 n i.1 in
    record { base = b; items = ds; is = (λ x. decl b ds (off section i.0 x) (record { 0 = e x })); based = j.0; listed = j.1 }

decl_on : (n : ℕ) (b : BaseData) (ds : DeclaratorList) → is_written_base n b ≡ true → are_written_declarators n ds ≡ true
    → (i : ℕ) → Written i n g.declaration (line_mark n ∷ decl_chunks (decl b ds false (record { 0 = n }))) (decl b ds false (record { 0 = n }))
decl_on n b ds h k i = made _ here (marked n (part (base_written n b h) refl (part (declarators_written n ds k) refl (token (punct_token p.Semicolon) refl (λ at. refl) done))))
    (λ at. ap (λ (s : Start). decl b ds s.section s.line) (sym (starts_at (base_chunks b ++ (declarators_chunks ds ++ mark p.Semicolon ∷ [])) (behind at (line_mark n)) (base_token n b (declarators_chunks ds ++ mark p.Semicolon ∷ []) h))))

decl_written : (n : ℕ) (d : DeclData) → is_written_decl n d ≡ true → (i : ℕ) → Written i n g.declaration (line_mark n ∷ decl_chunks d) d
decl_written n d h i = let o = on_line n d h in subst (λ x. Written i n g.declaration (line_mark n ∷ decl_chunks x) x) (sym o.is) (decl_on n o.base o.items o.based o.listed i)

pub decl_token : (n : ℕ) (d : DeclData) (rest : Chunks) → is_written_decl n d ≡ true → begins_token (decl_chunks d ++ rest) ≡ true
decl_token n (decl b ds section line) rest h =
    let k = both (not section && line.0 == n) (is_written_base n b && are_written_declarators n ds) h in
    let j = both (is_written_base n b) (are_written_declarators n ds) k.1 in
    token_before (base_chunks b) (declarators_chunks ds ++ mark p.Semicolon ∷ []) rest (base_token n b ((declarators_chunks ds ++ mark p.Semicolon ∷ []) ++ rest) j.0)

-- ---- statements

whole_expr : (n : ℕ) (e : ExprData) → is_written_expr n e ≡ true → On n g.assignment (expr_chunks e) e
whole_expr n e h = as_whole n (level e) (expr_chunks e) e (expr_written n e h)

condition : (n : ℕ) (e : ExprData) → is_written_expr n e ≡ true → On n g.parenthesized (in_parens (expr_chunks e)) e
condition n e h = parenthesized n (expr_chunks e) e (whole_expr n e h)

option_written : (n : ℕ) (e : Option ExprData) → is_written_option n e ≡ true → On n g.expression_option (option_chunks e) e
option_written n None h = made _ here done (λ at. refl)
option_written n (Some e) h = made _ (next here) (last_full (whole_expr n e h)) (λ at. refl)

returned : (n : ℕ) (e : Option ExprData) → is_written_option n e ≡ true → On n g.expression_option (return_chunks e) e
returned n None h = made _ here done (λ at. refl)
returned n (Some e) h = made _ (next here) (gap (last_full (whole_expr n e h))) (λ at. refl)

head_written : (n : ℕ) (a b c : Option ExprData) → is_written_option n a ≡ true → is_written_option n b ≡ true → is_written_option n c ≡ true
    → On n g.for_head (head_chunks a b c) (record { first = for_expression a; condition = b; step = c })
head_written n a b c h k l = made _ here
    (token (punct_token p.LeftParen) refl (λ at. refl) (part (made _ here (part (option_written n a h) refl (token (punct_token p.Semicolon) refl (λ at. refl) done)) (λ at. refl)) refl (gap (part (option_written n b k) refl
    (token (punct_token p.Semicolon) refl (λ at. refl) (gap (part (option_written n c l) refl (token (punct_token p.RightParen) refl (λ at. refl) done))))))))
    (λ at. refl)

-- a statement on a line, as the grammar has it
abbrev told : ℕ → StmtKindData → OpenStatement
told n kind = record { statement = stmt (record { 0 = n }) kind; is_open = is_open_kind kind }

-- a statement that begins on this line
abbrev Told : ℕ → StmtData → Type 0
Told i s = Written i (line_behind i (stmt_chunks s)) g.statement (stmt_chunks s) (record { statement = s; is_open = is_open s })

-- `else` on this line, and what belongs to it
abbrev ElseWritten : ℕ → Bool → StmtOption → Type 0
ElseWritten i opens no_stmt = Unit {0}
ElseWritten i opens (some_stmt s) = (not opens ≡ true) × Told (suc i) s

-- a statement with its line, wherever it stands
abbrev KindWritten : ℕ → StmtKindData → Type 0
KindWritten n kind = (i : ℕ) → Written i (line_behind n (kind_chunks kind)) g.statement (line_mark n ∷ kind_chunks kind) (told n kind)

if_written : (n : ℕ) (e : ExprData) (s : StmtData) (o : StmtOption) → On n g.parenthesized (in_parens (expr_chunks e)) e → Told (suc n) s
    → ElseWritten (line_behind (suc n) (stmt_chunks s)) (is_open s) o → KindWritten n (if_stmt e s o)
if_written n e s no_stmt c d x i = settled (made _ (next (next (next (next (next (next here))))))
    (marked n (token (word_token (codes "if")) refl (λ at. refl) (gap (inner c refl (new_line (inner_alone d (last_part (made _ here done (λ at. refl))))))))) (λ at. refl))
if_written n e s (some_stmt o) c d x i = settled (made _ (next (next (next (next (next (next here))))))
    (marked n (token (word_token (codes "if")) refl (λ at. refl) (gap (inner c refl (new_line (inner d x.0 (last_part
    (made _ (next here) (token (word_token (codes "else")) refl (λ at. refl) (new_line (last_inner x.1))) (λ at. refl))))))))) (λ at. refl))

-- a statement or a declaration of a block
abbrev ItemWritten : ℕ → StmtKindData → Type 0
ItemWritten n kind = (i : ℕ) → Written i (line_behind n (kind_chunks kind)) g.block_item (line_mark n ∷ kind_chunks kind) (stmt (record { 0 = n }) kind)

declared : (n : ℕ) (kind : StmtKindData) → is_declaration n kind ≡ true → ItemWritten n kind
declared n (decl_stmt d) h i =
    settled (made _ here (part (decl_written n d h i) refl (new_line done))
    (λ at. ap (λ (s : Start). stmt s.line (decl_stmt d)) (sym (starts_at (decl_chunks d ++ line_end ∷ []) (behind at (line_mark n)) (decl_token n d (line_end ∷ []) h)))))
declared n empty_stmt h i = absurd (false≢true h)
declared n _ h i = absurd (false≢true h)

one_item : (n : ℕ) (kind : StmtKindData) → (is_written_kind n kind ≡ true → KindWritten n kind) → (is_declaration n kind ≡ true) ⊎ (is_written_kind n kind ≡ true) → ItemWritten n kind
one_item n kind f (inl h) = declared n kind h
one_item n kind f (inr h) = λ i. made _ (next (next (next here))) (last_part (f h i)) (λ at. refl)

pub block_of : (i m : ℕ) (ss : StmtList) → Written (suc i) m g.block_items (items_chunks ss) ss → Written i m g.block (block_chunks ss) ss
block_of i m ss d = made _ here (token (punct_token p.LeftBrace) refl (λ at. refl) (new_line (part d refl (token (punct_token p.RightBrace) refl (λ at. refl) done)))) (λ at. refl)

mutual
  stmt_written : (s : StmtData) → is_written_stmt s ≡ true → (i : ℕ) → Told i s
  stmt_written (stmt line kind) h i = kind_written line.0 kind ((both (is_line line.0) (is_written_kind line.0 kind) h).1) i

  kind_written : (n : ℕ) (kind : StmtKindData) → is_written_kind n kind ≡ true → KindWritten n kind
  kind_written n empty_stmt h i = settled (made _ here (marked n (token (punct_token p.Semicolon) refl (λ at. refl) (new_line done))) (λ at. refl))
  kind_written n (expr_stmt e) h i = settled (made _ (next here) (marked n (full (whole_expr n e h) refl (token (punct_token p.Semicolon) refl (λ at. refl) (new_line done))))
      (λ at. ap (λ (s : Start). record { statement = stmt s.line (expr_stmt e); is_open = false }) (sym (starts_at (expr_chunks e ++ mark p.Semicolon ∷ line_end ∷ []) (behind at (line_mark n)) (expr_token e (mark p.Semicolon ∷ line_end ∷ []))))))
  kind_written n (block_stmt ss) h i = settled (made _ (next (next here)) (marked n (inner (block_of n _ ss (items_written ss h (suc n))) refl (new_line done))) (λ at. refl))
  kind_written n (if_stmt e s other) h i =
      let k = both (is_written_expr n e) (is_written_stmt s && is_written_else (is_open s) other) h in
      let j = both (is_written_stmt s) (is_written_else (is_open s) other) k.1 in
      if_written n e s other (condition n e k.0) (stmt_written s j.0 (suc n)) (else_written (line_behind (suc n) (stmt_chunks s)) (is_open s) other j.1) i
  kind_written n (while_stmt e s) h i = let k = both (is_written_expr n e) (is_written_stmt s) h in
      settled (made _ (next (next (next (next (next (next (next here)))))))
      (marked n (token (word_token (codes "while")) refl (λ at. refl) (gap (inner (condition n e k.0) refl (new_line (last_inner (stmt_written s k.1 (suc n)))))))) (λ at. refl))
  kind_written n (do_stmt s e) h i =
      let m = line_behind (suc n) (stmt_chunks s) in
      let k = both (is_written_stmt s) (is_written_expr m e) h in
      settled (made _ (next (next (next (next (next (next (next (next here))))))))
      (marked n (token (word_token (codes "do")) refl (λ at. refl) (new_line (inner (stmt_written s k.0 (suc n)) refl
      (token (word_token (codes "while")) refl (λ at. refl) (gap (inner (condition m e k.1) refl (token (punct_token p.Semicolon) refl (λ at. refl) (new_line done))))))))) (λ at. refl))
  kind_written n (for_stmt a b c s) h i =
      let k = both (is_written_option n a && (is_written_option n b && is_written_option n c)) (is_written_stmt s) h in
      let l = both (is_written_option n a) (is_written_option n b && is_written_option n c) k.0 in
      let j = both (is_written_option n b) (is_written_option n c) l.1 in
      settled (made _ (next (next (next (next (next (next (next (next (next here)))))))))
      (marked n (token (word_token (codes "for")) refl (λ at. refl) (gap (inner (head_written n a b c l.0 j.0 j.1) refl (new_line (last_inner (stmt_written s k.1 (suc n)))))))) (λ at. refl))
  kind_written n break_stmt h i = settled (made _ (next (next (next (next (next (next (next (next (next (next here))))))))))
      (marked n (token (word_token (codes "break")) refl (λ at. refl) (token (punct_token p.Semicolon) refl (λ at. refl) (new_line done)))) (λ at. refl))
  kind_written n continue_stmt h i = settled (made _ (next (next (next (next (next (next (next (next (next (next (next here)))))))))))
      (marked n (token (word_token (codes "continue")) refl (λ at. refl) (token (punct_token p.Semicolon) refl (λ at. refl) (new_line done)))) (λ at. refl))
  kind_written n (return_stmt e) h i = settled (made _ (next (next (next (next (next (next (next (next (next (next (next (next here))))))))))))
      (marked n (token (word_token (codes "return")) refl (λ at. refl) (part (returned n e h) refl (token (punct_token p.Semicolon) refl (λ at. refl) (new_line done))))) (λ at. refl))
  kind_written n (goto_stmt l) h i = settled (made _ (next (next (next (next (next (next (next (next (next (next (next (next (next here)))))))))))))
      (marked n (token (word_token (codes "goto")) refl (λ at. refl) (gap (token (word_token l) (name_in_grammar n l h) (λ at. refl) (token (punct_token p.Semicolon) refl (λ at. refl) (new_line done)))))) (λ at. refl))
  kind_written n (label_stmt l s) h i = let k = both (is_plain_name l) (is_written_stmt s) h in
      settled (made _ (next (next (next here)))
      (marked n (token (word_token l) (name_in_grammar n l k.0) (λ at. refl) (token (punct_token p.Colon) refl (λ at. refl) (new_line (last_inner (stmt_written s k.1 (suc n))))))) (λ at. refl))
  kind_written n (decl_stmt d) h i = absurd (false≢true h)
  kind_written n (emb_stmt m) h i = absurd (false≢true h)
  kind_written n (mark_stmt opens) h i = absurd (false≢true h)

  else_written : (i : ℕ) (opens : Bool) (o : StmtOption) → is_written_else opens o ≡ true → ElseWritten i opens o
  else_written i opens no_stmt h = tt
  else_written i opens (some_stmt s) h = let k = both (not opens) (is_written_stmt s) h in (k.0, stmt_written s k.1 (suc i))

  pub items_written : (ss : StmtList) → are_written_items ss ≡ true → (i : ℕ) → Written i (line_behind i (items_chunks ss)) g.block_items (items_chunks ss) ss
  items_written no_stmts h i = made _ here done (λ at. refl)
  items_written (stmts s ss) h i = let k = both (is_written_item s) (are_written_items ss) h in
      settled (made _ (next here) (part (item_written s k.0 i) refl (last_part (items_written ss k.1 (line_behind i (stmt_chunks s))))) (λ at. refl))

  item_written : (s : StmtData) → is_written_item s ≡ true → (i : ℕ) → Written i (line_behind i (stmt_chunks s)) g.block_item (stmt_chunks s) s
  item_written (stmt line kind) h i = let k = both (is_line line.0) (is_declaration line.0 kind || is_written_kind line.0 kind) h in
      one_item line.0 kind (kind_written line.0 kind) (either (is_declaration line.0 kind) (is_written_kind line.0 kind) k.1) i
