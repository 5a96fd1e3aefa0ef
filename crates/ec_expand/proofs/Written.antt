-- Statements as they are written, behind others.
use Rattle.std.proofs.Common.{◌≡◌, ℕ, zero, suc, true, false, List, [], ◌∷◌, ◌++◌, map, Option, Some, option_map, slice_get, refl, sym, ap, ◌∙◌}
use Rattle.std.specs.Option.{option_and_then}
use Rattle.ec_base.specs.declared.line.Line.{Line}
use Rattle.ec_ctypes.specs.declared.checked.bound.Bound.{Bound}
use Rattle.ec_ctypes.specs.declared.checked.typed.Typed.{Typed}
use Rattle.ec_ctypes.specs.declared.embedded.emb.Emb.{Emb}
use Rattle.ec_ctypes.specs.declared.tree.stmt.Stmt.{Stmt}
use Rattle.ec_ctypes.specs.trees.Checked.{MarkData}
use Rattle.ec_ctypes.specs.trees.Embedded.{EmbData}
use Rattle.ec_ctypes.specs.trees.Stmts.{StmtData, stmt, StmtKindData, empty_stmt, expr_stmt, block_stmt, if_stmt, while_stmt, do_stmt, for_stmt, break_stmt, continue_stmt, return_stmt, goto_stmt, label_stmt, decl_stmt, emb_stmt, mark_stmt, StmtList, stmts}
use Rattle.ec_ctypes.specs.trees.Units.{TopData}
use Rattle.ec_ctypes.specs.views.Checked.{typed_view, bound_view}
use Rattle.ec_ctypes.specs.views.Embedded.{emb_view}
use Rattle.ec_ctypes.specs.views.Stmts.{stmt_view, stmts_view}
use Rattle.ec_language.specs.Letters.{Text}
use Rattle.ec_typing_defs.specs.statement_parts.Cursors.{declare_opened}
use Rattle.ec_expansion_defs.specs.Calls.{prepared_in, call_by}
use Rattle.ec_expansion_defs.specs.Lines.{line_after_tops}
use Rattle.ec_expansion_defs.specs.Programs.{block_of, block_for, unit_of}
use Rattle.ec_expansion_defs.specs.Statements.{before_stmts, written_kind, written_item, written_items}
use Rattle.ec_expansion_defs.proofs.LinesBehind.{tops_line}
use Rattle.ec_expand.specs.Blocks.{written_at}
use Rattle.ec_expand.specs.Items.{is_plain_kind, other_item}
use Rattle.ec_expand_blocks.proofs.Listed.{listed}

-- ---- statements

before_assoc : (as' bs : List StmtData) (rest : StmtList) → before_stmts (as' ++ bs) rest ≡ before_stmts as' (before_stmts bs rest)
before_assoc [] bs rest = refl
before_assoc (a ∷ as') bs rest = ap (stmts a) (before_assoc as' bs rest)

module _ (embedded : ℕ → Option StmtKindData) where
  pub plain_item : (line : Line) (k : StmtKindData) → is_plain_kind k ≡ true → stmt line (written_kind embedded line.0 k) ∷ [] ≡ written_item embedded (stmt line k)
  plain_item line empty_stmt p = refl
  plain_item line (expr_stmt e) p = refl
  plain_item line (block_stmt ss) p = refl
  plain_item line (if_stmt e s other) p = refl
  plain_item line (while_stmt e s) p = refl
  plain_item line (do_stmt s e) p = refl
  plain_item line (for_stmt a b c s) p = refl
  plain_item line break_stmt p = refl
  plain_item line continue_stmt p = refl
  plain_item line (return_stmt e) p = refl
  plain_item line (goto_stmt l) p = refl
  plain_item line (label_stmt l s) p = refl
  plain_item line (decl_stmt d) p = cc
  plain_item line (emb_stmt n) p = cc
  plain_item line (mark_stmt opens) p = cc

  pub other_is : (line : Line) (k : StmtKindData) → is_plain_kind k ≡ false → other_item embedded line k ≡ written_item embedded (stmt line k)
  other_is line empty_stmt p = cc
  other_is line (expr_stmt e) p = cc
  other_is line (block_stmt ss) p = cc
  other_is line (if_stmt e s other) p = cc
  other_is line (while_stmt e s) p = cc
  other_is line (do_stmt s e) p = cc
  other_is line (for_stmt a b c s) p = cc
  other_is line break_stmt p = cc
  other_is line continue_stmt p = cc
  other_is line (return_stmt e) p = cc
  other_is line (goto_stmt l) p = cc
  other_is line (label_stmt l s) p = cc
  other_is line (decl_stmt d) p = refl
  other_is line (emb_stmt n) p = refl
  other_is line (mark_stmt opens) p = refl

  -- one item more
  pub items_step : (list new : List Stmt) (x : Stmt) (s : StmtData) (left rest : List Stmt) (whole : StmtList)
      → map stmt_view new ≡ map stmt_view list ++ written_item embedded s → stmt_view x ≡ s → rest ≡ x ∷ left
      → before_stmts (map stmt_view list) (written_items embedded (stmts_view rest)) ≡ whole
      → before_stmts (map stmt_view new) (written_items embedded (stmts_view left)) ≡ whole
  items_step list new x s left rest whole b e r h =
      ap (λ ss. before_stmts ss (written_items embedded (stmts_view left))) (b ∙ ap (λ y. map stmt_view list ++ written_item embedded y) (sym e))
      ∙ before_assoc (map stmt_view list) (written_item embedded (stmt_view x)) (written_items embedded (stmts_view left))
      ∙ ap (λ l. before_stmts (map stmt_view list) (written_items embedded (stmts_view l))) (sym r)
      ∙ h

  pub items_end : (list : List Stmt) (rest : List Stmt) (whole : StmtList) → rest ≡ []
      → before_stmts (map stmt_view list) (written_items embedded (stmts_view rest)) ≡ whole → stmts_view list ≡ whole
  items_end list rest whole r h = listed (map stmt_view list) ∙ ap (λ l. before_stmts (map stmt_view list) (written_items embedded (stmts_view l))) (sym r) ∙ h

-- ---- blocks

get_view : {X A : Type 0} (f : X → A) (xs : List X) (n : ℕ) (x : X) → Some x ≡ slice_get xs n → slice_get (map f xs) n ≡ Some (f x)
get_view f [] n x e = cc
get_view f (y ∷ xs) zero x e = sym (ap (option_map f) e)
get_view f (y ∷ xs) (suc n) x e = get_view f xs n x e

module _ (typed : Typed) (bounds : List Bound) where
  abbrev es : List EmbData
  es = (typed_view typed).unit.embs

  abbrev handlers : List MarkData
  handlers = (typed_view typed).handlers

  pub block_is : (n : ℕ) (e : Emb) (b : Bound) (k : Option StmtKindData) (name : Option Text) (d : Option EmbData)
      → Some e ≡ slice_get typed.unit.embs n → Some b ≡ slice_get bounds n
      → k ≡ option_map (block_of (typed_view typed).handlers (emb_view e)) (call_by name (emb_view e).kind (bound_view b))
      → name ≡ option_and_then prepared_in d
      → d ≡ option_and_then (λ e. declare_opened (typed_view typed).unit.embs n e) (slice_get (typed_view typed).unit.embs n)
      → k ≡ written_at typed bounds n
  block_is n e b k name d ie ib ik iname id =
      let ge : slice_get es n ≡ Some (emb_view e) = get_view emb_view typed.unit.embs n e ie in
      let gb : slice_get (map bound_view bounds) n ≡ Some (bound_view b) = get_view bound_view bounds n b ib in
      ik
      ∙ ap (λ x. option_map (block_of handlers (emb_view e)) (call_by x (emb_view e).kind (bound_view b))) (iname ∙ ap (option_and_then prepared_in) (id ∙ ap (option_and_then (λ e. declare_opened es n e)) ge))
      ∙ sym (ap (option_and_then (λ e. option_and_then (block_for handlers es n e) (slice_get (map bound_view bounds) n))) ge ∙ ap (option_and_then (block_for handlers es n (emb_view e))) gb)

-- ---- programs

pub unit_is : (tops : List TopData) (n : ℕ) → n ≡ line_after_tops 3 tops → record { tops = tops; embs = []; last = record { 0 = n } } ≡ unit_of tops
unit_is tops n e = λ i. record { tops = tops; embs = []; last = record { 0 = (e ∙ sym (tops_line tops 3)) i } }
