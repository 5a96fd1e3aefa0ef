-- The labels of a body, and the objects that a block makes, are those of what is written.
use Rattle.std.proofs.Common.{◌≡◌, ◌∙◌, ℕ, suc, ◌+◌, Bool, true, false, List, [], ◌∷◌, Option, Some, None, refl, sym, subst, arith}
use Rattle.ec_base.specs.declared.line.Line.{Line}
use Rattle.ec_ctypes.specs.trees.Embedded.{EmbData}
use Rattle.ec_ctypes.specs.trees.Exprs.{words, varchar, tagged, struct_base, declarator, DeclaratorList, no_declarators, declarators, DeclData, decl}
use Rattle.ec_ctypes.specs.trees.Stmts.{StmtData, stmt, StmtKindData, empty_stmt, expr_stmt, block_stmt, if_stmt, while_stmt, do_stmt, for_stmt, break_stmt, continue_stmt, return_stmt, goto_stmt, label_stmt, decl_stmt, emb_stmt, mark_stmt, StmtList, no_stmts, stmts, StmtOption, no_stmt, some_stmt}
use Rattle.ec_expansion_defs.specs.Declarations.{written_declarators, varchar_objects, written_decl}
use Rattle.ec_expansion_defs.specs.Statements.{before_stmts, decl_stmts, optional_stmt, or_empty, written_stmt, written_kind, written_items, written_item, written_else}
use Rattle.ec_typing_defs.specs.statement_parts.Handlers.{is_directive}
use Rattle.ec_typing_defs.specs.Tables.{Named, put}
use Rattle.ec_typing_defs.specs.Statements.{labels_in, labels_in_kind, labels_in_all, labels_in_option}
use Rattle.ec_resolving_defs.specs.Statements.{declarators_in, objects_in, objects_in_kind, objects_in_all, objects_in_option}
use Rattle.ec_sim_program_laws.specs.program.Copied.{Whole}
use Rattle.ec_sim_program_laws.specs.program.Embedded.{ExecutedIsCopied, EmbeddedAreCopied}
use Rattle.ec_sim_program_laws.specs.program.Shape.{IsThere, StandsAlone, KindStandsAlone, ItemsStand, ItemStands, OtherStands}

-- what is written in the place of an embedded statement
abbrev pub IsPlain : Option StmtKindData → Type 0
IsPlain None = Unit {0}
IsPlain (Some kind) = ((ls : Named (Unit {0})) → labels_in_kind kind ls ≡ ls) × (objects_in_kind kind ≡ 0)

zero_more : (n : ℕ) → 0 + n ≡ n
zero_more n = omega (arith)

one_more : (m n : ℕ) → 1 + (m + n) ≡ suc m + n
one_more m n = omega (arith)

module _ (g : Whole) (es : List EmbData) (embedded : ℕ → Option StmtKindData) (are : EmbeddedAreCopied g es embedded) where
  plain_there : (line : Line) (n : ℕ) → IsThere es line n → IsPlain (embedded n)
  plain_there line n there = by_kind (is_directive there.emb) refl
    where
      by_kind : (b : Bool) → is_directive there.emb ≡ b → IsPlain (embedded n)
      by_kind true e = subst IsPlain (sym (are.directives n there.emb there.is e).is_written) tt
      by_kind false e =
          let x : ExecutedIsCopied g es embedded n there.emb = are.executed n there.emb there.is e
          in subst IsPlain (sym x.is_written) (x.no_labels, x.no_objects)

  -- ---- labels

  declared_labels : (line : Line) (ds : List DeclData) (rest : StmtList) (ls : Named (Unit {0})) → labels_in_all (before_stmts (decl_stmts line ds) rest) ls ≡ labels_in_all rest ls
  declared_labels line [] rest ls = refl
  declared_labels line (d ∷ ds) rest ls = declared_labels line ds rest ls

  optional_labels : (line : Line) (k : Option StmtKindData) → IsPlain k → (rest : StmtList) (ls : Named (Unit {0})) → labels_in_all (before_stmts (optional_stmt line k) rest) ls ≡ labels_in_all rest ls
  optional_labels line None h rest ls = refl
  optional_labels line (Some kind) h rest ls = λ i. labels_in_all rest (h.0 ls i)

  or_empty_labels : (k : Option StmtKindData) → IsPlain k → (ls : Named (Unit {0})) → labels_in_kind (or_empty k) ls ≡ ls
  or_empty_labels None h ls = refl
  or_empty_labels (Some kind) h ls = h.0 ls

  item_labels : (s : StmtData) → ItemStands es s → (rest : StmtList) (ls : Named (Unit {0})) → (StandsAlone es s → labels_in (written_stmt embedded s) ls ≡ labels_in s ls)
      → labels_in_all (before_stmts (written_item embedded s) rest) ls ≡ labels_in_all rest (labels_in s ls)
  item_labels (stmt line (decl_stmt d)) h rest ls alone = declared_labels line (written_decl line.0 d) rest ls
  item_labels (stmt line (emb_stmt n)) h rest ls alone = optional_labels line (embedded n) (plain_there line n h) rest ls
  item_labels (stmt line (mark_stmt opens)) h rest ls alone = refl
  item_labels (stmt line empty_stmt) h rest ls alone = refl
  item_labels (stmt line (expr_stmt e)) h rest ls alone = refl
  item_labels (stmt line (block_stmt ss)) h rest ls alone = λ i. labels_in_all rest (alone h i)
  item_labels (stmt line (if_stmt e s other)) h rest ls alone = λ i. labels_in_all rest (alone h i)
  item_labels (stmt line (while_stmt e s)) h rest ls alone = λ i. labels_in_all rest (alone h i)
  item_labels (stmt line (do_stmt s e)) h rest ls alone = λ i. labels_in_all rest (alone h i)
  item_labels (stmt line (for_stmt x y z s)) h rest ls alone = λ i. labels_in_all rest (alone h i)
  item_labels (stmt line break_stmt) h rest ls alone = refl
  item_labels (stmt line continue_stmt) h rest ls alone = refl
  item_labels (stmt line (return_stmt e)) h rest ls alone = refl
  item_labels (stmt line (goto_stmt l)) h rest ls alone = refl
  item_labels (stmt line (label_stmt l s)) h rest ls alone = λ i. labels_in_all rest (alone h i)

  mutual
    stmt_labels : (s : StmtData) → StandsAlone es s → (ls : Named (Unit {0})) → labels_in (written_stmt embedded s) ls ≡ labels_in s ls
    stmt_labels (stmt line kind) h ls = kind_labels line kind h ls

    kind_labels : (line : Line) (kind : StmtKindData) → KindStandsAlone es line kind → (ls : Named (Unit {0})) → labels_in_kind (written_kind embedded line.0 kind) ls ≡ labels_in_kind kind ls
    kind_labels line empty_stmt h ls = refl
    kind_labels line (expr_stmt e) h ls = refl
    kind_labels line (block_stmt ss) h ls = items_labels ss h ls
    kind_labels line (if_stmt e s other) h ls = (λ i. labels_in_option (written_else embedded other) (stmt_labels s h.1 ls i)) ∙ other_labels other h.2 (labels_in s ls)
    kind_labels line (while_stmt e s) h ls = stmt_labels s h.1 ls
    kind_labels line (do_stmt s e) h ls = stmt_labels s h.0 ls
    kind_labels line (for_stmt x y z s) h ls = stmt_labels s h.3 ls
    kind_labels line break_stmt h ls = refl
    kind_labels line continue_stmt h ls = refl
    kind_labels line (return_stmt e) h ls = refl
    kind_labels line (goto_stmt l) h ls = refl
    kind_labels line (label_stmt l s) h ls = stmt_labels s h (put l tt ls)
    kind_labels line (decl_stmt d) h ls = refl
    kind_labels line (emb_stmt n) h ls = or_empty_labels (embedded n) (plain_there line n h) ls
    kind_labels line (mark_stmt opens) h ls = refl

    pub items_labels : (ss : StmtList) → ItemsStand es ss → (ls : Named (Unit {0})) → labels_in_all (written_items embedded ss) ls ≡ labels_in_all ss ls
    items_labels no_stmts h ls = refl
    items_labels (stmts s ss) h ls = item_labels s h.0 (written_items embedded ss) ls (λ alone. stmt_labels s alone ls) ∙ items_labels ss h.1 (labels_in s ls)

    other_labels : (other : StmtOption) → OtherStands es other → (ls : Named (Unit {0})) → labels_in_option (written_else embedded other) ls ≡ labels_in_option other ls
    other_labels no_stmt h ls = refl
    other_labels (some_stmt s) h ls = stmt_labels s h ls

  -- ---- objects

  declarators_same : (n : ℕ) (ds : DeclaratorList) → declarators_in (written_declarators n ds) ≡ declarators_in ds
  declarators_same n no_declarators = refl
  declarators_same n (declarators d ds) = λ i. suc (declarators_same n ds i)

  varchars_objects : (n : ℕ) (line : Line) (ds : DeclaratorList) (rest : StmtList) → objects_in_all (before_stmts (decl_stmts line (varchar_objects n ds)) rest) ≡ declarators_in ds + objects_in_all rest
  varchars_objects n line no_declarators rest = sym (zero_more (objects_in_all rest))
  varchars_objects n line (declarators (declarator stars name ns init) ds) rest = (λ i. 1 + varchars_objects n line ds rest i) ∙ one_more (declarators_in ds) (objects_in_all rest)

  declared_objects : (line : Line) (d : DeclData) (rest : StmtList) → objects_in_all (before_stmts (decl_stmts line (written_decl line.0 d)) rest) ≡ objects_in (stmt line (decl_stmt d)) + objects_in_all rest
  declared_objects line (decl varchar ds section l) rest = varchars_objects line.0 line ds rest
  declared_objects line (decl (words ws) ds section l) rest = λ i. declarators_same line.0 ds i + objects_in_all rest
  declared_objects line (decl (tagged tag) ds section l) rest = λ i. declarators_same line.0 ds i + objects_in_all rest
  declared_objects line (decl (struct_base tag ms) ds section l) rest = λ i. declarators_same line.0 ds i + objects_in_all rest

  optional_objects : (line : Line) (k : Option StmtKindData) → IsPlain k → (rest : StmtList) → objects_in_all (before_stmts (optional_stmt line k) rest) ≡ objects_in_all rest
  optional_objects line None h rest = refl
  optional_objects line (Some kind) h rest = (λ i. h.1 i + objects_in_all rest) ∙ zero_more (objects_in_all rest)

  or_empty_objects : (k : Option StmtKindData) → IsPlain k → objects_in_kind (or_empty k) ≡ 0
  or_empty_objects None h = refl
  or_empty_objects (Some kind) h = h.1

  item_objects : (s : StmtData) → ItemStands es s → (rest : StmtList) → (StandsAlone es s → objects_in (written_stmt embedded s) ≡ objects_in s)
      → objects_in_all (before_stmts (written_item embedded s) rest) ≡ objects_in s + objects_in_all rest
  item_objects (stmt line (decl_stmt d)) h rest alone = declared_objects line d rest
  item_objects (stmt line (emb_stmt n)) h rest alone = optional_objects line (embedded n) (plain_there line n h) rest ∙ sym (zero_more (objects_in_all rest))
  item_objects (stmt line (mark_stmt opens)) h rest alone = sym (zero_more (objects_in_all rest))
  item_objects (stmt line empty_stmt) h rest alone = refl
  item_objects (stmt line (expr_stmt e)) h rest alone = refl
  item_objects (stmt line (block_stmt ss)) h rest alone = refl
  item_objects (stmt line (if_stmt e s other)) h rest alone = λ i. alone h i + objects_in_all rest
  item_objects (stmt line (while_stmt e s)) h rest alone = λ i. alone h i + objects_in_all rest
  item_objects (stmt line (do_stmt s e)) h rest alone = λ i. alone h i + objects_in_all rest
  item_objects (stmt line (for_stmt x y z s)) h rest alone = λ i. alone h i + objects_in_all rest
  item_objects (stmt line break_stmt) h rest alone = refl
  item_objects (stmt line continue_stmt) h rest alone = refl
  item_objects (stmt line (return_stmt e)) h rest alone = refl
  item_objects (stmt line (goto_stmt l)) h rest alone = refl
  item_objects (stmt line (label_stmt l s)) h rest alone = λ i. alone h i + objects_in_all rest

  mutual
    stmt_objects : (s : StmtData) → StandsAlone es s → objects_in (written_stmt embedded s) ≡ objects_in s
    stmt_objects (stmt line kind) h = kind_objects line kind h

    kind_objects : (line : Line) (kind : StmtKindData) → KindStandsAlone es line kind → objects_in_kind (written_kind embedded line.0 kind) ≡ objects_in_kind kind
    kind_objects line empty_stmt h = refl
    kind_objects line (expr_stmt e) h = refl
    kind_objects line (block_stmt ss) h = refl
    kind_objects line (if_stmt e s other) h = λ i. stmt_objects s h.1 i + other_objects other h.2 i
    kind_objects line (while_stmt e s) h = stmt_objects s h.1
    kind_objects line (do_stmt s e) h = stmt_objects s h.0
    kind_objects line (for_stmt x y z s) h = stmt_objects s h.3
    kind_objects line break_stmt h = refl
    kind_objects line continue_stmt h = refl
    kind_objects line (return_stmt e) h = refl
    kind_objects line (goto_stmt l) h = refl
    kind_objects line (label_stmt l s) h = stmt_objects s h
    kind_objects line (decl_stmt d) h = absurd h
    kind_objects line (emb_stmt n) h = or_empty_objects (embedded n) (plain_there line n h)
    kind_objects line (mark_stmt opens) h = refl

    pub items_objects : (ss : StmtList) → ItemsStand es ss → objects_in_all (written_items embedded ss) ≡ objects_in_all ss
    items_objects no_stmts h = refl
    items_objects (stmts s ss) h = item_objects s h.0 (written_items embedded ss) (λ alone. stmt_objects s alone) ∙ (λ i. objects_in s + items_objects ss h.1 i)

    other_objects : (other : StmtOption) → OtherStands es other → objects_in_option (written_else embedded other) ≡ objects_in_option other
    other_objects no_stmt h = refl
    other_objects (some_stmt s) h = stmt_objects s h
