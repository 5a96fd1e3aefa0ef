-- Statements from their data.
use Rattle.std.proofs.Common.{◌≡◌, refl, ◌∙◌, ap, subst, List, [], ◌∷◌, map}
use Rattle.std.specs.Prelude.{Option, Some, None}
use Rattle.ec_ctypes.specs.declared.tree.stmt.Stmt.{Stmt, roll-Stmt, map-Stmt, fold-roll-Stmt, ind-Stmt}
use Rattle.ec_ctypes.specs.declared.tree.stmt.StmtKind.{StmtKind, roll-StmtKind, map-StmtKind, fold-roll-StmtKind, ind-StmtKind}
use Rattle.ec_ctypes.specs.declared.tree.stmt.StmtKind.TheOpen.{StmtKind-F, Stmt-F}
use Rattle.ec_ctypes.specs.declared.tree.stmt.StmtKind.TheShapes.{former-StmtKind-If-2}
use Rattle.ec_ctypes.specs.trees.Stmts.{StmtData, stmt, StmtKindData, empty_stmt, expr_stmt, block_stmt, if_stmt, while_stmt, do_stmt, for_stmt, break_stmt, continue_stmt, return_stmt, goto_stmt, label_stmt, decl_stmt, emb_stmt, mark_stmt, StmtList, no_stmts, stmts, StmtOption, no_stmt, some_stmt}
use Rattle.ec_ctypes.specs.views.Stmts.{stmts_of, stmt_of, kind_step, stmt_step, kind_view, stmt_view, stmts_view, stmt_option_view}
use Rattle.ec_ctypes.proofs.Undone.{undone_same}
use Rattle.ec_ctypes.proofs.ExprsBack.{expr_back, expr_undone, expr_option_back, expr_option_undone, decl_back, decl_undone}

-- the statement that has this data
abbrev mutual
  pub stmt_back : StmtData → Stmt
  stmt_back (stmt line k) = roll-Stmt (record { line = line; kind = kind_back k })

  pub kind_back : StmtKindData → StmtKind
  kind_back empty_stmt = roll-StmtKind StmtKind-F.Empty
  kind_back (expr_stmt e) = roll-StmtKind (StmtKind-F.Expr (expr_back e))
  kind_back (block_stmt ss) = roll-StmtKind (StmtKind-F.Block (stmts_back ss))
  kind_back (if_stmt e s other) = roll-StmtKind (StmtKind-F.If (expr_back e) (stmt_back s) (stmt_option_back other))
  kind_back (while_stmt e s) = roll-StmtKind (StmtKind-F.While (expr_back e) (stmt_back s))
  kind_back (do_stmt s e) = roll-StmtKind (StmtKind-F.Do (stmt_back s) (expr_back e))
  kind_back (for_stmt a b c s) = roll-StmtKind (StmtKind-F.For (record { first = expr_option_back a; condition = expr_option_back b; step = expr_option_back c }) (stmt_back s))
  kind_back break_stmt = roll-StmtKind StmtKind-F.Break
  kind_back continue_stmt = roll-StmtKind StmtKind-F.Continue
  kind_back (return_stmt e) = roll-StmtKind (StmtKind-F.Return (expr_option_back e))
  kind_back (goto_stmt l) = roll-StmtKind (StmtKind-F.Goto l)
  kind_back (label_stmt l s) = roll-StmtKind (StmtKind-F.Label l (stmt_back s))
  kind_back (decl_stmt d) = roll-StmtKind (StmtKind-F.Decl (decl_back d))
  kind_back (emb_stmt n) = roll-StmtKind (StmtKind-F.Emb n)
  kind_back (mark_stmt opens) = roll-StmtKind (StmtKind-F.Mark opens)

  pub stmts_back : StmtList → List Stmt
  stmts_back no_stmts = []
  stmts_back (stmts s ss) = stmt_back s ∷ stmts_back ss

  pub stmt_option_back : StmtOption → Option Stmt
  stmt_option_back no_stmt = None
  stmt_option_back (some_stmt s) = Some (stmt_back s)

-- the view of this statement can be undone
abbrev KindUndone : StmtKind → Type 0
KindUndone k = kind_back (kind_view k) ≡ k

abbrev StmtUndone : Stmt → Type 0
StmtUndone s = stmt_back (stmt_view s) ≡ s

-- a statement, with the proof that its view can be undone
abbrev KindSuch : Type 0
KindSuch = (k : StmtKind) × KindUndone k

abbrev StmtSuch : Type 0
StmtSuch = (s : Stmt) × StmtUndone s

-- the optional statement behind `else`, as a fold goes through it
abbrev else_map : (X : Type 0) → (Y : Type 0) → (X → Y) → Option X → Option Y
else_map = former-StmtKind-If-2.map

-- lists and options, from those of statements with their proofs
stmts_such : (ss : List StmtSuch) → stmts_back (stmts_of (map stmt_view (map (λ e. e.0) ss))) ≡ map (λ e. e.0) ss
stmts_such [] = refl
stmts_such (s ∷ ss) = λ i. s.1 i ∷ stmts_such ss i

else_such : (s : Option StmtSuch) → stmt_option_back (stmt_of (else_map Stmt StmtData stmt_view (else_map StmtSuch Stmt (λ e. e.0) s))) ≡ else_map StmtSuch Stmt (λ e. e.0) s
else_such None = refl
else_such (Some s) = λ i. Some (s.1 i)

-- a layer of statements without their proofs
abbrev bare_kind : StmtKind-F KindSuch StmtSuch → StmtKind-F StmtKind Stmt
bare_kind = map-StmtKind KindSuch StmtSuch StmtKind Stmt (λ e. e.0) (λ e. e.0)

abbrev bare_stmt : Stmt-F KindSuch StmtSuch → Stmt-F StmtKind Stmt
bare_stmt = map-Stmt KindSuch StmtSuch StmtKind Stmt (λ e. e.0) (λ e. e.0)

-- a layer of data, from one of statements
abbrev seen_kind : StmtKind-F StmtKind Stmt → StmtKind-F StmtKindData StmtData
seen_kind = map-StmtKind StmtKind Stmt StmtKindData StmtData kind_view stmt_view

abbrev seen_stmt : Stmt-F StmtKind Stmt → Stmt-F StmtKindData StmtData
seen_stmt = map-Stmt StmtKind Stmt StmtKindData StmtData kind_view stmt_view

-- one layer of each type
kind_layer : (y : StmtKind-F KindSuch StmtSuch) → kind_back (kind_step (seen_kind (bare_kind y))) ≡ roll-StmtKind (bare_kind y)
kind_layer StmtKind-F.Empty = refl
kind_layer (StmtKind-F.Expr e) = λ i. roll-StmtKind (StmtKind-F.Expr (expr_undone e i))
kind_layer (StmtKind-F.Block ss) = λ i. roll-StmtKind (StmtKind-F.Block (stmts_such ss i))
kind_layer (StmtKind-F.If e s other) = λ i. roll-StmtKind (StmtKind-F.If (expr_undone e i) (s.1 i) (else_such other i))
kind_layer (StmtKind-F.While e s) = λ i. roll-StmtKind (StmtKind-F.While (expr_undone e i) (s.1 i))
kind_layer (StmtKind-F.Do s e) = λ i. roll-StmtKind (StmtKind-F.Do (s.1 i) (expr_undone e i))
kind_layer (StmtKind-F.For p s) = λ i. roll-StmtKind (StmtKind-F.For (record { first = expr_option_undone p.first i; condition = expr_option_undone p.condition i; step = expr_option_undone p.step i }) (s.1 i))
kind_layer StmtKind-F.Break = refl
kind_layer StmtKind-F.Continue = refl
kind_layer (StmtKind-F.Return e) = λ i. roll-StmtKind (StmtKind-F.Return (expr_option_undone e i))
kind_layer (StmtKind-F.Goto l) = refl
kind_layer (StmtKind-F.Label l s) = λ i. roll-StmtKind (StmtKind-F.Label l (s.1 i))
kind_layer (StmtKind-F.Decl d) = λ i. roll-StmtKind (StmtKind-F.Decl (decl_undone d i))
kind_layer (StmtKind-F.Emb n) = refl
kind_layer (StmtKind-F.Mark opens) = refl

stmt_layer : (y : Stmt-F KindSuch StmtSuch) → stmt_back (stmt_step (seen_stmt (bare_stmt y))) ≡ roll-Stmt (bare_stmt y)
stmt_layer y = λ i. roll-Stmt (record { line = y.line; kind = y.kind.1 i })

-- the steps of the induction
kind_rolled : (x : StmtKind-F StmtKind Stmt) → (y : StmtKind-F KindSuch StmtSuch) → bare_kind y ≡ x → KindUndone (roll-StmtKind x)
kind_rolled x y is = subst (λ z. KindUndone (roll-StmtKind z)) is (ap kind_back (fold-roll-StmtKind StmtKindData StmtData kind_step stmt_step (bare_kind y)) ∙ kind_layer y)

stmt_rolled : (x : Stmt-F StmtKind Stmt) → (y : Stmt-F KindSuch StmtSuch) → bare_stmt y ≡ x → StmtUndone (roll-Stmt x)
stmt_rolled x y is = subst (λ z. StmtUndone (roll-Stmt z)) is (ap stmt_back (fold-roll-Stmt StmtKindData StmtData kind_step stmt_step (bare_stmt y)) ∙ stmt_layer y)

-- the data of a statement has no other statement
pub kind_undone : (k : StmtKind) → kind_back (kind_view k) ≡ k
kind_undone = ind-StmtKind KindUndone StmtUndone kind_rolled stmt_rolled

pub stmt_undone : (s : Stmt) → stmt_back (stmt_view s) ≡ s
stmt_undone = ind-Stmt KindUndone StmtUndone kind_rolled stmt_rolled

-- lists and options of them
pub stmts_undone : (ss : List Stmt) → stmts_back (stmts_view ss) ≡ ss
stmts_undone [] = refl
stmts_undone (s ∷ ss) = λ i. stmt_undone s i ∷ stmts_undone ss i

pub stmt_option_undone : (s : Option Stmt) → stmt_option_back (stmt_option_view s) ≡ s
stmt_option_undone None = refl
stmt_option_undone (Some s) = λ i. Some (stmt_undone s i)

-- where two have one view, they are one
pub same_kind : (a : StmtKind) → (b : StmtKind) → kind_view a ≡ kind_view b → a ≡ b
same_kind = undone_same kind_view kind_back kind_undone

pub same_stmt : (a : Stmt) → (b : Stmt) → stmt_view a ≡ stmt_view b → a ≡ b
same_stmt = undone_same stmt_view stmt_back stmt_undone

pub same_stmts : (a : List Stmt) → (b : List Stmt) → stmts_view a ≡ stmts_view b → a ≡ b
same_stmts = undone_same stmts_view stmts_back stmts_undone

pub same_stmt_option : (a : Option Stmt) → (b : Option Stmt) → stmt_option_view a ≡ stmt_option_view b → a ≡ b
same_stmt_option = undone_same stmt_option_view stmt_option_back stmt_option_undone
