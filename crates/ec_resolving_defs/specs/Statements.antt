-- The resolved forms of declarations (ISO/IEC 9899:1999, 6.7) and statements (6.8).
use Rattle.std.specs.Prelude.{ℕ, suc, ◌+◌, Bool, true, false, List, [], ◌∷◌, ◌++◌, slice_get, Option, Some, None, if◌then◌else◌}
use Rattle.ec_ctypes.specs.trees.Types.{TyData}
use Rattle.ec_ctypes.specs.trees.Exprs.{ExprData, BaseData, tagged, DimList, InitOption, no_init, some_init, DeclaratorData, declarator, DeclaratorList, no_declarators, declarators, DeclData, decl}
use Rattle.ec_ctypes.specs.trees.Stmts.{StmtData, stmt, StmtKindData, empty_stmt, expr_stmt, block_stmt, if_stmt, while_stmt, do_stmt, for_stmt, break_stmt, continue_stmt, return_stmt, goto_stmt, label_stmt, decl_stmt, emb_stmt, mark_stmt, StmtList, no_stmts, stmts as stmt_list, StmtOption, no_stmt, some_stmt}
use Rattle.ec_ctypes.specs.trees.Embedded.{EmbData}
use Rattle.ec_language.specs.Letters.{Text}
use Rattle.ec_typing_defs.specs.statement_parts.Handlers.{is_directive}
use Rattle.ec_typing_defs.specs.Tables.{Named}
use Rattle.ec_typing_defs.specs.Worlds.{Place, place, object as object_entry, World, next_number, number_as, declare, know_better, declare_label, enter, leave as leave_scope}
use Rattle.ec_typing_defs.specs.Operands.{declared_type}
use Rattle.ec_typing_defs.specs.Expressions.{has_init, is_varchar, varchar_object}
use Rattle.ec_typing_defs.specs.Statements as checked
use Rattle.ec_typing_defs.specs.Statements.{type_or_void}
use Rattle.ec_meaning_defs.specs.resolved.Resolved.{Exp, slot, Stm, on_line, nothing, evaluate, declare as declare_unset, initialize, block, choose, loop, leave, next, return, goto, label, named, embedded_statement, Stms, no_stms, stms}
use Rattle.ec_resolving_defs.specs.Conversions.{size_in, as_known_type}
use Rattle.ec_resolving_defs.specs.Storage.{Site, numbered, slotted, nowhere, next_site, with_site, with_global, with_object_of, Resolving, ◌>>=◌, ◌>>◌, pure, checks, ask, stored, arrange, in_block}
use Rattle.ec_resolving_defs.specs.Operands.{place_in, value_rule, done_alone}
use Rattle.ec_resolving_defs.specs.Embedded.{embedded_rule}
use Rattle.ec_resolving_defs.specs.Expressions.{expr, base, lengths, last_length, outer_lengths}
use Rattle.ec_resolving_defs.specs.Initializers.{PartData, parts_stored, parts_known, initializer}

abbrev pub list_of : List Stm → Stms
list_of [] = no_stms
list_of (s ∷ ss) = stms s (list_of ss)

-- one after the other: one statement is itself, and others are a block without objects
abbrev pub together : List Stm → Stm
together [] = nothing
together (s ∷ []) = s
together (s ∷ t ∷ ss) = block [] (list_of (s ∷ t ∷ ss))

-- the rule in a scope of its own
abbrev pub scoped : {A : Type 0} → Resolving A → Resolving A
scoped m = do
  checks enter
  x ← m
  checks leave_scope
  pure x

-- ---- declarations

abbrev pub size_of_type : World → Option TyData → ℕ
size_of_type w None = 0
size_of_type w (Some t) = size_in w t

abbrev pub initial : Place → Bool → Option TyData → InitOption
    → Resolving (Option TyData × List PartData)
initial at global ty no_init = pure (ty, [])
initial at global ty (some_init i) = initializer at global ty i

-- a declaration that is reached makes its object unset, or fills and initializes it
abbrev pub declared_object : ℕ → ℕ → InitOption → List PartData → Stm
declared_object i size no_init ps = declare_unset i size
declared_object i size (some_init init) ps = initialize i size (parts_stored (slot i) ps)

-- one object more: a global has its bytes, an object of a function its statement
abbrev pub object_made : Site → ℕ → InitOption → List PartData → Resolving (List Stm)
object_made (numbered n) size init ps =
    arrange (with_global (record { size = size; values = parts_known ps })) >> pure []
object_made (slotted i) size init ps =
    arrange (with_object_of size) >> pure (declared_object i size init ps ∷ [])
object_made nowhere size init ps = pure []

-- the type of a declarator: of this base, or of a VARCHAR of its own
abbrev pub object_type : Place → Bool → Option TyData → ℕ → Text → DimList
    → Resolving (Option TyData)
object_type at false t stars name ns = do
  sizes ← lengths at ns
  pure (declared_type t stars sizes)
object_type at true t stars name ns = do
  n ← last_length at ns
  own ← checks (varchar_object at name n)
  sizes ← outer_lengths at ns
  pure (declared_type own stars sizes)

-- An object, at file level or not. Its name is in scope in its own initializer (6.2.1, 7)
abbrev pub object_item : Place → Bool → Bool → Option TyData → DeclaratorData → Resolving (List Stm)
object_item at global varchars t (declarator stars name ns init) = do
  whole ← object_type at varchars t stars name ns
  before ← checks (checked.object_rule at (has_init init) whole)
  k ← ask next_number
  checks (declare at name (object_entry k global before))
  site ← stored (next_site global)
  arrange (with_site site)
  made ← initial at global before init
  checks (know_better name (object_entry k global made.0))
  checks (number_as (type_or_void made.0))
  size ← ask (λ w. size_of_type w made.0)
  object_made site size init made.1

abbrev pub object_items : Place → Bool → Bool → Option TyData → DeclaratorList
    → Resolving (List Stm)
object_items at global varchars t no_declarators = pure []
object_items at global varchars t (declarators d ds) = do
  first ← object_item at global varchars t d
  more ← object_items at global varchars t ds
  pure (first ++ more)

abbrev pub specifier : Place → BaseData → DeclaratorList → Resolving (Option TyData)
specifier at (tagged tag) no_declarators = checks (checked.tag_alone at tag)
specifier at b ds = base at b

abbrev pub declaration : Bool → DeclData → Resolving (List Stm)
declaration global (decl b items section line) = do
  at ← checks (place line)
  t ← specifier at b items
  object_items at global (is_varchar b) t items

-- ---- how many objects a block makes: those that are declared in it, and in no block further in

abbrev pub declarators_in : DeclaratorList → ℕ
declarators_in no_declarators = 0
declarators_in (declarators d ds) = suc (declarators_in ds)

abbrev pub objects_of_decl : DeclData → ℕ
objects_of_decl (decl b items section line) = declarators_in items

abbrev mutual
  pub objects_in : StmtData → ℕ
  objects_in (stmt line kind) = objects_in_kind kind

  pub objects_in_kind : StmtKindData → ℕ
  objects_in_kind (if_stmt e s other) = objects_in s + objects_in_option other
  objects_in_kind (while_stmt e s) = objects_in s
  objects_in_kind (do_stmt s e) = objects_in s
  objects_in_kind (for_stmt x y z s) = objects_in s
  objects_in_kind (label_stmt l s) = objects_in s
  objects_in_kind (decl_stmt d) = objects_of_decl d
  objects_in_kind _ = 0

  pub objects_in_all : StmtList → ℕ
  objects_in_all no_stmts = 0
  objects_in_all (stmt_list s ss) = objects_in s + objects_in_all ss

  pub objects_in_option : StmtOption → ℕ
  objects_in_option no_stmt = 0
  objects_in_option (some_stmt s) = objects_in s

-- ---- statements

-- what stands round a statement: the embedded statements of the program, the labels of the function, and the type of its result
pub record Around : Type 0 where
  pub embs : List EmbData
  pub labels : Named (Unit {0})
  pub result : Option TyData

abbrev pub condition : Place → ExprData → Resolving Exp
condition at e = do
  f ← expr at e >>= value_rule at
  pure f.exp

-- an expression whose value isn't wanted
abbrev pub alone : Place → ExprData → Resolving Exp
alone at e = do
  f ← expr at e
  ask (λ w. done_alone w e f)

abbrev pub optional : Place → Option ExprData → Resolving (Option Exp)
optional at None = pure None
optional at (Some e) = do
  x ← alone at e
  pure (Some x)

abbrev pub optional_condition : Place → Option ExprData → Resolving (Option Exp)
optional_condition at None = pure None
optional_condition at (Some e) = do
  x ← condition at e
  pure (Some x)

-- a value is returned as one of the function's type, as by assignment (6.8.6.4, 3)
abbrev pub return_by : Place → Option TyData → Option ExprData → Resolving Stm
return_by at r None = pure (return None)
return_by at r (Some e) = do
  f ← expr at e >>= value_rule at
  pure (return (Some (as_known_type f.operand.type r f.exp)))

-- a loop behind its first part
abbrev pub behind_first_part : Option Exp → Stm → Stm
behind_first_part None s = s
behind_first_part (Some e) s = together (evaluate e ∷ s ∷ [])

-- a directive does nothing where it stands
abbrev pub embedded_by : ℕ → Option EmbData → Stm
embedded_by n None = embedded_statement n
embedded_by n (Some e) = if is_directive e then nothing else embedded_statement n

-- an embedded statement where it stands
abbrev pub embedded_at : Around → Place → ℕ → Option EmbData → Resolving (Unit {0})
embedded_at a at n None = pure tt
embedded_at a at n (Some e) = embedded_rule a.embs a.labels at n e

abbrev pub with_sizes : List ℕ × Stms → Stm
with_sizes b = block b.0 b.1

abbrev mutual
  pub statement : Around → StmtData → Resolving Stm
  statement a (stmt line kind) = do
    at ← checks (place line)
    s ← statement_kind a at kind
    pure (on_line line.0 s)

  pub statement_kind : Around → Place → StmtKindData → Resolving Stm
  statement_kind a at empty_stmt = pure nothing
  statement_kind a at (expr_stmt e) = do
    x ← alone at e
    pure (evaluate x)
  statement_kind a at (block_stmt ss) = do
    b ← in_block (objects_in_all ss) (scoped (statements a ss))
    pure (with_sizes b)
  statement_kind a at (if_stmt e s other) = scoped (do
    x ← condition at e
    y ← scoped (statement a s)
    z ← otherwise a other
    pure (choose x y z))
  statement_kind a at (while_stmt e s) = scoped (do
    x ← condition at e
    y ← scoped (statement a s)
    pure (loop true (Some x) None y))
  statement_kind a at (do_stmt s e) = scoped (do
    y ← scoped (statement a s)
    x ← condition at e
    pure (loop false (Some x) None y))
  statement_kind a at (for_stmt x y z s) = scoped (do
    first ← optional at x
    test ← optional_condition at y
    behind ← optional at z
    body ← scoped (statement a s)
    pure (behind_first_part first (loop true test behind body)))
  statement_kind a at break_stmt = pure leave
  statement_kind a at continue_stmt = pure next
  statement_kind a at (return_stmt e) = return_by at a.result e
  statement_kind a at (goto_stmt l) = pure (goto (place_in l a.labels))
  statement_kind a at (label_stmt l s) = do
    checks (declare_label at l)
    x ← statement a s
    pure (label (named (place_in l a.labels)) x)
  statement_kind a at (decl_stmt d) = do
    ss ← declaration false d
    pure (together ss)
  statement_kind a at (emb_stmt n) = do
    embedded_at a at n (slice_get a.embs n)
    pure (embedded_by n (slice_get a.embs n))
  statement_kind a at (mark_stmt opens) = pure nothing

  pub statements : Around → StmtList → Resolving Stms
  statements a no_stmts = pure no_stms
  statements a (stmt_list s ss) = do
    x ← statement a s
    xs ← statements a ss
    pure (stms x xs)

  pub otherwise : Around → StmtOption → Resolving Stm
  otherwise a no_stmt = pure nothing
  otherwise a (some_stmt s) = scoped (statement a s)
