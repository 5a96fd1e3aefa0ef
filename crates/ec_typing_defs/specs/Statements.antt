-- What is found out about declarations (ISO/IEC 9899:1999, 6.7) and statements (6.8).
use Rattle.std.specs.Prelude.{ℕ, zero, Bool, true, false, not, ◌&&◌, List, Option, Some, None, is_some, slice_get}
use Rattle.ec_base.specs.declared.fault.FaultKind.TheVariants.{F14, F18}
use Rattle.ec_ctypes.specs.trees.Types.{TyData, void, array}
use Rattle.ec_ctypes.specs.trees.Exprs.{ExprData, BaseData, tagged, DimList, InitOption, no_init, some_init, DeclaratorData, declarator, DeclaratorList, no_declarators, declarators, DeclData, decl}
use Rattle.ec_ctypes.specs.trees.Stmts.{StmtData, stmt, StmtKindData, empty_stmt, expr_stmt, block_stmt, if_stmt, while_stmt, do_stmt, for_stmt, break_stmt, continue_stmt, return_stmt, goto_stmt, label_stmt, decl_stmt, emb_stmt, mark_stmt, StmtList, no_stmts, stmts, StmtOption, no_stmt, some_stmt}
use Rattle.ec_ctypes.specs.trees.Embedded.{EmbData}
use Rattle.ec_language.specs.Letters.{Text}
use Rattle.ec_typing_defs.specs.Tables.{Named, find, put}
use Rattle.ec_typing_defs.specs.Types.{is_void, is_scalar, is_assignable}
use Rattle.ec_typing_defs.specs.Worlds.{object, unlisted, World, Rule, ◌>>=◌, ◌>>◌, pure, ask, demand, scoped, declare, know_better, declare_label, free_tag, Place, place, next_number, number_as, is_complete}
use Rattle.ec_typing_defs.specs.Operands.{OperandData, value_rule, is_null, declared_type, elements_rule, within_rule, complete_rule}
use Rattle.ec_typing_defs.specs.Expressions.{expr, base, lengths, last_length, outer_lengths, is_varchar, varchar_object, tagged_struct, has_init}
use Rattle.ec_typing_defs.specs.Embedded.{embedded_rule}
use Rattle.ec_typing_defs.specs.Initializers.{initializer}

-- ---- declarations

abbrev pub type_or_void : Option TyData → TyData
type_or_void None = void
type_or_void (Some t) = t

-- an array of known elements whose length its initializer tells
abbrev pub waits_for_length : Bool → TyData → World → Bool
waits_for_length has (array t zero) w = has && is_complete w t
waits_for_length has _ w = false

-- the type of an object: it is complete, or its initializer completes it; else F14
unfoldable pub object_rule : Place → Bool → Option TyData → Rule (Option TyData)
object_rule at has None = pure None
object_rule at has (Some t) = do
  waits ← ask (waits_for_length has t)
  elim waits [ true ↦ pure (Some t) | false ↦ complete_rule at (Some t) ]

abbrev pub initial : Place → Bool → Option TyData → InitOption → Rule (Option TyData)
initial at global ty no_init = pure ty
initial at global ty (some_init i) = initializer at global ty i

-- the type of a declarator: of this base, or of a VARCHAR of its own
abbrev pub object_type : Place → Bool → Option TyData → ℕ → Text → DimList → Rule (Option TyData)
object_type at false t stars name ns = do
  sizes ← lengths at ns
  elements_rule at t stars sizes
  pure (declared_type t stars sizes)
object_type at true t stars name ns = do
  n ← last_length at ns
  own ← varchar_object at name n
  sizes ← outer_lengths at ns
  elements_rule at own stars sizes
  pure (declared_type own stars sizes)

-- An object, at file level or not. Its name is in scope in its own initializer (6.2.1, 7), where an array may have no length yet.
abbrev pub object_item : Place → Bool → Bool → Option TyData → DeclaratorData → Rule (Unit {0})
object_item at global is_varchar t (declarator stars name ns init) = do
  whole ← object_type at is_varchar t stars name ns
  within_rule at whole
  before ← object_rule at (has_init init) whole
  k ← ask next_number
  declare at name (object k global before)
  ty ← initial at global before init
  within_rule at ty
  know_better name (object k global ty)
  number_as (type_or_void ty)

abbrev pub object_items : Place → Bool → Bool → Option TyData → DeclaratorList → Rule (Unit {0})
object_items at global is_varchar t no_declarators = pure tt
object_items at global is_varchar t (declarators d ds) =
    object_item at global is_varchar t d >> object_items at global is_varchar t ds

-- a tag alone declares a struct, unless this scope has it (6.7.2.3, 7)
abbrev pub declared_tag : Text → Option ℕ → Rule (Option TyData)
declared_tag tag None = tagged_struct tag unlisted >> pure None
declared_tag tag (Some k) = pure None

unfoldable pub tag_alone : Place → Text → Rule (Option TyData)
tag_alone at tag = do
  free_tag at tag
  before ← ask (λ w. find tag w.here.tags)
  declared_tag tag before

abbrev pub specifier : Place → BaseData → DeclaratorList → Rule (Option TyData)
specifier at (tagged tag) no_declarators = tag_alone at tag
specifier at b ds = base at b

abbrev pub declaration : Bool → DeclData → Rule (Unit {0})
declaration global (decl b items section line) = do
  at ← place line
  t ← specifier at b items
  object_items at global (is_varchar b) t items

-- ---- statements

-- what stands round a statement: the embedded statements of the program, whether it is the body of `if`, `else`, a loop or a label, whether a loop stands round it, the labels of the function, and the type of its result
pub record Around : Type 0 where
  pub embs : List EmbData
  pub is_body : Bool
  pub in_loop : Bool
  pub labels : Named (Unit {0})
  pub result : Option TyData

-- the body of `if`, `else` or a label
abbrev pub as_body : Around → Around
as_body a = record a { is_body = true }

abbrev pub looping : Around → Around
looping a = record a { is_body = true; in_loop = true }

-- an item of a block
abbrev pub as_item : Around → Around
as_item a = record a { is_body = false }

-- a condition is a scalar (6.8.4.1, 1; 6.8.5, 2)
unfoldable pub condition_rule : Place → OperandData → Rule (Unit {0})
condition_rule at o = elim o.type [ None ↦ pure tt | Some t ↦ demand at F14 (is_scalar t) ]

abbrev pub condition : Place → ExprData → Rule (Unit {0})
condition at e = (expr at e >>= value_rule at) >>= condition_rule at

abbrev pub optional : Place → Option ExprData → Rule (Unit {0})
optional at None = pure tt
optional at (Some e) = expr at e >> pure tt

abbrev pub optional_condition : Place → Option ExprData → Rule (Unit {0})
optional_condition at None = pure tt
optional_condition at (Some e) = condition at e

abbrev pub returns : TyData → TyData → Bool → Bool
returns s t null = not (is_void s) && is_assignable s t null

-- `return` with a value, which the result may take as by assignment (6.8.6.4, 1 and 3)
unfoldable pub return_rule : Place → Option TyData → OperandData → Rule (Unit {0})
return_rule at None o = pure tt
return_rule at (Some s) o =
    elim o.type [ None ↦ pure tt | Some t ↦ demand at F14 (returns s t (is_null o)) ]

-- `return` alone stands in a function without a result (6.8.6.4, 1)
unfoldable pub return_nothing : Place → Option TyData → Rule (Unit {0})
return_nothing at None = pure tt
return_nothing at (Some s) = demand at F14 (is_void s)

abbrev pub return_by : Place → Option TyData → Option ExprData → Rule (Unit {0})
return_by at r None = return_nothing at r
return_by at r (Some e) = (expr at e >>= value_rule at) >>= return_rule at r

abbrev pub embedded_at : Around → Place → ℕ → Option EmbData → Rule (Unit {0})
embedded_at a at n None = pure tt
embedded_at a at n (Some e) = embedded_rule a.embs a.is_body a.in_loop a.labels at n e

-- A statement is a place. An `if`, a loop and each statement in them are a scope (6.8.4, 3; 6.8.5, 5), as a block is (6.8.2). A condition of `do` stands behind the body and has the place of the statement.
abbrev mutual
  pub statement : Around → StmtData → Rule (Unit {0})
  statement a (stmt line kind) = do
    at ← place line
    statement_kind a at kind

  pub statement_kind : Around → Place → StmtKindData → Rule (Unit {0})
  statement_kind a at empty_stmt = pure tt
  statement_kind a at (expr_stmt e) = expr at e >> pure tt
  statement_kind a at (block_stmt ss) = scoped (statements (as_item a) ss)
  statement_kind a at (if_stmt e s other) =
      scoped (condition at e >> (scoped (statement (as_body a) s) >> otherwise (as_body a) other))
  statement_kind a at (while_stmt e s) = scoped (condition at e >> scoped (statement (looping a) s))
  statement_kind a at (do_stmt s e) = scoped (scoped (statement (looping a) s) >> condition at e)
  statement_kind a at (for_stmt x y z s) =
      scoped (optional at x >>
      (optional_condition at y >> (optional at z >> scoped (statement (looping a) s))))
  statement_kind a at break_stmt = demand at F18 a.in_loop
  statement_kind a at continue_stmt = demand at F18 a.in_loop
  statement_kind a at (return_stmt e) = return_by at a.result e
  statement_kind a at (goto_stmt l) = demand at F18 (is_some (find l a.labels))
  statement_kind a at (label_stmt l s) = declare_label at l >> statement (as_body a) s
  statement_kind a at (decl_stmt d) = declaration false d
  statement_kind a at (emb_stmt n) = embedded_at a at n (slice_get a.embs n)
  statement_kind a at (mark_stmt opens) = pure tt

  pub statements : Around → StmtList → Rule (Unit {0})
  statements a no_stmts = pure tt
  statements a (stmts s ss) = statement a s >> statements a ss

  pub otherwise : Around → StmtOption → Rule (Unit {0})
  otherwise a no_stmt = pure tt
  otherwise a (some_stmt s) = scoped (statement a s)

-- ---- the labels of a function, after those that were found before (6.2.1, 3)

abbrev mutual
  pub labels_in : StmtData → Named (Unit {0}) → Named (Unit {0})
  labels_in (stmt line kind) ls = labels_in_kind kind ls

  pub labels_in_kind : StmtKindData → Named (Unit {0}) → Named (Unit {0})
  labels_in_kind (block_stmt ss) ls = labels_in_all ss ls
  labels_in_kind (if_stmt e s other) ls = labels_in_option other (labels_in s ls)
  labels_in_kind (while_stmt e s) ls = labels_in s ls
  labels_in_kind (do_stmt s e) ls = labels_in s ls
  labels_in_kind (for_stmt x y z s) ls = labels_in s ls
  labels_in_kind (label_stmt l s) ls = labels_in s (put l tt ls)
  labels_in_kind _ ls = ls

  pub labels_in_all : StmtList → Named (Unit {0}) → Named (Unit {0})
  labels_in_all no_stmts ls = ls
  labels_in_all (stmts s ss) ls = labels_in_all ss (labels_in s ls)

  pub labels_in_option : StmtOption → Named (Unit {0}) → Named (Unit {0})
  labels_in_option no_stmt ls = ls
  labels_in_option (some_stmt s) ls = labels_in s ls
