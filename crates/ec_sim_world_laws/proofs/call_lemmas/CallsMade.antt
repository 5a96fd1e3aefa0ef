-- A call of the library that is written for a statement is resolved to that call.
use Rattle.std.proofs.Common.{◌≡◌, ◌∙◌, ℕ, Bool, true, false, List, [], ◌∷◌, length, Option, Some, None, refl, sym, subst, codes}
use Rattle.std.specs.Prelude.{◌++◌, ◌||◌, if◌then◌else◌}
use Rattle.ec_base.specs.declared.fault.FaultKind.TheVariants.{F16}
use Rattle.ec_base.specs.declared.line.Line.{Line}
use Rattle.ec_ctypes.specs.Texts.{symbol_text, library_text}
use Rattle.ec_ctypes.specs.declared.checked.library.LibName.{LibName}
use Rattle.ec_ctypes.specs.declared.checked.library.LibName.TheVariants as library
use Rattle.ec_ctypes.specs.declared.checked.library.Sym.{Sym}
use Rattle.ec_ctypes.specs.declared.checked.library.Sym.TheVariants as symbols_of
use Rattle.ec_ctypes.specs.declared.types.arith.Arith.TheVariants as kinds
use Rattle.ec_ctypes.specs.trees.Exprs.{ExprData, integer, character, string, identifier, unary, binary, assign, bump, call, call_other, index, member, arrow, cast, size_type, size_expr, ExprList}
use Rattle.ec_ctypes.specs.trees.Types as types
use Rattle.ec_ctypes.specs.trees.Types.{TyData, void}
use Rattle.ec_arguments.specs.Arguments.{Arg, symbol, literal, null, int_constant, long_constant, pointer, stray, Call, name_of}
use Rattle.ec_arguments.specs.Writing.{arguments}
use Rattle.ec_language.specs.Letters.{Text, same_text}
use Rattle.ec_typing_defs.specs.Known.{is_reserved, with_symbols, arguments_of, is_no_expression, is_symbol, symbols}
use Rattle.ec_typing_defs.specs.Library as seen
use Rattle.ec_typing_defs.specs.Library.{named_among, library_call as library_named, cuts}
use Rattle.ec_typing_defs.specs.Worlds.{Place, ScopeData, World, Rule, out, or_else, look_up, look_up_in, place, followed as check_followed, chain as check_chain, pure as check_pure, ask as check_ask, note, ◌>>◌ as ◌and_then◌}
use Rattle.ec_typing_defs.specs.Expressions as checked
use Rattle.ec_typing_defs.specs.Operands as operands
use Rattle.ec_typing_defs.specs.Operands.{OperandData, unknown, computed, types_of, undeclared_call, call_by}
use Rattle.ec_expansion_defs.specs.Calls.{argument_expr, argument_exprs, call_expr}
use Rattle.ec_phases_defs.specs.written.Calls.{HaveTypes}
use Rattle.ec_phases_defs.proofs.written_lemmas.CallsBack.{are_taken}
use Rattle.ec_meaning_defs.specs.resolved.Resolved.{Exp, Exps, faulty, evaluate, on_line, library_call, no_exps}
use Rattle.ec_resolving_defs.specs.Storage.{Storage, reached, followed, chain, pure, checks, ask, stored, arrange, with_call}
use Rattle.ec_resolving_defs.specs.Operands.{Found, found, as_value, with_form, operands_of, value_rule, library_exp, function_called, call_rule, done_alone, argument_of, name_argument, constant_argument, arguments_of_call, evaluated_before, left_of}
use Rattle.ec_resolving_defs.specs.Calling.{any_calls_function}
use Rattle.ec_resolving_defs.specs.Expressions.{expr, args}
use Rattle.ec_resolving_defs.proofs.Agreeing.{chain_finds, value_finds, expr_finds, args_find}
use Rattle.ec_sim_statement_laws.specs.argument.Arguments.{IsArgument, AreArguments, AreResolved}
use Rattle.ec_sim_statement_laws.specs.expression.Worlds.{AllKeepReserved}
use Rattle.ec_sim_world_laws.specs.call.Calls.{checked_value, cut_of, IsSeen, AreSeen, StandsThere, made_for, IsMade, next_at, place_passed, IsMadeAlone}
use Rattle.ec_sim_world_laws.proofs.call_lemmas.Placed.{arguments_placed}

-- ---- names of the library

name_reserved : (n : LibName) → is_reserved (library_text n) ≡ true
name_reserved library.Do = refl
name_reserved library.Connect = refl
name_reserved library.Disconnect = refl
name_reserved library.SetConn = refl
name_reserved library.SetCommit = refl
name_reserved library.Trans = refl
name_reserved library.Prepare = refl
name_reserved library.Deallocate = refl
name_reserved library.AllocateDesc = refl
name_reserved library.DeallocateDesc = refl
name_reserved library.GetDescHeader = refl
name_reserved library.SetDescHeader = refl
name_reserved library.GetDesc = refl
name_reserved library.SetDesc = refl

name_found : (n : LibName) → library_named true (library_text n) ≡ Some n
name_found library.Do = refl
name_found library.Connect = refl
name_found library.Disconnect = refl
name_found library.SetConn = refl
name_found library.SetCommit = refl
name_found library.Trans = refl
name_found library.Prepare = refl
name_found library.Deallocate = refl
name_found library.AllocateDesc = refl
name_found library.DeallocateDesc = refl
name_found library.GetDescHeader = refl
name_found library.SetDescHeader = refl
name_found library.GetDesc = refl
name_found library.SetDesc = refl

takes_symbols : (n : LibName) → arguments_of true (library_text n) ≡ with_symbols
takes_symbols library.Do = refl
takes_symbols library.Connect = refl
takes_symbols library.Disconnect = refl
takes_symbols library.SetConn = refl
takes_symbols library.SetCommit = refl
takes_symbols library.Trans = refl
takes_symbols library.Prepare = refl
takes_symbols library.Deallocate = refl
takes_symbols library.AllocateDesc = refl
takes_symbols library.DeallocateDesc = refl
takes_symbols library.GetDescHeader = refl
takes_symbols library.SetDescHeader = refl
takes_symbols library.GetDesc = refl
takes_symbols library.SetDesc = refl

symbol_known : (x : Sym) → is_symbol (argument_expr (symbol x)) ≡ true
symbol_known symbols_of.Char = refl
symbol_known symbols_of.UnsignedChar = refl
symbol_known symbols_of.Short = refl
symbol_known symbols_of.UnsignedShort = refl
symbol_known symbols_of.Int = refl
symbol_known symbols_of.UnsignedInt = refl
symbol_known symbols_of.Long = refl
symbol_known symbols_of.UnsignedLong = refl
symbol_known symbols_of.LongLong = refl
symbol_known symbols_of.UnsignedLongLong = refl
symbol_known symbols_of.Bool = refl
symbol_known symbols_of.Varchar = refl
symbol_known symbols_of.Const = refl
symbol_known symbols_of.Descriptor = refl
symbol_known symbols_of.NoIndicator = refl
symbol_known symbols_of.EndOfInputs = refl
symbol_known symbols_of.EndOfOutputs = refl
symbol_known symbols_of.StatementNormal = refl
symbol_known symbols_of.StatementExecute = refl
symbol_known symbols_of.StatementExecImmediate = refl
symbol_known symbols_of.StatementOpen = refl
symbol_known symbols_of.ItemData = refl
symbol_known symbols_of.ItemIndicator = refl
symbol_known symbols_of.ItemName = refl
symbol_known symbols_of.ItemType = refl
symbol_known symbols_of.ItemOctets = refl
symbol_known symbols_of.EndOfItems = refl

-- a reserved name stands for nothing
unknown_in : (x : Text) → is_reserved x ≡ true → (ss : List ScopeData) → AllKeepReserved ss → look_up_in ss x ≡ None
unknown_in x e [] p = refl
unknown_in x e (s ∷ ss) p = λ i. or_else (p.0 x e i) (unknown_in x e ss p.1 i)

-- ---- what the walk sees as a pointer, the checks see as one

abbrev IsPointing : {A : Type 0} → Arg A → Type 0
IsPointing (pointer a) = Unit {0}
IsPointing _ = ⊥

abbrev a_pointer : Found
a_pointer = found (computed (Some (types.pointer void))) faulty false

no_constant : (n : ℕ) (t : TyData) → IsPointing (constant_argument n t) → ⊥
no_constant n (types.arithmetic kinds.Bool) p = p
no_constant n (types.arithmetic kinds.Char) p = p
no_constant n (types.arithmetic kinds.UChar) p = p
no_constant n (types.arithmetic kinds.Short) p = p
no_constant n (types.arithmetic kinds.UShort) p = p
no_constant n (types.arithmetic kinds.Int) p = p
no_constant n (types.arithmetic kinds.UInt) p = p
no_constant n (types.arithmetic kinds.Long) p = p
no_constant n (types.arithmetic kinds.ULong) p = p
no_constant n (types.arithmetic kinds.LLong) p = p
no_constant n (types.arithmetic kinds.ULLong) p = p
no_constant n void p = p
no_constant n (types.pointer t) p = p
no_constant n (types.array t m) p = p
no_constant n (types.structure k) p = p

null_seen : (b : Bool) → IsPointing (if b then null else pointer faulty) → (t : Option TyData) → (if b then null else seen.pointer_argument t) ≡ seen.pointer_argument t
null_seen true p t = absurd p
null_seen false p t = refl

name_seen : (x : Text) (o : Option Sym) → IsPointing (name_argument x o a_pointer) → (t : Option TyData) → seen.name_argument x o t ≡ seen.pointer_argument t
name_seen x (Some s) p t = absurd p
name_seen x None p t = null_seen (same_text x (codes "NULL")) p t

pointer_seen : (e : ExprData) → IsPointing (argument_of e a_pointer) → (t : Option TyData) → seen.argument_of e t ≡ seen.pointer_argument t
pointer_seen (identifier x) p t = name_seen x (named_among symbol_text x symbols) p t
pointer_seen (string s) p t = absurd p
pointer_seen (integer n a) p t = absurd (no_constant n a p)
pointer_seen (character c) p t = refl
pointer_seen (unary op e) p t = refl
pointer_seen (binary op a b) p t = refl
pointer_seen (assign op a b) p t = refl
pointer_seen (bump before up e) p t = refl
pointer_seen (call f es) p t = refl
pointer_seen (call_other f es) p t = refl
pointer_seen (index a b) p t = refl
pointer_seen (member e m) p t = refl
pointer_seen (arrow e m) p t = refl
pointer_seen (cast b stars e) p t = refl
pointer_seen (size_type b stars) p t = refl
pointer_seen (size_expr e) p t = refl

-- ---- arguments, as the checks see them

one_type : (is_text : ExprData → Bool) (a : Arg ExprData) (more : List (Arg ExprData)) (t : Option TyData) (ts : List (Option TyData))
    → HaveTypes is_text (a ∷ []) (t ∷ []) → HaveTypes is_text more ts → HaveTypes is_text (a ∷ more) (t ∷ ts)
one_type is_text (symbol x) more t ts p q = q
one_type is_text (literal bytes) more t ts p q = q
one_type is_text null more t ts p q = q
one_type is_text (int_constant n) more t ts p q = q
one_type is_text (long_constant n) more t ts p q = q
one_type is_text (pointer e) more t ts p q = (p.0, q)
one_type is_text stray more t ts p q = p

module _ (at : Place) (s : Storage) (w : World) (g : ExprData → Exp) (is_text : ExprData → Bool) where
  -- an argument where it stands, by what is seen of its form
  abbrev by_form : Bool → ExprData → Rule OperandData
  by_form symbols e = elim symbols [ true ↦ check_pure unknown | false ↦ checked_value at e ]

  record Seen (a : Arg ExprData) : Type 0 where
    operand : OperandData
    is : by_form (is_no_expression with_symbols (argument_expr a)) (argument_expr a) w ≡ out operand [] w
    type : HaveTypes is_text (a ∷ []) (operand.type ∷ [])

  record AllSeen (written : List (Arg ExprData)) : Type 0 where
    operands : List OperandData
    is : checked.args at with_symbols (argument_exprs written) w ≡ out operands [] w
    types : HaveTypes is_text written (types_of operands)

  seen_symbol : (x : Sym) → Seen (symbol x)
  unfolding check_pure
  seen_symbol x = record {
    operand = unknown;
    is = λ j. by_form (symbol_known x j) (argument_expr (symbol x)) w;
    type = tt;
  }

  seen_literal : (bytes : List ℕ) → Seen (literal bytes)
  unfolding check_chain check_pure check_ask operands.value_rule
  seen_literal bytes = record { operand = _; is = refl; type = tt }

  seen_int : (n : ℕ) → Seen (int_constant n)
  unfolding check_chain check_pure check_ask operands.value_rule
  seen_int n = record { operand = _; is = refl; type = tt }

  seen_long : (n : ℕ) → Seen (long_constant n)
  unfolding check_chain check_pure check_ask operands.value_rule
  seen_long n = record { operand = _; is = refl; type = tt }

  seen_null : look_up (codes "NULL") w ≡ None → Seen null
  unfolding check_chain check_pure check_ask operands.value_rule operands.name_rule operands.named_by
  seen_null h = record {
    operand = operands.valued operands.null_operand (types.pointer void);
    is = λ j. check_followed (operands.named_by at (codes "NULL") (h j) w) (operands.value_rule at);
    type = tt;
  }

  seen_pointer : (e : ExprData) → IsArgument at s w e (g e) → IsSeen at w is_text e → Seen (pointer e)
  unfolding chain check_chain
  seen_pointer e h k = record {
    operand = (checked_value at e w).answer;
    is = (λ j. by_form (h.no_symbol j) e w) ∙ (λ j. out (checked_value at e w).answer (k.without_fault j) (known j));
    type = (pointer_seen e pointing (checked_value at e w).answer.type ∙ k.kind, tt);
  }
    where
      known : (checked_value at e w).world ≡ w
      known = sym ((chain_finds (expr at e) (checked.expr at e) (value_rule at) (operands.value_rule at) (expr_finds at e) (value_finds at)).world s w)
          ∙ (λ j. (h.is.is j).world)

      pointing : IsPointing (argument_of e a_pointer)
      pointing = subst IsPointing (sym (h.form a_pointer)) tt

  -- one argument, and then others
  one_more : (a : Arg ExprData) (more : List (Arg ExprData)) → Seen a → AllSeen more → AllSeen (a ∷ more)
  unfolding check_chain check_pure
  one_more a more first rest = record {
    operands = first.operand ∷ rest.operands;
    is =
        (λ j. check_followed (first.is j) (λ o. check_chain (checked.args at with_symbols (argument_exprs more)) (λ os. check_pure (o ∷ os))))
        ∙ (λ j. check_followed (rest.is j) (λ os. check_pure (first.operand ∷ os)));
    types = one_type is_text a more first.operand.type (types_of rest.operands) first.type rest.types;
  }

  all_seen : (written : List (Arg ExprData)) → look_up (codes "NULL") w ≡ None → AreArguments at s w g written → AreSeen at w is_text written → AllSeen written
  unfolding check_pure
  all_seen [] h p q = record { operands = []; is = refl; types = tt }
  all_seen (symbol x ∷ more) h p q = one_more (symbol x) more (seen_symbol x) (all_seen more h p q)
  all_seen (literal bytes ∷ more) h p q = one_more (literal bytes) more (seen_literal bytes) (all_seen more h p q)
  all_seen (null ∷ more) h p q = one_more null more (seen_null h) (all_seen more h p q)
  all_seen (int_constant n ∷ more) h p q = one_more (int_constant n) more (seen_int n) (all_seen more h p q)
  all_seen (long_constant n ∷ more) h p q = one_more (long_constant n) more (seen_long n) (all_seen more h p q)
  all_seen (pointer e ∷ more) h p q = one_more (pointer e) more (seen_pointer e p.0 q.0) (all_seen more h p.1 q.1)
  all_seen (stray ∷ more) h p q = absurd p

-- ---- the call

-- that all arguments are resolved
abbrev pub AllResolved : Type 0
AllResolved = (at : Place) (s : Storage) (w : World) (g : ExprData → Exp) (written : List (Arg ExprData))
    → look_up (codes "NULL") w ≡ None → AreArguments at s w g written → AreResolved at s w g written

module _ (all : AllResolved) (at : Place) (t : Storage) (w : World) (g : ExprData → Exp) (is_text : ExprData → Bool)
    (line : ℕ) (c : Call ExprData) (h : StandsThere at t w g is_text line c) where
  abbrev written : List (Arg ExprData)
  written = arguments (cut_of line c)

  abbrev es : ExprList
  es = argument_exprs written

  abbrev f : Text
  f = library_text (name_of c)

  unknown_name : (x : Text) → is_reserved x ≡ true → look_up x w ≡ None
  unknown_name x e = λ i. or_else (h.reserved_here x e i) (unknown_in x e w.outer h.reserved_outer i)

  of_library : library_named w.written f ≡ Some (name_of c)
  of_library = (λ i. library_named (h.written i) f) ∙ name_found (name_of c)

  forms : arguments_of w.written f ≡ with_symbols
  forms = (λ i. arguments_of (h.written i) f) ∙ takes_symbols (name_of c)

  of_walk : AreResolved at t w g written
  of_walk = all at t w g written (unknown_name (codes "NULL") refl) h.pointers

  of_checks : AllSeen at t w g is_text written
  of_checks = all_seen at t w g is_text written (unknown_name (codes "NULL") refl) h.pointers h.seen

  takes : cuts (name_of c) es (types_of of_checks.operands) ≡ true
  takes = are_taken is_text (cut_of line c) (types_of of_checks.operands) h.rules of_checks.types

  same_operands : operands_of of_walk.found ≡ of_checks.operands
  same_operands = (λ i. operands_of (sym of_walk.is i).answer) ∙ (args_find at with_symbols es).answer t w ∙ (λ i. (of_checks.is i).answer)

  -- the checks' rule of a call, if it cuts
  abbrev by_cuts : Bool → Rule OperandData
  by_cuts b = elim b [ false ↦ note at F16 and_then check_pure unknown | true ↦ check_pure (computed (Some void)) ]

  ruled : (os : List OperandData) → cuts (name_of c) es (types_of os) ≡ true → operands.call_rule at f es os w ≡ out (computed (Some void)) [] w
  unfolding operands.call_rule call_by check_chain check_ask check_pure
  ruled os e =
      (λ i. check_followed (out (unknown_name f (name_reserved (name_of c)) i) [] w) (λ entry. call_by at f es os entry))
      ∙ (λ i. check_followed (out (of_library i) [] w) (λ l. undeclared_call at f es os l))
      ∙ (λ i. let o = by_cuts (e i) w in out o.answer o.found o.world)

  checked_call : checked.expr at (call_expr line c) w ≡ out (computed (Some void)) [] w
  unfolding check_chain check_ask
  checked_call =
      (λ i. check_followed (out (forms i) [] w) (λ a. check_chain (checked.args at a es) (λ os. operands.call_rule at f es os)))
      ∙ (λ i. check_followed (of_checks.is i) (λ os. operands.call_rule at f es os))
      ∙ (λ i. let o = ruled of_checks.operands takes i in out o.answer o.found o.world)

  -- no function is called for its arguments
  silent_all : (xs : List (Arg ExprData)) → AreSeen at w is_text xs → any_calls_function (argument_exprs xs) ≡ false
  silent_all [] p = refl
  silent_all (symbol x ∷ more) p = silent_all more p
  silent_all (literal bytes ∷ more) p = silent_all more p
  silent_all (null ∷ more) p = silent_all more p
  silent_all (int_constant n ∷ more) p = silent_all more p
  silent_all (long_constant n ∷ more) p = silent_all more p
  silent_all (pointer e ∷ more) p = (λ i. p.0.silent i || any_calls_function (argument_exprs more)) ∙ silent_all more p.1
  silent_all (stray ∷ more) p = silent_all more p

  silent : any_calls_function es ≡ false
  silent = silent_all written h.seen

  abbrev before_call : Bool → Exps
  before_call b = evaluated_before b (arguments_of_call es of_walk.found)

  resolved_call : expr at (call_expr line c) t w ≡ reached (found (computed (Some void)) (library_call (length t.calls) no_exps) false) (with_call (made_for g line c) t) w
  unfolding chain ask stored arrange pure checks
  resolved_call =
      (λ i. followed (reached (forms i) t w) (λ a. chain (args at a es) (λ fs. call_rule at f es fs)))
      ∙ (λ i. followed (of_walk.is i) (λ fs. call_rule at f es fs))
      ∙ (λ i. followed (followed (reached (of_library i) t w) (λ l. elim l [ Some n ↦ library_exp n es of_walk.found | None ↦ function_called f es of_walk.found ]))
      (λ e. with_form (as_value e) (operands.call_rule at f es (operands_of of_walk.found))))
      ∙ (λ i. let o = ruled (operands_of of_walk.found) ((λ j. cuts (name_of c) es (types_of (same_operands j))) ∙ takes) i in
      reached (found o.answer (library_call (length t.calls) (before_call (any_calls_function es))) false) (with_call (name_of c, left_of (any_calls_function es) (arguments_of_call es of_walk.found)) t) o.world)
      ∙ (λ i. reached (found (computed (Some void)) (library_call (length t.calls) (before_call (silent i))) false) (with_call (name_of c, left_of (silent i) (arguments_of_call es of_walk.found)) t) w)
      ∙ (λ i. reached (found (computed (Some void)) (library_call (length t.calls) no_exps) false)
      (with_call (name_of c, (of_walk.are ∙ arguments_placed g line c) i) t) w)

  pub made : IsMade at t w g line c
  made = record { resolved = resolved_call; checked = checked_call }

-- ---- as a statement

module _ (all : AllResolved) (t : Storage) (w : World) (g : ExprData → Exp) (is_text : ExprData → Bool)
    (line : Line) (c : Call ExprData) (h : StandsThere (next_at w line) t (place_passed w) g is_text line.0 c) where
  as_expression : IsMade (next_at w line) t (place_passed w) g line.0 c
  as_expression = made all (next_at w line) t (place_passed w) g is_text line.0 c h

  pub made_alone : IsMadeAlone t w g line c
  unfolding chain ask pure checks place check_chain check_pure
  made_alone = record {
    resolved = λ a i. followed (followed (followed (as_expression.resolved i) (λ x. ask (λ v. done_alone v (call_expr line.0 c) x)))
        (λ x. pure (evaluate x))) (λ x. pure (on_line line.0 x));
    checked = λ a i. let o = as_expression.checked i in out tt (o.found ++ []) o.world;
  }
