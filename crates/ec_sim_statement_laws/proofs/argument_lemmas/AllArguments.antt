-- Each argument of a written call is resolved to itself.
use Rattle.std.proofs.Common.{◌≡◌, ◌∙◌, ℕ, Bool, true, false, List, [], ◌∷◌, Option, None, refl, codes}
use Rattle.ec_arguments.specs.Arguments.{Arg, symbol, literal, null, int_constant, long_constant, pointer, stray}
use Rattle.ec_ctypes.specs.declared.checked.library.Sym.{Sym}
use Rattle.ec_ctypes.specs.declared.checked.library.Sym.TheVariants as symbols_of
use Rattle.ec_ctypes.specs.trees.Exprs.{ExprData}
use Rattle.ec_ctypes.specs.trees.Types as types
use Rattle.ec_expansion_defs.specs.Calls.{argument_expr, argument_exprs}
use Rattle.ec_typing_defs.specs.Known.{with_symbols, is_symbol, is_no_expression}
use Rattle.ec_typing_defs.specs.Operands as checked
use Rattle.ec_typing_defs.specs.Operands.{name_rule as check_name, named_by as check_named, value_rule as check_value}
use Rattle.ec_typing_defs.specs.Worlds.{Place, EntryData, World, look_up, chain as check_chain, pure as check_pure, ask as check_ask}
use Rattle.ec_memory_defs.specs.Memory.{address}
use Rattle.ec_meaning_defs.specs.resolved.Resolved.{Exp, constant}
use Rattle.ec_resolving_defs.specs.Storage.{Storage, Resolving, Reached, reached, followed, chain, pure, checks, ask, stored}
use Rattle.ec_resolving_defs.specs.Operands.{Found, found as found_of, named_exp, value_rule, no_expression, is_library_literal, argument_of, pointer_argument}
use Rattle.ec_resolving_defs.specs.Expressions.{library_literal, args}
use Rattle.ec_phases_defs.specs.written.Calls.{argument_with}
use Rattle.ec_sim_statement_laws.specs.argument.Arguments.{IsArgument, AreArguments, AreResolved}
use Rattle.ec_sim_statement_laws.specs.argument.Pointers.{value_of}

-- ---- symbols

symbol_is : (x : Sym) → is_symbol (argument_expr (symbol x)) ≡ true
symbol_is symbols_of.Char = refl
symbol_is symbols_of.UnsignedChar = refl
symbol_is symbols_of.Short = refl
symbol_is symbols_of.UnsignedShort = refl
symbol_is symbols_of.Int = refl
symbol_is symbols_of.UnsignedInt = refl
symbol_is symbols_of.Long = refl
symbol_is symbols_of.UnsignedLong = refl
symbol_is symbols_of.LongLong = refl
symbol_is symbols_of.UnsignedLongLong = refl
symbol_is symbols_of.Bool = refl
symbol_is symbols_of.Varchar = refl
symbol_is symbols_of.Const = refl
symbol_is symbols_of.Descriptor = refl
symbol_is symbols_of.NoIndicator = refl
symbol_is symbols_of.EndOfInputs = refl
symbol_is symbols_of.EndOfOutputs = refl
symbol_is symbols_of.StatementNormal = refl
symbol_is symbols_of.StatementExecute = refl
symbol_is symbols_of.StatementExecImmediate = refl
symbol_is symbols_of.StatementOpen = refl
symbol_is symbols_of.ItemData = refl
symbol_is symbols_of.ItemIndicator = refl
symbol_is symbols_of.ItemName = refl
symbol_is symbols_of.ItemType = refl
symbol_is symbols_of.ItemOctets = refl
symbol_is symbols_of.EndOfItems = refl

symbol_seen : (x : Sym) (f : Found) → argument_of (argument_expr (symbol x)) f ≡ symbol x
symbol_seen symbols_of.Char f = refl
symbol_seen symbols_of.UnsignedChar f = refl
symbol_seen symbols_of.Short f = refl
symbol_seen symbols_of.UnsignedShort f = refl
symbol_seen symbols_of.Int f = refl
symbol_seen symbols_of.UnsignedInt f = refl
symbol_seen symbols_of.Long f = refl
symbol_seen symbols_of.UnsignedLong f = refl
symbol_seen symbols_of.LongLong f = refl
symbol_seen symbols_of.UnsignedLongLong f = refl
symbol_seen symbols_of.Bool f = refl
symbol_seen symbols_of.Varchar f = refl
symbol_seen symbols_of.Const f = refl
symbol_seen symbols_of.Descriptor f = refl
symbol_seen symbols_of.NoIndicator f = refl
symbol_seen symbols_of.EndOfInputs f = refl
symbol_seen symbols_of.EndOfOutputs f = refl
symbol_seen symbols_of.StatementNormal f = refl
symbol_seen symbols_of.StatementExecute f = refl
symbol_seen symbols_of.StatementExecImmediate f = refl
symbol_seen symbols_of.StatementOpen f = refl
symbol_seen symbols_of.ItemData f = refl
symbol_seen symbols_of.ItemIndicator f = refl
symbol_seen symbols_of.ItemName f = refl
symbol_seen symbols_of.ItemType f = refl
symbol_seen symbols_of.ItemOctets f = refl
symbol_seen symbols_of.EndOfItems f = refl

module _ (at : Place) (s : Storage) (w : World) (g : ExprData → Exp) where
  -- an argument where it stands, by what is seen of its form
  abbrev by_form : Bool → Bool → ExprData → Resolving Found
  by_form symbols literals e = elim symbols [
    | true ↦ pure no_expression
    | false ↦ elim literals [ true ↦ library_literal at e | false ↦ value_of at e ]
  ]

  abbrev there : ExprData → Resolving Found
  there e = by_form (is_no_expression with_symbols e) (is_library_literal with_symbols e) e

  record Resolved (a : Arg ExprData) : Type 0 where
    found : Found
    is : there (argument_expr a) s w ≡ reached found s w
    seen : argument_of (argument_expr a) found ≡ argument_with g a

  a_symbol : (x : Sym) → Resolved (symbol x)
  unfolding pure
  a_symbol x = record {
    found = no_expression;
    is = λ j. by_form (symbol_is x j) (is_library_literal with_symbols (argument_expr (symbol x))) (argument_expr (symbol x)) s w;
    seen = symbol_seen x no_expression;
  }

  a_literal : (bytes : List ℕ) → Resolved (literal bytes)
  unfolding library_literal chain pure checks check_chain check_pure check_ask check_value
  a_literal bytes = record { found = _; is = refl; seen = refl }

  an_int : (n : ℕ) → Resolved (int_constant n)
  unfolding chain pure checks check_chain check_pure check_ask check_value
  an_int n = record { found = _; is = refl; seen = refl }

  a_long : (n : ℕ) → Resolved (long_constant n)
  unfolding chain pure checks check_chain check_pure check_ask check_value
  a_long n = record { found = _; is = refl; seen = refl }

  a_null : look_up (codes "NULL") w ≡ None → Resolved null
  unfolding chain pure checks ask stored check_chain check_pure check_ask check_value check_name check_named
  a_null h = record {
    found = record {
      operand = checked.valued checked.null_operand (types.pointer types.void);
      exp = constant (address 0);
      is_address = false;
    };
    is = λ j. named (h j);
    seen = refl;
  }
    where
      named : Option EntryData → Reached Found
      named entry =
          let o = checked.named_by at (codes "NULL") entry w in
          followed (reached (found_of o.answer (named_exp s.sites (codes "NULL") entry) o.answer.is_place) s o.world) (value_rule at)

  a_pointer : (e : ExprData) → IsArgument at s w e (g e) → Resolved (pointer e)
  a_pointer e h = record {
    found = found_of h.is.operand (g e) false;
    is =
        (λ j. by_form (h.no_symbol j) (h.no_literal j) e s w)
        ∙ h.is.is;
    seen = h.form (found_of h.is.operand (g e) false) ∙ (λ j. pointer_argument (h.is.type j) (g e));
  }

  -- one argument, and then others
  one_more : (a : Arg ExprData) (more : List (Arg ExprData)) → Resolved a → AreResolved at s w g more → AreResolved at s w g (a ∷ more)
  unfolding chain pure
  one_more a more first rest = record {
    found = first.found ∷ rest.found;
    is =
        (λ j. followed (first.is j) (λ f. chain (args at with_symbols (argument_exprs more)) (λ fs. pure (f ∷ fs))))
        ∙ (λ j. followed (rest.is j) (λ fs. pure (first.found ∷ fs)));
    are = λ j. first.seen j ∷ rest.are j;
  }

  pub all_resolved : (written : List (Arg ExprData)) → look_up (codes "NULL") w ≡ None → AreArguments at s w g written → AreResolved at s w g written
  unfolding pure
  all_resolved [] h r = record { found = []; is = refl; are = refl }
  all_resolved (symbol x ∷ more) h r = one_more (symbol x) more (a_symbol x) (all_resolved more h r)
  all_resolved (literal bytes ∷ more) h r = one_more (literal bytes) more (a_literal bytes) (all_resolved more h r)
  all_resolved (null ∷ more) h r = one_more null more (a_null h) (all_resolved more h r)
  all_resolved (int_constant n ∷ more) h r = one_more (int_constant n) more (an_int n) (all_resolved more h r)
  all_resolved (long_constant n ∷ more) h r = one_more (long_constant n) more (a_long n) (all_resolved more h r)
  all_resolved (pointer e ∷ more) h r = one_more (pointer e) more (a_pointer e r.0) (all_resolved more h r.1)
  all_resolved (stray ∷ more) h r = absurd r
