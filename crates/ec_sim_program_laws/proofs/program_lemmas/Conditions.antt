-- Conditions, expressions whose value isn't wanted, and what is returned are alike wherever expressions are.
use Rattle.std.proofs.Common.{◌≡◌, ◌∙◌, ℕ, Bool, true, false, Option, Some, None, refl, sym}
use Rattle.std.specs.Prelude.{if◌then◌else◌}
use Rattle.ec_base.specs.declared.fault.FaultKind.TheVariants.{F14}
use Rattle.ec_ctypes.specs.trees.Types.{TyData}
use Rattle.ec_ctypes.specs.trees.Exprs.{ExprData, integer, character, string, identifier, unary, binary, assign, bump, call, call_other, index, member, arrow, cast, size_type, size_expr, BaseData}
use Rattle.ec_expansion_defs.specs.Declarations.{written_expr, written_base, written_option}
use Rattle.ec_typing_defs.specs.Operands as checked_operands
use Rattle.ec_typing_defs.specs.Operands.{OperandData, is_null}
use Rattle.ec_typing_defs.specs.Expressions as checked_parts
use Rattle.ec_typing_defs.specs.Statements as checked
use Rattle.ec_typing_defs.specs.Types.{is_scalar}
use Rattle.ec_typing_defs.specs.Worlds.{Place, World, Rule, chain as check_chain, pure as check_pure, demand}
use Rattle.ec_meaning_defs.specs.resolved.Resolved.{Exp, object, slot, member as member_exp, constant, load, whole, store, copy, put, update, convert, negate, flip, not as negation, operate, both, either, choice, call as call_exp, known, library_call, faulty, Stm, return}
use Rattle.ec_resolving_defs.specs.Agreement.{nothing_of, operand_of}
use Rattle.ec_resolving_defs.specs.Conversions.{as_known_type}
use Rattle.ec_resolving_defs.specs.Operands.{Found, as_value, value_exp, value_rule, discarded, is_call_alone, without_use, done_alone}
use Rattle.ec_resolving_defs.specs.Statements.{condition, alone, optional, optional_condition, return_by}
use Rattle.ec_resolving_defs.specs.Storage.{Resolving, chain, pure, ask}
use Rattle.ec_sim_statement_laws.specs.statement.Clean.{CallsNone, CallsNoneIn}
use Rattle.ec_sim_statement_laws.specs.expression.Worlds.{AreAlike}
use Rattle.ec_sim_statement_laws.specs.expression.Alike.{FindAlike, IsAlike}
use Rattle.ec_sim_statement_laws.specs.expression.Laws.{ExpressionsAreAlike}
use Rattle.ec_sim_statement_laws.specs.expression.Silent.{FoundCallsNone}
use Rattle.ec_sim_statement_laws.specs.expression.Rules.{QuietAlike, pure_quietly, demand_quietly, chain_alike, pure_alike, form_alike, adds_nothing}
use Rattle.ec_sim_statement_laws.specs.expression.Checks.{value_alike as value_checked}
use Rattle.ec_sim_statement_laws.specs.expression.Forms.{value_silent, as_known_silent, discarded_silent, done_same}
use Rattle.ec_sim_statement_laws.specs.expression.Lengths.{HaveLengths}
use Rattle.ec_sim_program_laws.specs.program.Shape.{OptionHasLengths}

-- ---- rules that only tell a fault, at the end

pub quiet_last : {A : Type 0} {P : A → Type 0} (c d : Rule (Unit {0})) (a : A) → P a → QuietAlike c d
    → IsAlike P nothing_of c d (pure a) (pure a)
unfolding pure
quiet_last c d a silent q = record {
  finds = λ s t w v same alike none. record {
    answer = refl;
    silent = silent;
    worlds = alike;
    storages = same;
    adds_none = adds_nothing s;
    adds_none_there = adds_nothing t;
    checked = refl;
    checked_world = sym (q.here w);
    checked_there = refl;
    checked_world_there = sym (q.there v);
    without_fault = q.without_fault w v alike none;
  };
}

-- what is asked for at the end
ask_last : {A : Type 0} {P : A → Type 0} (f h : World → A) → ((w v : World) → AreAlike w v → h v ≡ f w) → ((w : World) → P (f w))
    → IsAlike P nothing_of (check_pure tt) (check_pure tt) (ask f) (ask h)
unfolding ask check_pure
ask_last f h same silent = record {
  finds = λ s t w v sames alike none. record {
    answer = same w v alike;
    silent = silent w;
    worlds = alike;
    storages = sames;
    adds_none = adds_nothing s;
    adds_none_there = adds_nothing t;
    checked = refl;
    checked_world = refl;
    checked_there = refl;
    checked_world_there = refl;
    without_fault = refl;
  };
}

-- an answer made of what is found
pub made_alike : {A C : Type 0} {P : A → Type 0} {Q : C → Type 0} (f : A → C) {c d : Rule (Unit {0})} {m n : Resolving A}
    → ((a : A) → P a → Q (f a)) → IsAlike P nothing_of c d m n
    → IsAlike Q nothing_of c d (chain m (λ a. pure (f a))) (chain n (λ a. pure (f a)))
unfolding chain pure
made_alike {P = P} {Q = Q} f {c} {d} {m} {n} q p = record {
  finds = λ s t w v same alike none.
      let x : FindAlike P nothing_of s t (c w) (d v) (m s w) (n t v) = p.finds s t w v same alike none
      in record {
        answer = λ i. f (x.answer i);
        silent = q (m s w).answer x.silent;
        worlds = x.worlds;
        storages = x.storages;
        adds_none = x.adds_none;
        adds_none_there = x.adds_none_there;
        checked = refl;
        checked_world = x.checked_world;
        checked_there = x.checked_there;
        checked_world_there = x.checked_world_there;
        without_fault = x.without_fault;
      };
}

-- ---- an expression as a value

pub valued_alike : (at there : Place) (f : Found) → FoundCallsNone f
    → IsAlike FoundCallsNone operand_of (checked_operands.value_rule at f.operand) (checked_operands.value_rule there f.operand) (value_rule at f) (value_rule there f)
valued_alike at there f silent = form_alike (as_value (value_exp f)) _ _ (λ o. refl) (λ o. value_silent f silent) (value_checked at there f.operand)

-- ---- an expression of which nothing is wanted but what it does

-- a call that is written stands alone where it does in the source
cast_alone : (n : ℕ) (e : ExprData) (b : BaseData) (stars : ℕ) (t : Option TyData) → is_call_alone (cast (written_base n b) stars (written_expr n e)) t ≡ is_call_alone (cast b stars e) t
cast_alone n (call f es) b stars (Some t) = refl
cast_alone n (call f es) b stars None = refl
cast_alone n (integer v k) b stars t = refl
cast_alone n (character c) b stars t = refl
cast_alone n (string s) b stars t = refl
cast_alone n (identifier x) b stars t = refl
cast_alone n (unary op e) b stars t = refl
cast_alone n (binary op x y) b stars t = refl
cast_alone n (assign op x y) b stars t = refl
cast_alone n (bump before up e) b stars t = refl
cast_alone n (call_other f es) b stars t = refl
cast_alone n (index x y) b stars t = refl
cast_alone n (member e m) b stars t = refl
cast_alone n (arrow e m) b stars t = refl
cast_alone n (cast c more e) b stars t = refl
cast_alone n (size_type c more) b stars t = refl
cast_alone n (size_expr e) b stars t = refl

call_alone : (n : ℕ) (e : ExprData) (t : Option TyData) → is_call_alone (written_expr n e) t ≡ is_call_alone e t
call_alone n (call f es) t = refl
call_alone n (cast b stars e) t = cast_alone n e b stars t
call_alone n (integer v k) t = refl
call_alone n (character c) t = refl
call_alone n (string s) t = refl
call_alone n (identifier x) t = refl
call_alone n (unary op e) t = refl
call_alone n (binary op x y) t = refl
call_alone n (assign op x y) t = refl
call_alone n (bump before up e) t = refl
call_alone n (call_other f es) t = refl
call_alone n (index x y) t = refl
call_alone n (member e m) t = refl
call_alone n (arrow e m) t = refl
call_alone n (size_type c more) t = refl
call_alone n (size_expr e) t = refl

unused_silent : (e : Exp) → CallsNone e → CallsNone (without_use e)
unused_silent (object n) h = h
unused_silent (slot i) h = h
unused_silent (member_exp offset e) h = h
unused_silent (constant v) h = h
unused_silent (load kind e) h = h
unused_silent (whole size e) h = h
unused_silent (store kind e a) h = h
unused_silent (copy size e a) h = h
unused_silent (put bytes e) h = h
unused_silent (update n e a) h = h
unused_silent (convert from to e) h = h
unused_silent (negate type e) h = h
unused_silent (flip type e) h = h
unused_silent (negation e) h = h
unused_silent (operate op a b) h = h
unused_silent (both a b) h = h
unused_silent (either a b) h = h
unused_silent (choice e a b) h = h
unused_silent (call_exp f used es) h = h
unused_silent (known f es) h = h
unused_silent (library_call n es) h = h
unused_silent faulty h = h

done_silent : (w : World) (e : ExprData) (f : Found) → FoundCallsNone f → CallsNone (done_alone w e f)
done_silent w e f h = by_form (is_call_alone e f.operand.type)
  where
    by_form : (b : Bool) → CallsNone (if b then without_use (discarded w f) else discarded w f)
    by_form true = unused_silent (discarded w f) (discarded_silent w f h)
    by_form false = discarded_silent w f h

done_written : (w v : World) → AreAlike w v → (n : ℕ) (e : ExprData) (f : Found) → done_alone v (written_expr n e) f ≡ done_alone w e f
done_written w v alike n e f = (λ i. if call_alone n e f.operand.type i then without_use (discarded v f) else discarded v f) ∙ done_same w v alike e f

condition_quietly : (at there : Place) (o : OperandData) → QuietAlike (checked.condition_rule at o) (checked.condition_rule there o)
unfolding checked.condition_rule
condition_quietly at there o = of_type o.type
  where
    of_type : (t : Option TyData) → QuietAlike (elim t [ None ↦ check_pure tt | Some t ↦ demand at F14 (is_scalar t) ]) (elim t [ None ↦ check_pure tt | Some t ↦ demand there F14 (is_scalar t) ])
    of_type None = pure_quietly
    of_type (Some t) = demand_quietly at there F14 _ _ (λ e. e)

return_quietly : (at there : Place) (r : Option TyData) (o : OperandData) → QuietAlike (checked.return_rule at r o) (checked.return_rule there r o)
unfolding checked.return_rule
return_quietly at there None o = pure_quietly
return_quietly at there (Some s) o = of_type o.type
  where
    of_type : (t : Option TyData) → QuietAlike (elim t [ None ↦ check_pure tt | Some t ↦ demand at F14 (checked.returns s t (is_null o)) ]) (elim t [ None ↦ check_pure tt | Some t ↦ demand there F14 (checked.returns s t (is_null o)) ])
    of_type None = pure_quietly
    of_type (Some t) = demand_quietly at there F14 _ _ (λ e. e)

nothing_quietly : (at there : Place) (r : Option TyData) → QuietAlike (checked.return_nothing at r) (checked.return_nothing there r)
unfolding checked.return_nothing
nothing_quietly at there None = pure_quietly
nothing_quietly at there (Some s) = demand_quietly at there F14 _ _ (λ e. e)

-- a `return` that calls no library
abbrev pub IsReturn : Stm → Type 0
IsReturn x = (e : Option Exp) × ((x ≡ return e) × CallsNoneIn e)

module _ (expressions : ExpressionsAreAlike) (at there : Place) (n : ℕ) where
  pub alone_alike : (e : ExprData) → HaveLengths e
      → IsAlike CallsNone nothing_of (check_chain (checked_parts.expr at e) (λ _. check_pure tt)) (check_chain (checked_parts.expr there (written_expr n e)) (λ _. check_pure tt))
      (alone at e) (alone there (written_expr n e))
  alone_alike e h = chain_alike _ _ _ _ _ _ _ _ (expressions at there n e h) (λ f silent.
      ask_last (λ w. done_alone w e f) (λ w. done_alone w (written_expr n e) f) (λ w v alike. done_written w v alike n e f) (λ w. done_silent w e f silent))

  pub optional_alike : (e : Option ExprData) → OptionHasLengths e
      → IsAlike CallsNoneIn nothing_of (checked.optional at e) (checked.optional there (written_option n e)) (optional at e) (optional there (written_option n e))
  optional_alike None h = pure_alike nothing_of None tt
  optional_alike (Some e) h = made_alike Some (λ x silent. silent) (alone_alike e h)

  pub condition_alike : (e : ExprData) → HaveLengths e
      → IsAlike CallsNone nothing_of (checked.condition at e) (checked.condition there (written_expr n e)) (condition at e) (condition there (written_expr n e))
  condition_alike e h = chain_alike _ _ _ _ _ _ _ _ (chain_alike _ _ _ _ _ _ _ _ (expressions at there n e h) (λ f silent. valued_alike at there f silent)) (λ f silent.
      quiet_last _ _ f.exp silent (condition_quietly at there f.operand))

  pub optional_condition_alike : (e : Option ExprData) → OptionHasLengths e
      → IsAlike CallsNoneIn nothing_of (checked.optional_condition at e) (checked.optional_condition there (written_option n e))
      (optional_condition at e) (optional_condition there (written_option n e))
  optional_condition_alike None h = pure_alike nothing_of None tt
  optional_condition_alike (Some e) h = made_alike Some (λ x silent. silent) (condition_alike e h)

  pub return_alike : (r : Option TyData) (e : Option ExprData) → OptionHasLengths e
      → IsAlike IsReturn nothing_of (checked.return_by at r e) (checked.return_by there r (written_option n e)) (return_by at r e) (return_by there r (written_option n e))
  return_alike r None h = quiet_last _ _ (return None) (None, (refl, tt)) (nothing_quietly at there r)
  return_alike r (Some e) h = chain_alike _ _ _ _ _ _ _ _ (chain_alike _ _ _ _ _ _ _ _ (expressions at there n e h) (λ f silent. valued_alike at there f silent)) (λ f silent.
      quiet_last _ _ (return (Some (as_known_type f.operand.type r f.exp))) (Some (as_known_type f.operand.type r f.exp), (refl, as_known_silent f.operand.type r f.exp silent)) (return_quietly at there r f.operand))
