-- A simple expression that has a type has no fault.
use Rattle.std.proofs.Common.{◌≡◌, ◌∙◌, Bool, true, false, List, [], ◌∷◌, Option, Some, None, is_some, refl, sym}
use Rattle.std.specs.Prelude.{◌++◌, ◌&&◌, ◌||◌, not, if◌then◌else◌, codes, option_and_then}
use Rattle.std.proofs.lemmas.Bool.{true≢false}
use Rattle.ec_base.specs.declared.fault.FaultKind.{FaultKind}
use Rattle.ec_ctypes.specs.declared.tree.expr.UnOp.TheVariants.{Addr, Deref, Plus, Minus, Not, Flip}
use Rattle.ec_ctypes.specs.trees.Exprs.{ExprData, integer, character, string, identifier, unary, binary, assign, bump, call, call_other, index, member, arrow, cast, size_type, size_expr}
use Rattle.ec_ctypes.specs.trees.Types as types
use Rattle.ec_ctypes.specs.trees.Types.{TyData}
use Rattle.ec_arguments.specs.Arguments.{Arg, symbol, literal, null, int_constant, long_constant, pointer, stray}
use Rattle.ec_language.specs.Letters.{Text, same_text}
use Rattle.ec_typing_defs.specs.Known.{known_function}
use Rattle.ec_typing_defs.specs.Types.{is_structure, pointed_to, struct_number}
use Rattle.ec_typing_defs.specs.Library.{pointer_argument}
use Rattle.ec_typing_defs.specs.Worlds.{Place, EntryData, object, function, World, Rule, chain, pure, ask, note, ◌>>◌}
use Rattle.ec_typing_defs.specs.Expressions as checked
use Rattle.ec_typing_defs.specs.Operands.{OperandData, unknown, given, name_rule, named_by, value_rule, address_rule, index_rule, element_by, member_rule, member_in, member_by, arrow_rule}
use Rattle.ec_meaning_defs.specs.resolved.Resolved.{Exp}
use Rattle.ec_resolving_defs.specs.Agreement.{Finds, operand_of}
use Rattle.ec_resolving_defs.specs.Calling.{calls_function}
use Rattle.ec_resolving_defs.specs.Expressions as resolving
use Rattle.ec_resolving_defs.specs.Operands as resolving_operands
use Rattle.ec_resolving_defs.specs.Storage.{Storage}
use Rattle.ec_resolving_defs.proofs.Agreeing.{chain_finds, value_finds, expr_finds}
use Rattle.ec_sim_statement_laws.specs.argument.Arguments.{AreArguments}
use Rattle.ec_sim_statement_laws.specs.argument.Pointers.{value_of, IsPointer}
use Rattle.ec_sim_world_laws.specs.call.Calls.{checked_value, IsSeen, AreSeen}
use Rattle.ec_sim_world_laws.specs.call.Pointers.{IsSimple, AreSimple, leads_to_text, text_there}

-- ---- rules that give no type where they find a fault

record Tells (m : Rule OperandData) : Type 0 where
  clean : (w : World) → is_some (m w).answer.type ≡ true → (m w).found ≡ []

-- they give none where their part has none
record Passes (x : Option TyData) (m : Rule OperandData) : Type 0 where
  typed : (w : World) → is_some (m w).answer.type ≡ true → is_some x ≡ true
  clean : (w : World) → is_some (m w).answer.type ≡ true → (m w).found ≡ []

only_tells : {x : Option TyData} (m : Rule OperandData) → Passes x m → Tells m
only_tells m p = record { clean = p.clean }

pure_tells : (o : OperandData) → Tells (pure o)
unfolding pure
pure_tells o = record { clean = λ w e. refl }

noted_tells : (at : Place) (kind : FaultKind) → Tells (note at kind >> pure unknown)
unfolding chain note pure
noted_tells at kind = record { clean = λ w e. absurd (true≢false (sym e)) }

ask_tells : {A : Type 0} (f : World → A) (k : A → Rule OperandData) → ((a : A) → Tells (k a)) → Tells (chain (ask f) k)
unfolding chain ask
ask_tells f k p = record { clean = λ w e. (p (f w)).clean w e }

either_tells : (b : Bool) (m n : Rule OperandData) → Tells m → Tells n → Tells (elim b [ true ↦ m | false ↦ n ])
either_tells true m n p q = p
either_tells false m n p q = q

if_tells : (b : Bool) (m n : Rule OperandData) → Tells m → Tells n → Tells (if b then m else n)
if_tells true m n p q = p
if_tells false m n p q = q

given_passes : (x : Option TyData) (f : TyData → Rule OperandData) → ((t : TyData) → Tells (f t)) → Passes x (given x f)
unfolding pure
given_passes None f p = record { typed = λ w e. e; clean = λ w e. refl }
given_passes (Some t) f p = record { typed = λ w e. refl; clean = (p t).clean }

-- what is given a type passes another
given_between : (y x : Option TyData) (f : TyData → Rule OperandData) → ((t : TyData) → Passes x (f t)) → Passes x (given y f)
unfolding pure
given_between None x f p = record { typed = λ w e. absurd (true≢false (sym e)); clean = λ w e. refl }
given_between (Some t) x f p = p t

behind : (m : Rule OperandData) (f : OperandData → Rule OperandData) → Tells m → ((o : OperandData) → Passes o.type (f o)) → Tells (chain m f)
unfolding chain
behind m f p q = record {
  clean = λ w e.
      let r = q (m w).answer in
      λ i. p.clean w (r.typed (m w).world e) i ++ r.clean (m w).world e i;
}

passes_behind : {x : Option TyData} (m : Rule OperandData) (f : OperandData → Rule OperandData) → Tells m
    → ((o : OperandData) → Passes o.type (f o)) → ((o : OperandData) → Passes x (f o)) → Passes x (chain m f)
unfolding chain
passes_behind m f p q r = record {
  typed = λ w e. (r (m w).answer).typed (m w).world e;
  clean = λ w e.
      let s = q (m w).answer in
      λ i. p.clean w (s.typed (m w).world e) i ++ s.clean (m w).world e i;
}

-- ---- the rules of simple expressions

module _ (at : Place) where
  value_passes : (o : OperandData) → Passes o.type (value_rule at o)
  unfolding value_rule
  value_passes o = given_passes _ _ (λ t. ask_tells _ _ (λ complete. either_tells (is_structure t && not complete) _ _ (noted_tells _ _) (pure_tells _)))

  name_tells : (name : Text) → Tells (name_rule at name)
  unfolding name_rule named_by
  name_tells name = ask_tells _ _ entry_tells
    where
      entry_tells : (entry : Option EntryData) → Tells (named_by at name entry)
      entry_tells (Some (object k global t)) = pure_tells _
      entry_tells (Some (function k done r ps)) = noted_tells _ _
      entry_tells None = if_tells (same_text name (codes "sqlca")) _ _ (pure_tells _)
          (if_tells (same_text name (codes "NULL")) _ _ (pure_tells _)
          (if_tells (same_text name (codes "true")) _ _ (pure_tells _)
          (if_tells (same_text name (codes "false")) _ _ (pure_tells _)
          (if_tells (is_some (known_function name)) _ _ (noted_tells _ _) (noted_tells _ _)))))

  address_passes : (o : OperandData) → Passes o.type (address_rule at o)
  unfolding address_rule
  address_passes o = given_passes _ _ (λ t. either_tells (o.is_place || o.is_target) _ _ (pure_tells _) (noted_tells _ _))

  element_tells : (t : Option TyData) → Tells (element_by at t)
  element_tells (Some t) = pure_tells _
  element_tells None = noted_tells _ _

  index_passes : (a b : OperandData) → Passes a.type (index_rule at a b)
  unfolding index_rule
  index_passes a b = given_passes a.type _ (λ s. only_tells {x = b.type} _ (given_passes b.type _ (λ t. ask_tells _ _ element_tells)))

  index_passes_behind : (a b : OperandData) → Passes b.type (index_rule at a b)
  unfolding index_rule
  index_passes_behind a b = given_between a.type b.type _ (λ s. given_passes b.type _ (λ t. ask_tells _ _ element_tells))

  found_tells : (of_place : Bool) (t : Option (Option TyData)) → Tells (member_by at of_place t)
  found_tells of_place (Some t) = pure_tells _
  found_tells of_place None = noted_tells _ _

  member_tells : (of_place : Bool) (m : Text) (k : _) → Tells (member_in at of_place m k)
  member_tells of_place m None = noted_tells _ _
  member_tells of_place m (Some k) = ask_tells _ _ (found_tells of_place)

  member_passes : (o : OperandData) (m : Text) → Passes o.type (member_rule at o m)
  unfolding member_rule
  member_passes o m = given_passes _ _ (λ t. member_tells o.is_place m (struct_number t))

  arrow_passes : (o : OperandData) (m : Text) → Passes o.type (arrow_rule at o m)
  unfolding arrow_rule
  arrow_passes o m = given_passes _ _ (λ t. member_tells true m (option_and_then struct_number (pointed_to t)))

  -- ---- simple expressions

  valued : (m : Rule OperandData) → Tells m → Tells (chain m (value_rule at))
  valued m p = behind m (value_rule at) p value_passes

  simple_tells : (e : ExprData) → IsSimple e → Tells (checked.expr at e)
  simple_tells (integer n t) p = pure_tells _
  simple_tells (character c) p = pure_tells _
  simple_tells (string s) p = pure_tells _
  simple_tells (identifier x) p = name_tells x
  simple_tells (unary Addr e) p = behind _ _ (simple_tells e p) address_passes
  simple_tells (unary Deref e) p = absurd p
  simple_tells (unary Plus e) p = absurd p
  simple_tells (unary Minus e) p = absurd p
  simple_tells (unary Not e) p = absurd p
  simple_tells (unary Flip e) p = absurd p
  simple_tells (binary op a b) p = absurd p
  simple_tells (assign op a b) p = absurd p
  simple_tells (bump before up e) p = absurd p
  simple_tells (call f es) p = absurd p
  simple_tells (call_other f es) p = absurd p
  simple_tells (index a b) p = behind _ _ (valued _ (simple_tells a p.0)) (λ x. passes_behind _ _ (valued _ (simple_tells b p.1)) (λ y. index_passes_behind x y) (λ y. index_passes x y))
  simple_tells (member e m) p = behind _ _ (simple_tells e p) (λ o. member_passes o m)
  simple_tells (arrow e m) p = behind _ _ (valued _ (simple_tells e p)) (λ o. arrow_passes o m)
  simple_tells (cast b stars e) p = absurd p
  simple_tells (size_type b stars) p = absurd p
  simple_tells (size_expr e) p = absurd p

  simple_silent : (e : ExprData) → IsSimple e → calls_function e ≡ false
  simple_silent (integer n t) p = refl
  simple_silent (character c) p = refl
  simple_silent (string s) p = refl
  simple_silent (identifier x) p = refl
  simple_silent (unary Addr e) p = simple_silent e p
  simple_silent (unary Deref e) p = absurd p
  simple_silent (unary Plus e) p = absurd p
  simple_silent (unary Minus e) p = absurd p
  simple_silent (unary Not e) p = absurd p
  simple_silent (unary Flip e) p = absurd p
  simple_silent (binary op a b) p = absurd p
  simple_silent (assign op a b) p = absurd p
  simple_silent (bump before up e) p = absurd p
  simple_silent (call f es) p = absurd p
  simple_silent (call_other f es) p = absurd p
  simple_silent (index a b) p = (λ i. simple_silent a p.0 i || calls_function b) ∙ simple_silent b p.1
  simple_silent (member e m) p = simple_silent e p
  simple_silent (arrow e m) p = simple_silent e p
  simple_silent (cast b stars e) p = absurd p
  simple_silent (size_type b stars) p = absurd p
  simple_silent (size_expr e) p = absurd p

  value_tells : (e : ExprData) → IsSimple e → Tells (checked_value at e)
  value_tells e p = valued _ (simple_tells e p)

  -- ---- pointers

  module _ (s : Storage) (w : World) where
    typed : (e : ExprData) (t : TyData) (x : Exp) → IsPointer at s w e t x → (checked_value at e w).answer.type ≡ Some (types.pointer t)
    typed e t x h = sym (λ i. (found.answer s w i).type) ∙ (λ i. (h.is i).answer.operand.type) ∙ h.type
      where
        found : Finds operand_of (value_of at e) (checked_value at e)
        found = chain_finds (resolving.expr at e) (checked.expr at e) (resolving_operands.value_rule at) (value_rule at) (expr_finds at e) (value_finds at)

    pub pointer_seen : (e : ExprData) (t : TyData) (x : Exp) → IsSimple e → IsPointer at s w e t x → IsSeen at w (text_there at w) e
    pointer_seen e t x p h = record {
      silent = simple_silent e p;
      without_fault = (value_tells e p).clean w (λ i. is_some (typed e t x h i));
      kind = (λ i. pointer_argument (typed e t x h i)) ∙ sym (λ i. pointer (leads_to_text (typed e t x h i)));
    }

    pub pointers_seen : (g : ExprData → Exp) (xs : List (Arg ExprData)) → AreArguments at s w g xs → AreSimple xs → AreSeen at w (text_there at w) xs
    pointers_seen g [] h p = tt
    pointers_seen g (symbol x ∷ more) h p = pointers_seen g more h p
    pointers_seen g (literal bytes ∷ more) h p = pointers_seen g more h p
    pointers_seen g (null ∷ more) h p = pointers_seen g more h p
    pointers_seen g (int_constant n ∷ more) h p = pointers_seen g more h p
    pointers_seen g (long_constant n ∷ more) h p = pointers_seen g more h p
    pointers_seen g (pointer e ∷ more) h p = (pointer_seen e h.0.target (g e) p.0 h.0.is, pointers_seen g more h.1 p.1)
    pointers_seen g (stray ∷ more) h p = absurd h
