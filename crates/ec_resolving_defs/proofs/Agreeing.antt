-- That the resolved walk finds what the checks find: by induction over the trees.
use Rattle.std.proofs.Common.{◌≡◌, ◌∙◌, List, [], ◌∷◌, Bool, true, false, Option, Some, None, refl, sym}
use Rattle.std.specs.Prelude.{ℕ, length}
use Rattle.ec_base.specs.declared.fault.FaultKind.{FaultKind}
use Rattle.ec_base.specs.declared.fault.LimitKind.{LimitKind}
use Rattle.ec_ctypes.specs.declared.checked.library.LibName.{LibName}
use Rattle.ec_ctypes.specs.declared.tree.expr.UnOp.{UnOp}
use Rattle.ec_ctypes.specs.declared.tree.expr.UnOp.TheVariants.{Addr, Deref, Plus, Minus, Not, Flip}
use Rattle.ec_ctypes.specs.trees.Types.{TyData}
use Rattle.ec_ctypes.specs.trees.Exprs.{ExprData, integer, character, string, identifier, unary, binary, assign, bump, call, call_other, index, member, arrow, cast, size_type, size_expr, ExprList, no_exprs, exprs, BaseData, words, varchar, tagged, struct_base, DimData, open_dim, dim, DimList, no_dims, dims, InitData, one, many, InitList, no_inits, inits, InitOption, no_init, some_init, DeclaratorData, declarator, DeclaratorList, no_declarators, declarators, DeclData, decl, DeclList, no_decls, decls}
use Rattle.ec_language.specs.Letters.{Text}
use Rattle.ec_typing_defs.specs.Known.{ArgumentsData, all_expressions, is_identifier, is_no_expression, behind_first_argument}
use Rattle.ec_typing_defs.specs.Worlds.{Place, World, Rule, chain as check_chain, pure as check_pure, ask as check_ask, demand, keep_within, note, look_up}
use Rattle.ec_typing_defs.specs.Operands as checked
use Rattle.ec_typing_defs.specs.Operands.{OperandData, unknown}
use Rattle.ec_typing_defs.specs.Expressions as checked_parts
use Rattle.ec_typing_defs.specs.Expressions.{Members, has_init}
use Rattle.ec_resolving_defs.specs.Storage.{Storage, Resolving, chain, pure, checks, ask, stored, arrange}
use Rattle.ec_resolving_defs.specs.Operands.{Found, no_expression, with_form, as_value, as_place, unary_found, name_rule, literal_rule, value_rule, unary_rule, library_exp, function_called, called, call_rule, operands_of, is_library_literal}
use Rattle.ec_resolving_defs.specs.Expressions.{library_literal, expr, args, base, members, member_decl, member_items, member_item, lengths, last_length, outer_lengths, length_at, init_parts, init_exprs, all_init_exprs}
use Rattle.ec_resolving_defs.specs.Agreement.{Finds, itself, nothing_of, operand_of}

-- ---- rules one after the other

pub chain_finds : {A B C D : Type 0} {seen : A → B} {seen' : C → D} (m : Resolving A) (n : Rule B) (k : A → Resolving C) (l : B → Rule D)
    → Finds seen m n → ((a : A) → Finds seen' (k a) (l (seen a))) → Finds seen' (chain m k) (check_chain n l)
unfolding chain check_chain
chain_finds m n k l p q = record {
  answer = λ s w. (q (m s w).answer).answer (m s w).storage (m s w).world ∙ (λ i. (l (p.answer s w i) (p.world s w i)).answer);
  world = λ s w. (q (m s w).answer).world (m s w).storage (m s w).world ∙ (λ i. (l (p.answer s w i) (p.world s w i)).world);
}

pub pure_finds : {A B : Type 0} (seen : A → B) (a : A) → Finds seen (pure a) (check_pure (seen a))
unfolding pure check_pure
pure_finds seen a = record { answer = λ s w. refl; world = λ s w. refl }

pub checks_find : {A : Type 0} (n : Rule A) → Finds itself (checks n) n
unfolding checks
checks_find n = record { answer = λ s w. refl; world = λ s w. refl }

pub ask_finds : {A : Type 0} (f : World → A) → Finds itself (ask f) (check_ask f)
unfolding ask check_ask
ask_finds f = record { answer = λ s w. refl; world = λ s w. refl }

-- what is only looked up for a form
pub ask_first : {A B C : Type 0} {seen : B → C} (f : World → A) (k : A → Resolving B) (n : Rule C) → ((a : A) → Finds seen (k a) n) → Finds seen (chain (ask f) k) n
unfolding chain ask
ask_first f k n p = record { answer = λ s w. (p (f w)).answer s w; world = λ s w. (p (f w)).world s w }

pub stored_first : {A B C : Type 0} {seen : B → C} (f : Storage → A) (k : A → Resolving B) (n : Rule C) → ((a : A) → Finds seen (k a) n) → Finds seen (chain (stored f) k) n
unfolding chain stored
stored_first f k n p = record { answer = λ s w. (p (f s)).answer s w; world = λ s w. (p (f s)).world s w }

pub arrange_first : {B C : Type 0} {seen : B → C} (f : Storage → Storage) (k : Unit {0} → Resolving B) (n : Rule C) → Finds seen (k tt) n → Finds seen (chain (arrange f) k) n
unfolding chain arrange
arrange_first f k n p = record { answer = λ s w. p.answer (f s) w; world = λ s w. p.world (f s) w }

-- ---- what leaves what is known as it is

-- a resolving rule
pub record Silent {A : Type 0} (m : Resolving A) : Type 0 where
  pub world : (s : Storage) (w : World) → (m s w).world ≡ w

pub ask_silent : {A : Type 0} (f : World → A) → Silent (ask f)
unfolding ask
ask_silent f = record { world = λ s w. refl }

pub stored_silent : {A : Type 0} (f : Storage → A) → Silent (stored f)
unfolding stored
stored_silent f = record { world = λ s w. refl }

pub arrange_silent : (f : Storage → Storage) → Silent (arrange f)
unfolding arrange
arrange_silent f = record { world = λ s w. refl }

pub pure_silent : {A : Type 0} (a : A) → Silent (pure a)
unfolding pure
pure_silent a = record { world = λ s w. refl }

pub chain_silent : {A B : Type 0} (m : Resolving A) (k : A → Resolving B) → Silent m → ((a : A) → Silent (k a)) → Silent (chain m k)
unfolding chain
chain_silent m k p q = record { world = λ s w. (q (m s w).answer).world (m s w).storage (m s w).world ∙ p.world s w }

-- before what is found, and behind it
pub silent_first : {A B C : Type 0} {seen : B → C} (m : Resolving A) (k : A → Resolving B) (n : Rule C) → Silent m → ((a : A) → Finds seen (k a) n) → Finds seen (chain m k) n
unfolding chain
silent_first m k n p q = record {
  answer = λ s w. (q (m s w).answer).answer (m s w).storage (m s w).world ∙ (λ i. (n (p.world s w i)).answer);
  world = λ s w. (q (m s w).answer).world (m s w).storage (m s w).world ∙ (λ i. (n (p.world s w i)).world);
}

pub silent_last : {A : Type 0} (seen : A → Unit {0}) (m : Resolving A) → Silent m → Finds seen m (check_pure tt)
unfolding check_pure
silent_last seen m p = record { answer = λ s w. refl; world = λ s w. p.world s w }

-- a rule of the checks, which only tells a fault
pub record Quiet (n : Rule (Unit {0})) : Type 0 where
  pub world : (w : World) → (n w).world ≡ w

pub quiet_first : {B C : Type 0} {seen : B → C} (m : Resolving B) (n : Rule (Unit {0})) (l : Unit {0} → Rule C)
    → Quiet n → Finds seen m (l tt) → Finds seen m (check_chain n l)
unfolding check_chain
quiet_first m n l q p = record {
  answer = λ s w. p.answer s w ∙ (λ i. (l tt (sym (q.world w) i)).answer);
  world = λ s w. p.world s w ∙ (λ i. (l tt (sym (q.world w) i)).world);
}

pub quiet_last : {B : Type 0} (n : Rule (Unit {0})) (m : Resolving B) → Silent m → Quiet n → Finds nothing_of m n
quiet_last n m p q = record { answer = λ s w. refl; world = λ s w. p.world s w ∙ sym (q.world w) }

pub nothing_quiet : Quiet (check_pure tt)
unfolding check_pure
nothing_quiet = record { world = λ w. refl }

pub demand_quiet : (at : Place) (kind : FaultKind) (b : Bool) → Quiet (demand at kind b)
unfolding demand note check_pure
demand_quiet at kind true = record { world = λ w. refl }
demand_quiet at kind false = record { world = λ w. refl }

pub limit_quiet : (at : Place) (kind : LimitKind) (b : Bool) → Quiet (keep_within at kind b)
unfolding keep_within check_pure
limit_quiet at kind true = record { world = λ w. refl }
limit_quiet at kind false = record { world = λ w. refl }

pub asked_quiet : {A : Type 0} (f : World → A) (k : A → Rule (Unit {0})) → ((a : A) → Quiet (k a)) → Quiet (check_chain (check_ask f) k)
unfolding check_chain check_ask
asked_quiet f k p = record { world = λ w. (p (f w)).world w }

pub elements_quiet : (at : Place) (t : Option TyData) (stars : ℕ) (ns : List (Option ℕ)) → Quiet (checked.elements_rule at t stars ns)
elements_quiet at None stars ns = nothing_quiet
elements_quiet at (Some t) stars ns = asked_quiet _ _ (λ complete. demand_quiet _ _ _)

-- ---- forms beside operands

pub form_finds : (f : OperandData → Found) (m : Rule OperandData) → ((o : OperandData) → (f o).operand ≡ o) → Finds operand_of (with_form f m) m
unfolding chain checks pure
form_finds f m e = record { answer = λ s w. e (m w).answer; world = λ s w. refl }

value_form : (e : _) (m : Rule OperandData) → Finds operand_of (with_form (as_value e) m) m
value_form e m = form_finds (as_value e) m (λ o. refl)

place_form : (e : _) (m : Rule OperandData) → Finds operand_of (with_form (as_place e) m) m
place_form e m = form_finds (as_place e) m (λ o. refl)

pub value_finds : (at : Place) (f : Found) → Finds operand_of (value_rule at f) (checked.value_rule at f.operand)
value_finds at f = value_form _ _

unary_keeps : (op : UnOp) (f : Found) (o : OperandData) → (unary_found op f o).operand ≡ o
unary_keeps Addr f o = refl
unary_keeps Deref f o = refl
unary_keeps Plus f o = refl
unary_keeps Minus f o = refl
unary_keeps Not f o = refl
unary_keeps Flip f o = refl

unary_finds : (at : Place) (op : UnOp) (f : Found) → Finds operand_of (unary_rule at op f) (checked.unary_rule at op f.operand)
unary_finds at op f = form_finds (unary_found op f) _ (unary_keeps op f)

name_finds : (at : Place) (name : Text) → Finds operand_of (name_rule at name) (checked.name_rule at name)
unfolding chain ask stored checks pure
name_finds at name = record { answer = λ s w. refl; world = λ s w. refl }

literal_finds : (text : Text) → Finds operand_of (literal_rule text) (check_pure (checked.literal_operand (length text)))
unfolding chain stored arrange pure check_pure
literal_finds text = record { answer = λ s w. refl; world = λ s w. refl }

-- ---- calls

named_call_silent : (name : Text) (es : ExprList) (fs : List Found) (of_library : Option LibName)
    → Silent (elim of_library [ Some call_name ↦ library_exp call_name es fs | None ↦ function_called name es fs ])
named_call_silent name es fs (Some call_name) = chain_silent _ _ (stored_silent _) (λ n. chain_silent _ _ (arrange_silent _) (λ _. pure_silent _))
named_call_silent name es fs None = chain_silent _ _ (stored_silent _) (λ d. ask_silent _)

called_silent : (name : Text) (es : ExprList) (fs : List Found) → Silent (called name es fs)
called_silent name es fs = chain_silent _ _ (ask_silent _) (λ c. named_call_silent name es fs c)

call_finds : (at : Place) (name : Text) (es : ExprList) (fs : List Found) → Finds operand_of (call_rule at name es fs) (checked.call_rule at name es (operands_of fs))
call_finds at name es fs = silent_first _ _ _ (called_silent name es fs) (λ e. value_form e _)

library_literal_finds : (at : Place) (e : ExprData) → Finds operand_of (library_literal at e) (check_chain (checked_parts.expr at e) (checked.value_rule at))
unfolding library_literal
library_literal_finds at e = value_form _ _

either_finds : (at : Place) (e : ExprData) (m : Resolving Found) (n : Rule OperandData) (no_value of_library : Bool)
    → Finds operand_of m n → Finds operand_of (library_literal at e) n
    → Finds operand_of (elim no_value [ true ↦ pure no_expression | false ↦ elim of_library [ true ↦ library_literal at e | false ↦ m ] ]) (elim no_value [ true ↦ check_pure unknown | false ↦ n ])
either_finds at e m n true of_library p q = pure_finds operand_of no_expression
either_finds at e m n false true p q = q
either_finds at e m n false false p q = p

pub called_name_finds : (m : Resolving Found) (n : Rule OperandData) (is_name : Bool) → Finds operand_of m n
    → Finds operand_of (elim is_name [ true ↦ pure no_expression | false ↦ m ]) (elim is_name [ true ↦ check_pure unknown | false ↦ n ])
called_name_finds m n true p = pure_finds operand_of no_expression
called_name_finds m n false p = p

note_quiet : (at : Place) (kind : FaultKind) → Quiet (note at kind)
unfolding note
note_quiet at kind = record { world = λ w. refl }

-- ---- expressions, and the types in them

mutual
  pub expr_finds : (at : Place) (e : ExprData) → Finds operand_of (expr at e) (checked_parts.expr at e)
  expr_finds at (integer n t) = pure_finds operand_of _
  expr_finds at (character c) = pure_finds operand_of _
  expr_finds at (string s) = literal_finds s
  expr_finds at (identifier x) = name_finds at x
  expr_finds at (unary Addr e) = chain_finds _ _ _ _ (expr_finds at e) (λ f. value_form _ _)
  expr_finds at (unary Deref e) = chain_finds _ _ _ _ (chain_finds _ _ _ _ (expr_finds at e) (λ f. value_finds at f)) (λ f. unary_finds at Deref f)
  expr_finds at (unary Plus e) = chain_finds _ _ _ _ (chain_finds _ _ _ _ (expr_finds at e) (λ f. value_finds at f)) (λ f. unary_finds at Plus f)
  expr_finds at (unary Minus e) = chain_finds _ _ _ _ (chain_finds _ _ _ _ (expr_finds at e) (λ f. value_finds at f)) (λ f. unary_finds at Minus f)
  expr_finds at (unary Not e) = chain_finds _ _ _ _ (chain_finds _ _ _ _ (expr_finds at e) (λ f. value_finds at f)) (λ f. unary_finds at Not f)
  expr_finds at (unary Flip e) = chain_finds _ _ _ _ (chain_finds _ _ _ _ (expr_finds at e) (λ f. value_finds at f)) (λ f. unary_finds at Flip f)
  expr_finds at (binary op a b) =
      chain_finds _ _ _ _ (chain_finds _ _ _ _ (expr_finds at a) (λ f. value_finds at f)) (λ x.
      chain_finds _ _ _ _ (chain_finds _ _ _ _ (expr_finds at b) (λ f. value_finds at f)) (λ y.
      ask_first _ _ _ (λ e. value_form e _)))
  expr_finds at (assign None a b) =
      chain_finds _ _ _ _ (expr_finds at a) (λ x.
      chain_finds _ _ _ _ (chain_finds _ _ _ _ (expr_finds at b) (λ f. value_finds at f)) (λ y.
      ask_first _ _ _ (λ e. value_form e _)))
  expr_finds at (assign (Some op) a b) =
      chain_finds _ _ _ _ (expr_finds at a) (λ x.
      chain_finds _ _ _ _ (chain_finds _ _ _ _ (expr_finds at b) (λ f. value_finds at f)) (λ y.
      ask_first _ _ _ (λ e. value_form e _)))
  expr_finds at (bump before up e) = chain_finds _ _ _ _ (expr_finds at e) (λ f. ask_first _ _ _ (λ x. value_form x _))
  expr_finds at (call f es) =
      chain_finds _ _ _ _ (ask_finds _) (λ forms. chain_finds _ _ _ _ (args_find at forms es) (λ fs. call_finds at f es fs))
  expr_finds at (call_other f es) =
      chain_finds _ _ _ _ (called_name_finds _ _ (is_identifier f) (expr_finds at f)) (λ x.
      chain_finds _ _ _ _ (args_find at all_expressions es) (λ fs. quiet_first _ _ _ (note_quiet _ _) (pure_finds operand_of _)))
  expr_finds at (index a b) =
      chain_finds _ _ _ _ (chain_finds _ _ _ _ (expr_finds at a) (λ f. value_finds at f)) (λ x.
      chain_finds _ _ _ _ (chain_finds _ _ _ _ (expr_finds at b) (λ f. value_finds at f)) (λ y.
      ask_first _ _ _ (λ e. place_form e _)))
  expr_finds at (member e m) = chain_finds _ _ _ _ (expr_finds at e) (λ f. ask_first _ _ _ (λ x. place_form x _))
  expr_finds at (arrow e m) =
      chain_finds _ _ _ _ (chain_finds _ _ _ _ (expr_finds at e) (λ f. value_finds at f)) (λ f. ask_first _ _ _ (λ x. place_form x _))
  expr_finds at (cast b stars e) =
      chain_finds _ _ _ _ (base_finds at b) (λ t. chain_finds _ _ _ _ (expr_finds at e) (λ f. ask_first _ _ _ (λ x. value_form x _)))
  expr_finds at (size_type b stars) = chain_finds _ _ _ _ (base_finds at b) (λ t. ask_first _ _ _ (λ x. value_form x _))
  expr_finds at (size_expr e) = chain_finds _ _ _ _ (expr_finds at e) (λ f. ask_first _ _ _ (λ x. value_form x _))

  pub args_find : (at : Place) (forms : ArgumentsData) (es : ExprList) → Finds operands_of (args at forms es) (checked_parts.args at forms es)
  args_find at forms no_exprs = pure_finds operands_of []
  args_find at forms (exprs e es) =
      chain_finds _ _ _ _ (either_finds at e _ _ (is_no_expression forms e) (is_library_literal forms e)
      (chain_finds _ _ _ _ (expr_finds at e) (λ f. value_finds at f)) (library_literal_finds at e)) (λ f.
      chain_finds _ _ _ _ (args_find at (behind_first_argument forms) es) (λ fs. pure_finds operands_of (f ∷ fs)))

  pub base_finds : (at : Place) (b : BaseData) → Finds itself (base at b) (checked_parts.base at b)
  base_finds at (words ws) = checks_find _
  base_finds at varchar = pure_finds itself None
  base_finds at (tagged tag) = checks_find _
  base_finds at (struct_base tag ds) =
      chain_finds _ _ _ _ (checks_find _) (λ k. chain_finds _ _ _ _ (members_find ds []) (λ ms. checks_find _))

  members_find : (ds : DeclList) (ms : Members) → Finds itself (members ds ms) (checked_parts.members ds ms)
  members_find no_decls ms = pure_finds itself ms
  members_find (decls d ds) ms = chain_finds _ _ _ _ (member_decl_finds d ms) (λ more. members_find ds more)

  member_decl_finds : (d : DeclData) (ms : Members) → Finds itself (member_decl d ms) (checked_parts.member_decl d ms)
  member_decl_finds (decl b items section line) ms =
      chain_finds _ _ _ _ (checks_find _) (λ at. chain_finds _ _ _ _ (base_finds at b) (λ t. member_items_find at (checked_parts.is_varchar b) t items ms))

  member_items_find : (at : Place) (varchars : Bool) (t : Option TyData) (ds : DeclaratorList) (ms : Members)
      → Finds itself (member_items at varchars t ds ms) (checked_parts.member_items at varchars t ds ms)
  member_items_find at varchars t no_declarators ms = pure_finds itself ms
  member_items_find at varchars t (declarators d ds) ms =
      chain_finds _ _ _ _ (member_item_finds at varchars t d ms) (λ more. member_items_find at varchars t ds more)

  member_item_finds : (at : Place) (varchars : Bool) (t : Option TyData) (d : DeclaratorData) (ms : Members)
      → Finds itself (member_item at varchars t d ms) (checked_parts.member_item at varchars t d ms)
  member_item_finds at false t (declarator stars name ns init) ms =
      chain_finds _ _ _ _ (lengths_find at ns) (λ sizes.
      quiet_first _ _ _ (elements_quiet at t stars sizes)
      (quiet_first _ _ _ (demand_quiet _ _ _) (chain_finds _ _ _ _ (init_parts_find at init) (λ _. checks_find _))))
  member_item_finds at true t (declarator stars name ns init) ms =
      chain_finds _ _ _ _ (last_length_finds at ns) (λ n. chain_finds _ _ _ _ (checks_find _) (λ own.
      chain_finds _ _ _ _ (outer_lengths_find at ns) (λ sizes.
      quiet_first _ _ _ (elements_quiet at own stars sizes)
      (quiet_first _ _ _ (demand_quiet _ _ _) (chain_finds _ _ _ _ (init_parts_find at init) (λ _. checks_find _))))))

  pub lengths_find : (at : Place) (ds : DimList) → Finds itself (lengths at ds) (checked_parts.lengths at ds)
  lengths_find at no_dims = pure_finds itself []
  lengths_find at (dims d ds) =
      chain_finds _ _ _ _ (length_at_finds at d) (λ n. chain_finds _ _ _ _ (lengths_find at ds) (λ ns. pure_finds itself (n ∷ ns)))

  pub last_length_finds : (at : Place) (ds : DimList) → Finds itself (last_length at ds) (checked_parts.last_length at ds)
  last_length_finds at no_dims = pure_finds itself None
  last_length_finds at (dims d no_dims) = length_at_finds at d
  last_length_finds at (dims d (dims e ds)) = last_length_finds at (dims e ds)

  pub outer_lengths_find : (at : Place) (ds : DimList) → Finds itself (outer_lengths at ds) (checked_parts.outer_lengths at ds)
  outer_lengths_find at no_dims = pure_finds itself []
  outer_lengths_find at (dims d no_dims) = pure_finds itself []
  outer_lengths_find at (dims d (dims e ds)) =
      chain_finds _ _ _ _ (length_at_finds at d) (λ n. chain_finds _ _ _ _ (outer_lengths_find at (dims e ds)) (λ ns. pure_finds itself (n ∷ ns)))

  length_at_finds : (at : Place) (d : DimData) → Finds itself (length_at at d) (checked_parts.length_at at d)
  length_at_finds at open_dim = pure_finds itself (Some 0)
  length_at_finds at (dim e) = chain_finds _ _ _ _ (chain_finds _ _ _ _ (expr_finds at e) (λ f. value_finds at f)) (λ f. checks_find _)

  init_parts_find : (at : Place) (i : InitOption) → Finds itself (init_parts at i) (checked_parts.init_parts at i)
  init_parts_find at no_init = pure_finds itself tt
  init_parts_find at (some_init i) = init_exprs_find at i

  init_exprs_find : (at : Place) (i : InitData) → Finds itself (init_exprs at i) (checked_parts.init_exprs at i)
  init_exprs_find at (one e) = chain_finds _ _ _ _ (chain_finds _ _ _ _ (expr_finds at e) (λ f. value_finds at f)) (λ _. pure_finds itself tt)
  init_exprs_find at (many is) = all_init_exprs_find at is

  all_init_exprs_find : (at : Place) (is : InitList) → Finds itself (all_init_exprs at is) (checked_parts.all_init_exprs at is)
  all_init_exprs_find at no_inits = pure_finds itself tt
  all_init_exprs_find at (inits i is) = chain_finds _ _ _ _ (init_exprs_find at i) (λ _. all_init_exprs_find at is)
