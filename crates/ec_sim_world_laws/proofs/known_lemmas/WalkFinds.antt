-- The walk finds what the checks find, by initializers, declarations and parameters.
use Rattle.std.proofs.Common.{◌≡◌, ◌∙◌, ℕ, Bool, true, false, List, [], ◌∷◌, ◌++◌, refl, Option, Some, None}
use Rattle.ec_ctypes.specs.trees.Types.{TyData}
use Rattle.ec_ctypes.specs.trees.Exprs.{ExprData, BaseData, words, varchar, tagged, struct_base, DimList, InitData, one, many, InitList, no_inits, inits, InitOption, no_init, some_init, DeclaratorData, declarator, DeclaratorList, no_declarators, declarators, DeclData, decl}
use Rattle.ec_ctypes.specs.trees.Units.{ParamData}
use Rattle.ec_language.specs.Letters.{Text}
use Rattle.ec_typing_defs.specs.Expressions.{is_varchar}
use Rattle.ec_typing_defs.specs.Initializers as checked_initializers
use Rattle.ec_typing_defs.specs.Initializers.{Frames, is_text_for, braces_rule, completed_in_braces}
use Rattle.ec_typing_defs.specs.Operands.{within_rule}
use Rattle.ec_typing_defs.specs.Programs as checked_programs
use Rattle.ec_typing_defs.specs.Statements as checked_statements
use Rattle.ec_typing_defs.specs.Worlds.{Place, World, Rule, pure as check_pure}
use Rattle.ec_resolving_defs.specs.Agreement.{Finds, itself, nothing_of, operand_of, type_of}
use Rattle.ec_resolving_defs.specs.Initializers.{PartData, stored_at, fixed_exp, init_value, Left, left, Filled, initializer, fill, fill_part}
use Rattle.ec_resolving_defs.specs.Operands.{Found}
use Rattle.ec_resolving_defs.specs.Programs.{param, params}
use Rattle.ec_resolving_defs.specs.Statements.{initial, object_made, object_type, object_item, object_items, specifier, declaration}
use Rattle.ec_resolving_defs.specs.Storage.{Storage, Site, numbered, slotted, nowhere, Resolving, chain, pure}
use Rattle.ec_resolving_defs.proofs.Agreeing.{chain_finds, pure_finds, checks_find, ask_finds, ask_first, stored_first, arrange_first, Silent, ask_silent, arrange_silent, pure_silent, chain_silent, Quiet, quiet_first, nothing_quiet, demand_quiet, limit_quiet, asked_quiet, elements_quiet, value_finds, expr_finds, base_finds, lengths_find, last_length_finds, outer_lengths_find}

-- ---- what only tells faults

within_quiet : (at : Place) (t : Option TyData) → Quiet (within_rule at t)
unfolding within_rule
within_quiet at None = nothing_quiet
within_quiet at (Some t) = asked_quiet _ _ (λ small. limit_quiet _ _ _)

braces_quiet : (at : Place) (t : Option TyData) (is : InitList) → Quiet (braces_rule at t is)
unfolding braces_rule
braces_quiet at None is = nothing_quiet
braces_quiet at (Some t) is = demand_quiet _ _ _

-- ---- what follows for the form alone

abbrev Answers : {C D : Type 0} → (C → D) → Resolving C → D → Type 0
Answers seen m d = (s : Storage) (w : World) → seen (m s w).answer ≡ d

then_answers : {A C D : Type 0} (seen : C → D) (m : Resolving A) (g : A → C) (d : D) → ((a : A) → seen (g a) ≡ d) → Answers seen (chain m (λ a. pure (g a))) d
unfolding chain pure
then_answers seen m g d e = λ s w. e (m s w).answer

pure_answers : {C D : Type 0} (seen : C → D) (c : C) → Answers seen (pure c) (seen c)
unfolding pure
pure_answers seen c = λ s w. refl

behind_finds : {A C D : Type 0} {seen : A → D} {seen' : C → D} (m : Resolving A) (k : A → Resolving C) (n : Rule D)
    → Finds seen m n → ((a : A) → Silent (k a)) → ((a : A) → Answers seen' (k a) (seen a)) → Finds seen' (chain m k) n
unfolding chain
behind_finds m k n p q r = record {
  answer = λ s w. r (m s w).answer (m s w).storage (m s w).world ∙ p.answer s w;
  world = λ s w. (q (m s w).answer).world (m s w).storage (m s w).world ∙ p.world s w;
}

chosen_silent : {A : Type 0} (b : Bool) {x y : Resolving A} → Silent x → Silent y → Silent (elim b [ true ↦ x | false ↦ y ])
chosen_silent true h k = h
chosen_silent false h k = k

-- ---- initializers

stored_at_silent : (offset : ℕ) (t : Option TyData) (e : ExprData) (f : Found) → Silent (stored_at offset t e f)
unfolding stored_at
stored_at_silent offset None e f = pure_silent _
stored_at_silent offset (Some t) e f = chosen_silent (is_text_for f.operand t) (chain_silent _ _ (arrange_silent _) (λ u. pure_silent _)) (ask_silent _)

fixed_finds : (global : Bool) (f : Found) → Finds operand_of (pure (fixed_exp global f)) (check_pure f.operand)
fixed_finds true f = pure_finds operand_of (fixed_exp true f)
fixed_finds false f = pure_finds operand_of f

init_value_finds : (at : Place) (global : Bool) (e : ExprData) → Finds operand_of (init_value at global e) (checked_initializers.init_value at global e)
init_value_finds at global e = chain_finds _ _ _ _ (chain_finds _ _ _ _ (expr_finds at e) (λ f. value_finds at f)) (λ f. chain_finds _ _ _ _ (checks_find _) (λ u. fixed_finds global f))

-- the parts that are left
abbrev frames_of : Filled → Option Frames
frames_of p = p.0.frames

mutual
  pub initializer_finds : (at : Place) (global : Bool) (t : Option TyData) (i : InitData) → Finds type_of (initializer at global t i) (checked_initializers.initializer at global t i)
  initializer_finds at global t (one e) =
      chain_finds _ _ _ _ (init_value_finds at global e) (λ f.
      behind_finds {seen = itself} {seen' = type_of} _ (λ ty. chain (stored_at 0 t e f) (λ parts. pure (ty, parts))) _ (checks_find _)
      (λ ty. chain_silent _ _ (stored_at_silent 0 t e f) (λ parts. pure_silent _)) (λ ty. then_answers type_of (stored_at 0 t e f) (λ parts. (ty, parts)) ty (λ parts. refl)))
  initializer_finds at global t (many is) =
      quiet_first _ _ _ (braces_quiet at t is) (chain_finds _ _ _ _ (ask_finds _) (λ fs.
      chain_finds _ _ _ _ (fill_finds at global (left fs _) is) (λ filled. pure_finds type_of (completed_in_braces t is filled.0.frames, filled.1))))

  fill_finds : (at : Place) (global : Bool) (l : Left) (is : InitList) → Finds frames_of (fill at global l is) (checked_initializers.fill at global l.frames is)
  fill_finds at global l no_inits = pure_finds frames_of (l, [])
  fill_finds at global l (inits i is) =
      chain_finds _ _ _ _ (fill_part_finds at global l i) (λ part.
      behind_finds {seen = frames_of} {seen' = frames_of} _ (λ more. pure (more.0, part.1 ++ more.1)) _ (fill_finds at global part.0 is)
      (λ more. pure_silent _) (λ more. pure_answers frames_of (more.0, part.1 ++ more.1)))

  fill_part_finds : (at : Place) (global : Bool) (l : Left) (i : InitData) → Finds frames_of (fill_part at global l i) (checked_initializers.fill_part at global l.frames i)
  fill_part_finds at global l (one e) =
      chain_finds _ _ _ _ (init_value_finds at global e) (λ f. ask_first _ _ _ (λ goal.
      behind_finds {seen = itself} {seen' = frames_of} _ (λ fs. chain (stored_at goal.offset goal.type e f) (λ parts. pure (left fs goal.behind, parts))) _ (checks_find _)
      (λ fs. chain_silent _ _ (stored_at_silent goal.offset goal.type e f) (λ parts. pure_silent _))
      (λ fs. then_answers frames_of (stored_at goal.offset goal.type e f) (λ parts. (left fs goal.behind, parts)) fs (λ parts. refl))))
  fill_part_finds at global l (many is) =
      ask_first _ _ _ (λ next. chain_finds _ _ _ _ (checks_find _) (λ slot.
      quiet_first _ _ _ (braces_quiet at slot.0 is) (chain_finds _ _ _ _ (ask_finds _) (λ gs.
      chain_finds _ _ _ _ (fill_finds at global (left gs _) is) (λ inner. pure_finds frames_of (left slot.1 next.1, inner.1))))))

-- ---- declarations

initial_finds : (at : Place) (global : Bool) (t : Option TyData) (i : InitOption) → Finds type_of (initial at global t i) (checked_statements.initial at global t i)
initial_finds at global t no_init = pure_finds type_of (t, [])
initial_finds at global t (some_init i) = initializer_finds at global t i

made_silent : (site : Site) (size : ℕ) (init : InitOption) (ps : List PartData) → Silent (object_made site size init ps)
made_silent (numbered n) size init ps = chain_silent _ _ (arrange_silent _) (λ u. pure_silent _)
made_silent (slotted i) size init ps = chain_silent _ _ (arrange_silent _) (λ u. pure_silent _)
made_silent nowhere size init ps = pure_silent _

type_finds : (at : Place) (v : Bool) (t : Option TyData) (stars : ℕ) (name : Text) (ns : DimList) → Finds itself (object_type at v t stars name ns) (checked_statements.object_type at v t stars name ns)
type_finds at false t stars name ns = chain_finds _ _ _ _ (lengths_find at ns) (λ sizes. quiet_first _ _ _ (elements_quiet at t stars sizes) (pure_finds itself _))
type_finds at true t stars name ns =
    chain_finds _ _ _ _ (last_length_finds at ns) (λ n. chain_finds _ _ _ _ (checks_find _) (λ own.
    chain_finds _ _ _ _ (outer_lengths_find at ns) (λ sizes. quiet_first _ _ _ (elements_quiet at own stars sizes) (pure_finds itself _))))

pub item_finds : (at : Place) (global v : Bool) (t : Option TyData) (d : DeclaratorData) → Finds nothing_of (object_item at global v t d) (checked_statements.object_item at global v t d)
item_finds at global v t (declarator stars name ns init) =
    chain_finds _ _ _ _ (type_finds at v t stars name ns) (λ whole.
    quiet_first _ _ _ (within_quiet at whole) (chain_finds _ _ _ _ (checks_find _) (λ before.
    chain_finds _ _ _ _ (ask_finds _) (λ k.
    chain_finds _ _ _ _ (checks_find _) (λ a.
    stored_first _ _ _ (λ site. arrange_first _ _ _ (chain_finds _ _ _ _ (initial_finds at global before init) (λ made.
    quiet_first _ _ _ (within_quiet at made.0) (chain_finds _ _ _ _ (checks_find _) (λ b.
    behind_finds {seen = itself} {seen' = nothing_of} _ _ _ (checks_find _) (λ c. chain_silent _ _ (ask_silent _) (λ size. made_silent site size init made.1)) (λ c s w. refl)))))))))))

items_find : (at : Place) (global v : Bool) (t : Option TyData) (ds : DeclaratorList) → Finds nothing_of (object_items at global v t ds) (checked_statements.object_items at global v t ds)
items_find at global v t no_declarators = pure_finds nothing_of []
items_find at global v t (declarators d ds) =
    chain_finds _ _ _ _ (item_finds at global v t d) (λ first. behind_finds {seen = nothing_of} {seen' = nothing_of} _ _ _ (items_find at global v t ds) (λ more. pure_silent _) (λ more s w. refl))

specifier_finds : (at : Place) (b : BaseData) (ds : DeclaratorList) → Finds itself (specifier at b ds) (checked_statements.specifier at b ds)
specifier_finds at (tagged tag) no_declarators = checks_find _
specifier_finds at (tagged tag) (declarators d ds) = base_finds at (tagged tag)
specifier_finds at (words ws) ds = base_finds at (words ws)
specifier_finds at varchar ds = base_finds at varchar
specifier_finds at (struct_base t ms) ds = base_finds at (struct_base t ms)

pub declaration_finds : (global : Bool) (d : DeclData) → Finds nothing_of (declaration global d) (checked_statements.declaration global d)
declaration_finds global (decl b items section line) =
    chain_finds _ _ _ _ (checks_find _) (λ at. chain_finds _ _ _ _ (specifier_finds at b items) (λ t. items_find at global (is_varchar b) t items))

-- ---- parameters

param_finds : (at : Place) (defined : Bool) (p : ParamData) → Finds itself (param at defined p) (checked_programs.param at defined p)
param_finds at defined p =
    chain_finds _ _ _ _ (base_finds at p.base) (λ b.
    chain_finds _ _ _ _ (lengths_find at p.dims) (λ sizes.
    quiet_first _ _ _ (elements_quiet at b p.stars sizes) (chain_finds _ _ _ _ (checks_find _) (λ t.
    chain_finds _ _ _ _ (ask_finds _) (λ k.
    chain_finds _ _ _ _ (checks_find _) (λ a.
    chain_finds _ _ _ _ (checks_find _) (λ c.
    stored_first _ _ _ (λ site. arrange_first _ _ _ (ask_first _ _ _ (λ size. arrange_first _ _ _ (pure_finds itself t)))))))))))

pub params_find : (at : Place) (defined : Bool) (ps : List ParamData) → Finds itself (params at defined ps) (checked_programs.params at defined ps)
params_find at defined [] = pure_finds itself []
params_find at defined (p ∷ ps) = chain_finds _ _ _ _ (param_finds at defined p) (λ t. chain_finds _ _ _ _ (params_find at defined ps) (λ ts. pure_finds itself (t ∷ ts)))
