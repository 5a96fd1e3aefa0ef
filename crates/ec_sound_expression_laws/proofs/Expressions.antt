-- Expressions and arguments serve, by induction over the trees.
use Rattle.std.proofs.Common.{◌≡◌, ◌∙◌, inl, inr, ℕ, Bool, true, false, List, [], ◌∷◌, length, Option, Some, None, refl, sym, ap, subst}
use Rattle.std.specs.Prelude.{pos, ℤ}
use Rattle.ec_base.specs.declared.fault.FaultKind.TheVariants.{F16}
use Rattle.ec_ctypes.specs.declared.checked.library.LibName.{LibName}
use Rattle.ec_ctypes.specs.declared.tree.expr.UnOp.TheVariants.{Addr, Deref, Plus, Minus, Not, Flip}
use Rattle.ec_ctypes.specs.trees.Types.{TyData, void, arithmetic, pointer, array, structure}
use Rattle.ec_ctypes.specs.trees.Exprs.{ExprData, integer, character, string, identifier, unary, binary, assign, bump, call, call_other, index, member, arrow, cast, size_type, size_expr, ExprList, no_exprs, exprs, BaseData}
use Rattle.ec_language.specs.Letters.{Text}
use Rattle.ec_typing_defs.specs.Known.{ArgumentsData, all_expressions, stream_first, with_symbols, is_identifier, is_no_expression, behind_first_argument, arguments_of}
use Rattle.ec_typing_defs.specs.Library.{library_call, cuts}
use Rattle.ec_typing_defs.specs.Tables.{find}
use Rattle.ec_typing_defs.specs.Types.{int_type}
use Rattle.ec_typing_defs.specs.Operands as checked
use Rattle.ec_typing_defs.specs.Operands.{OperandData, unknown, integer_operand, literal_operand, declared_type, types_of}
use Rattle.ec_typing_defs.specs.Expressions as checked_parts
use Rattle.ec_typing_defs.specs.Expressions.{is_varchar}
use Rattle.ec_typing_defs.specs.Worlds.{Place, EntryData, object, function, World, Rule, look_up, or_else, look_up_in, chain as check_chain, pure as check_pure, ask as check_ask, note}
use Rattle.ec_memory_defs.specs.Memory.{number}
use Rattle.ec_meaning_defs.specs.resolved.Resolved.{constant, faulty}
use Rattle.ec_resolving_defs.specs.Agreement.{operand_of}
use Rattle.ec_resolving_defs.specs.Operands.{Found, found, no_expression, with_form, as_value, value_rule, library_exp, function_called, call_rule, operands_of, is_library_literal}
use Rattle.ec_resolving_defs.specs.Storage.{Storage, LibraryCall, Resolving, chain, pure, checks, ask, stored, arrange}
use Rattle.ec_resolving_defs.specs.Expressions.{library_literal, expr, args, base}
use Rattle.ec_resolving_defs.proofs.Agreeing.{base_finds}
use Rattle.ec_sim_world_laws.specs.growth.Growth.{Grows}
use Rattle.ec_sim_world_laws.proofs.growth_lemmas.Rules as growth
use Rattle.ec_sim_world_laws.proofs.growth_lemmas.Rules.{grows_itself, begins_itself, begins_joined}
use Rattle.ec_sim_world_laws.proofs.growth_lemmas.Operands.{value_grows, call_grows}
use Rattle.ec_sim_world_laws.proofs.growth_lemmas.Expressions.{base_grows}
use Rattle.ec_sim_world_laws.proofs.known_lemmas.NamesExpressions.{base_stays}
use Rattle.ec_sim_world_laws.proofs.known_lemmas.NamesRules.{NamesStay}
use Rattle.ec_sim_program_laws.proofs.types_lemmas.Rules.{Shallow}
use Rattle.ec_sim_program_laws.proofs.types_lemmas.Fits as tree
use Rattle.ec_sim_program_laws.proofs.types_lemmas.Expressions.{IsAtom, atom_typed, plain_base, base_has}
use Rattle.ec_sound_defs.specs.Sound.{Signature, no_atoms}
use Rattle.ec_sound_form_laws.proofs.Answered.{Tells, IsOf, value_tells, IsUndeclaredCall, IsCallBy, call_tells}
use Rattle.ec_sound_form_laws.proofs.Found.{computed_is}
use Rattle.ec_sound_expression_laws.specs.Arguments.{ArgumentServes, ArgumentsServe}
use Rattle.ec_sound_expression_laws.specs.Plain.{IsArithmetic, IsPlain, ArePlain}
use Rattle.ec_sound_expression_laws.specs.Standing.{NamesStand, Serves, ServesAsValue}
use Rattle.ec_sound_expression_laws.proofs.Basics.{clash}
use Rattle.ec_sound_expression_laws.proofs.Names.{free_no_library, library_no_stream, some_not}
use Rattle.ec_sound_expression_laws.proofs.Calls.{function_serves}
use Rattle.ec_sound_expression_laws.proofs.Library.{HasNoStream, no_stream, library_serves}
use Rattle.ec_sound_expression_laws.proofs.Leaves.{name_walks, literal_walks, value_walks, address_walks, target_walks, sign_walks, binary_walks, index_walks, assign_walks, compound_walks, bump_walks, member_walks, arrow_walks, cast_walks, size_walks, served_type}
use Rattle.ec_sound_expression_laws.proofs.Storing.{base_stores}
use Rattle.ec_sound_expression_laws.proofs.Walks.{Stands, Step, Walk, chained, from, to, carried, pure_walks, leaf, stands_still}

-- the same names in scope
same_names : (w z : World) → NamesStay w z → (name : Text) → look_up name z ≡ look_up name w
same_names w z h name = λ j. or_else (find name (h.here j)) (look_up_in (h.outer j) name)

module _ (gs : List Signature) (calls : List LibraryCall) (n : ℕ) (written : Bool) where
  abbrev Served : Found → Type 0
  Served f = Serves gs calls n f

  abbrev Value : Found → Type 0
  Value f = ServesAsValue gs calls n f

  abbrev Walks : Type 0 → (Found → Type 0) → Resolving Found → Rule OperandData → Type 0
  Walks R P m c = Walk gs calls n written operand_of R P m c

  abbrev Standing : Storage → World → Type 0
  Standing s w = Stands gs calls n written s w

  -- ---- constants

  integer_serves : (z : ℤ) (t : TyData) → IsArithmetic t → Served (found (integer_operand t z) (constant (number z)) false)
  integer_serves z void h = absurd h
  integer_serves z (arithmetic a) h = inl (computed_is gs no_atoms n (arithmetic a) (integer_operand (arithmetic a) z) (constant (number z)) (record { type = refl; no_place = refl; no_target = refl }) tt)
  integer_serves z (pointer t) h = absurd h
  integer_serves z (array t k) h = absurd h
  integer_serves z (structure k) h = absurd h

  -- ---- the types in casts and sizes

  base_walks : {R : Type 0} (at : Place) (b : BaseData) → is_varchar b ≡ false → tree.FitsBase b → Walk gs calls n written (λ t. t) R (λ t. IsAtom t) (base at b) (checked_parts.base at b)
  base_walks at b v h = record {
    steps = λ s w.
        let f = base_finds at b in
        let g = subst (λ z. Grows w z) (sym (f.world s w)) ((base_grows at b).grows w) in
        record {
          answer = f.answer s w;
          world = f.world s w;
          grows = g;
          calls_grow = (base_stores at b).calls s w;
          fits = λ stands r found shallow front.
              let p = (plain_base b v (base_has at b h)).types w stands.sound tt found (subst (λ z. Shallow z) (f.world s w) shallow) in (
                subst (λ z. Standing (base at b s w).storage z) (sym (f.world s w)) (record {
                  is_written = ((base_grows at b).grows w).written ∙ stands.is_written;
                  sound = p.0;
                  names = subst (λ xs. NamesStand gs n xs (base at b s w).storage.defined (checked_parts.base at b w).world) (sym ((base_stores at b).sites s w))
                      (subst (λ d. NamesStand gs n s.sites d (checked_parts.base at b w).world) (sym ((base_stores at b).defined s w)) (record {
                        defined_there = ((base_grows at b).grows w).defined ∙ stands.names.defined_there;
                        stand = λ name entry is. stands.names.stand name entry (sym (same_names w (checked_parts.base at b w).world ((base_stays at b).stays w) name) ∙ is);
                        free = λ name entry is. stands.names.free name entry (sym (same_names w (checked_parts.base at b w).world ((base_stays at b).stays w) name) ∙ is);
                      }));
                }),
                subst IsAtom (sym (f.answer s w)) p.1,
              );
        };
  }

  -- ---- calls

  abbrev CallServes : ArgumentsData → Text → ExprList → List Found → Type 0
  CallServes forms name es fs = (forms ≡ arguments_of written name) × ArgumentsServe gs calls n forms es fs

  library_told : (s : Storage) (w : World) → Standing s w → (name : Text) (es : ExprList) (fs : List Found) (l : LibName) → library_call w.written name ≡ Some l → (o : OperandData)
      → IsCallBy w name es (operands_of fs) (look_up name w) o → (cuts l es (types_of (operands_of fs)) ≡ true) × IsOf void o
  library_told s w stands name es fs l is o t = by_entry (look_up name w) refl t
    where
      by_entry : (entry : Option EntryData) → look_up name w ≡ entry → IsCallBy w name es (operands_of fs) entry o → (cuts l es (types_of (operands_of fs)) ≡ true) × IsOf void o
      by_entry (Some (object k global x)) e t = absurd t
      by_entry (Some (function k done r ps)) e t = some_not (sym is ∙ free_no_library name (stands.names.free name (function k done r ps) e) w.written)
      by_entry None e t = subst (λ x. IsUndeclaredCall name es (operands_of fs) x o) is t

  call_by_name : (at : Place) (name : Text) (es : ExprList) (fs : List Found) (forms : ArgumentsData) (s : Storage) (w : World) (l : Option LibName) → library_call w.written name ≡ l
      → Step gs calls n written operand_of (CallServes forms name es fs) Served s w
      (chain (elim l [ Some call_name ↦ library_exp call_name es fs | None ↦ function_called name es fs ]) (λ e. with_form (as_value e) (checked.call_rule at name es (operands_of fs))) s w)
      (checked.call_rule at name es (operands_of fs) w)
  unfolding chain ask stored arrange checks pure
  call_by_name at name es fs forms s w None is = record {
    answer = refl;
    world = refl;
    grows = (call_grows at name es (operands_of fs)).grows w;
    calls_grow = begins_itself s.calls;
    fits = λ stands r found shallow front.
        let t = call_tells w at name es (operands_of fs) in (
          stands_still gs calls n written s w _ t.same stands,
          function_serves gs calls n written s w stands name es fs (sym (ap (λ b. library_call b name) stands.is_written) ∙ is) (subst (λ x. ArgumentsServe gs calls n x es fs) r.0 r.1) _ (t.tells found),
        );
  }
  call_by_name at name es fs forms s w (Some l) is = record {
    answer = refl;
    world = refl;
    grows = (call_grows at name es (operands_of fs)).grows w;
    calls_grow = begins_joined s.calls _;
    fits = λ stands r found shallow front.
        let t = call_tells w at name es (operands_of fs) in
        let told = library_told s w stands name es fs l is _ (t.tells found) in
        let still : Standing s (checked.call_rule at name es (operands_of fs) w).world = stands_still gs calls n written s w _ t.same stands in (
          record { is_written = still.is_written; sound = still.sound; names = still.names },
          inr (record {
            type = told.1.type;
            no_place = told.1.no_place;
            no_target = told.1.no_target;
            no_address = refl;
            form = library_serves gs calls n l forms es fs (subst HasNoStream (sym r.0) (no_stream name written (library_no_stream name w.written l is))) r.1 told.0 s.calls front;
          }),
        );
  }

  call_walks : (at : Place) (name : Text) (es : ExprList) (fs : List Found) (forms : ArgumentsData) → Walks (CallServes forms name es fs) Served (call_rule at name es fs) (checked.call_rule at name es (operands_of fs))
  unfolding chain ask
  call_walks at name es fs forms = record { steps = λ s w. call_by_name at name es fs forms s w (library_call w.written name) refl }

  -- which arguments are no expressions
  forms_walk : (name : Text) → Walk gs calls n written (λ forms. forms) (Unit {0}) (λ forms. forms ≡ arguments_of written name) (ask (λ w. arguments_of w.written name)) (check_ask (λ w. arguments_of w.written name))
  unfolding ask check_ask
  forms_walk name = record {
    steps = λ s w. record {
      answer = refl;
      world = refl;
      grows = grows_itself w;
      calls_grow = begins_itself s.calls;
      fits = λ stands r found shallow front. (stands, ap (λ b. arguments_of b name) stands.is_written);
    };
  }

  -- ---- arguments

  -- a literal of the library
  literal_typed : (w : World) (at : Place) (s : Text) → Tells w (λ o. (t : TyData) × (o.type ≡ Some t)) (check_chain (check_pure (literal_operand (length s))) (checked.value_rule at))
  unfolding check_chain check_pure
  literal_typed w at s = let t = value_tells w at (literal_operand (length s)) _ refl in record { same = t.same; tells = λ found. (_, (t.tells found).type) }

  literal_of_library : (at : Place) (s : Text) → Walks (Unit {0}) (λ f. (t : TyData) × (f.operand.type ≡ Some t)) (library_literal at (string s)) (check_chain (checked_parts.expr at (string s)) (checked.value_rule at))
  unfolding library_literal chain checks pure
  literal_of_library at s =
      leaf gs calls n written _ _ (λ s w o. found o faulty false) (λ s w. refl) (λ s w o. refl) (growth.chained (growth.pure_grows _) (λ o. value_grows at o)) (λ st w stands r. literal_typed w at s)

  literal_by : (at : Place) (e : ExprData) (forms : ArgumentsData) → is_library_literal forms e ≡ true
      → Walks (Unit {0}) (λ f. (t : TyData) × (f.operand.type ≡ Some t)) (library_literal at e) (check_chain (checked_parts.expr at e) (checked.value_rule at))
  literal_by at (string s) with_symbols h = literal_of_library at s
  literal_by at (string s) all_expressions h = clash h
  literal_by at (string s) stream_first h = clash h
  literal_by at e all_expressions h = clash h
  literal_by at e stream_first h = clash h
  literal_by at (integer k t) with_symbols h = clash h
  literal_by at (character c) with_symbols h = clash h
  literal_by at (identifier x) with_symbols h = clash h
  literal_by at (unary op e) with_symbols h = clash h
  literal_by at (binary op a b) with_symbols h = clash h
  literal_by at (assign op a b) with_symbols h = clash h
  literal_by at (bump before up e) with_symbols h = clash h
  literal_by at (call x es) with_symbols h = clash h
  literal_by at (call_other x es) with_symbols h = clash h
  literal_by at (index a b) with_symbols h = clash h
  literal_by at (member e m) with_symbols h = clash h
  literal_by at (arrow e m) with_symbols h = clash h
  literal_by at (cast b stars e) with_symbols h = clash h
  literal_by at (size_type b stars) with_symbols h = clash h
  literal_by at (size_expr e) with_symbols h = clash h

  argument_walks : (at : Place) (e : ExprData) (m : Resolving Found) (c : Rule OperandData) (none literal : Bool) → Walks (Unit {0}) Value m c
      → (literal ≡ true → Walks (Unit {0}) (λ f. (t : TyData) × (f.operand.type ≡ Some t)) (library_literal at e) c)
      → Walks (Unit {0}) (λ f. ArgumentServes gs calls n none literal f) (elim none [ true ↦ pure no_expression | false ↦ elim literal [ true ↦ library_literal at e | false ↦ m ] ]) (elim none [ true ↦ check_pure unknown | false ↦ c ])
  argument_walks at e m c true literal h g = pure_walks gs calls n written no_expression (λ r. tt)
  argument_walks at e m c false true h g = g refl
  argument_walks at e m c false false h g = h

  -- ---- the parts

  valued : {R : Type 0} (at : Place) {m : Resolving Found} {c : Rule OperandData} → Walks R Served m c → Walks R Value (chain m (value_rule at)) (check_chain c (checked.value_rule at))
  valued at h = chained gs calls n written _ h (λ f. value_walks gs calls n written at f)

  -- with what was found before
  also : (X : Type 0) {P : Found → Type 0} {m : Resolving Found} {c : Rule OperandData} → Walks (Unit {0}) P m c → Walks X (λ f. X × P f) m c
  also X h = carried gs calls n written X h

  called_other : (m : Resolving Found) (c : Rule OperandData) (b : Bool) → Walks (Unit {0}) Served m c → Walks (Unit {0}) (λ f. Unit {0}) (elim b [ true ↦ pure no_expression | false ↦ m ]) (elim b [ true ↦ check_pure unknown | false ↦ c ])
  called_other m c true h = pure_walks gs calls n written no_expression (λ r. tt)
  called_other m c false h = to gs calls n written (λ f p. tt) h

  faulty_walks : {R : Type 0} (at : Place) → Walks R Served (pure no_expression) (check_chain (note at F16) (λ u. check_pure unknown))
  unfolding pure check_chain note check_pure
  faulty_walks at = record {
    steps = λ s w. record { answer = refl; world = refl; grows = grows_itself w; calls_grow = begins_itself s.calls; fits = λ stands r found shallow front. absurd (cc) };
  }

  mutual
    pub expr_walks : (at : Place) (e : ExprData) → tree.Fits e → IsPlain e → Walks (Unit {0}) Served (expr at e) (checked_parts.expr at e)
    expr_walks at (integer k t) h p = pure_walks gs calls n written _ (λ r. integer_serves (pos k) t p)
    expr_walks at (character c) h p = pure_walks gs calls n written _ (λ r. integer_serves c int_type tt)
    expr_walks at (string s) h p = literal_walks gs calls n written s
    expr_walks at (identifier x) h p = name_walks gs calls n written at x
    expr_walks at (unary Addr e) h p = chained gs calls n written _ (expr_walks at e h p) (λ f. address_walks gs calls n written at f)
    expr_walks at (unary Deref e) h p = chained gs calls n written _ (valued at (expr_walks at e h p)) (λ f. target_walks gs calls n written at f)
    expr_walks at (unary Plus e) h p = chained gs calls n written _ (valued at (expr_walks at e h p)) (λ f. sign_walks gs calls n written at Plus refl f)
    expr_walks at (unary Minus e) h p = chained gs calls n written _ (valued at (expr_walks at e h p)) (λ f. sign_walks gs calls n written at Minus refl f)
    expr_walks at (unary Not e) h p = chained gs calls n written _ (valued at (expr_walks at e h p)) (λ f. sign_walks gs calls n written at Not refl f)
    expr_walks at (unary Flip e) h p = chained gs calls n written _ (valued at (expr_walks at e h p)) (λ f. sign_walks gs calls n written at Flip refl f)
    expr_walks at (binary op a b) h p =
        chained gs calls n written _ (valued at (expr_walks at a h.0 p.0)) (λ x. chained gs calls n written _ (also (Value x) (valued at (expr_walks at b h.1 p.1))) (λ y. binary_walks gs calls n written at op x y))
    expr_walks at (assign None a b) h p =
        chained gs calls n written _ (expr_walks at a h.0 p.0) (λ x. chained gs calls n written _ (also (Served x) (valued at (expr_walks at b h.1 p.1))) (λ y. assign_walks gs calls n written at x y))
    expr_walks at (assign (Some op) a b) h p =
        chained gs calls n written _ (expr_walks at a h.0 p.1) (λ x. chained gs calls n written _ (also (Served x) (valued at (expr_walks at b h.1 p.2))) (λ y. compound_walks gs calls n written at op p.0 x y))
    expr_walks at (bump before up e) h p = chained gs calls n written _ (expr_walks at e h p) (λ f. bump_walks gs calls n written at before up f)
    expr_walks at (call f es) h p =
        chained gs calls n written _ (forms_walk f) (λ forms. chained gs calls n written _ (carried gs calls n written (forms ≡ arguments_of written f) (args_walk at forms es h p)) (λ fs. call_walks at f es fs forms))
    expr_walks at (call_other f es) h p =
        chained gs calls n written _ (called_other _ _ (is_identifier f) (expr_walks at f h.0 p.0)) (λ a. chained gs calls n written _ (args_walk at all_expressions es h.1 p.1) (λ fs. faulty_walks at))
    expr_walks at (index a b) h p =
        chained gs calls n written _ (valued at (expr_walks at a h.0 p.0)) (λ x. chained gs calls n written _ (also (Value x) (valued at (expr_walks at b h.1 p.1))) (λ y. index_walks gs calls n written at x y))
    expr_walks at (member e m) h p = chained gs calls n written _ (expr_walks at e h p) (λ f. member_walks gs calls n written at f m)
    expr_walks at (arrow e m) h p = chained gs calls n written _ (valued at (expr_walks at e h p)) (λ f. arrow_walks gs calls n written at f m)
    expr_walks at (cast b stars e) h p =
        chained gs calls n written _ (base_walks at b h.0 h.1) (λ t. chained gs calls n written _ (also (IsAtom t) (expr_walks at e h.2 p)) (λ f. from gs calls n written (λ r. (atom_typed stars t r.0, r.1)) (cast_walks gs calls n written at (declared_type t stars []) f)))
    expr_walks at (size_type b stars) h p =
        chained gs calls n written _ (base_walks at b h.0 h.1) (λ t. from gs calls n written (λ r. atom_typed stars t r) (size_walks gs calls n written at (declared_type t stars [])))
    expr_walks at (size_expr e) h p = chained gs calls n written _ (expr_walks at e h p) (λ f. from gs calls n written (λ r. served_type gs calls n written f r) (size_walks gs calls n written at f.operand.type))

    pub args_walk : (at : Place) (forms : ArgumentsData) (es : ExprList) → tree.FitAll es → ArePlain es
        → Walk gs calls n written operands_of (Unit {0}) (λ fs. ArgumentsServe gs calls n forms es fs) (args at forms es) (checked_parts.args at forms es)
    args_walk at forms no_exprs h p = pure_walks gs calls n written [] (λ r. tt)
    args_walk at forms (exprs e es) h p =
        chained gs calls n written _ (argument_walks at e _ _ (is_no_expression forms e) (is_library_literal forms e) (valued at (expr_walks at e h.0 p.0)) (literal_by at e forms)) (λ f.
        chained gs calls n written _ (carried gs calls n written (ArgumentServes gs calls n (is_no_expression forms e) (is_library_literal forms e) f) (args_walk at (behind_first_argument forms) es h.1 p.1)) (λ fs.
        pure_walks gs calls n written (f ∷ fs) (λ r. r)))
