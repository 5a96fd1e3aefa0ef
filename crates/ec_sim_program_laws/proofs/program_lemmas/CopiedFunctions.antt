-- Functions are copied wherever their parameters are alike and their bodies are copied.
use Rattle.std.proofs.Common.{◌≡◌, ◌∙◌, ℕ, suc, Bool, true, false, not, ◌||◌, List, [], ◌∷◌, ◌++◌, length, map, Option, Some, None, refl, sym, subst, append_assoc}
use Rattle.std.specs.Prelude.{is_some}
use Rattle.ec_base.specs.declared.fault.FaultKind.TheVariants.{F10, F12, F14}
use Rattle.ec_base.specs.declared.line.Line.{Line}
use Rattle.ec_ctypes.specs.trees.Types.{TyData}
use Rattle.ec_ctypes.specs.trees.Embedded.{EmbData}
use Rattle.ec_ctypes.specs.trees.Exprs.{BaseData}
use Rattle.ec_ctypes.specs.trees.Stmts.{StmtKindData, StmtList}
use Rattle.ec_ctypes.specs.trees.Units.{ParamData, FuncData, TopData, func_top}
use Rattle.ec_language.specs.Letters.{Text}
use Rattle.ec_written_laws.specs.bound.Numbers.{stmts_numbers, body_numbers}
use Rattle.ec_expansion_defs.specs.Declarations.{written_base}
use Rattle.ec_expansion_defs.specs.Statements.{written_items, written_body, written_param, written_func}
use Rattle.ec_typing_defs.specs.Tables.{find}
use Rattle.ec_typing_defs.specs.Known.{is_reserved}
use Rattle.ec_typing_defs.specs.Expressions as checked_parts
use Rattle.ec_typing_defs.specs.Operands.{declared_type}
use Rattle.ec_typing_defs.specs.Programs as programs
use Rattle.ec_typing_defs.specs.Programs.{is_done, may_follow, may_be_result, begin_function, know_function, result_rule}
use Rattle.ec_typing_defs.specs.Statements as checked
use Rattle.ec_typing_defs.specs.Statements.{type_or_void, labels_in_all}
use Rattle.ec_typing_defs.specs.Worlds.{Place, EntryData, function, World, Out, Rule, chain as check_chain, pure as check_pure, ask as check_ask, change, note, demand, enter, leave, free_name, place, with_name, number_as, next_number}
use Rattle.ec_meaning_defs.specs.resolved.Programs.{Function}
use Rattle.ec_meaning_defs.specs.resolved.Resolved.{Stm, Stms}
use Rattle.ec_resolving_defs.specs.Agreement.{around_of}
use Rattle.ec_resolving_defs.specs.Expressions.{base}
use Rattle.ec_resolving_defs.specs.Programs.{Body, params, body_rule, function_made, function_rule}
use Rattle.ec_resolving_defs.specs.Statements.{objects_in_all, statements}
use Rattle.ec_resolving_defs.specs.Storage.{nowhere, Storage, reached, Resolving, chain, pure, checks, ask, arrange, with_site, in_block}
use Rattle.ec_sim_statement_laws.specs.statement.Copies.{AreCopies, IsFunctionCopy, AreFunctionCopies}
use Rattle.ec_sim_statement_laws.specs.expression.Laws.{ExpressionsAreAlike, TypesAreAlike, LengthsAreAlike}
use Rattle.ec_sim_statement_laws.specs.expression.Lengths.{BaseHasLengths}
use Rattle.ec_sim_statement_laws.specs.expression.Silent.{Nothing}
use Rattle.ec_sim_statement_laws.specs.expression.Known.{entered_alike, with_labels}
use Rattle.ec_sim_statement_laws.specs.expression.Rules.{some_found, none_before, none_behind, QuietAlike, CheckAlike, change_alike, demand_quietly, checks_alike, ask_alike}
use Rattle.ec_sim_world_laws.specs.growth.Growth.{Grows}
use Rattle.ec_sim_world_laws.proofs.growth_lemmas.Rules.{leave_grows}
use Rattle.ec_host_defs.specs.Programs.{is_among}
use Rattle.ec_host_defs.specs.sections.Declared.{functions_of}
use Rattle.ec_sim_world_laws.specs.known.Known.{Keeps}
use Rattle.ec_sim_world_laws.specs.known.Laws.{WalkKeeps}
use Rattle.ec_sim_program_laws.specs.program.Copied.{Whole, Ahead, in_function, at_top, FindCopies, IsCopied, Any}
use Rattle.ec_sim_program_laws.specs.program.Declared.{PlainAreAlike, VarcharsAreAlike}
use Rattle.ec_sim_program_laws.specs.program.Embedded.{inside, EmbeddedAreCopied}
use Rattle.ec_sim_program_laws.specs.program.Shape.{BodyStands, ParamsHaveLengths}
use Rattle.ec_sim_program_laws.proofs.program_lemmas.Around.{left_alike}
use Rattle.ec_sim_program_laws.proofs.program_lemmas.Coming.{come_behind, come_stored, types_pass, ask_passes, ask_keeps}
use Rattle.ec_sim_program_laws.proofs.program_lemmas.Copying.{copied_chain, alike_passed, alike_first, copied_as, copied_then, pure_copied, alike_last, placed, copied_block, passed_behind}
use Rattle.ec_sim_program_laws.proofs.program_lemmas.CopiedStatements.{items_copied}
use Rattle.ec_sim_program_laws.proofs.program_lemmas.Declaring.{site_same}
use Rattle.ec_sim_program_laws.proofs.program_lemmas.DenotingRules.{ask_denotes, changed, enter_denotes, leave_denotes}
use Rattle.ec_sim_program_laws.proofs.program_lemmas.DenotingExpressions.{base_denotes}
use Rattle.ec_sim_program_laws.proofs.program_lemmas.DenotingPrograms.{result_denotes, params_denote, know_denotes}
use Rattle.ec_sim_program_laws.proofs.program_lemmas.Names.{not_false, with_names, number_alike}
use Rattle.ec_sim_program_laws.proofs.program_lemmas.Params.{result_alike, params_alike, know_alike}
use Rattle.ec_sim_program_laws.proofs.program_lemmas.Trees.{items_labels, items_objects}

-- a body, and what is written of it
abbrev SameBody : (ℕ → ℕ → Stm → Type 0) → Body → Body → Type 0
SameBody P None None = Unit {0}
SameBody P None (Some y) = ⊥
SameBody P (Some x) None = ⊥
SameBody P (Some x) (Some y) = (y.0 ≡ x.0) × ((line : ℕ) → AreCopies P line x.1 y.1)

functions_joined : {P : ℕ → ℕ → Stm → Type 0} (fs hs : List Function) (f h : Function) → AreFunctionCopies P fs hs → IsFunctionCopy P f h → AreFunctionCopies P (fs ++ f ∷ []) (hs ++ h ∷ [])
functions_joined [] [] f h p q = (q, tt)
functions_joined [] (j ∷ hs) f h p q = absurd p
functions_joined (k ∷ fs) [] f h p q = absurd p
functions_joined (k ∷ fs) (j ∷ hs) f h p q = (p.0, functions_joined fs hs f h p.1 q)

four_joined : {A : Type 0} (p k d b l : List A) → (p ++ (k ++ (d ++ b))) ++ l ≡ p ++ (k ++ (d ++ (b ++ l)))
four_joined p k d b l = append_assoc p (k ++ (d ++ b)) l ∙ (λ i. p ++ (append_assoc k (d ++ b) l ∙ (λ j. k ++ append_assoc d b l j)) i)

module _ (g : Whole) where
  -- ---- steps of a function

  -- what only tells a fault, and is not looked at by the walk
  quiet_before : {A B : Type 0} {IsLike : A → B → Type 0} {ns ms : Ahead} (c d e f : Rule (Unit {0})) {m : Resolving A} {n : Resolving B} → QuietAlike c d
      → IsCopied g IsLike ns ms e f m n → IsCopied g IsLike ns ms (check_chain c (λ _. e)) (check_chain d (λ _. f)) m n
  unfolding check_chain
  quiet_before {IsLike = R} {ms = ms} c d e f {m} {n} q p = record {
    finds = λ s t w v same alike here none more.
        let x : FindCopies g R ms s t (e w) (f v) (m s w) (n t v) =
        p.finds s t w v same alike here ((λ i. (e (sym (q.here w) i)).found) ∙ none_behind (c w).found (e (c w).world).found none)
        (subst (λ u. Grows (e u).world g.world) (q.here w) more)
        in record {
          worlds = x.worlds;
          storages = x.storages;
          to_come = x.to_come;
          forms_grow = x.forms_grow;
          calls_grow = x.calls_grow;
          like = x.like;
          functions = x.functions;
          checked_world = x.checked_world ∙ (λ i. (e (sym (q.here w) i)).world);
          checked_world_there = x.checked_world_there ∙ (λ i. (f (sym (q.there v) i)).world);
          without_fault = (λ i. q.without_fault w v alike (none_before (c w).found (e (c w).world).found none) i ++ (f (q.there v i)).found) ∙ x.without_fault;
        };
  }

  -- the name of a function stands for it before it is told whether it is reserved
  by_free : {A B : Type 0} {IsLike : A → B → Type 0} {ns : List ℕ} {tops : Option (List TopData)} {ms : Ahead} (at there : Place) (name : Text) (entry : EntryData) (free : Bool) (e f : Unit {0} → Rule (Unit {0})) (k : Unit {0} → Resolving A) (l : Unit {0} → Resolving B)
      → Keeps g.source (checks (begin_function name entry)) → (free ≡ true → is_reserved name ≡ false) → (is_reserved name ≡ false → IsCopied g IsLike (in_function ns) ms (e tt) (f tt) (k tt) (l tt))
      → IsCopied g IsLike (record { numbers = ns; tops = tops }) ms (check_chain (begin_function name entry) (λ _. check_chain (demand at F12 free) e)) (check_chain (begin_function name entry) (λ _. check_chain (demand there F12 free) f))
      (chain (checks (begin_function name entry)) k) (chain (checks (begin_function name entry)) l)
  unfolding chain check_chain checks begin_function change demand note check_pure
  by_free at there name entry false e f k l keeps h p = record { finds = λ s t w v same alike here none more. absurd (some_found none) }
  by_free {IsLike = R} {ns} {tops} {ms} at there name entry true e f k l keeps h p = record {
    finds = λ s t w v same alike here none more.
        let x : FindCopies g R ms s t (e tt (with_name name entry w)) (f tt (with_name name entry v)) (k tt s (with_name name entry w)) (l tt t (with_name name entry v)) =
        (p (h refl)).finds s t (with_name name entry w) (with_name name entry v) same (with_names w v alike name entry (h refl))
        (come_behind g (record { numbers = ns; tops = tops }) (in_function ns) s s w (with_name name entry w) here refl refl refl (keeps.known s w here.known) (keeps.grows s w) (keeps.sites s w) tt) none more
        in record {
          worlds = x.worlds;
          storages = x.storages;
          to_come = x.to_come;
          forms_grow = x.forms_grow;
          calls_grow = x.calls_grow;
          like = x.like;
          functions = x.functions;
          checked_world = x.checked_world;
          checked_world_there = x.checked_world_there;
          without_fault = x.without_fault;
        };
  }

  begin_first : {A B : Type 0} {IsLike : A → B → Type 0} {ns : List ℕ} {tops : Option (List TopData)} {ms : Ahead} (at there : Place) (name : Text) (entry : EntryData) (e f : Unit {0} → Rule (Unit {0})) (k : Unit {0} → Resolving A) (l : Unit {0} → Resolving B)
      → Keeps g.source (checks (begin_function name entry)) → (is_reserved name ≡ false → IsCopied g IsLike (in_function ns) ms (e tt) (f tt) (k tt) (l tt))
      → IsCopied g IsLike (record { numbers = ns; tops = tops }) ms (check_chain (begin_function name entry) (λ _. check_chain (free_name at name) e)) (check_chain (begin_function name entry) (λ _. check_chain (free_name there name) f))
      (chain (checks (begin_function name entry)) k) (chain (checks (begin_function name entry)) l)
  unfolding free_name
  begin_first at there name entry e f k l keeps p = by_free at there name entry (not (is_reserved name)) e f k l keeps (not_false (is_reserved name)) p

  -- on whichever line
  each_line : {ns ms : Ahead} {c d : Rule (Unit {0})} {m n : Resolving Stms} → ((line : ℕ) → IsCopied g (AreCopies g.Stands line) ns ms c d m n)
      → IsCopied g (λ x y. (line : ℕ) → AreCopies g.Stands line x y) ns ms c d m n
  each_line {ms = ms} {c} {d} {m} {n} p = record {
    finds = λ s t w v same alike here none more.
        let x : FindCopies g (AreCopies g.Stands 0) ms s t (c w) (d v) (m s w) (n t v) = (p 0).finds s t w v same alike here none more
        in record {
          worlds = x.worlds;
          storages = x.storages;
          to_come = x.to_come;
          forms_grow = x.forms_grow;
          calls_grow = x.calls_grow;
          like = λ forms calls line. ((p line).finds s t w v same alike here none more).like forms calls;
          functions = x.functions;
          checked_world = x.checked_world;
          checked_world_there = x.checked_world_there;
          without_fault = x.without_fault;
        };
  }

  -- a function more, once its body is copied
  made_found : (name : Text) (ps : List (Option TyData)) {ms : Ahead} (s t : Storage) (o p : Out (Unit {0})) (a b : Body) (u u' : Storage) (w v : World)
      → FindCopies g (SameBody g.Stands) ms s t o p (reached a u w) (reached b u' v)
      → FindCopies g Any ms s t o p (function_made name ps a u w) (function_made name ps b u' v)
  unfolding pure arrange
  made_found name ps s t o p None None u u' w v x = record {
    worlds = x.worlds;
    storages = x.storages;
    to_come = x.to_come;
    forms_grow = x.forms_grow;
    calls_grow = x.calls_grow;
    like = λ forms calls. tt;
    functions = x.functions;
    checked_world = x.checked_world;
    checked_world_there = x.checked_world_there;
    without_fault = x.without_fault;
  }
  made_found name ps s t o p None (Some b) u u' w v x = record {
    worlds = x.worlds;
    storages = record { defined = x.storages.defined; before_literals = x.storages.before_literals; sites = x.storages.sites; globals = x.storages.globals; literals = x.storages.literals; block = x.storages.block };
    to_come = x.to_come;
    forms_grow = x.forms_grow;
    calls_grow = x.calls_grow;
    like = λ forms calls. tt;
    functions = λ forms calls before. absurd (x.like forms calls);
    checked_world = x.checked_world;
    checked_world_there = x.checked_world_there;
    without_fault = x.without_fault;
  }
  made_found name ps {ms} s t o p (Some a) None u u' w v x = record {
    worlds = x.worlds;
    storages = record { defined = x.storages.defined; before_literals = x.storages.before_literals; sites = x.storages.sites; globals = x.storages.globals; literals = x.storages.literals; block = x.storages.block };
    to_come = come_stored g ms u (function_made name ps (Some a) u w).storage w x.to_come refl refl;
    forms_grow = x.forms_grow;
    calls_grow = x.calls_grow;
    like = λ forms calls. tt;
    functions = λ forms calls before. absurd (x.like forms calls);
    checked_world = x.checked_world;
    checked_world_there = x.checked_world_there;
    without_fault = x.without_fault;
  }
  made_found name ps {ms} s t o p (Some a) (Some b) u u' w v x = record {
    worlds = x.worlds;
    storages = record { defined = x.storages.defined; before_literals = x.storages.before_literals; sites = x.storages.sites; globals = x.storages.globals; literals = x.storages.literals; block = x.storages.block };
    to_come = come_stored g ms u (function_made name ps (Some a) u w).storage w x.to_come refl refl;
    forms_grow = x.forms_grow;
    calls_grow = x.calls_grow;
    like = λ forms calls. tt;
    functions = λ forms calls before. functions_joined u.functions u'.functions _ _ (x.functions forms calls before)
        (record { parameters = refl; objects = (x.like forms calls).0; body = (x.like forms calls).1; otherwise = refl });
    checked_world = x.checked_world;
    checked_world_there = x.checked_world_there;
    without_fault = x.without_fault;
  }

  made_copied : (name : Text) (ps : List (Option TyData)) {ns ms : Ahead} {c d : Rule (Unit {0})} {m n : Resolving Body} → IsCopied g (SameBody g.Stands) ns ms c d m n
      → IsCopied g Any ns ms c d (chain m (λ b. function_made name ps b)) (chain n (λ b. function_made name ps b))
  unfolding chain
  made_copied name ps {c = c} {d} {m} {n} p = record {
    finds = λ s t w v same alike here none more.
        made_found name ps s t (c w) (d v) (m s w).answer (n t v).answer (m s w).storage (n t v).storage (m s w).world (n t v).world (p.finds s t w v same alike here none more);
  }

  -- the checks leave the scope behind all of it
  regrouped_function : {A B D E : Type 0} {IsLike : A → B → Type 0} {ns ms : Ahead} (c : Rule D) (e f : D → Rule (Unit {0})) (h l : Rule (Unit {0})) (c' : Rule E) (e' f' : E → Rule (Unit {0})) (h' l' : Rule (Unit {0})) {m : Resolving A} {n : Resolving B}
      → IsCopied g IsLike ns ms (check_chain (check_chain c (λ a. check_chain (e a) (λ _. check_chain (f a) (λ _. h)))) (λ _. l)) (check_chain (check_chain c' (λ a. check_chain (e' a) (λ _. check_chain (f' a) (λ _. h')))) (λ _. l')) m n
      → IsCopied g IsLike ns ms (check_chain c (λ a. check_chain (e a) (λ _. check_chain (f a) (λ _. check_chain h (λ _. l))))) (check_chain c' (λ a. check_chain (e' a) (λ _. check_chain (f' a) (λ _. check_chain h' (λ _. l'))))) m n
  unfolding check_chain
  regrouped_function {IsLike = R} {ms = ms} c e f h l c' e' f' h' l' {m} {n} p = record {
    finds = λ s t w v same alike here none more.
        let c1 = c w in
        let e1 = e c1.answer c1.world in
        let f1 = f c1.answer e1.world in
        let h1 = h f1.world in
        let l1 = l h1.world in
        let c2 = c' v in
        let e2 = e' c2.answer c2.world in
        let f2 = f' c2.answer e2.world in
        let h2 = h' f2.world in
        let l2 = l' h2.world in
        let x : FindCopies g R ms s t (check_chain (check_chain c (λ a. check_chain (e a) (λ _. check_chain (f a) (λ _. h)))) (λ _. l) w) (check_chain (check_chain c' (λ a. check_chain (e' a) (λ _. check_chain (f' a) (λ _. h')))) (λ _. l') v) (m s w) (n t v) =
        p.finds s t w v same alike here (four_joined c1.found e1.found f1.found h1.found l1.found ∙ none) more
        in record {
          worlds = x.worlds;
          storages = x.storages;
          to_come = x.to_come;
          forms_grow = x.forms_grow;
          calls_grow = x.calls_grow;
          like = x.like;
          functions = x.functions;
          checked_world = x.checked_world;
          checked_world_there = x.checked_world_there;
          without_fault = sym (four_joined c2.found e2.found f2.found h2.found l2.found) ∙ x.without_fault;
        };
  }

result_types : (at : Place) (o : Option TyData) (w : World) → (result_rule at o w).world.types ≡ w.types
unfolding result_rule check_chain check_pure
result_types at o w = λ i. ((demand_quietly at at F14 (may_be_result o) (may_be_result o) (λ e. e)).here w i).types

module _ (g : Whole) (walk : WalkKeeps g.source) where
  -- a declaration more that is no object, with its place
  numbered_first : {A B : Type 0} {IsLike : A → B → Type 0} {ns : List ℕ} {ms : Ahead} (type : TyData) (e f : Rule (Unit {0})) (k : Unit {0} → Resolving A) (l : Unit {0} → Resolving B)
      → IsCopied g IsLike (in_function ns) ms e f (k tt) (l tt)
      → IsCopied g IsLike (in_function ns) ms (check_chain (number_as type) (λ _. e)) (check_chain (number_as type) (λ _. f))
      (chain (checks (number_as type)) (λ _. chain (arrange (with_site nowhere)) k)) (chain (checks (number_as type)) (λ _. chain (arrange (with_site nowhere)) l))
  unfolding chain check_chain checks arrange number_as change
  numbered_first {IsLike = R} {ns} {ms} type e f k l p = record {
    finds = λ s t w v same alike here none more.
        let numbered : World = record w { types = w.types ++ type ∷ [] } in
        let numbered_there : World = record v { types = v.types ++ type ∷ [] } in
        let x : FindCopies g R ms (with_site nowhere s) (with_site nowhere t) (e numbered) (f numbered_there) (k tt (with_site nowhere s) numbered) (l tt (with_site nowhere t) numbered_there) =
        p.finds (with_site nowhere s) (with_site nowhere t) numbered numbered_there (site_same nowhere s t same) ((number_alike type).finds w v alike refl).worlds
        (come_behind g (in_function ns) (in_function ns) s (with_site nowhere s) w numbered here refl refl refl ((walk.numbers type).known s w here.known) ((walk.numbers type).grows s w) ((walk.numbers type).sites s w) tt) none more
        in record {
          worlds = x.worlds;
          storages = x.storages;
          to_come = x.to_come;
          forms_grow = x.forms_grow;
          calls_grow = x.calls_grow;
          like = x.like;
          functions = x.functions;
          checked_world = x.checked_world;
          checked_world_there = x.checked_world_there;
          without_fault = x.without_fault;
        };
  }

  -- a function that stands next has the number of one
  number_first : {A B : Type 0} {IsLike : A → B → Type 0} {ns : List ℕ} {ms : Ahead} (func : FuncData) (ts : List TopData) (e f : ℕ → Rule (Unit {0})) (k : ℕ → Resolving A) (l : ℕ → Resolving B)
      → ((n : ℕ) → is_among n (functions_of g.source) ≡ true → IsCopied g IsLike (at_top ns (func_top func ∷ ts)) ms (e n) (f n) (k n) (l n))
      → IsCopied g IsLike (at_top ns (func_top func ∷ ts)) ms (check_chain (check_ask next_number) e) (check_chain (check_ask next_number) f) (chain (ask next_number) k) (chain (ask next_number) l)
  unfolding chain check_chain ask check_ask
  number_first {IsLike = R} {ns} {ms} func ts e f k l p = record {
    finds = λ s t w v same alike here none more.
        let n : ℕ = length w.types in
        let x : FindCopies g R ms s t (e n w) (f n v) (k n s w) (l n t v) =
        (p n (walk.functions_are_numbered g.source func ts w here.position)).finds s t w v same alike here none more
        in let y : FindCopies g R ms s t (e n w) (f (length v.types) v) (k n s w) (l (length v.types) t v) =
        subst (λ types. FindCopies g R ms s t (e n w) (f (length types) v) (k n s w) (l (length types) t v)) (sym alike.types) x
        in record {
          worlds = y.worlds;
          storages = y.storages;
          to_come = y.to_come;
          forms_grow = y.forms_grow;
          calls_grow = y.calls_grow;
          like = y.like;
          functions = y.functions;
          checked_world = y.checked_world;
          checked_world_there = y.checked_world_there;
          without_fault = y.without_fault;
        };
  }

enter_alike : CheckAlike enter enter
unfolding enter
enter_alike = change_alike _ _ (λ w v alike. entered_alike w v alike)

leave_alike : CheckAlike leave leave
unfolding leave
leave_alike = change_alike _ _ (λ w v alike. left_alike w v alike)

-- the labels are those of this function
reset_alike : CheckAlike (change (λ w. record w { labels = [] })) (change (λ w. record w { labels = [] }))
reset_alike = change_alike _ _ (λ w v alike. with_labels w v alike [])

mapped_length : {A B : Type 0} (f : A → B) (xs : List A) → length (map f xs) ≡ length xs
mapped_length f [] = refl
mapped_length f (x ∷ xs) = λ i. suc (mapped_length f xs i)

-- ---- functions, by whether they are defined

abbrev checked_by : Line → BaseData → ℕ → Text → List ParamData → Bool → (Option TyData → Rule (Unit {0})) → Rule (Unit {0})
checked_by line b stars name qs defined body =
    check_chain (place line) (λ at. check_chain (checked_parts.base at b) (λ t. check_chain (result_rule at (declared_type t stars [])) (λ r.
    check_chain (check_ask next_number) (λ k. check_chain (check_ask (λ w. find name w.here.names)) (λ before.
    check_chain (begin_function name (function k (is_done before || defined) r None)) (λ _. check_chain (free_name at name) (λ _.
    check_chain (number_as (type_or_void r)) (λ _. check_chain enter (λ _.
    check_chain (programs.params at defined qs) (λ ps. check_chain (know_function name (function k (is_done before || defined) r (Some ps))) (λ _.
    check_chain (demand at F10 (may_follow defined r ps before)) (λ _. check_chain (body r) (λ _. leave)))))))))))))

abbrev resolved_by : Line → BaseData → ℕ → Text → List ParamData → Bool → (Option TyData → Resolving Body) → Resolving (Unit {0})
resolved_by line b stars name qs defined body =
    chain (checks (place line)) (λ at. chain (base at b) (λ t. chain (checks (result_rule at (declared_type t stars []))) (λ r.
    chain (ask next_number) (λ k. chain (ask (λ w. find name w.here.names)) (λ before.
    chain (checks (begin_function name (function k (is_done before || defined) r None))) (λ _.
    chain (checks (number_as (type_or_void r))) (λ _. chain (arrange (with_site nowhere)) (λ _. chain (checks enter) (λ _.
    chain (in_block (length qs) (chain (params at defined qs) (λ ps. chain (checks (know_function name (function k (is_done before || defined) r (Some ps)))) (λ _. chain (body r) (λ b. function_made name ps b))))) (λ _.
    checks leave))))))))))

module _ (g : Whole) (walk : WalkKeeps g.source) (embedded : ℕ → Option StmtKindData) (types : TypesAreAlike) (lengths_alike : LengthsAreAlike) (n : ℕ) where
  by_copied : (func : FuncData) (ts : List TopData) (line : Line) (b : BaseData) (stars : ℕ) (name : Text) (qs : List ParamData) (defined : Bool) (ns ms : List ℕ)
      (body body' : Option TyData → Rule (Unit {0})) (found found' : Option TyData → Resolving Body)
      → BaseHasLengths b → ParamsHaveLengths qs → ((r : Option TyData) → IsCopied g (SameBody g.Stands) (in_function ns) (in_function ms) (body r) (body' r) (found r) (found' r))
      → IsCopied g Any (at_top ns (func_top func ∷ ts)) (in_function ms) (checked_by line b stars name qs defined body) (checked_by line (written_base n b) stars name (map (written_param embedded n) qs) defined body')
      (resolved_by line b stars name qs defined found) (resolved_by line (written_base n b) stars name (map (written_param embedded n) qs) defined found')
  by_copied func ts line b stars name qs defined ns ms body body' found found' h hs copied = placed g walk line line _ _ _ _ (λ at there.
      alike_passed g {ns = ns} {tops = Some (func_top func ∷ ts)} {tops' = Some (func_top func ∷ ts)} _ _ _ _ _ _ _ _ (types at there n b h) (base_denotes at b) (walk.types at b)
      (types_pass g.source (Some (func_top func ∷ ts)) (checked_parts.base at b) (λ w. walk.types_declare_none at b w)) (λ t _.
      alike_passed g {ns = ns} {tops = Some (func_top func ∷ ts)} {tops' = Some (func_top func ∷ ts)} _ _ _ _ _ _ _ _ (checks_alike _ _ (result_alike at there (declared_type t stars []))) (result_denotes at (declared_type t stars [])) (walk.results at (declared_type t stars []))
      (types_pass g.source (Some (func_top func ∷ ts)) (result_rule at (declared_type t stars [])) (λ w. result_types at (declared_type t stars []) w)) (λ r _.
      number_first g walk {ns = ns} func ts _ _ _ _ (λ k is.
      alike_passed g {ns = ns} {tops = Some (func_top func ∷ ts)} {tops' = Some (func_top func ∷ ts)} _ _ _ _ _ _ _ _ (ask_alike {P = Nothing} (λ w. find name w.here.names) (λ w. find name w.here.names) (λ w v alike. λ i. find name (alike.here i).names) (λ w. tt)) (ask_denotes _)
      (ask_keeps g.source (λ w. find name w.here.names)) (ask_passes g.source (Some (func_top func ∷ ts)) (λ w. find name w.here.names)) (λ before _.
      begin_first g {ns = ns} {tops = Some (func_top func ∷ ts)} at there name (function k (is_done before || defined) r None) _ _ _ _ (walk.beginnings name k (is_done before || defined) r is) (λ free.
      numbered_first g walk {ns = ns} (type_or_void r) _ _ _ _
      (alike_first g {ns = ns} _ _ _ _ _ _ _ _ (checks_alike _ _ enter_alike) enter_denotes walk.enters (λ _ _.
      regrouped_function g _ _ _ _ _ _ _ _ _ _
      (copied_chain g _ _ _ _ _ _ _ _ (block_of at there r k before free is) (λ w. leave_grows.grows w) (λ _ _.
      copied_as g (alike_last g (checks_alike _ _ leave_alike) leave_denotes walk.leaves) (λ _ _ _ _. tt)))))))))))
    where
      block_of : (at there : Place) (r : Option TyData) (k : ℕ) (before : Option EntryData) → is_reserved name ≡ false → is_among k (functions_of g.source) ≡ true
          → IsCopied g (λ x y. (y.0 ≡ x.0) × Any x.1 y.1) (in_function ns) (in_function ms)
          (check_chain (programs.params at defined qs) (λ ps. check_chain (know_function name (function k (is_done before || defined) r (Some ps))) (λ _. check_chain (demand at F10 (may_follow defined r ps before)) (λ _. body r))))
          (check_chain (programs.params there defined (map (written_param embedded n) qs)) (λ ps. check_chain (know_function name (function k (is_done before || defined) r (Some ps))) (λ _. check_chain (demand there F10 (may_follow defined r ps before)) (λ _. body' r))))
          (in_block (length qs) (chain (params at defined qs) (λ ps. chain (checks (know_function name (function k (is_done before || defined) r (Some ps)))) (λ _. chain (found r) (λ b. function_made name ps b)))))
          (in_block (length (map (written_param embedded n) qs)) (chain (params there defined (map (written_param embedded n) qs)) (λ ps. chain (checks (know_function name (function k (is_done before || defined) r (Some ps)))) (λ _. chain (found' r) (λ b. function_made name ps b)))))
      block_of at there r k before free is =
          subst (λ count. IsCopied g (λ x y. (y.0 ≡ x.0) × Any x.1 y.1) (in_function ns) (in_function ms)
          (check_chain (programs.params at defined qs) (λ ps. check_chain (know_function name (function k (is_done before || defined) r (Some ps))) (λ _. check_chain (demand at F10 (may_follow defined r ps before)) (λ _. body r))))
          (check_chain (programs.params there defined (map (written_param embedded n) qs)) (λ ps. check_chain (know_function name (function k (is_done before || defined) r (Some ps))) (λ _. check_chain (demand there F10 (may_follow defined r ps before)) (λ _. body' r))))
          (in_block (length qs) (chain (params at defined qs) (λ ps. chain (checks (know_function name (function k (is_done before || defined) r (Some ps)))) (λ _. chain (found r) (λ b. function_made name ps b)))))
          (in_block count (chain (params there defined (map (written_param embedded n) qs)) (λ ps. chain (checks (know_function name (function k (is_done before || defined) r (Some ps)))) (λ _. chain (found' r) (λ b. function_made name ps b))))))
          (sym (mapped_length (written_param embedded n) qs))
          (copied_block g (length qs) _ _ _ _
          (alike_first g _ _ _ _ _ _ _ _ (params_alike types lengths_alike embedded n at there defined qs hs) (params_denote at defined qs) (walk.parameters at defined qs) (λ ps _.
          alike_first g _ _ _ _ _ _ _ _ (checks_alike _ _ (know_alike name (function k (is_done before || defined) r (Some ps)) free)) (know_denotes name (function k (is_done before || defined) r (Some ps))) (walk.known_functions name k (is_done before || defined) r (Some ps) is) (λ _ _.
          quiet_before g _ _ _ _ (demand_quietly at there F10 (may_follow defined r ps before) (may_follow defined r ps before) (λ e. e)) (made_copied g name ps (copied r))))))

-- ---- functions

module _ (g : Whole) (walk : WalkKeeps g.source) (es : List EmbData) (embedded : ℕ → Option StmtKindData) (are : EmbeddedAreCopied g es embedded)
    (expressions : ExpressionsAreAlike) (types : TypesAreAlike) (lengths_alike : LengthsAreAlike) (plain : PlainAreAlike) (varchars : VarcharsAreAlike) where
  body_copied : (ss : StmtList) → BodyStands es (Some ss) → (r : Option TyData) (ns : List ℕ)
      → IsCopied g (SameBody g.Stands) (in_function (stmts_numbers ss ns)) (in_function ns) (programs.body_rule es r (Some ss)) (programs.body_rule [] r (Some (written_items embedded ss)))
      (body_rule es r (Some ss)) (body_rule [] r (Some (written_items embedded ss)))
  body_copied ss h r ns =
      alike_first g _ _ _ _ _ _ _ _ (checks_alike _ _ reset_alike) (changed _ (λ w. refl)) walk.new_labels (λ _ _.
      copied_then g Some Some
      (subst (λ ls. IsCopied g (λ x y. (y.0 ≡ x.0) × ((line : ℕ) → AreCopies g.Stands line x.1 y.1)) (in_function (stmts_numbers ss ns)) (in_function ns)
      (checked.statements (inside es false false (labels_in_all ss []) r) ss) (checked.statements (inside [] false false ls r) (written_items embedded ss))
      (in_block (objects_in_all ss) (statements (around_of (inside es false false (labels_in_all ss []) r)) ss)) (in_block (objects_in_all (written_items embedded ss)) (statements (around_of (inside [] false false ls r)) (written_items embedded ss))))
      (sym (items_labels g es embedded are ss h []))
      (subst (λ k. IsCopied g (λ x y. (y.0 ≡ x.0) × ((line : ℕ) → AreCopies g.Stands line x.1 y.1)) (in_function (stmts_numbers ss ns)) (in_function ns)
      (checked.statements (inside es false false (labels_in_all ss []) r) ss) (checked.statements (inside [] false false (labels_in_all ss []) r) (written_items embedded ss))
      (in_block (objects_in_all ss) (statements (around_of (inside es false false (labels_in_all ss []) r)) ss)) (in_block k (statements (around_of (inside [] false false (labels_in_all ss []) r)) (written_items embedded ss))))
      (sym (items_objects g es embedded are ss h))
      (copied_block g (objects_in_all ss) _ _ _ _ (each_line g (λ line. items_copied g walk es embedded are expressions plain varchars false false (labels_in_all ss []) r ss h line ns)))))
      (λ x y q. q))

  by_body : (f : FuncData) (body : Option StmtList) → BaseHasLengths f.base → ParamsHaveLengths f.params → BodyStands es body → (ns : List ℕ) (ts : List TopData)
      → IsCopied g Any (at_top (body_numbers body ns) (func_top f ∷ ts)) (in_function ns)
      (checked_by f.line f.base f.stars f.name f.params (is_some body) (λ r. programs.body_rule es r body))
      (checked_by f.line (written_base f.line.0 f.base) f.stars f.name (map (written_param embedded f.line.0) f.params) (is_some (written_body embedded body)) (λ r. programs.body_rule [] r (written_body embedded body)))
      (resolved_by f.line f.base f.stars f.name f.params (is_some body) (λ r. body_rule es r body))
      (resolved_by f.line (written_base f.line.0 f.base) f.stars f.name (map (written_param embedded f.line.0) f.params) (is_some (written_body embedded body)) (λ r. body_rule [] r (written_body embedded body)))
  by_body f None h hs hb ns ts = by_copied g walk embedded types lengths_alike f.line.0 f ts f.line f.base f.stars f.name f.params false ns ns _ _ _ _ h hs (λ r. pure_copied g None None tt)
  by_body f (Some ss) h hs hb ns ts = by_copied g walk embedded types lengths_alike f.line.0 f ts f.line f.base f.stars f.name f.params true (stmts_numbers ss ns) ns _ _ _ _ h hs (λ r. body_copied ss hb r ns)

  pub function_copied : (f : FuncData) → BaseHasLengths f.base → ParamsHaveLengths f.params → BodyStands es f.body → (ns : List ℕ) (ts : List TopData)
      → IsCopied g Any (at_top (body_numbers f.body ns) (func_top f ∷ ts)) (at_top ns ts) (programs.function_rule es f) (programs.function_rule [] (written_func embedded f)) (function_rule es f) (function_rule [] (written_func embedded f))
  function_copied f h hs hb ns ts =
      passed_behind g {ns = body_numbers f.body ns} {ms = ns} {tops = Some (func_top f ∷ ts)} {tops' = Some ts} {c = programs.function_rule es f}
      (λ w before. walk.items_are_passed g.source es (func_top f) ts w before) (by_body f f.body h hs hb ns ts)
