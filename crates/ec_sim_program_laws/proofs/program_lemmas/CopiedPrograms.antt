-- Programs are copied wherever their functions and declarations are.
use Rattle.std.proofs.Common.{◌≡◌, ◌∙◌, ℕ, zero, suc, ◌+◌, Bool, true, false, ◌&&◌, ◌||◌, List, [], ◌∷◌, ◌++◌, map, Option, Some, None, refl, sym, subst, append_assoc, arith}
use Rattle.std.proofs.lemmas.Bool.{false≢true}
use Rattle.std.specs.Prelude.{is_some, codes, if◌then◌else◌}
use Rattle.ec_base.specs.declared.fault.FaultKind.TheVariants.{F20}
use Rattle.ec_ctypes.specs.trees.Embedded.{EmbData}
use Rattle.ec_ctypes.specs.trees.Exprs.{BaseData, words, varchar, tagged, struct_base, declarator, DeclaratorList, no_declarators, declarators, DeclData, decl}
use Rattle.ec_ctypes.specs.trees.Stmts.{StmtKindData, StmtList}
use Rattle.ec_ctypes.specs.trees.Units.{ParamData, FuncData, TopData, include_top, directive_top, decl_top, func_top, mark_top, UnitData}
use Rattle.ec_language.specs.Letters.{same_text}
use Rattle.ec_language.specs.Productions.{line_of}
use Rattle.ec_written_laws.specs.bound.Numbers.{tops_numbers}
use Rattle.ec_expansion_defs.specs.Declarations.{written_base, written_declarators, varchar_objects, written_decl}
use Rattle.ec_expansion_defs.specs.Statements.{written_body, written_param, written_func, written_tops}
use Rattle.ec_typing_defs.specs.Tables.{Named, put}
use Rattle.ec_typing_defs.specs.Answers.{violations}
use Rattle.ec_typing_defs.specs.Answers as answers
use Rattle.ec_typing_defs.specs.Programs as programs
use Rattle.ec_typing_defs.specs.Programs.{with_defined, defined_in, is_int, has_no_params, is_main, has_main, main_rule, known_structs, start}
use Rattle.ec_typing_defs.specs.Statements as checked
use Rattle.ec_typing_defs.specs.Worlds.{Place, place, StructInfo, World, Out, out, Rule, chain as check_chain, pure as check_pure, note, demand}
use Rattle.ec_meaning_defs.specs.resolved.Resolved.{Stm}
use Rattle.ec_resolving_defs.specs.Operands.{place_in}
use Rattle.ec_resolving_defs.specs.Programs.{directive_rule, tops_rule, globals_in, no_storage, program_by, walked, resolved_by, resolve}
use Rattle.ec_resolving_defs.specs.Statements.{declarators_in, declaration}
use Rattle.ec_resolving_defs.specs.Storage.{Storage, Resolving, chain, pure, checks}
use Rattle.ec_sim_statement_laws.specs.statement.Copies.{IsProgramCopy}
use Rattle.ec_sim_statement_laws.specs.expression.Worlds.{SameStructs, AreAlike}
use Rattle.ec_sim_statement_laws.specs.expression.Alike.{SameStorage}
use Rattle.ec_sim_statement_laws.specs.expression.Laws.{ExpressionsAreAlike, TypesAreAlike, LengthsAreAlike}
use Rattle.ec_sim_statement_laws.specs.expression.Known.{same_struct}
use Rattle.ec_sim_statement_laws.specs.expression.Lengths.{DeclHasLengths}
use Rattle.ec_sim_statement_laws.specs.expression.Rules.{some_found, none_before, none_behind}
use Rattle.ec_sim_world_laws.specs.growth.Growth.{Grows}
use Rattle.ec_sim_world_laws.proofs.growth_lemmas.Rules.{Growing, chained as chained_grow, place_grows, demand_grows}
use Rattle.ec_sim_world_laws.proofs.growth_lemmas.Programs.{tops_grow}
use Rattle.ec_sim_world_laws.specs.known.Laws.{WalkKeeps}
use Rattle.ec_sim_program_laws.specs.program.Copied.{Whole, Ahead, at_top, FindCopies, IsCopied, Any}
use Rattle.ec_sim_program_laws.specs.program.Declared.{declarations, checked_declarations, PlainAreAlike, VarcharsAreAlike, DeclarationsAreAlike}
use Rattle.ec_sim_program_laws.specs.program.Embedded.{EmbeddedAreCopied}
use Rattle.ec_sim_program_laws.specs.program.Programs.{written_of, whole_of, IsWrittenCopy}
use Rattle.ec_sim_program_laws.specs.program.Shape.{IsDirective, TopsStand}
use Rattle.ec_sim_program_laws.proofs.program_lemmas.Copying.{begins_itself, copied_chain, alike_passed, copied_as, pure_copied, placed_here, grouped_here, answered_here, checked_grouped_here, checked_answer_here, gone_first, passed_before}
use Rattle.ec_sim_program_laws.proofs.program_lemmas.CopiedFunctions.{function_copied}
use Rattle.ec_sim_program_laws.proofs.program_lemmas.DenotingStatements.{declaration_denotes}

-- ---- what is known of a program before it is walked through

zero_more : (n : ℕ) → 0 + n ≡ n
zero_more n = omega (arith)

one_more : (m n : ℕ) → 1 + (m + n) ≡ suc m + n
one_more m n = omega (arith)

module _ (embedded : ℕ → Option StmtKindData) where
  body_same : (b : Option StmtList) → is_some (written_body embedded b) ≡ is_some b
  body_same None = refl
  body_same (Some ss) = refl

  -- the functions that are defined
  declared_defined : (ds : List DeclData) (rest : List TopData) (es : Named (Unit {0})) → defined_in (map decl_top ds ++ rest) es ≡ defined_in rest es
  declared_defined [] rest es = refl
  declared_defined (d ∷ ds) rest es = declared_defined ds rest es

  defined_same : (ts : List TopData) (es : Named (Unit {0})) → defined_in (written_tops embedded ts) es ≡ defined_in ts es
  defined_same [] es = refl
  defined_same (include_top bytes ∷ ts) es = defined_same ts es
  defined_same (directive_top n ∷ ts) es = defined_same ts es
  defined_same (decl_top d ∷ ts) es = declared_defined (written_decl (line_of d).0 d) (written_tops embedded ts) es ∙ defined_same ts es
  defined_same (func_top f ∷ ts) es =
      (λ i. defined_in (written_tops embedded ts) (if body_same f.body i then put f.name tt es else es)) ∙ defined_same ts (with_defined (func_top f) es)
  defined_same (mark_top opens line ∷ ts) es = defined_same ts es

  -- how many globals there are
  declarators_same : (n : ℕ) (ds : DeclaratorList) → declarators_in (written_declarators n ds) ≡ declarators_in ds
  declarators_same n no_declarators = refl
  declarators_same n (declarators d ds) = λ i. suc (declarators_same n ds i)

  varchars_global : (n : ℕ) (ds : DeclaratorList) (rest : List TopData) → globals_in (map decl_top (varchar_objects n ds) ++ rest) ≡ declarators_in ds + globals_in rest
  varchars_global n no_declarators rest = sym (zero_more (globals_in rest))
  varchars_global n (declarators (declarator stars name ns init) ds) rest = (λ i. 1 + varchars_global n ds rest i) ∙ one_more (declarators_in ds) (globals_in rest)

  declared_global : (n : ℕ) (d : DeclData) (rest : List TopData) → globals_in (map decl_top (written_decl n d) ++ rest) ≡ globals_in (decl_top d ∷ rest)
  declared_global n (decl varchar ds section l) rest = varchars_global n ds rest
  declared_global n (decl (words ws) ds section l) rest = λ i. declarators_same n ds i + globals_in rest
  declared_global n (decl (tagged tag) ds section l) rest = λ i. declarators_same n ds i + globals_in rest
  declared_global n (decl (struct_base tag ms) ds section l) rest = λ i. declarators_same n ds i + globals_in rest

  behind_global : (d : DeclData) (us ts : List TopData) → globals_in us ≡ globals_in ts → globals_in (decl_top d ∷ us) ≡ globals_in (decl_top d ∷ ts)
  behind_global (decl b ds section l) us ts e = λ i. declarators_in ds + e i

  globals_same : (ts : List TopData) → globals_in (written_tops embedded ts) ≡ globals_in ts
  globals_same [] = refl
  globals_same (include_top bytes ∷ ts) = globals_same ts
  globals_same (directive_top n ∷ ts) = globals_same ts
  globals_same (decl_top d ∷ ts) = declared_global (line_of d).0 d (written_tops embedded ts) ∙ behind_global d (written_tops embedded ts) ts (globals_same ts)
  globals_same (func_top f ∷ ts) = globals_same ts
  globals_same (mark_top opens line ∷ ts) = globals_same ts

  -- the definition of `main`
  int_same : (n : ℕ) (b : BaseData) (stars : ℕ) → is_int (written_base n b) stars ≡ is_int b stars
  int_same n (words ws) zero = refl
  int_same n (words ws) (suc k) = refl
  int_same n varchar stars = refl
  int_same n (tagged tag) stars = refl
  int_same n (struct_base tag ms) stars = refl

  params_same : (n : ℕ) (ps : List ParamData) → has_no_params (map (written_param embedded n) ps) ≡ has_no_params ps
  params_same n [] = refl
  params_same n (p ∷ ps) = refl

  is_main_same : (f : FuncData) → is_main (written_func embedded f) ≡ is_main f
  is_main_same f = λ i. same_text f.name (codes "main") && body_same f.body i && int_same f.line.0 f.base f.stars i && params_same f.line.0 f.params i

  declared_main : (ds : List DeclData) (rest : List TopData) → has_main (map decl_top ds ++ rest) ≡ has_main rest
  declared_main [] rest = refl
  declared_main (d ∷ ds) rest = declared_main ds rest

  main_same : (ts : List TopData) → has_main (written_tops embedded ts) ≡ has_main ts
  main_same [] = refl
  main_same (include_top bytes ∷ ts) = main_same ts
  main_same (directive_top n ∷ ts) = main_same ts
  main_same (decl_top d ∷ ts) = declared_main (written_decl (line_of d).0 d) (written_tops embedded ts) ∙ main_same ts
  main_same (func_top f ∷ ts) = λ i. is_main_same f i || main_same ts i
  main_same (mark_top opens line ∷ ts) = main_same ts

structs_same : (ss : List StructInfo) → SameStructs ss ss
structs_same [] = tt
structs_same (s ∷ ss) = (same_struct s, structs_same ss)

-- ---- declarations outside of functions, one after the other

tops_checked : (ds : List DeclData) (us : List TopData) (v : World)
    → programs.tops_rule [] (map decl_top ds ++ us) v ≡ check_chain (checked_declarations true ds) (λ _. programs.tops_rule [] us) v
unfolding check_chain check_pure
tops_checked [] us v = refl
tops_checked (d ∷ ds) us v =
    let o = checked.declaration true d v in
    let p = checked_declarations true ds o.world in
    let q = programs.tops_rule [] us p.world in
    (λ i. out (tops_checked ds us o.world i).answer (o.found ++ (tops_checked ds us o.world i).found) (tops_checked ds us o.world i).world)
    ∙ (λ i. out q.answer (sym (append_assoc o.found p.found q.found) i) q.world)

tops_resolved : (ds : List DeclData) (us : List TopData) (t : Storage) (v : World)
    → tops_rule [] (map decl_top ds ++ us) t v ≡ chain (declarations true ds) (λ _. tops_rule [] us) t v
unfolding chain pure
tops_resolved [] us t v = refl
tops_resolved (d ∷ ds) us t v = tops_resolved ds us (declaration true d t v).storage (declaration true d t v).world

-- what is written, in another form
same_there : (g : Whole) {A B : Type 0} {IsLike : A → B → Type 0} {ns ms : Ahead} {c d d' : Rule (Unit {0})} {m : Resolving A} {n n' : Resolving B}
    → ((v : World) → d' v ≡ d v) → ((t : Storage) (v : World) → n' t v ≡ n t v) → IsCopied g IsLike ns ms c d m n → IsCopied g IsLike ns ms c d' m n'
same_there g {IsLike = R} {ns} {ms} {c} {d} {d'} {m} {n} {n'} e f p =
    subst (λ k. IsCopied g R ns ms c d' m k) (λ i. λ t v. sym (f t v) i) (subst (λ k. IsCopied g R ns ms c k m n) (λ i. λ v. sym (e v) i) p)

-- ---- the items of a program

module _ (g : Whole) (walk : WalkKeeps g.source) (es : List EmbData) (embedded : ℕ → Option StmtKindData) (are : EmbeddedAreCopied g es embedded)
    (expressions : ExpressionsAreAlike) (types : TypesAreAlike) (lengths_alike : LengthsAreAlike) (plain : PlainAreAlike) (varchars : VarcharsAreAlike) (declared : DeclarationsAreAlike) where
  -- a directive
  directive_copied : (n : ℕ) → IsDirective es n → (ts : List TopData) {ms : List ℕ} {ls : Ahead} {d : Rule (Unit {0})} {m : Resolving (Unit {0})}
      → IsCopied g Any (at_top ms ts) ls (programs.tops_rule es ts) d (tops_rule es ts) m
      → IsCopied g Any (at_top (n ∷ ms) (directive_top n ∷ ts)) ls (programs.tops_rule es (directive_top n ∷ ts)) d (tops_rule es (directive_top n ∷ ts)) m
  directive_copied n h ts {ms} {ls} {d} {m} rest =
      passed_before g {ns = n ∷ ms} {tops = Some (directive_top n ∷ ts)} {tops' = Some ts} (λ w h. h)
      (subst (λ o. IsCopied g Any (at_top (n ∷ ms) ts) ls (check_chain (programs.directive_rule es n o) (λ _. programs.tops_rule es ts)) d (chain (directive_rule es n o) (λ _. tops_rule es ts)) m)
      (sym h.is)
      (checked_grouped_here g (place h.emb.line) _ _ (grouped_here g (checks (place h.emb.line)) _ _ (placed_here g walk h.emb.line _ _ (λ at.
      gone_first g _ _ _ _ ((are.directives n h.emb h.is h.directive).gone false false [] at ms (Some ts)) (λ w. (tops_grow es ts).grows w) rest)))))

  declared_copied : (n : ℕ) (d : DeclData) → DeclHasLengths d → (ts us : List TopData) {ms : List ℕ} {ls : Ahead}
      → IsCopied g Any (at_top ms ts) ls (programs.tops_rule es ts) (programs.tops_rule [] us) (tops_rule es ts) (tops_rule [] us)
      → IsCopied g Any (at_top ms (decl_top d ∷ ts)) ls (programs.tops_rule es (decl_top d ∷ ts)) (programs.tops_rule [] (map decl_top (written_decl n d) ++ us)) (tops_rule es (decl_top d ∷ ts)) (tops_rule [] (map decl_top (written_decl n d) ++ us))
  declared_copied n d h ts us {ms} rest =
      same_there g (λ v. tops_checked (written_decl n d) us v) (λ t v. tops_resolved (written_decl n d) us t v)
      (grouped_here g (declaration true d) _ _
      (alike_passed g {ns = ms} {tops = Some (decl_top d ∷ ts)} {tops' = Some ts} _ _ _ _ _ _ _ _ (declared true n d h) (declaration_denotes true d) (walk.declarations true d)
      (λ w before. walk.items_are_passed g.source es (decl_top d) ts w before) (λ xs _. answered_here g tt _ rest)))

  pub tops_copied : (ts : List TopData) → TopsStand es ts → (ns : List ℕ)
      → IsCopied g Any (at_top (tops_numbers ts ns) ts) (at_top ns []) (programs.tops_rule es ts) (programs.tops_rule [] (written_tops embedded ts)) (tops_rule es ts) (tops_rule [] (written_tops embedded ts))
  tops_copied [] h ns = pure_copied g tt tt tt
  tops_copied (include_top bytes ∷ ts) h ns =
      passed_before g {ns = tops_numbers ts ns} {tops = Some (include_top bytes ∷ ts)} {tops' = Some ts} (λ w h. h)
      (copied_chain g {IsLike = Any} _ _ _ _ _ _ _ _ (pure_copied g tt tt tt) (λ w. (tops_grow es ts).grows w) (λ _ _. copied_as g (tops_copied ts h.1 ns) (λ _ _ _ _. tt)))
  tops_copied (directive_top n ∷ ts) h ns = directive_copied n h.0 ts (tops_copied ts h.1 ns)
  tops_copied (decl_top d ∷ ts) h ns = declared_copied (line_of d).0 d h.0 ts (written_tops embedded ts) (tops_copied ts h.1 ns)
  tops_copied (func_top f ∷ ts) h ns =
      copied_chain g {IsLike = Any} _ _ _ _ _ _ _ _ (function_copied g walk es embedded are expressions types lengths_alike plain varchars f h.0.0 h.0.1 h.0.2 (tops_numbers ts ns) ts)
      (λ w. (tops_grow es ts).grows w) (λ _ _. copied_as g (tops_copied ts h.1 ns) (λ _ _ _ _. tt))
  tops_copied (mark_top opens line ∷ ts) h ns =
      passed_before g {ns = tops_numbers ts ns} {tops = Some (mark_top opens line ∷ ts)} {tops' = Some ts} (λ w h. h)
      (checked_answer_here g tt _ (answered_here g tt _ (tops_copied ts h.1 ns)))

-- ---- programs

-- the end of a program is its place, where `main` is looked for
end_grows : (u : UnitData) → Growing (check_chain (place u.last) (main_rule u.tops))
unfolding main_rule
end_grows u = chained_grow (place_grows u.last) (λ at. demand_grows at F20 (has_main u.tops))

main_found : (at : Place) (has : Bool) (w : World) → (demand at F20 has w).found ≡ [] → has ≡ true
unfolding demand note
main_found at true w e = refl
main_found at false w e = absurd (some_found e)

same_world : (at : Place) (has : Bool) (w : World) → (demand at F20 has w).world ≡ w
unfolding demand note check_pure
same_world at true w = refl
same_world at false w = refl

found_main : (at : Place) (has : Bool) (w : World) → has ≡ true → (demand at F20 has w).found ≡ []
unfolding demand note check_pure
found_main at true w e = refl
found_main at false w e = absurd (false≢true e)

module _ (stands : ℕ → ℕ → Stm → Type 0) (embedded : ℕ → Option StmtKindData) (u : UnitData) (stand : TopsStand u.embs u.tops) (none : violations false u ≡ [])
    (walk : WalkKeeps u) (are : EmbeddedAreCopied (whole_of stands u (written_of embedded u)) u.embs embedded)
    (expressions : ExpressionsAreAlike) (types : TypesAreAlike) (lengths_alike : LengthsAreAlike) (plain : PlainAreAlike) (varchars : VarcharsAreAlike) (declared : DeclarationsAreAlike) where
  abbrev v : UnitData
  v = written_of embedded u

  abbrev source : Out (Unit {0})
  source = programs.tops_rule u.embs u.tops (start false u)

  abbrev written : Out (Unit {0})
  written = programs.tops_rule [] v.tops (start true v)

  abbrev at_end : UnitData → World → Place
  at_end q w = record { number = w.places; line = q.last }

  abbrev passed : World → World
  passed w = record w { places = w.places + 1 }

  -- the violations of the items, and of the end
  parts : (b : Bool) (q : UnitData) → violations b q
      ≡ (programs.tops_rule q.embs q.tops (start b q)).found ++ (demand (at_end q (programs.tops_rule q.embs q.tops (start b q)).world) F20 (has_main q.tops) (passed (programs.tops_rule q.embs q.tops (start b q)).world)).found
  unfolding check_chain place main_rule
  parts b q = refl

  tops_none : source.found ≡ []
  tops_none = none_before source.found _ (sym (parts false u) ∙ none)

  has : has_main u.tops ≡ true
  has = main_found (at_end u source.world) (has_main u.tops) (passed source.world) (none_behind source.found _ (sym (parts false u) ∙ none))

  end_is : (answers.checked false u).world ≡ (check_chain (place u.last) (main_rule u.tops) source.world).world
  unfolding check_chain
  end_is = refl

  starts : AreAlike (start false u) (start true v)
  starts = record {
    is_source = refl;
    is_written = refl;
    here = refl;
    outer = refl;
    structs = structs_same (start false u).structs;
    closed = refl;
    types = refl;
    defined = defined_same embedded u.tops [];
    labels = refl;
    reserved_here = λ x e. refl;
    reserved_outer = tt;
  }

  stored : SameStorage (no_storage u) (no_storage v)
  stored = record {
    defined = defined_same embedded u.tops [];
    before_literals = λ i. globals_same embedded u.tops i + 1;
    sites = refl;
    globals = refl;
    literals = refl;
    block = refl;
  }

  found : FindCopies (whole_of stands u v) Any (at_top [] []) (no_storage u) (no_storage v) source written (walked false u) (walked true v)
  found = (tops_copied (whole_of stands u v) walk u.embs embedded are expressions types lengths_alike plain varchars declared u.tops stand []).finds
      (no_storage u) (no_storage v) (start false u) (start true v) stored starts (record { in_order = refl; denoted = refl; known = walk.start; found = tt; position = walk.starts_before_all false u }) tops_none
      (subst (λ z. Grows source.world z) (sym end_is) ((end_grows u).grows source.world))

  no_fault : violations true v ≡ []
  no_fault = parts true v ∙ (λ i. found.without_fault i ++ found_main (at_end v written.world) (has_main v.tops) (passed written.world) (main_same embedded u.tops ∙ has) i)

  copy : IsProgramCopy stands (program_by (walked false u).storage) (program_by (walked true v).storage)
  copy = record {
    globals = found.storages.globals;
    literals = found.storages.literals;
    functions = found.functions (begins_itself _) (begins_itself _) tt;
    main = λ i. place_in (codes "main") (found.storages.defined i);
  }

  -- no struct is made at the end
  structs_before : (b : Bool) (q : UnitData) → (programs.tops_rule q.embs q.tops (start b q)).world.structs ≡ (answers.checked b q).world.structs
  unfolding check_chain place main_rule
  structs_before b q =
      let w = (programs.tops_rule q.embs q.tops (start b q)).world in
      sym (λ i. (same_world (at_end q w) (has_main q.tops) (passed w) i).structs)

  structs_alike : SameStructs (answers.checked false u).world.structs (answers.checked true v).world.structs
  structs_alike =
      subst (λ ss. SameStructs ss (answers.checked true v).world.structs) ((λ i. (found.checked_world i).structs) ∙ structs_before false u)
      (subst (λ ss. SameStructs (walked false u).world.structs ss) ((λ i. (found.checked_world_there i).structs) ∙ structs_before true v) found.worlds.structs)

  pub program_copied : IsWrittenCopy stands u v
  program_copied = record {
    without_fault = no_fault;
    structs = structs_alike;
    found = record { in_order = found.to_come.in_order; found = found.to_come.found };
    copy = subst (λ vs. IsProgramCopy stands (resolved_by vs (program_by (walked false u).storage)) (resolve true v)) (sym none)
        (subst (λ vs. IsProgramCopy stands (program_by (walked false u).storage) (resolved_by vs (program_by (walked true v).storage))) (sym no_fault) copy);
  }
