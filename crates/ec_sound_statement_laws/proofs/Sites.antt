-- Each object that is declared has its place among those in scope, and keeps it while its name is in scope.
use Rattle.std.proofs.Common.{◌≡◌, ◌∙◌, ◌≤◌, ℕ, suc, ◌+◌, Bool, true, false, not, List, [], ◌∷◌, ◌++◌, length, refl, sym, ap, subst, Option, Some, None, slice_get, arith}
use Rattle.ec_base.specs.declared.fault.FaultKind.TheVariants.{F14}
use Rattle.ec_ctypes.specs.trees.Types.{TyData}
use Rattle.ec_ctypes.specs.trees.Exprs.{ExprData, call, BaseData, words, varchar, tagged, struct_base, DimList, InitOption, no_init, some_init, DeclaratorData, declarator, DeclaratorList, no_declarators, declarators, DeclData, decl}
use Rattle.ec_ctypes.specs.trees.Stmts.{StmtData, stmt, StmtKindData, empty_stmt, expr_stmt, block_stmt, if_stmt, while_stmt, do_stmt, for_stmt, break_stmt, continue_stmt, return_stmt, goto_stmt, label_stmt, decl_stmt, emb_stmt, mark_stmt, StmtList, no_stmts, stmts as stmt_list, StmtOption, no_stmt, some_stmt}
use Rattle.ec_ctypes.specs.trees.Embedded.{ActionData, continue_action, goto_action, print_action, stop_action, break_action, next_action, call_action, EmbData}
use Rattle.ec_ctypes.specs.trees.Units.{ParamData}
use Rattle.ec_ctypes.specs.declared.embedded.emb.Cond.TheVariants.{NotFound, Warning, Error}
use Rattle.ec_language.specs.Letters.{Text, same_text}
use Rattle.ec_language.proofs.Marks.{same_text_is}
use Rattle.ec_typing_defs.specs.Expressions.{has_init, is_varchar}
use Rattle.ec_typing_defs.specs.Tables.{Named, find, put}
use Rattle.ec_typing_defs.specs.Worlds.{Place, EntryData, object, function, ScopeData, World, Rule, next_number, number_as, with_name, declare, know_better, entered, enter, leave, change as check_change}
use Rattle.ec_typing_defs.specs.Statements.{type_or_void}
use Rattle.ec_typing_defs.specs.Programs.{declare_param}
use Rattle.ec_typing_defs.specs.statement_parts.Handlers.{is_directive, handler}
use Rattle.ec_typing_defs.specs.statement_parts.References.{References, references}
use Rattle.ec_meaning_defs.specs.observed.Run.{IsFront}
use Rattle.ec_resolving_defs.specs.Agreement.{Finds}
use Rattle.ec_resolving_defs.specs.Storage.{Site, numbered, slotted, nowhere, next_site, with_site, no_actions, StatementForm, with_statement, Storage, Resolving, chain, pure, checks, ask, stored, arrange, in_block, inside_block}
use Rattle.ec_resolving_defs.specs.Embedded.{reference_rule, references_rule, action_rule, actions_rule, handlers_rule, embedded_rule}
use Rattle.ec_resolving_defs.specs.Expressions.{expr, base, lengths}
use Rattle.ec_resolving_defs.specs.Initializers.{PartData}
use Rattle.ec_resolving_defs.specs.Operands.{no_expression, value_rule}
use Rattle.ec_resolving_defs.specs.Programs.{param, params}
use Rattle.ec_resolving_defs.specs.Statements.{Around, size_of_type, object_made, initial, object_type, object_item, object_items, specifier, declaration, scoped, condition, alone, optional, optional_condition, return_by, embedded_at, statement, statement_kind, statements, otherwise, declarators_in, objects_of_decl, objects_in, objects_in_kind, objects_in_all, objects_in_option}
use Rattle.ec_resolving_defs.proofs.Agreeing.{expr_finds, base_finds, lengths_find, last_length_finds, outer_lengths_find, value_finds}
use Rattle.ec_resolving_defs.proofs.AgreeingPrograms.{initializer_finds}
use Rattle.ec_sim_world_laws.proofs.growth_lemmas.Rules.{demand_same, begins_joined}
use Rattle.ec_sim_world_laws.proofs.closing_lemmas.Lists.{get_front, get_last, some_is}
use Rattle.ec_sim_world_laws.proofs.known_lemmas.EntriesTables.{put_twice}
use Rattle.ec_sim_world_laws.proofs.known_lemmas.NamesRules.{NamesStay, stay_so, stay_further, Staying, place_stays, label_stays}
use Rattle.ec_sim_world_laws.proofs.known_lemmas.NamesExpressions.{expr_stays, base_stays, lengths_stay, last_stays, outer_stay, varchar_object_stays}
use Rattle.ec_sim_world_laws.proofs.known_lemmas.NamesOperands.{value_stays}
use Rattle.ec_sim_world_laws.proofs.known_lemmas.NamesInitializers.{initializer_stays}
use Rattle.ec_sim_world_laws.proofs.known_lemmas.NamesEmbedded.{denote_stays}
use Rattle.ec_sim_world_laws.proofs.known_lemmas.NamesStatements as checked_names
use Rattle.ec_sim_world_laws.proofs.known_lemmas.SitesRules as counting
use Rattle.ec_sim_world_laws.proofs.known_lemmas.SitesRules.{Leads, then_leads, stands_lead, counts_one, counts_same}
use Rattle.ec_sim_world_laws.proofs.known_lemmas.SitesChecks.{declare_still, better_still, declare_param_still, enter_still, leave_still}
use Rattle.ec_sound_defs.specs.Sound.{Signature}
use Rattle.ec_sound_form_laws.specs.Names.{SiteStands, EntryStands}
use Rattle.ec_sound_statement_laws.specs.Objects.{Spares, Makes}
use Rattle.ec_sound_statement_laws.specs.Sites.{NamesStand, ScopesStand, in_scope, Room, Stands}
use Rattle.ec_sound_statement_laws.proofs.Sparing as sparing
use Rattle.ec_sound_statement_laws.proofs.Sparing.{expr_spares, base_spares, lengths_spare, last_spares, outer_spare, initializer_spares, checks_spare, ask_spares, pure_spares, stored_spares}
use Rattle.ec_sound_statement_laws.proofs.Making as making
use Rattle.ec_sound_statement_laws.proofs.Making.{spared, next_count, object_rest, rest_makes, param_rest, param_rest_makes, none_more, one_more, both_more, scoped_makes}
use Rattle.ec_sound_statement_laws.proofs.Scopes.{left_here, left_outer}
use Rattle.ec_sound_statement_laws.proofs.Names.{declared_world, find_put_same, find_put_other}

-- ---- what leaves names, sites and objects as they are

pub record Quiet {A : Type 0} (m : Resolving A) : Type 0 where
  pub spares : Spares m
  pub names : (s : Storage) (w : World) → NamesStay w (m s w).world

quiet_chained : {A B : Type 0} {m : Resolving A} {f : A → Resolving B} → Quiet m → ((a : A) → Quiet (f a)) → Quiet (chain m f)
unfolding chain
quiet_chained {m = m} {f = f} h k = record {
  spares = sparing.chained h.spares (λ a. (k a).spares);
  names = λ s w. stay_further w (m s w).world (f (m s w).answer (m s w).storage (m s w).world).world (h.names s w) ((k (m s w).answer).names (m s w).storage (m s w).world);
}

pub quiet_pure : {A : Type 0} (a : A) → Quiet (pure a)
unfolding pure
quiet_pure a = record { spares = pure_spares a; names = λ s w. stay_so w }

quiet_ask : {A : Type 0} (g : World → A) → Quiet (ask g)
unfolding ask
quiet_ask g = record { spares = ask_spares g; names = λ s w. stay_so w }

pub quiet_checks : {A : Type 0} {m : Rule A} → Staying m → Quiet (checks m)
unfolding checks
quiet_checks {m = m} h = record { spares = checks_spare m; names = λ s w. h.stays w }

-- by what the checks find
quiet_found : {A B : Type 0} {seen : A → B} {m : Resolving A} {n : Rule B} → Spares m → Finds seen m n → Staying n → Quiet m
quiet_found {m = m} {n = n} p f h = record { spares = p; names = λ s w. subst (λ z. NamesStay w z) (sym (f.world s w)) (h.stays w) }

pub quiet_expr : (at : Place) (e : ExprData) → Quiet (expr at e)
quiet_expr at e = quiet_found (expr_spares at e) (expr_finds at e) (expr_stays at e)

pub quiet_base : (at : Place) (b : BaseData) → Quiet (base at b)
quiet_base at b = quiet_found (base_spares at b) (base_finds at b) (base_stays at b)

pub quiet_lengths : (at : Place) (ds : DimList) → Quiet (lengths at ds)
quiet_lengths at ds = quiet_found (lengths_spare at ds) (lengths_find at ds) (lengths_stay at ds)

pub quiet_valued : (at : Place) (e : ExprData) → Quiet (chain (expr at e) (value_rule at))
quiet_valued at e = quiet_chained (quiet_expr at e) (λ f. quiet_found (sparing.form_spares _ _) (value_finds at f) (value_stays at f.operand))

pub quiet_alone : (at : Place) (e : ExprData) → Quiet (alone at e)
quiet_alone at e = quiet_chained (quiet_expr at e) (λ f. quiet_ask _)

pub quiet_condition : (at : Place) (e : ExprData) → Quiet (condition at e)
quiet_condition at e = quiet_chained (quiet_valued at e) (λ f. quiet_pure _)

pub quiet_optional : (at : Place) (e : Option ExprData) → Quiet (optional at e)
quiet_optional at None = quiet_pure _
quiet_optional at (Some e) = quiet_chained (quiet_alone at e) (λ x. quiet_pure _)

pub quiet_optional_condition : (at : Place) (e : Option ExprData) → Quiet (optional_condition at e)
quiet_optional_condition at None = quiet_pure _
quiet_optional_condition at (Some e) = quiet_chained (quiet_condition at e) (λ x. quiet_pure _)

pub quiet_return : (at : Place) (r : Option TyData) (e : Option ExprData) → Quiet (return_by at r e)
quiet_return at r None = quiet_pure _
quiet_return at r (Some e) = quiet_chained (quiet_valued at e) (λ f. quiet_pure _)

pub quiet_initial : (at : Place) (global : Bool) (t : Option TyData) (i : InitOption) → Quiet (initial at global t i)
quiet_initial at global t no_init = quiet_pure _
quiet_initial at global t (some_init i) = quiet_found (initializer_spares at global t i) (initializer_finds at global t i) (initializer_stays at global t i)

pub quiet_type : (at : Place) (v : Bool) (t : Option TyData) (stars : ℕ) (name : Text) (ns : DimList) → Quiet (object_type at v t stars name ns)
quiet_type at false t stars name ns = quiet_chained (quiet_lengths at ns) (λ sizes. quiet_pure _)
quiet_type at true t stars name ns =
    quiet_chained (quiet_found (last_spares at ns) (last_length_finds at ns) (last_stays at ns)) (λ n. quiet_chained (quiet_checks (varchar_object_stays at name n)) (λ own.
    quiet_chained (quiet_found (outer_spare at ns) (outer_lengths_find at ns) (outer_stay at ns)) (λ sizes. quiet_pure _)))

pub quiet_specifier : (at : Place) (b : BaseData) (ds : DeclaratorList) → Quiet (specifier at b ds)
quiet_specifier at (tagged tag) no_declarators = quiet_checks (checked_names.specifier_stays at (tagged tag) no_declarators)
quiet_specifier at (tagged tag) (declarators d ds) = quiet_base at (tagged tag)
quiet_specifier at (words ws) ds = quiet_base at (words ws)
quiet_specifier at varchar ds = quiet_base at varchar
quiet_specifier at (struct_base t ms) ds = quiet_base at (struct_base t ms)

-- ---- embedded statements

quiet_reference : (at : Place) (e : ExprData) → Quiet (reference_rule at e)
quiet_reference at e = quiet_chained (quiet_ask _) (λ alone. by_name alone)
  where
    by_name : (b : Bool) → Quiet (elim b [ true ↦ pure no_expression | false ↦ expr at e ])
    by_name true = quiet_pure _
    by_name false = quiet_expr at e

quiet_references : (at : Place) (rs : References) → Quiet (references_rule at rs)
quiet_references at [] = quiet_pure _
quiet_references at (r ∷ rs) = quiet_chained (quiet_reference at r.value) (λ f. quiet_chained (quiet_references at rs) (λ more. quiet_pure _))

quiet_action : (labels : Named (Unit {0})) (at : Place) (a : Option ActionData) → Quiet (action_rule labels at a)
quiet_action labels at None = quiet_pure _
quiet_action labels at (Some continue_action) = quiet_pure _
quiet_action labels at (Some (goto_action l)) = quiet_pure _
quiet_action labels at (Some print_action) = quiet_pure _
quiet_action labels at (Some stop_action) = quiet_pure _
quiet_action labels at (Some break_action) = quiet_pure _
quiet_action labels at (Some next_action) = quiet_pure _
quiet_action labels at (Some (call_action f es)) = quiet_chained (quiet_alone at (call f es)) (λ e. quiet_pure _)

quiet_handlers : (es : List EmbData) (labels : Named (Unit {0})) (at : Place) (e : EmbData) → Quiet (handlers_rule es labels at e)
quiet_handlers es labels at e = by_directive (is_directive e)
  where
    by_directive : (b : Bool) → Quiet (elim b [ true ↦ pure no_actions | false ↦ actions_rule es labels at e ])
    by_directive true = quiet_pure _
    by_directive false = quiet_chained (quiet_action labels at (handler es e.place NotFound)) (λ a. quiet_chained (quiet_action labels at (handler es e.place Warning)) (λ b. quiet_chained (quiet_action labels at (handler es e.place Error)) (λ c. quiet_pure _)))

-- ---- names that stand

module _ (gs : List Signature) where
  entry_grows : (n m : ℕ) (xs ys : List Site) (ds : Named (Unit {0})) (x : Text) (entry : EntryData) → n ≤ m → IsFront xs ys → EntryStands gs n xs ds x entry → EntryStands gs m ys ds x entry
  entry_grows n m xs ys ds x (function k done r None) less front h = h
  entry_grows n m xs ys ds x (function k done r (Some ps)) less front h = h
  entry_grows n m xs ys ds x (object k global t) less front h = go (slice_get xs k) refl h
    where
      wider : (o : Option Site) → SiteStands n o → SiteStands m o
      wider None h = h
      wider (Some (numbered j)) h = h
      wider (Some (slotted i)) h = omega (arith, h, less)
      wider (Some nowhere) h = h

      found : (o : Site) → slice_get xs k ≡ Some o → slice_get ys k ≡ Some o
      found o e = ap (λ zs. slice_get zs k) front.same ∙ get_front xs front.rest k e

      go : (o : Option Site) → slice_get xs k ≡ o → SiteStands n o → SiteStands m (slice_get ys k)
      go None e h = absurd h
      go (Some site) e h = subst (λ o. SiteStands m o) (sym (found site e)) (wider (Some site) h)

  pub names_grow : (n m : ℕ) (xs ys : List Site) (ds : Named (Unit {0})) (names : Named EntryData) → n ≤ m → IsFront xs ys → NamesStand gs n xs ds names → NamesStand gs m ys ds names
  names_grow n m xs ys ds names less front h x entry e = entry_grows n m xs ys ds x entry less front (h x entry e)

  pub scopes_grow : (n m : ℕ) (xs ys : List Site) (ds : Named (Unit {0})) (ss : List ScopeData) → n ≤ m → IsFront xs ys → ScopesStand gs n xs ds ss → ScopesStand gs m ys ds ss
  scopes_grow n m xs ys ds [] less front h = tt
  scopes_grow n m xs ys ds (s ∷ ss) less front h = (names_grow n m xs ys ds s.names less front h.0, scopes_grow n m xs ys ds ss less front h.1)

  -- one name more, or one that is known better
  pub names_put : (n : ℕ) (xs : List Site) (ds : Named (Unit {0})) (name : Text) (entry : EntryData) (names : Named EntryData) → EntryStands gs n xs ds name entry → NamesStand gs n xs ds names
      → NamesStand gs n xs ds (put name entry names)
  names_put n xs ds name entry names is h x other e = go (same_text x name) refl
    where
      found_other : (find x (put name entry names) ≡ find x names) → EntryStands gs n xs ds x other
      found_other same = h x other (sym same ∙ e)

      go : (b : Bool) → same_text x name ≡ b → EntryStands gs n xs ds x other
      go true same =
          let named : x ≡ name = same_text_is x name same in
          let is_entry : entry ≡ other = some_is (sym (find_put_same name entry names) ∙ ap (λ y. find y (put name entry names)) (sym named) ∙ e) in
          subst (λ y. EntryStands gs n xs ds y other) (sym named) (subst (λ o. EntryStands gs n xs ds name o) is_entry is)
      go false differs = found_other (find_put_other x name entry names differs)

  -- ---- rules

  pub record Sites (a b : ℕ) {A : Type 0} (m : Resolving A) : Type 0 where
    pub makes : Makes a b m
    pub leads : Leads 1 1 m
    pub outer : (s : Storage) (w : World) → (m s w).world.outer ≡ w.outer
    pub here : (s : Storage) (w : World) → length s.sites ≡ length w.types → Room a s → NamesStand gs (in_scope s) s.sites s.defined w.here.names
        → NamesStand gs (in_scope s) (m s w).storage.sites s.defined (m s w).world.here.names

  count_kept : {A : Type 0} (m : Resolving A) → Leads 1 1 m → (s : Storage) (w : World) → length s.sites ≡ length w.types → length (m s w).storage.sites ≡ length (m s w).world.types
  count_kept m l s w e = counts_same (length (m s w).storage.sites) (length (m s w).world.types) (l.counts s w (counts_one (length s.sites) (length w.types) e))

  pub room_kept : {a b : ℕ} {A : Type 0} {m : Resolving A} → Makes a b m → (s : Storage) (w : World) → Room a s → Room b (m s w).storage
  room_kept h s w r = h.sizes s w ∙ r ∙ sym (h.count s w)

  pub scope_kept : {a b : ℕ} {A : Type 0} {m : Resolving A} → Makes a b m → (s : Storage) (w : World) → in_scope (m s w).storage ≡ in_scope s
  scope_kept {m = m} h s w = (λ i. h.below s w i + (m s w).storage.block.count) ∙ ap (λ c. s.block.below + c) (h.count s w)

  pub chained : {a b c : ℕ} {A B : Type 0} {m : Resolving A} {f : A → Resolving B} → Sites a b m → ((x : A) → Sites b c (f x)) → Sites a c (chain m f)
  unfolding chain
  chained {m = m} {f = f} h k = record {
    makes = making.chained h.makes (λ x. (k x).makes);
    leads = then_leads h.leads (λ x. (k x).leads);
    outer = λ s w. (k (m s w).answer).outer (m s w).storage (m s w).world ∙ h.outer s w;
    here = λ s w e r p.
        let t = (m s w).storage in
        let z = (m s w).world in
        let q = (k (m s w).answer).here t z (count_kept m h.leads s w e) (room_kept h.makes s w r)
        (subst (λ n. NamesStand gs n t.sites t.defined z.here.names) (sym (scope_kept h.makes s w)) (subst (λ ds. NamesStand gs (in_scope s) t.sites ds z.here.names) (sym (h.makes.defined s w)) (h.here s w e r p))) in
        subst (λ ds. NamesStand gs (in_scope s) (f (m s w).answer t z).storage.sites ds (f (m s w).answer t z).world.here.names) (h.makes.defined s w)
        (subst (λ n. NamesStand gs n (f (m s w).answer t z).storage.sites t.defined (f (m s w).answer t z).world.here.names) (scope_kept h.makes s w) q);
  }

  pub quiet : {n : ℕ} {A : Type 0} {m : Resolving A} → Quiet m → Sites n n m
  quiet {m = m} h = record {
    makes = spared h.spares;
    leads = stands_lead (record { sites = λ s w. ap (λ t. t.sites) (h.spares.stays s w); types = λ s w. (h.names s w).types });
    outer = λ s w. (h.names s w).outer;
    here = λ s w e r p.
        subst (λ names. NamesStand gs (in_scope s) (m s w).storage.sites s.defined names) (sym (h.names s w).here)
        (subst (λ xs. NamesStand gs (in_scope s) xs s.defined w.here.names) (sym (ap (λ t. t.sites) (h.spares.stays s w))) p);
  }

  pub from : {a b c : ℕ} {A : Type 0} {m : Resolving A} → a ≡ b → Sites b c m → Sites a c m
  from {c = c} {m = m} e h = subst (λ k. Sites k c m) (sym e) h

  -- ---- declarations

  pub made_world : (site : Site) (size : ℕ) (init : InitOption) (ps : List PartData) (s : Storage) (w : World) → (object_made site size init ps s w).world ≡ w
  unfolding chain arrange pure
  made_world (numbered k) size init ps s w = refl
  made_world (slotted i) size init ps s w = refl
  made_world nowhere size init ps s w = refl

  pub made_sites : (site : Site) (size : ℕ) (init : InitOption) (ps : List PartData) (s : Storage) (w : World) → (object_made site size init ps s w).storage.sites ≡ s.sites
  unfolding chain arrange pure
  made_sites (numbered k) size init ps s w = refl
  made_sites (slotted i) size init ps s w = refl
  made_sites nowhere size init ps s w = refl

  quiet_leads : {n : ℕ} {A : Type 0} {m : Resolving A} → Quiet m → Leads n n m
  quiet_leads h = stands_lead (record { sites = λ s w. ap (λ t. t.sites) (h.spares.stays s w); types = λ s w. (h.names s w).types })

  rest_leads : (at : Place) (global : Bool) (name : Text) (init : InitOption) (before : Option TyData) → Leads 1 1 (object_rest at global name init before)
  rest_leads at global name init before =
      then_leads (stands_lead (counting.ask_stands _)) (λ k.
      then_leads (stands_lead (counting.checks_stand (declare_still at name _))) (λ a.
      then_leads (stands_lead (counting.stored_stands _)) (λ site.
      then_leads (counting.site_leads 1 site) (λ b.
      then_leads (quiet_leads (quiet_initial at global before init)) (λ made.
      then_leads (stands_lead (counting.checks_stand (better_still name _))) (λ c.
      then_leads (counting.number_leads 1 _) (λ d.
      then_leads (stands_lead (counting.ask_stands _)) (λ size. stands_lead (record { sites = λ s w. made_sites site size init made.1 s w; types = λ s w. ap (λ z. z.types) (made_world site size init made.1 s w) })))))))))

  pub site_stands : (global : Bool) (n : ℕ) (s : Storage) → Room (next_count global n) s → SiteStands (in_scope s) (Some (next_site global s))
  site_stands true n s r = tt
  site_stands false n s r = omega (arith, r)

  pub at_last : (s : Storage) (k : ℕ) (site : Site) → length s.sites ≡ k → slice_get (s.sites ++ site ∷ []) k ≡ Some site
  at_last s k site e = subst (λ j. slice_get (s.sites ++ site ∷ []) j ≡ Some site) e (get_last s.sites site)

  no_less : (n : ℕ) → n ≤ n
  no_less n = omega (arith)

  pub rest_sites : (n : ℕ) (at : Place) (global : Bool) (name : Text) (init : InitOption) (before : Option TyData) → Sites (next_count global n) n (object_rest at global name init before)
  unfolding chain checks ask stored arrange know_better number_as check_change
  rest_sites n at global name init before = record {
    makes = rest_makes n at global name init before;
    leads = rest_leads at global name init before;
    outer = λ s w.
        let first = object (next_number w) global before in
        let d = (declare at name first w).world in
        let o = initial at global before init (with_site (next_site global s) s) d in
        let y = with_name name (object (next_number w) global o.answer.0) o.world in
        let z : World = record y { types = y.types ++ type_or_void o.answer.0 ∷ [] } in
        ap (λ v. v.outer) (made_world (next_site global s) (size_of_type z o.answer.0) init o.answer.1 o.storage z)
        ∙ ((quiet_initial at global before init).names (with_site (next_site global s) s) d).outer ∙ ap (λ v. v.outer) (declared_world at name first w);
    here = λ s w e r p.
        let k = next_number w in
        let site = next_site global s in
        let first = object k global before in
        let d = (declare at name first w).world in
        let q = quiet_initial at global before init in
        let o = initial at global before init (with_site site s) d in
        let last = object k global o.answer.0 in
        let y = with_name name last o.world in
        let z : World = record y { types = y.types ++ type_or_void o.answer.0 ∷ [] } in
        let size = size_of_type z o.answer.0 in
        let t = object_made site size init o.answer.1 o.storage z in
        let names : t.world.here.names ≡ put name last w.here.names =
        ap (λ v. v.here.names) (made_world site size init o.answer.1 o.storage z)
        ∙ ap (λ ns. put name last ns) ((q.names (with_site site s) d).here ∙ ap (λ v. v.here.names) (declared_world at name first w)) ∙ put_twice name first last w.here.names in
        let sites : t.storage.sites ≡ s.sites ++ site ∷ [] = made_sites site size init o.answer.1 o.storage z ∙ ap (λ v. v.sites) (q.spares.stays (with_site site s) d) in
        let stands : SiteStands (in_scope s) (slice_get (s.sites ++ site ∷ []) k) = subst (λ x. SiteStands (in_scope s) x) (sym (at_last s k site e)) (site_stands global n s r) in
        subst (λ ns. NamesStand gs (in_scope s) t.storage.sites s.defined ns) (sym names) (subst (λ xs. NamesStand gs (in_scope s) xs s.defined (put name last w.here.names)) (sym sites)
        (names_put (in_scope s) (s.sites ++ site ∷ []) s.defined name last w.here.names stands
        (names_grow (in_scope s) (in_scope s) s.sites (s.sites ++ site ∷ []) s.defined w.here.names (no_less (in_scope s)) (begins_joined s.sites (site ∷ [])) p)));
  }

  pub item_sites : (n : ℕ) (at : Place) (global v : Bool) (t : Option TyData) (d : DeclaratorData) → Sites (next_count global n) n (object_item at global v t d)
  item_sites n at global v t (declarator stars name ns init) =
      chained (quiet (quiet_type at v t stars name ns)) (λ whole. chained (quiet (quiet_checks (checked_names.object_stays at (has_init init) whole))) (λ before. rest_sites n at global name init before))

  pub items_sites : (n : ℕ) (at : Place) (v : Bool) (t : Option TyData) (ds : DeclaratorList) → Sites (declarators_in ds + n) n (object_items at false v t ds)
  items_sites n at v t no_declarators = from (none_more n) (quiet (quiet_pure _))
  items_sites n at v t (declarators d ds) = from (one_more (declarators_in ds) n) (chained (item_sites (declarators_in ds + n) at false v t d) (λ first. chained (items_sites n at v t ds) (λ more. quiet (quiet_pure _))))

  pub globals_sites : (n : ℕ) (at : Place) (v : Bool) (t : Option TyData) (ds : DeclaratorList) → Sites n n (object_items at true v t ds)
  globals_sites n at v t no_declarators = quiet (quiet_pure _)
  globals_sites n at v t (declarators d ds) = chained (item_sites n at true v t d) (λ first. chained (globals_sites n at v t ds) (λ more. quiet (quiet_pure _)))

  pub declaration_sites : (n : ℕ) (d : DeclData) → Sites (objects_of_decl d + n) n (declaration false d)
  declaration_sites n (decl b items section line) = chained (quiet (quiet_checks (place_stays line))) (λ at. chained (quiet (quiet_specifier at b items)) (λ t. items_sites n at (is_varchar b) t items))

  pub global_sites : (n : ℕ) (d : DeclData) → Sites n n (declaration true d)
  global_sites n (decl b items section line) = chained (quiet (quiet_checks (place_stays line))) (λ at. chained (quiet (quiet_specifier at b items)) (λ t. globals_sites n at (is_varchar b) t items))

  -- ---- scopes and blocks

  scoped_leads : {A : Type 0} {m : Resolving A} → Leads 1 1 m → Leads 1 1 (scoped m)
  scoped_leads h = then_leads (stands_lead (counting.checks_stand enter_still)) (λ u. then_leads h (λ x. then_leads (stands_lead (counting.checks_stand leave_still)) (λ v. stands_lead (counting.pure_stands _))))

  pub scoped_sites : {a b : ℕ} {A : Type 0} {m : Resolving A} → Sites a b m → Sites a b (scoped m)
  unfolding chain checks pure enter leave check_change
  scoped_sites {m = m} h = record {
    makes = scoped_makes h.makes;
    leads = scoped_leads h.leads;
    outer = λ s w. left_outer (m s (entered w)).world w.here w.outer (h.outer s (entered w));
    here = λ s w e r p.
        let t = (m s (entered w)).storage in
        subst (λ sc. NamesStand gs (in_scope s) t.sites s.defined sc.names) (sym (left_here (m s (entered w)).world w.here w.outer (h.outer s (entered w))))
        (names_grow (in_scope s) (in_scope s) s.sites t.sites s.defined w.here.names (no_less (in_scope s)) (h.leads.begins s (entered w)) p);
  }

  block_leads : {A : Type 0} (k : ℕ) {m : Resolving A} → Leads 1 1 m → Leads 1 1 (in_block k m)
  unfolding chain stored arrange pure
  block_leads k h = record { begins = λ s w. h.begins (inside_block k s) w; counts = λ s w e. h.counts (inside_block k s) w e }

  pub block_sites : {n a b : ℕ} {A : Type 0} (k : ℕ) {m : Resolving A} → Sites a b m → Sites n n (in_block k (scoped m))
  unfolding chain checks pure stored arrange enter leave check_change
  block_sites k {m = m} h = record {
    makes = making.in_block_makes k (scoped m) (scoped_makes h.makes);
    leads = block_leads k (scoped_leads h.leads);
    outer = λ s w. left_outer (m (inside_block k s) (entered w)).world w.here w.outer (h.outer (inside_block k s) (entered w));
    here = λ s w e r p.
        let t = (m (inside_block k s) (entered w)).storage in
        subst (λ sc. NamesStand gs (in_scope s) t.sites s.defined sc.names) (sym (left_here (m (inside_block k s) (entered w)).world w.here w.outer (h.outer (inside_block k s) (entered w))))
        (names_grow (in_scope s) (in_scope s) s.sites t.sites s.defined w.here.names (no_less (in_scope s)) (h.leads.begins (inside_block k s) (entered w)) p);
  }

  -- ---- embedded statements

  form_sites : {n : ℕ} (form : StatementForm) → Sites n n (arrange (with_statement form))
  unfolding arrange
  form_sites form = record {
    makes = making.arranged _ (λ s. refl) (λ s. refl) (λ s. refl);
    leads = stands_lead (counting.arrange_stands _ (λ s. refl));
    outer = λ s w. refl;
    here = λ s w e r p. p;
  }

  embedded_sites : {n : ℕ} (es : List EmbData) (labels : Named (Unit {0})) (at : Place) (k : ℕ) (e : EmbData) → Sites n n (embedded_rule es labels at k e)
  embedded_sites es labels at k e =
      chained (quiet (quiet_references at (references e))) (λ rs. chained (quiet (quiet_checks (denote_stays _))) (λ u. chained (quiet (quiet_handlers es labels at e)) (λ actions. form_sites _)))

  embedded_at_sites : {n : ℕ} (a : Around) (at : Place) (k : ℕ) (e : Option EmbData) → Sites n n (embedded_at a at k e)
  embedded_at_sites a at k None = quiet (quiet_pure _)
  embedded_at_sites a at k (Some e) = embedded_sites a.embs a.labels at k e

  -- ---- statements

  mutual
    pub statement_sites : (a : Around) (n : ℕ) (x : StmtData) → Sites (objects_in x + n) n (statement a x)
    statement_sites a n (stmt line kind) = chained (quiet (quiet_checks (place_stays line))) (λ at. chained (kind_sites a n at kind) (λ s. quiet (quiet_pure _)))

    pub kind_sites : (a : Around) (n : ℕ) (at : Place) (kind : StmtKindData) → Sites (objects_in_kind kind + n) n (statement_kind a at kind)
    kind_sites a n at empty_stmt = from (none_more n) (quiet (quiet_pure _))
    kind_sites a n at (expr_stmt e) = from (none_more n) (chained (quiet (quiet_alone at e)) (λ x. quiet (quiet_pure _)))
    kind_sites a n at (block_stmt ss) = from (none_more n) (chained (block_sites (objects_in_all ss) (statements_sites a 0 ss)) (λ b. quiet (quiet_pure _)))
    kind_sites a n at (if_stmt e s other) = from (both_more (objects_in s) (objects_in_option other) n)
        (scoped_sites (chained (quiet (quiet_condition at e)) (λ x. chained (scoped_sites (statement_sites a (objects_in_option other + n) s)) (λ y. chained (otherwise_sites a n other) (λ z. quiet (quiet_pure _))))))
    kind_sites a n at (while_stmt e s) = scoped_sites (chained (quiet (quiet_condition at e)) (λ x. chained (scoped_sites (statement_sites a n s)) (λ y. quiet (quiet_pure _))))
    kind_sites a n at (do_stmt s e) = scoped_sites (chained (scoped_sites (statement_sites a n s)) (λ y. chained (quiet (quiet_condition at e)) (λ x. quiet (quiet_pure _))))
    kind_sites a n at (for_stmt x y z s) =
        scoped_sites (chained (quiet (quiet_optional at x)) (λ first. chained (quiet (quiet_optional_condition at y)) (λ test. chained (quiet (quiet_optional at z)) (λ behind.
        chained (scoped_sites (statement_sites a n s)) (λ body. quiet (quiet_pure _))))))
    kind_sites a n at break_stmt = from (none_more n) (quiet (quiet_pure _))
    kind_sites a n at continue_stmt = from (none_more n) (quiet (quiet_pure _))
    kind_sites a n at (return_stmt e) = from (none_more n) (quiet (quiet_return at a.result e))
    kind_sites a n at (goto_stmt l) = from (none_more n) (quiet (quiet_pure _))
    kind_sites a n at (label_stmt l s) = chained (quiet (quiet_checks (label_stays at l))) (λ u. chained (statement_sites a n s) (λ x. quiet (quiet_pure _)))
    kind_sites a n at (decl_stmt d) = chained (declaration_sites n d) (λ ss. quiet (quiet_pure _))
    kind_sites a n at (emb_stmt k) = from (none_more n) (chained (embedded_at_sites a at k (slice_get a.embs k)) (λ u. quiet (quiet_pure _)))
    kind_sites a n at (mark_stmt opens) = from (none_more n) (quiet (quiet_pure _))

    pub statements_sites : (a : Around) (n : ℕ) (ss : StmtList) → Sites (objects_in_all ss + n) n (statements a ss)
    statements_sites a n no_stmts = from (none_more n) (quiet (quiet_pure _))
    statements_sites a n (stmt_list s ss) = from (both_more (objects_in s) (objects_in_all ss) n) (chained (statement_sites a (objects_in_all ss + n) s) (λ x. chained (statements_sites a n ss) (λ xs. quiet (quiet_pure _))))

    pub otherwise_sites : (a : Around) (n : ℕ) (o : StmtOption) → Sites (objects_in_option o + n) n (otherwise a o)
    otherwise_sites a n no_stmt = from (none_more n) (quiet (quiet_pure _))
    otherwise_sites a n (some_stmt s) = scoped_sites (statement_sites a n s)

  -- ---- parameters

  -- behind its declaration one name more may stand for the next object
  param_names : (at : Place) (defined : Bool) (name : Option Text) (t : Option TyData) (w : World) (n : ℕ) (xs : List Site) (ds : Named (Unit {0})) → SiteStands n (slice_get xs (next_number w))
      → NamesStand gs n xs ds w.here.names → NamesStand gs n xs ds (declare_param at defined name (next_number w) t w).world.here.names
  param_names at defined None t w n xs ds stands p = subst (λ v. NamesStand gs n xs ds v.here.names) (sym (demand_same at F14 (not defined) w)) p
  param_names at defined (Some name) t w n xs ds stands p =
      subst (λ v. NamesStand gs n xs ds v.here.names) (sym (declared_world at name (object (next_number w) false t) w)) (names_put n xs ds name (object (next_number w) false t) w.here.names stands p)

  param_outer : (at : Place) (defined : Bool) (name : Option Text) (k : ℕ) (t : Option TyData) (w : World) → (declare_param at defined name k t w).world.outer ≡ w.outer
  param_outer at defined None k t w = ap (λ v. v.outer) (demand_same at F14 (not defined) w)
  param_outer at defined (Some name) k t w = ap (λ v. v.outer) (declared_world at name (object k false t) w)

  param_leads : (at : Place) (defined : Bool) (name : Option Text) (t : Option TyData) → Leads 1 1 (param_rest at defined name t)
  param_leads at defined name t =
      then_leads (stands_lead (counting.ask_stands _)) (λ k.
      then_leads (stands_lead (counting.checks_stand (declare_param_still at defined name k t))) (λ a.
      then_leads (counting.number_leads 0 _) (λ c.
      then_leads (stands_lead (counting.stored_stands _)) (λ site.
      then_leads (counting.site_leads 0 site) (λ d.
      then_leads (stands_lead (counting.ask_stands _)) (λ size.
      then_leads (stands_lead (counting.arrange_stands _ (λ s. refl))) (λ e. stands_lead (counting.pure_stands _))))))))

  param_rest_sites : (n : ℕ) (at : Place) (defined : Bool) (name : Option Text) (t : Option TyData) → Sites (suc n) n (param_rest at defined name t)
  unfolding chain checks ask stored arrange pure number_as check_change
  param_rest_sites n at defined name t = record {
    makes = param_rest_makes n at defined name t;
    leads = param_leads at defined name t;
    outer = λ s w. param_outer at defined name (next_number w) t w;
    here = λ s w e r p.
        let k = next_number w in
        let site = next_site false s in
        param_names at defined name t w (in_scope s) (s.sites ++ site ∷ []) s.defined
        (subst (λ x. SiteStands (in_scope s) x) (sym (at_last s k site e)) (site_stands false n s r))
        (names_grow (in_scope s) (in_scope s) s.sites (s.sites ++ site ∷ []) s.defined w.here.names (no_less (in_scope s)) (begins_joined s.sites (site ∷ [])) p);
  }

  param_sites : (n : ℕ) (at : Place) (defined : Bool) (q : ParamData) → Sites (suc n) n (param at defined q)
  param_sites n at defined q =
      chained (quiet (quiet_base at q.base)) (λ b. chained (quiet (quiet_lengths at q.dims)) (λ sizes. chained (quiet (quiet_checks (checked_names.param_type_stays at b q.stars sizes))) (λ t. param_rest_sites n at defined q.name t)))

  pub params_sites : (n : ℕ) (at : Place) (defined : Bool) (qs : List ParamData) → Sites (length qs + n) n (params at defined qs)
  params_sites n at defined [] = from (none_more n) (quiet (quiet_pure _))
  params_sites n at defined (q ∷ qs) = from (one_more (length qs) n) (chained (param_sites (length qs + n) at defined q) (λ t. chained (params_sites n at defined qs) (λ ts. quiet (quiet_pure _))))

  -- ---- what stands behind

  pub sites_stand : {a b : ℕ} {A : Type 0} {m : Resolving A} → Sites a b m → Stands gs a b m
  sites_stand {m = m} h = record {
    standing = λ s w p r.
        let t = (m s w).storage in
        let z = (m s w).world in
        let n = scope_kept h.makes s w in
        let d = h.makes.defined s w in
        let outer : ScopesStand gs (in_scope s) t.sites s.defined z.outer = subst (λ ss. ScopesStand gs (in_scope s) t.sites s.defined ss) (sym (h.outer s w))
        (scopes_grow (in_scope s) (in_scope s) s.sites t.sites s.defined w.outer (no_less (in_scope s)) (h.leads.begins s w) p.outer) in
        record {
          here = subst (λ k. NamesStand gs k t.sites t.defined z.here.names) (sym n) (subst (λ ds. NamesStand gs (in_scope s) t.sites ds z.here.names) (sym d) (h.here s w p.sites r p.here));
          outer = subst (λ k. ScopesStand gs k t.sites t.defined z.outer) (sym n) (subst (λ ds. ScopesStand gs (in_scope s) t.sites ds z.outer) (sym d) outer);
          sites = count_kept m h.leads s w p.sites;
        };
    room = λ s w r. room_kept h.makes s w r;
    scope = λ s w. scope_kept h.makes s w;
  }

  pub expression_stands : (n : ℕ) (at : Place) (e : ExprData) → Stands gs n n (expr at e)
  expression_stands n at e = sites_stand (quiet (quiet_expr at e))
