-- Declarations are sound where nothing is wrong with them, at file level and in functions.
use Rattle.std.proofs.Common.{◌≡◌, ◌∙◌, ℕ, suc, ◌+◌, ◌<◌, ◌≤◌, Bool, true, false, not, List, [], ◌∷◌, ◌++◌, length, Option, refl, sym, ap, subst, slice_get, arith}
use Rattle.std.specs.Prelude.{is_some}
use Rattle.ec_base.specs.declared.fault.FaultKind.TheVariants.{F10, F12}
use Rattle.ec_ctypes.specs.trees.Types.{TyData}
use Rattle.ec_ctypes.specs.trees.Exprs.{BaseData, words, varchar, tagged, struct_base, DimList, InitOption, no_init, some_init, DeclaratorData, declarator, DeclaratorList, no_declarators, declarators, DeclData, decl}
use Rattle.ec_language.specs.Letters.{Text, same_text}
use Rattle.ec_typing_defs.specs.Known.{is_reserved}
use Rattle.ec_typing_defs.specs.Operands.{within_rule}
use Rattle.ec_typing_defs.specs.Expressions.{base, is_varchar, has_init}
use Rattle.ec_typing_defs.specs.Statements as checked
use Rattle.ec_typing_defs.specs.Statements.{type_or_void, waits_for_length, object_rule, specifier, tag_alone, declared_tag}
use Rattle.ec_typing_defs.specs.Tables.{find}
use Rattle.ec_typing_defs.specs.Worlds.{Place, EntryData, object, World, Rule, look_up_in, or_else, next_number, with_name, declare, know_better, number_as, demand, free_name, note, chain as check_chain, pure as check_pure, ask as check_ask, change}
use Rattle.ec_meaning_defs.specs.observed.Run.{IsFront}
use Rattle.ec_meaning_defs.specs.resolved.Resolved.{Stm, Stms}
use Rattle.ec_resolving_defs.specs.Agreement.{Finds, nothing_of}
use Rattle.ec_resolving_defs.specs.Initializers.{PartData}
use Rattle.ec_resolving_defs.specs.Expressions.{base as resolved_base}
use Rattle.ec_resolving_defs.specs.Statements.{declaration, object_type, object_item, object_items, object_made, declared_object, declarators_in, objects_of_decl, initial, size_of_type}
use Rattle.ec_resolving_defs.specs.Storage.{Site, numbered, slotted, nowhere, Storage, LibraryCall, Resolving, next_site, with_site, chain, pure, checks, ask, stored, arrange}
use Rattle.ec_resolving_defs.proofs.Agreeing.{chain_finds, pure_finds, checks_find, ask_finds, stored_first, arrange_first, quiet_first, Silent, ask_silent, arrange_silent, pure_silent, chain_silent, Quiet as QuietRule, base_finds, lengths_find, last_length_finds, outer_lengths_find}
use Rattle.ec_resolving_defs.proofs.AgreeingPrograms.{initializer_finds}
use Rattle.ec_sim_world_laws.specs.growth.Growth.{Grows}
use Rattle.ec_sim_world_laws.proofs.growth_lemmas.Rules.{begins_joined}
use Rattle.ec_sim_world_laws.proofs.known_lemmas.NamesRules.{NamesStay, Staying, place_stays}
use Rattle.ec_sim_world_laws.proofs.known_lemmas.NamesExpressions.{base_stays, lengths_stay, last_stays, outer_stay, varchar_object_stays}
use Rattle.ec_sim_world_laws.proofs.known_lemmas.NamesStatements.{object_stays, specifier_stays}
use Rattle.ec_sim_world_laws.proofs.known_lemmas.SitesOperands.{within_idle, elements_idle}
use Rattle.ec_sim_program_laws.specs.types.Flat.{dims_count}
use Rattle.ec_sim_program_laws.specs.types.Types.{max_nesting}
use Rattle.ec_sim_program_laws.proofs.types_lemmas.Fits as tree
use Rattle.ec_sim_program_laws.proofs.types_lemmas.Statements.{object_open, initial_types, alone_types}
use Rattle.ec_sim_program_laws.proofs.types_lemmas.Rules as typing
use Rattle.ec_sim_program_laws.proofs.types_lemmas.Rules.{Sound as TypesSound, Shallow, shallow_before, Any, NoMore, Typing, to, pure_types, asked_any, chosen, place_types, free_tag_types, declare_types, better_types, number_types, both_none}
use Rattle.ec_sim_program_laws.proofs.types_lemmas.Operands.{within_kept}
use Rattle.ec_sim_program_laws.proofs.types_lemmas.Expressions.{IsAtom, IsBase, IsWithin, declared_flat, object_varchar, base_has, lengths_have, last_is, outer_have}
use Rattle.ec_sim_program_laws.proofs.types_lemmas.Initializers.{OpenIn, open_in_stays, open_typed}
use Rattle.ec_sound_defs.specs.Sorts.{Sort}
use Rattle.ec_sound_defs.specs.Sound.{Signature, Atoms}
use Rattle.ec_sound_defs.specs.Written.{library_atoms}
use Rattle.ec_sound_form_laws.specs.Names.{SiteStands}
use Rattle.ec_sound_expression_laws.specs.Standing as mine
use Rattle.ec_sound_expression_laws.proofs.Basics.{clash}
use Rattle.ec_sound_expression_laws.proofs.Storing.{Stores, pure_stores, base_stores, lengths_store, last_stores, outer_store, initializer_stores}
use Rattle.ec_sound_statement_laws.specs.Sites.{NamesStand, ScopesStand, in_scope, Room}
use Rattle.ec_sound_statement_laws.specs.Objects.{Spares}
use Rattle.ec_sound_statement_laws.proofs.Sparing.{last_spares, outer_spare}
use Rattle.ec_sound_statement_laws.specs.Values.{AreStored}
use Rattle.ec_sound_statement_laws.proofs.Making.{next_count, object_rest, one_more, none_more}
use Rattle.ec_sound_statement_laws.proofs.Names.{find_put_other, declared_world}
use Rattle.ec_sound_statement_laws.proofs.Sites.{Quiet, quiet_base, quiet_lengths, rest_sites, site_stands, at_last, made_world, names_put, names_grow, scopes_grow}
use Rattle.ec_sound_program_laws.specs.Standing.{Free}
use Rattle.ec_sound_program_laws.specs.Plain.{InitIsPlain, ItemIsPlain, ItemsArePlain, DeclIsPlain}
use Rattle.ec_sound_program_laws.proofs.Initials.{first_of, initial_walks}
use Rattle.ec_sound_program_laws.proofs.Runs.{Run, chained, from, carried, beside, room_is, checked_run, found_run, skip_first, pure_run, answered, scopes_stand}
use Rattle.ec_sound_program_laws.proofs.Statements.{AllSound}
use Rattle.ec_sim_host_laws.proofs.reference_lemmas.Parts.{texts_equal}

-- ---- types of objects

-- behind the type of an object
abbrev checked_rest : Place → Bool → Text → InitOption → Option TyData → Rule (Unit {0})
checked_rest at global name init before =
    check_chain (check_ask next_number) (λ k. check_chain (declare at name (object k global before)) (λ u. check_chain (checked.initial at global before init) (λ ty. check_chain (within_rule at ty) (λ v.
    check_chain (know_better name (object k global ty)) (λ x. number_as (type_or_void ty))))))

rest_types : (at : Place) (global : Bool) (name : Text) (init : InitOption) (before : Option TyData) → tree.FitsInit init → Typing (λ w. OpenIn w.structs before) NoMore (checked_rest at global name init before)
rest_types at global name init before h =
    asked_any _ _ (λ k. typing.chained (typing.from (λ w r. (r, open_typed w.structs before r)) (to (λ w a r. r.0) (typing.beside (λ w. OpenIn w.structs before) (open_in_stays before) (declare_types at name (object k global before))))) (λ a.
    typing.chained (initial_types at global before init h) (λ ty. typing.chained (within_kept at ty) (λ b. typing.chained (better_types name (object k global ty)) (λ c. typing.from (λ w r. tt) (number_types (type_or_void ty)))))))

-- ---- the parts, beside what the checks find

initial_finds : (at : Place) (global : Bool) (ty : Option TyData) (i : InitOption) → Finds first_of (initial at global ty i) (checked.initial at global ty i)
initial_finds at global ty no_init = pure_finds first_of _
initial_finds at global ty (some_init i) = initializer_finds at global ty i

initial_stores : (at : Place) (global : Bool) (ty : Option TyData) (i : InitOption) → Stores (initial at global ty i)
initial_stores at global ty no_init = pure_stores _
initial_stores at global ty (some_init i) = initializer_stores at global ty i

within_quiet : (at : Place) (t : Option TyData) → QuietRule (within_rule at t)
within_quiet at t = record { world = λ w. (within_idle at t).world w }

made_silently : (site : Site) (size : ℕ) (init : InitOption) (ps : List PartData) → Silent (object_made site size init ps)
made_silently (numbered n) size init ps = chain_silent _ _ (arrange_silent _) (λ _. pure_silent _)
made_silently (slotted i) size init ps = chain_silent _ _ (arrange_silent _) (λ _. pure_silent _)
made_silently nowhere size init ps = pure_silent _

last_finds : {B : Type 0} (n : Rule (Unit {0})) (k : Unit {0} → Resolving B) → Silent (k tt) → Finds nothing_of (chain (checks n) k) n
unfolding chain checks
last_finds n k p = record { answer = λ s w. refl; world = λ s w. p.world s (n w).world }

rest_finds : (at : Place) (global : Bool) (name : Text) (init : InitOption) (before : Option TyData) → Finds nothing_of (object_rest at global name init before) (checked_rest at global name init before)
rest_finds at global name init before =
    chain_finds _ _ _ _ (ask_finds _) (λ k. chain_finds _ _ _ _ (checks_find _) (λ _.
    stored_first _ _ _ (λ site. arrange_first _ _ _
    (chain_finds _ _ _ _ (initial_finds at global before init) (λ made.
    quiet_first _ _ _ (within_quiet at made.0)
    (chain_finds _ _ _ _ (checks_find _) (λ _.
    last_finds _ _ (chain_silent _ _ (ask_silent _) (λ size. made_silently site size init made.1)))))))))

-- ---- names that are not reserved

pub not_reserved : (at : Place) (b : Bool) (w : World) → (demand at F12 (not b) w).found ≡ [] → b ≡ false
unfolding demand note check_pure
not_reserved at true w e = absurd (cc)
not_reserved at false w e = refl

pub declared_free : (at : Place) (name : Text) (entry : EntryData) (w : World) → (declare at name entry w).found ≡ [] → is_reserved name ≡ false
unfolding declare free_name check_chain check_ask change
declared_free at name entry w found =
    let d = demand at F10 (not (is_some (find name w.here.names))) (with_name name entry w) in
    not_reserved at (is_reserved name) d.world (both_none d.found (demand at F12 (not (is_reserved name)) d.world).found found).1

pub free_with : (name : Text) (entry : EntryData) (w : World) → is_reserved name ≡ false → Free w → Free (with_name name entry w)
free_with name entry w r free x e is = go (same_text x name) refl
  where
    go : (b : Bool) → same_text x name ≡ b → is_reserved x ≡ false
    go true same = ap is_reserved (texts_equal x name same) ∙ r
    go false differs = free x e (sym (λ j. or_else (find_put_other x name entry w.here.names differs j) (look_up_in w.outer x)) ∙ is)

module _ (gs : List Signature) (calls : List LibraryCall) (written : Bool) (body : Stms) (gives : Sort) where
  abbrev Library : Atoms
  Library = library_atoms gs calls

  abbrev Made : ℕ → Bool → List Stm → Type 0
  Made n loops xs = AllSound gs calls written body gives n loops xs

  made_sound : (n i size : ℕ) (loops : Bool) (init : InitOption) (ps : List PartData) → i < n → AreStored gs Library n i ps → Made n loops (declared_object i size init ps ∷ [])
  made_sound n i size loops no_init ps less h = (less, tt)
  made_sound n i size loops (some_init init) ps less h = ((less, h), tt)

  -- the next object of the innermost block
  abbrev next_object : Storage → ℕ
  next_object s = s.block.below + length s.block.sizes

  -- an object of a function has its statement, a global has none
  made_answer : (n size : ℕ) (global loops : Bool) (init : InitOption) (ps : List PartData) (s t : Storage) (w : World) → (global ≡ false → next_object s < n) → (global ≡ false → AreStored gs Library n (next_object s) ps)
      → Made n loops (object_made (next_site global s) size init ps t w).answer
  unfolding chain arrange pure
  made_answer n size true loops init ps s t w less h = tt
  made_answer n size false loops init ps s t w less h = made_sound n (next_object s) size loops init ps (less refl) (h refl)

  made_calls : (site : Site) (size : ℕ) (init : InitOption) (ps : List PartData) (s : Storage) (w : World) → (object_made site size init ps s w).storage.calls ≡ s.calls
  unfolding chain arrange pure
  made_calls (numbered k) size init ps s w = refl
  made_calls (slotted i) size init ps s w = refl
  made_calls nowhere size init ps s w = refl

  no_less : (n : ℕ) → n ≤ n
  no_less n = omega (arith)

  less_than : (below sizes j count n : ℕ) → sizes + suc j ≡ count → below + count ≡ n → below + sizes < n
  less_than below sizes j count n r e = omega (arith, r, e)

  object_there : (global : Bool) (n j : ℕ) (s : Storage) → Room (next_count global j) s → in_scope s ≡ n → global ≡ false → next_object s < n
  object_there true n j s room scope e = clash (sym e)
  object_there false n j s room scope e = less_than s.block.below (length s.block.sizes) j s.block.count n room scope

  rest_run : (n j : ℕ) (loops : Bool) (at : Place) (global : Bool) (name : Text) (init : InitOption) (before : Option TyData) → tree.FitsInit init → InitIsPlain init
      → Run gs calls written n (next_count global j) j nothing_of (λ w. OpenIn w.structs before) (λ w xs. Made n loops xs) (object_rest at global name init before) (checked_rest at global name init before)
  unfolding chain checks ask stored arrange know_better number_as change check_chain check_ask
  rest_run n j loops at global name init before h p = record {
    sites = rest_sites gs j at global name init before;
    steps = λ s w.
        let f = rest_finds at global name init before in
        let types = rest_types at global name init before h in
        let k = next_number w in
        let i = next_object s in
        let site = next_site global s in
        let first = object k global before in
        let d = (declare at name first w).world in
        let s2 = with_site site s in
        let o = initial at global before init s2 d in
        let last = object k global o.answer.0 in
        let y = with_name name last o.world in
        let z : World = record y { types = y.types ++ type_or_void o.answer.0 ∷ [] } in
        let size = size_of_type z o.answer.0 in
        let behind : (object_made site size init o.answer.1 o.storage z).world ≡ z = made_world gs site size init o.answer.1 o.storage z in
        let so_far = made_calls site size init o.answer.1 o.storage z in
        record {
          answer = f.answer s w;
          world = f.world s w;
          grows = subst (λ v. Grows w v) (sym (f.world s w)) (types.growing.grows w);
          calls_grow = subst (λ cs. IsFront s.calls cs) (sym so_far) ((initial_stores at global before init).calls s2 d);
          fits = λ known scope room is_open found shallow front.
              let e1 = both_none (declare at name first w).found _ found in
              let e2 = both_none (checked.initial at global before init d).found _ e1.1 in
              let free = declared_free at name first w e1.0 in
              let dw = declared_world at name first w in
              let shallow_o : Shallow o.world = subst (λ v. Shallow v) behind shallow in
              let grows_o : Grows d o.world = subst (λ v. Grows d v) (sym ((initial_finds at global before init).world s2 d)) ((initial_types at global before init h).growing.grows d) in
              let dt = declare_types at name first in
              let grows_d = dt.growing.grows w in
              let sound_d = (dt.types w known.good.sound (open_typed w.structs before is_open) e1.0 (shallow_before grows_o shallow_o)).0 in
              let site_there : SiteStands (in_scope s) (slice_get (s.sites ++ site ∷ []) k) = subst (λ x. SiteStands (in_scope s) x) (sym (at_last gs s k site known.standing.sites)) (site_stands gs global j s room) in
              let here_d : NamesStand gs (in_scope s) s2.sites s.defined d.here.names = subst (λ v. NamesStand gs (in_scope s) s2.sites s.defined v.here.names) (sym dw)
              (names_put gs (in_scope s) s2.sites s.defined name first w.here.names site_there
              (names_grow gs (in_scope s) (in_scope s) s.sites s2.sites s.defined w.here.names (no_less (in_scope s)) (begins_joined s.sites (site ∷ [])) known.standing.here)) in
              let outer_d : ScopesStand gs (in_scope s) s2.sites s.defined d.outer = subst (λ v. ScopesStand gs (in_scope s) s2.sites s.defined v.outer) (sym dw)
              (scopes_grow gs (in_scope s) (in_scope s) s.sites s2.sites s.defined w.outer (no_less (in_scope s)) (begins_joined s.sites (site ∷ [])) known.standing.outer) in
              let stands : mine.IsStanding gs n written s2 d = record {
                is_written = grows_d.written ∙ known.good.is_written;
                sound = sound_d;
                names = subst (λ m. mine.NamesStand gs m s2.sites s.defined d) scope (record {
                  defined_there = grows_d.defined ∙ known.defined;
                  stand = scopes_stand gs calls written (in_scope s) s2.sites s.defined d here_d outer_d;
                  free = subst (λ v. Free v) (sym dw) (free_with name first w free known.good.free);
                });
              } in
              let less = object_there global n j s room scope in
              let x = ((initial_walks gs calls n written i global less at before init h p).steps s2 d).fits stands tt e2.0 shallow_o (subst (λ cs. IsFront cs calls) so_far front) in
              let q = types.types w known.good.sound is_open found (subst (λ v. Shallow v) (f.world s w) shallow) in (
                record {
                  is_written = ap (λ v. v.written) (f.world s w) ∙ (types.growing.grows w).written ∙ known.good.is_written;
                  sound = subst (λ v. TypesSound v) (sym (f.world s w)) q.0;
                  free = subst (λ v. Free v) (sym behind) (free_with name last o.world free x.0.names.free);
                },
                made_answer n size global loops init o.answer.1 s o.storage z less x.1,
              );
        };
  }

  -- ---- types of declarators

  quiet_by : {A : Type 0} {m : Resolving A} {c : Rule A} → Spares m → Finds (λ x. x) m c → Staying c → Quiet m
  quiet_by {m = m} p f h = record { spares = p; names = λ s w. subst (λ z. NamesStay w z) (sym (f.world s w)) (h.stays w) }

  type_run : (n a : ℕ) (at : Place) (v : Bool) (t : Option TyData) (stars : ℕ) (name : Text) (ns : DimList) (init : InitOption) → tree.FitsItem v (declarator stars name ns init)
      → Run gs calls written n a a (λ x. x) (λ w. IsBase v t) (λ w s. IsWithin max_nesting s) (object_type at v t stars name ns) (checked.object_type at v t stars name ns)
  type_run n a at false t stars name ns init h =
      chained gs calls written _ (carried gs calls written (IsAtom t) (found_run gs calls written (quiet_lengths at ns) (lengths_find at ns) (lengths_store at ns) (lengths_stay at ns) (lengths_have at ns h.2))) (λ sizes.
      skip_first gs calls written _ _ (elements_idle at t stars sizes) (pure_run gs calls written _ (λ w r. declared_flat t stars (dims_count ns) sizes r.0 r.1 h.1)))
  type_run n a at true t stars name ns init h =
      chained gs calls written _ (from gs calls written (λ w r. tt) (found_run gs calls written (quiet_by (last_spares at ns) (last_length_finds at ns) (last_stays at ns)) (last_length_finds at ns) (last_stores at ns) (last_stays at ns) (last_is at ns h.0 h.2))) (λ m.
      chained gs calls written _ (checked_run gs calls written (varchar_object_stays at name m) (object_varchar at name m)) (λ own.
      chained gs calls written _ (carried gs calls written (IsAtom own) (found_run gs calls written (quiet_by (outer_spare at ns) (outer_lengths_find at ns) (outer_stay at ns)) (outer_lengths_find at ns) (outer_store at ns) (outer_stay at ns) (outer_have at ns h.2))) (λ sizes.
      skip_first gs calls written _ _ (elements_idle at own stars sizes) (pure_run gs calls written _ (λ w r. declared_flat own stars (dims_count ns) sizes r.0 r.1 h.1)))))

  -- ---- declarators

  item_run : (n j : ℕ) (loops : Bool) (at : Place) (global v : Bool) (t : Option TyData) (d : DeclaratorData) → tree.FitsItem v d → ItemIsPlain d
      → Run gs calls written n (next_count global j) j nothing_of (λ w. IsBase v t) (λ w xs. Made n loops xs) (object_item at global v t d) (checked.object_item at global v t d)
  item_run n j loops at global v t (declarator stars name ns init) h p =
      chained gs calls written _ (type_run n (next_count global j) at v t stars name ns init h) (λ whole. skip_first gs calls written _ _ (within_idle at whole)
      (chained gs calls written _ (checked_run gs calls written (object_stays at (has_init init) whole) (object_open at (has_init init) whole)) (λ before. rest_run n j loops at global name init before h.3 p)))

  made_both : (n : ℕ) (loops : Bool) (xs ys : List Stm) → Made n loops xs → Made n loops ys → Made n loops (xs ++ ys)
  made_both n loops [] ys h g = g
  made_both n loops (x ∷ xs) ys h g = (h.0, made_both n loops xs ys h.1 g)

  -- where this is still to be made behind them, so much is before them: globals make nothing of a block
  abbrev with_declarators : Bool → DeclaratorList → ℕ → ℕ
  with_declarators true ds j = j
  with_declarators false ds j = declarators_in ds + j

  none_before : (global : Bool) (j : ℕ) → with_declarators global no_declarators j ≡ j
  none_before true j = refl
  none_before false j = none_more j

  one_before : (global : Bool) (d : DeclaratorData) (ds : DeclaratorList) (j : ℕ) → with_declarators global (declarators d ds) j ≡ next_count global (with_declarators global ds j)
  one_before true d ds j = refl
  one_before false d ds j = one_more (declarators_in ds) j

  items_run : (n j : ℕ) (loops : Bool) (at : Place) (global v : Bool) (t : Option TyData) (ds : DeclaratorList) → tree.FitItems v ds → ItemsArePlain ds
      → Run gs calls written n (with_declarators global ds j) j nothing_of (λ w. IsBase v t) (λ w xs. Made n loops xs) (object_items at global v t ds) (checked.object_items at global v t ds)
  items_run n j loops at global v t no_declarators h p = room_is gs calls written (none_before global j) (pure_run gs calls written [] (λ w r. tt))
  items_run n j loops at global v t (declarators d ds) h p =
      room_is gs calls written (one_before global d ds j)
      (chained gs calls written _ (from gs calls written (λ w r. (r, r)) (beside gs calls written (λ w. IsBase v t) (λ w z g x. x) (item_run n (with_declarators global ds j) loops at global v t d h.0 p.0))) (λ xs.
      answered gs calls written (λ ys. xs ++ ys) (λ ys. refl) (λ w ys q. made_both n loops xs ys q.0 q.1)
      (from gs calls written (λ w r. (r.1, r.0)) (beside gs calls written (λ w. Made n loops xs) (λ w z g x. x) (items_run n j loops at global v t ds h.1 p.1)))))

  -- ---- declarations

  based : (n j : ℕ) (loops : Bool) (at : Place) (global : Bool) (b : BaseData) (ds : DeclaratorList) → tree.FitsBase b → tree.FitItems (is_varchar b) ds → ItemsArePlain ds
      → Run gs calls written n (with_declarators global ds j) j nothing_of (λ w. Unit {0}) (λ w xs. Made n loops xs) (chain (resolved_base at b) (λ t. object_items at global (is_varchar b) t ds)) (check_chain (base at b) (λ t. checked.object_items at global (is_varchar b) t ds))
  based n j loops at global b ds h g p =
      chained gs calls written _ (found_run gs calls written (quiet_base at b) (base_finds at b) (base_stores at b) (base_stays at b) (base_has at b h)) (λ t. items_run n j loops at global (is_varchar b) t ds g p)

  -- its declarators
  abbrev items_of : DeclData → DeclaratorList
  items_of (decl b items section line) = items

  declared_run : (n j : ℕ) (loops global : Bool) (d : DeclData) → tree.FitsDecl d → DeclIsPlain d
      → Run gs calls written n (with_declarators global (items_of d) j) j nothing_of (λ w. Unit {0}) (λ w xs. Made n loops xs) (declaration global d) (checked.declaration global d)
  declared_run n j loops global (decl (tagged tag) no_declarators section line) h p =
      chained gs calls written _ (checked_run gs calls written (place_stays line) (place_types line)) (λ at. chained gs calls written _ (checked_run gs calls written (specifier_stays at (tagged tag) no_declarators) (alone_types at tag)) (λ t.
      room_is gs calls written (none_before global j) (pure_run gs calls written [] (λ w r. tt))))
  declared_run n j loops global (decl (tagged tag) (declarators d ds) section line) h p =
      chained gs calls written _ (checked_run gs calls written (place_stays line) (place_types line)) (λ at. based n j loops at global (tagged tag) (declarators d ds) h.0 h.1 p)
  declared_run n j loops global (decl (words ws) ds section line) h p = chained gs calls written _ (checked_run gs calls written (place_stays line) (place_types line)) (λ at. based n j loops at global (words ws) ds h.0 h.1 p)
  declared_run n j loops global (decl varchar ds section line) h p = chained gs calls written _ (checked_run gs calls written (place_stays line) (place_types line)) (λ at. based n j loops at global varchar ds h.0 h.1 p)
  declared_run n j loops global (decl (struct_base t ms) ds section line) h p =
      chained gs calls written _ (checked_run gs calls written (place_stays line) (place_types line)) (λ at. based n j loops at global (struct_base t ms) ds h.0 h.1 p)

  pub declaration_run : (n j : ℕ) (loops : Bool) (d : DeclData) → tree.FitsDecl d → DeclIsPlain d
      → Run gs calls written n (objects_of_decl d + j) j nothing_of (λ w. Unit {0}) (λ w xs. Made n loops xs) (declaration false d) (checked.declaration false d)
  declaration_run n j loops (decl b items section line) h p = declared_run n j loops false (decl b items section line) h p

  -- globals, outside of functions
  pub global_run : (n j : ℕ) (d : DeclData) → tree.FitsDecl d → DeclIsPlain d
      → Run gs calls written n j j nothing_of (λ w. Unit {0}) (λ w xs. Made n false xs) (declaration true d) (checked.declaration true d)
  global_run n j d h p = declared_run n j false true d h p
