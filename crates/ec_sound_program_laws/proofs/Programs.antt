-- Whole programs are sound where nothing is wrong with them, by induction over what stands at the top level.
use Rattle.std.proofs.Common.{◌≡◌, ◌∙◌, ◌+◌, Bool, true, false, List, [], ◌∷◌, ◌++◌, Option, Some, None, refl, sym, ap, subst, slice_get, append-nil, append_assoc, if◌then◌else◌}
use Rattle.std.specs.Prelude.{is_some, codes, pos, ◌||◌}
use Rattle.ec_ctypes.specs.trees.Stmts.{StmtList}
use Rattle.ec_ctypes.specs.trees.Embedded.{EmbData}
use Rattle.ec_ctypes.specs.trees.Units.{FuncData, TopData, include_top, directive_top, decl_top, func_top, mark_top, UnitData}
use Rattle.ec_base.specs.declared.fault.FaultKind.TheVariants.{F20}
use Rattle.ec_language.specs.Letters.{Text, same_text}
use Rattle.ec_memory_defs.specs.Memory.{number}
use Rattle.ec_typing_defs.specs.Answers.{checked as all_checked, violations}
use Rattle.ec_typing_defs.specs.Expressions.{base}
use Rattle.ec_typing_defs.specs.Tables.{Named, find}
use Rattle.ec_typing_defs.specs.Programs as checked
use Rattle.ec_typing_defs.specs.Programs.{defined_in, is_main, has_main, is_int, main_rule, start}
use Rattle.ec_typing_defs.specs.Worlds.{EntryData, World, place, chain as check_chain, pure as check_pure}
use Rattle.ec_meaning_defs.specs.observed.Run.{IsFront}
use Rattle.ec_meaning_defs.specs.resolved.Programs.{Function, Program}
use Rattle.ec_meaning_defs.specs.resolved.Resolved.{no_stms}
use Rattle.ec_resolving_defs.specs.Operands.{place_in}
use Rattle.ec_resolving_defs.specs.Programs.{value_at_end, function_rule, top_rule, tops_rule, no_storage, walked, program_by, resolved_by, library_calls_of}
use Rattle.ec_resolving_defs.specs.Statements.{declaration}
use Rattle.ec_resolving_defs.specs.Storage.{Storage, Reached, LibraryCall, chain, pure}
use Rattle.ec_resolving_defs.proofs.AgreeingPrograms.{tops_find}
use Rattle.ec_sim_world_laws.specs.growth.Growth.{Grows}
use Rattle.ec_sim_world_laws.proofs.growth_lemmas.Rules.{begins_itself, begins_further, demand_same}
use Rattle.ec_sim_program_laws.proofs.types_lemmas.Fits.{FitsTop, FitTops}
use Rattle.ec_sim_program_laws.proofs.types_lemmas.Rules.{Sound, Shallow, shallow_before}
use Rattle.ec_sim_program_laws.specs.types.Types.{StructsAreShallow}
use Rattle.ec_sound_defs.specs.Sorts.{any_sort, number_sort}
use Rattle.ec_sound_defs.specs.Sound.{Signature, main_signature, MayEnd, EndsWithValue, SoundFunctions, SoundProgram}
use Rattle.ec_sound_defs.specs.Written.{library_atoms}
use Rattle.ec_sound_form_laws.specs.Names.{gives_of, signature_of, EntryStands}
use Rattle.ec_sound_expression_laws.proofs.Basics.{clash}
use Rattle.ec_sound_statement_laws.specs.Functions.{if_defined, definitions}
use Rattle.ec_sound_statement_laws.specs.Scopes.{IsKnownAs}
use Rattle.ec_sound_statement_laws.specs.Sites.{in_scope, Room}
use Rattle.ec_sound_statement_laws.proofs.Functions.{params_count, names_stay}
use Rattle.ec_sound_statement_laws.proofs.Names.{find_put_same, first_none, second_none}
use Rattle.ec_sound_statement_laws.proofs.Places.{main_stands, unit_has_main}
use Rattle.ec_sound_statement_laws.proofs.Scopes.{function_known}
use Rattle.ec_sound_statement_laws.proofs.Sites.{scope_kept, room_kept, sites_stand}
use Rattle.ec_sim_host_laws.proofs.reference_lemmas.Parts.{texts_equal}
use Rattle.ec_sound_program_laws.specs.Plain.{TopIsPlain, TopsArePlain}
use Rattle.ec_sound_program_laws.specs.Programs.{IsSound}
use Rattle.ec_sound_program_laws.specs.Standing.{IsKnown}
use Rattle.ec_sound_program_laws.proofs.Declarations.{global_run}
use Rattle.ec_sound_program_laws.proofs.Functions.{FunctionEnds, function_ends, function_world, known_as, names_behind, calls_behind, scope_behind, room_behind, defined_behind, known_behind, function_sound}
use Rattle.ec_sound_program_laws.proofs.Heads.{place_of, head, head_run, listed, placed, opened}
use Rattle.ec_sound_program_laws.proofs.Making.{signatures_by, MakesSound}
use Rattle.ec_sound_program_laws.proofs.Signatures.{signature_by, Agrees, agrees_at_end, agrees_before, agrees_before_objects, signatures_of, signatures_there, main_named, main_is_int, main_takes_nothing, main_there, int_gives}
use Rattle.ec_sound_program_laws.proofs.Starting.{start_is_known}
use Rattle.ec_sound_program_laws.proofs.Typed.{checked_head, top_types, tops_types}

-- ---- parts of the top level

top_world : (es : List EmbData) (t : TopData) (s : Storage) (w : World) → (top_rule es t s w).world ≡ (checked.top_rule es t w).world
unfolding chain pure check_chain check_pure
top_world es t s w = (tops_find es (t ∷ [])).world s w

-- what is found where nothing is wrong with one and those behind it
parts_found : (es : List EmbData) (t : TopData) (ts : List TopData) (w : World) → (checked.tops_rule es (t ∷ ts) w).found ≡ [] → ((checked.top_rule es t w).found ≡ []) × ((checked.tops_rule es ts (checked.top_rule es t w).world).found ≡ [])
parts_found es t ts w found = (first_none (checked.top_rule es t) (λ _. checked.tops_rule es ts) w found, second_none (checked.top_rule es t) (λ _. checked.tops_rule es ts) w found)

-- behind one of them, before the others
record Between (es : List EmbData) (t : TopData) (ts : List TopData) (s : Storage) (w : World) (y : Reached (Unit {0})) : Type 0 where
  found : (checked.top_rule es t w).found ≡ []
  found_behind : (checked.tops_rule es ts y.world).found ≡ []
  shallow : Shallow y.world
  sound : Sound y.world

between : (es : List EmbData) (t : TopData) (ts : List TopData) (s : Storage) (w : World) → FitTops (t ∷ ts) → TopsArePlain (t ∷ ts) → Sound w → (checked.tops_rule es (t ∷ ts) w).found ≡ [] → Shallow (tops_rule es (t ∷ ts) s w).world
    → Between es t ts s w (top_rule es t s w)
unfolding chain
between es t ts s w h p sound found shallow =
    let y = top_rule es t s w in
    let e = parts_found es t ts w found in
    let same = top_world es t s w in
    let grows = subst (λ v. Grows y.world v) (sym ((tops_find es ts).world y.storage y.world)) ((tops_types es ts h.1 p.1).growing.grows y.world) in
    let shallow_here : Shallow y.world = shallow_before grows shallow in
    record {
      found = e.0;
      found_behind = (λ i. (checked.tops_rule es ts (same i)).found) ∙ e.1;
      shallow = shallow_here;
      sound = subst (λ v. Sound v) (sym same) ((top_types es t h.0 p.0).types w sound tt e.0 (subst (λ v. Shallow v) same shallow_here)).0;
    }

-- whether it is the definition of `main`
abbrev main_top : TopData → Bool
main_top (include_top bytes) = false
main_top (directive_top n) = false
main_top (decl_top d) = false
main_top (func_top f) = is_main f
main_top (mark_top opens line) = false

main_first : (t : TopData) (ts : List TopData) → has_main (t ∷ ts) ≡ (main_top t || has_main ts)
main_first (include_top bytes) ts = refl
main_first (directive_top n) ts = refl
main_first (decl_top d) ts = refl
main_first (func_top f) ts = refl
main_first (mark_top opens line) ts = refl

sound_joined : (gs own more : List Signature) (calls : List LibraryCall) (fs hs : List Function) → SoundFunctions gs (library_atoms gs calls) own fs → SoundFunctions gs (library_atoms gs calls) more hs
    → SoundFunctions gs (library_atoms gs calls) (own ++ more) (fs ++ hs)
sound_joined gs [] more calls [] hs h k = k
sound_joined gs [] more calls (f ∷ fs) hs h k = absurd h
sound_joined gs (g ∷ own) more calls [] hs h k = absurd h
sound_joined gs (g ∷ own) more calls (f ∷ fs) hs h k = (h.0, sound_joined gs own more calls fs hs h.1 k)

module _ (gs : List Signature) (calls : List LibraryCall) (written : Bool) (last : Named EntryData) where
  -- the signature of a function behind its parameters
  abbrev own_signature : FuncData → Storage → World → Signature
  own_signature f s w = signature_of (head f s w).answer (listed f (place_of f w) (head f s w).answer (head f s w).storage (head f s w).world).answer

  by_checks : (f : FuncData) (w : World) → is_int f.base f.stars ≡ true → gives_of (checked_head f w).answer ≡ number_sort
  unfolding check_chain place
  by_checks f w e = let o = base (place_of f w) f.base (place f.line w).world in int_gives (place_of f w) f.base f.stars e (place f.line w).world o.world

  main_own : (f : FuncData) (s : Storage) (w : World) → FitsTop (func_top f) → is_main f ≡ true → own_signature f s w ≡ main_signature
  main_own f s w h e =
      let gives : gives_of (head f s w).answer ≡ number_sort = ap gives_of ((head_run gs calls written 0 0 f h).steps s w).answer ∙ by_checks f w (main_is_int f e) in
      let at = place_of f w in
      let o = head f s w in
      let takes = params_count at (is_some f.body) f.params (placed f at o.answer o.storage o.world) (opened f at o.answer o.storage o.world) ∙ main_takes_nothing f e in
      λ i. record { takes = takes i; gives = gives i }

  -- as it is known at the end
  signature_behind : (es : List EmbData) (f : FuncData) (s : Storage) (w : World) → FitsTop (func_top f) → TopIsPlain (func_top f) → FunctionEnds gs calls written es f s w (function_rule es f s w) → Agrees last (function_rule es f s w).world
      → signature_by (find f.name last) ≡ own_signature f s w
  signature_behind es f s w h p x agree =
      agree f.name _ _ _ _ (ap (λ ns. find f.name ns) (names_behind gs calls written es f s w h p (function_rule es f s w) x) ∙ find_put_same f.name (known_as gs calls written f s w) w.here.names)

  -- ---- what is known at the end, from each part on

  record Back (main_here : Bool) (s : Storage) (w : World) (z : Reached (Unit {0})) : Type 0 where
    agrees : Agrees last z.world → Agrees last w
    calls_grow : IsFront s.calls z.storage.calls
    main : main_here ≡ true → Agrees last z.world → signature_by (find (codes "main") last) ≡ main_signature

  top_back : (es : List EmbData) (t : TopData) (s : Storage) (w : World) → FitsTop t → TopIsPlain t → Sound w → (checked.top_rule es t w).found ≡ [] → Shallow (top_rule es t s w).world → Sound (top_rule es t s w).world
      → Back (main_top t) s w (top_rule es t s w)
  unfolding chain pure
  top_back es (include_top bytes) s w h p sound found shallow behind = record { agrees = λ e. e; calls_grow = begins_itself s.calls; main = λ e g. clash e }
  top_back es (directive_top n) s w h p sound found shallow behind = absurd p
  top_back es (decl_top d) s w h p sound found shallow behind = record {
    agrees = λ e. agrees_before_objects last true d w found (subst (λ v. Agrees last v) (top_world es (decl_top d) s w) e);
    calls_grow = ((global_run gs calls written no_stms any_sort 0 0 d h p).steps s w).calls_grow;
    main = λ e g. clash e;
  }
  top_back es (func_top f) s w h p sound found shallow behind =
      let z = function_rule es f s w in
      let x = function_ends gs calls written es f s w h p sound found shallow in
      record {
        agrees = λ e. agrees_before last f w z.world (subst (λ v. IsKnownAs f w v) (sym (function_world es f s w)) (function_known es f w found)) sound behind e;
        calls_grow = calls_behind gs calls written es f s w h p z x;
        main = λ e g. ap (λ n. signature_by (find n last)) (main_named f e) ∙ signature_behind es f s w h p x g ∙ main_own f s w h e;
      }
  top_back es (mark_top opens line) s w h p sound found shallow behind = record { agrees = λ e. e; calls_grow = begins_itself s.calls; main = λ e g. clash e }

  back : (es : List EmbData) (ts : List TopData) (s : Storage) (w : World) → FitTops ts → TopsArePlain ts → Sound w → (checked.tops_rule es ts w).found ≡ [] → Shallow (tops_rule es ts s w).world → Back (has_main ts) s w (tops_rule es ts s w)
  unfolding chain pure
  back es [] s w h p sound found shallow = record { agrees = λ e. e; calls_grow = begins_itself s.calls; main = λ e g. clash e }
  back es (t ∷ ts) s w h p sound found shallow =
      let y = top_rule es t s w in
      let z = tops_rule es ts y.storage y.world in
      let x = between es t ts s w h p sound found shallow in
      let first = top_back es t s w h.0 p.0 sound x.found x.shallow x.sound in
      let rest = back es ts y.storage y.world h.1 p.1 x.sound x.found_behind shallow in
      record {
        agrees = λ e. first.agrees (rest.agrees e);
        calls_grow = begins_further s.calls y.storage.calls z.storage.calls first.calls_grow rest.calls_grow;
        main = λ e g. either (main_top t) (has_main ts) (sym (main_first t ts) ∙ e) (λ a. first.main a (rest.agrees g)) (λ b. rest.main b g);
      }
    where
      either : {C : Type 0} (a b : Bool) → (a || b) ≡ true → (a ≡ true → C) → (b ≡ true → C) → C
      either true b e f g = f refl
      either false b e f g = g e

  -- ---- what is made, part by part

  -- the signatures of what is made of it
  abbrev signatures_in : TopData → List Signature
  signatures_in (include_top bytes) = []
  signatures_in (directive_top n) = []
  signatures_in (decl_top d) = []
  signatures_in (func_top f) = signatures_by f.body (signature_by (find f.name last))
  signatures_in (mark_top opens line) = []

  with_own : (b : Option StmtList) (f : FuncData) (fs : List FuncData) → signatures_of last (if_defined b f ++ fs) ≡ signatures_by b (signature_by (find f.name last)) ++ signatures_of last fs
  with_own None f fs = refl
  with_own (Some ss) f fs = refl

  signatures_first : (t : TopData) (ts : List TopData) → signatures_of last (definitions (t ∷ ts)) ≡ signatures_in t ++ signatures_of last (definitions ts)
  signatures_first (include_top bytes) ts = refl
  signatures_first (directive_top n) ts = refl
  signatures_first (decl_top d) ts = refl
  signatures_first (func_top f) ts = with_own f.body f (definitions ts)
  signatures_first (mark_top opens line) ts = refl

  -- what is known between parts, where the program defines these functions
  record IsBetween (ds : Named (Unit {0})) (s : Storage) (w : World) : Type 0 where
    known : IsKnown gs written s w
    defined : s.defined ≡ ds
    scope : in_scope s ≡ 0
    room : Room 0 s

  none_made : (own : List Signature) (s t : Storage) → own ≡ [] → t.functions ≡ s.functions → MakesSound gs (library_atoms gs calls) own s t
  none_made own s t none same = record { functions = []; are = same ∙ sym (append-nil s.functions); sound = subst (λ gs2. SoundFunctions gs (library_atoms gs calls) gs2 []) (sym none) tt }

  module _ (ds : Named (Unit {0})) (there : (x : Text) → is_some (find x ds) ≡ true → slice_get gs (place_in x ds) ≡ Some (signature_by (find x last))) (main_is : signature_by (find (codes "main") last) ≡ main_signature) where
    -- the value at the end of `main` is one of its result
    main_ends : (f : FuncData) (s : Storage) (w : World) → signature_by (find f.name last) ≡ own_signature f s w → same_text f.name (codes "main") ≡ true → MayEnd (gives_of (head f s w).answer) (value_at_end f.name)
    main_ends f s w own e =
        let named : f.name ≡ codes "main" = texts_equal f.name (codes "main") e in
        let gives : gives_of (head f s w).answer ≡ number_sort = ap (λ g. g.gives) (sym own ∙ ap (λ n. signature_by (find n last)) named ∙ main_is) in
        let value : value_at_end f.name ≡ Some (number (pos 0)) = λ i. if e i then Some (number (pos 0)) else None in
        subst (λ k. MayEnd k (value_at_end f.name)) (sym gives) (subst (λ v. MayEnd number_sort v) (sym value) tt)

    top_forward : (es : List EmbData) (t : TopData) (s : Storage) (w : World) → FitsTop t → TopIsPlain t → IsBetween ds s w → (checked.top_rule es t w).found ≡ [] → Shallow (top_rule es t s w).world
        → IsFront (top_rule es t s w).storage.calls calls → Agrees last (top_rule es t s w).world → IsBetween ds (top_rule es t s w).storage (top_rule es t s w).world × MakesSound gs (library_atoms gs calls) (signatures_in t) s (top_rule es t s w).storage
    unfolding chain pure
    top_forward es (include_top bytes) s w h p known found shallow front agree = (known, none_made [] s s refl refl)
    top_forward es (directive_top n) s w h p known found shallow front agree = absurd p
    top_forward es (decl_top d) s w h p known found shallow front agree =
        let run = global_run gs calls written no_stms any_sort 0 0 d h p in
        let step = run.steps s w in
        let o = declaration true d s w in
        let kept = step.fits known.known known.scope known.room tt found shallow front in
        let same = run.sites.makes.defined s w in (
          record {
            known = record { good = kept.0; defined = step.grows.defined ∙ known.known.defined ∙ sym same; standing = (sites_stand gs run.sites).standing s w known.known.standing known.room };
            defined = same ∙ known.defined;
            scope = scope_kept gs run.sites.makes s w ∙ known.scope;
            room = room_kept gs run.sites.makes s w known.room;
          },
          none_made [] s o.storage refl (run.sites.makes.functions s w),
        )
    top_forward es (func_top f) s w h p known found shallow front agree =
        let z = function_rule es f s w in
        let x = function_ends gs calls written es f s w h p known.known.good.sound found shallow in
        let own = signature_behind es f s w h p x agree in
        let stands : EntryStands gs (in_scope s) s.sites s.defined f.name (known_as gs calls written f s w) =
        subst (λ es. is_some (find f.name es) ≡ true → slice_get gs (place_in f.name es) ≡ Some (own_signature f s w)) (sym known.defined) (λ e. there f.name e ∙ ap (λ g. Some g) own) in
        let made = function_sound gs calls written es f s w h p x known.known known.scope known.room stands (main_ends f s w own) shallow front in (
          record {
            known = known_behind gs calls written es f s w h p z x known.known stands;
            defined = defined_behind gs calls written es f s w h p z x ∙ known.defined;
            scope = scope_behind gs calls written es f s w h p z x ∙ known.scope;
            room = room_behind gs calls written es f s w h p z x known.room;
          },
          subst (λ g. MakesSound gs (library_atoms gs calls) (signatures_by f.body g) s z.storage) (sym own) made,
        )
    top_forward es (mark_top opens line) s w h p known found shallow front agree = (known, none_made [] s s refl refl)

    forward : (es : List EmbData) (ts : List TopData) (s : Storage) (w : World) → FitTops ts → TopsArePlain ts → IsBetween ds s w → (checked.tops_rule es ts w).found ≡ [] → Shallow (tops_rule es ts s w).world
        → IsFront (tops_rule es ts s w).storage.calls calls → Agrees last (tops_rule es ts s w).world → MakesSound gs (library_atoms gs calls) (signatures_of last (definitions ts)) s (tops_rule es ts s w).storage
    unfolding chain pure
    forward es [] s w h p known found shallow front agree = none_made [] s s refl refl
    forward es (t ∷ ts) s w h p known found shallow front agree =
        let y = top_rule es t s w in
        let z = tops_rule es ts y.storage y.world in
        let x = between es t ts s w h p known.known.good.sound found shallow in
        let rest = back es ts y.storage y.world h.1 p.1 x.sound x.found_behind shallow in
        let first = top_forward es t s w h.0 p.0 known x.found x.shallow (begins_further y.storage.calls z.storage.calls calls rest.calls_grow front) (rest.agrees agree) in
        let more = forward es ts y.storage y.world h.1 p.1 first.0 x.found_behind shallow front agree in
        record {
          functions = first.1.functions ++ more.functions;
          are = more.are ∙ ap (λ fs. fs ++ more.functions) first.1.are ∙ append_assoc s.functions first.1.functions more.functions;
          sound = subst (λ own. SoundFunctions gs (library_atoms gs calls) own (first.1.functions ++ more.functions)) (sym (signatures_first t ts))
              (sound_joined gs (signatures_in t) (signatures_of last (definitions ts)) calls first.1.functions more.functions first.1.sound more.sound);
        }

-- ---- the whole of it

tops_clean : (written : Bool) (u : UnitData) → violations written u ≡ [] → (checked.tops_rule u.embs u.tops (start written u)).found ≡ []
tops_clean written u clean = first_none (checked.tops_rule u.embs u.tops) (λ _. check_chain (place u.last) (main_rule u.tops)) (start written u) clean

walked_shallow : (written : Bool) (u : UnitData) → StructsAreShallow (all_checked written u).world → Shallow (walked written u).world
unfolding check_chain place main_rule
walked_shallow written u shallow =
    let o = checked.tops_rule u.embs u.tops (start written u) in
    let x : World = record o.world { places = o.world.places + 1 } in
    let same : (all_checked written u).world ≡ x = demand_same _ F20 (has_main u.tops) x in
    subst (λ v. Shallow v) (sym ((tops_find u.embs u.tops).world (no_storage u) (start written u))) (λ k info is e. shallow k info (ap (λ v. slice_get v.structs k) same ∙ is))

pub program_is_sound : (written : Bool) (u : UnitData) → FitTops u.tops → TopsArePlain u.tops → violations written u ≡ [] → StructsAreShallow (all_checked written u).world → IsSound written u
program_is_sound written u h p clean shallow =
    let o = walked written u in
    let last = o.world.here.names in
    let ds = defined_in u.tops [] in
    let gs = signatures_of last (definitions u.tops) in
    let calls = library_calls_of written u in
    let known = start_is_known gs written u in
    let found = tops_clean written u clean in
    let flat = walked_shallow written u shallow in
    let there = signatures_there written u clean last in
    let end = agrees_at_end o.world in
    let main_is = (back gs calls written last u.embs u.tops (no_storage u) (start written u) h p known.good.sound found flat).main (unit_has_main written u clean) end in
    let begin : IsBetween gs calls written last ds (no_storage u) (start written u) = record { known = known; defined = refl; scope = refl; room = refl } in
    let made = forward gs calls written last ds there main_is u.embs u.tops (no_storage u) (start written u) h p begin found flat (begins_itself calls) end in
    let q : Program = program_by o.storage in
    let stands = main_stands written u clean in
    let sound : SoundProgram gs (library_atoms gs calls) q = record {
      functions = subst (λ fs. SoundFunctions gs (library_atoms gs calls) gs fs) (sym made.are) made.sound;
      main = ap (λ es. slice_get gs (place_in (codes "main") es)) (names_stay written u) ∙ main_there written u clean last ∙ ap (λ g. Some g) main_is;
      main_ends = subst (λ f. EndsWithValue f) (sym stands.is) (number (pos 0), stands.at_end);
    } in
    record { signatures = gs; sound = subst (λ r. SoundProgram gs (library_atoms gs calls) r) (sym (ap (λ vs. resolved_by vs q) clean)) sound }
