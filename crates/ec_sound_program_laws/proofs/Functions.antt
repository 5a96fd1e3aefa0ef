-- A function is sound where nothing is wrong with it, and known behind it.
use Rattle.std.proofs.Common.{◌≡◌, ◌∙◌, ◌≤◌, ℕ, ◌+◌, Bool, true, false, List, [], ◌∷◌, ◌++◌, length, Option, Some, None, refl, sym, ap, subst, slice_get, arith}
use Rattle.std.specs.Prelude.{is_some, codes}
use Rattle.ec_ctypes.specs.trees.Types.{TyData}
use Rattle.ec_ctypes.specs.trees.Embedded.{EmbData}
use Rattle.ec_ctypes.specs.trees.Units.{FuncData, func_top}
use Rattle.ec_language.specs.Letters.{Text, same_text}
use Rattle.ec_typing_defs.specs.Known.{is_reserved}
use Rattle.ec_typing_defs.specs.Tables.{find, put}
use Rattle.ec_typing_defs.specs.Programs as checked
use Rattle.ec_typing_defs.specs.Programs.{put_outside}
use Rattle.ec_typing_defs.specs.Worlds.{Place, place, EntryData, ScopeData, World, look_up_in, or_else, number_as, enter, leave, change, chain as check_chain, pure as check_pure}
use Rattle.ec_meaning_defs.specs.observed.Run.{IsFront}
use Rattle.ec_resolving_defs.specs.Operands.{place_in}
use Rattle.ec_resolving_defs.specs.Programs.{function_rule, value_at_end}
use Rattle.ec_resolving_defs.specs.Storage.{Storage, Reached, LibraryCall, chain, pure, checks, ask, stored, arrange}
use Rattle.ec_resolving_defs.proofs.AgreeingPrograms.{tops_find}
use Rattle.ec_sim_world_laws.specs.growth.Growth.{Grows}
use Rattle.ec_sim_world_laws.specs.closing.Closing.{IsTyped}
use Rattle.ec_sim_world_laws.proofs.closing_lemmas.Lists.{none_not}
use Rattle.ec_sim_world_laws.proofs.growth_lemmas.Rules.{begins_further}
use Rattle.ec_sim_world_laws.proofs.known_lemmas.EntriesTables.{put_twice}
use Rattle.ec_sim_world_laws.proofs.known_lemmas.SitesRules.{counts_one, counts_same}
use Rattle.ec_sim_world_laws.proofs.known_lemmas.WalkFinds.{params_find}
use Rattle.ec_sim_program_laws.proofs.types_lemmas.Fits.{FitsTop}
use Rattle.ec_sim_program_laws.proofs.types_lemmas.Programs.{params_types, outside_typed}
use Rattle.ec_sim_program_laws.proofs.types_lemmas.Rules.{Sound, Shallow, shallow_before, put_typed}
use Rattle.ec_sim_program_laws.specs.types.Types.{AreAllTyped}
use Rattle.ec_sound_defs.specs.Sound.{Signature, MayEnd}
use Rattle.ec_sound_defs.specs.Written.{library_atoms}
use Rattle.ec_sound_form_laws.specs.Names.{gives_of, signature_of, EntryStands}
use Rattle.ec_sound_statement_laws.specs.Sites.{NamesStand, ScopesStand, in_scope, Room}
use Rattle.ec_sound_statement_laws.proofs.Functions.{params_count}
use Rattle.ec_sound_statement_laws.proofs.Names.{find_put_other}
use Rattle.ec_sound_statement_laws.proofs.Sites.{names_put, names_grow, scopes_grow, scope_kept, room_kept, sites_stand}
use Rattle.ec_sim_host_laws.proofs.reference_lemmas.Parts.{texts_equal}
use Rattle.ec_sound_program_laws.specs.Plain.{BodyIsPlain}
use Rattle.ec_sound_program_laws.specs.Standing.{Free, IsGood, IsKnown}
use Rattle.ec_sound_program_laws.proofs.Declarations.{free_with}
use Rattle.ec_sound_program_laws.proofs.Ends.{Ends, ends, left_grows, listed_sites, listed_counts, placed_counts, listed_begins, listed_outer, named}
use Rattle.ec_sound_program_laws.proofs.Heads.{place_of, head, head_run, head_names, behind, by_parts, head_clean, CleanParts, clean_parts, unfinished, opened, placed, listed, entry, inside}
use Rattle.ec_sound_program_laws.proofs.Making.{made_of, made_behind, signatures_by, MakesSound, made_sound}
use Rattle.ec_sound_program_laws.proofs.Parameters.{parameters_free}
use Rattle.ec_sound_program_laws.proofs.Typed.{checked_head, checked_behind, head_types, behind_types, function_types}

-- ---- names that are not reserved

free_names : (name : Text) (own : EntryData) (w z : World) → z.here.names ≡ put name own w.here.names → z.outer ≡ w.outer → is_reserved name ≡ false → Free w → Free z
free_names name own w z here outer r free x e is =
    free_with name own w r free x e ((λ j. or_else (find x (sym here j)) (look_up_in (sym outer j) x)) ∙ is)

outside_other : (name : Text) (own : EntryData) (ss : List ScopeData) (x : Text) (e : EntryData) → same_text x name ≡ false → look_up_in (put_outside name own ss) x ≡ Some e → look_up_in ss x ≡ Some e
outside_other name own [] x e other is = is
outside_other name own (s ∷ ss) x e other is = (λ j. or_else (sym (find_put_other x name own s.names other) j) (look_up_in ss x)) ∙ is

free_outside : (name : Text) (own : EntryData) (w : World) → is_reserved name ≡ false → Free w → Free (record w { outer = put_outside name own w.outer })
free_outside name own w r free x e is = go (same_text x name) refl
  where
    further : (o : Option EntryData) → same_text x name ≡ false → or_else o (look_up_in (put_outside name own w.outer) x) ≡ Some e → or_else o (look_up_in w.outer x) ≡ Some e
    further None other is = outside_other name own w.outer x e other is
    further (Some a) other is = is

    go : (b : Bool) → same_text x name ≡ b → is_reserved x ≡ false
    go true same = ap is_reserved (texts_equal x name same) ∙ r
    go false other = free x e (further (find x w.here.names) other is)

-- ---- behind its result

zero_more : (n : ℕ) → 0 + n ≡ n
zero_more n = omega (arith)

none_made : (n : ℕ) → 0 + (n + 0) ≡ n
none_made n = omega (arith)

no_less : (m n : ℕ) → m ≤ m + n
no_less m n = omega (arith)

module _ (gs : List Signature) (calls : List LibraryCall) (written : Bool) where
  -- where it is defined, it has its signature
  abbrev Agrees : FuncData → Place → Option TyData → Storage → World → Type 0
  Agrees f at r s w = is_some (find f.name s.defined) ≡ true → slice_get gs (place_in f.name s.defined) ≡ Some (signature_of r (listed f at r s w).answer)

  opened_good : (f : FuncData) (at : Place) (r : Option TyData) (s : Storage) (w : World) → IsTyped r → is_reserved f.name ≡ false → IsGood written w → IsGood written (opened f at r s w)
  opened_good f at r s w typed reserved good =
      let first = unfinished f at r s w in
      record {
        is_written = good.is_written;
        sound = record { here = λ x e is. none_not is; outer = (put_typed f.name first w.here.names (typed, tt) good.sound.here, good.sound.outer); structs = good.sound.structs };
        free = λ x e is. free_with f.name first w reserved good.free x e is;
      }

  -- behind its parameters
  inside_good : (es : List EmbData) (f : FuncData) (at : Place) (r : Option TyData) (s : Storage) (w : World) → IsTyped r → FitsTop (func_top f) → CleanParts es f at r s w → IsGood written w → Shallow (listed f at r s w).world
      → IsGood written (inside f at r s w)
  inside_good es f at r s w typed h clean good shallow =
      let o = opened_good f at r s w typed clean.reserved good in
      let x = placed f at r s w in
      let y = opened f at r s w in
      let found = params_find at (is_some f.body) f.params in
      let same = found.world x y in
      let t = params_types at (is_some f.body) f.params h.2 in
      let p = t.types y o.sound tt clean.parameters (subst (λ v. Shallow v) same shallow) in
      let sound = subst (λ v. Sound v) (sym same) p.0 in
      let all = subst AreAllTyped (sym (found.answer x y)) p.1 in
      let free = subst (λ v. Free v) (sym same) (parameters_free at (is_some f.body) f.params y o.free clean.parameters) in
      record {
        is_written = ap (λ v. v.written) same ∙ (t.growing.grows y).written ∙ good.is_written;
        sound = record { here = sound.here; outer = outside_typed f.name (entry f at r s w) (listed f at r s w).world.outer (typed, all) sound.outer; structs = sound.structs };
        free = free_outside f.name (entry f at r s w) (listed f at r s w).world clean.reserved free;
      }

  inside_known : (es : List EmbData) (f : FuncData) (at : Place) (r : Option TyData) (s : Storage) (w : World) → IsTyped r → FitsTop (func_top f) → CleanParts es f at r s w → IsKnown gs written s w → Shallow (listed f at r s w).world
      → Agrees f at r s w → IsKnown gs written (listed f at r s w).storage (inside f at r s w)
  inside_known es f at r s w typed h clean known shallow agree =
      let x = placed f at r s w in
      let y = opened f at r s w in
      let o = listed f at r s w in
      let n = in_scope x in
      let xs = o.storage.sites in
      let ds = s.defined in
      let sites = listed_sites gs calls written f at in
      let front = listed_begins gs calls written f at r s w in
      let less : in_scope s ≤ n = no_less (in_scope s) (length f.params) in
      let same_scope : in_scope o.storage ≡ n = scope_kept gs sites.makes x y in
      let same_defined : o.storage.defined ≡ ds = sites.makes.defined x y in
      let counts = listed_counts gs calls written f at r s w known.standing.sites in
      let here : NamesStand gs n xs ds o.world.here.names = sites.here x y (placed_counts f at r s w known.standing.sites) (none_made (length f.params)) (λ z e is. none_not is) in
      let stands : EntryStands gs n xs ds f.name (entry f at r s w) = agree in
      let names : NamesStand gs n xs ds (named gs calls written f at r s w).names = subst (λ ns. NamesStand gs n xs ds ns) (sym (put_twice f.name (unfinished f at r s w) (entry f at r s w) w.here.names))
      (names_put gs n xs ds f.name (entry f at r s w) w.here.names stands (names_grow gs (in_scope s) n s.sites xs ds w.here.names less front known.standing.here)) in
      let outer : ScopesStand gs n xs ds (inside f at r s w).outer = subst (λ ss. ScopesStand gs n xs ds ss) (sym (listed_outer gs calls written f at r s w)) (names, scopes_grow gs (in_scope s) n s.sites xs ds w.outer less front known.standing.outer) in
      let found = params_find at (is_some f.body) f.params in
      record {
        good = inside_good es f at r s w typed h clean known.good shallow;
        defined = ap (λ v. v.defined) (found.world x y) ∙ ((params_types at (is_some f.body) f.params h.2).growing.grows y).defined ∙ known.defined ∙ sym same_defined;
        standing = record {
          here = subst (λ k. NamesStand gs k xs o.storage.defined o.world.here.names) (sym same_scope) (subst (λ es. NamesStand gs n xs es o.world.here.names) (sym same_defined) here);
          outer = subst (λ k. ScopesStand gs k xs o.storage.defined (inside f at r s w).outer) (sym same_scope) (subst (λ es. ScopesStand gs n xs es (inside f at r s w).outer) (sym same_defined) outer);
          sites = counts;
        };
      }

  behind_sound : (es : List EmbData) (f : FuncData) (at : Place) (r : Option TyData) (s : Storage) (w : World) → IsTyped r → FitsTop (func_top f) → BodyIsPlain f.body → CleanParts es f at r s w → IsKnown gs written s w → in_scope s ≡ 0
      → Agrees f at r s w → (same_text f.name (codes "main") ≡ true → MayEnd (gives_of r) (value_at_end f.name)) → Shallow (behind es f at r s w).world → IsFront (behind es f at r s w).storage.calls calls
      → MakesSound gs (library_atoms gs calls) (signatures_by f.body (signature_of r (listed f at r s w).answer)) s (behind es f at r s w).storage
  unfolding chain checks ask stored arrange pure enter leave change number_as checked.begin_function checked.know_function
  behind_sound es f at r s w typed h p clean known scope agree main shallow front =
      let x = placed f at r s w in
      let y = opened f at r s w in
      let o = listed f at r s w in
      let z = inside f at r s w in
      let m = made_of es r f.name o.answer f.body o.storage z in
      let sites = listed_sites gs calls written f at in
      let shallow_made : Shallow m.world = shallow_before (left_grows m.world) shallow in
      let b = made_behind gs calls written es r f.name o.answer f.body typed h.3 p o.storage z in
      let shallow_inside : Shallow z = shallow_before b.grows shallow_made in
      let known_inside = inside_known es f at r s w typed h clean known shallow_inside agree in
      let n : in_scope o.storage ≡ length f.params = scope_kept gs sites.makes x y ∙ ap (λ k. k + length f.params) scope ∙ zero_more (length f.params) in
      let made = made_sound gs calls written es r f.name o.answer f.body (length f.params) o.storage z typed h.3 p (params_count at (is_some f.body) f.params x y) main known_inside n clean.body shallow_made front in
      record {
        functions = made.functions;
        are = made.are ∙ ap (λ fs. fs ++ made.functions) (sites.makes.functions x y);
        sound = made.sound;
      }

-- ---- the whole of it

pub function_world : (es : List EmbData) (f : FuncData) (s : Storage) (w : World) → (function_rule es f s w).world ≡ (checked.function_rule es f w).world
unfolding chain pure check_chain check_pure
function_world es f s w = (tops_find es (func_top f ∷ [])).world s w

head_grows : (es : List EmbData) (f : FuncData) → FitsTop (func_top f) → BodyIsPlain f.body → (w : World) → Grows (checked_head f w).world (checked.function_rule es f w).world
unfolding check_chain place
head_grows es f h p w = (behind_types es f (place_of f w) (checked_head f w).answer h p).growing.grows (checked_head f w).world

module _ (gs : List Signature) (calls : List LibraryCall) (written : Bool) where
  -- behind it, where all has types before it and nothing is wrong with it
  pub record FunctionEnds (es : List EmbData) (f : FuncData) (s : Storage) (w : World) (z : Reached (Unit {0})) : Type 0 where
    pub typed : IsTyped (head f s w).answer
    pub shallow : Shallow (head f s w).world
    pub head_found : (checked_head f w).found ≡ []
    pub clean : CleanParts es f (place_of f w) (head f s w).answer (head f s w).storage (head f s w).world
    pub ends : Ends f (place_of f w) (head f s w).answer (head f s w).storage (head f s w).world z
    pub written_same : z.world.written ≡ w.written
    pub defined_same : z.world.defined ≡ w.defined
    pub sound : Sound z.world

  pub function_ends : (es : List EmbData) (f : FuncData) (s : Storage) (w : World) → FitsTop (func_top f) → BodyIsPlain f.body → Sound w → (checked.function_rule es f w).found ≡ [] → Shallow (function_rule es f s w).world
      → FunctionEnds es f s w (function_rule es f s w)
  function_ends es f s w h p sound found shallow =
      let x = (head_run gs calls written 0 0 f h).steps s w in
      let o = head f s w in
      let at = place_of f w in
      let same = function_world es f s w in
      let shallow_end = subst (λ v. Shallow v) same shallow in
      let shallow_head : Shallow (checked_head f w).world = shallow_before (head_grows es f h p w) shallow_end in
      let e = head_clean es f w found in
      let typed = ((head_types f h).types w sound tt e.0 shallow_head).1 in
      let typed_here = subst IsTyped (sym x.answer) typed in
      let all = function_types es f h p in
      record {
        typed = typed_here;
        shallow = subst (λ v. Shallow v) (sym x.world) shallow_head;
        head_found = e.0;
        clean = clean_parts es f at o.answer o.storage o.world ((λ i. (checked_behind es f at (x.answer i) (x.world i)).found) ∙ e.1);
        ends = subst (λ z. Ends f at o.answer o.storage o.world z) (sym (by_parts es f s w)) (ends gs calls written es f at o.answer o.storage o.world typed_here h p);
        written_same = ap (λ v. v.written) same ∙ (all.growing.grows w).written;
        defined_same = ap (λ v. v.defined) same ∙ (all.growing.grows w).defined;
        sound = subst (λ v. Sound v) (sym same) (all.types w sound tt found shallow_end).0;
      }

  -- what it is known as behind it
  abbrev pub known_as : (f : FuncData) (s : Storage) (w : World) → EntryData
  known_as f s w = entry f (place_of f w) (head f s w).answer (head f s w).storage (head f s w).world

  module _ (es : List EmbData) (f : FuncData) (s : Storage) (w : World) (h : FitsTop (func_top f)) (p : BodyIsPlain f.body) (z : Reached (Unit {0})) (x : FunctionEnds es f s w z) where
    pub names_behind : z.world.here.names ≡ put f.name (known_as f s w) w.here.names
    names_behind = x.ends.names ∙ ap (λ ns. put f.name (known_as f s w) ns) (head_names gs calls written f h s w).here

    pub outer_behind : z.world.outer ≡ w.outer
    outer_behind = x.ends.outer ∙ (head_names gs calls written f h s w).outer

    pub calls_behind : IsFront s.calls z.storage.calls
    calls_behind = begins_further s.calls (head f s w).storage.calls z.storage.calls ((head_run gs calls written 0 0 f h).steps s w).calls_grow x.ends.calls_grow

    -- no objects of a function are in scope
    pub scope_behind : in_scope z.storage ≡ in_scope s
    scope_behind = ap (λ b. b.below + b.count) x.ends.block ∙ scope_kept gs (head_run gs calls written 0 0 f h).sites.makes s w

    pub room_behind : Room 0 s → Room 0 z.storage
    room_behind room = subst (λ b. length b.sizes + 0 ≡ b.count) (sym x.ends.block) (room_kept gs (head_run gs calls written 0 0 f h).sites.makes s w room)

    pub defined_behind : z.storage.defined ≡ s.defined
    defined_behind = x.ends.defined ∙ (head_run gs calls written 0 0 f h).sites.makes.defined s w

    pub known_behind : IsKnown gs written s w → EntryStands gs (in_scope s) s.sites s.defined f.name (known_as f s w) → IsKnown gs written z.storage z.world
    known_behind known stands =
        let sites = (head_run gs calls written 0 0 f h).sites in
        let o = head f s w in
        let n = in_scope s in
        let xs = z.storage.sites in
        let ds = s.defined in
        let front = begins_further s.sites o.storage.sites xs (sites.leads.begins s w) x.ends.sites in
        let counts = counts_same (length o.storage.sites) (length o.world.types) (sites.leads.counts s w (counts_one (length s.sites) (length w.types) known.standing.sites)) in
        let here : NamesStand gs n xs ds z.world.here.names = subst (λ ns. NamesStand gs n xs ds ns) (sym names_behind) (names_put gs n xs ds f.name (known_as f s w) w.here.names stands
        (names_grow gs n n s.sites xs ds w.here.names (itself n) front known.standing.here)) in
        let outer : ScopesStand gs n xs ds z.world.outer = subst (λ ss. ScopesStand gs n xs ds ss) (sym outer_behind) (scopes_grow gs n n s.sites xs ds w.outer (itself n) front known.standing.outer) in
        record {
          good = record {
            is_written = x.written_same ∙ known.good.is_written;
            sound = x.sound;
            free = free_names f.name (known_as f s w) w z.world names_behind outer_behind x.clean.reserved known.good.free;
          };
          defined = x.defined_same ∙ known.defined ∙ sym defined_behind;
          standing = record {
            here = subst (λ k. NamesStand gs k xs z.storage.defined z.world.here.names) (sym scope_behind) (subst (λ es. NamesStand gs n xs es z.world.here.names) (sym defined_behind) here);
            outer = subst (λ k. ScopesStand gs k xs z.storage.defined z.world.outer) (sym scope_behind) (subst (λ es. ScopesStand gs n xs es z.world.outer) (sym defined_behind) outer);
            sites = x.ends.counts counts;
          };
        }
      where
        itself : (n : ℕ) → n ≤ n
        itself n = omega (arith)

  -- what is made of it is sound
  pub function_sound : (es : List EmbData) (f : FuncData) (s : Storage) (w : World) → FitsTop (func_top f) → BodyIsPlain f.body → FunctionEnds es f s w (function_rule es f s w) → IsKnown gs written s w → in_scope s ≡ 0 → Room 0 s
      → EntryStands gs (in_scope s) s.sites s.defined f.name (known_as f s w) → (same_text f.name (codes "main") ≡ true → MayEnd (gives_of (head f s w).answer) (value_at_end f.name))
      → Shallow (function_rule es f s w).world → IsFront (function_rule es f s w).storage.calls calls
      → MakesSound gs (library_atoms gs calls) (signatures_by f.body (signature_of (head f s w).answer (listed f (place_of f w) (head f s w).answer (head f s w).storage (head f s w).world).answer)) s (function_rule es f s w).storage
  function_sound es f s w h p x known scope room stands main shallow front =
      let run = head_run gs calls written 0 0 f h in
      let step = run.steps s w in
      let o = head f s w in
      let at = place_of f w in
      let z = function_rule es f s w in
      let same : z ≡ behind es f at o.answer o.storage o.world = by_parts es f s w in
      let kept = step.fits known scope room tt x.head_found x.shallow (begins_further o.storage.calls z.storage.calls calls x.ends.calls_grow front) in
      let same_defined : o.storage.defined ≡ s.defined = run.sites.makes.defined s w in
      let known_head : IsKnown gs written o.storage o.world = record {
        good = kept.0;
        defined = step.grows.defined ∙ known.defined ∙ sym same_defined;
        standing = (sites_stand gs run.sites).standing s w known.standing room;
      } in
      let agree = subst (λ ds. is_some (find f.name ds) ≡ true → slice_get gs (place_in f.name ds) ≡ Some (signature_of o.answer (listed f at o.answer o.storage o.world).answer)) (sym same_defined) stands in
      let made = behind_sound gs calls written es f at o.answer o.storage o.world x.typed h p x.clean known_head (scope_kept gs run.sites.makes s w ∙ scope) agree main (subst (λ q. Shallow q.world) same shallow) (subst (λ q. IsFront q.storage.calls calls) same front) in
      record {
        functions = made.functions;
        are = ap (λ q. q.storage.functions) same ∙ made.are ∙ ap (λ fs. fs ++ made.functions) (run.sites.makes.functions s w);
        sound = made.sound;
      }
