-- No two definitions of a program without a violation have one name, so each name is at the place of its definition.
use Rattle.std.proofs.Common.{◌≡◌, ◌∙◌, ℕ, Bool, true, false, not, ◌||◌, ◌&&◌, List, [], ◌∷◌, ◌++◌, refl, sym, ap, subst, Option, Some, None, eq-eqb, if◌then◌else◌}
use Rattle.std.specs.Prelude.{slice_get, is_some}
use Rattle.ec_base.specs.declared.fault.FaultKind.TheVariants.{F10, F12}
use Rattle.ec_ctypes.specs.trees.Types.{TyData}
use Rattle.ec_ctypes.specs.trees.Exprs.{DeclaratorData, declarator, DeclaratorList, no_declarators, declarators, DeclData, decl}
use Rattle.ec_ctypes.specs.trees.Stmts.{StmtList}
use Rattle.ec_ctypes.specs.trees.Embedded.{EmbData}
use Rattle.ec_ctypes.specs.trees.Units.{FuncData, TopData, include_top, directive_top, decl_top, func_top, mark_top}
use Rattle.ec_language.specs.Letters.{Text, same_text}
use Rattle.ec_language.proofs.Marks.{same_text_is}
use Rattle.ec_typing_defs.specs.Tables.{Named, find, put}
use Rattle.ec_typing_defs.specs.Known.{is_reserved}
use Rattle.ec_typing_defs.specs.Expressions.{is_varchar, has_init}
use Rattle.ec_typing_defs.specs.Operands.{within_rule}
use Rattle.ec_typing_defs.specs.Statements.{type_or_void, initial, object_item, object_items, declaration}
use Rattle.ec_typing_defs.specs.Programs.{is_done, may_follow, directive_rule, top_rule, tops_rule, function_rule}
use Rattle.ec_typing_defs.specs.Worlds.{Place, EntryData, object, function, World, Rule, chain, ask, change, demand, next_number, with_name, free_name, declare, know_better, number_as}
use Rattle.ec_sim_world_laws.proofs.growth_lemmas.Rules as growth
use Rattle.ec_sim_world_laws.proofs.known_lemmas.EntriesTables.{put_twice}
use Rattle.ec_sim_world_laws.proofs.known_lemmas.NamesRules as names
use Rattle.ec_sim_world_laws.proofs.known_lemmas.NamesRules.{Staying, place_stays}
use Rattle.ec_sim_world_laws.proofs.known_lemmas.NamesOperands.{within_stays}
use Rattle.ec_sim_world_laws.proofs.known_lemmas.NamesEmbedded.{embedded_stays}
use Rattle.ec_sim_world_laws.proofs.known_lemmas.NamesStatements.{object_stays, initial_stays, type_stays, specifier_stays}
use Rattle.ec_sound_statement_laws.specs.Scopes.{IsKnownAs}
use Rattle.ec_sound_statement_laws.specs.Functions.{if_defined, definitions}
use Rattle.ec_sound_statement_laws.proofs.Scopes.{both_none, demanded, function_known}

-- ---- tables

pub same_self : (w : Text) → same_text w w ≡ true
same_self [] = refl
same_self (b ∷ w) = subst (λ c. (c && same_text w w) ≡ true) (sym (eq-eqb b b refl)) (same_self w)

pub find_put_same : {V : Type 0} (name : Text) (v : V) (es : Named V) → find name (put name v es) ≡ Some v
find_put_same {V} name v [] = λ i. if same_self name i then Some v else None
find_put_same {V} name v (e ∷ es) = go (same_text name e.0) refl (find_put_same name v es)
  where
    go : (b : Bool) → same_text name e.0 ≡ b → find name (put name v es) ≡ Some v → find name (if b then (e.0, v) ∷ es else e ∷ put name v es) ≡ Some v
    go true same rest = λ i. if same i then Some v else find name es
    go false other rest = (λ i. if other i then Some e.1 else find name (put name v es)) ∙ rest

pub find_put_other : {V : Type 0} (x name : Text) (v : V) (es : Named V) → same_text x name ≡ false → find x (put name v es) ≡ find x es
find_put_other {V} x name v [] other = λ i. if other i then Some v else None
find_put_other {V} x name v (e ∷ es) other = go (same_text name e.0) refl (find_put_other x name v es other)
  where
    elsewhere : same_text name e.0 ≡ true → same_text x e.0 ≡ false
    elsewhere same = subst (λ n. same_text x n ≡ false) (same_text_is name e.0 same) other

    go : (b : Bool) → same_text name e.0 ≡ b → find x (put name v es) ≡ find x es → find x (if b then (e.0, v) ∷ es else e ∷ put name v es) ≡ find x (e ∷ es)
    go true same rest = (λ i. if elsewhere same i then Some v else find x es) ∙ (λ i. if sym (elsewhere same) i then Some e.1 else find x es)
    go false differs rest = λ i. if same_text x e.0 then Some e.1 else rest i

-- a name that isn't there goes last
pub put_new : {V : Type 0} (name : Text) (v : V) (es : Named V) → is_some (find name es) ≡ false → put name v es ≡ es ++ (name, v) ∷ []
put_new {V} name v [] e = refl
put_new {V} name v (x ∷ es) e = go (same_text name x.0) e (λ h. put_new name v es h)
  where
    go : (b : Bool) → is_some (if b then Some x.1 else find name es) ≡ false → (is_some (find name es) ≡ false → put name v es ≡ es ++ (name, v) ∷ []) → (if b then (x.0, v) ∷ es else x ∷ put name v es) ≡ x ∷ es ++ (name, v) ∷ []
    go true e rest = absurd (cc)
    go false e rest = ap (λ ys. x ∷ ys) (rest e)

-- ---- file level

-- no scope is open, and each of these names stands for a function that is defined so far
pub record FileLevel (ds : Named (Unit {0})) (w : World) : Type 0 where
  pub outer : w.outer ≡ []
  pub done : (x : Text) → is_some (find x ds) ≡ true → is_done (find x w.here.names) ≡ true

done_is_some : (o : Option EntryData) → is_done o ≡ true → is_some o ≡ true
done_is_some None e = absurd (cc)
done_is_some (Some x) e = refl

negated : (b : Bool) → not b ≡ true → b ≡ false
negated true e = absurd (cc)
negated false e = refl

not_both : {C : Type 0} (b : Bool) → b ≡ true → b ≡ false → C
not_both b e f = absurd (cc)

-- where names and scopes are as they were
same_level : (ds : Named (Unit {0})) (w z : World) → z.here.names ≡ w.here.names → z.outer ≡ w.outer → FileLevel ds w → FileLevel ds z
same_level ds w z here outer h = record {
  outer = outer ∙ h.outer;
  done = λ x e. subst (λ ns. is_done (find x ns) ≡ true) (sym here) (h.done x e);
}

-- where a new name stands for an object
object_level : (ds : Named (Unit {0})) (w z : World) (name : Text) (entry : EntryData) → z.here.names ≡ put name entry w.here.names → z.outer ≡ w.outer
    → is_some (find name w.here.names) ≡ false → FileLevel ds w → FileLevel ds z
object_level ds w z name entry here outer new h = record { outer = outer ∙ h.outer; done = λ x e. subst (λ ns. is_done (find x ns) ≡ true) (sym here) (go x e (same_text x name) refl) }
  where
    go : (x : Text) → is_some (find x ds) ≡ true → (b : Bool) → same_text x name ≡ b → is_done (find x (put name entry w.here.names)) ≡ true
    go x e true same = not_both (is_some (find x w.here.names)) (done_is_some (find x w.here.names) (h.done x e)) (subst (λ n. is_some (find n w.here.names) ≡ false) (sym (same_text_is x name same)) new)
    go x e false other = subst (λ o. is_done o ≡ true) (sym (find_put_other x name entry w.here.names other)) (h.done x e)

-- ---- declarations

pub declared_world : (at : Place) (name : Text) (entry : EntryData) (w : World) → (declare at name entry w).world ≡ with_name name entry w
unfolding declare free_name chain ask change
declared_world at name entry w = growth.demand_same at F12 (not (is_reserved name)) (demand at F10 (not (is_some (find name w.here.names))) (with_name name entry w)).world
    ∙ growth.demand_same at F10 (not (is_some (find name w.here.names))) (with_name name entry w)

pub declared_new : (at : Place) (name : Text) (entry : EntryData) (w : World) → (declare at name entry w).found ≡ [] → is_some (find name w.here.names) ≡ false
unfolding declare free_name chain ask change
declared_new at name entry w found =
    let b = is_some (find name w.here.names) in
    let d = demand at F10 (not b) (with_name name entry w) in
    negated b (demanded at F10 (not b) (with_name name entry w) (both_none d.found (demand at F12 (not (is_reserved name)) d.world).found found).0)

-- what is found where nothing is wrong with a rule and the next
pub first_none : {A B : Type 0} (m : Rule A) (f : A → Rule B) (w : World) → (chain m f w).found ≡ [] → (m w).found ≡ []
unfolding chain
first_none m f w e = (both_none (m w).found (f (m w).answer (m w).world).found e).0

pub second_none : {A B : Type 0} (m : Rule A) (f : A → Rule B) (w : World) → (chain m f w).found ≡ [] → (f (m w).answer (m w).world).found ≡ []
unfolding chain
second_none m f w e = (both_none (m w).found (f (m w).answer (m w).world).found e).1

record Walks (ds es : Named (Unit {0})) {A : Type 0} (m : Rule A) : Type 0 where
  walks : (w : World) → FileLevel ds w → (m w).found ≡ [] → FileLevel es (m w).world

chained : {ds es fs : Named (Unit {0})} {A B : Type 0} {m : Rule A} {f : A → Rule B} → Walks ds es m → ((a : A) → Walks es fs (f a)) → Walks ds fs (chain m f)
unfolding chain
chained {m = m} {f = f} h k = record {
  walks = λ w level found.
      let e = both_none (m w).found (f (m w).answer (m w).world).found found in
      (k (m w).answer).walks (m w).world (h.walks w level e.0) e.1;
}

stay : {ds : Named (Unit {0})} {A : Type 0} {m : Rule A} → Staying m → Walks ds ds m
stay {ds} {m = m} h = record { walks = λ w level found. same_level ds w (m w).world (h.stays w).here (h.stays w).outer level }

-- behind the type of a declarator
abbrev pub item_behind : Place → Bool → DeclaratorData → Option TyData → Rule (Unit {0})
item_behind at global (declarator stars name ns init) before =
    chain (ask next_number) (λ k. chain (declare at name (object k global before)) (λ _. chain (initial at global before init) (λ ty. chain (within_rule at ty) (λ _. chain (know_better name (object k global ty)) (λ _. number_as (type_or_void ty))))))

behind_walks : {ds : Named (Unit {0})} (at : Place) (global : Bool) (d : DeclaratorData) (before : Option TyData) → Walks ds ds (item_behind at global d before)
unfolding chain ask change know_better number_as
behind_walks {ds} at global (declarator stars name ns init) before = record {
  walks = λ w level found.
      let first = object (next_number w) global before in
      let d = declare at name first w in
      let x = with_name name first w in
      let i = initial at global before init d.world in
      let y = (within_rule at i.answer i.world) in
      let last = object (next_number w) global i.answer in
      let s = (initial_stays at global before init).stays d.world in
      let t = (within_stays at i.answer).stays i.world in
      let e = declared_world at name first w in
      object_level ds w (item_behind at global (declarator stars name ns init) before w).world name last
      (ap (λ ns. put name last ns) (t.here ∙ s.here ∙ ap (λ v. v.here.names) e) ∙ put_twice name first last w.here.names)
      (t.outer ∙ s.outer ∙ ap (λ v. v.outer) e)
      (declared_new at name first w (both_none d.found (i.found ++ (y.found ++ [])) found).0) level;
}

item_walks : {ds : Named (Unit {0})} (at : Place) (global v : Bool) (t : Option TyData) (d : DeclaratorData) → Walks ds ds (object_item at global v t d)
item_walks at global v t (declarator stars name ns init) =
    chained (stay (type_stays at v t stars name ns)) (λ whole. chained (stay (within_stays at whole)) (λ a. chained (stay (object_stays at (has_init init) whole)) (λ before. behind_walks at global (declarator stars name ns init) before)))

items_walk : {ds : Named (Unit {0})} (at : Place) (global v : Bool) (t : Option TyData) (is : DeclaratorList) → Walks ds ds (object_items at global v t is)
items_walk at global v t no_declarators = stay (names.pure_stays _)
items_walk at global v t (declarators d is) = chained (item_walks at global v t d) (λ a. items_walk at global v t is)

declaration_walks : {ds : Named (Unit {0})} (global : Bool) (d : DeclData) → Walks ds ds (declaration global d)
declaration_walks global (decl b items section line) = chained (stay (place_stays line)) (λ at. chained (stay (specifier_stays at b items)) (λ t. items_walk at global (is_varchar b) t items))

-- ---- functions

abbrev with_own : Option StmtList → FuncData → Named (Unit {0}) → Named (Unit {0})
with_own None f ds = ds
with_own (Some ss) f ds = put f.name tt ds

abbrev name_is_new : Option StmtList → FuncData → Named (Unit {0}) → Type 0
name_is_new None f ds = Unit {0}
name_is_new (Some ss) f ds = is_some (find f.name ds) ≡ false

not_done : (b : Bool) (r : Option TyData) (ps : List (Option TyData)) (o : Option EntryData) → b ≡ true → may_follow b r ps o ≡ true → is_done o ≡ false
not_done b r ps None t e = refl
not_done b r ps (Some (object k global s)) t e = refl
not_done b r ps (Some (function k true s None)) t e = absurd (cc)
not_done b r ps (Some (function k false s None)) t e = refl
not_done b r ps (Some (function k true s (Some qs))) t e = absurd (cc)
not_done b r ps (Some (function k false s (Some qs))) t e = refl

either_right : (a : Bool) → (a || true) ≡ true
either_right true = refl
either_right false = refl

either_left : (a b : Bool) → a ≡ true → (a || b) ≡ true
either_left a b e = ap (λ c. c || b) e

if_found : (a b : Bool) → a ≡ true → a ≡ b → b ≡ true
if_found a b e f = sym f ∙ e

module _ (f : FuncData) (w z : World) (h : IsKnownAs f w z) (ds : Named (Unit {0})) (level : FileLevel ds w) where
  abbrev known : EntryData
  known = function h.number (is_done (find f.name w.here.names) || is_some f.body) h.result (Some h.parameters)

  -- another name is as it was
  done_other : (x : Text) → same_text x f.name ≡ false → is_some (find x ds) ≡ true → is_done (find x z.here.names) ≡ true
  done_other x other e = subst (λ ns. is_done (find x ns) ≡ true) (sym h.names) (subst (λ o. is_done o ≡ true) (sym (find_put_other x f.name known w.here.names other)) (level.done x e))

  done_same : (x : Text) → same_text x f.name ≡ true → (is_done (find f.name w.here.names) || is_some f.body) ≡ true → is_done (find x z.here.names) ≡ true
  done_same x same e = subst (λ n. is_done (find n z.here.names) ≡ true) (sym (same_text_is x f.name same))
      (subst (λ ns. is_done (find f.name ns) ≡ true) (sym h.names) (subst (λ o. is_done o ≡ true) (sym (find_put_same f.name known w.here.names)) e))

  function_level : (b : Option StmtList) → f.body ≡ b → FileLevel (with_own b f ds) z
  function_level None is = record { outer = h.outer ∙ level.outer; done = λ x e. go x e (same_text x f.name) refl }
    where
      go : (x : Text) → is_some (find x ds) ≡ true → (c : Bool) → same_text x f.name ≡ c → is_done (find x z.here.names) ≡ true
      go x e true same = done_same x same (either_left (is_done (find f.name w.here.names)) (is_some f.body) (subst (λ n. is_done (find n w.here.names) ≡ true) (same_text_is x f.name same) (level.done x e)))
      go x e false other = done_other x other e
  function_level (Some ss) is = record { outer = h.outer ∙ level.outer; done = λ x e. go x e (same_text x f.name) refl }
    where
      go : (x : Text) → is_some (find x (put f.name tt ds)) ≡ true → (c : Bool) → same_text x f.name ≡ c → is_done (find x z.here.names) ≡ true
      go x e true same = done_same x same (subst (λ o. (is_done (find f.name w.here.names) || is_some o) ≡ true) (sym is) (either_right (is_done (find f.name w.here.names))))
      go x e false other = done_other x other (subst (λ o. is_some o ≡ true) (find_put_other x f.name tt ds other) e)

  function_new : (b : Option StmtList) → f.body ≡ b → name_is_new b f ds
  function_new None is = tt
  function_new (Some ss) is = go (is_some (find f.name ds)) refl
    where
      before_is : is_done (find f.name w.here.names) ≡ false
      before_is = not_done (is_some f.body) h.result h.parameters (find f.name w.here.names) (ap (λ o. is_some o) is) h.follows

      go : (c : Bool) → is_some (find f.name ds) ≡ c → is_some (find f.name ds) ≡ false
      go true e = not_both (is_done (find f.name w.here.names)) (level.done f.name e) before_is
      go false e = e

-- ---- programs

directive_stays : (es : List EmbData) (n : ℕ) (e : Option EmbData) → Staying (directive_rule es n e)
directive_stays es n None = names.pure_stays _
directive_stays es n (Some e) = names.chained (place_stays e.line) (λ at. embedded_stays es false false [] at n e)

-- each name is new where it is defined
abbrev pub AreNew : List FuncData → Named (Unit {0}) → Type 0
AreNew [] ds = Unit {0}
AreNew (f ∷ fs) ds = (is_some (find f.name ds) ≡ false) × AreNew fs (put f.name tt ds)

own_new : (b : Option StmtList) (f : FuncData) (fs : List FuncData) (ds : Named (Unit {0})) → name_is_new b f ds → AreNew fs (with_own b f ds) → AreNew (if_defined b f ++ fs) ds
own_new None f fs ds n h = h
own_new (Some ss) f fs ds n h = (n, h)

pub tops_new : (es : List EmbData) (ts : List TopData) (ds : Named (Unit {0})) (w : World) → FileLevel ds w → (tops_rule es ts w).found ≡ [] → AreNew (definitions ts) ds
tops_new es [] ds w level found = tt
tops_new es (include_top bytes ∷ ts) ds w level found =
    tops_new es ts ds (top_rule es (include_top bytes) w).world ((stay (names.pure_stays _)).walks w level (first_none (top_rule es (include_top bytes)) (λ _. tops_rule es ts) w found)) (second_none (top_rule es (include_top bytes)) (λ _. tops_rule es ts) w found)
tops_new es (directive_top n ∷ ts) ds w level found =
    tops_new es ts ds (top_rule es (directive_top n) w).world ((stay (directive_stays es n (slice_get es n))).walks w level (first_none (top_rule es (directive_top n)) (λ _. tops_rule es ts) w found)) (second_none (top_rule es (directive_top n)) (λ _. tops_rule es ts) w found)
tops_new es (decl_top d ∷ ts) ds w level found =
    tops_new es ts ds (top_rule es (decl_top d) w).world ((declaration_walks true d).walks w level (first_none (top_rule es (decl_top d)) (λ _. tops_rule es ts) w found)) (second_none (top_rule es (decl_top d)) (λ _. tops_rule es ts) w found)
tops_new es (func_top f ∷ ts) ds w level found =
    let z = (function_rule es f w).world in
    let h = function_known es f w (first_none (top_rule es (func_top f)) (λ _. tops_rule es ts) w found) in
    own_new f.body f (definitions ts) ds (function_new f w z h ds level f.body refl)
    (tops_new es ts (with_own f.body f ds) z (function_level f w z h ds level f.body refl) (second_none (top_rule es (func_top f)) (λ _. tops_rule es ts) w found))
tops_new es (mark_top opens line ∷ ts) ds w level found =
    tops_new es ts ds (top_rule es (mark_top opens line) w).world ((stay (names.pure_stays _)).walks w level (first_none (top_rule es (mark_top opens line)) (λ _. tops_rule es ts) w found)) (second_none (top_rule es (mark_top opens line)) (λ _. tops_rule es ts) w found)
