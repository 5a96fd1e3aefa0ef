-- Names stand for what is declared, behind a declaration too.
use Rattle.std.proofs.Common.{◌≡◌, ◌⊎◌, inl, inr, ℕ, Bool, true, false, not, List, [], ◌∷◌, ◌++◌, length, Option, Some, None, refl, sym, ap, subst, ◌∙◌}
use Rattle.std.specs.Prelude.{slice_get, is_some}
use Rattle.ec_base.specs.declared.fault.FaultKind.TheVariants.{F10, F12, F14}
use Rattle.ec_ctypes.specs.trees.Types.{TyData, void, arithmetic, pointer, array, structure}
use Rattle.ec_ctypes.specs.trees.Exprs.{InitOption, DeclaratorData, declarator, DeclaratorList, no_declarators, declarators, DeclData, decl}
use Rattle.ec_ctypes.specs.trees.Units.{ParamData, UnitData}
use Rattle.ec_host_defs.specs.Programs.{is_among}
use Rattle.ec_language.specs.Letters.{Text}
use Rattle.ec_host_defs.specs.sections.Declared.{functions_of}
use Rattle.ec_typing_defs.specs.Expressions.{is_varchar, has_init}
use Rattle.ec_typing_defs.specs.Known.{is_reserved}
use Rattle.ec_typing_defs.specs.Operands.{within_rule}
use Rattle.ec_typing_defs.specs.Programs.{param_type, declare_param, param, params, begin_function, put_outside, know_function}
use Rattle.ec_typing_defs.specs.Statements.{type_or_void, initial, object_item, object_items, declaration}
use Rattle.ec_typing_defs.specs.Tables.{Named, find, put}
use Rattle.ec_typing_defs.specs.Worlds.{Place, EntryData, object, function, ScopeData, World, Rule, chain, pure, ask, change, demand, with_name, left_to, entered, enter, leave, free_name, declare, know_better, next_number, number_as}
use Rattle.ec_sim_world_laws.specs.growth.Growth.{is_unlisted, Grows}
use Rattle.ec_sim_world_laws.proofs.growth_lemmas.Rules as growth
use Rattle.ec_sim_world_laws.proofs.growth_lemmas.Rules.{Growing, stays_in_front}
use Rattle.ec_sim_world_laws.proofs.growth_lemmas.Expressions.{base_grows, lengths_grow}
use Rattle.ec_sim_world_laws.proofs.growth_lemmas.Operands.{elements_grows, within_grows}
use Rattle.ec_sim_world_laws.proofs.closing_lemmas.Lists.{none_not, get_last}
use Rattle.ec_sim_world_laws.specs.place.Structs.{IsListed, EachStruct, EachStructIn}
use Rattle.ec_sim_world_laws.specs.known.Known.{IsEntry, AreEntries, InScopes}
use Rattle.ec_sim_world_laws.proofs.known_lemmas.NamesRules.{stay_further, Staying, place_stays}
use Rattle.ec_sim_world_laws.proofs.known_lemmas.NamesExpressions.{base_stays, lengths_stay}
use Rattle.ec_sim_world_laws.proofs.known_lemmas.NamesOperands.{elements_stays, within_stays}
use Rattle.ec_sim_world_laws.proofs.known_lemmas.NamesStatements.{object_stays, initial_stays, type_stays, specifier_stays, param_type_stays}
use Rattle.ec_sim_world_laws.proofs.known_lemmas.EntriesTables.{find_put, put_twice}
use Rattle.ec_sim_world_laws.proofs.known_lemmas.EntriesTypes.{IsObject, object_gives, initial_gives, IsNoArray, base_gives, param_gives}
use Rattle.ec_sim_world_laws.proofs.known_lemmas.WorldsGrow.{object_grows, initial_grows, type_grows, specifier_grows, param_type_grows, declare_param_grows}

-- ---- where what is known grows

each_struct : (P Q : ℕ → Type 0) → ((k : ℕ) → P k → Q k) → (t : TyData) → EachStruct P t → EachStruct Q t
each_struct P Q f void h = tt
each_struct P Q f (arithmetic a) h = tt
each_struct P Q f (pointer t) h = tt
each_struct P Q f (array t n) h = each_struct P Q f t h
each_struct P Q f (structure k) h = f k h

each_struct_in : (P Q : ℕ → Type 0) → ((k : ℕ) → P k → Q k) → (t : Option TyData) → EachStructIn P t → EachStructIn Q t
each_struct_in P Q f None h = tt
each_struct_in P Q f (Some t) h = each_struct P Q f t h

pub listed_grows : (w z : World) → Grows w z → (k : ℕ) → IsListed w k → IsListed z k
listed_grows w z g k h = record { info = h.info; is = g.structs k h.info h.is (λ i. is_unlisted (h.are i)); members = h.members; are = h.are }

pub object_grown : (w z : World) → Grows w z → (t : Option TyData) → IsObject (IsListed w) t → IsObject (IsListed z) t
object_grown w z g t h = (each_struct_in (IsListed w) (IsListed z) (listed_grows w z g) t h.0, h.1)

entry_grows : (u : UnitData) (w z : World) → Grows w z → (e : EntryData) → IsEntry u w e → IsEntry u z e
entry_grows u w z g (object k global t) h = record {
  in_table = ap (λ ts. slice_get ts k) g.types.same ∙ stays_in_front w.types g.types.rest k (type_or_void t) h.in_table;
  are_listed = each_struct_in (IsListed w) (IsListed z) (listed_grows w z g) t h.are_listed;
  no_void = h.no_void;
}
entry_grows u w z g (function k done r ps) h = h

pub entries_grow : (u : UnitData) (w z : World) → Grows w z → (names : Named EntryData) → AreEntries u w names → AreEntries u z names
entries_grow u w z g names h x entry e = entry_grows u w z g entry (h x entry e)

pub scopes_grow : (u : UnitData) (w z : World) → Grows w z → (ss : List ScopeData) → InScopes u w ss → InScopes u z ss
scopes_grow u w z g [] h = tt
scopes_grow u w z g (s ∷ ss) h = (entries_grow u w z g s.names h.0, scopes_grow u w z g ss h.1)

-- ---- what names stand for

pub record HasEntries (u : UnitData) (w : World) : Type 0 where
  pub here : AreEntries u w w.here.names
  pub outer : InScopes u w w.outer

pub entries_stay : (u : UnitData) (w z : World) → Grows w z → z.here.names ≡ w.here.names → z.outer ≡ w.outer → HasEntries u w → HasEntries u z
entries_stay u w z g here outer h = record {
  here = subst (λ ns. AreEntries u z ns) (sym here) (entries_grow u w z g w.here.names h.here);
  outer = subst (λ ss. InScopes u z ss) (sym outer) (scopes_grow u w z g w.outer h.outer);
}

-- one name more, or one that stands for something else
put_entries : (u : UnitData) (w : World) (name : Text) (entry : EntryData) (names : Named EntryData) → IsEntry u w entry → AreEntries u w names → AreEntries u w (put name entry names)
put_entries u w name entry names is h x other e = go (find_put x name entry other names e)
  where
    go : (entry ≡ other) ⊎ (find x names ≡ Some other) → IsEntry u w other
    go (inl same) = subst (λ e. IsEntry u w e) same is
    go (inr found) = h x other found

pub entry_more : (u : UnitData) (w z : World) (name : Text) (entry : EntryData) → Grows w z → z.here.names ≡ put name entry w.here.names → z.outer ≡ w.outer → IsEntry u z entry
    → HasEntries u w → HasEntries u z
entry_more u w z name entry g here outer is h = record {
  here = subst (λ ns. AreEntries u z ns) (sym here) (put_entries u z name entry w.here.names is (entries_grow u w z g w.here.names h.here));
  outer = subst (λ ss. InScopes u z ss) (sym outer) (scopes_grow u w z g w.outer h.outer);
}

-- an object that is the next declaration
pub object_more : (u : UnitData) (w z : World) (name : Text) (global : Bool) (t : Option TyData) → Grows w z → z.here.names ≡ put name (object (length w.types) global t) w.here.names → z.outer ≡ w.outer
    → z.types ≡ w.types ++ type_or_void t ∷ [] → IsObject (IsListed z) t → HasEntries u w → HasEntries u z
object_more u w z name global t g here outer types is h = entry_more u w z name (object (length w.types) global t) g here outer (record {
  in_table = ap (λ ts. slice_get ts (length w.types)) types ∙ get_last w.types (type_or_void t);
  are_listed = is.0;
  no_void = is.1;
}) h

-- ---- by rules

pub record Keeping (u : UnitData) {A : Type 0} (m : Rule A) : Type 0 where
  pub keeps : (w : World) → HasEntries u w → HasEntries u (m w).world

pub chained : {u : UnitData} {A B : Type 0} {m : Rule A} {f : A → Rule B} → Keeping u m → ((a : A) → Keeping u (f a)) → Keeping u (chain m f)
unfolding chain
chained {m = m} {f = f} h k = record { keeps = λ w has. (k (m w).answer).keeps (m w).world (h.keeps w has) }

-- what holds of its answer, and of what is known behind it
pub record Giving {A : Type 0} (Q : World → A → Type 0) (m : Rule A) : Type 0 where
  pub gives : (w : World) → Q (m w).world (m w).answer

pub given : {u : UnitData} {A B : Type 0} {m : Rule A} (f : A → Rule B) (Q : World → A → Type 0) → Keeping u m → Giving Q m → ((a : A) (w : World) → Q w a → HasEntries u w → HasEntries u (f a w).world)
    → Keeping u (chain m f)
unfolding chain
given {m = m} f Q h g k = record { keeps = λ w has. k (m w).answer (m w).world (g.gives w) (h.keeps w has) }

pub pure_keeps : {u : UnitData} {A : Type 0} (a : A) → Keeping u (pure a)
unfolding pure
pure_keeps a = record { keeps = λ w has. has }

-- where names stay, since what is known grows
pub staying : {u : UnitData} {A : Type 0} {m : Rule A} → Growing m → Staying m → Keeping u m
staying {u = u} {m = m} g s = record { keeps = λ w has. entries_stay u w (m w).world (g.grows w) (s.stays w).here (s.stays w).outer has }

-- ---- scopes and functions

pub enter_keeps : (u : UnitData) → Keeping u enter
unfolding enter change
enter_keeps u = record {
  keeps = λ w has. record {
    here = λ x entry e. none_not e;
    outer = (entries_grow u w (entered w) (growth.enter_grows.grows w) w.here.names has.here, scopes_grow u w (entered w) (growth.enter_grows.grows w) w.outer has.outer);
  };
}

leave_grown : (w : World) (ss : List ScopeData) → Grows w (left_to ss w)
leave_grown w [] = growth.named_anew w _ _ w.labels w.places
leave_grown w (s ∷ ss) = growth.named_anew w _ _ w.labels w.places

left_entries : (u : UnitData) (w : World) (ss : List ScopeData) → InScopes u w ss → HasEntries u (left_to ss w)
left_entries u w [] h = record { here = λ x entry e. none_not e; outer = tt }
left_entries u w (s ∷ ss) h = record {
  here = entries_grow u w (left_to (s ∷ ss) w) (leave_grown w (s ∷ ss)) s.names h.0;
  outer = scopes_grow u w (left_to (s ∷ ss) w) (leave_grown w (s ∷ ss)) ss h.1;
}

pub leave_keeps : (u : UnitData) → Keeping u leave
unfolding leave change
leave_keeps u = record { keeps = λ w has. left_entries u w w.outer has.outer }

pub number_keeps : (u : UnitData) (t : TyData) → Keeping u (number_as t)
unfolding number_as change
number_keeps u t = record { keeps = λ w has. entries_stay u w (record w { types = w.types ++ t ∷ [] }) ((growth.number_grows t).grows w) refl refl has }

pub begin_keeps : (u : UnitData) (name : Text) (k : ℕ) (done : Bool) (r : Option TyData) → is_among k (functions_of u) ≡ true → Keeping u (begin_function name (function k done r None))
unfolding begin_function change
begin_keeps u name k done r is = record {
  keeps = λ w has. entry_more u w (with_name name (function k done r None) w) name (function k done r None) (growth.named_anew w _ _ w.labels w.places) refl refl is has;
}

put_outside_entries : (u : UnitData) (w : World) (name : Text) (entry : EntryData) (ss : List ScopeData) → IsEntry u w entry → InScopes u w ss → InScopes u w (put_outside name entry ss)
put_outside_entries u w name entry [] is h = tt
put_outside_entries u w name entry (s ∷ ss) is h = (put_entries u w name entry s.names is h.0, h.1)

pub know_keeps : (u : UnitData) (name : Text) (k : ℕ) (done : Bool) (r : Option TyData) (ps : Option (List (Option TyData))) → is_among k (functions_of u) ≡ true
    → Keeping u (know_function name (function k done r ps))
unfolding know_function change
know_keeps u name k done r ps is = record {
  keeps = λ w has.
      let z = record w { outer = put_outside name (function k done r ps) w.outer } in
      let g = growth.named_anew w w.here (put_outside name (function k done r ps) w.outer) w.labels w.places in
      record {
        here = entries_grow u w z g w.here.names has.here;
        outer = put_outside_entries u z name (function k done r ps) w.outer is (scopes_grow u w z g w.outer has.outer);
      };
}

-- ---- objects

declared_world : (at : Place) (name : Text) (entry : EntryData) (w : World) → (declare at name entry w).world ≡ with_name name entry w
unfolding declare free_name chain ask change
declared_world at name entry w = growth.demand_same at F12 (not (is_reserved name)) (demand at F10 (not (is_some (find name w.here.names))) (with_name name entry w)).world
    ∙ growth.demand_same at F10 (not (is_some (find name w.here.names))) (with_name name entry w)

-- behind the type of a declarator
abbrev item_behind : Place → Bool → Text → InitOption → Option TyData → Rule (Unit {0})
item_behind at global name init before =
    chain (ask next_number) (λ k. chain (declare at name (object k global before)) (λ _. chain (initial at global before init) (λ ty. chain (within_rule at ty) (λ _. chain (know_better name (object k global ty)) (λ _. number_as (type_or_void ty))))))

behind_grows : (at : Place) (global : Bool) (name : Text) (init : InitOption) (before : Option TyData) → Growing (item_behind at global name init before)
behind_grows at global name init before =
    growth.asked _ _ (λ k. growth.chained (growth.declare_grows at name _) (λ b. growth.chained (initial_grows at global before init) (λ ty. growth.chained (within_grows at ty) (λ d. growth.chained (growth.better_grows name _) (λ e. growth.number_grows _)))))

behind_entries : (u : UnitData) (at : Place) (global : Bool) (name : Text) (init : InitOption) (before : Option TyData) (w : World) → IsObject (IsListed w) before → HasEntries u w
    → HasEntries u (item_behind at global name init before w).world
unfolding chain ask change know_better number_as
behind_entries u at global name init before w is has =
    let first = object (length w.types) global before in
    let x = (declare at name first w).world in
    let o = initial at global before init x in
    let y = (within_rule at o.answer o.world).world in
    let last = object (length w.types) global o.answer in
    let z = (item_behind at global name init before w).world in
    let g = (behind_grows at global name init before).grows w in
    let d = declared_world at name first w in
    let p = stay_further x o.world y ((initial_stays at global before init).stays x) ((within_stays at o.answer).stays o.world) in
    object_more u w z name global o.answer g
    (ap (λ ns. put name last ns) (p.here ∙ ap (λ v. v.here.names) d) ∙ put_twice name first last w.here.names)
    (p.outer ∙ ap (λ v. v.outer) d)
    (ap (λ ts. ts ++ type_or_void o.answer ∷ []) (p.types ∙ ap (λ v. v.types) d))
    (object_grown w z g o.answer (initial_gives (IsListed w) at global before init x is))
    has

pub item_keeps : (u : UnitData) (at : Place) (global v : Bool) (t : Option TyData) (d : DeclaratorData) → Keeping u (object_item at global v t d)
item_keeps u at global v t (declarator stars name ns init) =
    chained (staying (type_grows at v t stars name ns) (type_stays at v t stars name ns)) (λ whole. chained (staying (within_grows at whole) (within_stays at whole)) (λ a.
    given _ (λ w before. IsObject (IsListed w) before) (staying (object_grows at (has_init init) whole) (object_stays at (has_init init) whole))
    (record { gives = λ w. object_grown w _ ((object_grows at (has_init init) whole).grows w) _ (object_gives at (has_init init) whole w) })
    (λ before w is has. behind_entries u at global name init before w is has)))

items_keep : (u : UnitData) (at : Place) (global v : Bool) (t : Option TyData) (ds : DeclaratorList) → Keeping u (object_items at global v t ds)
items_keep u at global v t no_declarators = pure_keeps _
items_keep u at global v t (declarators d ds) = chained (item_keeps u at global v t d) (λ a. items_keep u at global v t ds)

pub declaration_keeps : (u : UnitData) (global : Bool) (d : DeclData) → Keeping u (declaration global d)
declaration_keeps u global (decl b items section line) =
    chained (staying (growth.place_grows line) (place_stays line)) (λ at. chained (staying (specifier_grows at b items) (specifier_stays at b items)) (λ t. items_keep u at global (is_varchar b) t items))

-- ---- parameters

abbrev param_behind : Place → Bool → Option Text → Option TyData → Rule (Option TyData)
param_behind at defined name t = chain (ask next_number) (λ k. chain (declare_param at defined name k t) (λ _. chain (number_as (type_or_void t)) (λ _. pure t)))

param_behind_grows : (at : Place) (defined : Bool) (name : Option Text) (t : Option TyData) → Growing (param_behind at defined name t)
param_behind_grows at defined name t = growth.asked _ _ (λ k. growth.chained (declare_param_grows at defined name _ t) (λ a. growth.chained (growth.number_grows _) (λ e. growth.pure_grows _)))

param_entries : (u : UnitData) (at : Place) (defined : Bool) (name : Option Text) (t : Option TyData) (w : World) → IsObject (IsListed w) t → HasEntries u w
    → HasEntries u (param_behind at defined name t w).world
unfolding chain ask change number_as pure
param_entries u at defined None t w is has =
    let z = (param_behind at defined None t w).world in
    let d = growth.demand_same at F14 (not defined) w in
    entries_stay u w z ((param_behind_grows at defined None t).grows w) (ap (λ v. v.here.names) d) (ap (λ v. v.outer) d) has
param_entries u at defined (Some name) t w is has =
    let z = (param_behind at defined (Some name) t w).world in
    let g = (param_behind_grows at defined (Some name) t).grows w in
    let d = declared_world at name (object (length w.types) false t) w in
    object_more u w z name false t g (ap (λ v. v.here.names) d) (ap (λ v. v.outer) d) (ap (λ v. v.types ++ type_or_void t ∷ []) d) (object_grown w z g t is) has

param_keeps : (u : UnitData) (at : Place) (defined : Bool) (q : ParamData) → Keeping u (param at defined q)
param_keeps u at defined q =
    given _ (λ w b. IsNoArray b) (staying (base_grows at q.base) (base_stays at q.base)) (record { gives = λ w. base_gives at q.base w }) (λ b w no_array has.
    (chained (staying (lengths_grow at q.dims) (lengths_stay at q.dims)) (λ sizes. chained (staying (elements_grows at b q.stars sizes) (elements_stays at b q.stars sizes)) (λ a.
    given _ (λ w t. IsObject (IsListed w) t) (staying (param_type_grows at b q.stars sizes) (param_type_stays at b q.stars sizes))
    (record { gives = λ w. param_gives (IsListed (param_type at b q.stars sizes w).world) at b q.stars sizes w no_array })
    (λ t w is has. param_entries u at defined q.name t w is has)))).keeps w has)

pub params_keep : (u : UnitData) (at : Place) (defined : Bool) (qs : List ParamData) → Keeping u (params at defined qs)
params_keep u at defined [] = pure_keeps _
params_keep u at defined (q ∷ qs) = chained (param_keeps u at defined q) (λ t. chained (params_keep u at defined qs) (λ ts. pure_keeps _))
