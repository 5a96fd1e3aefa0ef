-- The place of a name among those that are defined is the place of its definition, and `main` is there.
use Rattle.std.proofs.Common.{◌≡◌, ◌∙◌, ℕ, zero, suc, ◌+◌, Bool, true, false, ◌||◌, ◌&&◌, List, [], ◌∷◌, ◌++◌, length, refl, sym, ap, subst, Option, Some, None, arith, if◌then◌else◌}
use Rattle.std.specs.Prelude.{slice_get, is_some, codes, pos}
use Rattle.ec_ctypes.specs.trees.Stmts.{StmtList}
use Rattle.ec_ctypes.specs.trees.Units.{FuncData, TopData, include_top, directive_top, decl_top, func_top, mark_top, UnitData}
use Rattle.ec_ctypes.specs.trees.Units.{ParamData}
use Rattle.ec_base.specs.declared.fault.FaultKind.TheVariants.{F20}
use Rattle.ec_language.specs.Letters.{Text, same_text}
use Rattle.ec_language.proofs.Marks.{same_text_is}
use Rattle.ec_memory_defs.specs.Memory.{number}
use Rattle.ec_typing_defs.specs.Tables.{Named, find, put}
use Rattle.ec_typing_defs.specs.Answers.{violations}
use Rattle.ec_typing_defs.specs.Programs.{defined_in, with_defined, is_int, has_no_params, is_main, has_main, main_rule, tops_rule, start}
use Rattle.ec_typing_defs.specs.Worlds.{World, chain, place}
use Rattle.ec_meaning_defs.specs.resolved.Programs.{Function}
use Rattle.ec_resolving_defs.specs.Operands.{place_in}
use Rattle.ec_resolving_defs.specs.Programs.{value_at_end, program_by, walked}
use Rattle.ec_sound_statement_laws.specs.Functions.{if_defined, definitions, IsMade, AreMade, IsMainMade}
use Rattle.ec_sound_statement_laws.proofs.Functions.{all_made, names_stay}
use Rattle.ec_sim_world_laws.proofs.closing_lemmas.Lists.{none_not, some_is}
use Rattle.ec_sound_statement_laws.proofs.Names.{same_self, find_put_same, first_none, FileLevel, AreNew, tops_new}
use Rattle.ec_sound_statement_laws.proofs.Scopes.{both_none, demanded}

-- ---- places in tables

abbrev put_all : List FuncData → Named (Unit {0}) → Named (Unit {0})
put_all [] ds = ds
put_all (f ∷ fs) ds = put_all fs (put f.name tt ds)

abbrev one : Unit {0}
one = tt

place_new : (name : Text) (ds : Named (Unit {0})) → is_some (find name ds) ≡ false → place_in name (put name tt ds) ≡ length ds
place_new name [] e = λ i. if same_self name i then zero else suc zero
place_new name (d ∷ ds) e = go (same_text name d.0) refl e (λ h. place_new name ds h)
  where
    go : (b : Bool) → same_text name d.0 ≡ b → is_some (if b then Some d.1 else find name ds) ≡ false → (is_some (find name ds) ≡ false → place_in name (put name one ds) ≡ length ds)
        → place_in name (if b then (d.0, one) ∷ ds else d ∷ put name one ds) ≡ suc (length ds)
    go true same e rest = absurd (cc)
    go false other e rest = (λ i. if other i then zero else suc (place_in name (put name one ds))) ∙ ap (λ n. suc n) (rest e)

length_new : (name : Text) (ds : Named (Unit {0})) → is_some (find name ds) ≡ false → length (put name tt ds) ≡ suc (length ds)
length_new name [] e = refl
length_new name (d ∷ ds) e = go (same_text name d.0) e (λ h. length_new name ds h)
  where
    go : (b : Bool) → is_some (if b then Some d.1 else find name ds) ≡ false → (is_some (find name ds) ≡ false → length (put name one ds) ≡ suc (length ds))
        → length (if b then (d.0, one) ∷ ds else d ∷ put name one ds) ≡ suc (suc (length ds))
    go true e rest = absurd (cc)
    go false e rest = ap (λ n. suc n) (rest e)

-- a name that is there keeps its place
abbrev IsAt : Text → ℕ → Named (Unit {0}) → Type 0
IsAt name n es = (is_some (find name es) ≡ true) × (place_in name es ≡ n)

place_stays : (name x : Text) (ds : Named (Unit {0})) → is_some (find name ds) ≡ true → IsAt name (place_in name ds) (put x tt ds)
place_stays name x [] e = absurd (cc)
place_stays name x (d ∷ ds) e = go (same_text x d.0) (same_text name d.0) refl e (λ h. place_stays name x ds h)
  where
    further : (b : Bool) → is_some (if b then Some d.1 else find name ds) ≡ true → (is_some (find name ds) ≡ true → IsAt name (place_in name ds) (put x one ds))
        → (is_some (if b then Some d.1 else find name (put x one ds)) ≡ true) × ((if b then zero else suc (place_in name (put x one ds))) ≡ (if b then zero else suc (place_in name ds)))
    further true e rest = (refl, refl)
    further false e rest = ((rest e).0, ap (λ n. suc n) (rest e).1)

    same_place : (b : Bool) → is_some (if b then Some d.1 else find name ds) ≡ true → is_some (if b then Some one else find name ds) ≡ true
    same_place true e = refl
    same_place false e = e

    go : (a b : Bool) → same_text name d.0 ≡ b → is_some (if same_text name d.0 then Some d.1 else find name ds) ≡ true → (is_some (find name ds) ≡ true → IsAt name (place_in name ds) (put x one ds))
        → IsAt name (place_in name (d ∷ ds)) (if a then (d.0, one) ∷ ds else d ∷ put x one ds)
    go true b is e rest = (same_place (same_text name d.0) e, refl)
    go false b is e rest = further (same_text name d.0) e rest

places_stay : (name : Text) (fs : List FuncData) (ds : Named (Unit {0})) → is_some (find name ds) ≡ true → place_in name (put_all fs ds) ≡ place_in name ds
places_stay name [] ds e = refl
places_stay name (f ∷ fs) ds e = let p = place_stays name f.name ds e in places_stay name fs (put f.name tt ds) p.0 ∙ p.1

found_put : (name : Text) (ds : Named (Unit {0})) → is_some (find name (put name tt ds)) ≡ true
found_put name ds = ap (λ o. is_some o) (find_put_same name tt ds)

place_of_name : (fs : List FuncData) (ds : Named (Unit {0})) → AreNew fs ds → (n : ℕ) (f : FuncData) → slice_get fs n ≡ Some f → place_in f.name (put_all fs ds) ≡ length ds + n
place_of_name [] ds h n f e = none_not e
place_of_name (g ∷ fs) ds h zero f e =
    subst (λ x. place_in x.name (put_all fs (put g.name tt ds)) ≡ length ds + zero) (some_is e)
    (places_stay g.name fs (put g.name tt ds) (found_put g.name ds) ∙ place_new g.name ds h.0 ∙ none_behind (length ds))
  where
    none_behind : (n : ℕ) → n ≡ n + 0
    none_behind n = omega (arith)
place_of_name (g ∷ fs) ds h (suc n) f e = place_of_name fs (put g.name tt ds) h.1 n f e ∙ ap (λ k. k + n) (length_new g.name ds h.0) ∙ one_more (length ds) n
  where
    one_more : (k n : ℕ) → suc k + n ≡ k + suc n
    one_more k n = omega (arith)

-- ---- the names that are defined

own_defined : (b : Option StmtList) (f : FuncData) (fs : List FuncData) (ds : Named (Unit {0})) → put_all fs (if is_some b then put f.name tt ds else ds) ≡ put_all (if_defined b f ++ fs) ds
own_defined None f fs ds = refl
own_defined (Some ss) f fs ds = refl

all_defined : (ts : List TopData) (ds : Named (Unit {0})) → defined_in ts ds ≡ put_all (definitions ts) ds
all_defined [] ds = refl
all_defined (include_top bytes ∷ ts) ds = all_defined ts ds
all_defined (directive_top n ∷ ts) ds = all_defined ts ds
all_defined (decl_top d ∷ ts) ds = all_defined ts ds
all_defined (func_top f ∷ ts) ds = all_defined ts (with_defined (func_top f) ds) ∙ own_defined f.body f (definitions ts) ds
all_defined (mark_top opens line ∷ ts) ds = all_defined ts ds

start_level : (written : Bool) (u : UnitData) → FileLevel [] (start written u)
start_level written u = record { outer = refl; done = λ x e. absurd (cc) }

all_new : (written : Bool) (u : UnitData) → violations written u ≡ [] → AreNew (definitions u.tops) []
all_new written u e = tops_new u.embs u.tops [] (start written u) (start_level written u) (first_none (tops_rule u.embs u.tops) _ (start written u) e)

no_more : (n : ℕ) → 0 + n ≡ n
no_more n = omega (arith)

pub names_have_places : (written : Bool) (u : UnitData) → violations written u ≡ [] → (n : ℕ) (f : FuncData) → slice_get (definitions u.tops) n ≡ Some f → place_in f.name (defined_in u.tops []) ≡ n
names_have_places written u e n f is = ap (λ ds. place_in f.name ds) (all_defined u.tops []) ∙ place_of_name (definitions u.tops) [] (all_new written u e) n f is ∙ no_more n

-- ---- main

pub record MainIs (fs : List FuncData) : Type 0 where
  pub number : ℕ
  pub function : FuncData
  pub is : slice_get fs number ≡ Some function
  pub named : same_text function.name (codes "main") ≡ true
  pub alone : has_no_params function.params ≡ true

behind_own : (b : Option StmtList) (f : FuncData) (fs : List FuncData) → MainIs fs → MainIs (if_defined b f ++ fs)
behind_own None f fs h = h
behind_own (Some ss) f fs h = record { number = suc h.number; function = h.function; is = h.is; named = h.named; alone = h.alone }

both_true : (a b : Bool) → (a && b) ≡ true → (a ≡ true) × (b ≡ true)
both_true true b e = (refl, e)
both_true false b e = absurd (cc)

own_main : (b : Option StmtList) (f : FuncData) (fs : List FuncData) → (same_text f.name (codes "main") && is_some b && is_int f.base f.stars && has_no_params f.params) ≡ true → MainIs (if_defined b f ++ fs)
own_main None f fs e =
    let p = both_true (same_text f.name (codes "main") && false && is_int f.base f.stars) (has_no_params f.params) e in
    let q = both_true (same_text f.name (codes "main") && false) (is_int f.base f.stars) p.0 in
    let r = (both_true (same_text f.name (codes "main")) false q.0).1 in absurd (cc)
own_main (Some ss) f fs e =
    let p = both_true (same_text f.name (codes "main") && true && is_int f.base f.stars) (has_no_params f.params) e in
    let q = both_true (same_text f.name (codes "main") && true) (is_int f.base f.stars) p.0 in
    record { number = 0; function = f; is = refl; named = (both_true (same_text f.name (codes "main")) true q.0).0; alone = p.1 }

pub main_is : (ts : List TopData) → has_main ts ≡ true → MainIs (definitions ts)
main_is [] e = absurd (cc)
main_is (include_top bytes ∷ ts) e = main_is ts e
main_is (directive_top n ∷ ts) e = main_is ts e
main_is (decl_top d ∷ ts) e = main_is ts e
main_is (func_top f ∷ ts) e = go (is_main f) refl e (λ h. main_is ts h)
  where
    go : (b : Bool) → is_main f ≡ b → (b || has_main ts) ≡ true → (has_main ts ≡ true → MainIs (definitions ts)) → MainIs (definitions (func_top f ∷ ts))
    go true is e rest = own_main f.body f (definitions ts) is
    go false is e rest = behind_own f.body f (definitions ts) (rest e)
main_is (mark_top opens line ∷ ts) e = main_is ts e

record MadeIs (f : FuncData) (o : Option Function) : Type 0 where
  function : Function
  is : o ≡ Some function
  made : IsMade f function

made_at : (fs : List FuncData) (gs : List Function) → AreMade fs gs → (n : ℕ) (f : FuncData) → slice_get fs n ≡ Some f → MadeIs f (slice_get gs n)
made_at [] gs h n f e = none_not e
made_at (g ∷ fs) [] h n f e = absurd h
made_at (g ∷ fs) (k ∷ gs) h zero f e = record { function = k; is = refl; made = subst (λ x. IsMade x k) (some_is e) h.0 }
made_at (g ∷ fs) (k ∷ gs) h (suc n) f e = made_at fs gs h.1 n f e

no_params_count : (ps : List ParamData) → has_no_params ps ≡ true → length ps ≡ 0
no_params_count [] e = refl
no_params_count (p ∷ ps) e = absurd (cc)

none_counted : {A : Type 0} (xs : List A) → length xs ≡ 0 → xs ≡ []
none_counted [] e = refl
none_counted (x ∷ xs) e = absurd (omega (arith, e))

pub unit_has_main : (written : Bool) (u : UnitData) → violations written u ≡ [] → has_main u.tops ≡ true
unfolding chain place main_rule
unit_has_main written u e =
    let o = tops_rule u.embs u.tops (start written u) in
    let w : World = record o.world { places = o.world.places + 1 } in
    demanded (record { number = o.world.places; line = u.last }) F20 (has_main u.tops) w (both_none o.found (main_rule u.tops (record { number = o.world.places; line = u.last }) w).found e).1

value_is : (name : Text) → same_text name (codes "main") ≡ true → value_at_end name ≡ Some (number (pos 0))
value_is name e = λ i. if e i then Some (number (pos 0)) else None

pub main_stands : (written : Bool) (u : UnitData) → violations written u ≡ [] → IsMainMade (slice_get (walked written u).storage.functions (program_by (walked written u).storage).main)
main_stands written u e =
    let m = main_is u.tops (unit_has_main written u e) in
    let g = made_at (definitions u.tops) (walked written u).storage.functions (all_made written u) m.number m.function m.is in
    let at : place_in (codes "main") (walked written u).storage.defined ≡ m.number =
    ap (λ ds. place_in (codes "main") ds) (names_stay written u) ∙ ap (λ x. place_in x (defined_in u.tops [])) (sym (same_text_is m.function.name (codes "main") m.named)) ∙ names_have_places written u e m.number m.function m.is in
    record {
      main = g.function;
      is = ap (λ n. slice_get (walked written u).storage.functions n) at ∙ g.is;
      takes = none_counted g.function.parameters (g.made.takes ∙ no_params_count m.function.params m.alone);
      at_end = g.made.at_end ∙ value_is m.function.name m.named;
    }
