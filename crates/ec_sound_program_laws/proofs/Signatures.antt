-- The signatures of functions are those by which they are known at the end of the program.
use Rattle.std.proofs.Common.{◌≡◌, ◌∙◌, ◌⊎◌, inl, inr, ℕ, zero, suc, Bool, true, false, List, [], ◌∷◌, ◌++◌, length, map, Option, Some, None, refl, sym, ap, subst, slice_get, option_map, if◌then◌else◌, eqb-true, ◌==◌}
use Rattle.std.specs.Prelude.{is_some, codes, not, ◌&&◌, ◌||◌}
use Rattle.ec_ctypes.specs.trees.Types.{TyData, void, arithmetic, pointer, array, structure}
use Rattle.ec_ctypes.specs.trees.Exprs.{BaseData, words, varchar, tagged, struct_base, DeclaratorData, declarator, DeclaratorList, no_declarators, declarators, DeclData, decl}
use Rattle.ec_ctypes.specs.trees.Stmts.{StmtList}
use Rattle.ec_ctypes.specs.trees.Units.{ParamData, FuncData, TopData, include_top, directive_top, decl_top, func_top, mark_top, UnitData}
use Rattle.ec_language.specs.Letters.{Text, same_text}
use Rattle.ec_typing_defs.specs.Answers.{violations}
use Rattle.ec_typing_defs.specs.Expressions.{base, type_or_fault, is_varchar, has_init}
use Rattle.ec_typing_defs.specs.Operands.{declared_type, within_rule}
use Rattle.ec_typing_defs.specs.Statements.{initial, object_item, object_items, declaration}
use Rattle.ec_typing_defs.specs.Tables.{Named, find, put}
use Rattle.ec_typing_defs.specs.Types.{int_type, words_type, same_type}
use Rattle.ec_typing_defs.specs.Programs.{kept, may_be_result, result_rule, all_agree, are_known, is_same_function, may_follow, defined_in, with_defined, is_int, has_no_params, is_main}
use Rattle.ec_typing_defs.specs.Worlds.{Place, EntryData, object, function, World, Rule, next_number, number_as, declare, know_better, change, chain, pure, ask}
use Rattle.ec_resolving_defs.specs.Operands.{place_in}
use Rattle.ec_sim_world_laws.specs.closing.Closing.{IsTyped}
use Rattle.ec_sim_world_laws.proofs.closing_lemmas.Lists.{get_map}
use Rattle.ec_sim_world_laws.proofs.known_lemmas.EntriesTables.{put_twice}
use Rattle.ec_sim_world_laws.proofs.known_lemmas.NamesRules as names
use Rattle.ec_sim_world_laws.proofs.known_lemmas.NamesRules.{Staying, place_stays}
use Rattle.ec_sim_world_laws.proofs.known_lemmas.NamesOperands.{within_stays}
use Rattle.ec_sim_world_laws.proofs.known_lemmas.NamesStatements.{object_stays, initial_stays, type_stays, specifier_stays}
use Rattle.ec_sim_program_laws.specs.types.Types.{AreAllTyped}
use Rattle.ec_sim_program_laws.proofs.types_lemmas.Rules.{Sound, both_none}
use Rattle.ec_sim_host_laws.proofs.reference_lemmas.Parts.{texts_equal}
use Rattle.ec_sound_defs.specs.Sorts.{number_sort}
use Rattle.ec_sound_defs.specs.Sound.{Signature, main_signature}
use Rattle.ec_sound_defs.specs.Types.{type_sort}
use Rattle.ec_sound_form_laws.specs.Names.{gives_of, signature_of}
use Rattle.ec_sound_expression_laws.proofs.Basics.{clash, left, right}
use Rattle.ec_sound_statement_laws.specs.Functions.{if_defined, definitions}
use Rattle.ec_sound_statement_laws.specs.Scopes.{IsKnownAs}
use Rattle.ec_sound_statement_laws.proofs.Names.{find_put_same, find_put_other, declared_world, declared_new, item_behind}
use Rattle.ec_sound_statement_laws.proofs.Places.{names_have_places, main_is, unit_has_main}

-- the signature of what a name stands for, where it is a function with its parameters
abbrev pub signature_by : Option EntryData → Signature
signature_by None = main_signature
signature_by (Some (object k global t)) = main_signature
signature_by (Some (function k done r None)) = main_signature
signature_by (Some (function k done r (Some ps))) = signature_of r ps

-- ---- functions of one type

same_sort : (s t : TyData) → same_type s t ≡ true → type_sort s ≡ type_sort t
same_sort void void e = refl
same_sort void (arithmetic b) e = clash e
same_sort void (pointer t) e = clash e
same_sort void (array t n) e = clash e
same_sort void (structure k) e = clash e
same_sort (arithmetic a) void e = clash e
same_sort (arithmetic a) (arithmetic b) e = refl
same_sort (arithmetic a) (pointer t) e = clash e
same_sort (arithmetic a) (array t n) e = clash e
same_sort (arithmetic a) (structure k) e = clash e
same_sort (pointer s) void e = clash e
same_sort (pointer s) (arithmetic b) e = clash e
same_sort (pointer s) (pointer t) e = refl
same_sort (pointer s) (array t n) e = clash e
same_sort (pointer s) (structure k) e = clash e
same_sort (array s m) void e = clash e
same_sort (array s m) (arithmetic b) e = clash e
same_sort (array s m) (pointer t) e = clash e
same_sort (array s m) (array t n) e = refl
same_sort (array s m) (structure k) e = clash e
same_sort (structure j) void e = clash e
same_sort (structure j) (arithmetic b) e = clash e
same_sort (structure j) (pointer t) e = clash e
same_sort (structure j) (array t n) e = clash e
same_sort (structure j) (structure k) e = refl

all_known : (ts : List (Option TyData)) → AreAllTyped ts → are_known ts ≡ true
all_known [] h = refl
all_known (None ∷ ts) h = absurd h.0
all_known (Some t ∷ ts) h = all_known ts h.1

where_known : (a b c : Bool) → a ≡ true → b ≡ true → (not (a && b) || c) ≡ true → c ≡ true
where_known true true c e f g = g
where_known true false c e f g = clash f
where_known false b c e f g = clash e

same_length : {A B : Type 0} (xs : List A) (ys : List B) → (length xs == length ys) ≡ true → length xs ≡ length ys
same_length xs ys e = eqb-true (length xs) (length ys) e

same_signature : (r s : Option TyData) (ps qs : List (Option TyData)) → is_same_function r ps s qs ≡ true → IsTyped r → IsTyped s → AreAllTyped ps → AreAllTyped qs → signature_of r ps ≡ signature_of s qs
same_signature None s ps qs e r h p q = absurd r
same_signature (Some a) None ps qs e r h p q = absurd h
same_signature (Some a) (Some b) ps qs e r h p q =
    let takes = same_length ps qs (left (length ps == length qs) _ e) in
    let agree = where_known (are_known ps) (are_known qs) (same_type a b && all_agree ps qs) (all_known ps p) (all_known qs q) (right (length ps == length qs) _ e) in
    let gives = same_sort a b (left (same_type a b) (all_agree ps qs) agree) in
    λ i. record { takes = takes i; gives = gives i }

followed : (b : Bool) (r s : Option TyData) (ps qs : List (Option TyData)) (k : ℕ) (done : Bool) → may_follow b r ps (Some (function k done s (Some qs))) ≡ true → is_same_function r ps s qs ≡ true
followed b r s ps qs k done e = right (not (done && b)) (is_same_function r ps s qs) e

-- ---- what they are known as at the end

-- Behind these parts no function is known by another signature
abbrev pub Agrees : Named EntryData → World → Type 0
Agrees last w = (x : Text) (k : ℕ) (done : Bool) (r : Option TyData) (ps : List (Option TyData)) → find x w.here.names ≡ Some (function k done r (Some ps)) → signature_by (find x last) ≡ signature_of r ps

pub agrees_at_end : (w : World) → Agrees w.here.names w
agrees_at_end w x k done r ps e = ap signature_by e

-- behind a function that follows what its name stood for
pub agrees_before : (last : Named EntryData) (f : FuncData) (w z : World) → IsKnownAs f w z → Sound w → Sound z → Agrees last z → Agrees last w
agrees_before last f w z h before behind agree x k done r ps is = go (same_text x f.name) refl
  where
    go : (b : Bool) → same_text x f.name ≡ b → signature_by (find x last) ≡ signature_of r ps
    go true same =
        let named : x ≡ f.name = texts_equal x f.name same in
        let was : find f.name w.here.names ≡ Some (function k done r (Some ps)) = ap (λ y. find y w.here.names) (sym named) ∙ is in
        let now = ap (λ ns. find f.name ns) h.names ∙ find_put_same f.name _ w.here.names in
        let typed = before.here f.name _ was in
        let typed_now = behind.here f.name _ now in
        let follows = subst (λ o. may_follow (is_some f.body) h.result h.parameters o ≡ true) was h.follows in
        ap (λ y. signature_by (find y last)) named ∙ agree f.name h.number _ h.result h.parameters now
        ∙ same_signature h.result r h.parameters ps (followed (is_some f.body) h.result r h.parameters ps k done follows) typed_now.0 typed.0 typed_now.1 typed.1
    go false other = agree x k done r ps (ap (λ ns. find x ns) h.names ∙ find_put_other x f.name _ w.here.names other ∙ is)

-- ---- declarations of objects leave what other names stand for

record Holds {A : Type 0} (m : Rule A) : Type 0 where
  holds : (w : World) → (m w).found ≡ [] → (x : Text) (e : EntryData) → find x w.here.names ≡ Some e → find x (m w).world.here.names ≡ Some e

chained : {A B : Type 0} {m : Rule A} {f : A → Rule B} → Holds m → ((a : A) → Holds (f a)) → Holds (chain m f)
unfolding chain
chained {m = m} {f = f} h k = record {
  holds = λ w found x e is.
      let g = both_none (m w).found (f (m w).answer (m w).world).found found in
      (k (m w).answer).holds (m w).world g.1 x e (h.holds w g.0 x e is);
}

stay : {A : Type 0} {m : Rule A} → Staying m → Holds m
stay h = record { holds = λ w found x e is. ap (λ ns. find x ns) (h.stays w).here ∙ is }

put_beside : (name : Text) (entry : EntryData) (es : Named EntryData) (x : Text) (e : EntryData) → is_some (find name es) ≡ false → find x es ≡ Some e → find x (put name entry es) ≡ Some e
put_beside name entry es x e new is = go (same_text x name) refl
  where
    go : (b : Bool) → same_text x name ≡ b → find x (put name entry es) ≡ Some e
    go true same = clash (sym new ∙ ap (λ y. is_some (find y es)) (sym (texts_equal x name same)) ∙ ap (λ o. is_some o) is)
    go false other = find_put_other x name entry es other ∙ is

behind_holds : (at : Place) (global : Bool) (d : DeclaratorData) (before : Option TyData) → Holds (item_behind at global d before)
unfolding chain ask change know_better number_as
behind_holds at global (declarator stars name ns init) before = record {
  holds = λ w found x e is.
      let first = object (next_number w) global before in
      let d = declare at name first w in
      let i = initial at global before init d.world in
      let y = within_rule at i.answer i.world in
      let last = object (next_number w) global i.answer in
      let here = ((within_stays at i.answer).stays i.world).here ∙ ((initial_stays at global before init).stays d.world).here ∙ ap (λ v. v.here.names) (declared_world at name first w) in
      let names : (item_behind at global (declarator stars name ns init) before w).world.here.names ≡ put name last w.here.names = ap (λ ns. put name last ns) here ∙ put_twice name first last w.here.names in
      ap (λ ns. find x ns) names ∙ put_beside name last w.here.names x e (declared_new at name first w (both_none d.found (i.found ++ (y.found ++ [])) found).0) is;
}

item_holds : (at : Place) (global v : Bool) (t : Option TyData) (d : DeclaratorData) → Holds (object_item at global v t d)
item_holds at global v t (declarator stars name ns init) =
    chained (stay (type_stays at v t stars name ns)) (λ whole. chained (stay (within_stays at whole)) (λ a. chained (stay (object_stays at (has_init init) whole)) (λ before. behind_holds at global (declarator stars name ns init) before)))

items_hold : (at : Place) (global v : Bool) (t : Option TyData) (ds : DeclaratorList) → Holds (object_items at global v t ds)
items_hold at global v t no_declarators = stay (names.pure_stays _)
items_hold at global v t (declarators d ds) = chained (item_holds at global v t d) (λ a. items_hold at global v t ds)

declaration_holds : (global : Bool) (d : DeclData) → Holds (declaration global d)
declaration_holds global (decl b items section line) = chained (stay (place_stays line)) (λ at. chained (stay (specifier_stays at b items)) (λ t. items_hold at global (is_varchar b) t items))

pub agrees_before_objects : (last : Named EntryData) (global : Bool) (d : DeclData) (w : World) → (declaration global d w).found ≡ [] → Agrees last (declaration global d w).world → Agrees last w
agrees_before_objects last global d w found agree x k done r ps is = agree x k done r ps ((declaration_holds global d).holds w found x _ is)

-- ---- their places

abbrev pub signatures_of : Named EntryData → List FuncData → List Signature
signatures_of last fs = map (λ f. signature_by (find f.name last)) fs

record NamedAt (fs : List FuncData) (x : Text) : Type 0 where
  number : ℕ
  function : FuncData
  is : slice_get fs number ≡ Some function
  named : x ≡ function.name

named_at : (ts : List TopData) (ds : Named (Unit {0})) (x : Text) → is_some (find x (defined_in ts ds)) ≡ true → (is_some (find x ds) ≡ true) ⊎ NamedAt (definitions ts) x
named_at [] ds x e = inl e
named_at (include_top bytes ∷ ts) ds x e = named_at ts ds x e
named_at (directive_top n ∷ ts) ds x e = named_at ts ds x e
named_at (decl_top d ∷ ts) ds x e = named_at ts ds x e
named_at (func_top f ∷ ts) ds x e = own f.body (named_at ts (with_defined (func_top f) ds) x e)
  where
    own : (b : Option StmtList) → (is_some (find x (if is_some b then put f.name tt ds else ds)) ≡ true) ⊎ NamedAt (definitions ts) x → (is_some (find x ds) ≡ true) ⊎ NamedAt (if_defined b f ++ definitions ts) x
    own None h = h
    own (Some ss) (inr h) = inr (record { number = suc h.number; function = h.function; is = h.is; named = h.named })
    own (Some ss) (inl e) = go (same_text x f.name) refl
      where
        go : (b : Bool) → same_text x f.name ≡ b → (is_some (find x ds) ≡ true) ⊎ NamedAt (f ∷ definitions ts) x
        go true same = inr (record { number = 0; function = f; is = refl; named = texts_equal x f.name same })
        go false other = inl (subst (λ o. is_some o ≡ true) (find_put_other x f.name tt ds other) e)
named_at (mark_top opens line ∷ ts) ds x e = named_at ts ds x e

-- the signature at the place of a definition is that of its name
signature_at : (written : Bool) (u : UnitData) → violations written u ≡ [] → (last : Named EntryData) (x : Text) (n : ℕ) (f : FuncData) → slice_get (definitions u.tops) n ≡ Some f → x ≡ f.name
    → slice_get (signatures_of last (definitions u.tops)) (place_in x (defined_in u.tops [])) ≡ Some (signature_by (find x last))
signature_at written u clean last x n f is named =
    ap (λ i. slice_get (signatures_of last (definitions u.tops)) i) (ap (λ y. place_in y (defined_in u.tops [])) named ∙ names_have_places written u clean n f is)
    ∙ get_map (λ g. signature_by (find g.name last)) (definitions u.tops) n ∙ ap (λ o. option_map (λ g. signature_by (find g.name last)) o) is ∙ ap (λ y. Some (signature_by (find y last))) (sym named)

pub signatures_there : (written : Bool) (u : UnitData) → violations written u ≡ [] → (last : Named EntryData) (x : Text) → is_some (find x (defined_in u.tops [])) ≡ true
    → slice_get (signatures_of last (definitions u.tops)) (place_in x (defined_in u.tops [])) ≡ Some (signature_by (find x last))
signatures_there written u clean last x e = go (named_at u.tops [] x e)
  where
    go : (is_some (find {V = Unit {0}} x []) ≡ true) ⊎ NamedAt (definitions u.tops) x → slice_get (signatures_of last (definitions u.tops)) (place_in x (defined_in u.tops [])) ≡ Some (signature_by (find x last))
    go (inl none) = clash none
    go (inr h) = signature_at written u clean last x h.number h.function h.is h.named

-- ---- main

pub main_named : (f : FuncData) → is_main f ≡ true → codes "main" ≡ f.name
main_named f e =
    let first = left (same_text f.name (codes "main") && is_some f.body && is_int f.base f.stars) (has_no_params f.params) e in
    let second = left (same_text f.name (codes "main") && is_some f.body) (is_int f.base f.stars) first in
    sym (texts_equal f.name (codes "main") (left (same_text f.name (codes "main")) (is_some f.body) second))

pub main_is_int : (f : FuncData) → is_main f ≡ true → is_int f.base f.stars ≡ true
main_is_int f e = right (same_text f.name (codes "main") && is_some f.body) (is_int f.base f.stars) (left (same_text f.name (codes "main") && is_some f.body && is_int f.base f.stars) (has_no_params f.params) e)

pub main_takes_nothing : (f : FuncData) → is_main f ≡ true → length f.params ≡ 0
main_takes_nothing f e = go f.params (right (same_text f.name (codes "main") && is_some f.body && is_int f.base f.stars) (has_no_params f.params) e)
  where
    go : (ps : List ParamData) → has_no_params ps ≡ true → length ps ≡ 0
    go [] e = refl
    go (p ∷ ps) e = clash e

pub main_there : (written : Bool) (u : UnitData) → violations written u ≡ [] → (last : Named EntryData)
    → slice_get (signatures_of last (definitions u.tops)) (place_in (codes "main") (defined_in u.tops [])) ≡ Some (signature_by (find (codes "main") last))
main_there written u clean last = let m = main_is u.tops (unit_has_main written u clean) in signature_at written u clean last (codes "main") m.number m.function m.is (sym (texts_equal m.function.name (codes "main") m.named))

-- ---- its result

int_kept : (t : TyData) → same_type t int_type ≡ true → gives_of (kept (Some t) (may_be_result (Some t))) ≡ number_sort
int_kept void e = clash e
int_kept (arithmetic a) e = refl
int_kept (pointer t) e = clash e
int_kept (array t n) e = clash e
int_kept (structure k) e = clash e

words_give : (at : Place) (o : Option TyData) → (elim o [ None ↦ false | Some t ↦ same_type t int_type ]) ≡ true → (w z : World) → gives_of (result_rule at (declared_type (type_or_fault at o w).answer 0 []) z).answer ≡ number_sort
unfolding result_rule type_or_fault chain pure
words_give at None e w z = clash e
words_give at (Some t) e w z = int_kept t e

pub int_gives : (at : Place) (b : BaseData) (stars : ℕ) → is_int b stars ≡ true → (w z : World) → gives_of (result_rule at (declared_type (base at b w).answer stars []) z).answer ≡ number_sort
int_gives at (words ws) zero e w z = words_give at (words_type ws) e w z
int_gives at (words ws) (suc n) e w z = clash e
int_gives at varchar stars e w z = clash e
int_gives at (tagged tag) stars e w z = clash e
int_gives at (struct_base tag ds) stars e w z = clash e
