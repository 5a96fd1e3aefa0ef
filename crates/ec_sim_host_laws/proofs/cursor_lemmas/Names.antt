-- Names that denote the same stand for the same, where more is known.
use Rattle.std.proofs.Common.{◌≡◌, ◌∙◌, ℕ, zero, suc, Bool, true, false, not, ◌&&◌, pos, List, [], ◌∷◌, ◌++◌, length, Option, Some, None, refl, sym, subst, slice_get, codes, if◌then◌else◌}
use Rattle.std.specs.Prelude.{is_some}
use Rattle.ec_base.specs.declared.fault.FaultKind.TheVariants.{F11, F14}
use Rattle.ec_ctypes.specs.trees.Types.{TyData, structure}
use Rattle.ec_ctypes.specs.trees.Units.{UnitData}
use Rattle.ec_language.specs.Letters.{Text, same_text}
use Rattle.ec_host_defs.specs.Programs.{is_among}
use Rattle.ec_host_defs.specs.sections.Declared.{functions_of}
use Rattle.ec_typing_defs.specs.Embedded.{is_function_entry, denoted_by, denoted_in}
use Rattle.ec_typing_defs.specs.Known.{known_function}
use Rattle.ec_typing_defs.specs.Operands.{OperandData, unknown, object_operand, null_operand, integer_operand, predefined, name_rule as check_name, named_by as check_named}
use Rattle.ec_typing_defs.specs.Statements.{type_or_void}
use Rattle.ec_typing_defs.specs.Types.{int_type, is_void}
use Rattle.ec_typing_defs.specs.Worlds.{Place, EntryData, object, function, World, Out, out, Rule, look_up, note, followed as check_followed, chain as check_chain, pure as check_pure, ask as check_ask}
use Rattle.ec_resolving_defs.specs.Operands.{Found, found, named_exp, name_rule}
use Rattle.ec_resolving_defs.specs.Storage.{Storage, Reached, reached, chain, pure, checks, ask, stored, site_exp}
use Rattle.ec_meaning_defs.specs.observed.Run.{IsFront}
use Rattle.ec_sim_world_laws.specs.growth.Growth.{Grows}
use Rattle.ec_sim_world_laws.specs.place.References.{IsNoVoid, IsDeclared}
use Rattle.ec_sim_world_laws.specs.place.Structs.{IsListed, EachStructIn}
use Rattle.ec_sim_world_laws.proofs.place_lemmas.Lists.{Given, none_not, false_not, some_is, get_front}
use Rattle.ec_sim_world_laws.specs.known.Known.{IsKnown}
use Rattle.ec_sim_host_laws.proofs.reference_lemmas.KnownNames.{entry_known}
use Rattle.ec_sim_host_laws.proofs.reference_lemmas.Parts.{full_not}
use Rattle.ec_sim_host_laws.specs.cursor.Cursors.{is_no_function, are_no_functions}
use Rattle.ec_sim_host_laws.proofs.cursor_lemmas.Both.{Both}
use Rattle.ec_sim_host_laws.proofs.cursor_lemmas.Growing.{sqlca_listed}

-- ---- lists of one length

abbrev is_zero : ℕ → Type 0
is_zero zero = Unit {0}
is_zero (suc n) = ⊥

abbrev before_it : ℕ → ℕ
before_it zero = zero
before_it (suc n) = n

as_long : {A B : Type 0} (xs : List A) (ys : List B) → length ys ≡ length xs → (k : ℕ) {a : A} → slice_get xs k ≡ Some a → Given (slice_get ys k)
as_long [] ys e k is = none_not is
as_long (x ∷ xs) [] e k is = absurd (subst is_zero e tt)
as_long (x ∷ xs) (y ∷ ys) e zero is = record { value = y; is = refl }
as_long (x ∷ xs) (y ∷ ys) e (suc k) is = as_long xs ys (λ j. before_it (e j)) k is

-- ---- types by the tables

same_type : (a b : Option TyData) → IsNoVoid a → IsNoVoid b → type_or_void a ≡ type_or_void b → a ≡ b
same_type None None h k e = refl
same_type None (Some t) h k e = false_not (sym k ∙ sym (λ j. is_void (e j)))
same_type (Some t) None h k e = false_not (sym h ∙ (λ j. is_void (e j)))
same_type (Some t) (Some u) h k e = λ j. Some (e j)

function_not : (functions : List ℕ) (k : ℕ) {C : Type 0} → is_among k functions ≡ true → is_no_function functions (Some k) ≡ true → C
function_not functions k is none = false_not (sym (λ j. not (is j)) ∙ none)

-- ---- the rule of a name, by its entry

abbrev with_entry : Place → World → Text → Option EntryData → Out OperandData
with_entry at z x entry = check_followed (out entry [] z) (check_named at x)

abbrev formed : Storage → Text → Option EntryData → Out OperandData → Reached Found
formed s x entry o = reached (found o.answer (named_exp s.sites x entry) o.answer.is_place) s o.world

name_checked : (at : Place) (z : World) (x : Text) → check_name at x z ≡ with_entry at z x (look_up x z)
unfolding check_chain check_ask check_name
name_checked at z x = refl

name_formed : (at : Place) (s : Storage) (z : World) (x : Text) → name_rule at x s z ≡ formed s x (look_up x z) (with_entry at z x (look_up x z))
unfolding chain pure checks ask stored check_chain check_ask check_name
name_formed at s z x = refl

object_checked : (at : Place) (z : World) (x : Text) (k : ℕ) (global : Bool) (t : Option TyData) → with_entry at z x (Some (object k global t)) ≡ out (object_operand global t) [] z
unfolding check_named check_pure
object_checked at z x k global t = refl

function_checked : (at : Place) (z : World) (x : Text) (k : ℕ) (done : Bool) (r : Option TyData) (ps : Option (List (Option TyData))) {C : Type 0}
    → (with_entry at z x (Some (function k done r ps))).found ≡ [] → C
unfolding check_named check_chain note
function_checked at z x k done r ps clean = full_not clean

none_checked : (at : Place) (z : World) (x : Text) → with_entry at z x None ≡ predefined at x z
unfolding check_named
none_checked at z x = refl

module _ (u : UnitData) (s t : Storage) (w v : World) (known : IsKnown u s w) (known_there : IsKnown u t v) (g : Grows w v) (sites : IsFront s.sites t.sites)
    (before at : Place) where
  -- ---- predefined names

  record Predefined (m m' : Rule OperandData) : Type 0 where
    operand : OperandData
    here : m w ≡ out operand [] w
    there : m' v ≡ out operand [] v
    are_listed : EachStructIn (IsListed w) operand.type

  abbrev known_by : Place → Bool → Bool → Bool → Bool → Bool → Rule OperandData
  known_by at a b c d e =
      if a then check_pure (object_operand true (Some (structure 1)))
      else (if b then check_pure null_operand
      else (if c then check_pure (integer_operand int_type (pos 1))
      else (if d then check_pure (integer_operand int_type (pos 0))
      else (if e then check_chain (note at F14) (λ _. check_pure unknown) else check_chain (note at F11) (λ _. check_pure unknown)))))

  predefined_by : (a b c d e : Bool) → (known_by before a b c d e w).found ≡ [] → Predefined (known_by before a b c d e) (known_by at a b c d e)
  unfolding check_chain check_pure note
  predefined_by true b c d e f = record { operand = object_operand true (Some (structure 1)); here = refl; there = refl; are_listed = sqlca_listed u w known.grown }
  predefined_by false true c d e f = record { operand = null_operand; here = refl; there = refl; are_listed = tt }
  predefined_by false false true d e f = record { operand = integer_operand int_type (pos 1); here = refl; there = refl; are_listed = tt }
  predefined_by false false false true e f = record { operand = integer_operand int_type (pos 0); here = refl; there = refl; are_listed = tt }
  predefined_by false false false false true f = full_not f
  predefined_by false false false false false f = full_not f

  predefined_both : (x : Text) → (predefined before x w).found ≡ [] → Predefined (predefined before x) (predefined at x)
  predefined_both x clean = predefined_by (same_text x (codes "sqlca")) (same_text x (codes "NULL")) (same_text x (codes "true"))
      (same_text x (codes "false")) (is_some (known_function x)) clean

  -- ---- objects

  declared : (x : Text) (k : ℕ) (global : Bool) (a : Option TyData) → look_up x w ≡ Some (object k global a) → IsDeclared w k a
  declared x k global a is = entry_known u w known.here known.outer x (object k global a) is

  declared_there : (x : Text) (k : ℕ) (global : Bool) (a : Option TyData) → look_up x v ≡ Some (object k global a) → IsDeclared v k a
  declared_there x k global a is = entry_known u v known_there.here known_there.outer x (object k global a) is

  function_known : (x : Text) (k : ℕ) (done : Bool) (r : Option TyData) (ps : Option (List (Option TyData))) → look_up x w ≡ Some (function k done r ps)
      → is_among k (functions_of u) ≡ true
  function_known x k done r ps is = entry_known u w known.here known.outer x (function k done r ps) is

  function_there : (x : Text) (k : ℕ) (done : Bool) (r : Option TyData) (ps : Option (List (Option TyData))) → look_up x v ≡ Some (function k done r ps)
      → is_among k (functions_of u) ≡ true
  function_there x k done r ps is = entry_known u v known_there.here known_there.outer x (function k done r ps) is

  types_same : (k : ℕ) (a b : Option TyData) → IsDeclared w k a → IsDeclared v k b → a ≡ b
  types_same k a b d e = same_type a b d.no_void e.no_void
      (some_is (sym ((λ j. slice_get (g.types.same j) k) ∙ get_front w.types g.types.rest k d.in_table) ∙ e.in_table))

  site_stays : (k : ℕ) (a : Option TyData) → IsDeclared w k a → slice_get t.sites k ≡ slice_get s.sites k
  site_stays k a d = of_given (as_long w.types s.sites known.sites k d.in_table)
    where
      of_given : Given (slice_get s.sites k) → slice_get t.sites k ≡ slice_get s.sites k
      of_given x = (λ j. slice_get (sites.same j) k) ∙ get_front s.sites sites.rest k x.is ∙ sym x.is

  -- ---- names

  abbrev NameBoth : Text → Type 0
  NameBoth x = Both s t w v (name_rule before x) (check_name before x) (name_rule at x) (check_name at x)

  object_both : (x : Text) (k : ℕ) (global : Bool) (a : Option TyData) (l : ℕ) (all : Bool) (b : Option TyData) → look_up x w ≡ Some (object k global a)
      → look_up x v ≡ Some (object l all b) → l ≡ k → NameBoth x
  object_both x k global a l all b is is_there same = record {
    type = a;
    is_place = true;
    exp = site_exp (slice_get s.sites k);
    is_address = true;
    one = object_operand global a;
    other = object_operand all a;
    here = name_formed before s w x ∙ (λ j. formed s x (is j) (with_entry before w x (is j))) ∙ (λ j. formed s x (Some (object k global a)) (object_checked before w x k global a j));
    there =
        name_formed at t v x
        ∙ (λ j. formed t x (as_here j) (with_entry at v x (as_here j)))
        ∙ (λ j. formed t x (Some (object k all a)) (object_checked at v x k all a j))
        ∙ (λ j. reached (found (object_operand all a) (site_exp (site_stays k a here j)) true) t v);
    checked_here = name_checked before w x ∙ (λ j. with_entry before w x (is j)) ∙ object_checked before w x k global a;
    checked_there = name_checked at v x ∙ (λ j. with_entry at v x (as_here j)) ∙ object_checked at v x k all a;
    are_listed = here.are_listed;
  }
    where
      here : IsDeclared w k a
      here = declared x k global a is

      there_too : IsDeclared v k b
      there_too = subst (λ n. IsDeclared v n b) same (declared_there x l all b is_there)

      as_here : look_up x v ≡ Some (object k all a)
      as_here = is_there ∙ (λ j. Some (object (same j) all b)) ∙ sym (λ j. Some (object k all (types_same k a b here there_too j)))

  none_both : (x : Text) → look_up x w ≡ None → look_up x v ≡ None → (with_entry before w x None).found ≡ [] → NameBoth x
  none_both x is is_there clean = of_predefined (predefined_both x (sym (λ j. (none_checked before w x j).found) ∙ clean))
    where
      of_predefined : Predefined (predefined before x) (predefined at x) → NameBoth x
      of_predefined p = record {
        type = p.operand.type;
        is_place = p.operand.is_place;
        exp = named_exp s.sites x None;
        is_address = p.operand.is_place;
        one = p.operand;
        other = p.operand;
        here = name_formed before s w x ∙ (λ j. formed s x (is j) (with_entry before w x (is j))) ∙ (λ j. formed s x None ((none_checked before w x ∙ p.here) j));
        there = name_formed at t v x ∙ (λ j. formed t x (is_there j) (with_entry at v x (is_there j))) ∙ (λ j. formed t x None ((none_checked at v x ∙ p.there) j));
        checked_here = name_checked before w x ∙ (λ j. with_entry before w x (is j)) ∙ none_checked before w x ∙ p.here;
        checked_there = name_checked at v x ∙ (λ j. with_entry at v x (is_there j)) ∙ none_checked at v x ∙ p.there;
        are_listed = p.are_listed;
      }

  -- it denotes the same, and no function
  pub record NameStays (x : Text) : Type 0 where
    pub denoted : denoted_by (look_up x v) ≡ denoted_by (look_up x w)
    pub no_function : is_no_function (functions_of u) (denoted_by (look_up x w)) ≡ true

  -- an object and a function have no number in common
  never_both : (k l : ℕ) {C : Type 0} → is_among l (functions_of u) ≡ true → Some l ≡ Some k → is_no_function (functions_of u) (Some k) ≡ true → C
  never_both k l is same none = function_not (functions_of u) k (subst (λ n. is_among n (functions_of u) ≡ true) (some_is same) is) none

  name_by : (x : Text) (entry there : Option EntryData) → look_up x w ≡ entry → look_up x v ≡ there → denoted_by there ≡ denoted_by entry
      → is_no_function (functions_of u) (denoted_by entry) ≡ true → (with_entry before w x entry).found ≡ [] → NameBoth x
  name_by x None None is is_there same none clean = none_both x is is_there clean
  name_by x None (Some (object l all b)) is is_there same none clean = none_not (sym same)
  name_by x None (Some (function l done r ps)) is is_there same none clean = none_not (sym same)
  name_by x (Some (object k global a)) None is is_there same none clean = none_not same
  name_by x (Some (object k global a)) (Some (object l all b)) is is_there same none clean = object_both x k global a l all b is is_there (some_is same)
  name_by x (Some (object k global a)) (Some (function l done r ps)) is is_there same none clean = never_both k l (function_there x l done r ps is_there) same none
  name_by x (Some (function k done r ps)) there is is_there same none clean = function_checked before w x k done r ps clean

  pub name_both : (x : Text) → NameStays x → (check_name before x w).found ≡ [] → NameBoth x
  name_both x h clean = name_by x (look_up x w) (look_up x v) refl refl h.denoted h.no_function (sym (λ j. (name_checked before w x j).found) ∙ clean)

  -- whether it is that of a known function
  alone_by : (x : Text) (entry there : Option EntryData) → look_up x w ≡ entry → look_up x v ≡ there → denoted_by there ≡ denoted_by entry
      → is_no_function (functions_of u) (denoted_by entry) ≡ true → is_function_entry x there ≡ is_function_entry x entry
  alone_by x None None is is_there same none = refl
  alone_by x None (Some (object l all b)) is is_there same none = none_not (sym same)
  alone_by x None (Some (function l done r ps)) is is_there same none = none_not (sym same)
  alone_by x (Some (object k global a)) None is is_there same none = none_not same
  alone_by x (Some (object k global a)) (Some (object l all b)) is is_there same none = refl
  alone_by x (Some (object k global a)) (Some (function l done r ps)) is is_there same none = never_both k l (function_there x l done r ps is_there) same none
  alone_by x (Some (function k done r ps)) there is is_there same none = function_not (functions_of u) k (function_known x k done r ps is) none

  pub name_alone : (x : Text) → NameStays x → is_function_entry x (look_up x v) ≡ is_function_entry x (look_up x w)
  name_alone x h = alone_by x (look_up x w) (look_up x v) refl refl h.denoted h.no_function

  -- ---- names one behind the other

  abbrev pub NamesStay : List Text → Type 0
  NamesStay [] = Unit {0}
  NamesStay (x ∷ xs) = NameStays x × NamesStay xs

  pub front_stay : (xs ys : List Text) → NamesStay (xs ++ ys) → NamesStay xs
  front_stay [] ys h = tt
  front_stay (x ∷ xs) ys h = (h.0, front_stay xs ys h.1)

  pub back_stay : (xs ys : List Text) → NamesStay (xs ++ ys) → NamesStay ys
  back_stay [] ys h = h
  back_stay (x ∷ xs) ys h = back_stay xs ys h.1

  abbrev head_of : Option ℕ → List (Option ℕ) → Option ℕ
  head_of d [] = d
  head_of d (e ∷ es) = e

  abbrev tail_of : List (Option ℕ) → List (Option ℕ)
  tail_of [] = []
  tail_of (e ∷ es) = es

  both_true : (a b : Bool) → (a && b) ≡ true → (a ≡ true) × (b ≡ true)
  both_true true b e = (refl, e)
  both_true false b e = false_not e

  pub names_stay : (xs : List Text) → denoted_in v xs ≡ denoted_in w xs → are_no_functions (functions_of u) (denoted_in w xs) ≡ true → NamesStay xs
  names_stay [] same none = tt
  names_stay (x ∷ xs) same none =
      let parts = both_true (is_no_function (functions_of u) (denoted_by (look_up x w))) (are_no_functions (functions_of u) (denoted_in w xs)) none in
      (record { denoted = λ j. head_of None (same j); no_function = parts.0 }, names_stay xs (λ j. tail_of (same j)) parts.1)
