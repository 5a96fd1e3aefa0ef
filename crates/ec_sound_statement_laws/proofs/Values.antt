-- Values that are returned or stored are of the sorts that are wanted.
use Rattle.std.proofs.Common.{◌≡◌, ◌<◌, ℕ, zero, suc, Bool, true, false, not, ◌&&◌, List, [], ◌∷◌, refl, sym, subst, Option, Some, None}
use Rattle.ec_base.specs.declared.fault.FaultKind.TheVariants.{F14}
use Rattle.ec_ctypes.specs.trees.Exprs.{ExprData}
use Rattle.ec_ctypes.specs.trees.Types.{TyData, void, arithmetic, pointer, array, structure}
use Rattle.ec_memory_defs.specs.Memory.{ScalarType, scalar_type}
use Rattle.ec_typing_defs.specs.Types.{is_void, is_assignable, same_type}
use Rattle.ec_typing_defs.specs.Known.{literal_in}
use Rattle.ec_typing_defs.specs.Operands.{OperandData, is_null}
use Rattle.ec_typing_defs.specs.Initializers.{Frames, is_text_for, suits, suits_rule, go_by, go_to, part_rule, next_part, going_in, max_depth, single_by}
use Rattle.ec_typing_defs.specs.Statements.{returns, return_rule, return_nothing}
use Rattle.ec_typing_defs.specs.Worlds.{Place, World, Rule, chain, pure, ask, demand}
use Rattle.ec_meaning_defs.specs.resolved.Resolved.{Exp, slot}
use Rattle.ec_resolving_defs.specs.Conversions.{as_known_type}
use Rattle.ec_resolving_defs.specs.Initializers.{PartData, text_part, place_in_object, text_for, scalar_stored, value_stored, stored_at, Spot, next_spot, Left, Goal, goal_of, goal_by, goal_type}
use Rattle.ec_resolving_defs.specs.Operands.{Found}
use Rattle.ec_resolving_defs.specs.Storage as resolving
use Rattle.ec_resolving_defs.specs.Storage.{Storage, Resolving, arrange, without_last_literal}
use Rattle.ec_sound_defs.specs.Sorts.{Sort, any_sort, address_sort}
use Rattle.ec_sound_defs.specs.Sound.{Signature, Atoms, Has}
use Rattle.ec_sound_defs.specs.Types.{type_sort}
use Rattle.ec_sound_form_laws.specs.Fits.{IsValue}
use Rattle.std.proofs.lemmas.Bool.{false≢true}
use Rattle.ec_sound_form_laws.proofs.Forms.{as_any, assigned_is}
use Rattle.ec_sound_statement_laws.specs.Values.{AreStored}
use Rattle.ec_sound_statement_laws.proofs.Scopes.{both_none, demanded}

never : {C : Type 0} → false ≡ true → C
never e = absurd (false≢true e)

void_any : (s : TyData) → is_void s ≡ true → type_sort s ≡ any_sort
void_any void e = refl
void_any (arithmetic a) e = never e
void_any (pointer t) e = never e
void_any (array t n) e = never e
void_any (structure k) e = never e

pub nothing_returned : (w : World) (at : Place) (s : TyData) → (return_nothing at (Some s) w).found ≡ [] → type_sort s ≡ any_sort
unfolding return_nothing
nothing_returned w at s e = void_any s (demanded at F14 (is_void s) w e)

right : (a b : Bool) → (a && b) ≡ true → b ≡ true
right true b e = e
right false b e = never e

left : (a b : Bool) → (a && b) ≡ true → a ≡ true
left true b e = refl
left false b e = never e

-- what is found by a rule over a type that is known
suited : (at : Place) (o : OperandData) (t s : TyData) (w : World) → o.type ≡ Some s → (suits_rule at o t w).found ≡ [] → suits o t s ≡ true
unfolding suits_rule
suited at o t s w is found = demanded at F14 (suits o t s) w (subst (λ x. ((elim x as (λ y. Rule (Unit {0})) [ None ↦ pure tt | Some r ↦ demand at F14 (suits o t r) ]) w).found ≡ []) is found)

may_return : (at : Place) (o : OperandData) (s t : TyData) (w : World) → o.type ≡ Some t → (return_rule at (Some s) o w).found ≡ [] → returns s t (is_null o) ≡ true
unfolding return_rule
may_return at o s t w is found = demanded at F14 (returns s t (is_null o)) w (subst (λ x. ((elim x as (λ y. Rule (Unit {0})) [ None ↦ pure tt | Some r ↦ demand at F14 (returns s r (is_null o)) ]) w).found ≡ []) is found)

-- ---- where an expression goes

-- it suits the type that it initializes
abbrev Suits : OperandData → TyData → Option TyData → Type 0
Suits o s None = Unit {0}
Suits o s (Some t) = suits o t s ≡ true

gone_by : (at : Place) (o : OperandData) (s : TyData) (p : Option (TyData × Frames)) (w : World) → o.type ≡ Some s → (go_by at o p w).found ≡ [] → Suits o s (goal_type p)
unfolding chain pure
gone_by at o s None w is found = tt
gone_by at o s (Some p) w is found = suited at o p.0 s w is (both_none (suits_rule at o p.0 w).found [] found).0

gone_to : (at : Place) (o : OperandData) (s : TyData) (t : Option TyData) (fs : Frames) (next : ℕ × List Spot) (w : World) → o.type ≡ Some s → (go_to at o (Some (t, fs)) w).found ≡ []
    → Suits o s (goal_by w o next (Some (t, fs))).type
unfolding chain ask
gone_to at o s None fs next w is found = tt
gone_to at o s (Some t) fs next w is found = gone_by at o s (going_in max_depth w o t fs) w is found

to_part : (at : Place) (o : OperandData) (s : TyData) (p : Option (Option TyData × Frames)) (next : ℕ × List Spot) (w : World) → o.type ≡ Some s → (go_to at o p w).found ≡ [] → Suits o s (goal_by w o next p).type
to_part at o s None next w is found = tt
to_part at o s (Some p) next w is found = gone_to at o s p.0 p.1 next w is found

typed_part : (at : Place) (o : OperandData) (s : TyData) (gs : Frames) (w : World) → o.type ≡ Some s → (part_rule at (Some gs) o w).found ≡ [] → (go_to at o (next_part gs) w).found ≡ []
unfolding part_rule
typed_part at o s gs w is found = subst (λ x. ((elim x as (λ y. Rule (Option Frames)) [ None ↦ pure None | Some r ↦ go_to at o (next_part gs) ]) w).found ≡ []) is found

pub goal_suits : (at : Place) (o : OperandData) (s : TyData) (l : Left) (w : World) → o.type ≡ Some s → (part_rule at l.frames o w).found ≡ [] → Suits o s (goal_of o l w).type
goal_suits at o s l w is found = by_frames l.frames found
  where
    by_frames : (fs : Option Frames) → (part_rule at fs o w).found ≡ [] → Suits o s (elim fs as (λ y. Goal) [ None ↦ record { type = None; offset = 0; behind = [] } | Some gs ↦ goal_by w o (next_spot w gs l.spots) (next_part gs) ]).type
    by_frames None found = tt
    by_frames (Some gs) found = to_part at o s (next_part gs) (next_spot w gs l.spots) w is (typed_part at o s gs w is found)

single_suits : (at : Place) (o : OperandData) (s : TyData) (t : Option TyData) (w : World) → o.type ≡ Some s → (single_by at t o w).found ≡ [] → Suits o s t
unfolding chain pure
single_suits at o s None w is found = tt
single_suits at o s (Some t) w is found = suited at o t s w is (both_none (suits_rule at o t w).found [] found).0

-- ---- what is stored

module _ (signatures : List Signature) (atoms : Atoms) (n : ℕ) where
  abbrev Is : Sort → Exp → Type 0
  Is k e = Has signatures atoms n k e

  abbrev Stored : ℕ → List PartData → Type 0
  Stored i ps = AreStored signatures atoms n i ps

  pub returned_is : (w : World) (at : Place) (s : TyData) (f : Found) → IsValue signatures atoms n f → (return_rule at (Some s) f.operand w).found ≡ []
      → Is (type_sort s) (as_known_type f.operand.type (Some s) f.exp)
  returned_is w at s f h found =
      let e = may_return at f.operand s h.type w h.is found in
      subst (λ x. Is (type_sort s) (as_known_type x (Some s) f.exp)) (sym h.is)
      (assigned_is signatures atoms n s h.type (is_null f.operand) f.exp h.form (right (not (is_void s)) (is_assignable s h.type (is_null f.operand)) e))

  place_is : (i : ℕ) (offset : ℕ) → i < n → Is address_sort (place_in_object offset (slot i))
  place_is i zero less = (tt, less)
  place_is i (suc m) less = (tt, (tt, less))

  scalar_is : (i offset : ℕ) (kind : Option ScalarType) (k : Sort) (e : Exp) → i < n → Is k e → Stored i (scalar_stored offset kind e)
  scalar_is i offset None k e less h = tt
  scalar_is i offset (Some kind) k e less h = ((place_is i offset less, as_any signatures atoms n e k h), tt)

  assigned_to : (i offset : ℕ) (t : TyData) (f : Found) → i < n → (h : IsValue signatures atoms n f) → is_assignable t h.type (is_null f.operand) ≡ true
      → Stored i (scalar_stored offset (scalar_type t) (as_known_type f.operand.type (Some t) f.exp))
  assigned_to i offset t f less h e = scalar_is i offset (scalar_type t) (type_sort t) (as_known_type f.operand.type (Some t) f.exp) less
      (subst (λ x. Is (type_sort t) (as_known_type x (Some t) f.exp)) (sym h.is) (assigned_is signatures atoms n t h.type (is_null f.operand) f.exp h.form e))

  struct_address : (k : ℕ) (s : TyData) (e : Exp) → same_type (structure k) s ≡ true → Is (type_sort s) e → Is address_sort e
  struct_address k void e same h = never same
  struct_address k (arithmetic a) e same h = never same
  struct_address k (pointer t) e same h = never same
  struct_address k (array t m) e same h = never same
  struct_address k (structure j) e same h = h

  value_is : (w : World) (i offset : ℕ) (t : TyData) (f : Found) → i < n → (h : IsValue signatures atoms n f) → suits f.operand t h.type ≡ true → Stored i (value_stored w offset t f)
  value_is w i offset (structure k) f less h e = ((tt, place_is i offset less, struct_address k h.type f.exp e h.form), tt)
  value_is w i offset void f less h e = assigned_to i offset void f less h e
  value_is w i offset (arithmetic a) f less h e = assigned_to i offset (arithmetic a) f less h e
  value_is w i offset (pointer t) f less h e = assigned_to i offset (pointer t) f less h e
  value_is w i offset (array t m) f less h e = tt

  pub stored_is : (s : Storage) (w : World) (i offset : ℕ) (t : Option TyData) (e : ExprData) (f : Found) → i < n → (h : IsValue signatures atoms n f) → Suits f.operand h.type t
      → Stored i (stored_at offset t e f s w).answer
  unfolding stored_at resolving.pure resolving.chain resolving.ask arrange
  stored_is s w i offset None e f less h p = tt
  stored_is s w i offset (Some t) e f less h p = by_text (is_text_for f.operand t)
    where
      by_text : (b : Bool) → Stored i ((elim b as (λ y. Resolving (List PartData)) [
        | true ↦ resolving.chain (arrange without_last_literal) (λ _. resolving.pure (text_part offset (text_for t (literal_in e)) ∷ []))
        | false ↦ resolving.ask (λ w. value_stored w offset t f)
      ]) s w).answer
      by_text true = ((tt, place_is i offset less), tt)
      by_text false = value_is w i offset t f less h p

  pub single_is : (s : Storage) (w z : World) (at : Place) (i : ℕ) (t : Option TyData) (e : ExprData) (f : Found) → i < n → IsValue signatures atoms n f → (single_by at t f.operand z).found ≡ []
      → Stored i (stored_at 0 t e f s w).answer
  single_is s w z at i t e f less h found = stored_is s w i 0 t e f less h (single_suits at f.operand h.type t z h.is found)

  pub part_is : (s : Storage) (w z : World) (at : Place) (i : ℕ) (l : Left) (e : ExprData) (f : Found) → i < n → IsValue signatures atoms n f → (part_rule at l.frames f.operand z).found ≡ []
      → Stored i (stored_at (goal_of f.operand l z).offset (goal_of f.operand l z).type e f s w).answer
  part_is s w z at i l e f less h found = stored_is s w i (goal_of f.operand l z).offset (goal_of f.operand l z).type e f less h (goal_suits at f.operand h.type l z h.is found)
