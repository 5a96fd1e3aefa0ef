-- The leaves of an indicator: each is an indicator's, and has at least as many as the host has elements.
use Rattle.std.proofs.Common.{◌≡◌, ◌∙◌, ℕ, zero, suc, ◌≤◌, Bool, true, false, ◌&&◌, ◌==◌, List, [], ◌∷◌, Option, Some, None, refl, sym, subst, leb-true, eqb-true, nat_le}
use Rattle.std.specs.Prelude.{option_and_then}
use Rattle.std.specs.List.{list_all}
use Rattle.ec_arguments.specs.Rules.{indicator_size, element_size}
use Rattle.ec_ctypes.specs.declared.types.arith.Arith.{Arith}
use Rattle.ec_ctypes.specs.declared.types.arith.Arith.TheVariants as arithmetics
use Rattle.ec_ctypes.specs.trees.Types.{TyData, arithmetic, array, StructData}
use Rattle.ec_host_defs.specs.Elements.{Symbol, arith_symbol, symbol_of, is_indicator}
use Rattle.ec_host_defs.specs.Faults.{fault_unless, leaf_count, same_count, are_indicators, is_indicator_array, struct_faults, shape_faults}
use Rattle.ec_base.specs.declared.fault.FaultKind.{FaultKind}
use Rattle.ec_base.specs.declared.fault.FaultKind.TheVariants.{F23, F25}
use Rattle.ec_host_defs.specs.Leaves.{LeafData, ShapeData, one_element, elements, one_struct, many_structs, shape_of_host, own_leaf, leaves_by, leaves, leaves_or_none}
use Rattle.ec_typing_defs.specs.Worlds.{World}
use Rattle.ec_typing_defs.specs.Answers.{structs_of}
use Rattle.ec_sim_world_laws.proofs.closing_lemmas.Lists.{false_not, some_is}
use Rattle.ec_sim_host_laws.specs.table.Tables.{AreSound}
use Rattle.ec_sim_host_laws.proofs.fit_lemmas.Options.{cons_not, no_first, no_second, first_true, second_true, itself}
use Rattle.ec_sim_host_laws.proofs.fit_lemmas.Types.{ShapesAreSame, Good}
use Rattle.ec_sim_host_laws.proofs.fit_lemmas.Leaves.{LeafFits, AllLeaves, AllCount, count_of, counts, leaves_fit}

-- a leaf of an indicator, at least as many as these
pub record IndicatorFits (structs : List StructData) (n : ℕ) (l : LeafData) : Type 0 where
  pub is_one : is_indicator l.element ≡ true
  pub enough : n ≤ l.count
  pub fits : LeafFits structs l

abbrev pub AllIndicators : List StructData → ℕ → List LeafData → Type 0
AllIndicators structs n [] = Unit {0}
AllIndicators structs n (l ∷ ls) = IndicatorFits structs n l × AllIndicators structs n ls

-- no fault
pub unless : (b : Bool) (kind : FaultKind) → fault_unless b kind ≡ [] → b ≡ true
unless true kind e = refl
unless false kind e = cons_not e

-- the size of an indicator is that of an element of its symbol
module _ (structs : List StructData) (mark : Symbol) (n : ℕ) where
  of_symbol : (a : Arith) (k : ℕ) → indicator_size (arith_symbol a).0 ≡ Some k → element_size (arith_symbol a).0 (arith_symbol a).1 ≡ Some k
      → Some (arith_symbol a) ≡ Some mark → element_size mark.0 mark.1 ≡ Some n → indicator_size mark.0 ≡ Some n
  of_symbol a k one two e size =
      sym (λ j. indicator_size (some_is e j).0) ∙ one ∙ sym two ∙ (λ j. element_size (some_is e j).0 (some_is e j).1) ∙ size

  of_arithmetic : (a : Arith) → is_indicator (arithmetic a) ≡ true → Some (arith_symbol a) ≡ Some mark → element_size mark.0 mark.1 ≡ Some n
      → indicator_size mark.0 ≡ Some n
  of_arithmetic arithmetics.Short i e size = of_symbol arithmetics.Short 2 refl refl e size
  of_arithmetic arithmetics.Int i e size = of_symbol arithmetics.Int 4 refl refl e size
  of_arithmetic arithmetics.Long i e size = of_symbol arithmetics.Long 8 refl refl e size
  of_arithmetic arithmetics.LLong i e size = of_symbol arithmetics.LLong 8 refl refl e size
  of_arithmetic _ i e size = false_not i

  pub indicator_sized : (t : TyData) → is_indicator t ≡ true → symbol_of structs t ≡ Some mark → element_size mark.0 mark.1 ≡ Some n → indicator_size mark.0 ≡ Some n
  indicator_sized (arithmetic a) i e size = of_arithmetic a i e size
  indicator_sized _ i e size = false_not i

-- ---- which leaves there are

module _ (structs : List StructData) where
  one_leaf : (i : TyData) → is_indicator i ≡ true → leaves structs i ≡ Some (own_leaf i i 1 ∷ [])
  one_leaf (arithmetic a) e = refl
  one_leaf _ e = false_not e

  many_leaves : (a : Arith) (m : ℕ) → is_indicator (arithmetic a) ≡ true
      → leaves structs (array (arithmetic a) m) ≡ Some (own_leaf (array (arithmetic a) m) (arithmetic a) m ∷ [])
  many_leaves arithmetics.Short zero e = refl
  many_leaves arithmetics.Short (suc m) e = refl
  many_leaves arithmetics.Int zero e = refl
  many_leaves arithmetics.Int (suc m) e = refl
  many_leaves arithmetics.Long zero e = refl
  many_leaves arithmetics.Long (suc m) e = refl
  many_leaves arithmetics.LLong zero e = refl
  many_leaves arithmetics.LLong (suc m) e = refl
  many_leaves _ m e = false_not e

  array_leaf : (u : TyData) (m : ℕ) → is_indicator u ≡ true → leaves structs (array u m) ≡ Some (own_leaf (array u m) u m ∷ [])
  array_leaf (arithmetic a) m e = many_leaves a m e
  array_leaf _ m e = false_not e

  -- what is asked of them
  pub record Asked (n : ℕ) (ls : List LeafData) : Type 0 where
    pub all_are : list_all (λ l. is_indicator l.element) ls ≡ true
    pub count : ℕ
    pub enough : n ≤ count
    pub all_count : AllCount count ls

  abbrev AskedOf : ℕ → TyData → Type 0
  AskedOf n i = (ls : List LeafData) → leaves structs i ≡ Some ls → Asked n ls

  asked_one : (i : TyData) → is_indicator i ≡ true → AskedOf 1 i
  asked_one i e ls is = subst (Asked 1) (some_is (sym (one_leaf i e) ∙ is))
      (record { all_are = λ j. e j && true; count = 1; enough = itself 1; all_count = (refl, tt) })

  asked_array : (n : ℕ) (i : TyData) → is_indicator_array n i ≡ true → AskedOf n i
  asked_array n (array u m) e ls is = subst (Asked n) (some_is (sym (array_leaf u m (first_true (is_indicator u) (nat_le n m) e)) ∙ is))
      (record {
        all_are = λ j. first_true (is_indicator u) (nat_le n m) e j && true;
        count = m;
        enough = leb-true n m (second_true (is_indicator u) (nat_le n m) e);
        all_count = (refl, tt);
      })
  asked_array n _ e ls is = false_not e

  -- of an indicator of this shape
  shaped_count : (i : TyData) (shape : ShapeData) → shape_of_host structs i ≡ Some shape → (ls : List LeafData) → leaves structs i ≡ Some ls → AllCount (count_of shape) ls
  shaped_count i shape is ls e = counts structs i shape ls (sym (λ j. option_and_then (leaves_by structs i) (is j)) ∙ e)

  asked_struct : (n : ℕ) (t i : TyData) (same : Bool) (shape : ShapeData) → shape_of_host structs i ≡ Some shape → n ≤ count_of shape
      → struct_faults structs t i same ≡ [] → AskedOf n i
  asked_struct n t i same shape is enough e ls l = record {
    all_are = sym (λ j. are_indicators (l j)) ∙ unless (are_indicators (leaves structs i)) F23
        (no_first (fault_unless (are_indicators (leaves structs i)) F23)
        (fault_unless (same && same_count (leaf_count (leaves structs t)) (leaf_count (leaves structs i))) F25) e);
    count = count_of shape;
    enough = enough;
    all_count = shaped_count i shape is ls l;
  }

  same_numbers : (n m : ℕ) (t i : TyData) → struct_faults structs t i (n == m) ≡ [] → n ≤ m
  same_numbers n m t i e = subst (λ k. n ≤ k) (eqb-true n m
      (first_true (n == m) (same_count (leaf_count (leaves structs t)) (leaf_count (leaves structs i)))
      (unless ((n == m) && same_count (leaf_count (leaves structs t)) (leaf_count (leaves structs i))) F25
      (no_second (fault_unless (are_indicators (leaves structs i)) F23)
      (fault_unless ((n == m) && same_count (leaf_count (leaves structs t)) (leaf_count (leaves structs i))) F25) e)))) (itself n)

  asked : (t i : TyData) (shape : ShapeData) (o : Option ShapeData) → shape_of_host structs i ≡ o → shape_faults structs t i shape o ≡ [] → AskedOf (count_of shape) i
  asked t i one_element o is e = asked_one i (unless (is_indicator i) F23 e)
  asked t i (elements u n) o is e = asked_array n i (unless (is_indicator_array n i) F23 e)
  asked t i (one_struct k) (Some (one_struct j)) is e = asked_struct 1 t i true (one_struct j) is (itself 1) e
  asked t i (one_struct k) None is e = cons_not e
  asked t i (one_struct k) (Some one_element) is e = cons_not e
  asked t i (one_struct k) (Some (elements u m)) is e = cons_not e
  asked t i (one_struct k) (Some (many_structs j m)) is e = cons_not e
  asked t i (many_structs k n) (Some (many_structs j m)) is e = asked_struct n t i (n == m) (many_structs j m) is (same_numbers n m t i e) e
  asked t i (many_structs k n) None is e = cons_not e
  asked t i (many_structs k n) (Some one_element) is e = cons_not e
  asked t i (many_structs k n) (Some (elements u m)) is e = cons_not e
  asked t i (many_structs k n) (Some (one_struct j)) is e = cons_not e

  -- ---- as an answer to what is asked

  all_indicators : (n m : ℕ) (ls : List LeafData) → list_all (λ l. is_indicator l.element) ls ≡ true → n ≤ m → AllCount m ls → AllLeaves structs ls → AllIndicators structs n ls
  all_indicators n m [] a p c f = tt
  all_indicators n m (l ∷ ls) a p c f = (
    record {
      is_one = first_true (is_indicator l.element) (list_all (λ l. is_indicator l.element) ls) a;
      enough = subst (λ k. n ≤ k) (sym c.0) p;
      fits = f.0;
    },
    all_indicators n m ls (second_true (is_indicator l.element) (list_all (λ l. is_indicator l.element) ls) a) p c.1 f.1,
  )

module _ (z : World) (s : AreSound z) (same : ShapesAreSame z) where
  pub indicators_fit : (t i : TyData) → Good z i → (shape : ShapeData) → shape_faults (structs_of z) t i shape (shape_of_host (structs_of z) i) ≡ []
      → AllIndicators (structs_of z) (count_of shape) (leaves_or_none (structs_of z) (Some i))
  indicators_fit t i g shape e = by_leaves (leaves (structs_of z) i) refl
    where
      by_leaves : (o : Option (List LeafData)) → leaves (structs_of z) i ≡ o → AllIndicators (structs_of z) (count_of shape) (elim o [ None ↦ [] | Some ls ↦ ls ])
      by_leaves None is = tt
      by_leaves (Some ls) is = of_asked (asked (structs_of z) t i shape (shape_of_host (structs_of z) i) refl e ls is)
        where
          of_asked : Asked (structs_of z) (count_of shape) ls → AllIndicators (structs_of z) (count_of shape) ls
          of_asked a = all_indicators (structs_of z) (count_of shape) a.count ls a.all_are a.enough a.all_count (leaves_fit z s same i g ls is).0
