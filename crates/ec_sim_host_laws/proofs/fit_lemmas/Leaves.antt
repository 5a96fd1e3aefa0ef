-- The leaves of a host: there is one, each fits a call, and all have one count.
use Rattle.std.proofs.Common.{◌≡◌, ◌∙◌, ℕ, ◌*◌, ◌≤◌, Bool, true, false, List, [], ◌∷◌, map, Option, Some, None, refl, sym, subst, le-leb, option_map, nat_le, if◌then◌else◌, arith}
use Rattle.std.specs.Prelude.{option_and_then}
use Rattle.ec_arguments.specs.Rules.{element_size}
use Rattle.ec_ctypes.specs.declared.types.sizes.Shape.{Shape}
use Rattle.ec_ctypes.specs.trees.Types.{TyData, void, arithmetic, pointer, array, structure, StructData}
use Rattle.ec_ctypes.specs.Layout.{shape_of, limited}
use Rattle.ec_host_defs.specs.Elements.{Symbol, symbol_of, is_element, plain_struct}
use Rattle.ec_host_defs.specs.Faults.{is_plain_array}
use Rattle.ec_host_defs.specs.Leaves.{LeafData, Way, ways, ShapeData, one_element, elements, one_struct, many_structs, is_pointer, array_shape, other_shape, shape_of_host, leaf_of_struct, leaf_of_structs, own_leaf, leaves_by, leaves}
use Rattle.ec_host_defs.specs.Places.{size_of}
use Rattle.ec_typing_defs.specs.Worlds.{World}
use Rattle.ec_typing_defs.specs.Answers.{structs_of}
use Rattle.ec_sim_world_laws.proofs.closing_lemmas.Lists.{none_not, some_is}
use Rattle.ec_sim_host_laws.specs.table.Tables.{AreSound}
use Rattle.ec_sim_host_laws.proofs.fit_lemmas.Options.{Mapped, mapped, true_not, not_false, up_to, itself, count_within}
use Rattle.ec_sim_host_laws.proofs.fit_lemmas.Types.{ShapesAreSame, Good}
use Rattle.ec_sim_host_laws.proofs.fit_lemmas.Structs.{GoodArray, good_array, Laid, laid}
use Rattle.ec_sim_host_laws.proofs.fit_lemmas.Elements.{ElementFits, good_element}
use Rattle.ec_sim_host_laws.proofs.fit_lemmas.Ways.{WayFits, AllWays, AreWays, plain_is, ways_fit}

-- ---- leaves

-- its numbers are those of a call
pub record LeafFits (structs : List StructData) (l : LeafData) : Type 0 where
  pub mark : Symbol
  pub is : symbol_of structs l.element ≡ Some mark
  pub size : ℕ
  pub size_is : element_size mark.0 mark.1 ≡ Some size
  pub positive : 1 ≤ l.count
  pub within : size ≤ size_of structs l.apart
  pub small_length : mark.1 ≤ 16777216
  pub small_count : l.count ≤ 16777216
  pub small_step : size_of structs l.apart ≤ 16777216

abbrev pub AllLeaves : List StructData → List LeafData → Type 0
AllLeaves structs [] = Unit {0}
AllLeaves structs (l ∷ ls) = LeafFits structs l × AllLeaves structs ls

abbrev pub AreLeaves : List LeafData → Type 0
AreLeaves [] = ⊥
AreLeaves (l ∷ ls) = Unit {0}

abbrev pub AllCount : ℕ → List LeafData → Type 0
AllCount n [] = Unit {0}
AllCount n (l ∷ ls) = (l.count ≡ n) × AllCount n ls

-- ---- counts

abbrev pub count_of : ShapeData → ℕ
count_of one_element = 1
count_of (elements t n) = n
count_of (one_struct k) = 1
count_of (many_structs k n) = n

struct_counts : (ws : List Way) → AllCount 1 (map leaf_of_struct ws)
struct_counts [] = tt
struct_counts (w ∷ ws) = (refl, struct_counts ws)

structs_count : (k n : ℕ) (ws : List Way) → AllCount n (map (leaf_of_structs k n) ws)
structs_count k n [] = tt
structs_count k n (w ∷ ws) = (refl, structs_count k n ws)

module _ (structs : List StructData) where
  pub counts : (t : TyData) (shape : ShapeData) (ls : List LeafData) → leaves_by structs t shape ≡ Some ls → AllCount (count_of shape) ls
  counts t one_element ls e = subst (AllCount 1) (some_is e) (refl, tt)
  counts t (elements u n) ls e = subst (AllCount n) (some_is e) (refl, tt)
  counts t (one_struct k) ls e = of_ways (mapped (map leaf_of_struct) (ways structs k) e)
    where
      of_ways : Mapped (map leaf_of_struct) (ways structs k) ls → AllCount 1 ls
      of_ways m = subst (AllCount 1) m.gives (struct_counts m.value)
  counts t (many_structs k n) ls e = of_ways (mapped (map (leaf_of_structs k n)) (ways structs k) e)
    where
      of_ways : Mapped (map (leaf_of_structs k n)) (ways structs k) ls → AllCount n ls
      of_ways m = subst (AllCount n) m.gives (structs_count k n m.value)

  -- what is one element, and what is no array but one
  pub element_shape : (t : TyData) → is_element structs t ≡ true → shape_of_host structs t ≡ Some one_element
  element_shape t e = λ j. elim (e j) [ true ↦ Some one_element | false ↦ other_shape structs t ]

  pub single_shape : (t : TyData) (shape : ShapeData) → is_plain_array structs t ≡ false → shape_of_host structs t ≡ Some shape → count_of shape ≡ 1
  single_shape t shape p e = by_element (is_element structs t) refl e
    where
      other : (t : TyData) → is_element structs t ≡ false → is_plain_array structs t ≡ false → other_shape structs t ≡ Some shape → count_of shape ≡ 1
      other void is p e = none_not e
      other (arithmetic a) is p e = none_not e
      other (pointer t) is p e = none_not e
      other (array t n) is p e = true_not (sym (not_false (is_element structs (array t n)) p) ∙ is)
      other (structure k) is p e = of_struct (mapped one_struct (plain_struct structs (structure k)) e)
        where
          of_struct : Mapped one_struct (plain_struct structs (structure k)) shape → count_of shape ≡ 1
          of_struct m = λ j. count_of (sym m.gives j)

      by_element : (b : Bool) → is_element structs t ≡ b → elim b [ true ↦ Some one_element | false ↦ other_shape structs t ] ≡ Some shape → count_of shape ≡ 1
      by_element true is e = λ j. count_of (sym (some_is e) j)
      by_element false is e = other t is p e

  -- ---- sizes

  size_by : (b : Bool) (shape : Shape) → b ≡ true → elim (if b then Some shape else None) [ None ↦ 0 | Some shape ↦ shape.size ] ≡ shape.size
  size_by b shape e = λ j. elim (if e j then Some shape else None) [ None ↦ 0 | Some shape ↦ shape.size ]

  size_is : (t : TyData) (shape : Shape) → shape_of structs t ≡ Some shape → shape.size ≤ 16777216 → size_of structs t ≡ shape.size
  size_is t shape e small =
      (λ j. elim (limited (e j)) [ None ↦ 0 | Some shape ↦ shape.size ])
      ∙ size_by (nat_le shape.size 16777216) shape (le-leb shape.size 16777216 small)

  leaf_fits : (l : LeafData) (f : ElementFits structs l.element) (shape : Shape) → shape_of structs l.apart ≡ Some shape → f.shape.size ≤ shape.size
      → shape.size ≤ 16777216 → 1 ≤ l.count → l.count ≤ 16777216 → LeafFits structs l
  leaf_fits l f shape is larger small positive count = record {
    mark = f.mark;
    is = f.is;
    size = f.size;
    size_is = f.size_is;
    positive = positive;
    within = subst (λ n. f.size ≤ n) (sym (size_is l.apart shape is small)) (up_to f.size f.shape.size shape.size f.within larger);
    small_length = f.small_length;
    small_count = count;
    small_step = subst (λ n. n ≤ 16777216) (sym (size_is l.apart shape is small)) small;
  }

  one_small : 1 ≤ 16777216
  one_small = omega arith

  own_fits : (t u : TyData) (n : ℕ) → 1 ≤ n → n ≤ 16777216 → ElementFits structs u → LeafFits structs (own_leaf t u n)
  own_fits t u n positive count f =
      leaf_fits (own_leaf t u n) f f.shape f.shape_is (itself f.shape.size) f.small positive count

module _ (z : World) (s : AreSound z) (same : ShapesAreSame z) where
  abbrev structs : List StructData
  structs = structs_of z

  abbrev pub Fit : List LeafData → Type 0
  Fit ls = AllLeaves structs ls × AreLeaves ls

  own : (t u : TyData) (n : ℕ) → 1 ≤ n → n ≤ 16777216 → ElementFits structs u → Fit (own_leaf t u n ∷ [])
  own t u n positive count f = ((own_fits structs t u n positive count f, tt), tt)

  -- the element at the end of a way is no larger than the struct
  way_below : (n : ℕ) (w : Way) (h : WayFits z n w) (f : ElementFits structs w.1) → f.shape.size ≤ n
  way_below n w h f = subst (λ (a : Shape). a.size ≤ n) (some_is (sym h.inner.is ∙ f.shape_is)) h.inner.within

  way_element : (n : ℕ) (w : Way) → WayFits z n w → ElementFits structs w.1
  way_element n w h = good_element z s same w.1 h.inner.is_good h.element

  -- ---- a struct

  struct_all : (n : ℕ) (ws : List Way) → AllWays z n ws → AllLeaves structs (map leaf_of_struct ws)
  struct_all n [] h = tt
  struct_all n (w ∷ ws) h = (of_element (way_element n w h.0), struct_all n ws h.1)
    where
      of_element : ElementFits structs w.1 → LeafFits structs (leaf_of_struct w)
      of_element f = leaf_fits structs (leaf_of_struct w) f f.shape f.shape_is (itself f.shape.size) f.small (itself 1) (one_small structs)

  struct_some : (ws : List Way) → AreWays ws → AreLeaves (map leaf_of_struct ws)
  struct_some [] h = absurd h
  struct_some (w ∷ ws) h = tt

  struct_leaves : (k : ℕ) → Laid z k → (ls : List LeafData) → option_map (map leaf_of_struct) (ways structs k) ≡ Some ls → Fit ls
  struct_leaves k l ls e = of_ways (mapped (map leaf_of_struct) (ways structs k) e)
    where
      of_ways : Mapped (map leaf_of_struct) (ways structs k) ls → Fit ls
      of_ways m = subst Fit m.gives
          (struct_all l.shape.size m.value (ways_fit z s same k l m.value m.is).0, struct_some m.value (ways_fit z s same k l m.value m.is).1)

  -- ---- structs of an array

  structs_all : (k n : ℕ) (l : Laid z k) → 1 ≤ n → n * l.shape.size ≤ 16777216 → (ws : List Way) → AllWays z l.shape.size ws → AllLeaves structs (map (leaf_of_structs k n) ws)
  structs_all k n l positive many [] h = tt
  structs_all k n l positive many (w ∷ ws) h = (of_element (way_element l.shape.size w h.0), structs_all k n l positive many ws h.1)
    where
      of_element : ElementFits structs w.1 → LeafFits structs (leaf_of_structs k n w)
      of_element f = leaf_fits structs (leaf_of_structs k n w) f l.shape l.shape_is (way_below l.shape.size w h.0 f) l.small positive
          (count_within n l.shape.size 16777216
          (up_to 1 f.size l.shape.size f.positive (up_to f.size f.shape.size l.shape.size f.within (way_below l.shape.size w h.0 f))) many)

  structs_some : (k n : ℕ) (ws : List Way) → AreWays ws → AreLeaves (map (leaf_of_structs k n) ws)
  structs_some k n [] h = absurd h
  structs_some k n (w ∷ ws) h = tt

  structs_leaves : (k n : ℕ) (l : Laid z k) → 1 ≤ n → n * l.shape.size ≤ 16777216 → (ls : List LeafData)
      → option_map (map (leaf_of_structs k n)) (ways structs k) ≡ Some ls → Fit ls
  structs_leaves k n l positive many ls e = of_ways (mapped (map (leaf_of_structs k n)) (ways structs k) e)
    where
      of_ways : Mapped (map (leaf_of_structs k n)) (ways structs k) ls → Fit ls
      of_ways m = subst Fit m.gives (
        structs_all k n l positive many m.value (ways_fit z s same k l m.value m.is).0,
        structs_some k n m.value (ways_fit z s same k l m.value m.is).1,
      )

  -- ---- any host

  abbrev Leaves : TyData → List LeafData → Option ShapeData → Type 0
  Leaves t ls shape = option_and_then (leaves_by structs t) shape ≡ Some ls

  array_leaves : (t u : TyData) (n : ℕ) → GoodArray z u n → (ls : List LeafData) → Leaves t ls (array_shape structs u n) → Fit ls
  array_leaves t u n g ls e = by_element (is_element structs u) refl e
    where
      of_element : ElementFits structs u → Some (own_leaf t u n ∷ []) ≡ Some ls → Fit ls
      of_element f e = subst Fit (some_is e)
          (own t u n g.positive (count_within n f.shape.size 16777216 (up_to 1 f.size f.shape.size f.positive f.within) (g.small f.shape f.shape_is)) f)

      by_pointer : (b : Bool) → is_element structs u ≡ true → Leaves t ls (elim b [ true ↦ None | false ↦ Some (elements u n) ]) → Fit ls
      by_pointer true is e = none_not e
      by_pointer false is e = of_element (good_element z s same u g.element is) e

      of_laid : (k : ℕ) → u ≡ structure k → Laid z k → option_map (map (leaf_of_structs k n)) (ways structs k) ≡ Some ls → Fit ls
      of_laid k is l e = structs_leaves k n l g.positive (g.small l.shape ((λ j. shape_of structs (is j)) ∙ l.shape_is)) ls e

      many : (o : Option ℕ) → plain_struct structs u ≡ o → Leaves t ls (option_map (λ k. many_structs k n) o) → Fit ls
      many None is e = none_not e
      many (Some k) is e = of_laid k (plain_is structs u is) (laid z s same k (subst (Good z) (plain_is structs u is) g.element)) e

      by_element : (b : Bool) → is_element structs u ≡ b → Leaves t ls (elim b [
        | true ↦ elim (is_pointer u) [ true ↦ None | false ↦ Some (elements u n) ]
        | false ↦ option_map (λ k. many_structs k n) (plain_struct structs u)
      ]) → Fit ls
      by_element true is e = by_pointer (is_pointer u) is e
      by_element false is e = many (plain_struct structs u) refl e

  other_leaves : (t : TyData) → Good z t → (ls : List LeafData) → Leaves t ls (other_shape structs t) → Fit ls
  other_leaves void g ls e = none_not e
  other_leaves (arithmetic a) g ls e = none_not e
  other_leaves (pointer t) g ls e = none_not e
  other_leaves (array t n) g ls e = array_leaves (array t n) t n (good_array z s same t n g) ls e
  other_leaves (structure k) g ls e = one (plain_struct structs (structure k)) refl e
    where
      one : (o : Option ℕ) → plain_struct structs (structure k) ≡ o → Leaves (structure k) ls (option_map one_struct o) → Fit ls
      one None is e = none_not e
      one (Some j) is e = struct_leaves j (laid z s same j (subst (Good z) (plain_is structs (structure k) is) g)) ls e

  pub leaves_fit : (t : TyData) → Good z t → (ls : List LeafData) → leaves structs t ≡ Some ls → AllLeaves structs ls × AreLeaves ls
  leaves_fit t g ls e = by_element (is_element structs t) refl e
    where
      by_element : (b : Bool) → is_element structs t ≡ b → Leaves t ls (elim b [ true ↦ Some one_element | false ↦ other_shape structs t ]) → Fit ls
      by_element true is e = subst Fit (some_is e) (own t t 1 (itself 1) (one_small structs) (good_element z s same t g is))
      by_element false is e = other_leaves t g ls e
