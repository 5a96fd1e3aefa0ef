-- A host that isn't at fault: the numbers that are written for its leaves are those of a call.
use Rattle.std.proofs.Common.{◌≡◌, ◌∙◌, ℕ, true, false, not, ◌&&◌, List, [], ◌∷◌, ◌++◌, Option, Some, None, refl, sym, subst, le-leb, option_map, is_some}
use Rattle.std.specs.Prelude.{option_and_then}
use Rattle.ec_arguments.specs.Rules.{element_size, indicator_size, fits_element, fits_indicator, fits_indicators}
use Rattle.ec_base.specs.declared.fault.FaultKind.{FaultKind}
use Rattle.ec_base.specs.declared.fault.FaultKind.TheVariants.{F22, F23, F24}
use Rattle.ec_ctypes.specs.trees.Embedded.{HostData}
use Rattle.ec_ctypes.specs.trees.Exprs.{ExprData}
use Rattle.ec_ctypes.specs.trees.Types.{TyData, StructData}
use Rattle.ec_expansion_defs.specs.Calls.{indicator_of}
use Rattle.ec_host_defs.specs.Elements.{is_element}
use Rattle.ec_host_defs.specs.Faults.{fault_unless, suits_role, is_array_input, value_faults, may_have_indicator, shape_faults, indicator_type_faults, indicator_faults, reference_faults, host_faults}
use Rattle.ec_host_defs.specs.Leaves.{LeafData, ShapeData, shape_of_host, leaves_by, leaves, paired, leaves_or_none, hosted}
use Rattle.ec_host_defs.specs.Places.{symbol_or_none, symbol_in, size_of, indicator_place}
use Rattle.ec_host_defs.specs.Programs.{ProgramData, Denoted, reference_type}
use Rattle.ec_host_defs.specs.Uses.{RoleData, text_role, input_role, output_role, number_role, item_role}
use Rattle.ec_typing_defs.specs.Answers.{struct_order, renumbered, structs_of}
use Rattle.ec_typing_defs.specs.Worlds.{World}
use Rattle.ec_sim_world_laws.specs.place.References.{tables_of}
use Rattle.ec_sim_world_laws.proofs.closing_lemmas.Lists.{false_not, some_is}
use Rattle.ec_sim_host_laws.specs.table.Tables.{AreSound}
use Rattle.ec_sim_host_laws.specs.fit.Fits.{is_value, is_one, PairFits, AllFit, AreSome, HasType, OptionHasType, HostFits}
use Rattle.ec_sim_host_laws.proofs.fit_lemmas.Options.{Given, given, Follows, follows, no_first, no_second, not_true}
use Rattle.ec_sim_host_laws.proofs.fit_lemmas.Types.{ShapesAreSame, Good, good, reference_known}
use Rattle.ec_sim_host_laws.proofs.fit_lemmas.Leaves.{LeafFits, AllLeaves, AreLeaves, AllCount, count_of, counts, element_shape, single_shape, leaves_fit}
use Rattle.ec_sim_host_laws.proofs.fit_lemmas.Indicators.{IndicatorFits, AllIndicators, unless, indicator_sized, indicators_fit}

-- ---- pairs

-- what is known of a leaf of an indicator, if there is one
abbrev OneIndicator : List StructData → ℕ → Option ExprData → Option LeafData → Type 0
OneIndicator structs n None l = Unit {0}
OneIndicator structs n (Some e) None = Unit {0}
OneIndicator structs n (Some e) (Some l) = IndicatorFits structs n l

abbrev Indicators : List StructData → ℕ → Option ExprData → List LeafData → Type 0
Indicators structs n None ls = Unit {0}
Indicators structs n (Some e) ls = AllIndicators structs n ls

module _ (structs : List StructData) where
  element_fits : (l : LeafData) → LeafFits structs l
      → fits_element (element_size (symbol_in structs l).0 (symbol_in structs l).1) (symbol_in structs l).1 l.count (size_of structs l.apart) ≡ true
  element_fits l f =
      (λ j. fits_element (element_size (symbol_or_none (f.is j)).0 (symbol_or_none (f.is j)).1) (symbol_or_none (f.is j)).1 l.count (size_of structs l.apart))
      ∙ (λ j. fits_element (f.size_is j) f.mark.1 l.count (size_of structs l.apart))
      ∙ (λ j. le-leb 1 l.count f.positive j && le-leb f.size (size_of structs l.apart) f.within j && le-leb f.mark.1 16777216 f.small_length j
      && le-leb l.count 16777216 f.small_count j && le-leb (size_of structs l.apart) 16777216 f.small_step j)

  indicator_fits : (n : ℕ) (l : LeafData) → IndicatorFits structs n l
      → fits_indicator (indicator_size (symbol_in structs l).0) n l.count (size_of structs l.apart) ≡ true
  indicator_fits n l i =
      (λ j. fits_indicator (indicator_size (symbol_or_none (i.fits.is j)).0) n l.count (size_of structs l.apart))
      ∙ (λ j. fits_indicator (indicator_sized structs i.fits.mark i.fits.size l.element i.is_one i.fits.is i.fits.size_is j) n l.count (size_of structs l.apart))
      ∙ (λ j. le-leb n l.count i.enough j && le-leb i.fits.size (size_of structs l.apart) i.fits.within j
      && le-leb l.count 16777216 i.fits.small_count j && le-leb (size_of structs l.apart) 16777216 i.fits.small_step j)

  option_fits : (e : Option ExprData) (l : Option LeafData) (n : ℕ) → OneIndicator structs n e l
      → fits_indicators (option_map indicator_of (indicator_place structs e l)) n ≡ true
  option_fits None l n i = refl
  option_fits (Some e) None n i = refl
  option_fits (Some e) (Some l) n i = indicator_fits n l i

  module _ (role : RoleData) (h : HostData) (n : ℕ) (single : is_one role ≡ true → n ≡ 1) where
    pair_fits : (l : LeafData) (i : Option LeafData) → LeafFits structs l → l.count ≡ n → OneIndicator structs n h.indicator i → PairFits structs role h (l, i)
    pair_fits l i f c o = record {
      fits = λ j. element_fits l f j && option_fits h.indicator i l.count (subst (λ m. OneIndicator structs m h.indicator i) (sym c) o) j;
      single = λ r. c ∙ single r;
    }

    no_indicator : (e : Option ExprData) → OneIndicator structs n e None
    no_indicator None = tt
    no_indicator (Some e) = tt

    first_of : (e : Option ExprData) (i : LeafData) (is : List LeafData) → Indicators structs n e (i ∷ is) → OneIndicator structs n e (Some i)
    first_of None i is o = tt
    first_of (Some e) i is o = o.0

    rest_of : (e : Option ExprData) (i : LeafData) (is : List LeafData) → Indicators structs n e (i ∷ is) → Indicators structs n e is
    rest_of None i is o = tt
    rest_of (Some e) i is o = o.1

    pairs_fit : (ls is : List LeafData) → AllLeaves structs ls → AllCount n ls → Indicators structs n h.indicator is → AllFit structs role h (paired ls is)
    pairs_fit [] is f c o = tt
    pairs_fit (l ∷ ls) [] f c o = (pair_fits l None f.0 c.0 (no_indicator h.indicator), pairs_fit ls [] f.1 c.1 o)
    pairs_fit (l ∷ ls) (i ∷ is) f c o =
        (pair_fits l (Some i) f.0 c.0 (first_of h.indicator i is o), pairs_fit ls is f.1 c.1 (rest_of h.indicator i is o))

  some_pairs : (ls is : List LeafData) → AreLeaves ls → AreSome (paired ls is)
  some_pairs [] is h = absurd h
  some_pairs (l ∷ ls) [] h = tt
  some_pairs (l ∷ ls) (i ∷ is) h = tt

  -- ---- roles

  has_leaves : (role : RoleData) (t : TyData) → is_value role ≡ true → suits_role structs role t ≡ true → Given (leaves structs t)
  has_leaves text_role t v e = false_not v
  has_leaves input_role t v e = given (leaves structs t) e
  has_leaves output_role t v e = given (leaves structs t) e
  has_leaves number_role t v e = given (leaves structs t) (λ j. is_some (option_and_then (leaves_by structs t) (element_shape structs t e j)))
  has_leaves item_role t v e = given (leaves structs t) (λ j. is_some (option_and_then (leaves_by structs t) (element_shape structs t e j)))

  one_count : (t : TyData) (shape : ShapeData) → is_element structs t ≡ true → shape_of_host structs t ≡ Some shape → count_of shape ≡ 1
  one_count t shape e is = λ j. count_of (some_is (sym is ∙ element_shape structs t e) j)

  single_count : (role : RoleData) (t : TyData) (shape : ShapeData) → suits_role structs role t ≡ true → is_array_input structs role t ≡ false
      → shape_of_host structs t ≡ Some shape → is_one role ≡ true → count_of shape ≡ 1
  single_count text_role t shape e p is o = false_not o
  single_count input_role t shape e p is o = single_shape structs t shape p is
  single_count output_role t shape e p is o = false_not o
  single_count number_role t shape e p is o = one_count t shape e is
  single_count item_role t shape e p is o = one_count t shape e is

module _ (z : World) (s : AreSound z) (same : ShapesAreSame z) (hosts functions : List ℕ) where
  abbrev structs : List StructData
  structs = structs_of z

  abbrev program : ProgramData
  program = tables_of z hosts functions

  -- the type of a reference
  record IsOf (e : ExprData) (ds : Denoted) : Type 0 where
    type : TyData
    is : reference_type program e ds ≡ Some type
    is_good : Good z type

  typed : (e : ExprData) (ds : Denoted) → HasType z program e ds → IsOf e ds
  typed e ds t = record {
    type = renumbered (struct_order z) t.type;
    is = t.is;
    is_good = good z s (reference_known z s hosts functions e ds t.is) t.type refl t.are_listed;
  }

  -- ---- indicators

  module _ (role : RoleData) (t : TyData) (shape : ShapeData) (is_shape : shape_of_host structs t ≡ Some shape) where
    abbrev faults_by : TyData → Option ShapeData → List FaultKind
    faults_by i o = elim o [ None ↦ [] | Some s ↦ shape_faults structs t i s (shape_of_host structs i) ]

    of_type : (e : ExprData) (is : Denoted) → IsOf e is → indicator_type_faults structs (Some t) (reference_type program e is) ≡ []
        → AllIndicators structs (count_of shape) (leaves_or_none structs (reference_type program e is))
    of_type e is i f = subst (λ o. AllIndicators structs (count_of shape) (leaves_or_none structs o)) (sym i.is)
        (indicators_fit z s same t i.type i.is_good shape
        (sym (λ j. faults_by i.type (is_shape j)) ∙ sym (λ j. indicator_type_faults structs (Some t) (i.is j)) ∙ f))

    indicators : (e : Option ExprData) (is : Denoted) → OptionHasType z program e is → indicator_faults program role (Some t) e is ≡ []
        → Indicators structs (count_of shape) e (leaves_or_none structs (option_and_then (λ i. reference_type program i is) e))
    indicators None is i f = tt
    indicators (Some e) is i f = of_type e is (typed e is i)
        (no_second (fault_unless (may_have_indicator role) F23) (indicator_type_faults structs (Some t) (reference_type program e is))
        (no_second (reference_faults program is)
        (fault_unless (may_have_indicator role) F23 ++ indicator_type_faults structs (Some t) (reference_type program e is)) f))

  -- ---- hosts

  module _ (role : RoleData) (h : HostData) (ds is : Denoted) (value : is_value role ≡ true) where
    abbrev indicator_type : Option TyData
    indicator_type = option_and_then (λ i. reference_type program i is) h.indicator

    abbrev Fits : Option TyData → Type 0
    Fits t = HostFits structs role h (hosted structs t indicator_type)

    of_leaves : (t : TyData) → Good z t → suits_role structs role t ≡ true → is_array_input structs role t ≡ false
        → OptionHasType z program h.indicator is → indicator_faults program role (Some t) h.indicator is ≡ []
        → (ls : List LeafData) → leaves structs t ≡ Some ls → Fits (Some t)
    of_leaves t g suits no_array i f ls l = of_shape (follows (leaves_by structs t) (shape_of_host structs t) l)
      where
        pairs : Follows (leaves_by structs t) (shape_of_host structs t) ls → HostFits structs role h (paired ls (leaves_or_none structs indicator_type))
        pairs o = record {
          all = pairs_fit structs role h (count_of o.value) (single_count structs role t o.value suits no_array o.is) ls (leaves_or_none structs indicator_type)
              (leaves_fit z s same t g ls l).0 (counts structs t o.value ls o.then') (indicators role t o.value o.is h.indicator is i f);
          are_some = some_pairs structs ls (leaves_or_none structs indicator_type) (leaves_fit z s same t g ls l).1;
        }

        of_shape : Follows (leaves_by structs t) (shape_of_host structs t) ls → Fits (Some t)
        of_shape o = subst (λ ls. HostFits structs role h (paired ls (leaves_or_none structs indicator_type)))
            (sym (λ j. elim (l j) [ None ↦ [] | Some ls ↦ ls ])) (pairs o)

    of_faults : (t : TyData) → Good z t → value_faults structs role (Some t) ≡ [] → OptionHasType z program h.indicator is
        → indicator_faults program role (Some t) h.indicator is ≡ [] → Fits (Some t)
    of_faults t g v i f = of_given (has_leaves structs role t value suits)
      where
        suits : suits_role structs role t ≡ true
        suits = unless (suits_role structs role t) F22
            (no_first (fault_unless (suits_role structs role t) F22) (fault_unless (not (is_array_input structs role t)) F24) v)

        no_array : is_array_input structs role t ≡ false
        no_array = not_true (is_array_input structs role t) (unless (not (is_array_input structs role t)) F24
            (no_second (fault_unless (suits_role structs role t) F22) (fault_unless (not (is_array_input structs role t)) F24) v))

        of_given : Given (leaves structs t) → Fits (Some t)
        of_given o = of_leaves t g suits no_array i f o.value o.is

    host_fits : IsOf h.value ds → OptionHasType z program h.indicator is → host_faults program role h ds is ≡ []
        → Fits (reference_type program h.value ds)
    host_fits t i e = subst Fits (sym t.is) (of_faults t.type t.is_good (no_first values others found) i (no_second values others found))
      where
        values : List FaultKind
        values = value_faults structs role (Some t.type)

        others : List FaultKind
        others = indicator_faults program role (Some t.type) h.indicator is

        found : values ++ others ≡ []
        found =
            sym (λ j. value_faults structs role (t.is j) ++ indicator_faults program role (t.is j) h.indicator is)
            ∙ no_second (reference_faults program ds) (value_faults structs role (reference_type program h.value ds)
            ++ indicator_faults program role (reference_type program h.value ds) h.indicator is) e

  pub hosts_fit : (role : RoleData) (h : HostData) (ds is : Denoted) → is_value role ≡ true → HasType z program h.value ds
      → OptionHasType z program h.indicator is → host_faults program role h ds is ≡ []
      → HostFits structs role h (hosted structs (reference_type program h.value ds) (option_and_then (λ i. reference_type program i is) h.indicator))
  hosts_fit role h ds is value t i e = host_fits role h ds is value (typed h.value ds t) i e
