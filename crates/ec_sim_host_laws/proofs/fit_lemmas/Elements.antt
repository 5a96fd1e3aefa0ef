-- An element in the tables: its symbol is that of a call, and of no more bytes than its type has.
use Rattle.std.proofs.Common.{◌≡◌, ◌∙◌, ℕ, zero, suc, ◌+◌, ◌-◌, ◌*◌, ◌%◌, ◌≤◌, Bool, true, false, List, [], Option, Some, None, refl, sym, subst, leb-true, option_map, nat_le, is_some, arith}
use Rattle.std.specs.Prelude.{option_and_then}
use Rattle.std.specs.Int.{next_multiple_of}
use Rattle.ec_arguments.specs.Rules.{element_size}
use Rattle.ec_ctypes.specs.declared.checked.library.Sym.TheVariants as marks
use Rattle.ec_ctypes.specs.declared.types.arith.Arith.{Arith}
use Rattle.ec_ctypes.specs.declared.types.arith.Arith.TheVariants as arithmetics
use Rattle.ec_ctypes.specs.declared.types.sizes.Shape.{Shape}
use Rattle.ec_ctypes.specs.trees.Types.{TyData, void, arithmetic, pointer, array, structure, StructData}
use Rattle.ec_ctypes.specs.Layout.{scalar, repeated, struct_shape, shape_of}
use Rattle.ec_host_defs.specs.Elements.{Symbol, arith_symbol, char_symbol, capacity, varchar_symbol, struct_symbol, symbol_of, is_element}
use Rattle.ec_typing_defs.specs.Worlds.{MembersData, unlisted, begun, listed, World, shapes_in, shape_in, is_within}
use Rattle.ec_typing_defs.specs.Expressions.{Members, typed_members, varchar_members}
use Rattle.ec_typing_defs.specs.Answers.{struct_order, place_of, renumbered, listed_members, struct_data, structs_of}
use Rattle.ec_sim_world_laws.specs.place.Structs.{IsListed, AreListed}
use Rattle.ec_sim_world_laws.proofs.closing_lemmas.Lists.{false_not, get_map}
use Rattle.ec_sim_host_laws.specs.table.Tables.{is_fitting, IsVarchar, AreSound}
use Rattle.ec_sim_host_laws.proofs.fit_lemmas.Options.{first_true, up_to, itself}
use Rattle.ec_sim_host_laws.proofs.fit_lemmas.Types.{ShapesAreSame, Good, Here, in_table, here}

pub record ElementFits (structs : List StructData) (t : TyData) : Type 0 where
  pub mark : Symbol
  pub is : symbol_of structs t ≡ Some mark
  pub size : ℕ
  pub size_is : element_size mark.0 mark.1 ≡ Some size
  pub positive : 1 ≤ size
  pub small_length : mark.1 ≤ 16777216
  pub shape : Shape
  pub shape_is : shape_of structs t ≡ Some shape
  pub within : size ≤ shape.size
  pub small : shape.size ≤ 16777216

-- ---- scalars

module _ (structs : List StructData) where
  scalar_fits : (t : TyData) (mark : Symbol) (n : ℕ) → symbol_of structs t ≡ Some mark → element_size mark.0 mark.1 ≡ Some n → shape_of structs t ≡ Some (scalar n)
      → nat_le 1 n ≡ true → nat_le mark.1 16777216 ≡ true → nat_le n 16777216 ≡ true → ElementFits structs t
  scalar_fits t mark n is size_is shape_is positive length small = record {
    mark = mark;
    is = is;
    size = n;
    size_is = size_is;
    positive = leb-true 1 n positive;
    small_length = leb-true mark.1 16777216 length;
    shape = scalar n;
    shape_is = shape_is;
    within = itself n;
    small = leb-true n 16777216 small;
  }

  arithmetic_fits : (a : Arith) → ElementFits structs (arithmetic a)
  arithmetic_fits arithmetics.Bool = scalar_fits (arithmetic arithmetics.Bool) (arith_symbol arithmetics.Bool) 1 refl refl refl refl refl refl
  arithmetic_fits arithmetics.Char = scalar_fits (arithmetic arithmetics.Char) (arith_symbol arithmetics.Char) 1 refl refl refl refl refl refl
  arithmetic_fits arithmetics.UChar = scalar_fits (arithmetic arithmetics.UChar) (arith_symbol arithmetics.UChar) 1 refl refl refl refl refl refl
  arithmetic_fits arithmetics.Short = scalar_fits (arithmetic arithmetics.Short) (arith_symbol arithmetics.Short) 2 refl refl refl refl refl refl
  arithmetic_fits arithmetics.UShort = scalar_fits (arithmetic arithmetics.UShort) (arith_symbol arithmetics.UShort) 2 refl refl refl refl refl refl
  arithmetic_fits arithmetics.Int = scalar_fits (arithmetic arithmetics.Int) (arith_symbol arithmetics.Int) 4 refl refl refl refl refl refl
  arithmetic_fits arithmetics.UInt = scalar_fits (arithmetic arithmetics.UInt) (arith_symbol arithmetics.UInt) 4 refl refl refl refl refl refl
  arithmetic_fits arithmetics.Long = scalar_fits (arithmetic arithmetics.Long) (arith_symbol arithmetics.Long) 8 refl refl refl refl refl refl
  arithmetic_fits arithmetics.ULong = scalar_fits (arithmetic arithmetics.ULong) (arith_symbol arithmetics.ULong) 8 refl refl refl refl refl refl
  arithmetic_fits arithmetics.LLong = scalar_fits (arithmetic arithmetics.LLong) (arith_symbol arithmetics.LLong) 8 refl refl refl refl refl refl
  arithmetic_fits arithmetics.ULLong = scalar_fits (arithmetic arithmetics.ULLong) (arith_symbol arithmetics.ULLong) 8 refl refl refl refl refl refl

  -- ---- pointers

  to_arithmetic : (a : Arith) → is_some (char_symbol (arithmetic a) 0) ≡ true → ElementFits structs (pointer (arithmetic a))
  to_arithmetic arithmetics.Char e = scalar_fits (pointer (arithmetic arithmetics.Char)) (marks.Char, 0) 8 refl refl refl refl refl refl
  to_arithmetic arithmetics.UChar e = scalar_fits (pointer (arithmetic arithmetics.UChar)) (marks.UnsignedChar, 0) 8 refl refl refl refl refl refl
  to_arithmetic _ e = false_not e

  pointer_fits : (t : TyData) → is_element structs (pointer t) ≡ true → ElementFits structs (pointer t)
  pointer_fits (arithmetic a) e = to_arithmetic a e
  pointer_fits _ e = false_not e

  -- ---- arrays of characters

  times_one : (n : ℕ) → n ≤ n * 1
  times_one n = omega arith

  chars_fit : (t : TyData) (n : ℕ) (mark : Symbol) → symbol_of structs (array t (suc n)) ≡ Some mark → mark.1 ≡ suc n → element_size mark.0 mark.1 ≡ Some (suc n)
      → shape_of structs (array t (suc n)) ≡ Some (repeated (suc n) (scalar 1)) → suc n * 1 ≤ 16777216 → ElementFits structs (array t (suc n))
  chars_fit t n mark is length size_is shape_is small = record {
    mark = mark;
    is = is;
    size = suc n;
    size_is = size_is;
    positive = omega arith;
    small_length = subst (λ k. k ≤ 16777216) (sym length) (up_to (suc n) (suc n * 1) 16777216 (times_one (suc n)) small);
    shape = repeated (suc n) (scalar 1);
    shape_is = shape_is;
    within = times_one (suc n);
    small = small;
  }

  of_arithmetic : (a : Arith) (n : ℕ) → is_some (char_symbol (arithmetic a) (suc n)) ≡ true → (z : World)
      → is_within (shape_in z (array (arithmetic a) (suc n))) ≡ true → ElementFits structs (array (arithmetic a) (suc n))
  of_arithmetic arithmetics.Char n e z w = chars_fit (arithmetic arithmetics.Char) n (marks.Char, suc n) refl refl refl refl (leb-true (suc n * 1) 16777216 w)
  of_arithmetic arithmetics.UChar n e z w = chars_fit (arithmetic arithmetics.UChar) n (marks.UnsignedChar, suc n) refl refl refl refl (leb-true (suc n * 1) 16777216 w)
  of_arithmetic _ n e z w = false_not e

  array_fits : (order : List ℕ) (t : TyData) (n : ℕ) → is_element structs (array (renumbered order t) (suc n)) ≡ true → (z : World)
      → is_within (shape_in z (array t (suc n))) ≡ true → ElementFits structs (array (renumbered order t) (suc n))
  array_fits order (arithmetic a) n e z w = of_arithmetic a n e z w
  array_fits order void n e z w = false_not e
  array_fits order (pointer t) n e z w = false_not e
  array_fits order (array t m) n e z w = false_not e
  array_fits order (structure k) n e z w = false_not e

-- ---- VARCHARs

abbrev whole_size : ℕ → ℕ
whole_size n = next_multiple_of (4 + suc n * 1) 4

abbrev varchar_size : ℕ → ℕ
varchar_size n = next_multiple_of (4 + suc n) 4

once : (n : ℕ) → n ≡ n * 1
once n = omega arith

same_sizes : (n : ℕ) → varchar_size n ≡ whole_size n
same_sizes n = λ j. next_multiple_of (4 + once (suc n) j) 4

-- a text lies within it
text_below : (a r : ℕ) → suc a ≤ (4 + suc a) + r
text_below a r = omega arith

some_bytes : (a r : ℕ) → 1 ≤ (4 + suc a) + r
some_bytes a r = omega arith

abbrev padding : ℕ → ℕ
padding n = (4 - (4 + suc n) % 4) % 4

abbrev size_or : Option Shape → ℕ
size_or None = 0
size_or (Some s) = s.size

abbrev members_or : MembersData → Members
members_or unlisted = []
members_or begun = []
members_or (listed ms) = ms

module _ (z : World) (s : AreSound z) (same : ShapesAreSame z) where
  abbrev order : List ℕ
  order = struct_order z

  abbrev structs : List StructData
  structs = structs_of z

  -- the symbol of a struct with these members
  abbrev symbol_by : Bool → MembersData → Option Symbol
  symbol_by b ms = elim b [ true ↦ varchar_symbol (capacity (listed_members order ms)) | false ↦ None ]

  module _ (k : ℕ) (l : IsListed z k) (h : Here z k) where
    symbol_is : symbol_of structs (structure (place_of k order)) ≡ symbol_by h.info.varchar h.info.members
    symbol_is =
        (λ j. option_and_then struct_symbol (in_table z s k (s.closed.listed k l) j))
        ∙ (λ j. option_and_then struct_symbol (Some (struct_data order (h.is j))))

    shape_is : shape_of structs (structure (place_of k order)) ≡ Some h.shape
    shape_is =
        same (structure k) l
        ∙ (λ j. option_and_then (λ shape. shape) (get_map (λ s. s.shape) z.structs k j))
        ∙ (λ j. option_and_then (λ shape. shape) (option_map (λ s. s.shape) (h.is j)))
        ∙ h.has_shape

    small : h.shape.size ≤ 16777216
    small = leb-true h.shape.size 16777216 (sym (λ j. is_within (h.has_shape j)) ∙ s.fit.structs k h.info h.is)

    size_is : (n : ℕ) → h.info.members ≡ listed (varchar_members (Some (suc n))) → varchar_size n ≡ h.shape.size
    size_is n are = same_sizes n ∙ (λ j. size_or (shape j))
      where
        members : h.members ≡ varchar_members (Some (suc n))
        members = λ j. members_or ((sym h.are ∙ are) j)

        shape : option_and_then (struct_shape (shapes_in z)) (typed_members (varchar_members (Some (suc n)))) ≡ Some h.shape
        shape = sym (λ j. option_and_then (struct_shape (shapes_in z)) (typed_members (members j))) ∙ h.is_shape

    of_length : (o : Option ℕ) → h.info.members ≡ listed (varchar_members o) → h.info.varchar ≡ true
        → is_some (symbol_by h.info.varchar h.info.members) ≡ true → ElementFits structs (structure (place_of k order))
    of_length None are v e = false_not (sym (λ j. is_some (symbol_by (v j) (are j))) ∙ e)
    of_length (Some zero) are v e = false_not (sym (λ j. is_some (symbol_by (v j) (are j))) ∙ e)
    of_length (Some (suc n)) are v e = record {
      mark = (marks.Varchar, suc n);
      is = symbol_is ∙ (λ j. symbol_by (v j) (are j));
      size = varchar_size n;
      size_is = refl;
      positive = some_bytes n (padding n);
      small_length = up_to (suc n) (varchar_size n) 16777216 (text_below n (padding n)) (subst (λ m. m ≤ 16777216) (sym (size_is n are)) small);
      shape = h.shape;
      shape_is = shape_is;
      within = subst (λ m. varchar_size n ≤ m) (size_is n are) (itself (varchar_size n));
      small = small;
    }

    of_varchar : (b : Bool) → h.info.varchar ≡ b → is_some (symbol_by h.info.varchar h.info.members) ≡ true → ElementFits structs (structure (place_of k order))
    of_varchar false v e = false_not (sym (λ j. is_some (symbol_by (v j) h.info.members)) ∙ e)
    of_varchar true v e = with_length (s.varchars k h.info h.is v)
      where
        with_length : IsVarchar h.info → ElementFits structs (structure (place_of k order))
        with_length a = of_length a.length a.is v e

    struct_fits : is_element structs (structure (place_of k order)) ≡ true → ElementFits structs (structure (place_of k order))
    struct_fits e = of_varchar h.info.varchar refl (sym (λ j. is_some (symbol_is j)) ∙ e)

  -- ---- any element

  element_fits : (t : TyData) → is_fitting z t ≡ true → AreListed z t → is_element structs (renumbered order t) ≡ true → ElementFits structs (renumbered order t)
  element_fits void f l e = false_not e
  element_fits (arithmetic a) f l e = arithmetic_fits structs a
  element_fits (pointer t) f l e = pointer_fits structs (renumbered order t) e
  element_fits (array t zero) f l e = false_not e
  element_fits (array t (suc n)) f l e = array_fits structs order t n e z (first_true (is_within (shape_in z (array t (suc n)))) (is_fitting z t) f)
  element_fits (structure k) f l e = struct_fits k l (here z s k l) e

  pub good_element : (t : TyData) → Good z t → is_element structs t ≡ true → ElementFits structs t
  good_element t g e =
      subst (ElementFits structs) (sym g.is) (element_fits g.type g.fitting g.are_listed (sym (λ j. is_element structs (g.is j)) ∙ e))
