-- A name with its suffixes is seen as a pointer by its form, where its name is not reserved.
use Rattle.std.proofs.Common.{◌≡◌, ◌∙◌, Bool, true, false, List, [], ◌∷◌, map, Some, None, refl, sym, codes, if◌then◌else◌}
use Rattle.std.specs.Prelude.{◌||◌}
use Rattle.ec_arguments.specs.Arguments.{absent, held, null}
use Rattle.ec_ctypes.specs.declared.checked.library.Sym.{Sym}
use Rattle.ec_ctypes.specs.declared.checked.library.Sym.TheVariants as symbol
use Rattle.ec_ctypes.specs.declared.types.arith.Arith.TheVariants.{Int}
use Rattle.ec_ctypes.specs.Texts.{symbol_text}
use Rattle.ec_ctypes.specs.trees.Exprs.{ExprData, integer, character, string, identifier, unary, binary, assign, bump, call, call_other, index, member, arrow, cast, size_type, size_expr}
use Rattle.ec_ctypes.specs.trees.Types.{TyData, void, arithmetic, pointer, array, structure}
use Rattle.ec_language.specs.Letters.{Text, same_text}
use Rattle.ec_language.proofs.Marks.{same_text_is}
use Rattle.ec_expansion_defs.specs.Calls.{text_of}
use Rattle.ec_host_defs.specs.Leaves.{Path, LeafData}
use Rattle.ec_host_defs.specs.Places.{first_of_array, along, address, pointer_to, leaf_pointer}
use Rattle.ec_typing_defs.specs.Known.{with_symbols, is_symbol, is_reserved, symbols}
use Rattle.ec_typing_defs.specs.Library.{named_among}
use Rattle.ec_typing_defs.specs.Tables.{is_one_of}
use Rattle.ec_resolving_defs.specs.Operands.{Found, is_library_literal, argument_of, name_argument, pointer_argument}
use Rattle.ec_sim_world_laws.specs.call.Pointers.{IsSimple}
use Rattle.ec_sim_world_laws.specs.place.References.{IsIndex, IsReference, variable_in}
use Rattle.ec_sim_host_laws.proofs.pointer_lemmas.Basics.{false_not}

-- ---- names that are not reserved

reserved_symbol : (s : Sym) → is_reserved (symbol_text s) ≡ true
reserved_symbol symbol.Char = refl
reserved_symbol _ = refl

module _ (x : Text) (free : is_reserved x ≡ false) where
  is_other : (y : Text) → is_reserved y ≡ true → same_text y x ≡ false
  is_other y r = by_test (same_text y x) refl
    where
      by_test : (b : Bool) → same_text y x ≡ b → b ≡ false
      by_test true e = false_not (sym free ∙ sym (λ j. is_reserved (same_text_is y x e j)) ∙ r)
      by_test false e = refl

  other_is : (y : Text) → is_reserved y ≡ true → same_text x y ≡ false
  other_is y r = by_test (same_text x y) refl
    where
      by_test : (b : Bool) → same_text x y ≡ b → b ≡ false
      by_test true e = false_not (sym free ∙ (λ j. is_reserved (same_text_is x y e j)) ∙ r)
      by_test false e = refl

  no_symbol_in : (ss : List Sym) → is_one_of (map symbol_text ss) x ≡ false
  no_symbol_in [] = refl
  no_symbol_in (s ∷ ss) = λ j. is_other (symbol_text s) (reserved_symbol s) j || no_symbol_in ss j

  named_none : (ss : List Sym) → named_among symbol_text x ss ≡ None
  named_none [] = refl
  named_none (s ∷ ss) = λ j. if other_is (symbol_text s) (reserved_symbol s) j then Some s else named_none ss j

  name_seen : (f : Found) → argument_of (identifier x) f ≡ pointer_argument f.operand.type f.exp
  name_seen f =
      (λ j. name_argument x (named_none symbols j) f)
      ∙ (λ j. if other_is (codes "NULL") refl j then null else pointer_argument f.operand.type f.exp)

  name_held : text_of (identifier x) ≡ held (identifier x)
  name_held = λ j. if other_is (codes "NULL") refl j then absent else held (identifier x)

-- ---- forms

pub record Form (e : ExprData) : Type 0 where
  pub no_symbol : is_symbol e ≡ false
  pub no_literal : is_library_literal with_symbols e ≡ false
  pub form : (f : Found) → argument_of e f ≡ pointer_argument f.operand.type f.exp
  pub simple : IsSimple e

index_simple : (e : ExprData) → IsIndex e → IsSimple e
index_simple (integer n t) h = tt
index_simple (identifier x) h = tt
index_simple (character c) h = absurd h
index_simple (string s) h = absurd h
index_simple (unary op e) h = absurd h
index_simple (binary op a b) h = absurd h
index_simple (assign op a b) h = absurd h
index_simple (bump before up e) h = absurd h
index_simple (call f es) h = absurd h
index_simple (call_other f es) h = absurd h
index_simple (index a b) h = absurd h
index_simple (member e m) h = absurd h
index_simple (arrow e m) h = absurd h
index_simple (cast b stars e) h = absurd h
index_simple (size_type b stars) h = absurd h
index_simple (size_expr e) h = absurd h

reference_simple : (e : ExprData) → IsReference e → IsSimple e
reference_simple (identifier x) h = tt
reference_simple (index a b) h = (reference_simple a h.0, index_simple b h.1)
reference_simple (member e m) h = reference_simple e h
reference_simple (arrow e m) h = reference_simple e h
reference_simple (integer n t) h = absurd h
reference_simple (character c) h = absurd h
reference_simple (string s) h = absurd h
reference_simple (unary op e) h = absurd h
reference_simple (binary op a b) h = absurd h
reference_simple (assign op a b) h = absurd h
reference_simple (bump before up e) h = absurd h
reference_simple (call f es) h = absurd h
reference_simple (call_other f es) h = absurd h
reference_simple (cast b stars e) h = absurd h
reference_simple (size_type b stars) h = absurd h
reference_simple (size_expr e) h = absurd h

pub reference_form : (e : ExprData) → IsReference e → is_reserved (variable_in e) ≡ false → Form e
reference_form (identifier x) h free = record { no_symbol = no_symbol_in x free symbols; no_literal = refl; form = name_seen x free; simple = tt }
reference_form (index a b) h free = record { no_symbol = refl; no_literal = refl; form = λ f. refl; simple = reference_simple (index a b) h }
reference_form (member e m) h free = record { no_symbol = refl; no_literal = refl; form = λ f. refl; simple = reference_simple (member e m) h }
reference_form (arrow e m) h free = record { no_symbol = refl; no_literal = refl; form = λ f. refl; simple = reference_simple (arrow e m) h }
reference_form (integer n t) h free = absurd h
reference_form (character c) h free = absurd h
reference_form (string s) h free = absurd h
reference_form (unary op e) h free = absurd h
reference_form (binary op a b) h free = absurd h
reference_form (assign op a b) h free = absurd h
reference_form (bump before up e) h free = absurd h
reference_form (call f es) h free = absurd h
reference_form (call_other f es) h free = absurd h
reference_form (cast b stars e) h free = absurd h
reference_form (size_type b stars) h free = absurd h
reference_form (size_expr e) h free = absurd h

-- as a text it is no literal, and not NULL
pub reference_held : (e : ExprData) → IsReference e → is_reserved (variable_in e) ≡ false → text_of e ≡ held e
reference_held (identifier x) h free = name_held x free
reference_held (index a b) h free = refl
reference_held (member e m) h free = refl
reference_held (arrow e m) h free = refl
reference_held (integer n t) h free = absurd h
reference_held (character c) h free = absurd h
reference_held (string s) h free = absurd h
reference_held (unary op e) h free = absurd h
reference_held (binary op a b) h free = absurd h
reference_held (assign op a b) h free = absurd h
reference_held (bump before up e) h free = absurd h
reference_held (call f es) h free = absurd h
reference_held (call_other f es) h free = absurd h
reference_held (cast b stars e) h free = absurd h
reference_held (size_type b stars) h free = absurd h
reference_held (size_expr e) h free = absurd h

address_form : (e : ExprData) → Form e → Form (address e)
address_form e h = record { no_symbol = refl; no_literal = refl; form = λ f. refl; simple = h.simple }

pointer_form : (whole : TyData) (e : ExprData) → Form e → Form (pointer_to whole e)
pointer_form void e h = address_form e h
pointer_form (arithmetic a) e h = address_form e h
pointer_form (pointer t) e h = address_form e h
pointer_form (array t n) e h = h
pointer_form (structure k) e h = address_form e h

along_form : (path : Path) (e : ExprData) → IsReference e → is_reserved (variable_in e) ≡ false → Form (along e path)
along_form [] e h free = reference_form e h free
along_form (step ∷ path) e h free = along_form path (member e step.1) h free

first_form : (in_first : Bool) (path : Path) (e : ExprData) → IsReference e → is_reserved (variable_in e) ≡ false → Form (along (first_of_array in_first e) path)
first_form true path e h free = along_form path (index e (integer 0 (arithmetic Int))) (h, tt) free
first_form false path e h free = along_form path e h free

pub leaf_form : (l : LeafData) (e : ExprData) → IsReference e → is_reserved (variable_in e) ≡ false → Form (leaf_pointer e l)
leaf_form l e h free = pointer_form l.whole (along (first_of_array l.in_first e) l.path) (first_form l.in_first l.path e h free)
