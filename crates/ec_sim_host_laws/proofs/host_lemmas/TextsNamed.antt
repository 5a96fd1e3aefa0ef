-- A type that names a text does so by what it is, and a reference to a text is written as a pointer.
use Rattle.std.proofs.Common.{◌≡◌, ◌∙◌, ℕ, Bool, true, false, List, [], ◌∷◌, Option, Some, None, refl, sym, subst, slice_get, option_map, if◌then◌else◌, codes}
use Rattle.std.proofs.lemmas.Option.{slice_get-map}
use Rattle.std.specs.Prelude.{option_and_then, is_some}
use Rattle.std.specs.Cmp.Lexicographic as lexicographic
use Rattle.ec_arguments.specs.Arguments.{absent, held}
use Rattle.ec_ctypes.specs.trees.Exprs.{ExprData, identifier, index, member, arrow}
use Rattle.ec_ctypes.specs.trees.Types.{TyData, void, arithmetic, pointer, array, structure, MemberData, StructData}
use Rattle.ec_expansion_defs.specs.Calls.{text_of}
use Rattle.ec_host_defs.specs.Elements.{capacity, varchar_symbol, struct_symbol, is_text}
use Rattle.ec_host_defs.specs.Programs.{Denoted, ProgramData, member_among, type_along, variable_type, variable_of, reference_type}
use Rattle.ec_language.specs.Letters.{Text, same_text}
use Rattle.ec_typing_defs.specs.Answers.{struct_order, renumbered, listed_members, struct_data, structs_of}
use Rattle.ec_typing_defs.specs.Embedded.{denoted_by}
use Rattle.ec_typing_defs.specs.Expressions.{varchar_members}
use Rattle.ec_typing_defs.specs.Known.{is_reserved}
use Rattle.ec_typing_defs.specs.Types.{char_type}
use Rattle.ec_typing_defs.specs.Worlds.{listed, StructInfo, ScopeData, World, or_else, look_up, look_up_in}
use Rattle.ec_sim_statement_laws.specs.expression.Worlds.{KeepsReserved, AllKeepReserved}
use Rattle.ec_sim_world_laws.specs.place.References.{IsReference, variable_in}
use Rattle.ec_sim_world_laws.specs.place.Statements.{NamesText}
use Rattle.ec_sim_host_laws.specs.table.Tables.{IsVarchar, VarcharsAre}

false_not : {C : Type 0} → false ≡ true → C
false_not {C} e = absurd (subst by_case e tt)
  where
    by_case : Bool → Type 0
    by_case false = Unit {0}
    by_case true = ⊥

none_not : {A : Type 0} {a : A} {C : Type 0} → None ≡ Some a → C
none_not {A} {a} {C} e = absurd (subst by_case e tt)
  where
    by_case : Option A → Type 0
    by_case None = Unit {0}
    by_case (Some b) = ⊥

-- ---- the struct of a VARCHAR

-- its member is an array
abbrev HasArrayAmong : List MemberData → Type 0
HasArrayAmong ms = (t : TyData) × (n : ℕ) × (member_among (codes "arr") ms ≡ Some (array t n))

abbrev HasArray : Option StructData → Type 0
HasArray d = (t : TyData) × (n : ℕ) × (option_and_then (λ d. member_among (codes "arr") d.members) d ≡ Some (array t n))

abbrev IsElement : Option StructData → Type 0
IsElement d = is_some (option_and_then struct_symbol d) ≡ true

array_by_length : (order : List ℕ) (n : Option ℕ) → is_some (varchar_symbol (capacity (listed_members order (listed (varchar_members n))))) ≡ true
    → HasArrayAmong (listed_members order (listed (varchar_members n)))
array_by_length order None e = false_not e
array_by_length order (Some n) e = (renumbered order char_type, n, refl)

module _ (z : World) (varchars : VarcharsAre z) where
  abbrev order : List ℕ
  order = struct_order z

  of_varchar : (info : StructInfo) → IsVarchar info → is_some (varchar_symbol (capacity (listed_members order info.members))) ≡ true → HasArrayAmong (listed_members order info.members)
  of_varchar info v e = subst (λ ms. HasArrayAmong (listed_members order ms)) (sym v.is)
      (array_by_length order v.length (subst (λ ms. is_some (varchar_symbol (capacity (listed_members order ms))) ≡ true) v.is e))

  array_of_struct : (k : ℕ) (d : Option StructInfo) → slice_get z.structs k ≡ d → IsElement (Some (struct_data order d)) → HasArray (Some (struct_data order d))
  array_of_struct k None is e = false_not e
  array_of_struct k (Some info) is e = by_test info.varchar refl e
    where
      by_test : (b : Bool) → info.varchar ≡ b → is_some (elim b [ true ↦ varchar_symbol (capacity (listed_members order info.members)) | false ↦ None ]) ≡ true
          → HasArray (Some (struct_data order (Some info)))
      by_test true v e = of_varchar info (varchars k info is v) e
      by_test false v e = false_not e

  array_at : (k : Option ℕ) → IsElement (option_map (λ k. struct_data order (slice_get z.structs k)) k) → HasArray (option_map (λ k. struct_data order (slice_get z.structs k)) k)
  array_at None e = false_not e
  array_at (Some k) e = array_of_struct k (slice_get z.structs k) refl e

  pub texts_named : (t : TyData) → is_text (structs_of z) t ≡ true → NamesText (structs_of z) t
  texts_named void e = false_not e
  texts_named (arithmetic a) e = false_not e
  texts_named (pointer t) e = tt
  texts_named (array t n) e = tt
  texts_named (structure k) e = subst HasArray (sym there) (array_at (slice_get order k) (subst IsElement there e))
    where
      there : slice_get (structs_of z) k ≡ option_map (λ k. struct_data order (slice_get z.structs k)) (slice_get order k)
      there = slice_get-map (λ k. struct_data order (slice_get z.structs k)) order k

-- ---- the name NULL

module _ (w : World) (here : KeepsReserved w.here) (outer : AllKeepReserved w.outer) where
  no_name_in : (ss : List ScopeData) → AllKeepReserved ss → (x : Text) → is_reserved x ≡ true → look_up_in ss x ≡ None
  no_name_in [] a x e = refl
  no_name_in (s ∷ ss) a x e = (λ j. or_else (a.0 x e j) (look_up_in ss x)) ∙ no_name_in ss a.1 x e

  no_name : (x : Text) → is_reserved x ≡ true → look_up x w ≡ None
  no_name x e = (λ j. or_else (here x e j) (look_up_in w.outer x)) ∙ no_name_in w.outer outer x e

  null_reserved : (x : Text) → same_text x (codes "NULL") ≡ true → is_reserved x ≡ true
  null_reserved x e = subst (λ y. is_reserved y ≡ true) (sym (lexicographic.same_text x (codes "NULL") (sym e))) refl

  -- a reference with a type is no NULL
  pub text_held : (p : ProgramData) (e : ExprData) (ds : Denoted) → IsReference e → variable_of ds ≡ denoted_by (look_up (variable_in e) w)
      → (there : TyData) → reference_type p e ds ≡ Some there → text_of e ≡ held e
  text_held p (identifier x) ds f v there t = by_name (same_text x (codes "NULL")) refl
    where
      untyped : look_up x w ≡ None → reference_type p (identifier x) ds ≡ None
      untyped is = λ j. option_and_then (λ t. type_along p.structs t (identifier x)) (variable_type p ((v ∙ (λ i. denoted_by (is i))) j))

      by_name : (b : Bool) → same_text x (codes "NULL") ≡ b → (if b then absent else held (identifier x)) ≡ held (identifier x)
      by_name true e = none_not (sym (untyped (no_name x (null_reserved x e))) ∙ t)
      by_name false e = refl
  text_held p (index a b) ds f v there t = refl
  text_held p (member e m) ds f v there t = refl
  text_held p (arrow e m) ds f v there t = refl
  text_held p _ ds f v there t = absurd f
