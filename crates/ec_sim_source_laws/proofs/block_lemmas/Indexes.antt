-- The names that are indexes in references stand for what has a type, as the tables tell.
use Rattle.std.proofs.Common.{◌≡◌, ◌∙◌, ℕ, zero, suc, ◌+◌, true, false, not, List, [], ◌∷◌, ◌++◌, length, map, take, drop, refl, sym, Option, Some, None, slice_get, append_assoc}
use Rattle.std.proofs.lemmas.Bool.{false≢true, and_parts}
use Rattle.std.specs.List.{list_all}
use Rattle.ec_ctypes.specs.trees.Exprs.{ExprData, integer, identifier, index, member, arrow}
use Rattle.ec_ctypes.specs.trees.Types.{TyData, void, arithmetic}
use Rattle.ec_language.specs.Letters.{Text}
use Rattle.ec_host_defs.specs.Programs.{Denoted}
use Rattle.ec_typing_defs.specs.statement_parts.References.{References, names_in, all_names}
use Rattle.ec_typing_defs.specs.Answers.{struct_order, renumbered, numbered_from, names_of}
use Rattle.ec_typing_defs.specs.Embedded.{denoted_by, denoted_in}
use Rattle.ec_typing_defs.specs.Types.{is_void}
use Rattle.ec_typing_defs.specs.Worlds.{EntryData, object, function, World, look_up}
use Rattle.ec_sim_world_laws.specs.place.References.{IsIndex, IsReference, IsTypedEntry, IndexHasType, IndexesHaveTypes, NamesAreDeclared}
use Rattle.ec_sim_world_laws.specs.place.Structs.{IsWithin}
use Rattle.ec_sim_host_laws.specs.reference.Found.{AreReferences, AllIndexesHaveTypes}
use Rattle.ec_sim_host_laws.specs.reference.Rows.{is_typed_name, indexes_are_typed}
use Rattle.ec_sim_source_laws.proofs.block_lemmas.Numbers.{none_not, some_is, map_joined}

-- ---- lists

taken_front : {A B : Type 0} (f : A → B) (xs : List A) (ys : List B) → take (length xs) (map f xs ++ ys) ≡ map f xs
taken_front f [] ys = refl
taken_front f (x ∷ xs) ys = λ i. f x ∷ taken_front f xs ys i

dropped_front : {A B : Type 0} (f : A → B) (xs : List A) (ys : List B) → drop (length xs) (map f xs ++ ys) ≡ ys
dropped_front f [] ys = refl
dropped_front f (x ∷ xs) ys = dropped_front f xs ys

first_is : {A : Type 0} {x y : A} {xs ys : List A} → x ∷ xs ≡ y ∷ ys → xs ≡ ys
first_is {A} {xs = xs} e = λ j. rest_or (e j)
  where
    rest_or : List A → List A
    rest_or [] = xs
    rest_or (z ∷ zs) = zs

-- the first name of a reference, and those behind it
record HasFirst (xs : List Text) : Type 0 where
  first : Text
  rest : List Text
  is : xs ≡ first ∷ rest

has_first : (e : ExprData) → IsReference e → HasFirst (names_in e)
has_first (identifier x) h = record { first = x; rest = []; is = refl }
has_first (index a b) h = behind (has_first a h.0)
  where
    behind : HasFirst (names_in a) → HasFirst (names_in a ++ names_in b)
    behind f = record { first = f.first; rest = f.rest ++ names_in b; is = λ i. f.is i ++ names_in b }
has_first (member e m) h = has_first e h
has_first (arrow e m) h = has_first e h
has_first _ h = absurd h

-- ---- what the tables tell

void_untyped : (order : List ℕ) (m : ℕ) (ts : List TyData) (k : ℕ) → slice_get ts k ≡ Some void → is_typed_name (numbered_from m order ts) (Some k) ≡ false
void_untyped order m [] k e = none_not e
void_untyped order m (t ∷ ts) zero e = λ i. not (is_void (renumbered order (some_is e i)))
void_untyped order m (t ∷ ts) (suc k) e = void_untyped order (m + 1) ts k e

module _ (w z : World) (functions : List ℕ) (within : IsWithin w z) (names : NamesAreDeclared w functions) where
  abbrev typed : Text → Type 0
  typed x = IsTypedEntry (look_up x w)

  entry_typed : (x : Text) (o : Option EntryData) → look_up x w ≡ o → is_typed_name (names_of z) (denoted_by o) ≡ true → IsTypedEntry o
  entry_typed x None e h = tt
  entry_typed x (Some (function k done r ps)) e h = tt
  entry_typed x (Some (object k global (Some t))) e h = tt
  entry_typed x (Some (object k global None)) e h =
      false≢true (sym (void_untyped (struct_order z) 0 z.types k (within.types k void (names.objects x k global None e).in_table)) ∙ h)

  abbrev AllTyped : List Text → Type 0
  AllTyped [] = Unit {0}
  AllTyped (x ∷ xs) = typed x × AllTyped xs

  all_typed : (xs : List Text) → list_all (is_typed_name (names_of z)) (denoted_in w xs) ≡ true → AllTyped xs
  all_typed [] h = tt
  all_typed (x ∷ xs) h =
      let parts = and_parts (is_typed_name (names_of z) (denoted_by (look_up x w))) (list_all (is_typed_name (names_of z)) (denoted_in w xs)) h in
      (entry_typed x (look_up x w) refl parts.0, all_typed xs parts.1)

  front_typed : (xs ys : List Text) → AllTyped (xs ++ ys) → AllTyped xs × AllTyped ys
  front_typed [] ys h = (tt, h)
  front_typed (x ∷ xs) ys h = let more = front_typed xs ys h.1 in ((h.0, more.0), more.1)

  index_typed : (e : ExprData) → IsIndex e → AllTyped (names_in e) → IndexHasType w e
  index_typed (integer n (arithmetic a)) r h = tt
  index_typed (identifier x) r h = h.0
  index_typed _ r h = absurd r

  -- of the names behind the first
  reference_typed : (e : ExprData) (r : IsReference e) → AllTyped (has_first e r).rest → IndexesHaveTypes w e
  unfolding has_first
  reference_typed (identifier x) r h = tt
  reference_typed (index a b) r h =
      let parts = front_typed (has_first a r.0).rest (names_in b) h in
      (reference_typed a r.0 parts.0, index_typed b r.1 parts.1)
  reference_typed (member e m) r h = reference_typed e r h
  reference_typed (arrow e m) r h = reference_typed e r h
  reference_typed _ r h = absurd r

  pub indexes_have_types : (rs : References) → AreReferences rs → (more : Denoted) → indexes_are_typed (names_of z) rs (denoted_in w (all_names rs) ++ more) ≡ true → AllIndexesHaveTypes w rs
  indexes_have_types [] a more h = tt
  indexes_have_types (r ∷ rs) a more h = (reference_typed r.value a.0 (all_typed f.rest first), indexes_have_types rs a.1 more parts.1)
    where
      names_here : List Text
      names_here = names_in r.value

      f : HasFirst (names_in r.value)
      f = has_first r.value a.0

      row : denoted_in w (names_in r.value ++ all_names rs) ++ more ≡ denoted_in w (names_in r.value) ++ (denoted_in w (all_names rs) ++ more)
      row = (λ i. map_joined (λ x. denoted_by (look_up x w)) (names_in r.value) (all_names rs) i ++ more)
          ∙ append_assoc (denoted_in w (names_in r.value)) (denoted_in w (all_names rs)) more

      split : indexes_are_typed (names_of z) (r ∷ rs) (denoted_in w (names_in r.value) ++ (denoted_in w (all_names rs) ++ more)) ≡ true
      split = (λ i. indexes_are_typed (names_of z) (r ∷ rs) (sym row i)) ∙ h

      parts : (list_all (is_typed_name (names_of z)) (drop 1 (take (length (names_in r.value)) (denoted_in w (names_in r.value) ++ (denoted_in w (all_names rs) ++ more)))) ≡ true)
          × (indexes_are_typed (names_of z) rs (denoted_in w (all_names rs) ++ more) ≡ true)
      parts =
          let both = and_parts (list_all (is_typed_name (names_of z)) (drop 1 (take (length (names_in r.value)) (denoted_in w (names_in r.value) ++ (denoted_in w (all_names rs) ++ more)))))
          (indexes_are_typed (names_of z) rs (drop (length (names_in r.value)) (denoted_in w (names_in r.value) ++ (denoted_in w (all_names rs) ++ more)))) split in
          (both.0, (λ i. indexes_are_typed (names_of z) rs (sym (dropped_front (λ x. denoted_by (look_up x w)) (names_in r.value) (denoted_in w (all_names rs) ++ more)) i)) ∙ both.1)

      first : list_all (is_typed_name (names_of z)) (denoted_in w f.rest) ≡ true
      first =
          (λ i. list_all (is_typed_name (names_of z)) (drop 1 (denoted_in w (sym f.is i))))
          ∙ (λ i. list_all (is_typed_name (names_of z)) (drop 1 (sym (taken_front (λ x. denoted_by (look_up x w)) (names_in r.value) (denoted_in w (all_names rs) ++ more)) i)))
          ∙ parts.0
