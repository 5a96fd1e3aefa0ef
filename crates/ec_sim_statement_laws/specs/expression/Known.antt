-- What is known of names, types and structs is the same at a place of a source and at that of what is written of it.
use Rattle.std.specs.Prelude.{◌≡◌, ℕ, zero, suc, List, [], ◌∷◌, ◌++◌, length, map, slice_get, slice_set, Option, Some, None, option_map, option_and_then, ◌&&◌}
use Rattle.std.proofs.Common.{refl}
use Rattle.ec_ctypes.specs.Layout.{shape_among, no_members, member_behind}
use Rattle.ec_ctypes.specs.trees.Types.{TyData, void, arithmetic, pointer, array, structure}
use Rattle.ec_language.specs.Letters.{Text}
use Rattle.ec_typing_defs.specs.Tables.{Named, find, put}
use Rattle.ec_typing_defs.specs.Worlds.{MembersData, unlisted, begun, listed, StructInfo, World, or_else, look_up, look_up_in, tag_up, tag_in, entered, with_tag, members_of, shapes_in, shape_in, is_listed, is_complete, is_within, arrays_within}
use Rattle.ec_typing_defs.specs.Operands.{member_type}
use Rattle.ec_typing_defs.specs.Expressions.{Members, first_types, first_of_members, typed_members}
use Rattle.ec_resolving_defs.specs.Conversions.{size_in, within_limit, size_or_none}
use Rattle.ec_resolving_defs.specs.Operands.{offset_among}
use Rattle.ec_sim_statement_laws.specs.expression.Worlds.{SameStruct, SameStructs, AreAlike}

-- ---- structs, one by one

pub map_same : {X : Type 0} (f : StructInfo → X)
    → ((s t : StructInfo) → SameStruct s t → f t ≡ f s)
    → (ss ts : List StructInfo) → SameStructs ss ts → map f ts ≡ map f ss
map_same f p [] [] x = refl
map_same f p [] (t ∷ ts) x = absurd x
map_same f p (s ∷ ss) [] x = absurd x
map_same f p (s ∷ ss) (t ∷ ts) x = λ i. p s t x.0 i ∷ map_same f p ss ts x.1 i

pub get_same : {X : Type 0} (f : StructInfo → X)
    → ((s t : StructInfo) → SameStruct s t → f t ≡ f s)
    → (ss ts : List StructInfo) → SameStructs ss ts → (k : ℕ)
    → option_map f (slice_get ts k) ≡ option_map f (slice_get ss k)
get_same f p [] [] x k = refl
get_same f p [] (t ∷ ts) x k = absurd x
get_same f p (s ∷ ss) [] x k = absurd x
get_same f p (s ∷ ss) (t ∷ ts) x zero = λ i. Some (p s t x.0 i)
get_same f p (s ∷ ss) (t ∷ ts) x (suc k) = get_same f p ss ts x.1 k

pub length_same : (ss ts : List StructInfo) → SameStructs ss ts → length ts ≡ length ss
length_same [] [] x = refl
length_same [] (t ∷ ts) x = absurd x
length_same (s ∷ ss) [] x = absurd x
length_same (s ∷ ss) (t ∷ ts) x = λ i. suc (length_same ss ts x.1 i)

pub joined_same : (ss ts us vs : List StructInfo) → SameStructs ss ts → SameStructs us vs
    → SameStructs (ss ++ us) (ts ++ vs)
joined_same [] [] us vs x y = y
joined_same [] (t ∷ ts) us vs x y = absurd x
joined_same (s ∷ ss) [] us vs x y = absurd x
joined_same (s ∷ ss) (t ∷ ts) us vs x y = (x.0, joined_same ss ts us vs x.1 y)

pub set_same : (ss ts : List StructInfo) (k : ℕ) (s t : StructInfo) → SameStructs ss ts
    → SameStruct s t → SameStructs (slice_set ss k s) (slice_set ts k t)
set_same [] [] k s t x y = x
set_same [] (b ∷ ts) k s t x y = absurd x
set_same (a ∷ ss) [] k s t x y = absurd x
set_same (a ∷ ss) (b ∷ ts) zero s t x y = (y, x.1)
set_same (a ∷ ss) (b ∷ ts) (suc k) s t x y = (x.0, set_same ss ts k s t x.1 y)

pub same_struct : (s : StructInfo) → SameStruct s s
same_struct s = record { tag = refl; members = refl; shape = refl; first = refl }

-- the types behind the first
abbrev behind_first : List TyData → List TyData
behind_first [] = []
behind_first (t ∷ ts) = ts

first_of_struct_same : (ss ts : List StructInfo) → SameStructs ss ts → (k : ℕ)
    → behind_first (first_types ts (structure k)) ≡ behind_first (first_types ss (structure k))
first_of_struct_same [] [] x k = refl
first_of_struct_same [] (t ∷ ts) x k = absurd x
first_of_struct_same (s ∷ ss) [] x k = absurd x
first_of_struct_same (s ∷ ss) (t ∷ ts) x zero = x.0.first
first_of_struct_same (s ∷ ss) (t ∷ ts) x (suc k) = first_of_struct_same ss ts x.1 k

pub first_types_same : (ss ts : List StructInfo) → SameStructs ss ts → (t : TyData)
    → first_types ts t ≡ first_types ss t
first_types_same ss ts x void = refl
first_types_same ss ts x (arithmetic a) = refl
first_types_same ss ts x (pointer t) = refl
first_types_same ss ts x (array t n) = λ i. array t n ∷ first_types_same ss ts x t i
first_types_same ss ts x (structure k) = λ i. structure k ∷ first_of_struct_same ss ts x k i

pub first_of_members_same : (ss ts : List StructInfo) → SameStructs ss ts → (ms : Members)
    → first_of_members ts ms ≡ first_of_members ss ms
first_of_members_same ss ts x [] = refl
first_of_members_same ss ts x ((name, None) ∷ ms) = refl
first_of_members_same ss ts x ((name, Some t) ∷ ms) = first_types_same ss ts x t

-- ---- what is looked up

module _ (w v : World) (alike : AreAlike w v) where
  pub look_up_same : (name : Text) → look_up name v ≡ look_up name w
  look_up_same name =
      λ i. or_else (find name (alike.here i).names) (look_up_in (alike.outer i) name)

  pub tag_up_same : (tag : Text) → tag_up tag v ≡ tag_up tag w
  tag_up_same tag = λ i. or_else (find tag (alike.here i).tags) (tag_in (alike.outer i) tag)

  pub members_same : (k : ℕ) → members_of k v ≡ members_of k w
  members_same k =
      get_same (λ s. s.members) (λ s t x. x.members) w.structs v.structs alike.structs k

  pub shapes_same : shapes_in v ≡ shapes_in w
  shapes_same = map_same (λ s. s.shape) (λ s t x. x.shape) w.structs v.structs alike.structs

  pub shape_same : (t : TyData) → shape_in v t ≡ shape_in w t
  shape_same t = λ i. shape_among (shapes_same i) t

  pub size_same : (t : TyData) → size_in v t ≡ size_in w t
  size_same t = λ i. size_or_none (within_limit (shape_same t i))

  pub complete_same : (t : TyData) → is_complete v t ≡ is_complete w t
  complete_same void = refl
  complete_same (arithmetic a) = refl
  complete_same (pointer t) = refl
  complete_same (array t zero) = refl
  complete_same (array t (suc n)) = complete_same t
  complete_same (structure k) = λ i. is_listed (members_same k i)

  -- which types are complete
  pub completes_same : is_complete v ≡ is_complete w
  completes_same = λ i. λ t. complete_same t i

  pub within_same : (t : TyData) → arrays_within v t ≡ arrays_within w t
  within_same void = refl
  within_same (arithmetic a) = refl
  within_same (pointer t) = refl
  within_same (array t n) = λ i. is_within (shape_same (array t n) i) && within_same t i
  within_same (structure k) = refl

  pub member_type_same : (m : Text) (k : ℕ)
      → member_type m (members_of k v) ≡ member_type m (members_of k w)
  member_type_same m k = λ i. member_type m (members_same k i)

  pub offset_same : (m : Text) (ms : Option MembersData) → offset_among v m ms ≡ offset_among w m ms
  offset_same m None = refl
  offset_same m (Some unlisted) = refl
  offset_same m (Some begun) = refl
  offset_same m (Some (listed ms)) = λ i. option_and_then
      (λ ds. option_map (λ d. d.0) (member_behind (shapes_same i) no_members m ds))
      (typed_members ms)

  pub first_same : (ms : Members) → first_of_members v.structs ms ≡ first_of_members w.structs ms
  first_same ms = first_of_members_same w.structs v.structs alike.structs ms

  pub next_struct_same : length v.structs ≡ length w.structs
  next_struct_same = length_same w.structs v.structs alike.structs

-- ---- what stays alike

module _ (w v : World) (alike : AreAlike w v) where
  pub with_structs : (ss ts : List StructInfo) → SameStructs ss ts
      → AreAlike (record w { structs = ss }) (record v { structs = ts })
  with_structs ss ts same = record {
    is_source = alike.is_source;
    is_written = alike.is_written;
    here = alike.here;
    outer = alike.outer;
    structs = same;
    closed = alike.closed;
    types = alike.types;
    defined = alike.defined;
    labels = alike.labels;
    reserved_here = alike.reserved_here;
    reserved_outer = alike.reserved_outer;
  }

  pub with_closed : (k : ℕ)
      → AreAlike (record w { closed = w.closed ++ k ∷ [] })
      (record v { closed = v.closed ++ k ∷ [] })
  with_closed k = record {
    is_source = alike.is_source;
    is_written = alike.is_written;
    here = alike.here;
    outer = alike.outer;
    structs = alike.structs;
    closed = λ i. alike.closed i ++ k ∷ [];
    types = alike.types;
    defined = alike.defined;
    labels = alike.labels;
    reserved_here = alike.reserved_here;
    reserved_outer = alike.reserved_outer;
  }

  pub with_tags : (tag : Text) (k : ℕ) → AreAlike (with_tag tag k w) (with_tag tag k v)
  with_tags tag k = record {
    is_source = alike.is_source;
    is_written = alike.is_written;
    here = λ i. record { names = (alike.here i).names; tags = put tag k (alike.here i).tags };
    outer = alike.outer;
    structs = alike.structs;
    closed = alike.closed;
    types = alike.types;
    defined = alike.defined;
    labels = alike.labels;
    reserved_here = alike.reserved_here;
    reserved_outer = alike.reserved_outer;
  }

  pub with_places : (m n : ℕ) → AreAlike (record w { places = m }) (record v { places = n })
  with_places m n = record {
    is_source = alike.is_source;
    is_written = alike.is_written;
    here = alike.here;
    outer = alike.outer;
    structs = alike.structs;
    closed = alike.closed;
    types = alike.types;
    defined = alike.defined;
    labels = alike.labels;
    reserved_here = alike.reserved_here;
    reserved_outer = alike.reserved_outer;
  }

  pub with_types : (ty : TyData)
      → AreAlike (record w { types = w.types ++ ty ∷ [] }) (record v { types = v.types ++ ty ∷ [] })
  with_types ty = record {
    is_source = alike.is_source;
    is_written = alike.is_written;
    here = alike.here;
    outer = alike.outer;
    structs = alike.structs;
    closed = alike.closed;
    types = λ i. alike.types i ++ ty ∷ [];
    defined = alike.defined;
    labels = alike.labels;
    reserved_here = alike.reserved_here;
    reserved_outer = alike.reserved_outer;
  }

  pub with_labels : (ls : Named (Unit {0}))
      → AreAlike (record w { labels = ls }) (record v { labels = ls })
  with_labels ls = record {
    is_source = alike.is_source;
    is_written = alike.is_written;
    here = alike.here;
    outer = alike.outer;
    structs = alike.structs;
    closed = alike.closed;
    types = alike.types;
    defined = alike.defined;
    labels = refl;
    reserved_here = alike.reserved_here;
    reserved_outer = alike.reserved_outer;
  }

  pub entered_alike : AreAlike (entered w) (entered v)
  entered_alike = record {
    is_source = alike.is_source;
    is_written = alike.is_written;
    here = refl;
    outer = λ i. alike.here i ∷ alike.outer i;
    structs = alike.structs;
    closed = alike.closed;
    types = alike.types;
    defined = alike.defined;
    labels = alike.labels;
    reserved_here = λ x e. refl;
    reserved_outer = (alike.reserved_here, alike.reserved_outer);
  }
