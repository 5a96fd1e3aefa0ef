-- What is known in what is written of a source stays as what is known in the source does.
use Rattle.std.proofs.Common.{◌≡◌, ◌∙◌, ℕ, zero, suc, List, [], ◌∷◌, ◌++◌, map, Option, Some, None, refl, sym, subst, slice_get}
use Rattle.std.specs.Prelude.{option_and_then}
use Rattle.ec_ctypes.specs.Layout.{struct_shape}
use Rattle.ec_ctypes.specs.trees.Types.{TyData}
use Rattle.ec_language.specs.Letters.{Text}
use Rattle.ec_typing_defs.specs.Worlds.{StructInfo, World, or_else, look_up, look_up_in}
use Rattle.ec_typing_defs.specs.Tables.{find}
use Rattle.ec_typing_defs.specs.Expressions.{typed_members}
use Rattle.ec_sim_statement_laws.specs.expression.Worlds.{SameStructs, AreAlike}
use Rattle.ec_sim_world_laws.specs.place.Structs.{IsListed, EachStructIn, IsAmong, IsClosed, AreClosed, ClosedAreListed, Stays, IsWithin}
use Rattle.ec_sim_world_laws.specs.place.References.{IsDeclared, NamesAreDeclared}
use Rattle.ec_sim_world_laws.proofs.place_lemmas.Lists.{none_not, some_is}
use Rattle.ec_sim_world_laws.proofs.place_lemmas.TablesSame.{each_struct}

-- the struct of a number in one list, by that in another
record IsThere (ss : List StructInfo) (k : ℕ) (info : StructInfo) : Type 0 where
  there : StructInfo
  is : slice_get ss k ≡ Some there
  members : there.members ≡ info.members
  shape : there.shape ≡ info.shape

further : {s : StructInfo} {ss : List StructInfo} {k : ℕ} {info : StructInfo} → IsThere ss k info → IsThere (s ∷ ss) (suc k) info
further h = record { there = h.there; is = h.is; members = h.members; shape = h.shape }

there_of : (ss ts : List StructInfo) → SameStructs ss ts → (k : ℕ) {info : StructInfo} → slice_get ss k ≡ Some info → IsThere ts k info
there_of [] ts h k e = none_not e
there_of (s ∷ ss) [] h k e = absurd h
there_of (s ∷ ss) (t ∷ ts) h zero e = record {
  there = t;
  is = refl;
  members = h.0.members ∙ (λ j. (some_is e j).members);
  shape = h.0.shape ∙ (λ j. (some_is e j).shape);
}
there_of (s ∷ ss) (t ∷ ts) h (suc k) e = further (there_of ss ts h.1 k e)

back_of : (ss ts : List StructInfo) → SameStructs ss ts → (k : ℕ) {info : StructInfo} → slice_get ts k ≡ Some info → IsThere ss k info
back_of ss [] h k e = none_not e
back_of [] (t ∷ ts) h k e = absurd h
back_of (s ∷ ss) (t ∷ ts) h zero e = record {
  there = s;
  is = refl;
  members = sym h.0.members ∙ (λ j. (some_is e j).members);
  shape = sym h.0.shape ∙ (λ j. (some_is e j).shape);
}
back_of (s ∷ ss) (t ∷ ts) h (suc k) e = further (back_of ss ts h.1 k e)

same_shapes : (ss ts : List StructInfo) → SameStructs ss ts → map (λ s. s.shape) ts ≡ map (λ s. s.shape) ss
same_shapes [] [] h = refl
same_shapes [] (t ∷ ts) h = absurd h
same_shapes (s ∷ ss) [] h = absurd h
same_shapes (s ∷ ss) (t ∷ ts) h = λ j. h.0.shape j ∷ same_shapes ss ts h.1 j

module _ (w v : World) (a : AreAlike w v) where
  listed_back : (k : ℕ) → IsListed v k → IsListed w k
  listed_back k h = of_there (back_of w.structs v.structs a.structs k h.is)
    where
      of_there : IsThere w.structs k h.info → IsListed w k
      of_there t = record { info = t.there; is = t.is; members = h.members; are = t.members ∙ h.are }

  listed_there : (k : ℕ) → IsListed w k → IsListed v k
  listed_there k h = of_there (there_of w.structs v.structs a.structs k h.is)
    where
      of_there : IsThere v.structs k h.info → IsListed v k
      of_there t = record { info = t.there; is = t.is; members = h.members; are = t.members ∙ h.are }

  closed_there : (before : List ℕ) (k : ℕ) → IsClosed w before k → IsClosed v before k
  closed_there before k h = of_there (there_of w.structs v.structs a.structs k h.is)
    where
      of_there : IsThere v.structs k h.info → IsClosed v before k
      of_there t = record {
        info = t.there;
        is = t.is;
        members = h.members;
        are = t.members ∙ h.are;
        named = h.named;
        inside = h.inside;
        shape = h.shape;
        has_shape = t.shape ∙ h.has_shape;
        is_shape = (λ j. option_and_then (struct_shape (same_shapes w.structs v.structs a.structs j)) (typed_members h.members)) ∙ h.is_shape;
      }

  all_closed_there : (before ks : List ℕ) → AreClosed w before ks → AreClosed v before ks
  all_closed_there before [] h = tt
  all_closed_there before (k ∷ ks) h = (closed_there before k h.0, all_closed_there (before ++ k ∷ []) ks h.1)

  pub closed_alike : ClosedAreListed w → ClosedAreListed v
  closed_alike h = record {
    closed = subst (λ ks. AreClosed v [] ks) (sym a.closed) (all_closed_there [] w.closed h.closed);
    listed = λ k l. subst (λ ks. IsAmong ks k) (sym a.closed) (h.listed k (listed_back k l));
  }

  pub within_alike : (z : World) → IsWithin w z → IsWithin v z
  within_alike z r = record {
    types = λ k t e. r.types k t (sym (λ j. slice_get (a.types j) k) ∙ e);
    stay = stay;
    here = closed_alike r.here;
    there = r.there;
  }
    where
      stay : (k : ℕ) (h : IsListed v k) → Stays z k h.info
      stay k h = of_there (back_of w.structs v.structs a.structs k h.is)
        where
          of_there : IsThere w.structs k h.info → Stays z k h.info
          of_there t = of_stays (r.stay k (record { info = t.there; is = t.is; members = h.members; are = t.members ∙ h.are }))
            where
              of_stays : Stays z k t.there → Stays z k h.info
              of_stays s = record { there = s.there; is = s.is; members = s.members ∙ t.members; shape = s.shape ∙ t.shape }

  look_up_alike : (x : Text) → look_up x v ≡ look_up x w
  look_up_alike x = λ j. or_else (find x (a.here j).names) (look_up_in (a.outer j) x)

  pub names_alike : (functions : List ℕ) → NamesAreDeclared w functions → NamesAreDeclared v functions
  names_alike functions h = record {
    objects = λ x k global t e. declared k t (h.objects x k global t (sym (look_up_alike x) ∙ e));
    are_functions = λ x k done r ps e. h.are_functions x k done r ps (sym (look_up_alike x) ∙ e);
  }
    where
      declared : (k : ℕ) (t : Option TyData) → IsDeclared w k t → IsDeclared v k t
      declared k t d = record {
        in_table = (λ j. slice_get (a.types j) k) ∙ d.in_table;
        are_listed = each_there t d.are_listed;
        no_void = d.no_void;
      }
        where
          each_there : (t : Option TyData) → EachStructIn (IsListed w) t → EachStructIn (IsListed v) t
          each_there None h = h
          each_there (Some t) h = each_struct listed_there t h
