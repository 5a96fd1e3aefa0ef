-- The struct of a VARCHAR that is a member is made alike: at once in the source, and from two members in what is written.
use Rattle.std.specs.Prelude.{◌≡◌, ℕ, suc, ◌+◌, ◌-◌, ◌*◌, ◌%◌, ◌≤◌, nat_le, Bool, true, false, ◌&&◌, not, List, [], ◌∷◌, ◌++◌, length, slice_set, Option, Some, None, is_some, option_and_then, codes}
use Rattle.std.specs.Int.{next_multiple_of}
use Rattle.std.proofs.Common.{◌∙◌, refl, sym, subst, arith}
use Rattle.std.proofs.lemmas.Bool.{true≢false}
use Rattle.std.proofs.lemmas.Bool.Decides.{nat_tests}
use Rattle.ec_base.specs.declared.fault.FaultKind.TheVariants.{F10, F12, F14}
use Rattle.ec_base.specs.declared.fault.LimitKind.TheVariants.{L1}
use Rattle.ec_base.specs.declared.line.Line.{Line}
use Rattle.ec_ctypes.specs.Layout.{struct_shape}
use Rattle.ec_ctypes.specs.declared.types.sizes.Shape.{Shape}
use Rattle.ec_ctypes.specs.trees.Types.{TyData, array, structure}
use Rattle.ec_ctypes.specs.trees.Exprs.{words, DimList, no_dims, no_init}
use Rattle.ec_expansion_defs.specs.Declarations.{at_line, plain_member, varchar_members as written_varchar, varchar_struct as written_struct, last_dim, written_dims}
use Rattle.ec_language.specs.Letters.{Text}
use Rattle.ec_host_defs.specs.sections.Lengths.{ends_in_length}
use Rattle.ec_typing_defs.specs.Known.{is_reserved_tag}
use Rattle.ec_typing_defs.specs.Tables.{find, put}
use Rattle.ec_typing_defs.specs.Types.{int_type, char_type}
use Rattle.ec_typing_defs.specs.Worlds.{Place, World, Out, out, Rule, StructInfo, begun, chain as check_chain, pure as check_pure, ask as check_ask, change, demand, note, free_tag, with_tag, keep_within, place, free_name, struct_named, new_struct, set_struct, is_within, max_size}
use Rattle.ec_typing_defs.specs.Operands.{elements_rule, declared_type, within_rule, complete_rule}
use Rattle.ec_typing_defs.specs.Expressions as checked
use Rattle.ec_typing_defs.specs.Expressions.{Members, has_init, type_or_fault, typed_members, begin_struct, closed_struct, end_struct, member_named, varchar_members, varchar_info, varchar_struct, varchar_member, varchar_object, varchar_tag, tagged_struct, begin_by}
use Rattle.ec_resolving_defs.specs.Agreement.{itself}
use Rattle.ec_resolving_defs.specs.Expressions.{base, members, member_decl, lengths}
use Rattle.ec_resolving_defs.specs.Storage.{Storage, Reached, reached, beside, chain, pure, checks}
use Rattle.ec_sim_statement_laws.specs.expression.Alike.{SameStorage, FindAlike}
use Rattle.ec_sim_statement_laws.specs.expression.Silent.{Nothing}
use Rattle.ec_sim_statement_laws.specs.expression.Worlds.{SameStruct, SameStructs, AreAlike}
use Rattle.ec_sim_statement_laws.specs.expression.Known.{next_struct_same, with_places, with_tags}
use Rattle.ec_sim_statement_laws.specs.expression.Rules.{none_before, some_found, adds_nothing}
use Rattle.ec_sim_statement_laws.specs.expression.Varchars.{VarcharObjectsAreAlike}
use Rattle.ec_sim_statement_laws.proofs.expression_lemmas.Plain.{then_found, then_reached, below_last, last_found, last_reached, written_found, written_reached}
use Rattle.ec_sim_statement_laws.proofs.expression_lemmas.Expressions.{VarcharsAlike}

-- ---- its shape

abbrev varchar_shape : ℕ → Option Shape
varchar_shape c = option_and_then (struct_shape []) (typed_members (varchar_members (Some (suc c))))

abbrev whole_size : ℕ → ℕ
whole_size c = next_multiple_of (4 + suc c * 1) 4

up_to : (a b m : ℕ) → a ≤ b → nat_le b m ≡ true → nat_le a m ≡ true
up_to a b m p h = grind (arith, nat_tests)

part_of : (a r : ℕ) → a ≤ (4 + a) + r
part_of a r = omega arith

-- its text is within the limit where it is
text_fits : (c : ℕ) → is_within (varchar_shape c) ≡ true → nat_le (suc c * 1) max_size ≡ true
text_fits c h = up_to (suc c * 1) (whole_size c) max_size
    (part_of (suc c * 1) ((4 - (4 + suc c * 1) % 4) % 4)) h

-- ---- in the source

pure_found : {A : Type 0} (a : A) (u : World) → check_pure a u ≡ out a [] u
unfolding check_pure
pure_found a u = refl

abbrev made_here : Option Text → ℕ → World → World
made_here tag c w = record w {
  structs = w.structs ++ varchar_info tag (Some (suc c)) w ∷ [];
  closed = w.closed ++ length w.structs ∷ [];
}

kept_within : (at : Place) (b : Bool) (w : World) → (keep_within at L1 b w).found ≡ [] → b ≡ true
unfolding keep_within
kept_within at true w e = refl
kept_within at false w e = absurd (some_found e)

is_kept : (at : Place) (tag : Option Text) (c : ℕ) (w : World)
    → (varchar_struct at tag (Some (suc c)) w).found ≡ [] → is_within (varchar_shape c) ≡ true
unfolding varchar_struct new_struct change check_chain check_ask check_pure
is_kept at tag c w e = kept_within at (is_within (varchar_shape c)) (made_here tag c w)
    (none_before (keep_within at L1 (is_within (varchar_shape c)) (made_here tag c w)).found [] e)

-- its struct, of this number
struct_made : (at : Place) (tag : Option Text) (c : ℕ) (w : World) → is_within (varchar_shape c) ≡ true
    → varchar_struct at tag (Some (suc c)) w ≡ out (length w.structs) [] (made_here tag c w)
unfolding varchar_struct new_struct change check_chain check_ask check_pure keep_within
struct_made at tag c w h =
    λ i. check_chain (keep_within at L1 (h i)) (λ _. check_pure (length w.structs)) (made_here tag c w)

-- the found ones of a member's struct, and of an object's, begin with those of its struct
member_kept : (at : Place) (c : ℕ) (w : World) → (varchar_member at (Some (suc c)) w).found ≡ []
    → is_within (varchar_shape c) ≡ true
unfolding varchar_member check_chain
member_kept at c w e =
    is_kept at None c w (none_before (varchar_struct at None (Some (suc c)) w).found _ e)

member_made : (at : Place) (c : ℕ) (w : World) → is_within (varchar_shape c) ≡ true
    → varchar_member at (Some (suc c)) w
    ≡ out (Some (structure (length w.structs))) [] (made_here None c w)
unfolding varchar_member
member_made at c w h = then_found _ _ w (made_here None c w) _ _ (struct_made at None c w h)
    (pure_found _ (made_here None c w))

-- ---- in what is written

abbrev next : World → World
next u = record u { places = u.places + 1 }

abbrev place_at : World → Line → Place
place_at u line = record { number = u.places; line = line }

abbrev the_length : Members
the_length = (codes "len", Some int_type) ∷ []

abbrev both_members : ℕ → Members
both_members c = (codes "len", Some int_type) ∷ (codes "arr", Some (array char_type (suc c))) ∷ []

len_found : (n : ℕ) (u : World)
    → checked.member_decl (plain_member n (codes "int") (codes "len") no_dims) [] u
    ≡ out the_length [] (next u)
unfolding place type_or_fault member_named within_rule complete_rule free_name demand keep_within check_chain check_ask check_pure
len_found n u = refl

placed_found : (line : Line) (u : World) → place line u ≡ out (place_at u line) [] (next u)
unfolding place
placed_found line u = refl

char_found : (at : Place) (u : World)
    → checked.base at (words (codes "char" ∷ [])) u ≡ out (Some char_type) [] u
unfolding type_or_fault check_pure
char_found at u = refl

within_found : (at : Place) (c : ℕ) (u : World) → nat_le (suc c * 1) max_size ≡ true
    → within_rule at (Some (array char_type (suc c))) u ≡ out tt [] u
unfolding within_rule check_chain check_ask keep_within check_pure
within_found at c u h = λ i. keep_within at L1 (h i && true) u

behind_within : (at : Place) (c : ℕ) (u : World)
    → check_chain (complete_rule at (Some (array char_type (suc c)))) (λ t.
    check_chain (demand at F10 (not (is_some (find (codes "arr") the_length)))) (λ _.
    check_chain (free_name at (codes "arr")) (λ _. check_pure (put (codes "arr") t the_length)))) u
    ≡ out (both_members c) [] u
unfolding complete_rule demand free_name check_chain check_ask check_pure
behind_within at c u = refl

named_found : (at : Place) (c : ℕ) (u : World) → nat_le (suc c * 1) max_size ≡ true
    → member_named at (codes "arr") (Some (array char_type (suc c))) the_length u
    ≡ out (both_members c) [] u
unfolding member_named
named_found at c u h =
    then_found _ _ u u tt _ (within_found at c u h) (behind_within at c u)

behind_lengths : (at : Place) (c : ℕ) (u : World)
    → check_chain (elements_rule at (Some char_type) 0 (Some (suc c) ∷ [])) (λ _.
    check_chain (demand at F14 (not (has_init no_init))) (λ _.
    check_chain (checked.init_parts at no_init) (λ _. member_named at (codes "arr")
    (declared_type (Some char_type) 0 (Some (suc c) ∷ [])) the_length))) u
    ≡ member_named at (codes "arr") (Some (array char_type (suc c))) the_length u
unfolding demand check_chain check_ask check_pure
behind_lengths at c u = refl

module _ (n c : ℕ) (ds : DimList) (small : nat_le (suc c * 1) max_size ≡ true) where
  module _ (is : (at : Place) (w : World) → checked.lengths at ds w ≡ out (Some (suc c) ∷ []) [] w)
    where
      arr_found : (u : World)
          → checked.member_decl (plain_member n (codes "char") (codes "arr") ds) the_length u
          ≡ out (both_members c) [] (next u)
      arr_found u = then_found _ _ u (next u) _ _ (placed_found (at_line n) u)
          (then_found _ _ (next u) (next u) _ _ (char_found _ (next u))
          (then_found _ _ (next u) (next u) _ _ (then_found _ _ (next u) (next u) _ _
          (is (place_at u (at_line n)) (next u))
          (behind_lengths _ c (next u) ∙ named_found _ c (next u) small)) (pure_found _ (next u))))

      members_found : (u : World) → checked.members (written_varchar n ds) [] u
          ≡ out (both_members c) [] (next (next u))
      members_found u = then_found _ _ u (next u) _ _ (len_found n u)
          (then_found _ _ (next u) (next (next u)) _ _ (arr_found (next u))
          (pure_found _ (next (next u))))

abbrev begun_there : World → World
begun_there v = record v { structs = v.structs ++ struct_named None begun ∷ [] }

abbrev ended_there : Option Text → ℕ → ℕ → World → World
ended_there tag k c u = record u {
  structs = slice_set u.structs k (closed_struct tag (both_members c) (varchar_shape c) u);
  closed = u.closed ++ k ∷ [];
}

-- ended behind its two members
abbrev made_there : Option Text → ℕ → ℕ → World → World
made_there tag k c u = ended_there tag k c (next (next u))

begin_found : (at : Place) (v : World)
    → begin_struct at None v ≡ out (length v.structs) [] (begun_there v)
unfolding begin_struct new_struct
begin_found at v = refl

end_found : (at : Place) (tag : Option Text) (k c : ℕ) (u : World) → is_within (varchar_shape c) ≡ true
    → end_struct at tag k (both_members c) u ≡ out (Some (structure k)) [] (ended_there tag k c u)
unfolding end_struct set_struct change check_chain check_ask check_pure keep_within
end_found at tag k c u h = λ i. check_chain (keep_within at L1 (h i))
    (λ _. check_pure (Some (structure k))) (ended_there tag k c u)

-- begun as this number, with this known behind that
struct_found : (there : Place) (n c : ℕ) (tag : Option Text) (ds : DimList)
    → is_within (varchar_shape c) ≡ true
    → ((at : Place) (w : World) → checked.lengths at ds w ≡ out (Some (suc c) ∷ []) [] w)
    → (k : ℕ) (v u : World) → begin_struct there tag v ≡ out k [] u
    → checked.base there (written_struct n tag ds) v
    ≡ out (Some (structure k)) [] (made_there tag k c u)
struct_found there n c tag ds h is k v u p = then_found _ _ v u _ _ p
    (then_found _ _ u (next (next u)) _ _ (members_found n c ds (text_fits c h) is u)
    (end_found there tag k c (next (next u)) h))

-- ---- by the walk

len_reached : (n : ℕ) (t : Storage) (u : World)
    → member_decl (plain_member n (codes "int") (codes "len") no_dims) [] t u
    ≡ reached the_length t (next u)
unfolding place type_or_fault member_named within_rule complete_rule free_name demand keep_within check_chain check_ask check_pure chain pure checks
len_reached n t u = refl

placed_reached : (line : Line) (t : Storage) (u : World)
    → checks (place line) t u ≡ reached (place_at u line) t (next u)
unfolding checks place
placed_reached line t u = refl

char_reached : (at : Place) (t : Storage) (u : World)
    → base at (words (codes "char" ∷ [])) t u ≡ reached (Some char_type) t u
unfolding checks type_or_fault check_pure
char_reached at t u = refl

pure_reached : {A : Type 0} (a : A) (t : Storage) (u : World) → pure a t u ≡ reached a t u
unfolding pure
pure_reached a t u = refl

checks_reached : {A : Type 0} (c : Rule A) (a : A) (t : Storage) (u x : World) → c u ≡ out a [] x
    → checks c t u ≡ reached a t x
unfolding checks
checks_reached c a t u x p = λ i. beside t (p i)

module _ (n c : ℕ) (ds : DimList) (small : nat_le (suc c * 1) max_size ≡ true) where
  module _ (is : (at : Place) (s : Storage) (w : World)
      → lengths at ds s w ≡ reached (Some (suc c) ∷ []) s w) where
    arr_reached : (t : Storage) (u : World)
        → member_decl (plain_member n (codes "char") (codes "arr") ds) the_length t u
        ≡ reached (both_members c) t (next u)
    arr_reached t u = then_reached _ _ t t u (next u) _ _ (placed_reached (at_line n) t u)
        (then_reached _ _ t t (next u) (next u) _ _ (char_reached _ t (next u))
        (then_reached _ _ t t (next u) (next u) _ _ (then_reached _ _ t t (next u) (next u) _ _
        (is (place_at u (at_line n)) t (next u))
        (then_reached _ _ t t (next u) (next u) _ _ (pure_reached tt t (next u))
        (checks_reached _ _ t (next u) (next u) (named_found _ c (next u) small))))
        (pure_reached _ t (next u))))

    members_reached : (t : Storage) (u : World) → members (written_varchar n ds) [] t u
        ≡ reached (both_members c) t (next (next u))
    members_reached t u = then_reached _ _ t t u (next u) _ _ (len_reached n t u)
        (then_reached _ _ t t (next u) (next (next u)) _ _ (arr_reached t (next u))
        (pure_reached _ t (next (next u))))

struct_reached : (there : Place) (n c : ℕ) (tag : Option Text) (ds : DimList)
    → is_within (varchar_shape c) ≡ true
    → ((at : Place) (s : Storage) (w : World)
    → lengths at ds s w ≡ reached (Some (suc c) ∷ []) s w)
    → (k : ℕ) (t : Storage) (v u : World) → begin_struct there tag v ≡ out k [] u
    → base there (written_struct n tag ds) t v
    ≡ reached (Some (structure k)) t (made_there tag k c u)
struct_reached there n c tag ds h is k t v u p =
    then_reached _ _ t t v u _ _ (checks_reached _ _ t v u p)
    (then_reached _ _ t t u (next (next u)) _ _ (members_reached n c ds (text_fits c h) is t u)
    (checks_reached _ _ t (next (next u)) _ (end_found there tag k c (next (next u)) h)))

-- ---- both

last_set : (ss ts : List StructInfo) (a b x : StructInfo) → SameStructs ss ts → SameStruct a b
    → SameStructs (ss ++ a ∷ []) (slice_set (ts ++ x ∷ []) (length ts) b)
last_set [] [] a b x p q = (q, tt)
last_set [] (t ∷ ts) a b x p q = absurd p
last_set (s ∷ ss) [] a b x p q = absurd p
last_set (s ∷ ss) (t ∷ ts) a b x p q = (p.0, last_set ss ts a b x p.1 q)

made_alike : (tag : Option Text) (c : ℕ) (w v : World) → AreAlike w v
    → AreAlike (made_here tag c w)
    (record v {
      structs = slice_set (v.structs ++ struct_named tag begun ∷ []) (length v.structs)
          (closed_struct tag (both_members c) (varchar_shape c) v);
      closed = v.closed ++ length v.structs ∷ [];
    })
made_alike tag c w v alike = record {
  is_source = alike.is_source;
  is_written = alike.is_written;
  here = alike.here;
  outer = alike.outer;
  structs = last_set w.structs v.structs _ _ _ alike.structs
      (record { tag = refl; members = refl; shape = refl; first = refl });
  closed = λ i. alike.closed i ++ next_struct_same w v alike i ∷ [];
  types = alike.types;
  defined = alike.defined;
  labels = alike.labels;
  reserved_here = alike.reserved_here;
  reserved_outer = alike.reserved_outer;
}

-- what is known of all four
all_found : {A : Type 0} (s t : Storage) (a b : A) (x y : World) (o p : Out A) (r q : Reached A)
    → SameStorage s t → b ≡ a → AreAlike x y → o ≡ out a [] x → p ≡ out b [] y
    → r ≡ reached a s x → q ≡ reached b t y → FindAlike Nothing itself s t o p r q
all_found s t a b x y o p r q same e alike f g h k =
    subst (λ z. FindAlike Nothing itself s t z p r q) (sym f)
    (subst (λ z. FindAlike Nothing itself s t (out a [] x) z r q) (sym g)
    (subst (λ z. FindAlike Nothing itself s t (out a [] x) (out b [] y) z q) (sym h)
    (subst (λ z. FindAlike Nothing itself s t (out a [] x) (out b [] y) (reached a s x) z) (sym k)
    (record {
      answer = e;
      silent = tt;
      worlds = alike;
      storages = same;
      adds_none = adds_nothing s;
      adds_none_there = adds_nothing t;
      checked = refl;
      checked_world = refl;
      checked_there = e;
      checked_world_there = refl;
      without_fault = refl;
    }))))

last_here : {A : Type 0} (at : Place) (ds : DimList) (f : Option ℕ → Rule A)
    → ends_in_length ds ≡ true → (w : World)
    → check_chain (checked.last_length at ds) f w ≡ f (Some (suc (below_last ds))) w
last_here at ds f e w = then_found _ _ w w _ _ (last_found at ds e w) refl

pub varchars_alike : VarcharsAlike
varchars_alike at there n ds e = record {
  finds = λ s t w v same alike f.
      let h : is_within (varchar_shape (below_last ds)) ≡ true = member_kept at (below_last ds) w
      (sym (λ i. (last_here at ds (λ c. varchar_member at c) e w i).found) ∙ f)
      in all_found s t (Some (structure (length w.structs))) (Some (structure (length v.structs)))
      (made_here None (below_last ds) w)
      (made_there None (length v.structs) (below_last ds) (begun_there v)) _ _ _ _ same
      (λ i. Some (structure (next_struct_same w v alike i)))
      (with_places _ _ (made_alike None (below_last ds) w v alike) w.places (v.places + 1 + 1))
      (last_here at ds (λ c. varchar_member at c) e w ∙ member_made at (below_last ds) w h)
      (struct_found there n (below_last ds) None (last_dim (written_dims n ds)) h
      (λ at w. written_found at n ds e w) (length v.structs) v (begun_there v) (begin_found there v))
      (then_reached _ _ s s w w _ _ (last_reached at ds e s w)
      (checks_reached _ _ s w _ (member_made at (below_last ds) w h)))
      (struct_reached there n (below_last ds) None (last_dim (written_dims n ds)) h
      (λ at s w. written_reached at n ds e s w) (length v.structs) t v (begun_there v)
      (begin_found there v));
}

-- ---- objects, whose structs have tags

abbrev tag_here : Text → ℕ → World → World
tag_here name c w =
    with_tag (varchar_tag name) (length w.structs) (made_here (Some (varchar_tag name)) c w)

-- the tag is new in this scope
is_new : (at : Place) (b : Bool) (w : World) → (demand at F10 (not b) w).found ≡ [] → b ≡ false
unfolding demand note
is_new at false w e = refl
is_new at true w e = absurd (some_found e)

abbrev has_tag : Text → World → Bool
has_tag name w = is_some (find (varchar_tag name) w.here.tags)

object_kept : (at : Place) (name : Text) (c : ℕ) (w : World)
    → (varchar_object at name (Some (suc c)) w).found ≡ [] → is_within (varchar_shape c) ≡ true
unfolding varchar_object check_chain
object_kept at name c w e = is_kept at (Some (varchar_tag name)) c w
    (none_before (varchar_struct at (Some (varchar_tag name)) (Some (suc c)) w).found _ e)

-- what is done once the struct is made
abbrev tagged : Place → Text → ℕ → Rule (Option TyData)
tagged at name k = check_chain (check_ask (λ w. has_tag name w)) (λ before.
    check_chain (change (with_tag (varchar_tag name) k)) (λ _.
    check_chain (demand at F10 (not before)) (λ _. check_pure (Some (structure k)))))

struct_tagged : (at : Place) (name : Text) (c : ℕ) (w : World) → is_within (varchar_shape c) ≡ true
    → varchar_object at name (Some (suc c)) w
    ≡ tagged at name (length w.structs) (made_here (Some (varchar_tag name)) c w)
unfolding varchar_object
struct_tagged at name c w h = then_found _ _ w (made_here (Some (varchar_tag name)) c w) _ _
    (struct_made at (Some (varchar_tag name)) c w h) refl

tagged_new : (at : Place) (name : Text) (k : ℕ) (w : World) → (tagged at name k w).found ≡ []
    → has_tag name w ≡ false
unfolding change check_chain check_ask
tagged_new at name k w e = is_new at (has_tag name w) (with_tag (varchar_tag name) k w)
    (none_before (demand at F10 (not (has_tag name w)) (with_tag (varchar_tag name) k w)).found _ e)

tagged_found : (at : Place) (name : Text) (k : ℕ) (w : World) → has_tag name w ≡ false
    → tagged at name k w ≡ out (Some (structure k)) [] (with_tag (varchar_tag name) k w)
unfolding change check_chain check_ask check_pure demand
tagged_found at name k w h = λ i. check_chain (demand at F10 (not (h i)))
    (λ _. check_pure (Some (structure k))) (with_tag (varchar_tag name) k w)

-- in what is written the tag is free
tag_free : (at : Place) (name : Text) (v : World) → v.written ≡ true
    → free_tag at (varchar_tag name) v ≡ out tt [] v
unfolding free_tag check_chain check_ask check_pure demand
tag_free at name v h = λ i. demand at F12 (not (is_reserved_tag (h i) (varchar_tag name))) v

begun_by : (at : Place) (tag : Text) (before : Option ℕ) (v : World) → before ≡ None
    → begin_by at tag before v
    ≡ out (length v.structs) [] (with_tag tag (length v.structs)
    (record v { structs = v.structs ++ struct_named (Some tag) begun ∷ [] }))
unfolding tagged_struct new_struct change check_chain check_pure
begun_by at tag before v h = λ i. begin_by at tag (h i) v

asked_found : {A B : Type 0} (f : World → A) (k : A → Rule B) (v : World)
    → check_chain (check_ask f) k v ≡ k (f v) v
unfolding check_chain check_ask
asked_found f k v = refl

begin_tagged : (at : Place) (name : Text) (v : World) → v.written ≡ true
    → find (varchar_tag name) v.here.tags ≡ None
    → begin_struct at (Some (varchar_tag name)) v
    ≡ out (length v.structs) [] (with_tag (varchar_tag name) (length v.structs)
    (record v { structs = v.structs ++ struct_named (Some (varchar_tag name)) begun ∷ [] }))
unfolding begin_struct
begin_tagged at name v h g = then_found _ _ v v tt _ (tag_free at name v h)
    (asked_found _ _ v ∙ begun_by at (varchar_tag name) _ v g)

none_here : {A : Type 0} (o : Option A) → is_some o ≡ false → o ≡ None
none_here None h = refl
none_here (Some a) h = absurd (true≢false h)

abbrev begun_tagged : Text → World → World
begun_tagged name v = with_tag (varchar_tag name) (length v.structs)
    (record v { structs = v.structs ++ struct_named (Some (varchar_tag name)) begun ∷ [] })

tagged_alike : (name : Text) (c : ℕ) (w v : World) → AreAlike w v
    → AreAlike (tag_here name c w)
    (made_there (Some (varchar_tag name)) (length v.structs) c (begun_tagged name v))
tagged_alike name c w v alike = with_places _ _ (subst (λ k. AreAlike
    (with_tag (varchar_tag name) k (made_here (Some (varchar_tag name)) c w))
    (record (with_tag (varchar_tag name) (length v.structs) v) {
      structs = slice_set (v.structs ++ struct_named (Some (varchar_tag name)) begun ∷ [])
          (length v.structs)
          (closed_struct (Some (varchar_tag name)) (both_members c) (varchar_shape c) v);
      closed = v.closed ++ length v.structs ∷ [];
    })) (next_struct_same w v alike)
    (with_tags _ _ (made_alike (Some (varchar_tag name)) c w v alike) (varchar_tag name)
    (length v.structs))) w.places (v.places + 1 + 1)

pub objects_alike : VarcharObjectsAreAlike
objects_alike at there n name ds e = record {
  finds = λ s t w v same alike f.
      let g : (varchar_object at name (Some (suc (below_last ds))) w).found ≡ [] =
      sym (λ i. (last_here at ds (λ c. varchar_object at name c) e w i).found) ∙ f in
      let h : is_within (varchar_shape (below_last ds)) ≡ true =
      object_kept at name (below_last ds) w g in
      let new : has_tag name w ≡ false =
      tagged_new at name (length w.structs) (made_here (Some (varchar_tag name)) (below_last ds) w)
      (sym (λ i. (struct_tagged at name (below_last ds) w h i).found) ∙ g) in
      let made : varchar_object at name (Some (suc (below_last ds))) w
      ≡ out (Some (structure (length w.structs))) [] (tag_here name (below_last ds) w) =
      struct_tagged at name (below_last ds) w h
      ∙ tagged_found at name (length w.structs)
      (made_here (Some (varchar_tag name)) (below_last ds) w) new in
      let begin : begin_struct there (Some (varchar_tag name)) v
      ≡ out (length v.structs) [] (begun_tagged name v) =
      begin_tagged there name v alike.is_written
      ((λ i. find (varchar_tag name) (alike.here i).tags) ∙ none_here _ new) in
      all_found s t (Some (structure (length w.structs))) (Some (structure (length v.structs)))
      (tag_here name (below_last ds) w)
      (made_there (Some (varchar_tag name)) (length v.structs) (below_last ds) (begun_tagged name v))
      _ _ _ _ same (λ i. Some (structure (next_struct_same w v alike i)))
      (tagged_alike name (below_last ds) w v alike)
      (last_here at ds (λ c. varchar_object at name c) e w ∙ made)
      (struct_found there n (below_last ds) (Some (varchar_tag name)) (last_dim (written_dims n ds)) h
      (λ at w. written_found at n ds e w) (length v.structs) v (begun_tagged name v) begin)
      (then_reached _ _ s s w w _ _ (last_reached at ds e s w) (checks_reached _ _ s w _ made))
      (struct_reached there n (below_last ds) (Some (varchar_tag name)) (last_dim (written_dims n ds)) h
      (λ at s w. written_reached at n ds e s w) (length v.structs) t v (begun_tagged name v) begin);
}
