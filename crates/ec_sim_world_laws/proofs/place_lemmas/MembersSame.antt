-- Members and sizes are those of the tables.
use Rattle.std.proofs.Common.{◌≡◌, ◌∙◌, ℕ, Bool, true, false, List, [], ◌∷◌, Option, Some, None, refl, sym, subst, map-id, slice_get, option_map, nat_le, if◌then◌else◌}
use Rattle.std.specs.Prelude.{option_and_then}
use Rattle.ec_ctypes.specs.declared.types.sizes.Shape.{Shape}
use Rattle.ec_ctypes.specs.trees.Types.{TyData, structure, MemberData}
use Rattle.ec_ctypes.specs.Layout.{struct_shape, limited, member_behind, no_members, with_members}
use Rattle.ec_language.specs.Letters.{Text, same_text}
use Rattle.ec_host_defs.specs.Places.{size_of}
use Rattle.ec_host_defs.specs.Programs as tables
use Rattle.ec_host_defs.specs.Programs.{member_among}
use Rattle.ec_typing_defs.specs.Tables.{find}
use Rattle.ec_typing_defs.specs.Operands.{member_type}
use Rattle.ec_typing_defs.specs.Worlds.{MembersData, unlisted, begun, listed, World, shapes_in, shape_in, members_of}
use Rattle.ec_typing_defs.specs.Expressions.{Members}
use Rattle.ec_typing_defs.specs.Programs.{known_members}
use Rattle.ec_typing_defs.specs.Answers.{struct_order, place_of, renumbered, struct_members, structs_of}
use Rattle.ec_resolving_defs.specs.Conversions.{size_in, within_limit, size_or_none}
use Rattle.ec_resolving_defs.specs.Operands.{offset_among}
use Rattle.ec_sim_statement_laws.specs.argument.Pointers.{HasMember}
use Rattle.ec_sim_world_laws.specs.place.Structs.{IsListed, EachStruct, AreListed, IsAmong, EachMember, IsWithin}
use Rattle.ec_sim_world_laws.specs.place.Places.{IsMember}
use Rattle.ec_sim_world_laws.proofs.place_lemmas.Lists.{Given, none_not, some_is}
use Rattle.ec_sim_world_laws.proofs.place_lemmas.Shapes.{Typed, Agree, member_agrees, IsFound, found_member}
use Rattle.ec_sim_world_laws.proofs.place_lemmas.TablesSame.{each_member, At, found_at, among_front, closed_listed, data_of, in_place, closed_members, closed_typed, table_member, stay_among, stay_shape, shape_same, members_stay}

-- ---- sizes

size_by : (s : Shape) (b : Bool) → elim (if b then Some s else None) [ None ↦ 0 | Some shape ↦ shape.size ] ≡ size_or_none (if b then Some s else None)
size_by s true = refl
size_by s false = refl

same_size : (o : Option Shape) → elim (limited o) [ None ↦ 0 | Some shape ↦ shape.size ] ≡ size_or_none (within_limit o)
same_size None = refl
same_size (Some s) = size_by s (nat_le s.size 16777216)

-- ---- options and members

mapped : {A B : Type 0} (f : A → B) (o : Option A) {b : B} → option_map f o ≡ Some b → Given o
mapped f None e = none_not e
mapped f (Some a) e = record { value = a; is = refl }

abbrev members_or : MembersData → Members
members_or unlisted = []
members_or begun = []
members_or (listed ms) = ms

-- the shapes of all members, where a struct has a shape
all_shaped : (shapes : List (Option Shape)) (ds : List MemberData) {s : Shape} → struct_shape shapes ds ≡ Some s → Given (with_members shapes no_members ds)
all_shaped shapes [] e = none_not e
all_shaped shapes (d ∷ ds) e = mapped _ (with_members shapes no_members (d ∷ ds)) e

-- what holds of each type holds of that of a name
each_found : (P : ℕ → Type 0) (name : Text) (ds : List MemberData) {t : TyData} → EachMember P (known_members ds)
    → find name (known_members ds) ≡ Some (Some t) → EachStruct P t
each_found P name [] h e = none_not e
each_found P name (d ∷ ds) {t} h e = by_test (same_text name d.0) e (λ e. each_found P name ds h.1 e)
  where
    by_test : (b : Bool) → (if b then Some (Some d.1) else find name (known_members ds)) ≡ Some (Some t)
        → (find name (known_members ds) ≡ Some (Some t) → EachStruct P t) → EachStruct P t
    by_test true e more = subst (EachStruct P) (some_is (some_is e)) h.0
    by_test false e more = more e

-- a name among the members in the tables
record Named (order : List ℕ) (name : Text) (ds : List MemberData) (there : TyData) : Type 0 where
  type : TyData
  is : find name (known_members ds) ≡ Some (Some type)
  same : there ≡ renumbered order type

named_in : (order : List ℕ) (name : Text) (ds : List MemberData) (there : TyData)
    → member_among name (struct_members order (known_members ds)) ≡ Some there → Named order name ds there
named_in order name [] there e = none_not e
named_in order name (d ∷ ds) there e = by_test (same_text name d.0) refl e (λ e. named_in order name ds there e)
  where
    behind : same_text name d.0 ≡ false → Named order name ds there → Named order name (d ∷ ds) there
    behind is n = record { type = n.type; is = (λ j. if is j then Some (Some d.1) else find name (known_members ds)) ∙ n.is; same = n.same }

    by_test : (b : Bool) → same_text name d.0 ≡ b
        → elim b [ true ↦ Some (renumbered order d.1) | false ↦ member_among name (struct_members order (known_members ds)) ] ≡ Some there
        → (member_among name (struct_members order (known_members ds)) ≡ Some there → Named order name ds there)
        → Named order name (d ∷ ds) there
    by_test true is e more = record { type = d.1; is = λ j. if is j then Some (Some d.1) else find name (known_members ds); same = sym (some_is e) }
    by_test false is e more = behind is (more e)

-- ---- here and behind the whole source

module _ (w z : World) (r : IsWithin w z) where
  pub size_same : (t : TyData) → AreListed w t → size_of (structs_of z) (renumbered (struct_order z) t) ≡ size_in w t
  size_same t h =
      (λ j. elim (limited (shape_same w z r t h j)) [ None ↦ 0 | Some shape ↦ shape.size ])
      ∙ same_size (shape_in w t)

  module _ (k : ℕ) (h : IsListed w k) where
    abbrev pub Place : Type 0
    Place = At z [] z.closed k

    pub place : Place
    place = found_at z [] z.closed r.there.closed k (stay_among w z r k h)

    -- the structs in its members are listed here
    pub inside_listed : (a : Place) → EachMember (IsListed w) a.here.members
    inside_listed a = own (found_at w [] w.closed r.here.closed k (r.here.listed k h))
      where
        own : At w [] w.closed k → EachMember (IsListed w) a.here.members
        own b = subst (EachMember (IsListed w)) same (each_member among b.here.members b.here.inside)
          where
            among : (j : ℕ) → IsAmong b.front j → IsListed w j
            among j e = closed_listed w r.here j (subst (λ ks. IsAmong ks j) (sym b.is) (among_front b.front (k ∷ b.rest) j e))

            same : b.here.members ≡ a.here.members
            same = λ j. members_or (some_is
                (sym ((λ j. option_map (λ s. s.members) (b.here.is j)) ∙ (λ j. Some (b.here.are j)))
                ∙ members_stay w z r k h a.front a.here) j)

    -- a member of it, by its name
    pub record Has (name : Text) (type : TyData) : Type 0 where
      pub offset : ℕ
      pub is : HasMember w (struct_order z) (structs_of z) k name type offset
      pub are_listed : AreListed w type

    pub has_member : (a : Place) (t : Typed a.here.members) (name : Text) (type : TyData) → find name (known_members t.types) ≡ Some (Some type) → Has name type
    has_member a t name type e = with_shapes (all_shaped (shapes_in z) t.types (sym (λ j. option_and_then (struct_shape (shapes_in z)) (t.is j)) ∙ a.here.is_shape))
      where
        inside : EachMember (IsListed w) (known_members t.types)
        inside = subst (EachMember (IsListed w)) t.same (inside_listed a)

        agree : (ds : List MemberData) → EachMember (IsListed w) (known_members ds) → Agree (shapes_in w) (shapes_in z) (λ t. t) ds
        agree [] h = tt
        agree (d ∷ ds) h = (sym (stay_shape w z r d.1 h.0), agree ds h.1)

        members : members_of k w ≡ Some (listed a.here.members)
        members = members_stay w z r k h a.front a.here

        with_offset : IsFound (shapes_in z) no_members name t.types type → Has name type
        with_offset f = record {
          offset = f.offset;
          is = record {
            type = (λ j. member_type name (members j)) ∙ (λ j. find name (t.same j)) ∙ e;
            place =
                (λ j. offset_among w name (members j))
                ∙ (λ j. option_and_then (λ ds. option_map (λ d. d.0) (member_behind (shapes_in w) no_members name ds)) (t.is j))
                ∙ sym (λ j. option_map (λ d. d.0) (member_behind (shapes_in w) no_members name (map-id t.types j)))
                ∙ (λ j. option_map (λ d. d.0) (member_agrees (shapes_in w) (shapes_in z) (λ t. t) no_members name t.types (agree t.types inside) j))
                ∙ (λ j. option_map (λ (d : ℕ × TyData). d.0) (option_map (λ (m : ℕ × TyData). (m.0, m.1)) (f.is j)));
            laid_out =
                (λ j. option_map (λ m. m.0) (table_member z r.there k (stay_among w z r k h) a t name j))
                ∙ (λ j. option_map (λ (m : ℕ × TyData). m.0) (option_map (λ (m : ℕ × TyData). (m.0, renumbered (struct_order z) m.1)) (f.is j)));
          };
          are_listed = each_found (IsListed w) name t.types inside e;
        }

        with_shapes : Given (with_members (shapes_in z) no_members t.types) → Has name type
        with_shapes s = with_offset (found_member (shapes_in z) name no_members t.types s.is e)

    -- the members of its table
    pub in_table : (a : Place) (t : Typed a.here.members) → slice_get (structs_of z) (place_of k (struct_order z)) ≡ Some (data_of z k)
    in_table a t = in_place z k (stay_among w z r k h)

    pub table_members : (a : Place) (t : Typed a.here.members) → (data_of z k).members ≡ struct_members (struct_order z) (known_members t.types)
    table_members a t = closed_members z a.front k a.here ∙ (λ j. struct_members (struct_order z) (t.same j))

    pub typed : (a : Place) → Typed a.here.members
    typed a = closed_typed z a.front k a.here

    -- a member that the tables tell
    pub member_known : (name : Text) (there : TyData) → tables.member_type (structs_of z) name (structure (place_of k (struct_order z))) ≡ Some there
        → IsMember w z k name there
    member_known name there e = at_place place
      where
        with_types : (a : Place) → Typed a.here.members → IsMember w z k name there
        with_types a t = by_name (named_in (struct_order z) name t.types there
            (sym ((λ j. option_and_then (λ d. member_among name d.members) (in_table a t j)) ∙ (λ j. member_among name (table_members a t j))) ∙ e))
          where
            by_name : Named (struct_order z) name t.types there → IsMember w z k name there
            by_name n = of_member (has_member a t name n.type n.is)
              where
                of_member : Has name n.type → IsMember w z k name there
                of_member m = record { type = n.type; offset = m.offset; is = m.is; same = n.same; are_listed = m.are_listed }

        at_place : Place → IsMember w z k name there
        at_place a = with_types a (typed a)
