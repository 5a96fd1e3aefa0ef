-- The pointer that is written for a leaf is resolved to the place of the leaf.
use Rattle.std.proofs.Common.{◌≡◌, ◌∙◌, ℕ, Bool, true, false, pos, List, Option, Some, None, refl, sym, subst}
use Rattle.std.specs.Prelude.{option_map}
use Rattle.ec_ctypes.specs.Layout.{member_of}
use Rattle.ec_ctypes.specs.declared.types.arith.Arith.TheVariants.{Int}
use Rattle.ec_ctypes.specs.trees.Exprs.{ExprData, integer, index, member as member_expr}
use Rattle.ec_ctypes.specs.trees.Types.{TyData, void, arithmetic, pointer, array, structure, StructData}
use Rattle.ec_host_defs.specs.Leaves.{Path, LeafData}
use Rattle.ec_host_defs.specs.Places as written
use Rattle.ec_host_defs.specs.Places.{size_of, pointer_to, leaf_pointer}
use Rattle.ec_memory_defs.specs.Memory.{number}
use Rattle.ec_meaning_defs.specs.resolved.Operations.{pointer_plus}
use Rattle.ec_meaning_defs.specs.resolved.Resolved.{Exp, member, constant, operate, faulty}
use Rattle.ec_typing_defs.specs.Answers.{place_of, renumbered}
use Rattle.ec_typing_defs.specs.Types.{element_type}
use Rattle.ec_typing_defs.specs.Operands as checked
use Rattle.ec_typing_defs.specs.Operands.{address_rule as check_address, index_rule as check_index, member_rule as check_member, value_rule as check_value, OperandData, member_type, member_by, element_by, address, valued, integer_operand}
use Rattle.ec_typing_defs.specs.Worlds.{Place, World, members_of, is_complete, chain as check_chain, pure as check_pure, ask as check_ask}
use Rattle.ec_resolving_defs.specs.Conversions.{size_in}
use Rattle.ec_resolving_defs.specs.Storage.{Storage, Reached, reached, followed, chain, pure, checks, ask}
use Rattle.ec_resolving_defs.specs.Operands.{Found, found, offset_among, member_at, value_rule, address_rule, index_rule, member_rule}
use Rattle.ec_direct_defs.specs.Leaves.{first_element, member_place, along, leaf_place}
use Rattle.ec_sim_statement_laws.specs.argument.Pointers.{value_of, IsPlace, IsPointer, target_of, Leads, leads_here, leads_on, LiesIn, in_itself, in_first_of}

module _ (at : Place) (s : Storage) (w : World) where
  -- ---- members

  pub member_of_place : {e : ExprData} {k : ℕ} {x : Exp} {name : List ℕ} {t : TyData} {offset : ℕ}
      → IsPlace at s w e (structure k) x → member_type name (members_of k w) ≡ Some (Some t) → offset_among w name (members_of k w) ≡ Some offset
      → IsPlace at s w (member_expr e name) t (member offset x)
  unfolding chain pure checks ask check_chain check_pure check_ask check_member
  member_of_place {e} {k} {x} {name} {t} {offset} h of_type at_offset = record {
    operand = record (checked.computed (Some t)) { is_place = true };
    is =
        (λ j. followed (h.is j) (λ f. member_rule at f name))
        ∙ (λ j. member_rule at (found (record h.operand { type = h.type j; is_place = h.place j }) x true) name s w)
        ∙ (λ j. reached (found (member_by at true (of_type j) w).answer (member_at x (at_offset j)) true) s (member_by at true (of_type j) w).world);
    type = refl;
    place = refl;
  }

  -- ---- the first element

  pub first_of_place : {e : ExprData} {u : TyData} {n : ℕ} {x : Exp}
      → IsPlace at s w e (array u n) x → is_complete w u ≡ true
      → IsPlace at s w (index e (integer 0 (arithmetic Int))) u (operate (pointer_plus (size_in w u)) x (constant (number (pos 0))))
  unfolding chain pure checks ask check_chain check_pure check_ask check_value check_index
  first_of_place {e} {u} {n} {x} h complete = record {
    operand = checked.object_operand false (Some u);
    is =
        (λ j. followed (followed (h.is j) (value_rule at)) (λ f. chain (value_of at (integer 0 (arithmetic Int))) (λ g. index_rule at f g)))
        ∙ (λ j. followed (value_rule at (found (record h.operand { type = h.type j }) x true) s w) (λ f. chain (value_of at (integer 0 (arithmetic Int))) (λ g. index_rule at f g)))
        ∙ (λ j. with_element (complete j));
    type = refl;
    place = refl;
  }
    where
      with_element : Bool → Reached Found
      with_element b =
          let o = element_by at (element_type (λ t. b) (pointer u) (arithmetic Int)) w in
          reached (found o.answer (operate (pointer_plus (size_in w u)) x (constant (number (pos 0)))) true) s o.world

  -- ---- pointers

  array_pointer : {e : ExprData} {u : TyData} {n : ℕ} {x : Exp} → IsPlace at s w e (array u n) x → IsPointer at s w e u x
  unfolding chain pure checks ask check_chain check_pure check_ask check_value
  array_pointer {e} {u} {n} {x} h = record {
    operand = valued h.operand (array u n);
    is =
        (λ j. followed (h.is j) (value_rule at))
        ∙ (λ j. value_rule at (found (record h.operand { type = h.type j }) x true) s w);
    type = refl;
  }

  address_pointer : {e : ExprData} {t : TyData} {x : Exp} → IsPlace at s w e t x → IsPointer at s w (written.address e) t x
  unfolding chain pure checks ask check_chain check_pure check_ask check_value check_address
  address_pointer {e} {t} {x} h = record {
    operand = valued (address (record h.operand { type = Some t; is_place = true }) t) (pointer t);
    is =
        (λ j. followed (followed (h.is j) (address_rule at)) (value_rule at))
        ∙ (λ j. followed (address_rule at (found (record h.operand { type = h.type j; is_place = h.place j }) x true) s w) (value_rule at));
    type = refl;
  }

  -- ---- leaves

  module _ (order : List ℕ) (structs : List StructData) where
    found_member : (m : Option (ℕ × TyData)) {offset : ℕ} (x : Exp) → option_map (λ m. m.0) m ≡ Some offset
        → elim m [ None ↦ faulty | Some m ↦ member m.0 x ] ≡ member_at x (option_map (λ m. m.0) m)
    found_member None x e = refl
    found_member (Some m) x e = refl

    along_path : {t u : TyData} {path : Path} {e : ExprData} {x : Exp}
        → Leads w order structs t path u → IsPlace at s w e t x → IsPlace at s w (written.along e path) u (along structs path x)
    along_path leads_here h = h
    along_path (leads_on {k = k} {name = name} {offset = offset} {path = path} m rest) h =
        along_path rest (moved (member_of_place h m.type m.place))
      where
        moved : {e : ExprData} {t : TyData} {x : Exp} → IsPlace at s w e t (member offset x) → IsPlace at s w e t (member_place structs (place_of k order, name) x)
        moved {e} {t} {x} p = subst (λ y. IsPlace at s w e t y)
            (sym (found_member (member_of structs (place_of k order) name) x m.laid_out ∙ (λ j. member_at x (m.laid_out j)))) p

    -- the pointer to a place of this type is made in one way, whichever numbers its structs have
    renumbered_pointer : (u : TyData) {e : ExprData} {x : Exp} → IsPlace at s w e u x → IsPointer at s w (pointer_to (renumbered order u) e) (target_of u) x
    renumbered_pointer void h = address_pointer h
    renumbered_pointer (arithmetic a) h = address_pointer h
    renumbered_pointer (pointer t) h = address_pointer h
    renumbered_pointer (array t n) h = array_pointer h
    renumbered_pointer (structure k) h = address_pointer h

    -- a leaf of a host
    pub leaf_pointed : {t u : TyData} {l : LeafData} {e : ExprData} {x : Exp}
        → LiesIn w order structs t u l → IsPlace at s w e t x → IsPointer at s w (leaf_pointer e l) (target_of u) (leaf_place structs x l)
    leaf_pointed (in_itself {u = u} leads) h = renumbered_pointer u (along_path leads h)
    leaf_pointed {e = e} {x = x} (in_first_of {t = t} {u = u} {apart = apart} elements leads) h =
        renumbered_pointer u (along_path leads (sized (first_of_place h elements.complete)))
      where
        sized : IsPlace at s w (index e (integer 0 (arithmetic Int))) t (operate (pointer_plus (size_in w t)) x (constant (number (pos 0))))
            → IsPlace at s w (index e (integer 0 (arithmetic Int))) t (first_element structs apart x)
        sized p = subst (λ n. IsPlace at s w (index e (integer 0 (arithmetic Int))) t (operate (pointer_plus n) x (constant (number (pos 0))))) elements.size p
