-- Elements and members of places are places.
use Rattle.std.proofs.Common.{◌≡◌, ◌∙◌, ℕ, Bool, true, false, Some, refl}
use Rattle.ec_ctypes.specs.declared.types.arith.Arith.{Arith}
use Rattle.ec_ctypes.specs.trees.Exprs.{ExprData, index, arrow}
use Rattle.ec_ctypes.specs.trees.Types.{TyData, arithmetic, pointer, array, structure}
use Rattle.ec_language.specs.Letters.{Text}
use Rattle.ec_memory_defs.specs.Memory.{pointer_type}
use Rattle.ec_meaning_defs.specs.resolved.Operations.{pointer_plus}
use Rattle.ec_meaning_defs.specs.resolved.Resolved.{Exp, member, load, operate}
use Rattle.ec_typing_defs.specs.Types.{element_type}
use Rattle.ec_typing_defs.specs.Operands as checked
use Rattle.ec_typing_defs.specs.Operands.{index_rule as check_index, arrow_rule as check_arrow, value_rule as check_value, OperandData, member_type, member_by, element_by, valued}
use Rattle.ec_typing_defs.specs.Worlds.{Place, World, members_of, is_complete, chain as check_chain, pure as check_pure, ask as check_ask}
use Rattle.ec_resolving_defs.specs.Conversions.{size_in}
use Rattle.ec_resolving_defs.specs.Storage.{Storage, Reached, reached, followed, chain, pure, checks, ask}
use Rattle.ec_resolving_defs.specs.Operands.{Found, found, offset_among, member_at, value_rule, index_rule, arrow_rule}
use Rattle.ec_sim_statement_laws.specs.argument.Pointers.{value_of, IsPlace, IsPointer}

module _ (at : Place) (s : Storage) (w : World) where
  -- the value of a pointer, and that of an array
  pub pointer_value : {e : ExprData} {u : TyData} {x : Exp} → IsPlace at s w e (pointer u) x → IsPointer at s w e u (load pointer_type x)
  unfolding chain pure checks ask check_chain check_pure check_ask check_value
  pointer_value {e} {u} {x} h = record {
    operand = valued (record h.operand { type = Some (pointer u) }) (pointer u);
    is =
        (λ j. followed (h.is j) (value_rule at))
        ∙ (λ j. value_rule at (found (record h.operand { type = h.type j }) x true) s w);
    type = refl;
  }

  pub array_value : {e : ExprData} {u : TyData} {n : ℕ} {x : Exp} → IsPlace at s w e (array u n) x → IsPointer at s w e u x
  unfolding chain pure checks ask check_chain check_pure check_ask check_value
  array_value {e} {u} {n} {x} h = record {
    operand = valued (record h.operand { type = Some (array u n) }) (array u n);
    is =
        (λ j. followed (h.is j) (value_rule at))
        ∙ (λ j. value_rule at (found (record h.operand { type = h.type j }) x true) s w);
    type = refl;
  }

  -- the value of an index
  pub record IsNumber (e : ExprData) : Type 0 where
    pub operand : OperandData
    pub value : Exp
    pub arith : Arith
    pub is : value_of at e s w ≡ reached (found operand value false) s w
    pub type : operand.type ≡ Some (arithmetic arith)

  pub element_place : {a b : ExprData} {u : TyData} {x : Exp} → IsPointer at s w a u x → (i : IsNumber b) → is_complete w u ≡ true
      → IsPlace at s w (index a b) u (operate (pointer_plus (size_in w u)) x i.value)
  unfolding chain pure checks ask check_chain check_pure check_ask check_value check_index
  element_place {a} {b} {u} {x} p i complete = record {
    operand = checked.object_operand false (Some u);
    is =
        (λ j. followed (p.is j) (λ f. chain (value_of at b) (λ g. index_rule at f g)))
        ∙ (λ j. followed (i.is j) (λ g. index_rule at (found p.operand x false) g))
        ∙ (λ j. index_rule at (found (record p.operand { type = p.type j }) x false) (found (record i.operand { type = i.type j }) i.value false) s w)
        ∙ (λ j. with_element (complete j));
    type = refl;
    place = refl;
  }
    where
      with_element : Bool → Reached Found
      with_element b =
          let o = element_by at (element_type (λ t. b) (pointer u) (arithmetic i.arith)) w in
          reached (found o.answer (operate (pointer_plus (size_in w u)) x i.value) true) s o.world

  -- a member of what a pointer leads to
  pub arrow_place : {e : ExprData} {k : ℕ} {x : Exp} {name : Text} {t : TyData} {offset : ℕ}
      → IsPointer at s w e (structure k) x → member_type name (members_of k w) ≡ Some (Some t) → offset_among w name (members_of k w) ≡ Some offset
      → IsPlace at s w (arrow e name) t (member offset x)
  unfolding chain pure checks ask check_chain check_pure check_ask check_arrow
  arrow_place {e} {k} {x} {name} {t} {offset} p of_type at_offset = record {
    operand = record (checked.computed (Some t)) { is_place = true };
    is =
        (λ j. followed (p.is j) (λ f. arrow_rule at f name))
        ∙ (λ j. arrow_rule at (found (record p.operand { type = p.type j }) x false) name s w)
        ∙ (λ j. reached (found (member_by at true (of_type j) w).answer (member_at x (at_offset j)) true) s (member_by at true (of_type j) w).world);
    type = refl;
    place = refl;
  }
