-- The value of a pointer, and that of an array, and what the checks see of one.
use Rattle.std.proofs.Common.{◌≡◌, ◌∙◌, ℕ, true, Some, refl, sym, subst}
use Rattle.ec_ctypes.specs.trees.Exprs.{ExprData}
use Rattle.ec_ctypes.specs.trees.Types.{TyData, pointer, array}
use Rattle.ec_memory_defs.specs.Memory.{pointer_type}
use Rattle.ec_meaning_defs.specs.resolved.Resolved.{Exp, load}
use Rattle.ec_typing_defs.specs.Expressions as checked_parts
use Rattle.ec_typing_defs.specs.Library.{points_to_text}
use Rattle.ec_typing_defs.specs.Operands.{valued, value_rule as check_value}
use Rattle.ec_typing_defs.specs.Worlds.{Place, World, chain as check_chain, pure as check_pure, ask as check_ask}
use Rattle.ec_resolving_defs.specs.Agreement.{Finds, operand_of}
use Rattle.ec_resolving_defs.specs.Expressions as resolving
use Rattle.ec_resolving_defs.specs.Storage.{Storage, followed, chain, pure, checks, ask}
use Rattle.ec_resolving_defs.specs.Operands.{found, value_rule}
use Rattle.ec_resolving_defs.proofs.Agreeing.{chain_finds, value_finds, expr_finds}
use Rattle.ec_sim_statement_laws.specs.argument.Pointers.{value_of, IsPlace, IsPointer}
use Rattle.ec_sim_world_laws.specs.call.Calls.{checked_value}
use Rattle.ec_sim_world_laws.specs.call.Pointers.{leads_to_text, text_there}
use Rattle.ec_sim_host_laws.proofs.pointer_lemmas.Forms.{Form}
use Rattle.ec_sim_host_laws.proofs.pointer_lemmas.Pointing.{IsPointed}

module _ (at : Place) (s : Storage) (w : World) where
  pub pointer_value : {e : ExprData} {u : TyData} {x : Exp} → IsPlace at s w e (pointer u) x → IsPointer at s w e u (load pointer_type x)
  unfolding chain pure checks ask check_chain check_pure check_ask check_value
  pointer_value {e} {u} {x} h = record {
    operand = valued (record h.operand { type = Some (pointer u) }) (pointer u);
    is =
        (λ j. followed (h.is j) (value_rule at))
        ∙ (λ j. value_rule at (found (record h.operand { type = h.type j }) x true) s w);
    type = refl;
  }

  pub array_value : {e : ExprData} {u : TyData} {n : ℕ} {x : Exp} → IsPlace at s w e (array u n) x → IsPointer at s w e u x
  unfolding chain pure checks ask check_chain check_pure check_ask check_value
  array_value {e} {u} {n} {x} h = record {
    operand = valued (record h.operand { type = Some (array u n) }) (array u n);
    is =
        (λ j. followed (h.is j) (value_rule at))
        ∙ (λ j. value_rule at (found (record h.operand { type = h.type j }) x true) s w);
    type = refl;
  }

  -- the checks see its type
  pub leads_by_type : {e : ExprData} {t : TyData} {x : Exp} → IsPointer at s w e t x → text_there at w e ≡ points_to_text t
  leads_by_type {e} {t} {x} h = λ i. leads_to_text (typed i)
    where
      finds : Finds operand_of (value_of at e) (checked_value at e)
      finds = chain_finds (resolving.expr at e) (checked_parts.expr at e) (value_rule at) (check_value at) (expr_finds at e) (value_finds at)

      typed : (checked_value at e w).answer.type ≡ Some (pointer t)
      typed = sym (λ i. (finds.answer s w i).type) ∙ (λ i. (h.is i).answer.operand.type) ∙ h.type

  -- by its form and its value it is an argument
  pub pointed : {e : ExprData} {t : TyData} {x : Exp} → Form e → IsPointer at s w e t x → IsPointed at s w e
  pointed {e} {t} {x} f h = record {
    argument = record {
      target = t;
      is = subst (λ y. IsPointer at s w e t y) (sym (λ j. (h.is j).answer.exp)) h;
      no_symbol = f.no_symbol;
      no_literal = f.no_literal;
      form = f.form;
    };
    simple = f.simple;
  }
