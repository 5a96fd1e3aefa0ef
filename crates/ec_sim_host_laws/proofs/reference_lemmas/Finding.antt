-- What is found of one reference, in the source and where it is written.
use Rattle.std.proofs.Common.{◌≡◌, ◌∙◌, Bool, true, false, List, [], Option, Some, None, refl, sym, subst, codes, if◌then◌else◌}
use Rattle.std.specs.Prelude.{is_some, pos}
use Rattle.ec_ctypes.specs.trees.Exprs.{ExprData, integer, identifier, index, member, arrow}
use Rattle.ec_ctypes.specs.trees.Types.{arithmetic}
use Rattle.ec_language.specs.Letters.{Text, same_text}
use Rattle.ec_expansion_defs.specs.Declarations.{written_expr}
use Rattle.ec_memory_defs.specs.Memory.{number, address}
use Rattle.ec_meaning_defs.specs.resolved.Resolved.{constant, faulty}
use Rattle.ec_typing_defs.specs.Embedded as checked
use Rattle.ec_typing_defs.specs.Embedded.{is_function_entry, is_function_name}
use Rattle.ec_typing_defs.specs.Expressions as checked_parts
use Rattle.ec_typing_defs.specs.Known.{known_function}
use Rattle.ec_typing_defs.specs.Operands.{OperandData, unknown}
use Rattle.ec_typing_defs.specs.Worlds.{Place, EntryData, object, function, World, Rule, look_up, chain as check_chain, pure as check_pure, ask as check_ask}
use Rattle.ec_resolving_defs.specs.Agreement.{operand_of}
use Rattle.ec_resolving_defs.specs.Embedded.{reference_rule}
use Rattle.ec_resolving_defs.specs.Expressions.{expr}
use Rattle.ec_resolving_defs.specs.Operands.{Found, no_expression, named_exp, predefined_exp}
use Rattle.ec_resolving_defs.specs.Storage.{Site, Storage, Resolving, chain, pure, checks, ask, stored, sqlca}
use Rattle.ec_sim_statement_laws.specs.expression.Alike.{SameStorage, FindAlike}
use Rattle.ec_sim_statement_laws.specs.expression.Laws.{ExpressionsAreAlike}
use Rattle.ec_sim_statement_laws.specs.expression.Lengths.{HaveLengths}
use Rattle.ec_sim_statement_laws.specs.expression.Silent.{FoundCallsNone}
use Rattle.ec_sim_statement_laws.specs.expression.Worlds.{AreAlike}
use Rattle.ec_sim_world_laws.specs.place.References.{IsIndex, IsReference}
use Rattle.ec_sim_host_laws.proofs.reference_lemmas.Parts.{false_not, texts_equal}

-- ---- references as expressions

part_written : (b : ExprData) → IsIndex b → written_expr 0 b ≡ b
part_written (integer n (arithmetic a)) h = refl
part_written (identifier x) h = refl
part_written _ h = absurd h

as_written : (e : ExprData) → IsReference e → written_expr 0 e ≡ e
as_written (identifier x) h = refl
as_written (index a b) h = λ j. index (as_written a h.0 j) (part_written b h.1 j)
as_written (member e m) h = λ j. member (as_written e h j) m
as_written (arrow e m) h = λ j. arrow (as_written e h j) m
as_written _ h = absurd h

part_has_lengths : (b : ExprData) → IsIndex b → HaveLengths b
part_has_lengths (integer n (arithmetic a)) h = tt
part_has_lengths (identifier x) h = tt
part_has_lengths _ h = absurd h

have_lengths : (e : ExprData) → IsReference e → HaveLengths e
have_lengths (identifier x) h = tt
have_lengths (index a b) h = (have_lengths a h.0, part_has_lengths b h.1)
have_lengths (member e m) h = have_lengths e h
have_lengths (arrow e m) h = have_lengths e h
have_lengths _ h = absurd h

-- ---- the name of a function, and nothing else

-- no predefined name is that of a known function
predefined_faulty : (x : Text) → is_some (known_function x) ≡ true → predefined_exp x ≡ faulty
predefined_faulty x e =
    by_tests (same_text x (codes "sqlca")) (same_text x (codes "NULL")) (same_text x (codes "true")) (same_text x (codes "false")) refl refl refl refl
  where
    unknown_name : {C : Type 0} (y : Text) → same_text x y ≡ true → is_some (known_function y) ≡ false → C
    unknown_name y is none = false_not (sym none ∙ subst (λ t. is_some (known_function t) ≡ true) (texts_equal x y is) e)

    by_tests : (a b c d : Bool) → same_text x (codes "sqlca") ≡ a → same_text x (codes "NULL") ≡ b → same_text x (codes "true") ≡ c → same_text x (codes "false") ≡ d
        → (if a then sqlca else (if b then constant (address 0) else (if c then constant (number (pos 1)) else (if d then constant (number (pos 0)) else faulty)))) ≡ faulty
    by_tests true b c d of_a of_b of_c of_d = unknown_name (codes "sqlca") of_a refl
    by_tests false true c d of_a of_b of_c of_d = unknown_name (codes "NULL") of_b refl
    by_tests false false true d of_a of_b of_c of_d = unknown_name (codes "true") of_c refl
    by_tests false false false true of_a of_b of_c of_d = unknown_name (codes "false") of_d refl
    by_tests false false false false of_a of_b of_c of_d = refl

entry_faulty : (sites : List Site) (x : Text) (entry : Option EntryData) → is_function_entry x entry ≡ true → named_exp sites x entry ≡ faulty
entry_faulty sites x None e = predefined_faulty x e
entry_faulty sites x (Some (object k global t)) e = false_not e
entry_faulty sites x (Some (function k done r ps)) e = refl

name_exp : (at : Place) (s : Storage) (w : World) (x : Text) → (expr at (identifier x) s w).answer.exp ≡ named_exp s.sites x (look_up x w)
unfolding chain pure checks ask stored
name_exp at s w x = refl

alone_faulty : (at : Place) (s : Storage) (w : World) (e : ExprData) → IsReference e → is_function_name w e ≡ true → (expr at e s w).answer.exp ≡ faulty
alone_faulty at s w (identifier x) h is = name_exp at s w x ∙ entry_faulty s.sites x (look_up x w) is
alone_faulty at s w (index a b) h is = false_not is
alone_faulty at s w (member e m) h is = false_not is
alone_faulty at s w (arrow e m) h is = false_not is
alone_faulty at s w _ h is = absurd h

pub alone_same : (w v : World) → ((x : Text) → look_up x v ≡ look_up x w) → (e : ExprData) → IsReference e → is_function_name v e ≡ is_function_name w e
alone_same w v look (identifier x) h = λ j. is_function_entry x (look x j)
alone_same w v look (index a b) h = refl
alone_same w v look (member e m) h = refl
alone_same w v look (arrow e m) h = refl
alone_same w v look _ h = absurd h

-- ---- the rules, by that

module _ (at : Place) (e : ExprData) where
  abbrev pub checked_by : Bool → Rule OperandData
  checked_by alone = elim alone [ true ↦ check_pure unknown | false ↦ checked_parts.expr at e ]

  abbrev pub resolved_by : Bool → Resolving Found
  resolved_by alone = elim alone [ true ↦ pure no_expression | false ↦ expr at e ]

  pub rule_checked : (w : World) (b : Bool) → is_function_name w e ≡ b → checked.reference_rule at e w ≡ checked_by b w
  unfolding checked.reference_rule check_chain check_ask
  rule_checked w b is = λ j. checked_by (is j) w

  pub rule_resolved : (s : Storage) (w : World) (b : Bool) → is_function_name w e ≡ b → reference_rule at e s w ≡ resolved_by b s w
  unfolding chain ask
  rule_resolved s w b is = λ j. resolved_by (is j) s w

  alone_clean : (w : World) → (checked_by true w).found ≡ []
  unfolding check_pure
  alone_clean w = refl

  alone_exp : (s : Storage) (w : World) → (resolved_by true s w).answer.exp ≡ faulty
  unfolding pure
  alone_exp s w = refl

-- ---- here and there

-- nothing is wrong with it there, and its address there is that of the form here
pub record Agrees (at there : Place) (s t : Storage) (w v : World) (e : ExprData) : Type 0 where
  pub clean : (checked.reference_rule there e v).found ≡ []
  pub address : (expr there e t v).answer.exp ≡ (reference_rule at e s w).answer.exp

-- in the source itself
pub agrees_itself : (at : Place) (s : Storage) (w : World) (e : ExprData) → IsReference e → (checked.reference_rule at e w).found ≡ [] → Agrees at at s s w w e
agrees_itself at s w e h clean = by_alone (is_function_name w e) refl
  where
    by_alone : (b : Bool) → is_function_name w e ≡ b → Agrees at at s s w w e
    by_alone true is = record {
      clean = clean;
      address = alone_faulty at s w e h is ∙ sym ((λ j. (rule_resolved at e s w true is j).answer.exp) ∙ alone_exp at e s w);
    }
    by_alone false is = record { clean = clean; address = sym (λ j. (rule_resolved at e s w false is j).answer.exp) }

-- where it is written
module _ (alike : ExpressionsAreAlike) (at there : Place) (s t : Storage) (w v : World) (same : SameStorage s t) (a : AreAlike w v)
    (look : (x : Text) → look_up x v ≡ look_up x w) where
  pub agrees_there : (e : ExprData) → IsReference e → (checked.reference_rule at e w).found ≡ [] → Agrees at there s t w v e
  agrees_there e h clean = by_alone (is_function_name w e) refl
    where
      FoundBoth : Type 0
      FoundBoth = FindAlike FoundCallsNone operand_of s t (checked_parts.expr at e w) (checked_parts.expr there (written_expr 0 e) v)
          (expr at e s w) (expr there (written_expr 0 e) t v)

      by_alone : (b : Bool) → is_function_name w e ≡ b → Agrees at there s t w v e
      by_alone true is = record {
        clean = (λ j. (rule_checked there e v true (alone_same w v look e h ∙ is) j).found) ∙ alone_clean there e v;
        address = alone_faulty there t v e h (alone_same w v look e h ∙ is)
            ∙ sym ((λ j. (rule_resolved at e s w true is j).answer.exp) ∙ alone_exp at e s w);
      }
      by_alone false is = with_both ((alike at there 0 e (have_lengths e h)).finds s t w v same a
          (sym (λ j. (rule_checked at e w false is j).found) ∙ clean))
        where
          with_both : FoundBoth → Agrees at there s t w v e
          with_both f = record {
            clean =
                (λ j. (rule_checked there e v false (alone_same w v look e h ∙ is) j).found)
                ∙ sym (λ j. (checked_parts.expr there (as_written e h j) v).found)
                ∙ f.without_fault;
            address =
                sym (λ j. (expr there (as_written e h j) t v).answer.exp)
                ∙ (λ j. (f.answer j).exp)
                ∙ sym (λ j. (rule_resolved at e s w false is j).answer.exp);
          }
