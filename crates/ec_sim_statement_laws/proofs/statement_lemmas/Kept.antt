-- A statement whose places are expressions does what its call does.
use Rattle.std.proofs.Common.{◌≡◌, ◌∙◌, ℕ, true, List, refl, sym, subst}
use Rattle.ec_arguments.specs.Arguments.{name_of}
use Rattle.ec_arguments.specs.Writing.{arguments}
use Rattle.ec_arguments.proofs.Back.{cut_back}
use Rattle.ec_ctypes.specs.trees.Types.{StructData}
use Rattle.ec_meaning_defs.specs.resolved.Resolved.{Exp}
use Rattle.ec_meaning_defs.specs.evaluation.State.{State}
use Rattle.ec_meaning_defs.specs.evaluation.Results.{Res, turn}
use Rattle.ec_meaning_defs.specs.evaluation.Evaluate.{World, Context, Step}
use Rattle.ec_call_defs.specs.Library.{if_cut, leads, library_call}
use Rattle.ec_call_defs.specs.Steps.{called, settled}
use Rattle.ec_direct_defs.specs.Statements.{Statement}
use Rattle.ec_direct_defs.specs.Executing.{statement_done}
use Rattle.ec_direct_defs.specs.Places.{address_of, placed}
use Rattle.ec_sim_statement_laws.specs.statement.Calls.{call_of, cut_of, keeps_rules, HasTargets}
use Rattle.ec_sim_statement_laws.proofs.statement_lemmas.Bare.{bare, targets_bare, targets_back, rules_bare, name_bare, placed_by}
use Rattle.ec_sim_statement_laws.proofs.statement_lemmas.Done.{done_same}
use Rattle.ec_sim_statement_laws.proofs.statement_lemmas.Evaluated.{evaluated}

module _ (step : Step) (w : World) (c : Context) where
  -- the call of a statement, with its arguments as expressions
  pub called_same : (structs : List StructData) (line : ℕ) (x : Statement Exp) → keeps_rules structs x ≡ true → HasTargets x → (s : State)
      → called step w c (name_of (call_of structs x)) (arguments (cut_of structs line x)) s
      ≡ placed step w c x s (λ y t. turn t (λ u. settled c.line (statement_done structs line y u)))
  called_same structs line x e h s =
      evaluated step w c structs line x s (λ given t. turn t (λ u. settled c.line (library_call (name_of (call_of structs x)) given u)))
      ∙ placed_by step step w w c (λ s a b. a ≡ b) (λ e s f g h. λ j. address_of step w c e s (λ p t. h p t j)) x s _ _ (λ y same t. λ j. turn t (λ u. settled c.line (at_call y same u j)))
    where
      named : (y : Statement ℕ) → bare y ≡ bare x → name_of (call_of structs x) ≡ name_of (call_of structs y)
      named y same = name_bare structs x ∙ (λ j. name_of (call_of structs (sym same j))) ∙ sym (name_bare structs y)

      ruled : (y : Statement ℕ) → bare y ≡ bare x → keeps_rules structs y ≡ true
      ruled y same = rules_bare structs y ∙ (λ j. keeps_rules structs (same j)) ∙ sym (rules_bare structs x) ∙ e

      at_call : (y : Statement ℕ) → bare y ≡ bare x → (u : State)
          → library_call (name_of (call_of structs x)) (arguments (cut_of structs line y)) u ≡ statement_done structs line y u
      at_call y same u =
          (λ j. library_call (named y same j) (arguments (cut_of structs line y)) u)
          ∙ (λ j. if_cut (cut_back leads (cut_of structs line y) (ruled y same) j) u)
          ∙ done_same structs line y (targets_back y (subst HasTargets (sym same) (targets_bare x h))) u
