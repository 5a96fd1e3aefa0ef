-- What the code answers, from what it reads.
use Rattle.std.proofs.Common.{◌≡◌, ◌≢◌, List, Result, Ok, Err, IfOk, sym, ap, subst, ◌∙◌}
use Rattle.ec_base.specs.declared.stop.Stop.{Stop}
use Rattle.ec_base.specs.declared.stop.Stop.TheVariants as stop
use Rattle.ec_ctypes.specs.declared.text.token.Token.{Token}
use Rattle.ec_ctypes.specs.trees.Tokens.{TokenData}
use Rattle.ec_ctypes.specs.views.Tokens.{tokens_view}
use Rattle.ec_ctypes.specs.declared.tree.unit.Unit.{Unit as Program}
use Rattle.ec_ctypes.specs.trees.Units.{UnitData}
use Rattle.ec_ctypes.specs.views.Units.{unit_view}
use Rattle.ec_language.specs.Grammar.{no_counts}
use Rattle.ec_language.specs.Productions.{placed}
use Rattle.ec_language.specs.Syntax.{limits, TreeOrStop}
use Rattle.ec_grammar.specs.declared.failure.Failure.{Failure}
use Rattle.ec_grammar.specs.declared.failure.Failure.TheVariants.{OutOfMemory}
use Rattle.ec_grammar.specs.Input.{State, state}
use Rattle.ec_grammar.specs.ReadStatements.{unit}
use Rattle.ec_grammar.specs.ReadUnit.{reading, answered, answer, failure_stop}
use Rattle.ec_csyntax.specs.Answers.{GivesUnlessNoMemory}
use Rattle.ec_csyntax.specs.Tops.{top_inner, top_deeper}

pub answered_tree : (ts : List TokenData) (i j : State) (u : UnitData) → i ≡ state (placed ts) no_counts → unit limits top_inner top_deeper i ≡ Ok (u, j) → answer ts ≡ Ok u
unfolding reading
answered_tree ts i j u at read = ap (answered (placed ts)) (ap (unit limits top_inner top_deeper) (sym at) ∙ read)

pub answered_stop : (ts : List TokenData) (i : State) (e : Failure) (s : Stop) → i ≡ state (placed ts) no_counts → (e ≢ OutOfMemory → unit limits top_inner top_deeper i ≡ Err e)
    → s ≡ failure_stop (placed ts) e → s ≢ stop.OutOfMemory → answer ts ≡ Err s
unfolding reading
answered_stop ts i e s at read is some =
    let other : e ≢ OutOfMemory = λ h. some (is ∙ ap (failure_stop (placed ts)) h) in
    ap (answered (placed ts)) (ap (unit limits top_inner top_deeper) (sym at) ∙ read other) ∙ (λ n. Err (sym is n))

-- what follows for code that answers so, where the answer is the tree or the stop
pub told_tree : (r : Result Program Stop) (ts : List TokenData) (a : Result UnitData Stop) → GivesUnlessNoMemory r a → TreeOrStop ts a → IfOk r (λ u. TreeOrStop ts (Ok (unit_view u)))
told_tree (Ok u) ts a gives t = subst (TreeOrStop ts) gives t
told_tree (Err s) ts a gives t = tt

pub told_stop : (r : Result Program Stop) (ts : List TokenData) (a : Result UnitData Stop) → GivesUnlessNoMemory r a → TreeOrStop ts a
    → (s : Stop) → r ≡ Err s → s ≢ stop.OutOfMemory → TreeOrStop ts (Err s)
told_stop r ts a gives t s is some = subst (TreeOrStop ts) (subst (λ q. GivesUnlessNoMemory q a) is gives some) t

pub told_only : (r : Result Program Stop) (ts : List TokenData) (a : Result UnitData Stop) → GivesUnlessNoMemory r a → ((b : Result UnitData Stop) → TreeOrStop ts b → b ≡ a)
    → (b : Result UnitData Stop) → TreeOrStop ts b → GivesUnlessNoMemory r b
told_only r ts a gives one b t = subst (GivesUnlessNoMemory r) (sym (one b t)) gives

-- of the tokens in a slice, of those in the list
pub at_tokens : (r : Result Program Stop) (a b : List Token) → a ≡ b → GivesUnlessNoMemory r (answer (tokens_view a)) → GivesUnlessNoMemory r (answer (tokens_view b))
at_tokens r a b e = subst (λ ts. GivesUnlessNoMemory r (answer (tokens_view ts))) e
