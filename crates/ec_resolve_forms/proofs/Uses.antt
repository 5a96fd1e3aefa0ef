-- An expression with a step behind it is no call.
use Rattle.std.proofs.Common.{◌≡◌, ◌≢◌, ◌∙◌, List, [], ◌∷◌, map, rules, refl, sym, ap}
use Rattle.ec_code.specs.declared.step.Binary.TheVariants as binary
use Rattle.ec_code.specs.declared.step.Leaf.{Leaf}
use Rattle.ec_code.specs.declared.step.Leaf.TheVariants as leaf
use Rattle.ec_code.specs.declared.step.Unary.TheVariants as unary
use Rattle.ec_code.specs.declared.expression.Plain.{Plain, the_lemmas as plain_lemmas}
use Rattle.ec_code.specs.Views.{plain_view, plain_step_view}
use Rattle.ec_code.specs.Trees.{Step, one, two, leaf_view, stepped, walked}
use Rattle.ec_meaning_defs.specs.resolved.Resolved.{Exp}
use Rattle.ec_resolving_defs.specs.Operands.{without_use}

pub stepped_same : (e : Exp) (s : Step) → without_use (stepped e s) ≡ stepped e s
stepped_same e (one (unary.Member offset)) = refl
stepped_same e (one (unary.Load kind)) = refl
stepped_same e (one (unary.Whole size)) = refl
stepped_same e (one (unary.Put bytes)) = refl
stepped_same e (one (unary.Convert from to)) = refl
stepped_same e (one (unary.Negate t)) = refl
stepped_same e (one (unary.Flip t)) = refl
stepped_same e (one unary.Not) = refl
stepped_same e (two (binary.Store kind) a) = refl
stepped_same e (two (binary.Copy size) a) = refl
stepped_same e (two (binary.Update u) a) = refl
stepped_same e (two (binary.Operate op) a) = refl
stepped_same e (two binary.Both a) = refl
stepped_same e (two binary.Either a) = refl

pub walked_same : (e : Exp) (s : Step) (ss : List Step) → without_use (walked e (s ∷ ss)) ≡ walked e (s ∷ ss)
walked_same e s [] = stepped_same e s
walked_same e s (t ∷ ss) = walked_same (stepped e s) t ss

pub leaf_same : (l : Leaf) → without_use (leaf_view l) ≡ leaf_view l
leaf_same (leaf.Object n) = refl
leaf_same (leaf.Slot i) = refl
leaf_same (leaf.Constant w) = refl
leaf_same (leaf.IntValue i) = refl
leaf_same (leaf.LongValue i) = refl
leaf_same leaf.Faulty = refl

pub plain_same : (l : Leaf) (ss : List Step) → walked (leaf_view l) ss ≡ without_use (walked (leaf_view l) ss)
plain_same l [] = sym (leaf_same l)
plain_same l (s ∷ ss) = sym (walked_same (leaf_view l) s ss)

pub plain_uses : (p : Plain) → plain_view p ≡ without_use (plain_view p)
plain_uses p =
    let o : plain_view p ≡ walked (leaf_view p.leaf) (map plain_step_view p.steps) = search (rules, plain_lemmas) in
    o ∙ plain_same p.leaf (map plain_step_view p.steps) ∙ ap without_use (sym o)

pub behind_steps : {A : Type 0} (f : A → Step) (e : Exp) (xs : List A) → xs ≢ [] → walked e (map f xs) ≡ without_use (walked e (map f xs))
behind_steps f e [] n = absurd (n refl)
behind_steps f e (x ∷ xs) n = sym (walked_same e (f x) (map f xs))
