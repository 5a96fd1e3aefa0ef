-- What a step makes of an expression.
use Rattle.std.specs.Prelude.{List, [], ◌∷◌}
use Rattle.ec_code.specs.declared.step.Binary.{Binary}
use Rattle.ec_code.specs.declared.step.Binary.TheVariants as binary
use Rattle.ec_code.specs.declared.step.Leaf.{Leaf}
use Rattle.ec_code.specs.declared.step.Leaf.TheVariants as leaf
use Rattle.ec_code.specs.declared.step.Unary.{Unary}
use Rattle.ec_code.specs.declared.step.Unary.TheVariants as unary
use Rattle.ec_code.specs.declared.step.Update.{Update}
use Rattle.ec_memory_defs.specs.Kinds.{kind_type}
use Rattle.ec_memory_defs.specs.declared.kind.Kind.TheVariants as kind
use Rattle.ec_meaning_defs.specs.resolved.Resolved as of
use Rattle.ec_values.specs.Operations.{operation_view}
use Rattle.ec_values.specs.Words.{word_view}

abbrev pub leaf_view : Leaf → of.Exp
leaf_view (leaf.Object n) = of.object n
leaf_view (leaf.Slot i) = of.slot i
leaf_view (leaf.Constant w) = of.constant (word_view w)
leaf_view (leaf.IntValue i) = of.load (kind_type kind.Int) (of.slot i)
leaf_view (leaf.LongValue i) = of.load (kind_type kind.Long) (of.slot i)
leaf_view leaf.Faulty = of.faulty

abbrev pub update_view : Update → of.Update
update_view u = record {
  kind = kind_type u.kind;
  widened = kind_type u.widened;
  operation = operation_view u.operation;
  gives_old = u.gives_old;
}

abbrev pub one_made : Unary → of.Exp → of.Exp
one_made (unary.Member offset) e = of.member offset e
one_made (unary.Load kind) e = of.load (kind_type kind) e
one_made (unary.Whole size) e = of.whole size e
one_made (unary.Put bytes) e = of.put bytes e
one_made (unary.Convert from to) e = of.convert (kind_type from) (kind_type to) e
one_made (unary.Negate t) e = of.negate t e
one_made (unary.Flip t) e = of.flip t e
one_made unary.Not e = of.not e

abbrev pub two_made : Binary → of.Exp → of.Exp → of.Exp
two_made (binary.Store kind) e a = of.store (kind_type kind) e a
two_made (binary.Copy size) e a = of.copy size e a
two_made (binary.Update u) e a = of.update (update_view u) e a
two_made (binary.Operate op) e a = of.operate (operation_view op) e a
two_made binary.Both e a = of.both e a
two_made binary.Either e a = of.either e a

-- a step, with the other expression seen as what it stands for
pub data Step : Type 0 where
  one : Unary → Step
  two : Binary → of.Exp → Step

abbrev pub stepped : of.Exp → Step → of.Exp
stepped e (one u) = one_made u e
stepped e (two b a) = two_made b e a

-- an expression from where it begins and its steps
abbrev pub walked : of.Exp → List Step → of.Exp
walked e [] = e
walked e (s ∷ ss) = walked (stepped e s) ss

abbrev pub exps_of : List of.Exp → of.Exps
exps_of [] = of.no_exps
exps_of (e ∷ es) = of.exps e (exps_of es)

abbrev pub stms_of : List of.Stm → of.Stms
stms_of [] = of.no_stms
stms_of (s ∷ ss) = of.stms s (stms_of ss)
