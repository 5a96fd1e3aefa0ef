-- Pointers are taken out of arguments one by one.
use Rattle.std.proofs.Common.{◌≡◌, ◌∙◌, refl, sym, ap, true, List, [], ◌∷◌, ◌++◌, map, append_assoc}
use Rattle.std.proofs.lemmas.List.{map-append}
use Rattle.ec_arguments.specs.Arguments.{Arg, symbol, literal, null, int_constant, long_constant, pointer, stray}
use Rattle.ec_meaning_defs.specs.resolved.Resolved.{Exp, exps}
use Rattle.ec_code.specs.Trees.{exps_of}
use Rattle.ec_resolving_defs.specs.Operands.{evaluated_before, pointers_of, without_pointer}
use Rattle.ec_resolve_expressions.specs.call_forms.Parting.{pointer_in, pointers_in}

in_order : (args : List (Arg Exp)) → exps_of (pointers_in args) ≡ pointers_of args
in_order [] = refl
in_order (symbol x ∷ args) = in_order args
in_order (literal bytes ∷ args) = in_order args
in_order (null ∷ args) = in_order args
in_order (int_constant n ∷ args) = in_order args
in_order (long_constant n ∷ args) = in_order args
in_order (pointer e ∷ args) = λ j. exps e (in_order args j)
in_order (stray ∷ args) = in_order args

appended : (args more : List (Arg Exp)) → pointers_in (args ++ more) ≡ pointers_in args ++ pointers_in more
appended [] more = refl
appended (a ∷ args) more = ap (λ es. pointer_in a ++ es) (appended args more) ∙ sym (append_assoc (pointer_in a) (pointers_in args) (pointers_in more))

-- these arguments were parted
pub record IsParted (args left : List (Arg Exp)) (pointers : List Exp) : Type 0 where
  pub rest : left ≡ map without_pointer args
  pub first : pointers ≡ pointers_in args

pub none_parted : IsParted [] [] []
none_parted = record { rest = refl; first = refl }

alone : (a : Arg Exp) → pointers_in (a ∷ []) ≡ pointer_in a
alone (symbol x) = refl
alone (literal bytes) = refl
alone null = refl
alone (int_constant n) = refl
alone (long_constant n) = refl
alone (pointer e) = refl
alone stray = refl

-- and one more
pub one_parted : (args args' left left' : List (Arg Exp)) (pointers pointers' : List Exp) (a : Arg Exp) → args' ≡ args ++ a ∷ [] → left' ≡ left ++ without_pointer a ∷ [] → pointers' ≡ pointers ++ pointer_in a
    → IsParted args left pointers → IsParted args' left' pointers'
one_parted args args' left left' pointers pointers' a e l p h = record {
  rest = l ∙ ap (λ xs. xs ++ without_pointer a ∷ []) h.rest ∙ sym (map-append without_pointer args (a ∷ [])) ∙ ap (map without_pointer) (sym e);
  first = p ∙ ap (λ es. es ++ pointer_in a) h.first ∙ ap (λ es. pointers_in args ++ es) (sym (alone a)) ∙ sym (appended args (a ∷ [])) ∙ ap pointers_in (sym e);
}

-- in their order
pub ordered : (args : List (Arg Exp)) (es : List Exp) → es ≡ pointers_in args → exps_of es ≡ evaluated_before true args
ordered args es e = ap exps_of e ∙ in_order args
