-- Arguments as lists, and as the definition has them.
use Rattle.std.proofs.Common.{◌≡◌, ◌∙◌, List, [], ◌∷◌, ◌++◌, map, Option, Result, Ok, Err, IfOk, refl, sym, ap, append_assoc}
use Rattle.std.proofs.lemmas.List.{map-append}
use Rattle.ec_code.specs.Trees as code
use Rattle.ec_ctypes.specs.trees.Types.{TyData}
use Rattle.ec_meaning_defs.specs.resolved.Resolved.{Exp, exps}
use Rattle.ec_resolving_defs.specs.Conversions.{as_known_type}
use Rattle.ec_resolving_defs.specs.Operands as of
use Rattle.ec_resolve_forms.specs.Arguments.{passed_list}
use Rattle.ec_resolve_forms.specs.declared.found.Found.{Found}
use Rattle.ec_resolve_forms.specs.Seen.{found_view, founds_view}

pub same_exps : (es : List Exp) → code.exps_of es ≡ of.exps_of es
same_exps [] = refl
same_exps (e ∷ es) = ap (exps e) (same_exps es)

pub passed_same : (ps : List (Option TyData)) (fs : List of.Found) → code.exps_of (passed_list ps fs) ≡ of.passed ps fs
passed_same [] fs = refl
passed_same (p ∷ ps) [] = refl
passed_same (p ∷ ps) (f ∷ fs) = ap (exps (as_known_type f.operand.type p f.exp)) (passed_same ps fs)

-- what is so of a list is so of what is made of it
pub made_of : {A E X Y : Type 0} (r : Result A E) (view : A → X) (make : X → Y) {x : X} {y : Y} → make x ≡ y → IfOk r (λ a. view a ≡ x) → IfOk r (λ a. make (view a) ≡ y)
made_of (Ok a) view make e h = ap make h ∙ e
made_of (Err b) view make e h = h

pub nil-right : {A : Type 0} (xs : List A) → xs ++ [] ≡ xs
nil-right [] = refl
nil-right (x ∷ xs) = ap (λ l. x ∷ l) (nil-right xs)

pub none_passed : (ps : List (Option TyData)) → passed_list ps [] ≡ []
none_passed [] = refl
none_passed (p ∷ ps) = refl

-- one more is behind those that were looked at
pub one_behind : (ys zs : List Found) (f : Found) (rest : List of.Found) → zs ≡ ys ++ f ∷ [] → founds_view zs ++ rest ≡ founds_view ys ++ found_view f ∷ rest
one_behind ys zs f rest e = ap (λ l. founds_view l ++ rest) e ∙ ap (λ l. l ++ rest) (map-append found_view ys (f ∷ [])) ∙ append_assoc (founds_view ys) (found_view f ∷ []) rest
