use Rattle.std.proofs.Common.{◌≡◌, ◌∙◌, List, [], ◌∷◌, ◌++◌, map, refl, sym, ap}
use Rattle.ec_ctypes.specs.views.Exprs.{exprs_view}
use Rattle.ec_resolve_forms.specs.Seen.{found_view, founds_view}
use Rattle.ec_resolve_forms.proofs.Passing.{nil-right, one_behind}
use Rattle.ec_resolving_defs.specs.Operands as of
use Rattle.ec_resolve_values.specs.storage.Stored.{argument_view}
use Rattle.ec_resolve_expressions.proofs.call_forms_lemmas.Gathering.{none_argued}
use Rattle.ec_resolve_expressions.proofs.call_forms.arguments.arguments_of_call.Goals as goal

pub loop-f-init : goal.loop-f-init
loop-f-init c =
    let forms = exprs_view c.args.forms.now in
    record {
      whole = λ rest. ap (λ l. map argument_view l ++ of.arguments_of_call forms rest) (sym c.in_ok-arguments.ensures);
      done = ap (map argument_view) c.in_ok-arguments.ensures ∙ sym (none_argued c.args.forms.now);
    }

pub loop-f-preserved : goal.loop-f-preserved
loop-f-preserved c =
    let forms = exprs_view c.args.forms.now in
    let before = c.loop-f.yielded in
    let f = c.in-Some.f in
    let made = map argument_view c.push_argument.new.arguments in
    let left = exprs_view c.in_ok-left.left.now in
    let whole : (rest : List of.Found) → of.arguments_of_call forms (founds_view (before ++ f ∷ []) ++ rest) ≡ made ++ of.arguments_of_call left rest = λ rest.
    ap (of.arguments_of_call forms) (one_behind before (before ++ f ∷ []) f rest refl) ∙ c.loop-f.invariant.whole (found_view f ∷ rest) ∙ c.in_ok-left.ensures rest in
    record {
      whole = whole;
      done = sym (ap (of.arguments_of_call forms) (sym (nil-right (founds_view (before ++ f ∷ [])))) ∙ whole [] ∙ ap (λ l. made ++ l) (none_argued c.in_ok-left.left.now) ∙ nil-right made);
    }
