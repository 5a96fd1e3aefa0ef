use Rattle.std.proofs.Common.{◌≡◌, ◌∙◌, List, [], ◌∷◌, ◌++◌, map, refl, sym, ap}
use Rattle.ec_code.specs.Views.{expression_view}
use Rattle.ec_resolving_defs.specs.Operands as of
use Rattle.ec_type_rules.specs.Views.{type_view}
use Rattle.ec_resolve_forms.specs.Arguments.{passed_list}
use Rattle.ec_resolve_forms.specs.Seen.{found_view, founds_view}
use Rattle.ec_resolve_forms.proofs.Passing.{nil-right, none_passed, one_behind}
use Rattle.ec_resolve_forms.proofs.arguments.passed_each.Goals as goal

pub loop-f-init : goal.loop-f-init
loop-f-init c =
    let params = map type_view c.args.params.now in
    record {
      whole = λ rest. ap (λ l. map expression_view l ++ passed_list params rest) (sym c.in_ok-arguments.ensures);
      done = ap (map expression_view) c.in_ok-arguments.ensures ∙ sym (none_passed params);
    }

pub loop-f-preserved : goal.loop-f-preserved
loop-f-preserved c =
    let params = map type_view c.args.params.now in
    let before = c.loop-f.yielded in
    let f = c.in-Some.f in
    let made = map expression_view c.pass_next.new.arguments in
    let left = map type_view c.in_ok-left.left.now in
    let whole : (rest : List of.Found) → passed_list params (founds_view (before ++ f ∷ []) ++ rest) ≡ made ++ passed_list left rest = λ rest.
    ap (passed_list params) (one_behind before (before ++ f ∷ []) f rest refl) ∙ c.loop-f.invariant.whole (found_view f ∷ rest) ∙ c.in_ok-left.ensures rest in
    record {
      whole = whole;
      done = sym (ap (passed_list params) (sym (nil-right (founds_view (before ++ f ∷ [])))) ∙ whole [] ∙ ap (λ l. made ++ l) (none_passed left) ∙ nil-right made);
    }
