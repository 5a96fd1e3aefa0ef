use Rattle.std.proofs.Common.{◌≡◌, ◌∙◌, List, [], ◌∷◌, ◌++◌, drop, refl, sym, ap}
use Rattle.ec_resolve_forms.specs.Seen.{found_view, founds_view}
use Rattle.ec_resolve_forms.proofs.Passing.{nil-right, one_behind}
use Rattle.ec_resolving_defs.specs.Operands as of
use Rattle.ec_resolve_expressions.proofs.call_forms_lemmas.Gathering.{none_dropped}
use Rattle.ec_resolve_expressions.proofs.call_forms.printing.behind.Goals as goal

pub loop-f-init : goal.loop-f-init
loop-f-init c = record {
  whole = λ more. ap (λ l. founds_view l ++ drop c.args.count more) (sym c.new-rest.ensures);
  done = ap founds_view c.new-rest.ensures ∙ sym (none_dropped {A = of.Found} c.args.count);
}

pub loop-f-preserved : goal.loop-f-preserved
loop-f-preserved c =
    let count = c.args.count in
    let before = c.loop-f.yielded in
    let f = c.in-Some.f in
    let made = founds_view c.push_behind.new.rest in
    let whole : (more : List of.Found) → drop count (founds_view (before ++ f ∷ []) ++ more) ≡ made ++ drop c.in_ok-left.left more = λ more.
    ap (drop count) (one_behind before (before ++ f ∷ []) f more refl) ∙ c.loop-f.invariant.whole (found_view f ∷ more) ∙ c.in_ok-left.ensures more in
    record {
      whole = whole;
      done = sym (ap (drop count) (sym (nil-right (founds_view (before ++ f ∷ [])))) ∙ whole [] ∙ ap (λ l. made ++ l) (none_dropped {A = of.Found} c.in_ok-left.left) ∙ nil-right made);
    }
