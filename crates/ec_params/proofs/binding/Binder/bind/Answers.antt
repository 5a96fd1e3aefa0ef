use Rattle.std.proofs.Common.{◌≡◌, ◌∙◌, ap, sym, subst, map, get_or, Option, Some, List, option_map, Result}
use Rattle.std.specs.Prelude.{IfSome, slice_get}
use Rattle.ec_base.specs.declared.stop.Stop.{Stop}
use Rattle.ec_ctypes.specs.declared.checked.typed.Typed.{Typed}
use Rattle.ec_ctypes.specs.declared.embedded.emb.Emb.{Emb}
use Rattle.ec_ctypes.specs.trees.Checked.{BoundData}
use Rattle.ec_ctypes.specs.trees.Embedded.{EmbData}
use Rattle.ec_ctypes.specs.views.Checked.{bound_view, typed_view}
use Rattle.ec_ctypes.specs.views.Embedded.{emb_view}
use Rattle.ec_host_defs.specs.Bound.{bound_answer}
use Rattle.ec_params.specs.Answers.{Told, answer_with}
use Rattle.ec_params.proofs.Bound.{answer_is}
use Rattle.ec_params.proofs.Gotten.{got_mapped, got_there}
use Rattle.ec_params.proofs.binding.Binder.bind.Goals as goal

pub returns : goal.returns
returns c =
    let t = c.args.self.now in
    let st = c.in-Some.statement.now in
    let same : c.self.inside.typed.now ≡ t = c.self.view_is in
    let embs : c.as_slice-embs.result.now ≡ t.unit.embs = c.as_slice-embs.ensures ∙ ap (λ (x : Typed). x.unit.embs) same in
    let rows : c.as_slice-rows.result.now ≡ t.denoted = c.as_slice-rows.ensures ∙ ap (λ (x : Typed). x.denoted) same in
    let found : slice_get t.unit.embs c.args.emb ≡ Some st = got_there t.unit.embs c.args.emb st c.requires (c.in-Some.ensures.lookup.1 ∙ ap (λ (es : List Emb). get_or es c.args.emb st) embs) in
    let there : slice_get (map emb_view t.unit.embs) c.args.emb ≡ Some (emb_view st) = got_mapped emb_view t.unit.embs c.args.emb ∙ ap (option_map emb_view) found in
    subst (λ (o : Option EmbData). IfSome o (λ e. Told bound_view c.answer.result (bound_answer (typed_view t) c.args.emb e))) (sym there)
    (subst (λ (a : Result BoundData Stop). Told bound_view c.answer.result a)
    ((λ i. answer_with (c.scene.ensures.program i) (rows i) (map emb_view (embs i)) (emb_view st) (c.above.ensures i) (c.scene.ensures.denoted i))
    ∙ answer_is (typed_view t) c.args.emb (emb_view st) there)
    c.answer.ensures)
