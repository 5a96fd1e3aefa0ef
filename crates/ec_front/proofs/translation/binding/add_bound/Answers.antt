use Rattle.std.proofs.Common.{◌<◌, length, Ok, Err, subst, arith}
use Rattle.std.proofs.lemmas.List.{length-map}
use Rattle.ec_ctypes.specs.views.Checked.{typed_view}
use Rattle.ec_ctypes.specs.views.Embedded.{emb_view}
use Rattle.ec_front.proofs.translation_lemmas.BoundLists.{IsTold, bound_told, stop_told}
use Rattle.ec_front.proofs.translation.binding.add_bound.Goals as goal

pub returns-in-Ok-push : goal.returns-in-Ok-push
returns-in-Ok-push c =
    let within : c.args.number < length (typed_view c.args.binder.now).unit.embs = omega (arith, c.requires, length-map c.args.binder.now.unit.embs emb_view) in
    record {
      bound = c.in-Ok-bind.bound;
      behind = c.in-Ok-push.ensures.ok;
      is = bound_told (typed_view c.args.binder.now) c.args.number c.in-Ok-bind.bound within (subst (λ n. IsTold (typed_view c.args.binder.now) n (Ok c.in-Ok-bind.bound)) c.in-Ok.ensures.1 c.in-Ok-bind.ensures);
    }

pub returns-in-Err : goal.returns-in-Err
returns-in-Err c =
    let within : c.args.number < length (typed_view c.args.binder.now).unit.embs = omega (arith, c.requires, length-map c.args.binder.now.unit.embs emb_view) in
    stop_told (typed_view c.args.binder.now) c.args.number c.args.bounds.now c.args.bounds.now c.in-Err.stop within (subst (λ n. IsTold (typed_view c.args.binder.now) n (Err c.in-Err.stop)) c.in-Ok.ensures.1 c.in-Err.ensures)
