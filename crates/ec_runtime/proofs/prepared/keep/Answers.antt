use Rattle.std.proofs.Common.{sym, ◌∙◌, ap}
use Rattle.ec_runtime.specs.Prepared.{place_of, prepared_views}
use Rattle.ec_runtime.proofs.Placing.{kept_there, kept_behind}
use Rattle.ec_runtime.proofs.prepared.keep.Goals as goal

pub returns-in-Some : goal.returns-in-Some
returns-in-Some c =
    ap prepared_views c.set.ensures
    ∙ kept_there c.args.name c.args.text c.args.prepared.now c.in-Some.at
    ((λ j. place_of (sym c.as_slice-2.ensures j) (prepared_views (sym c.as_slice.ensures j))) ∙ sym c.in-Some.ensures.place)

pub returns-in_ok-push-in-None : goal.returns-in_ok-push-in-None
returns-in_ok-push-in-None c =
    ap prepared_views c.in_ok-push-in-None.ensures.ok
    ∙ kept_behind c.args.name c.args.text c.args.prepared.now
    ((λ j. place_of (sym c.as_slice-2.ensures j) (prepared_views (sym c.as_slice.ensures j))) ∙ sym c.in-None.ensures.place)
