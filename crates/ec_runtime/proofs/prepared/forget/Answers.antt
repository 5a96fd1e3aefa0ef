use Rattle.std.proofs.Common.{sym, ◌∙◌, ap}
use Rattle.std.specs.List.{remove}
use Rattle.ec_runtime.specs.Prepared.{place_of, prepared_views}
use Rattle.ec_runtime.proofs.Placing.{forgotten, nothing_forgotten}
use Rattle.ec_runtime.proofs.prepared.forget.Goals as goal

pub returns-in_default : goal.returns-in_default
returns-in_default c =
    nothing_forgotten c.args.name.now c.args.prepared.now
    ((λ j. place_of c.args.name.now (prepared_views (sym c.as_slice.ensures j))) ∙ sym c.place_of.ensures.place ∙ c.in_default.is)

pub returns : goal.returns
returns c =
    ap prepared_views (c.from_vec.ensures ∙ c.remove.ensures.items ∙ (λ j. remove (c.into_vec-items.ensures j) c.in-Some.at) ∙ (λ j. remove (c.replace.ensures.value j) c.in-Some.at))
    ∙ forgotten c.args.name.now c.args.prepared.now c.in-Some.at
    ((λ j. place_of c.args.name.now (prepared_views (sym c.as_slice.ensures j))) ∙ sym c.in-Some.ensures.place)
