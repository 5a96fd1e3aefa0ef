use Rattle.std.proofs.Common.{◌≡◌, ◌∙◌, ◌++◌, ◌-◌, ◌∷◌, suc, ap, subst, List, ℕ, arith, append_assoc}
use Rattle.std.specs.Prelude.{OnOk}
use Rattle.std.specs.Fmt.{decimal}
use Rattle.ec_embedded.specs.Parameters.{parameters}
use Rattle.ec_language.specs.Letters.{dollar}
use Rattle.ec_params.specs.Sending.{more_parameters}
use Rattle.ec_params.proofs.Sent.{parameters_are}
use Rattle.ec_params.proofs.sending.push_parameters.Goals as goal

pub returns : goal.returns
returns c =
    let n = c.args.number in
    let more = more_parameters n (c.args.count - 1) in
    let e : suc (c.args.count - 1) ≡ c.args.count = (let h = c.if-count-eq0.false in omega (arith, h)) in
    subst (λ (t : List ℕ). OnOk c.push_more.result (c.push_more.new.text ≡ t))
    (ap (λ (t : List ℕ). t ++ more) c.in_ok-push_parameter.ensures
    ∙ append_assoc c.args.text.now (dollar ∷ decimal n) more
    ∙ ap (λ (t : List ℕ). c.args.text.now ++ t) (parameters_are n (c.args.count - 1) ∙ ap (parameters n) e))
    c.push_more.ensures
