use Rattle.std.proofs.Common.{◌∷◌, ◌++◌, subst}
use Rattle.std.specs.Prelude.{map, option_map}
use Rattle.ec_ctypes.specs.views.Exprs.{base_view}
use Rattle.ec_ctypes.specs.views.Stmts.{stmts_view}
use Rattle.ec_ctypes.specs.views.Units.{param_view}
use Rattle.ec_writing_defs.specs.Chunks.{blank}
use Rattle.ec_writing_defs.specs.Expressions.{word, star_chunks, base_chunks}
use Rattle.ec_writing_defs.specs.Programs.{params_chunks, body_chunks}
use Rattle.ec_cwrite.specs.Writes.{Writes}
use Rattle.ec_cwrite.proofs.Writing.{both}
use Rattle.ec_cwrite.proofs.programs.push_func.Goals as goal

pub returns : goal.returns
returns c =
    let end = body_chunks (option_map stmts_view c.args.func.now.body) in
    let front = star_chunks c.args.func.now.stars in
    subst (λ x. Writes c.args.out.now c.push_body.new.out (base_chunks (base_view c.args.func.now.base) ++ (blank ∷ front ++ (word x ∷ params_chunks (map param_view c.args.func.now.params) ++ end)))) c.as_slice.ensures
    (subst (λ ps. Writes c.args.out.now c.push_body.new.out (base_chunks (base_view c.args.func.now.base) ++ (blank ∷ front ++ (word c.as_slice.result.now ∷ params_chunks (map param_view ps) ++ end)))) c.as_slice-2.ensures
    (both c.in_ok-push_base.ensures (both c.in_ok-push_blank.ensures (both c.in_ok-push_stars.ensures (both (both c.in_ok-push_word.ensures c.in_ok-push_params.ensures) c.in_ok-push_body.ensures)))))
