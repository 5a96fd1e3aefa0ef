use Rattle.std.proofs.Common.{◌∙◌, ap}
use Rattle.ec_ctypes.specs.views.Exprs.{exprs_view}
use Rattle.ec_resolve_forms.specs.Seen.{founds_view}
use Rattle.ec_typing_defs.specs.Library.{library_call}
use Rattle.ec_resolve_expressions.proofs.call_forms_lemmas.Calling.{of_library, of_program}
use Rattle.ec_resolve_expressions.proofs.call_forms.calls.called.Goals as goal

pub returns-in_ok-exp-in-Some : goal.returns-in_ok-exp-in-Some
returns-in_ok-exp-in-Some c =
    of_library c.args.resolver.now c.args.name.now (exprs_view c.args.forms.now) (founds_view c.args.fs) c.in-Some.call
    (c.in-Some.ensures ∙ ap (λ b. library_call b c.args.name.now) c.written.ensures) c.in_ok-exp-in-Some.ensures

pub returns-in_ok-other-in-None : goal.returns-in_ok-other-in-None
returns-in_ok-other-in-None c =
    of_program c.args.resolver.now c.args.name.now (exprs_view c.args.forms.now) (founds_view c.args.fs)
    (c.in-None.ensures ∙ ap (λ b. library_call b c.args.name.now) c.written.ensures) c.in_ok-other-in-None.ensures
