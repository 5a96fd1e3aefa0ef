use Rattle.std.proofs.Common.{◌∙◌, ◌<◌, ap, length, refl, subst}
use Rattle.ec_runtime.specs.Calling.{connections_of}
use Rattle.ec_runtime.specs.Closing.{IsWithin}
use Rattle.ec_runtime.specs.Opening.{open_view}
use Rattle.ec_runtime.specs.declared.disconnecting.Which.TheVariants.{One}
use Rattle.ec_runtime.proofs.Closes.{element, view_there, views_inside}
use Rattle.ec_runtime.proofs.Closing.{close_every, close_none, close_one}
use Rattle.ec_runtime.proofs.disconnecting.start_closing.Goals as goal

pub returns-in-None-clause-leads : goal.returns-in-None-clause-leads
returns-in-None-clause-leads g c = λ areas.
    close_none c.args.line.0 (connections_of c.args.library.now) c.args.library.now.current c.args.which c.args.store.now areas c.refuse.new.store c.refuse.result (c.in-One.is ∙ ap One c.in-None.is) c.refuse.ensures.area c.refuse.ensures.stop

pub returns-in-Some-clause-leads : goal.returns-in-Some-clause-leads
returns-in-Some-clause-leads g c = λ areas.
    let within : c.in-Some.at < length c.args.library.now.sessions.items = subst (λ w. IsWithin w (length c.args.library.now.sessions.items)) (c.in-One.is ∙ ap One c.in-Some.is) c.requires.within in
    let o = element c.args.library.now.sessions.items c.in-Some.at within in
    close_one c.args.line.0 (connections_of c.args.library.now) c.args.library.now.current c.args.which c.args.store.now areas c.in-Some.at (open_view o.0) (c.in-One.is ∙ ap One c.in-Some.is) (view_there c.args.library.now.sessions.items c.in-Some.at o.0 o.1)

pub returns-in-Some-clause-fits : goal.returns-in-Some-clause-fits
returns-in-Some-clause-fits g c = λ areas.
    let within : c.in-Some.at < length c.args.library.now.sessions.items = subst (λ w. IsWithin w (length c.args.library.now.sessions.items)) (c.in-One.is ∙ ap One c.in-Some.is) c.requires.within in
    (views_inside c.args.library.now.sessions.items c.in-Some.at within, refl)

pub returns-in-All-clause-leads : goal.returns-in-All-clause-leads
returns-in-All-clause-leads g c = λ areas.
    close_every c.args.line.0 (connections_of c.args.library.now) c.args.library.now.current c.args.which c.args.store.now areas _ c.in-All.is c.closing_all.ensures.asking
