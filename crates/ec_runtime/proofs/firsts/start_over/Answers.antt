use Rattle.std.proofs.Common.{◌∙◌, ◌<◌, IfSome, length, refl, subst, sym}
use Rattle.std.proofs.lemmas.Option.{slice_get_read}
use Rattle.ec_runtime.proofs.Begun.{all_fit, all_stay, over_found, over_missing}
use Rattle.ec_runtime.proofs.firsts.start_over.Goals as goal

pub returns-in-None-clause-leads : goal.returns-in-None-clause-leads
returns-in-None-clause-leads g c = λ name e.
    over_missing c.args.line.0 c.args.ready name c.args.store.now c.begin_area.new.store c.refuse.new.store c.args.areas.now c.args.library.now c.refuse.result (sym c.in-None.is ∙ e) c.begin_area.ensures.area c.refuse.ensures.area c.refuse.ensures.stop

pub returns-in-Some-clause-leads : goal.returns-in-Some-clause-leads
returns-in-Some-clause-leads g c = λ name e.
    over_found c.args.library.now.sessions.items c.in-Some.at c.index_mut-session.result.now c.first_over.new.session
    (slice_get_read c.args.library.now.sessions.items (length c.args.library.now.sessions.items) c.in-Some.at c.index_mut-session.result.now refl
    (subst (λ o. IfSome o (λ at. at < length c.args.library.now.sessions.items)) c.in-Some.is c.requires.within) c.index_mut-session.ensures.value)
    c.args.line.0 c.args.ready name c.args.library.now.current c.args.store.now c.begin_area.new.store c.first_over.new.store c.args.areas.now c.first_over.result c.at_place.result (sym c.in-Some.is ∙ e) c.begin_area.ensures.area c.requires.beside
    c.first_over.ensures.conn c.at_place.ensures c.first_over.ensures.starts

pub returns-in-Some-clause-fits : goal.returns-in-Some-clause-fits
returns-in-Some-clause-fits g c =
    all_fit c.args.library.now.sessions.items c.in-Some.at c.index_mut-session.result.now c.first_over.new.session
    (slice_get_read c.args.library.now.sessions.items (length c.args.library.now.sessions.items) c.in-Some.at c.index_mut-session.result.now refl
    (subst (λ o. IfSome o (λ at. at < length c.args.library.now.sessions.items)) c.in-Some.is c.requires.within) c.index_mut-session.ensures.value)
    c.args.areas.now c.first_over.result c.at_place.result c.at_place.ensures c.first_over.ensures.fits

pub returns-in-Some-clause-stays : goal.returns-in-Some-clause-stays
returns-in-Some-clause-stays g c =
    all_stay c.args.library.now _ c.in-Some.at c.index_mut-session.result.now c.first_over.new.session
    (slice_get_read c.args.library.now.sessions.items (length c.args.library.now.sessions.items) c.in-Some.at c.index_mut-session.result.now refl
    (subst (λ o. IfSome o (λ at. at < length c.args.library.now.sessions.items)) c.in-Some.is c.requires.within) c.index_mut-session.ensures.value)
    refl c.first_over.ensures.conn c.first_over.ensures.name
