use Rattle.std.proofs.Common.{length, refl}
use Rattle.std.proofs.lemmas.Option.{slice_get_read}
use Rattle.ec_runtime.proofs.Begun.{all_fit}
use Rattle.ec_runtime.proofs.Calls.{act_holds, act_taken}
use Rattle.ec_runtime.proofs.Going.{over_stepped}
use Rattle.ec_runtime.proofs.resuming.resume_over.Goals as goal

pub reply_over-requires-clause-taken : goal.reply_over-requires-clause-taken
reply_over-requires-clause-taken g c =
    act_taken c.args.rack.now c.args.library.now c.args.at c.index_mut-session.result.now
    (slice_get_read c.args.library.now.sessions.items (length c.args.library.now.sessions.items) c.args.at c.index_mut-session.result.now refl c.requires.within c.index_mut-session.ensures.value) c.requires.holds

pub returns-clause-changes : goal.returns-clause-changes
returns-clause-changes g c =
    over_stepped (λ z. (goal.Link-dyn g (z.vtable, z.value)).talk z.value) (λ z. (goal.Link-dyn g (z.vtable, z.value)).faults z.value)
    c.args.line.0 c.args.at c.args.request c.args.behind c.args.store.now c.reply_over.new.store c.args.areas.now c.reply_over.new.areas c.args.rack.now c.reply_over.new.rack c.args.library.now _ c.index_mut-session.result.now c.reply_over.new.session
    (slice_get_read c.args.library.now.sessions.items (length c.args.library.now.sessions.items) c.args.at c.index_mut-session.result.now refl c.requires.within c.index_mut-session.ensures.value)
    refl refl c.requires.holds c.reply_over.result c.at_place.result c.at_place.ensures c.reply_over.ensures.over

pub returns-clause-fits : goal.returns-clause-fits
returns-clause-fits g c =
    all_fit c.args.library.now.sessions.items c.args.at c.index_mut-session.result.now c.reply_over.new.session
    (slice_get_read c.args.library.now.sessions.items (length c.args.library.now.sessions.items) c.args.at c.index_mut-session.result.now refl c.requires.within c.index_mut-session.ensures.value)
    c.reply_over.new.areas c.reply_over.result c.at_place.result c.at_place.ensures c.reply_over.ensures.fits

pub returns-clause-still_holds : goal.returns-clause-still_holds
returns-clause-still_holds g c =
    let over = c.reply_over.ensures.over in
    act_holds c.args.rack.now c.args.library.now c.args.at c.index_mut-session.result.now
    (slice_get_read c.args.library.now.sessions.items (length c.args.library.now.sessions.items) c.args.at c.index_mut-session.result.now refl c.requires.within c.index_mut-session.ensures.value)
    c.requires.holds c.reply_over.new.session c.reply_over.new.rack _ over.asks.slot over.asks.slots over.named refl
