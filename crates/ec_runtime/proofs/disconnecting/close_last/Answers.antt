use Rattle.std.proofs.Common.{◌≡◌, ◌-◌, Err, Ok, length, refl, ◌∙◌, ap, reverse, []}
use Rattle.std.specs.Vec.{vec_len}
use Rattle.ec_runtime.specs.Resuming.{closing_asks}
use Rattle.ec_runtime.proofs.Closes.{last_inside, last_place}
use Rattle.ec_runtime.proofs.Going.{last_stepped, not_none}
use Rattle.ec_runtime.proofs.disconnecting.close_last.Goals as goal

pub close_at-requires-clause-within : goal.close_at-requires-clause-within
close_at-requires-clause-within g c =
    let same : vec_len c.args.library.now.sessions ≡ length c.args.library.now.sessions.items = search in
    last_inside c.len-last.result (length c.args.library.now.sessions.items) (c.len-last.ensures ∙ same) (not_none c.len-last.result (length c.args.library.now.sessions.items) (c.len-last.ensures ∙ same) c.requires.within)

pub returns-in-Err-clause-changes : goal.returns-in-Err-clause-changes
returns-in-Err-clause-changes g c = λ line m.
    let same : vec_len c.args.library.now.sessions ≡ length c.args.library.now.sessions.items = search in
    let some = not_none c.len-last.result (length c.args.library.now.sessions.items) (c.len-last.ensures ∙ same) c.requires.within in
    last_stepped (λ z. (goal.Link-dyn g (z.vtable, z.value)).talk z.value) (λ z. (goal.Link-dyn g (z.vtable, z.value)).faults z.value)
    line m [] c.args.rack.now c.close_at.new.rack c.args.library.now c.close_at.new.library (c.len-last.result - 1) (last_inside c.len-last.result (length c.args.library.now.sessions.items) (c.len-last.ensures ∙ same) some) (last_place c.len-last.result (length c.args.library.now.sessions.items) (c.len-last.ensures ∙ same) some)
    (Err c.in-Err.stop) _ refl (c.in-Err.ensures.changes m)

pub returns-in-Ok-clause-changes : goal.returns-in-Ok-clause-changes
returns-in-Ok-clause-changes g c = λ line m.
    let same : vec_len c.args.library.now.sessions ≡ length c.args.library.now.sessions.items = search in
    let some = not_none c.len-last.result (length c.args.library.now.sessions.items) (c.len-last.ensures ∙ same) c.requires.within in
    last_stepped (λ z. (goal.Link-dyn g (z.vtable, z.value)).talk z.value) (λ z. (goal.Link-dyn g (z.vtable, z.value)).faults z.value)
    line m [] c.args.rack.now c.close_at.new.rack c.args.library.now c.close_at.new.library (c.len-last.result - 1) (last_inside c.len-last.result (length c.args.library.now.sessions.items) (c.len-last.ensures ∙ same) some) (last_place c.len-last.result (length c.args.library.now.sessions.items) (c.len-last.ensures ∙ same) some)
    (Ok tt) _ (ap Ok (c.closing_all.ensures.asking ∙ ap (λ cs. closing_asks (reverse cs)) c.in-Ok.ensures.left)) (c.in-Ok.ensures.changes m)
