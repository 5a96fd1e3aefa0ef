use Rattle.std.proofs.Common.{◌∙◌, [], length, refl}
use Rattle.std.proofs.lemmas.Option.{slice_get_read}
use Rattle.ec_runtime.proofs.Closes.{on_ok, shut, shut_fewer, shut_holds, shut_left, shut_taken, unshut, unshut_holds}
use Rattle.ec_runtime.proofs.disconnecting.close_at.Goals as goal

pub close-requires : goal.close-requires
close-requires g c =
    shut_taken (λ z. (goal.Link-dyn g (z.vtable, z.value)).talk z.value) (λ z. (goal.Link-dyn g (z.vtable, z.value)).faults z.value)
    c.args.rack.now c.args.rack.now c.args.library.now c.args.at c.remove-name.result (slice_get_read c.args.library.now.sessions.items (length c.args.library.now.sessions.items) c.args.at c.remove-name.result refl c.requires.within c.remove-name.ensures.value) c.requires.holds

pub returns-in-Ok-clause-changes : goal.returns-in-Ok-clause-changes
returns-in-Ok-clause-changes g c = λ m d e.
    shut (λ z. (goal.Link-dyn g (z.vtable, z.value)).talk z.value) (λ z. (goal.Link-dyn g (z.vtable, z.value)).faults z.value)
    c.args.rack.now c.close.new.self c.args.library.now c.args.at c.remove-name.result (slice_get_read c.args.library.now.sessions.items (length c.args.library.now.sessions.items) c.args.at c.remove-name.result refl c.requires.within c.remove-name.ensures.value) c.requires.holds
    c.in-Ok.ensures.ok c.forget.new.library (c.forget.ensures.sessions ∙ c.remove-name.ensures.items) m d c.as_slice.result.now c.remove-name.new.self.items c.forget.result e c.as_slice.ensures c.remove-name.ensures.items c.forget.ensures.current c.forget.ensures.err

pub returns-in-Ok-clause-left : goal.returns-in-Ok-clause-left
returns-in-Ok-clause-left g c = on_ok c.forget.result
    (shut_left (λ z. (goal.Link-dyn g (z.vtable, z.value)).talk z.value) (λ z. (goal.Link-dyn g (z.vtable, z.value)).faults z.value)
    c.args.rack.now c.close.new.self c.args.library.now c.args.at c.remove-name.result (slice_get_read c.args.library.now.sessions.items (length c.args.library.now.sessions.items) c.args.at c.remove-name.result refl c.requires.within c.remove-name.ensures.value) c.requires.holds
    c.in-Ok.ensures.ok c.forget.new.library (c.forget.ensures.sessions ∙ c.remove-name.ensures.items))

pub returns-in-Ok-clause-fewer : goal.returns-in-Ok-clause-fewer
returns-in-Ok-clause-fewer g c = on_ok c.forget.result
    (shut_fewer (λ z. (goal.Link-dyn g (z.vtable, z.value)).talk z.value) (λ z. (goal.Link-dyn g (z.vtable, z.value)).faults z.value)
    c.args.rack.now c.close.new.self c.args.library.now c.args.at c.remove-name.result (slice_get_read c.args.library.now.sessions.items (length c.args.library.now.sessions.items) c.args.at c.remove-name.result refl c.requires.within c.remove-name.ensures.value) c.requires.holds
    c.in-Ok.ensures.ok c.forget.new.library (c.forget.ensures.sessions ∙ c.remove-name.ensures.items))

pub returns-in-Ok-clause-still_holds : goal.returns-in-Ok-clause-still_holds
returns-in-Ok-clause-still_holds g c =
    shut_holds (λ z. (goal.Link-dyn g (z.vtable, z.value)).talk z.value) (λ z. (goal.Link-dyn g (z.vtable, z.value)).faults z.value)
    c.args.rack.now c.close.new.self c.args.library.now c.args.at c.remove-name.result (slice_get_read c.args.library.now.sessions.items (length c.args.library.now.sessions.items) c.args.at c.remove-name.result refl c.requires.within c.remove-name.ensures.value) c.requires.holds
    c.in-Ok.ensures.ok c.forget.new.library (c.forget.ensures.sessions ∙ c.remove-name.ensures.items) []

pub returns-in-Ok-insert-clause-changes : goal.returns-in-Ok-insert-clause-changes
returns-in-Ok-insert-clause-changes g c = λ m d e.
    unshut (λ z. (goal.Link-dyn g (z.vtable, z.value)).talk z.value) (λ z. (goal.Link-dyn g (z.vtable, z.value)).faults z.value)
    c.args.rack.now c.close.new.self c.args.library.now c.args.at c.remove-name.result (slice_get_read c.args.library.now.sessions.items (length c.args.library.now.sessions.items) c.args.at c.remove-name.result refl c.requires.within c.remove-name.ensures.value) c.requires.holds
    (record { name = c.remove-name.result.name; conn = c.in-Err.conn; autocommit = c.remove-name.result.autocommit; told = c.remove-name.result.told; prepared = c.remove-name.result.prepared })
    _ c.remove-name.new.self.items c.in-Err.ensures.slots c.in-Err.ensures.slot c.remove-name.ensures.items c.in-Ok-insert.ensures.items m d e refl c.in-Err.ensures.log c.in-Err.ensures.unasked c.in-Err.ensures.later

pub returns-in-Ok-insert-clause-still_holds : goal.returns-in-Ok-insert-clause-still_holds
returns-in-Ok-insert-clause-still_holds g c =
    unshut_holds (λ z. (goal.Link-dyn g (z.vtable, z.value)).talk z.value) (λ z. (goal.Link-dyn g (z.vtable, z.value)).faults z.value)
    c.args.rack.now c.close.new.self c.args.library.now c.args.at c.remove-name.result (slice_get_read c.args.library.now.sessions.items (length c.args.library.now.sessions.items) c.args.at c.remove-name.result refl c.requires.within c.remove-name.ensures.value) c.requires.holds
    (record { name = c.remove-name.result.name; conn = c.in-Err.conn; autocommit = c.remove-name.result.autocommit; told = c.remove-name.result.told; prepared = c.remove-name.result.prepared })
    _ c.remove-name.new.self.items c.in-Err.ensures.slots c.in-Err.ensures.slot c.remove-name.ensures.items c.in-Ok-insert.ensures.items refl
