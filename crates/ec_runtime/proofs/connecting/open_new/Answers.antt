use Rattle.std.proofs.Common.{◌∙◌, ◌++◌, ◌∷◌, [], Some, ap, false, refl, subst}
use Rattle.std.specs.Prelude.{MatchOption}
use Rattle.ec_link.specs.declared.reply.Tx.TheVariants.{Idle}
use Rattle.ec_link.specs.Calls.{Connects, OpensNone}
use Rattle.ec_link.specs.Conn.{slot_of}
use Rattle.ec_runtime.specs.Prepared.{prepared_views}
use Rattle.ec_runtime.proofs.Connects.{open_holds, open_made, open_refused, open_taken, open_unasked, open_unsaid}
use Rattle.ec_runtime.proofs.Making.{changes_from, made_along}
use Rattle.ec_runtime.proofs.connecting.open_new.Goals as goal

pub returns-in-Err-clause-changes : goal.returns-in-Err-clause-changes
returns-in-Err-clause-changes g c =
    changes_from (λ z. (goal.Link-dyn g (z.vtable, z.value)).talk z.value) (λ z. (goal.Link-dyn g (z.vtable, z.value)).faults z.value)
    (open_unasked (λ z. (goal.Link-dyn g (z.vtable, z.value)).talk z.value) (λ z. (goal.Link-dyn g (z.vtable, z.value)).faults z.value)
    c.args.line.0 c.args.name c.args.request c.args.store.now c.args.rack.now c.args.library.now.sessions.items c.args.library.now.current)

pub returns-in-Err-reserve-clause-changes : goal.returns-in-Err-reserve-clause-changes
returns-in-Err-reserve-clause-changes g c =
    changes_from (λ z. (goal.Link-dyn g (z.vtable, z.value)).talk z.value) (λ z. (goal.Link-dyn g (z.vtable, z.value)).faults z.value)
    (made_along (λ z. (goal.Link-dyn g (z.vtable, z.value)).talk z.value) (λ z. (goal.Link-dyn g (z.vtable, z.value)).faults z.value)
    refl refl c.reserve.ensures.items refl
    (open_unasked (λ z. (goal.Link-dyn g (z.vtable, z.value)).talk z.value) (λ z. (goal.Link-dyn g (z.vtable, z.value)).faults z.value)
    c.args.line.0 c.args.name c.args.request c.args.store.now c.args.rack.now c.args.library.now.sessions.items c.args.library.now.current))

pub returns-in-Err-connect-clause-changes : goal.returns-in-Err-connect-clause-changes
returns-in-Err-connect-clause-changes g c =
    changes_from (λ z. (goal.Link-dyn g (z.vtable, z.value)).talk z.value) (λ z. (goal.Link-dyn g (z.vtable, z.value)).faults z.value)
    (made_along (λ z. (goal.Link-dyn g (z.vtable, z.value)).talk z.value) (λ z. (goal.Link-dyn g (z.vtable, z.value)).faults z.value)
    refl refl c.reserve.ensures.items refl
    (open_unsaid (λ z. (goal.Link-dyn g (z.vtable, z.value)).talk z.value) (λ z. (goal.Link-dyn g (z.vtable, z.value)).faults z.value)
    c.args.line.0 c.args.name c.args.request c.args.store.now c.args.rack.now c.args.library.now.sessions.items c.args.library.now.current c.requires.asks c.requires.holds.taken c.connect.new.self c.in-Err-connect.ensures.err))

pub returns-in-Ok-None-clause-changes : goal.returns-in-Ok-None-clause-changes
returns-in-Ok-None-clause-changes g c =
    changes_from (λ z. (goal.Link-dyn g (z.vtable, z.value)).talk z.value) (λ z. (goal.Link-dyn g (z.vtable, z.value)).faults z.value)
    (made_along (λ z. (goal.Link-dyn g (z.vtable, z.value)).talk z.value) (λ z. (goal.Link-dyn g (z.vtable, z.value)).faults z.value)
    refl refl c.reserve.ensures.items refl
    (open_refused (λ z. (goal.Link-dyn g (z.vtable, z.value)).talk z.value) (λ z. (goal.Link-dyn g (z.vtable, z.value)).faults z.value)
    c.args.line.0 c.args.name c.args.request c.args.store.now c.args.rack.now c.args.library.now.sessions.items c.args.library.now.current c.requires.asks c.requires.holds.taken c.connect.new.self c.refuse.new.store c.refuse.result
    (subst (λ o. MatchOption o (OpensNone (λ z. (goal.Link-dyn g (z.vtable, z.value)).talk z.value) (λ z. (goal.Link-dyn g (z.vtable, z.value)).faults z.value) c.args.request c.args.rack.now c.connect.new.self) (Connects (λ z. (goal.Link-dyn g (z.vtable, z.value)).talk z.value) (λ z. (goal.Link-dyn g (z.vtable, z.value)).faults z.value) c.args.request c.args.rack.now c.connect.new.self)) c.in-Ok-None.field-0-is c.in-Ok-None.ensures.ok)
    c.refuse.ensures.area c.refuse.ensures.stop))

pub returns-in-Ok-Some-clause-changes : goal.returns-in-Ok-Some-clause-changes
returns-in-Ok-Some-clause-changes g c =
    changes_from (λ z. (goal.Link-dyn g (z.vtable, z.value)).talk z.value) (λ z. (goal.Link-dyn g (z.vtable, z.value)).faults z.value)
    (made_along (λ z. (goal.Link-dyn g (z.vtable, z.value)).talk z.value) (λ z. (goal.Link-dyn g (z.vtable, z.value)).faults z.value)
    refl refl (c.keep.ensures.sessions ∙ ap (λ xs. xs ++ (record { name = c.args.name; conn = c.in-Ok-Some.conn; autocommit = false; told = Idle; prepared = c.new.result }) ∷ []) c.reserve.ensures.items) (c.keep.ensures.current ∙ ap Some c.in-Ok.ensures.cases)
    (open_made (λ z. (goal.Link-dyn g (z.vtable, z.value)).talk z.value) (λ z. (goal.Link-dyn g (z.vtable, z.value)).faults z.value)
    c.args.line.0 c.args.name c.args.request c.args.store.now c.args.rack.now c.args.library.now.sessions.items c.args.library.now.current c.requires.asks c.requires.holds.taken c.connect.new.self c.in-Ok-Some.conn
    (subst (λ o. MatchOption o (OpensNone (λ z. (goal.Link-dyn g (z.vtable, z.value)).talk z.value) (λ z. (goal.Link-dyn g (z.vtable, z.value)).faults z.value) c.args.request c.args.rack.now c.connect.new.self) (Connects (λ z. (goal.Link-dyn g (z.vtable, z.value)).talk z.value) (λ z. (goal.Link-dyn g (z.vtable, z.value)).faults z.value) c.args.request c.args.rack.now c.connect.new.self)) c.in-Ok-Some.field-0-is c.in-Ok-Some.ensures.ok)
    (record { name = c.args.name; conn = c.in-Ok-Some.conn; autocommit = false; told = Idle; prepared = c.new.result })
    (λ j. record { name = c.args.name; slot = slot_of c.in-Ok-Some.conn; autocommit = false; told = Idle; prepared = prepared_views (c.new.ensures j) }) refl))

pub returns-in-Ok-Some-clause-still_holds : goal.returns-in-Ok-Some-clause-still_holds
returns-in-Ok-Some-clause-still_holds g c =
    open_holds c.args.rack.now c.connect.new.self c.args.library.now c.keep.new.library
    (record { name = c.args.name; conn = c.in-Ok-Some.conn; autocommit = false; told = Idle; prepared = c.new.result })
    c.requires.holds c.requires.unused
    (open_taken (λ z. (goal.Link-dyn g (z.vtable, z.value)).talk z.value) (λ z. (goal.Link-dyn g (z.vtable, z.value)).faults z.value)
    c.args.line.0 c.args.name c.args.request c.args.store.now c.args.rack.now c.args.library.now.sessions.items c.args.library.now.current c.requires.asks c.requires.holds.taken c.connect.new.self c.in-Ok-Some.conn
    (subst (λ o. MatchOption o (OpensNone (λ z. (goal.Link-dyn g (z.vtable, z.value)).talk z.value) (λ z. (goal.Link-dyn g (z.vtable, z.value)).faults z.value) c.args.request c.args.rack.now c.connect.new.self) (Connects (λ z. (goal.Link-dyn g (z.vtable, z.value)).talk z.value) (λ z. (goal.Link-dyn g (z.vtable, z.value)).faults z.value) c.args.request c.args.rack.now c.connect.new.self)) c.in-Ok-Some.field-0-is c.in-Ok-Some.ensures.ok)
    (record { name = c.args.name; conn = c.in-Ok-Some.conn; autocommit = false; told = Idle; prepared = c.new.result })
    (λ j. record { name = c.args.name; slot = slot_of c.in-Ok-Some.conn; autocommit = false; told = Idle; prepared = prepared_views (c.new.ensures j) }) refl)
    (c.keep.ensures.sessions ∙ ap (λ xs. xs ++ (record { name = c.args.name; conn = c.in-Ok-Some.conn; autocommit = false; told = Idle; prepared = c.new.result }) ∷ []) c.reserve.ensures.items)
