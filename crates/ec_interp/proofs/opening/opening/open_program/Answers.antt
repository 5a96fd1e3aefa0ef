use Rattle.std.proofs.Common.{◌++◌, [], ◌∷◌, map, subst, Ok, Err}
use Rattle.ec_meaning_defs.specs.resolved.Programs.{global_bytes, literal_bytes, sqlca_bytes}
use Rattle.ec_interp.specs.opening.Opens.{Opens}
use Rattle.ec_interp.proofs.opening_lemmas.Making.{opens_stop, opens_then}
use Rattle.ec_interp.proofs.opening.opening.open_program.Goals as goal

pub returns-in-Err-clause-opens : goal.returns-in-Err-clause-opens
returns-in-Err-clause-opens c =
    let program = c.args.program.now in
    opens_stop (sqlca_bytes ∷ []) (map global_bytes program.globals ++ map literal_bytes program.literals) c.in-Err.why c.args.store.now c.open_area.new.store c.in-Err.ensures.opens

pub returns-in-Err-open_globals-clause-opens : goal.returns-in-Err-open_globals-clause-opens
returns-in-Err-open_globals-clause-opens c =
    let program = c.args.program.now in
    let mid = c.open_area.new.store in
    let new = c.open_globals.new.store in
    let why = c.in-Err-open_globals.why in
    let globals = map global_bytes program.globals in
    let literals = map literal_bytes program.literals in
    opens_then (sqlca_bytes ∷ []) (globals ++ literals) (Err why) c.args.store.now mid new c.in-Ok.ensures.opens
    (opens_stop globals literals why mid new (subst (λ xs. Opens (map global_bytes xs) (Err why) mid new) c.as_slice.ensures c.in-Err-open_globals.ensures.opens))

pub returns-clause-opens : goal.returns-clause-opens
returns-clause-opens c =
    let program = c.args.program.now in
    let mid = c.open_area.new.store in
    let there = c.open_globals.new.store in
    let new = c.open_literals.new.store in
    let globals = map global_bytes program.globals in
    let literals = map literal_bytes program.literals in
    opens_then (sqlca_bytes ∷ []) (globals ++ literals) c.open_literals.result c.args.store.now mid new c.in-Ok.ensures.opens
    (opens_then globals literals c.open_literals.result mid there new
    (subst (λ xs. Opens (map global_bytes xs) (Ok tt) mid there) c.as_slice.ensures c.in-Ok-open_globals.ensures.opens)
    (subst (λ xs. Opens (map literal_bytes xs) c.open_literals.result there new) c.as_slice-2.ensures c.open_literals.ensures.opens))
