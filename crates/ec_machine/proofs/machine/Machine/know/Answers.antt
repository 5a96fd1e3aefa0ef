use Rattle.std.proofs.Common.{◌≡◌, ◌∙◌, ap, arith, map, refl, subst, sym, Err}
use Rattle.std.specs.Option.{option_map}
use Rattle.ec_code.specs.Views.{full_step_view}
use Rattle.ec_meaning_defs.specs.evaluation.Results.{done_there}
use Rattle.ec_meaning_defs.specs.evaluation.State.{exited, stuck, trapped}
use Rattle.ec_printf.specs.formats.Known.{channel_view, known_view}
use Rattle.ec_meaning_defs.specs.functions.Functions.{Effect, effect_of, puts_bytes, traps, ends, misfit}
use Rattle.ec_plain.proofs.Walks.{followed_over}
use Rattle.ec_stdlib.specs.Does.{Does}
use Rattle.ec_values.specs.Words.{word_view}
use Rattle.ec_machine.specs.declared.stop.Stop.TheVariants as stop
use Rattle.ec_machine.specs.Found.{found_view}
use Rattle.ec_machine.specs.Frames.{behind_by, here, waiting}
use Rattle.ec_machine.specs.Goes.{Goes, at, env_of, taken, tasks}
use Rattle.ec_machine.specs.Weights.{remaining}
use Rattle.ec_machine.proofs.Finding.{finds_left, finds_stop, finds_value, near_none, near_stop, near_value, refused}
use Rattle.ec_machine.proofs.Parts.{nothing_put, puts_there}
use Rattle.ec_machine.proofs.Quickly.{came}
use Rattle.ec_machine.proofs.machine.Machine.know.Goals as goal

pub returns-then-is_empty-clause-finds : goal.returns-then-is_empty-clause-finds
returns-then-is_empty-clause-finds c = λ fs.
    let m = c.args.self.now in
    let d = here (env_of m) m.line in
    let a = c.in-Ok.answer in
    let st = c.call.new.store in
    let n = record m { store = st; values = c.drop_last.new.values; text = c.call.new.text } in
    let told : Effect = puts_bytes (channel_view a.channel) (option_map word_view a.value) st c.call.new.text in
    let h : effect_of (known_view c.args.known.now) m.store (map word_view c.last.result.now) ≡ told = c.in-Ok.ensures.does in
    finds_value fs m n (taken c.args.count (env_of m)) m.line (behind_by d c.args.steps.now) (λ knowing w t. done_there m.line.0 (effect_of (known_view c.args.known.now) t.memory (waiting c.args.count (env_of m))) t) (found_view c.value.result) c.args.left.now c.value_of.result c.value.ensures
    (record { frames = refl; env = λ i. record (env_of m) { values = c.drop_last.ensures i }; same_line = refl })
    (λ knowing fits k s l.
    ap (λ v. done_there m.line.0 (effect_of (known_view c.args.known.now) m.store (map word_view v)) (at s m)) (sym c.last.ensures)
    ∙ ap (λ x. done_there m.line.0 x (at s m)) h
    ∙ nothing_put (channel_view a.channel) m.line.0 (option_map word_view a.value) c.value_of.result st c.call.new.text (at s m) (c.is_empty.ensures.0 c.if-is_empty.true) c.value_of.ensures)

pub returns-else-is_empty-clause-finds : goal.returns-else-is_empty-clause-finds
returns-else-is_empty-clause-finds c = λ fs.
    let m = c.args.self.now in
    let d = here (env_of m) m.line in
    let a = c.in-Ok.answer in
    let st = c.call.new.store in
    let n = record m { store = st; values = c.drop_last.new.values; text = c.call.new.text } in
    let told : Effect = puts_bytes (channel_view a.channel) (option_map word_view a.value) st c.call.new.text in
    let h : effect_of (known_view c.args.known.now) m.store (map word_view c.last.result.now) ≡ told = c.in-Ok.ensures.does in
    finds_left fs m c.put.new.self (taken c.args.count (env_of m)) m.line (behind_by d c.args.steps.now) (λ knowing w t. done_there m.line.0 (effect_of (known_view c.args.known.now) t.memory (waiting c.args.count (env_of m))) t) (found_view c.waits.result) c.waits.new.left c.put.result c.waits.ensures.none c.waits.ensures.left
    (came fs m (taken c.args.count (env_of m)) (λ knowing w t. behind_by d c.args.steps.now knowing w (done_there m.line.0 (effect_of (known_view c.args.known.now) t.memory (waiting c.args.count (env_of m))) t)) n
    (λ knowing w t. behind_by d c.args.steps.now knowing w (done_there m.line.0 (puts_bytes (channel_view a.channel) (option_map word_view a.value) t.memory c.call.new.text) t)) refl (omega arith)
    (λ knowing fits k s l. ap (behind_by d c.args.steps.now knowing (tasks knowing fs k))
    (ap (λ v. done_there m.line.0 (effect_of (known_view c.args.known.now) m.store (map word_view v)) (at s m)) (sym c.last.ensures)
    ∙ ap (λ x. done_there m.line.0 x (at s m)) h
    ∙ puts_there (channel_view a.channel) m.line.0 (option_map word_view a.value) st st c.call.new.text (at s m)))
    c.put.result c.put.new.self
    (subst (λ vs. Goes fs n (record (env_of m) { values = vs }) (λ knowing w t. behind_by d c.args.steps.now knowing w (done_there m.line.0 (puts_bytes (channel_view a.channel) (option_map word_view a.value) t.memory c.call.new.text) t)) c.put.result c.put.new.self) c.drop_last.ensures (c.put.ensures.goes fs)))

pub returns-in-Err-Trap-clause-finds : goal.returns-in-Err-Trap-clause-finds
returns-in-Err-Trap-clause-finds c = λ fs.
    let m = c.args.self.now in
    let x = effect_of (known_view c.args.known.now) m.store (map word_view c.last.result.now) in
    let h : x ≡ traps c.in-Err-Trap.trap = subst (λ r. Does (Err r) c.call.new.store c.call.new.text x) c.in-Err-Trap.field-0-is c.in-Err-Trap.ensures.does in
    refused fs m (record m { store = c.call.new.store; text = c.call.new.text }) c.args.count c.args.steps.now c.args.known.now (found_view c.waits-in-Err-Trap.result) c.waits-in-Err-Trap.new.left (trapped c.in-Err-Trap.trap m.line.0) _ c.last.result.now c.last.ensures c.waits-in-Err-Trap.ensures.none c.waits-in-Err-Trap.ensures.left c.in-Err-Trap.ensures.unchanged refl refl
    (λ s. ap (λ x. done_there m.line.0 x (at s m)) h)

pub returns-in-Err-Exit-clause-finds : goal.returns-in-Err-Exit-clause-finds
returns-in-Err-Exit-clause-finds c = λ fs.
    let m = c.args.self.now in
    let x = effect_of (known_view c.args.known.now) m.store (map word_view c.last.result.now) in
    let h : x ≡ ends c.in-Err-Exit.status = subst (λ r. Does (Err r) c.call.new.store c.call.new.text x) c.in-Err-Exit.field-0-is c.in-Err-Exit.ensures.does in
    refused fs m (record m { store = c.call.new.store; text = c.call.new.text }) c.args.count c.args.steps.now c.args.known.now (found_view c.waits-in-Err-Exit.result) c.waits-in-Err-Exit.new.left (exited c.in-Err-Exit.status) _ c.last.result.now c.last.ensures c.waits-in-Err-Exit.ensures.none c.waits-in-Err-Exit.ensures.left c.in-Err-Exit.ensures.unchanged refl refl
    (λ s. ap (λ x. done_there m.line.0 x (at s m)) h)

pub returns-in-Err-Misfit-clause-finds : goal.returns-in-Err-Misfit-clause-finds
returns-in-Err-Misfit-clause-finds c = λ fs.
    let m = c.args.self.now in
    let x = effect_of (known_view c.args.known.now) m.store (map word_view c.last.result.now) in
    let h : x ≡ misfit = subst (λ r. Does (Err r) c.call.new.store c.call.new.text x) c.in-Err-Misfit.field-0-is c.in-Err-Misfit.ensures.does in
    refused fs m (record m { store = c.call.new.store; text = c.call.new.text }) c.args.count c.args.steps.now c.args.known.now (found_view c.waits-in-Err-Misfit.result) c.waits-in-Err-Misfit.new.left stuck _ c.last.result.now c.last.ensures c.waits-in-Err-Misfit.ensures.none c.waits-in-Err-Misfit.ensures.left c.in-Err-Misfit.ensures.unchanged refl refl
    (λ s. ap (λ x. done_there m.line.0 x (at s m)) h)

pub returns-in-Err-OutOfMemory-clause-finds : goal.returns-in-Err-OutOfMemory-clause-finds
returns-in-Err-OutOfMemory-clause-finds c = λ fs.
    let m = c.args.self.now in
    let d = here (env_of m) m.line in
    finds_stop fs m (record m { store = c.call.new.store; text = c.call.new.text }) (taken c.args.count (env_of m)) m.line (behind_by d c.args.steps.now) (λ knowing w t. done_there m.line.0 (effect_of (known_view c.args.known.now) t.memory (waiting c.args.count (env_of m))) t) (found_view c.waits-in-Err-OutOfMemory.result) c.waits-in-Err-OutOfMemory.new.left stop.OutOfMemory (λ knowing w e s. followed_over knowing w d (map full_step_view c.args.steps.now) e s) c.waits-in-Err-OutOfMemory.ensures.none c.waits-in-Err-OutOfMemory.ensures.left (λ knowing fits k s l. tt)

pub returns-then-is_empty-clause-nears : goal.returns-then-is_empty-clause-nears
returns-then-is_empty-clause-nears c = near_value c.args.self.now.turns (found_view c.value.result) c.args.left.now (record c.args.self.now { store = c.call.new.store; values = c.drop_last.new.values; text = c.call.new.text }) _ c.value_of.result c.value.ensures

pub returns-else-is_empty-clause-nears : goal.returns-else-is_empty-clause-nears
returns-else-is_empty-clause-nears c =
    near_none c.args.self.now.turns (found_view c.waits.result) c.waits.new.left c.put.new.self _ c.waits.ensures.none (omega (arith, ap (λ r. remaining c.args.self.now.turns r c.put.new.self) c.waits.ensures.left, c.put.ensures.nears))

pub returns-in-Err-Trap-clause-nears : goal.returns-in-Err-Trap-clause-nears
returns-in-Err-Trap-clause-nears c = near_stop c.args.self.now.turns (found_view c.waits-in-Err-Trap.result) c.waits-in-Err-Trap.new.left (record c.args.self.now { store = c.call.new.store; text = c.call.new.text }) _ _ c.waits-in-Err-Trap.ensures.none c.waits-in-Err-Trap.ensures.left

pub returns-in-Err-Exit-clause-nears : goal.returns-in-Err-Exit-clause-nears
returns-in-Err-Exit-clause-nears c = near_stop c.args.self.now.turns (found_view c.waits-in-Err-Exit.result) c.waits-in-Err-Exit.new.left (record c.args.self.now { store = c.call.new.store; text = c.call.new.text }) _ _ c.waits-in-Err-Exit.ensures.none c.waits-in-Err-Exit.ensures.left

pub returns-in-Err-Misfit-clause-nears : goal.returns-in-Err-Misfit-clause-nears
returns-in-Err-Misfit-clause-nears c = near_stop c.args.self.now.turns (found_view c.waits-in-Err-Misfit.result) c.waits-in-Err-Misfit.new.left (record c.args.self.now { store = c.call.new.store; text = c.call.new.text }) _ _ c.waits-in-Err-Misfit.ensures.none c.waits-in-Err-Misfit.ensures.left

pub returns-in-Err-OutOfMemory-clause-nears : goal.returns-in-Err-OutOfMemory-clause-nears
returns-in-Err-OutOfMemory-clause-nears c = near_stop c.args.self.now.turns (found_view c.waits-in-Err-OutOfMemory.result) c.waits-in-Err-OutOfMemory.new.left (record c.args.self.now { store = c.call.new.store; text = c.call.new.text }) _ _ c.waits-in-Err-OutOfMemory.ensures.none c.waits-in-Err-OutOfMemory.ensures.left
