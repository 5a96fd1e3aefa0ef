use Rattle.std.proofs.Common.{◌<◌, Ok, Err, arith, subst}
use Rattle.ec_link.specs.Links.{faults_by, talk_by}
use Rattle.ec_runtime.specs.Proceeding.{left_of, waiting_of, Nears, Resumes}
use Rattle.ec_runtime.specs.declared.library.Progress.TheVariants as progress
use Rattle.ec_runtime.proofs.Whole.{done_no, err_no, resumed_asks, resumed_end, resumed_on, some_waits, waits_some}
use Rattle.ec_runtime.proofs.library.+go_on.Goals as goal

pub returns-in-Err-clause-called : goal.returns-in-Err-clause-called
returns-in-Err-clause-called g n c = λ line u e.
    resumed_end (talk_by (λ vtable. (g.dyn-1.0.entry vtable).1)) (faults_by (λ vtable. (g.dyn-1.0.entry vtable).1))
    line u c.args.store.now c.resume.new.store c.resume.new.store c.args.rack.now c.resume.new.rack c.resume.new.rack c.args.library.now c.resume.new.self c.resume.new.self (Err c.in-Err.stop) (err_no c.in-Err.stop) (c.in-Err.ensures.resumes line u e)

pub returns-in-Ok-Done-clause-called : goal.returns-in-Ok-Done-clause-called
returns-in-Ok-Done-clause-called g n c = λ line u e.
    resumed_end (talk_by (λ vtable. (g.dyn-1.0.entry vtable).1)) (faults_by (λ vtable. (g.dyn-1.0.entry vtable).1))
    line u c.args.store.now c.resume.new.store c.resume.new.store c.args.rack.now c.resume.new.rack c.resume.new.rack c.args.library.now c.resume.new.self c.resume.new.self (Ok progress.Done) done_no
    (subst (λ x. Resumes (talk_by (λ vtable. (g.dyn-1.0.entry vtable).1)) (faults_by (λ vtable. (g.dyn-1.0.entry vtable).1)) line u c.args.store.now c.args.rack.now c.args.library.now c.resume.new.store c.resume.new.rack c.resume.new.self (Ok x)) c.in-Ok-Done.field-0-is (c.in-Ok-Done.ensures.resumes line u e))

pub go_on-requires : goal.go_on-requires
go_on-requires g t c =
    let near : left_of (waiting_of c.resume.new.self) < left_of (waiting_of c.args.library.now) = subst (λ x. Nears (Ok x) (left_of (waiting_of c.args.library.now)) (left_of (waiting_of c.resume.new.self))) c.in-Ok-Asks.field-0-is c.in-Ok-Asks.ensures.nears in
    let w = some_waits c.args.library.now c.requires.waits in
    let v = resumed_asks (talk_by (λ vtable. (g.dyn-1.0.entry vtable).1)) (faults_by (λ vtable. (g.dyn-1.0.entry vtable).1)) w.0 w.1 c.args.store.now c.resume.new.store c.args.rack.now c.resume.new.rack c.args.library.now c.resume.new.self
    (subst (λ x. Resumes (talk_by (λ vtable. (g.dyn-1.0.entry vtable).1)) (faults_by (λ vtable. (g.dyn-1.0.entry vtable).1)) w.0 w.1 c.args.store.now c.args.rack.now c.args.library.now c.resume.new.store c.resume.new.rack c.resume.new.self (Ok x)) c.in-Ok-Asks.field-0-is (c.in-Ok-Asks.ensures.resumes w.0 w.1 w.2)) in
    (omega (arith, near, c.decreases), (c.in-Ok-Asks.ensures.kept, (c.in-Ok-Asks.ensures.still_holds, (c.in-Ok-Asks.ensures.still_fits, waits_some c.resume.new.self w.0 v.0 v.1))))

pub returns-in-Ok-Asks-clause-called : goal.returns-in-Ok-Asks-clause-called
returns-in-Ok-Asks-clause-called g n c = λ line u e.
    let p = subst (λ x. Resumes (talk_by (λ vtable. (g.dyn-1.0.entry vtable).1)) (faults_by (λ vtable. (g.dyn-1.0.entry vtable).1)) line u c.args.store.now c.args.rack.now c.args.library.now c.resume.new.store c.resume.new.rack c.resume.new.self (Ok x)) c.in-Ok-Asks.field-0-is (c.in-Ok-Asks.ensures.resumes line u e) in
    let v = resumed_asks (talk_by (λ vtable. (g.dyn-1.0.entry vtable).1)) (faults_by (λ vtable. (g.dyn-1.0.entry vtable).1)) line u c.args.store.now c.resume.new.store c.args.rack.now c.resume.new.rack c.args.library.now c.resume.new.self p in
    resumed_on (talk_by (λ vtable. (g.dyn-1.0.entry vtable).1)) (faults_by (λ vtable. (g.dyn-1.0.entry vtable).1))
    line u c.args.store.now c.resume.new.store c.go_on.new.store c.args.rack.now c.resume.new.rack c.go_on.new.rack c.args.library.now c.resume.new.self c.go_on.new.library v.0 c.go_on.result v.1 p (c.go_on.ensures.called line v.0 v.1)
