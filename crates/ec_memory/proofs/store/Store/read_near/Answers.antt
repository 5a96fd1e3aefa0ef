-- The value of the bytes, where there is one.
use Rattle.std.proofs.Common.{◌≡◌, ◌∙◌, ap, subst, ℕ, List, Option, Some, None, Result, Ok, Err, arith}
use Rattle.std.specs.Option.{IfSome}
use Rattle.ec_base.specs.declared.stop.Trap.{Trap}
use Rattle.ec_memory_defs.specs.Cells.{Cell, part_of, value_of}
use Rattle.ec_memory_defs.specs.Memory.{or_unset}
use Rattle.ec_bytes.specs.Scalars.{HoldBytes}
use Rattle.ec_memory.specs.Store.{seen}
use Rattle.ec_memory.proofs.Calls.{room_of, read_value, read_small}
use Rattle.ec_memory.proofs.Near.{if_any, is_near, none_near}
use Rattle.ec_memory.proofs.store.Store.read_near.Goals as goal

if_read : {A : Type 0} (o : Option A) (r : Result A Trap) → or_unset o ≡ r → IfSome o (λ v. Ok v ≡ r)
if_read None r e = tt
if_read (Some v) r e = e

if_small : {A P Q : Type 0} (o : Option A) → (P → Q) → IfSome o (λ _. P) → IfSome o (λ _. Q)
if_small None so p = tt
if_small (Some v) so p = so p

unread : {A : Type 0} (decode : List ℕ → A) (o : Option A) (r : Result (List ℕ) Trap) → or_unset o ≡ seen decode r → o ≡ None → (bytes : List ℕ) → r ≡ Ok bytes → ⊥
unread decode None (Ok others) e none bytes read = cc
unread decode None (Err t) e none bytes read = cc
unread decode (Some v) r e none bytes read = cc

pub view-requires : goal.view-requires
view-requires g c = omega (arith, room_of _ _ _ _ _ _ _ c.self.invariant c.deref.ensures.value c.in-Some.ensures.placed, c.SIZE.ensures)

pub returns-in-Some-clause-value : goal.returns-in-Some-clause-value
returns-in-Some-clause-value g c =
    if_read c.get.result _ (read_value g.T.Scalar.decode _ _ _ _ _ c.args.ptr.0 g.T.Scalar.SIZE c.SIZE.result _ c.get.result c.self.view_is c.self.invariant c.deref.ensures.value c.in-Some.ensures.placed c.SIZE.ensures
    (c.get.ensures.value
    ∙ ap (λ cells. value_of g.T.Scalar.decode (part_of cells c.view.result.at g.T.Scalar.SIZE)) c.view.ensures.cells
    ∙ ap (λ at. value_of g.T.Scalar.decode (part_of c.self.inside.cells at g.T.Scalar.SIZE)) c.view.ensures.place))

pub returns-in-Some-clause-bytes : goal.returns-in-Some-clause-bytes
returns-in-Some-clause-bytes g c =
    let P : List Cell → Type 0 = λ cells. HoldBytes (part_of cells c.view.result.at g.T.Scalar.SIZE) in
    let Q : ℕ → Type 0 = λ at. HoldBytes (part_of c.self.inside.cells at g.T.Scalar.SIZE) in
    if_small c.get.result (λ held. read_small _ _ _ _ _ c.args.ptr.0 g.T.Scalar.SIZE c.SIZE.result c.in-Some.at c.self.view_is c.self.invariant c.deref.ensures.value c.in-Some.ensures.placed c.SIZE.ensures
    (subst Q c.view.ensures.place (subst P c.view.ensures.cells held))) c.get.ensures.bytes

pub returns-in-Some-clause-near : goal.returns-in-Some-clause-near
returns-in-Some-clause-near g c =
    if_any c.get.result (is_near _ _ _ _ _ c.args.ptr.0 c.SIZE.result c.args.behind c.in-Some.at c.self.view_is c.self.invariant c.deref.ensures.value c.in-Some.ensures.near)

pub returns-in-Some-clause-none : goal.returns-in-Some-clause-none
returns-in-Some-clause-none g c = λ none near bytes read.
    unread g.T.Scalar.decode c.get.result _ (read_value g.T.Scalar.decode _ _ _ _ _ c.args.ptr.0 g.T.Scalar.SIZE c.SIZE.result _ c.get.result c.self.view_is c.self.invariant c.deref.ensures.value c.in-Some.ensures.placed c.SIZE.ensures
    (c.get.ensures.value
    ∙ ap (λ cells. value_of g.T.Scalar.decode (part_of cells c.view.result.at g.T.Scalar.SIZE)) c.view.ensures.cells
    ∙ ap (λ at. value_of g.T.Scalar.decode (part_of c.self.inside.cells at g.T.Scalar.SIZE)) c.view.ensures.place)) none bytes read

pub returns-in-None-clause-none : goal.returns-in-None-clause-none
returns-in-None-clause-none g c = λ none near bytes read.
    none_near _ _ _ _ _ c.args.ptr.0 g.T.Scalar.SIZE c.SIZE.result c.args.behind c.self.view_is c.self.invariant c.deref.ensures.value c.SIZE.ensures c.in-None.ensures.near near bytes read
