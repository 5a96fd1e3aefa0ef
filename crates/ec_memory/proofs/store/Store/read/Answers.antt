-- The value of the bytes, or that one of them is unset.
use Rattle.std.proofs.Common.{◌∙◌, ap, subst, ℕ, List, Some, None, arith}
use Rattle.ec_memory_defs.specs.Cells.{Cell, part_of, value_of}
use Rattle.ec_bytes.specs.Scalars.{HoldBytes}
use Rattle.ec_memory.proofs.Calls.{rising_of, room_of, read_value, read_small}
use Rattle.ec_memory.proofs.store.Store.read.Goals as goal

pub reach-requires : goal.reach-requires
reach-requires g c = rising_of _ _ _ _ c.self.invariant c.deref.ensures.value

pub view-requires : goal.view-requires
view-requires g c = omega (arith, room_of _ _ _ _ _ _ _ c.self.invariant c.deref.ensures.value c.in_ok-at.ensures, c.SIZE.ensures)

pub returns-in-Some-clause-value : goal.returns-in-Some-clause-value
returns-in-Some-clause-value g c =
    read_value g.T.Scalar.decode _ _ _ _ _ c.args.ptr.0 g.T.Scalar.SIZE c.SIZE.result _ (Some c.in-Some.value) c.self.view_is c.self.invariant c.deref.ensures.value c.in_ok-at.ensures c.SIZE.ensures
    (c.in-Some.ensures.value
    ∙ ap (λ cells. value_of g.T.Scalar.decode (part_of cells c.view.result.at g.T.Scalar.SIZE)) c.view.ensures.cells
    ∙ ap (λ at. value_of g.T.Scalar.decode (part_of c.self.inside.cells at g.T.Scalar.SIZE)) c.view.ensures.place)

pub returns-in-Some-clause-bytes : goal.returns-in-Some-clause-bytes
returns-in-Some-clause-bytes g c =
    let P : List Cell → Type 0 = λ cells. HoldBytes (part_of cells c.view.result.at g.T.Scalar.SIZE) in
    let Q : ℕ → Type 0 = λ at. HoldBytes (part_of c.self.inside.cells at g.T.Scalar.SIZE) in
    read_small _ _ _ _ _ c.args.ptr.0 g.T.Scalar.SIZE c.SIZE.result c.in_ok-at.at c.self.view_is c.self.invariant c.deref.ensures.value c.in_ok-at.ensures c.SIZE.ensures
    (subst Q c.view.ensures.place (subst P c.view.ensures.cells c.in-Some.ensures.bytes))

pub returns-in-None-clause-value : goal.returns-in-None-clause-value
returns-in-None-clause-value g c =
    read_value g.T.Scalar.decode _ _ _ _ _ c.args.ptr.0 g.T.Scalar.SIZE c.SIZE.result _ None c.self.view_is c.self.invariant c.deref.ensures.value c.in_ok-at.ensures c.SIZE.ensures
    (c.in-None.ensures.value
    ∙ ap (λ cells. value_of g.T.Scalar.decode (part_of cells c.view.result.at g.T.Scalar.SIZE)) c.view.ensures.cells
    ∙ ap (λ at. value_of g.T.Scalar.decode (part_of c.self.inside.cells at g.T.Scalar.SIZE)) c.view.ensures.place)
