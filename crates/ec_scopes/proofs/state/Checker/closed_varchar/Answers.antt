use Rattle.std.proofs.Common.{refl}
use Rattle.ec_scopes.specs.Seen.{world_of, notes_of}
use Rattle.ec_scopes.proofs.state.Checker.closed_varchar.Goals as goal

pub returns : goal.returns
unfolding world_of notes_of
returns c = record {
  answer_is = λ i. (c.in_ok-made.ensures.number i, c.in_ok-made.ensures.measure i);
  world_is = λ i. record (world_of c.args.self.now) { structs = c.in_ok-made.ensures.infos i; closed = c.in_ok-made.ensures.closed i };
  notes_is = refl;
}
