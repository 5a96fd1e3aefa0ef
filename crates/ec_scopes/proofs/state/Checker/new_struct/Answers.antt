use Rattle.std.proofs.Common.{◌∙◌, refl, sym}
use Rattle.ec_typing_defs.specs.Worlds.{new_struct}
use Rattle.ec_scopes.specs.Seen.{world_of, notes_of}
use Rattle.ec_scopes.proofs.Closings.{infos-length}
use Rattle.ec_scopes.proofs.state.Checker.new_struct.Goals as goal

pub returns : goal.returns
unfolding world_of notes_of new_struct
returns c = record {
  answer_is = c.in_ok-k.ensures.number ∙ sym (infos-length c.args.self.now.structs.0 c.args.self.now.structs.1);
  world_is = λ i. record (world_of c.args.self.now) { structs = c.in_ok-k.ensures.infos i; closed = c.in_ok-k.ensures.closed i };
  notes_is = refl;
}
