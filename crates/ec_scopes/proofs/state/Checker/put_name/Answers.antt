use Rattle.std.proofs.Common.{◌∙◌, refl, sym, ap}
use Rattle.ec_scopes.specs.Entries.{entry_view, named_view}
use Rattle.ec_scopes.specs.Seen.{world_of, notes_of}
use Rattle.ec_scopes.proofs.Views.{put-named, is_there}
use Rattle.ec_scopes.proofs.state.Checker.put_name.Goals as goal

pub returns : goal.returns
unfolding world_of notes_of
returns c = record {
  answer_is = c.in_ok-before.ensures.was ∙ sym (is_there entry_view c.args.name.now c.args.self.now.here.names);
  world_is = λ i. record (world_of c.args.self.now) { here = record { names = (ap (named_view entry_view) c.in_ok-before.ensures.ok ∙ put-named entry_view c.args.name.now c.args.entry c.args.self.now.here.names) i; tags = c.args.self.now.here.tags } };
  notes_is = refl;
}
