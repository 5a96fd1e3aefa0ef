use Rattle.std.proofs.Common.{◌∙◌, sym, ap}
use Rattle.std.specs.Prelude.{option_map}
use Rattle.ec_scopes.specs.Entries.{entry_view, outer_view}
use Rattle.ec_scopes.specs.Seen.{world_of}
use Rattle.ec_typing_defs.specs.Worlds.{or_else, look_up_in}
use Rattle.ec_scopes.proofs.Views.{find-named}
use Rattle.ec_scopes.proofs.state.Checker.look_up.Goals as goal

pub returns-in-Some : goal.returns-in-Some
unfolding world_of
returns-in-Some c = sym (ap (λ o. or_else o (look_up_in (outer_view c.args.self.now.outer) c.args.name.now)) (find-named entry_view c.args.name.now c.args.self.now.here.names ∙ ap (option_map entry_view) (sym c.in-Some.ensures)))

pub returns-in-None : goal.returns-in-None
unfolding world_of
returns-in-None c = c.name_in.ensures ∙ ap (λ ss. look_up_in (outer_view ss) c.args.name.now) c.as_slice.ensures ∙ sym (ap (λ o. or_else o (look_up_in (outer_view c.args.self.now.outer) c.args.name.now)) (find-named entry_view c.args.name.now c.args.self.now.here.names ∙ ap (option_map entry_view) (sym c.in-None.ensures)))
