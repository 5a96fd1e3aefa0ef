use Rattle.std.proofs.Common.{◌∙◌, ◌∷◌, refl, sym, ap}
use Rattle.ec_typing_defs.specs.Programs.{know_function, put_outside}
use Rattle.ec_scopes.specs.Entries.{entry_view, named_view, outer_view}
use Rattle.ec_scopes.specs.Seen.{world_of, notes_of}
use Rattle.ec_scopes.proofs.Steps.{change_done}
use Rattle.ec_scopes.proofs.Views.{put-named, outer_push}
use Rattle.ec_scopes.proofs.state.Checker.know_outside.Goals as goal

pub returns-in-None : goal.returns-in-None
unfolding world_of notes_of know_function
returns-in-None c = change_done _ (λ i. record (world_of c.args.self.now) { outer = (ap outer_view c.in-None.ensures.1 ∙ sym (ap (λ ss. put_outside c.args.name.now (entry_view c.args.entry) (outer_view ss)) c.in-None.ensures.0)) i }) refl

pub returns-in_ok-push-in-Some : goal.returns-in_ok-push-in-Some
unfolding world_of notes_of know_function
returns-in_ok-push-in-Some c =
    let name = c.args.name.now in
    let rest = c.pop.new.self in
    let last = c.in-Some.scope in
    let scopes = ap outer_view c.in-Some.ensures ∙ outer_push rest last in
    let after = ap outer_view c.in_ok-push-in-Some.ensures.ok ∙ outer_push rest (record { names = c.put.new.self; tags = last.tags })
    ∙ (λ i. record { names = (ap (named_view entry_view) c.in_ok-_before-in-Some.ensures.ok ∙ put-named entry_view name c.args.entry last.names) i; tags = last.tags } ∷ outer_view rest)
    ∙ sym (ap (put_outside name (entry_view c.args.entry)) scopes) in
    change_done _ (λ i. record (world_of c.args.self.now) { outer = after i }) refl
