use Rattle.std.proofs.Common.{◌≡◌, ◌∙◌, ℕ, List, Some, is_some, ap, subst}
use Rattle.ec_typing_defs.specs.Tables.{find}
use Rattle.ec_typing_defs.specs.Worlds.{change, with_tag}
use Rattle.ec_typing_defs.specs.Expressions.{varchar_object, varchar_struct, varchar_tag}
use Rattle.ec_scopes.specs.Entries.{place_view}
use Rattle.ec_scopes.specs.Seen.{world_of, IsDone}
use Rattle.ec_scopes.proofs.Steps.{then_done, ask_then, pure_done}
use Rattle.ec_scopes.proofs.state.Checker.varchar_object.Goals as goal

pub returns : goal.returns
unfolding varchar_object
returns c =
    let at = place_view c.args.at in
    let mid = c.varchar_struct.new.self in
    let own : c.in_ok-own.own ≡ varchar_tag c.args.name.now = c.in_ok-own.ensures ∙ c.as_slice.ensures ∙ c.in_ok-tag.ensures in
    let here : c.as_slice-2.result.now ≡ varchar_tag c.args.name.now = c.as_slice-2.ensures ∙ c.in_ok-tag.ensures in
    let put : c.as_slice-3.result.now ≡ varchar_tag c.args.name.now = c.as_slice-3.ensures ∙ c.in_ok-tag.ensures in
    then_done _ _ (subst (λ (t : List ℕ). IsDone (varchar_struct at (Some t) c.args.length (world_of c.args.self.now)) c.args.self.now mid c.in_ok-k.k) own c.in_ok-k.ensures)
    (ask_then _ _ (c.is_some-before.ensures ∙ ap is_some (c.tag_here.ensures ∙ ap (λ t. find t (world_of mid).here.tags) here))
    (then_done _ _ (subst (λ (t : List ℕ). IsDone (change (with_tag t c.in_ok-k.k) (world_of mid)) mid c.put_tag.new.self tt) put c.in_ok-put_tag.ensures)
    (then_done _ _ c.demand.ensures (pure_done (ap Some c.struct_type.ensures)))))
