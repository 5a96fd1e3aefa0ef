use Rattle.std.proofs.Common.{◌≡◌, ◌∙◌, Bool, not, sym, ap, subst}
use Rattle.ec_base.specs.declared.fault.FaultKind.TheVariants.{F10}
use Rattle.ec_typing_defs.specs.Worlds.{demand}
use Rattle.ec_typing_defs.specs.Expressions.{member_named}
use Rattle.ec_scopes.specs.Entries.{place_view, type_view, named_view}
use Rattle.ec_scopes.specs.Seen.{world_of, IsDone}
use Rattle.ec_scopes.proofs.Steps.{then_done, pure_done}
use Rattle.ec_scopes.proofs.Views.{is_there, put-named}
use Rattle.ec_walk.proofs.members.member_named.Goals as goal

pub returns : goal.returns
unfolding member_named
returns c =
    let mid = c.complete_rule-complete.new.checker in
    then_done _ _ c.within_rule.ensures
    (then_done _ _ c.complete_rule-complete.ensures
    (then_done _ _ (subst (λ (b : Bool). IsDone (demand (place_view c.args.at) F10 (not b) (world_of mid)) mid c.demand.new.self tt) (c.in_ok-before.ensures.was ∙ sym (is_there type_view c.args.name.now c.args.members.now)) c.demand.ensures)
    (then_done _ _ c.free_name.ensures
    (pure_done (ap (named_view type_view) c.in_ok-before.ensures.ok ∙ put-named type_view c.args.name.now c.complete_rule-complete.result c.args.members.now)))))
