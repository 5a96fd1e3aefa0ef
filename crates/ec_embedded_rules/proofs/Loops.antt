-- Loops over references.
use Rattle.std.proofs.Common.{◌≡◌, ◌∙◌, ℕ, ◌+◌, ◌<◌, List, ◌++◌, length, drop, map, get_or, Option, ap, sym}
use Rattle.ec_language.specs.First.{Violation}
use Rattle.ec_typing_defs.specs.statement_parts.References.{all_names, names_in}
use Rattle.ec_embedded_rules.specs.declared.parts.gathering.Reference.{Reference}
use Rattle.ec_embedded_rules.specs.parts.Views.{reference_view}
use Rattle.ec_typing_defs.specs.Worlds.{Place, Out, World, chain}
use Rattle.ec_typing_defs.specs.Embedded.{reference_rule, members_rule, references_rule, denoted_in}
use Rattle.ec_typing_defs.specs.Operands.{OperandData}
use Rattle.ec_scopes.specs.declared.state.Checker.{Checker}
use Rattle.ec_scopes.specs.Seen.{world_of, notes_of, IsDone}
use Rattle.ec_scopes.proofs.Loops.{drop_item}
use Rattle.ec_scopes.proofs.Steps.{Goes, goes_step, goes_from}
use Rattle.ec_embedded_rules.proofs.Denoting.{denoted_both}

pub names_step : (w : World) (rs : List Reference) (i : ℕ) (r : Reference) (ns next old : List (Option ℕ)) → i < length rs → r ≡ get_or rs i r
    → next ≡ ns ++ denoted_in w (names_in (reference_view r).value)
    → ns ++ denoted_in w (all_names (map reference_view (drop i rs))) ≡ old
    → next ++ denoted_in w (all_names (map reference_view (drop (i + 1) rs))) ≡ old
names_step w rs i r ns next old lt is n h =
    let rest = all_names (map reference_view (drop (i + 1) rs)) in
    ap (λ l. l ++ denoted_in w rest) n ∙ denoted_both w ns (names_in (reference_view r).value) rest
    ∙ sym (ap (λ l. ns ++ denoted_in w (all_names (map reference_view l))) (drop_item rs i r lt is)) ∙ h

pub references_step : {whole : Out (Unit {0})} {old : Option Violation} {now mid next : Checker} (at : Place) (rs : List Reference) (i : ℕ) (r : Reference) (o : OperandData)
    → i < length rs → r ≡ get_or rs i r
    → Goes whole old (references_rule at (map reference_view (drop i rs)) (world_of now)) (notes_of now) (λ u. u)
    → IsDone (reference_rule at (reference_view r).value (world_of now)) now mid o
    → IsDone (members_rule at (reference_view r).is_host o.type (world_of mid)) mid next tt
    → Goes whole old (references_rule at (map reference_view (drop (i + 1) rs)) (world_of next)) (notes_of next) (λ u. u)
references_step {whole} {old} {now} {mid} {next} at rs i r o lt is g p q =
    let rest = references_rule at (map reference_view (drop (i + 1) rs)) in
    let one = reference_view r in
    goes_step (members_rule at one.is_host o.type) (λ _. rest) (λ u. u)
    (goes_step (reference_rule at one.value) (λ a. chain (members_rule at one.is_host a.type) (λ _. rest)) (λ u. u)
    (goes_from (ap (λ xs. references_rule at (map reference_view xs) (world_of now)) (drop_item rs i r lt is)) g) p) q
