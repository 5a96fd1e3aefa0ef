-- The statement that a call is written for stores into something, if it stores.
use Rattle.std.proofs.Common.{◌≡◌, ◌∙◌, ℕ, List, [], ◌∷◌, ◌++◌, map, Option, Some, None, refl, sym, subst}
use Rattle.ec_arguments.specs.Arguments.{TextArg}
use Rattle.ec_ctypes.specs.trees.Embedded.{TextArgData, word_arg, host_arg, host_with_indicator, InputData, host_input, const_input, InsData, listed_ins, area_ins, OutsData, no_outs, listed_outs, area_outs, PartData, bytes_part, host_part, EmbData, EmbKindData, connect, set_connection, disconnect, autocommit, trans, server_text, declare_cursor, open_cursor, execute_immediate, prepare, execute, deallocate, allocate_area, free_area, get_count, get_items, set_count, set_items, whenever, include_sqlca}
use Rattle.ec_host_defs.specs.Bound as bound
use Rattle.ec_host_defs.specs.Bound.{pairs_of, text_expr, text_option_expr, input_places, part_places, host_places, ins_places}
use Rattle.ec_host_defs.specs.Leaves.{Pair}
use Rattle.ec_host_defs.specs.Programs.{ProgramData}
use Rattle.ec_host_defs.specs.Uses.{output_role, outs_uses, kind_uses}
use Rattle.ec_typing_defs.specs.Worlds.{Place, World}
use Rattle.ec_meaning_defs.specs.resolved.Resolved.{Exp}
use Rattle.ec_resolving_defs.specs.Storage.{Storage}
use Rattle.ec_direct_defs.specs.Leaves.{Leaf, leaf_at}
use Rattle.ec_direct_defs.specs.Statements as direct
use Rattle.ec_direct_defs.specs.Statements.{Around, Cursor, Statement, into_leaves, host_leaves, input, part, text_arg, text_option, sent, outputs, reference_at, indicator_at, first_of, get_leaves, set_inputs, gets_count, sets_count, gets_items, sets_items, executed, statement_of}
use Rattle.ec_sim_world_laws.specs.place.References.{tables_of}
use Rattle.ec_sim_statement_laws.specs.statement.Calls.{HasLeaves, HasTargets}
use Rattle.ec_sim_statement_laws.proofs.argument_lemmas.OwnLeaves.{own_pairs}
use Rattle.ec_sim_host_laws.specs.host.Hosts.{StatementStands}
use Rattle.ec_sim_host_laws.specs.fit.Fits.{AreSome}
use Rattle.ec_sim_host_laws.specs.pointer.Pointers.{HasHosts, OutputsAreSome}
use Rattle.ec_sim_host_laws.proofs.pointer_lemmas.Basics.{none_not, some_is}
use Rattle.ec_sim_host_laws.proofs.pointer_lemmas.Pointed.{HostStands, host_stands}
use Rattle.ec_sim_host_laws.proofs.pointer_lemmas.Taken.{Here}
use Rattle.ec_sim_host_laws.proofs.pointer_lemmas.UsesStand.{UsesStand, statement_uses, option_first, parts_first, ins_first}

by_statement : {a b : Statement Exp} → Some a ≡ Some b → HasTargets a → HasTargets b
by_statement e h = subst HasTargets (some_is e) h

-- some leaves, and more behind them
some_leaves : (f : Pair → Leaf Exp) (qs : List Pair) (more : List (Leaf Exp)) → AreSome qs → HasLeaves (into_leaves (map f qs ++ more))
some_leaves f [] more h = absurd h
some_leaves f (q ∷ qs) more h = tt

module _ (at : Place) (s : Storage) (w z : World) (hosts functions : List ℕ) (g : Here w z hosts functions) where
  abbrev p : ProgramData
  p = tables_of z hosts functions

  -- ---- what is left behind parts

  input_left : (i : InputData) (x : Around) → (input_places p i x.denoted).left ≡ (input p i x).left.denoted
  input_left (host_input h) x = refl
  input_left (const_input bytes) x = refl

  inputs_left : (is : List InputData) (x : Around) → (bound.each_of (input_places p) is x.denoted).left ≡ (direct.each_of (input p) is x).left.denoted
  inputs_left [] x = refl
  inputs_left (i ∷ is) x = (λ j. (bound.each_of (input_places p) is (input_left i x j)).left) ∙ inputs_left is (input p i x).left

  parts_left : (ps : List PartData) (x : Around) → (bound.each_of (part_places p) ps x.denoted).left ≡ (direct.each_of (part p) ps x).left.denoted
  parts_left [] x = refl
  parts_left (bytes_part bytes ∷ ps) x = parts_left ps x
  parts_left (host_part a ∷ ps) x = parts_left ps (host_leaves p a x).left

  text_left : (a : TextArgData) (x : Around) → (text_expr p a x.denoted).left ≡ (text_arg p a x).left.denoted
  text_left (word_arg bytes) x = refl
  text_left (host_arg e) x = refl
  text_left (host_with_indicator e i) x = refl

  option_left : (a : Option TextArgData) (x : Around) → (text_option_expr p a x.denoted).left ≡ (text_option p a x).left.denoted
  option_left None x = refl
  option_left (Some a) x = text_left a x

  ins_left : (ins : InsData) (x : Around) → (ins_places p ins x.denoted).left ≡ (sent p ins x).left.denoted
  ins_left (listed_ins is) x = inputs_left is x
  ins_left (area_ins a) x = text_left a x

  -- ---- outputs

  outputs_have : (os : OutsData) (x : Around) → HasHosts os → UsesStand at w p (outs_uses os) x.denoted → HasLeaves (outputs p os x)
  outputs_have no_outs x h u = tt
  outputs_have (listed_outs []) x h u = absurd h
  outputs_have (listed_outs (a ∷ hs)) x h u = of_host (host_stands at s w z hosts functions g output_role refl a x.denoted u.0)
    where
      of_host : HostStands at s w z hosts functions g output_role a x.denoted → HasLeaves (outputs p (listed_outs (a ∷ hs)) x)
      of_host k = subst (λ qs. HasLeaves (into_leaves (map (leaf_at p.structs (reference_at 0 x) (indicator_at a x)) qs ++ (direct.each_of (host_leaves p) hs (host_leaves p a x).left).made)))
          (sym (own_pairs p a x.denoted))
          (some_leaves (leaf_at p.structs (reference_at 0 x) (indicator_at a x)) (pairs_of p a x.denoted) (direct.each_of (host_leaves p) hs (host_leaves p a x).left).made k.are_some)
  outputs_have (area_outs a) x h u = tt

  -- with the first of these, if there is one
  first_has : {B : Type 0} (bs : List B) (f : B → Statement Exp) → ((b : B) → HasTargets (f b)) → {y : Statement Exp} → first_of p bs f ≡ Some y → HasTargets y
  first_has [] f h e = none_not e
  first_has (b ∷ bs) f h e = by_statement e (h b)

  kind_has : (k : EmbKindData) (e : EmbData) (c : Cursor) (own : TextArg Exp) (x : Around) → OutputsAreSome (record e { kind = k })
      → UsesStand at w p (kind_uses (record e { kind = k })) x.denoted → (y : Statement Exp) → executed p (record e { kind = k }) c own x ≡ Some y → HasTargets y
  kind_has (connect target name user password) e c own x h u y is = by_statement is tt
  kind_has (set_connection name) e c own x h u y is = by_statement is tt
  kind_has (disconnect name) e c own x h u y is = by_statement is tt
  kind_has (autocommit on) e c own x h u y is = by_statement is tt
  kind_has (trans text) e c own x h u y is = by_statement is tt
  kind_has (server_text parts os) e c own x h u y is =
      by_statement is (outputs_have os (direct.each_of (part p) parts x).left h
      (subst (λ ds. UsesStand at w p (outs_uses os) ds) (parts_left parts x) (parts_first at w p parts (outs_uses os) x.denoted u).1))
  kind_has (declare_cursor name parts prepared) e c own x h u y is = none_not is
  kind_has (open_cursor name ins) e c own x h u y is = by_statement is tt
  kind_has (execute_immediate text) e c own x h u y is = by_statement is tt
  kind_has (prepare name text) e c own x h u y is = by_statement is tt
  kind_has (execute name ins os) e c own x h u y is =
      by_statement is (outputs_have os (sent p ins x).left h
      (subst (λ ds. UsesStand at w p (outs_uses os) ds) (ins_left ins x) (ins_first at w p ins (outs_uses os) x.denoted u).1))
  kind_has (deallocate name) e c own x h u y is = by_statement is tt
  kind_has (allocate_area a) e c own x h u y is = by_statement is tt
  kind_has (free_area a) e c own x h u y is = by_statement is tt
  kind_has (get_count a host) e c own x h u y is =
      first_has (host_leaves p host (text_arg p a x).left).made (λ l. gets_count (text_arg p a x).made l) (λ l. tt) is
  kind_has (get_items a index items) e c own x h u y is =
      let i = input p index (text_arg p a x).left in
      first_has i.made (λ b. gets_items (text_arg p a x).made b (direct.each_of (get_leaves p) items i.left).made) (λ b. tt) is
  kind_has (set_count a value) e c own x h u y is =
      first_has (input p value (text_arg p a x).left).made (λ i. sets_count (text_arg p a x).made i) (λ i. tt) is
  kind_has (set_items a index items) e c own x h u y is =
      let i = input p index (text_arg p a x).left in
      first_has i.made (λ b. sets_items (text_arg p a x).made b (direct.each_of (set_inputs p) items i.left).made) (λ b. tt) is
  kind_has (whenever condition action) e c own x h u y is = none_not is
  kind_has include_sqlca e c own x h u y is = none_not is

  pub statement_has : (e : EmbData) (c : Cursor) (x : Around) → OutputsAreSome e → StatementStands at s w p e c x → (y : Statement Exp)
      → statement_of p e c x ≡ Some y → HasTargets y
  statement_has e c x h stands y is = kind_has e.kind e c (text_option p e.at x).made (text_option p e.at x).left h
      (subst (λ ds. UsesStand at w p (kind_uses e) ds) (option_left e.at x)
      (option_first at w p e.at (kind_uses e) x.denoted (statement_uses at w p s e.kind e x stands.references stands.without_fault)).1) y is
