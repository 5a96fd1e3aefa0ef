use Rattle.std.proofs.Common.{◌≡◌, ◌∙◌, [], ap, sym, map, slice_get}
use Rattle.ec_ctypes.specs.views.Embedded.{emb_view}
use Rattle.ec_embedded_rules.specs.parts.Cursors.{cursors_from}
use Rattle.ec_embedded_rules.proofs.parts_lemmas.CursorTables.{opened_there, opened_below, not_opened}
use Rattle.ec_embedded_rules.proofs.parts.program.Statements.declared_above.Goals as goal

pub returns-then-k-n : goal.returns-then-k-n
returns-then-k-n c = λ name key.
    let is : c.self.inside.cursors ≡ cursors_from 0 (map emb_view c.args.self.now) [] = c.self.invariant.table ∙ ap (λ es. cursors_from 0 (map emb_view es) []) c.self.view_is in
    c.statement_at.ensures ∙ ap (λ es. slice_get (map emb_view es) c.in-Some.k.now) c.self.view_is
    ∙ sym (opened_there (map emb_view c.args.self.now) c.self.inside.cursors c.args.key.now name c.args.n c.in-Some.k.now is key c.in-Some.ensures c.if-k-n.true)

pub returns-else-k-n : goal.returns-else-k-n
returns-else-k-n c = λ name key.
    let is : c.self.inside.cursors ≡ cursors_from 0 (map emb_view c.args.self.now) [] = c.self.invariant.table ∙ ap (λ es. cursors_from 0 (map emb_view es) []) c.self.view_is in
    opened_below (map emb_view c.args.self.now) c.self.inside.cursors c.args.key.now name c.args.n c.in-Some.k.now is key c.in-Some.ensures c.if-k-n.false

pub returns-in-None : goal.returns-in-None
returns-in-None c = λ name key.
    let is : c.self.inside.cursors ≡ cursors_from 0 (map emb_view c.args.self.now) [] = c.self.invariant.table ∙ ap (λ es. cursors_from 0 (map emb_view es) []) c.self.view_is in
    not_opened (map emb_view c.args.self.now) c.self.inside.cursors c.args.key.now name c.args.n is key c.in-None.ensures
