-- A program that can stand in a source, whose VARCHARs end in lengths and whose embedded statements are there, stands as the law on programs wants it.
use Rattle.std.proofs.Common.{◌≡◌, Bool, true, not, ◌&&◌, ◌||◌, List, [], ◌∷◌, Option, Some, None}
use Rattle.std.proofs.lemmas.Bool.{false≢true}
use Rattle.ec_base.specs.declared.line.Line.{Line}
use Rattle.ec_ctypes.specs.trees.Embedded.{EmbData}
use Rattle.ec_ctypes.specs.trees.Stmts.{StmtData, stmt, StmtKindData, empty_stmt, expr_stmt, block_stmt, if_stmt, while_stmt, do_stmt, for_stmt, break_stmt, continue_stmt, return_stmt, goto_stmt, label_stmt, decl_stmt, emb_stmt, mark_stmt, StmtList, no_stmts, stmts, StmtOption, no_stmt, some_stmt}
use Rattle.ec_ctypes.specs.trees.Units.{FuncData, TopData, include_top, directive_top, decl_top, func_top, mark_top, UnitData}
use Rattle.ec_language.proofs.Ends.{both}
use Rattle.ec_writing_defs.specs.Shapes.{is_plain_name, is_line, is_open, is_void_list}
use Rattle.ec_written_laws.specs.source.SourceShape.{is_source_expr, is_source_base, is_source_option, is_source_stmt, is_source_kind, is_source_else, are_source_items, is_source_item, is_item_alone, are_source_params, is_source_body, is_source_func, is_source_top, are_source_tops, is_source_shape}
use Rattle.ec_sim_program_laws.specs.program.Shape.{StandsAlone, KindStandsAlone, ItemsStand, ItemStands, OtherStands, BodyStands, TopStands, TopsStand}
use Rattle.ec_sim_program_laws.specs.standing.There.{StmtIsThere, KindIsThere, StmtsAreThere, OtherIsThere, BodyIsThere, TopIsThere, TopsAreThere}
use Rattle.ec_sim_program_laws.specs.standing.Varchars.{StmtHasLengths, KindHasLengths, StmtsHaveLengths, OtherHasLengths, BodyHasLengths, TopHasLengths, TopsHaveLengths}

module _ (es : List EmbData) where
  mutual
    alone : (s : StmtData) → is_source_stmt s ≡ true → StmtHasLengths s → StmtIsThere es s → StandsAlone es s
    alone (stmt line kind) h l t = kind_alone line kind (both (is_line line.0) (is_source_kind kind) h).1 l t

    kind_alone : (line : Line) (kind : StmtKindData) → is_source_kind kind ≡ true → KindHasLengths kind → KindIsThere es line kind → KindStandsAlone es line kind
    kind_alone line empty_stmt h l t = tt
    kind_alone line (expr_stmt e) h l t = l
    kind_alone line (block_stmt ss) h l t = items ss h l t
    kind_alone line (if_stmt e s other) h l t =
        let p = both (is_source_expr e) (is_source_stmt s && is_source_else (is_open s) other) h in
        let q = both (is_source_stmt s) (is_source_else (is_open s) other) p.1 in
        (l.0, alone s q.0 l.1 t.0, other_stands (is_open s) other q.1 l.2 t.1)
    kind_alone line (while_stmt e s) h l t = (l.0, alone s (both (is_source_expr e) (is_source_stmt s) h).1 l.1 t)
    kind_alone line (do_stmt s e) h l t = (alone s (both (is_source_stmt s) (is_source_expr e) h).0 l.0 t, l.1)
    kind_alone line (for_stmt x y z s) h l t =
        (l.0, l.1, l.2, alone s (both (is_source_option x && (is_source_option y && is_source_option z)) (is_source_stmt s) h).1 l.3 t)
    kind_alone line break_stmt h l t = tt
    kind_alone line continue_stmt h l t = tt
    kind_alone line (return_stmt e) h l t = l
    kind_alone line (goto_stmt x) h l t = tt
    kind_alone line (label_stmt x s) h l t = alone s (both (is_plain_name x) (is_source_stmt s) h).1 l t
    kind_alone line (decl_stmt d) h l t = absurd (false≢true h)
    kind_alone line (emb_stmt n) h l t = t
    kind_alone line (mark_stmt opens) h l t = tt

    items : (ss : StmtList) → are_source_items ss ≡ true → StmtsHaveLengths ss → StmtsAreThere es ss → ItemsStand es ss
    items no_stmts h l t = tt
    items (stmts s ss) h l t = let p = both (is_source_item s) (are_source_items ss) h in (item s p.0 l.0 t.0, items ss p.1 l.1 t.1)

    item : (s : StmtData) → is_source_item s ≡ true → StmtHasLengths s → StmtIsThere es s → ItemStands es s
    item (stmt line (decl_stmt d)) h l t = l
    item (stmt line (mark_stmt opens)) h l t = tt
    item (stmt line kind) h l t = kind_alone line kind (both (is_line line.0) (is_item_alone kind || is_source_kind kind) h).1 l t

    other_stands : (opens : Bool) (o : StmtOption) → is_source_else opens o ≡ true → OtherHasLengths o → OtherIsThere es o → OtherStands es o
    other_stands opens no_stmt h l t = tt
    other_stands opens (some_stmt s) h l t = alone s (both (not opens) (is_source_stmt s) h).1 l t

  body_stands : (b : Option StmtList) → is_source_body b ≡ true → BodyHasLengths b → BodyIsThere es b → BodyStands es b
  body_stands None h l t = tt
  body_stands (Some ss) h l t = items ss h l t

  func_stands : (f : FuncData) → is_source_func f ≡ true → TopHasLengths (func_top f) → TopIsThere es (func_top f) → TopStands es (func_top f)
  func_stands f h l t =
      let p = both (is_line f.line.0) ((is_source_base f.base && is_plain_name f.name) && ((are_source_params f.params && not (is_void_list f.params)) && is_source_body f.body)) h in
      let q = both (is_source_base f.base && is_plain_name f.name) ((are_source_params f.params && not (is_void_list f.params)) && is_source_body f.body) p.1 in
      let r = both (are_source_params f.params && not (is_void_list f.params)) (is_source_body f.body) q.1 in
      (l.0, l.1, body_stands f.body r.1 l.2 t)

  top_stands : (x : TopData) → is_source_top x ≡ true → TopHasLengths x → TopIsThere es x → TopStands es x
  top_stands (include_top bytes) h l t = tt
  top_stands (directive_top n) h l t = t
  top_stands (decl_top d) h l t = l
  top_stands (func_top f) h l t = func_stands f h l t
  top_stands (mark_top opens line) h l t = tt

  tops_stand : (xs : List TopData) → are_source_tops xs ≡ true → TopsHaveLengths xs → TopsAreThere es xs → TopsStand es xs
  tops_stand [] h l t = tt
  tops_stand (x ∷ xs) h l t = let p = both (is_source_top x) (are_source_tops xs) h in (top_stands x p.0 l.0 t.0, tops_stand xs p.1 l.1 t.1)

pub unit_stands : (u : UnitData) → is_source_shape u ≡ true → TopsHaveLengths u.tops → TopsAreThere u.embs u.tops → TopsStand u.embs u.tops
unit_stands u h l t = tops_stand u.embs u.tops h l t
