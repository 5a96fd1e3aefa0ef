-- What two phases keep, a third has.
use Rattle.std.proofs.Common.{◌≡◌, ℕ, true, false, ◌&&◌, List, [], ◌∷◌, refl, Option, Some, None, Ok}
use Rattle.ec_ctypes.specs.trees.Checked.{MarkData, TypedData}
use Rattle.ec_ctypes.specs.trees.Exprs.{ExprData, integer, character, string, identifier, unary, binary, assign, bump, call, call_other, index, member, arrow, cast, size_type, size_expr, ExprList, no_exprs, exprs, BaseData, words, varchar, tagged, struct_base, DimData, open_dim, dim, DimList, no_dims, dims, InitData, one, many, InitList, no_inits, inits, InitOption, no_init, some_init, DeclaratorData, declarator, DeclaratorList, no_declarators, declarators, DeclData, decl, DeclList, no_decls, decls}
use Rattle.ec_ctypes.specs.trees.Stmts.{StmtData, stmt, StmtKindData, empty_stmt, expr_stmt, block_stmt, if_stmt, while_stmt, do_stmt, for_stmt, break_stmt, continue_stmt, return_stmt, goto_stmt, label_stmt, decl_stmt, emb_stmt, mark_stmt, StmtList, no_stmts, stmts, StmtOption, no_stmt, some_stmt}
use Rattle.ec_ctypes.specs.trees.Units.{ParamData, FuncData, TopData, include_top, directive_top, decl_top, func_top, mark_top, UnitData}
use Rattle.ec_language.specs.Letters.{Text}
use Rattle.ec_language.proofs.Ends.{both}
use Rattle.ec_host_defs.specs.sections.Answers.{hosts_answer}
use Rattle.ec_typing_defs.specs.Answers.{check_answer}
use Rattle.ec_written_laws.specs.source.Kept.{Kept, written, keeps_tag, keeps_expr, keeps_exprs, keeps_type, keeps_base, keeps_members, keeps_decl, keeps_dim, keeps_dims, keeps_init, keeps_inits, keeps_initializer, keeps_declarator, keeps_declarators, keeps_option, keeps_stmt, keeps_kind, keeps_stmts, keeps_else, keeps_param, keeps_params, keeps_body, keeps_func, keeps_top, keeps_tops, is_kept}
use Rattle.ec_written_laws.specs.kept.Phases.{by_sections, by_checks}
use Rattle.ec_written_laws.proofs.kept_lemmas.Rules.{join}
use Rattle.ec_written_laws.proofs.kept_lemmas.Programs.{checked_kept}
use Rattle.ec_written_laws.proofs.kept_lemmas.Sections.{unit_kept}

-- Whatever passes both tests passes the third.
pub record Follows (k l m : Kept) : Type 0 where
  pub calls : k.other_calls ≡ true → l.other_calls ≡ true → m.other_calls ≡ true
  pub types : k.varchar_types ≡ true → l.varchar_types ≡ true → m.varchar_types ≡ true
  pub tags : (t : Text) → k.tag t ≡ true → l.tag t ≡ true → m.tag t ≡ true

module _ (k l m : Kept) (f : Follows k l m) where
  tag_both : (x : Option Text) → keeps_tag k x ≡ true → keeps_tag l x ≡ true → keeps_tag m x ≡ true
  tag_both None h g = refl
  tag_both (Some t) h g = f.tags t h g

  mutual
    of_expr : (x : ExprData) → keeps_expr k x ≡ true → keeps_expr l x ≡ true → keeps_expr m x ≡ true
    of_expr (integer v t) h g = refl
    of_expr (character c) h g = refl
    of_expr (string s) h g = refl
    of_expr (identifier x) h g = refl
    of_expr (unary op a) h g = of_expr a h g
    of_expr (binary op a b) h g = let p1 = both (keeps_expr k a) (keeps_expr k b) h in let q1 = both (keeps_expr l a) (keeps_expr l b) g in join (of_expr a p1.0 q1.0) (of_expr b p1.1 q1.1)
    of_expr (assign o a b) h g = let p1 = both (keeps_expr k a) (keeps_expr k b) h in let q1 = both (keeps_expr l a) (keeps_expr l b) g in join (of_expr a p1.0 q1.0) (of_expr b p1.1 q1.1)
    of_expr (bump before up a) h g = of_expr a h g
    of_expr (call c es) h g = of_exprs es h g
    of_expr (call_other a es) h g = let p = both k.other_calls (keeps_expr k a && keeps_exprs k es) h in let q = both l.other_calls (keeps_expr l a && keeps_exprs l es) g in let r = both (keeps_expr k a) (keeps_exprs k es) p.1 in let s = both (keeps_expr l a) (keeps_exprs l es) q.1 in join (f.calls p.0 q.0) (join (of_expr a r.0 s.0) (of_exprs es r.1 s.1))
    of_expr (index a b) h g = let p1 = both (keeps_expr k a) (keeps_expr k b) h in let q1 = both (keeps_expr l a) (keeps_expr l b) g in join (of_expr a p1.0 q1.0) (of_expr b p1.1 q1.1)
    of_expr (member a n) h g = of_expr a h g
    of_expr (arrow a n) h g = of_expr a h g
    of_expr (cast b stars a) h g = let p1 = both (keeps_type k b) (keeps_expr k a) h in let q1 = both (keeps_type l b) (keeps_expr l a) g in join (of_type b p1.0 q1.0) (of_expr a p1.1 q1.1)
    of_expr (size_type b stars) h g = of_type b h g
    of_expr (size_expr a) h g = of_expr a h g

    of_exprs : (x : ExprList) → keeps_exprs k x ≡ true → keeps_exprs l x ≡ true → keeps_exprs m x ≡ true
    of_exprs no_exprs h g = refl
    of_exprs (exprs e es) h g = let p1 = both (keeps_expr k e) (keeps_exprs k es) h in let q1 = both (keeps_expr l e) (keeps_exprs l es) g in join (of_expr e p1.0 q1.0) (of_exprs es p1.1 q1.1)

    of_type : (x : BaseData) → keeps_type k x ≡ true → keeps_type l x ≡ true → keeps_type m x ≡ true
    of_type varchar h g = f.types h g
    of_type (words ws) h g = refl
    of_type (tagged t) h g = f.tags t h g
    of_type (struct_base t ms) h g = let p1 = both (keeps_tag k t) (keeps_members k ms) h in let q1 = both (keeps_tag l t) (keeps_members l ms) g in join (tag_both t p1.0 q1.0) (of_members ms p1.1 q1.1)

    of_base : (x : BaseData) → keeps_base k x ≡ true → keeps_base l x ≡ true → keeps_base m x ≡ true
    of_base varchar h g = refl
    of_base (words ws) h g = refl
    of_base (tagged t) h g = f.tags t h g
    of_base (struct_base t ms) h g = let p1 = both (keeps_tag k t) (keeps_members k ms) h in let q1 = both (keeps_tag l t) (keeps_members l ms) g in join (tag_both t p1.0 q1.0) (of_members ms p1.1 q1.1)

    of_members : (x : DeclList) → keeps_members k x ≡ true → keeps_members l x ≡ true → keeps_members m x ≡ true
    of_members no_decls h g = refl
    of_members (decls d ds) h g = let p1 = both (keeps_decl k d) (keeps_members k ds) h in let q1 = both (keeps_decl l d) (keeps_members l ds) g in join (of_decl d p1.0 q1.0) (of_members ds p1.1 q1.1)

    of_decl : (x : DeclData) → keeps_decl k x ≡ true → keeps_decl l x ≡ true → keeps_decl m x ≡ true
    of_decl (decl b ds section line) h g = let p1 = both (keeps_base k b) (keeps_declarators k ds) h in let q1 = both (keeps_base l b) (keeps_declarators l ds) g in join (of_base b p1.0 q1.0) (of_declarators ds p1.1 q1.1)

    of_dim : (x : DimData) → keeps_dim k x ≡ true → keeps_dim l x ≡ true → keeps_dim m x ≡ true
    of_dim open_dim h g = refl
    of_dim (dim e) h g = of_expr e h g

    of_dims : (x : DimList) → keeps_dims k x ≡ true → keeps_dims l x ≡ true → keeps_dims m x ≡ true
    of_dims no_dims h g = refl
    of_dims (dims d ds) h g = let p1 = both (keeps_dim k d) (keeps_dims k ds) h in let q1 = both (keeps_dim l d) (keeps_dims l ds) g in join (of_dim d p1.0 q1.0) (of_dims ds p1.1 q1.1)

    of_init : (x : InitData) → keeps_init k x ≡ true → keeps_init l x ≡ true → keeps_init m x ≡ true
    of_init (one e) h g = of_expr e h g
    of_init (many is) h g = of_inits is h g

    of_inits : (x : InitList) → keeps_inits k x ≡ true → keeps_inits l x ≡ true → keeps_inits m x ≡ true
    of_inits no_inits h g = refl
    of_inits (inits i is) h g = let p1 = both (keeps_init k i) (keeps_inits k is) h in let q1 = both (keeps_init l i) (keeps_inits l is) g in join (of_init i p1.0 q1.0) (of_inits is p1.1 q1.1)

    of_initializer : (x : InitOption) → keeps_initializer k x ≡ true → keeps_initializer l x ≡ true → keeps_initializer m x ≡ true
    of_initializer no_init h g = refl
    of_initializer (some_init i) h g = of_init i h g

    of_declarator : (x : DeclaratorData) → keeps_declarator k x ≡ true → keeps_declarator l x ≡ true → keeps_declarator m x ≡ true
    of_declarator (declarator stars name ds i) h g = let p1 = both (keeps_dims k ds) (keeps_initializer k i) h in let q1 = both (keeps_dims l ds) (keeps_initializer l i) g in join (of_dims ds p1.0 q1.0) (of_initializer i p1.1 q1.1)

    of_declarators : (x : DeclaratorList) → keeps_declarators k x ≡ true → keeps_declarators l x ≡ true → keeps_declarators m x ≡ true
    of_declarators no_declarators h g = refl
    of_declarators (declarators d ds) h g = let p1 = both (keeps_declarator k d) (keeps_declarators k ds) h in let q1 = both (keeps_declarator l d) (keeps_declarators l ds) g in join (of_declarator d p1.0 q1.0) (of_declarators ds p1.1 q1.1)

  of_option : (x : Option ExprData) → keeps_option k x ≡ true → keeps_option l x ≡ true → keeps_option m x ≡ true
  of_option None h g = refl
  of_option (Some e) h g = of_expr e h g

  mutual
    of_stmt : (x : StmtData) → keeps_stmt k x ≡ true → keeps_stmt l x ≡ true → keeps_stmt m x ≡ true
    of_stmt (stmt line kind) h g = of_kind kind h g

    of_kind : (x : StmtKindData) → keeps_kind k x ≡ true → keeps_kind l x ≡ true → keeps_kind m x ≡ true
    of_kind empty_stmt h g = refl
    of_kind (expr_stmt e) h g = of_expr e h g
    of_kind (block_stmt ss) h g = of_stmts ss h g
    of_kind (if_stmt e s other) h g = let p1 = both (keeps_expr k e) (keeps_stmt k s && (keeps_else k other)) h in let q1 = both (keeps_expr l e) (keeps_stmt l s && (keeps_else l other)) g in join (of_expr e p1.0 q1.0) (let p4 = both (keeps_stmt k s) (keeps_else k other) p1.1 in let q4 = both (keeps_stmt l s) (keeps_else l other) q1.1 in join (of_stmt s p4.0 q4.0) (of_else other p4.1 q4.1))
    of_kind (while_stmt e s) h g = let p1 = both (keeps_expr k e) (keeps_stmt k s) h in let q1 = both (keeps_expr l e) (keeps_stmt l s) g in join (of_expr e p1.0 q1.0) (of_stmt s p1.1 q1.1)
    of_kind (do_stmt s e) h g = let p1 = both (keeps_stmt k s) (keeps_expr k e) h in let q1 = both (keeps_stmt l s) (keeps_expr l e) g in join (of_stmt s p1.0 q1.0) (of_expr e p1.1 q1.1)
    of_kind (for_stmt x y z s) h g = let p = both (keeps_option k x && (keeps_option k y && keeps_option k z)) (keeps_stmt k s) h in let q = both (keeps_option l x && (keeps_option l y && keeps_option l z)) (keeps_stmt l s) g in let hh = p.0 in let gg = q.0 in join (let p2 = both (keeps_option k x) (keeps_option k y && (keeps_option k z)) hh in let q2 = both (keeps_option l x) (keeps_option l y && (keeps_option l z)) gg in join (of_option x p2.0 q2.0) (let p4 = both (keeps_option k y) (keeps_option k z) p2.1 in let q4 = both (keeps_option l y) (keeps_option l z) q2.1 in join (of_option y p4.0 q4.0) (of_option z p4.1 q4.1))) (of_stmt s p.1 q.1)
    of_kind break_stmt h g = refl
    of_kind continue_stmt h g = refl
    of_kind (return_stmt e) h g = of_option e h g
    of_kind (goto_stmt n) h g = refl
    of_kind (label_stmt n s) h g = of_stmt s h g
    of_kind (decl_stmt d) h g = of_decl d h g
    of_kind (emb_stmt n) h g = refl
    of_kind (mark_stmt opens) h g = refl

    of_stmts : (x : StmtList) → keeps_stmts k x ≡ true → keeps_stmts l x ≡ true → keeps_stmts m x ≡ true
    of_stmts no_stmts h g = refl
    of_stmts (stmts s ss) h g = let p1 = both (keeps_stmt k s) (keeps_stmts k ss) h in let q1 = both (keeps_stmt l s) (keeps_stmts l ss) g in join (of_stmt s p1.0 q1.0) (of_stmts ss p1.1 q1.1)

    of_else : (x : StmtOption) → keeps_else k x ≡ true → keeps_else l x ≡ true → keeps_else m x ≡ true
    of_else no_stmt h g = refl
    of_else (some_stmt s) h g = of_stmt s h g

  of_param : (q : ParamData) → keeps_param k q ≡ true → keeps_param l q ≡ true → keeps_param m q ≡ true
  of_param q h g =
      let a = both (keeps_type k q.base) (keeps_dims k q.dims) h in
      let b = both (keeps_type l q.base) (keeps_dims l q.dims) g in
      join (of_type q.base a.0 b.0) (of_dims q.dims a.1 b.1)

  of_params : (qs : List ParamData) → keeps_params k qs ≡ true → keeps_params l qs ≡ true → keeps_params m qs ≡ true
  of_params [] h g = refl
  of_params (q ∷ qs) h g =
      let a = both (keeps_param k q) (keeps_params k qs) h in
      let b = both (keeps_param l q) (keeps_params l qs) g in
      join (of_param q a.0 b.0) (of_params qs a.1 b.1)

  of_body : (x : Option StmtList) → keeps_body k x ≡ true → keeps_body l x ≡ true → keeps_body m x ≡ true
  of_body None h g = refl
  of_body (Some ss) h g = of_stmts ss h g

  of_func : (x : FuncData) → keeps_func k x ≡ true → keeps_func l x ≡ true → keeps_func m x ≡ true
  of_func x h g =
      let a = both (keeps_type k x.base) (keeps_params k x.params && keeps_body k x.body) h in
      let b = both (keeps_type l x.base) (keeps_params l x.params && keeps_body l x.body) g in
      let c = both (keeps_params k x.params) (keeps_body k x.body) a.1 in
      let d = both (keeps_params l x.params) (keeps_body l x.body) b.1 in
      join (of_type x.base a.0 b.0) (join (of_params x.params c.0 d.0) (of_body x.body c.1 d.1))

  of_top : (t : TopData) → keeps_top k t ≡ true → keeps_top l t ≡ true → keeps_top m t ≡ true
  of_top (include_top bytes) h g = refl
  of_top (directive_top n) h g = refl
  of_top (decl_top d) h g = of_decl d h g
  of_top (func_top x) h g = of_func x h g
  of_top (mark_top opens line) h g = refl

  of_tops : (ts : List TopData) → keeps_tops k ts ≡ true → keeps_tops l ts ≡ true → keeps_tops m ts ≡ true
  of_tops [] h g = refl
  of_tops (t ∷ ts) h g =
      let a = both (keeps_top k t) (keeps_tops k ts) h in
      let b = both (keeps_top l t) (keeps_tops l ts) g in
      join (of_top t a.0 b.0) (of_tops ts a.1 b.1)

  pub both_kept : (u : UnitData) → is_kept k u ≡ true → is_kept l u ≡ true → is_kept m u ≡ true
  both_kept u h g = of_tops u.tops h g

-- ---- the phases

pub phases_kept : (u : UnitData) (hosts : List ℕ) (handlers : List MarkData) (t : TypedData) → hosts_answer u ≡ Ok hosts → check_answer false u hosts handlers ≡ Ok t → is_kept written u ≡ true
phases_kept u hosts handlers t e c =
    both_kept by_sections by_checks written (record { calls = λ a b. b; types = λ a b. a; tags = λ t a b. b }) u (unit_kept u hosts e) (checked_kept false u hosts handlers t c)
