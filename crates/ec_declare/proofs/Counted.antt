-- That counting keeps the numbers of what is declared.
use Rattle.std.proofs.Common.{◌≡◌, ℕ, zero, suc, ◌+◌, ◌-◌, Bool, true, false, List, [], ◌∷◌, ◌++◌, Option, Some, None, refl, sym, ap, ◌∙◌, append_assoc, append-nil}
use Rattle.ec_ctypes.specs.trees.Exprs.{DeclaratorList, no_declarators, declarators, DeclData, decl}
use Rattle.ec_ctypes.specs.trees.Stmts.{StmtData, stmt, StmtKindData, empty_stmt, expr_stmt, block_stmt, if_stmt, while_stmt, do_stmt, for_stmt, break_stmt, continue_stmt, return_stmt, goto_stmt, label_stmt, decl_stmt, emb_stmt, mark_stmt, StmtList, no_stmts, stmts, StmtOption, no_stmt, some_stmt}
use Rattle.ec_ctypes.specs.trees.Units.{ParamData, FuncData, TopData, include_top, directive_top, decl_top, func_top, mark_top}
use Rattle.ec_declare.specs.Counting.{CountData, none_so_far, kept_if, counted, count_items, count_decl, count_stmt, count_kind, count_stmts, count_stmt_option, count_params, count_body, count_function, count_top, count_tops}
use Rattle.ec_host_defs.specs.sections.Declared.{DeclaredData, Declared, declared_items, declared_by, declared_in, declared_in_kind, declared_in_all, declared_in_option, declared_params, declared_in_body, declared_function, declared_in_top, declared_in_tops, numbers_from}

abbrev count_all : Declared → CountData → CountData
count_all [] c = c
count_all (d ∷ ds) c = count_all ds (counted d.section d.is_function c)

counted_both : (ds es : Declared) (c : CountData) → count_all (ds ++ es) c ≡ count_all es (count_all ds c)
counted_both [] es c = refl
counted_both (d ∷ ds) es c = counted_both ds es (counted d.section d.is_function c)

joined : (ds es : Declared) (c x y : CountData) → x ≡ count_all ds c → y ≡ count_all es x → y ≡ count_all (ds ++ es) c
joined ds es c x y h k = k ∙ ap (count_all es) h ∙ sym (counted_both ds es c)

counted_items : (section : Bool) (ds : DeclaratorList) (c : CountData) → count_items section ds c ≡ count_all (declared_items section ds) c
counted_items section no_declarators c = refl
counted_items section (declarators d ds) c = counted_items section ds (counted section false c)

counted_decl : (d : DeclData) (c : CountData) → count_decl d c ≡ count_all (declared_by d) c
counted_decl (decl b items section line) c = counted_items section items c

mutual
  counted_stmt : (s : StmtData) (c : CountData) → count_stmt s c ≡ count_all (declared_in s) c
  counted_stmt (stmt line kind) c = counted_kind kind c

  counted_kind : (k : StmtKindData) (c : CountData) → count_kind k c ≡ count_all (declared_in_kind k) c
  counted_kind empty_stmt c = refl
  counted_kind (expr_stmt e) c = refl
  counted_kind (block_stmt ss) c = counted_stmts ss c
  counted_kind (if_stmt e s other) c = joined (declared_in s) (declared_in_option other) c (count_stmt s c) (count_stmt_option other (count_stmt s c)) (counted_stmt s c) (counted_option other (count_stmt s c))
  counted_kind (while_stmt e s) c = counted_stmt s c
  counted_kind (do_stmt s e) c = counted_stmt s c
  counted_kind (for_stmt x y z s) c = counted_stmt s c
  counted_kind break_stmt c = refl
  counted_kind continue_stmt c = refl
  counted_kind (return_stmt e) c = refl
  counted_kind (goto_stmt l) c = refl
  counted_kind (label_stmt l s) c = counted_stmt s c
  counted_kind (decl_stmt d) c = counted_decl d c
  counted_kind (emb_stmt n) c = refl
  counted_kind (mark_stmt opens) c = refl

  counted_stmts : (ss : StmtList) (c : CountData) → count_stmts ss c ≡ count_all (declared_in_all ss) c
  counted_stmts no_stmts c = refl
  counted_stmts (stmts s ss) c = joined (declared_in s) (declared_in_all ss) c (count_stmt s c) (count_stmts ss (count_stmt s c)) (counted_stmt s c) (counted_stmts ss (count_stmt s c))

  counted_option : (o : StmtOption) (c : CountData) → count_stmt_option o c ≡ count_all (declared_in_option o) c
  counted_option no_stmt c = refl
  counted_option (some_stmt s) c = counted_stmt s c

counted_params : (ps : List ParamData) (c : CountData) → count_params ps c ≡ count_all (declared_params ps) c
counted_params [] c = refl
counted_params (p ∷ ps) c = counted_params ps (counted p.section false c)

counted_body : (b : Option StmtList) (c : CountData) → count_body b c ≡ count_all (declared_in_body b) c
counted_body None c = refl
counted_body (Some ss) c = counted_stmts ss c

counted_function : (f : FuncData) (c : CountData) → count_function f c ≡ count_all (declared_function f) c
counted_function f c =
    let x = counted f.section true c in
    joined (declared_params f.params) (declared_in_body f.body) x (count_params f.params x) (count_body f.body (count_params f.params x)) (counted_params f.params x) (counted_body f.body (count_params f.params x))

counted_top : (t : TopData) (c : CountData) → count_top t c ≡ count_all (declared_in_top t) c
counted_top (include_top bytes) c = refl
counted_top (directive_top n) c = refl
counted_top (decl_top d) c = counted_decl d c
counted_top (func_top f) c = counted_function f c
counted_top (mark_top opens line) c = refl

counted_tops : (ts : List TopData) (c : CountData) → count_tops ts c ≡ count_all (declared_in_tops ts) c
counted_tops [] c = refl
counted_tops (t ∷ ts) c = joined (declared_in_top t) (declared_in_tops ts) c (count_top t c) (count_tops ts (count_top t c)) (counted_top t c) (counted_tops ts (count_top t c))

-- ---- the numbers

one_host : (n : ℕ) (ns : List ℕ) (test : DeclaredData → Bool) (d : DeclaredData) (ds : Declared) (t : Bool) → test d ≡ t → kept_if (test d) n ns ++ numbers_from (n + 1) test ds ≡ ns ++ numbers_from n test (d ∷ ds)
one_host n ns test d ds true t = rw t (append_assoc ns (n ∷ []) (numbers_from (n + 1) test ds))
one_host n ns test d ds false t = rw t refl

kept_hosts : (ds : Declared) (c : CountData) → (count_all ds c).hosts ≡ c.hosts ++ numbers_from c.next (λ d. d.section) ds
kept_hosts [] c = sym (append-nil c.hosts)
kept_hosts (d ∷ ds) c = kept_hosts ds (counted d.section d.is_function c) ∙ one_host c.next c.hosts (λ e. e.section) d ds d.section refl

kept_functions : (ds : Declared) (c : CountData) → (count_all ds c).functions ≡ c.functions ++ numbers_from c.next (λ d. d.is_function) ds
kept_functions [] c = sym (append-nil c.functions)
kept_functions (d ∷ ds) c = kept_functions ds (counted d.section d.is_function c) ∙ one_host c.next c.functions (λ e. e.is_function) d ds d.is_function refl

pub hosts_kept : (ts : List TopData) → (count_tops ts none_so_far).hosts ≡ numbers_from 0 (λ d. d.section) (declared_in_tops ts)
hosts_kept ts = ap (λ (c : CountData). c.hosts) (counted_tops ts none_so_far) ∙ kept_hosts (declared_in_tops ts) none_so_far

pub functions_kept : (ts : List TopData) → (count_tops ts none_so_far).functions ≡ numbers_from 0 (λ d. d.is_function) (declared_in_tops ts)
functions_kept ts = ap (λ (c : CountData). c.functions) (counted_tops ts none_so_far) ∙ kept_functions (declared_in_tops ts) none_so_far
