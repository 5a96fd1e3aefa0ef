-- What is written of expressions, declarations and what a function begins with stands on one line.
use Rattle.std.proofs.Common.{◌≡◌, ℕ, zero, suc, Bool, true, false, nat_lt, List, [], ◌∷◌, ◌++◌, Option, Some, None, refl, ap, ◌∙◌}
use Rattle.ec_ctypes.specs.trees.Exprs.{ExprData, integer, character, string, identifier, unary, binary, assign, bump, call, call_other, index, member, arrow, cast, size_type, size_expr, ExprList, no_exprs, exprs, BaseData, words, varchar, tagged, struct_base, DimData, open_dim, dim, DimList, no_dims, dims, InitData, one, many, InitList, no_inits, inits, InitOption, no_init, some_init, DeclaratorData, declarator, DeclaratorList, no_declarators, declarators, DeclData, decl, DeclList, no_decls, decls}
use Rattle.ec_ctypes.specs.trees.Tokens.{TokData}
use Rattle.ec_ctypes.specs.trees.Units.{ParamData}
use Rattle.ec_language.specs.Letters.{Text}
use Rattle.ec_language.specs.Productions.{or_rank}
use Rattle.ec_writing_defs.specs.Chunks.{the, blank, line_end, line_mark, Chunks, line_behind}
use Rattle.ec_writing_defs.specs.Expressions.{Level, ranked, tighter, rank_of, height, level, in_parens, at_place, postfixed, before_dot, more_word_chunks, word_chunks, star_chunks, stars_behind, typed, bumped_chunks, arguments, struct_head, expr_chunks, list_chunks, more_chunks, base_chunks, members_chunks, dim_chunks, dims_chunks, init_chunks, inits_chunks, more_inits_chunks, initializer_chunks, declarator_chunks, more_declarators_chunks, declarators_chunks, decl_chunks}
use Rattle.ec_writing_defs.specs.Programs.{option_chunks, return_chunks, head_chunks, param_name, param_chunks, more_params_chunks, params_inside, params_chunks}

pub line_append : (n : ℕ) (cs ds : Chunks) → line_behind n (cs ++ ds) ≡ line_behind (line_behind n cs) ds
line_append n [] ds = refl
line_append n (the t ∷ cs) ds = line_append n cs ds
line_append n (blank ∷ cs) ds = line_append n cs ds
line_append n (line_end ∷ cs) ds = line_append (suc n) cs ds
line_append n (line_mark m ∷ cs) ds = line_append m cs ds

-- it stands on one line
pub record OneLine (cs : Chunks) : Type 0 where
  pub is : (n : ℕ) → line_behind n cs ≡ n

-- what stands behind it begins on that line
pub behind_it : {cs : Chunks} (p : OneLine cs) (ds : Chunks) (n : ℕ) → line_behind n (cs ++ ds) ≡ line_behind n ds
behind_it {cs} p ds n = line_append n cs ds ∙ ap (λ m. line_behind m ds) (p.is n)

nothing : OneLine []
nothing = record { is = λ n. refl }

pub tok : {t : TokData} {cs : Chunks} → OneLine cs → OneLine (the t ∷ cs)
tok p = record { is = p.is }

space : {cs : Chunks} → OneLine cs → OneLine (blank ∷ cs)
space p = record { is = p.is }

pub both : {cs ds : Chunks} → OneLine cs → OneLine ds → OneLine (cs ++ ds)
both {cs} {ds} p q = record { is = λ n. behind_it p ds n ∙ q.is n }

pub parens_one : {cs : Chunks} → OneLine cs → OneLine (in_parens cs)
parens_one p = both (tok p) (tok nothing)

height_one : (b : Bool) {cs : Chunks} → OneLine cs → OneLine (elim b [ true ↦ in_parens cs | false ↦ cs ])
height_one true p = parens_one p
height_one false p = p

place_one : (place : Level) (e : ExprData) {cs : Chunks} → OneLine cs → OneLine (at_place place e cs)
place_one place e p = height_one (nat_lt (height (level e)) (height place)) p

dot_one : (e : ExprData) {cs : Chunks} → OneLine cs → OneLine (before_dot e cs)
dot_one (integer n t) p = parens_one p
dot_one (character c) p = place_one postfixed (character c) p
dot_one (string s) p = place_one postfixed (string s) p
dot_one (identifier x) p = place_one postfixed (identifier x) p
dot_one (unary op a) p = place_one postfixed (unary op a) p
dot_one (binary op a b) p = place_one postfixed (binary op a b) p
dot_one (assign op a b) p = place_one postfixed (assign op a b) p
dot_one (bump before up a) p = place_one postfixed (bump before up a) p
dot_one (call f es) p = place_one postfixed (call f es) p
dot_one (call_other f es) p = place_one postfixed (call_other f es) p
dot_one (index a b) p = place_one postfixed (index a b) p
dot_one (member a m) p = place_one postfixed (member a m) p
dot_one (arrow a m) p = place_one postfixed (arrow a m) p
dot_one (cast b stars a) p = place_one postfixed (cast b stars a) p
dot_one (size_type b stars) p = place_one postfixed (size_type b stars) p
dot_one (size_expr a) p = place_one postfixed (size_expr a) p

more_words_one : (ws : List Text) → OneLine (more_word_chunks ws)
more_words_one [] = nothing
more_words_one (w ∷ ws) = space (tok (more_words_one ws))

words_one : (ws : List Text) → OneLine (word_chunks ws)
words_one [] = nothing
words_one (w ∷ ws) = tok (more_words_one ws)

pub stars_one : (k : ℕ) → OneLine (star_chunks k)
stars_one zero = nothing
stars_one (suc k) = tok (stars_one k)

stars_behind_one : (k : ℕ) → OneLine (stars_behind k)
stars_behind_one zero = nothing
stars_behind_one (suc k) = space (stars_one (suc k))

type_one : {base : Chunks} (stars : ℕ) → OneLine base → OneLine (typed base stars)
type_one stars p = both (tok p) (both (stars_behind_one stars) (tok nothing))

bump_one : (before up : Bool) {cs : Chunks} → OneLine cs → OneLine (bumped_chunks before up cs)
bump_one true up p = tok p
bump_one false up p = both p (tok nothing)

arguments_one : {cs : Chunks} → OneLine cs → OneLine (arguments cs)
arguments_one p = both (tok p) (tok nothing)

struct_one : (tag : Option Text) → OneLine (struct_head tag)
struct_one None = tok nothing
struct_one (Some tag) = tok (space (tok nothing))

mutual
  pub expr_one : (e : ExprData) → OneLine (expr_chunks e)
  expr_one (integer n t) = tok nothing
  expr_one (character c) = tok nothing
  expr_one (string s) = tok nothing
  expr_one (identifier x) = tok nothing
  expr_one (unary op a) = tok (place_one postfixed a (expr_one a))
  expr_one (binary op a b) = both (place_one (ranked (rank_of op)) a (expr_one a)) (space (tok (space (place_one (tighter (rank_of op)) b (expr_one b)))))
  expr_one (assign op a b) = both (place_one (ranked or_rank) a (expr_one a)) (space (tok (space (expr_one b))))
  expr_one (bump before up a) = bump_one before up (place_one postfixed a (expr_one a))
  expr_one (call f es) = tok (arguments_one (list_one es))
  expr_one (call_other f es) = both (place_one postfixed f (expr_one f)) (arguments_one (list_one es))
  expr_one (index a b) = both (place_one postfixed a (expr_one a)) (both (tok (expr_one b)) (tok nothing))
  expr_one (member a m) = both (dot_one a (expr_one a)) (tok (tok nothing))
  expr_one (arrow a m) = both (place_one postfixed a (expr_one a)) (tok (tok nothing))
  expr_one (cast b stars a) = both (type_one stars (base_one b)) (place_one postfixed a (expr_one a))
  expr_one (size_type b stars) = tok (type_one stars (base_one b))
  expr_one (size_expr a) = tok (space (place_one postfixed a (expr_one a)))

  list_one : (es : ExprList) → OneLine (list_chunks es)
  list_one no_exprs = nothing
  list_one (exprs e es) = both (expr_one e) (more_one es)

  more_one : (es : ExprList) → OneLine (more_chunks es)
  more_one no_exprs = nothing
  more_one (exprs e es) = both (tok (space (expr_one e))) (more_one es)

  pub base_one : (b : BaseData) → OneLine (base_chunks b)
  base_one (words ws) = words_one ws
  base_one varchar = nothing
  base_one (tagged tag) = struct_one (Some tag)
  base_one (struct_base tag ms) = both (struct_one tag) (both (space (tok (members_one ms))) (space (tok nothing)))

  members_one : (ms : DeclList) → OneLine (members_chunks ms)
  members_one no_decls = nothing
  members_one (decls m ms) = both (space (decl_one m)) (members_one ms)

  dim_one : (d : DimData) → OneLine (dim_chunks d)
  dim_one open_dim = nothing
  dim_one (dim e) = place_one (ranked or_rank) e (expr_one e)

  pub dims_one : (ds : DimList) → OneLine (dims_chunks ds)
  dims_one no_dims = nothing
  dims_one (dims d ds) = both (both (tok (dim_one d)) (tok nothing)) (dims_one ds)

  init_one : (i : InitData) → OneLine (init_chunks i)
  init_one (one e) = expr_one e
  init_one (many is) = both (tok (inits_one is)) (tok nothing)

  inits_one : (is : InitList) → OneLine (inits_chunks is)
  inits_one no_inits = nothing
  inits_one (inits i is) = both (init_one i) (more_inits_one is)

  more_inits_one : (is : InitList) → OneLine (more_inits_chunks is)
  more_inits_one no_inits = nothing
  more_inits_one (inits i is) = both (tok (space (init_one i))) (more_inits_one is)

  initializer_one : (i : InitOption) → OneLine (initializer_chunks i)
  initializer_one no_init = nothing
  initializer_one (some_init i) = space (tok (space (init_one i)))

  declarator_one : (d : DeclaratorData) → OneLine (declarator_chunks d)
  declarator_one (declarator stars name ds i) = both (stars_one stars) (both (tok (dims_one ds)) (initializer_one i))

  more_declarators_one : (ds : DeclaratorList) → OneLine (more_declarators_chunks ds)
  more_declarators_one no_declarators = nothing
  more_declarators_one (declarators d ds) = both (tok (space (declarator_one d))) (more_declarators_one ds)

  declarators_one : (ds : DeclaratorList) → OneLine (declarators_chunks ds)
  declarators_one no_declarators = nothing
  declarators_one (declarators d ds) = both (space (declarator_one d)) (more_declarators_one ds)

  pub decl_one : (d : DeclData) → OneLine (decl_chunks d)
  decl_one (decl b ds section line) = both (base_one b) (both (declarators_one ds) (tok nothing))

-- ---- parts of statements and functions

pub option_one : (e : Option ExprData) → OneLine (option_chunks e)
option_one None = nothing
option_one (Some e) = expr_one e

pub return_one : (e : Option ExprData) → OneLine (return_chunks e)
return_one None = nothing
return_one (Some e) = space (expr_one e)

pub head_one : (a b c : Option ExprData) → OneLine (head_chunks a b c)
head_one a b c =
    both (tok (both (option_one a) (tok nothing)))
    (both (space (option_one b)) (both (tok (space (option_one c))) (tok nothing)))

param_name_one : (stars : ℕ) (name : Option Text) → OneLine (param_name stars name)
param_name_one stars None = stars_behind_one stars
param_name_one stars (Some x) = both (space (stars_one stars)) (tok nothing)

param_one : (q : ParamData) → OneLine (param_chunks q)
param_one q = both (base_one q.base) (both (param_name_one q.stars q.name) (dims_one q.dims))

more_params_one : (qs : List ParamData) → OneLine (more_params_chunks qs)
more_params_one [] = nothing
more_params_one (q ∷ qs) = both (tok (space (param_one q))) (more_params_one qs)

inside_one : (qs : List ParamData) → OneLine (params_inside qs)
inside_one [] = tok nothing
inside_one (q ∷ qs) = both (param_one q) (more_params_one qs)

pub params_one : (qs : List ParamData) → OneLine (params_chunks qs)
params_one qs = both (tok (inside_one qs)) (tok nothing)
