-- What is written of expressions and declarations has the written shape, on each line.
use Rattle.std.proofs.Common.{◌≡◌, ℕ, Bool, true, false, not, ◌&&◌, ◌||◌, List, [], ◌∷◌, refl, ap, Option, Some, None, eq-eqb}
use Rattle.std.specs.Prelude.{codes, ◌==◌}
use Rattle.std.proofs.lemmas.Bool.{false≢true}
use Rattle.ec_ctypes.specs.trees.Exprs.{ExprData, integer, character, string, identifier, unary, binary, assign, bump, call, call_other, index, member, arrow, cast, size_type, size_expr, ExprList, no_exprs, exprs, BaseData, words, varchar, tagged, struct_base, DimData, open_dim, dim, DimList, no_dims, dims, InitData, one, many, InitList, no_inits, inits, InitOption, no_init, some_init, DeclaratorData, declarator, DeclaratorList, no_declarators, declarators, DeclData, decl, DeclList, no_decls, decls}
use Rattle.ec_language.specs.CText.{is_word}
use Rattle.ec_language.specs.Keywords.{is_name}
use Rattle.ec_language.specs.Letters.{Text, is_digit, is_word_start, is_word_byte, each, same_word}
use Rattle.ec_language.specs.Tokens.{is_left_out_word}
use Rattle.ec_language.proofs.Ends.{both}
use Rattle.ec_writing_defs.specs.Shapes.{is_plain_name, is_free_name, is_assignable, is_tag, is_tag_option, is_line, is_written_expr, are_written_exprs, is_written_base, are_written_members, is_written_member, is_written_dim, are_written_dims, is_written_init, are_written_inits, is_written_initializer, is_written_declarator, are_written_declarators, is_written_decl, is_written_option, is_written_name}
use Rattle.ec_written_laws.specs.source.SourceShape.{is_source_expr, are_source_exprs, is_source_base, are_source_members, is_source_member, is_source_dim, are_source_dims, is_source_init, are_source_inits, is_source_initializer, is_source_declarator, are_source_declarators, is_source_decl, is_source_option}
use Rattle.ec_written_laws.specs.source.Kept.{written, keeps_tag, keeps_expr, keeps_exprs, keeps_type, keeps_base, keeps_members, keeps_decl, keeps_dim, keeps_dims, keeps_init, keeps_inits, keeps_initializer, keeps_declarator, keeps_declarators, keeps_option}
use Rattle.ec_expansion_defs.specs.Declarations.{at_line, joined_decls, varchar_tag, outer_dims, last_dim, varchar_struct, varchar_decl, written_expr, written_exprs, written_base, written_members, written_member, varchar_members_of, written_dim, written_dims, written_init, written_inits, written_initializer, written_declarator, written_declarators, varchar_objects, written_decl, written_option}

pub join : {x y : Bool} → x ≡ true → y ≡ true → (x && y) ≡ true
join p q = λ i. p i && q i

pub same_line : (n : ℕ) → (n == n) ≡ true
same_line n = eq-eqb n n refl

-- ---- tags

tag_is : (t : Text) → is_plain_name t ≡ true → not (same_word t (codes "EXEC")) ≡ true → is_tag t ≡ true
tag_is t h k = join h k

tag_option_is : (t : Option Text) → is_written_name t ≡ true → keeps_tag written t ≡ true → is_tag_option t ≡ true
tag_option_is None h k = refl
tag_option_is (Some t) h k = tag_is t h k

-- the tag of a VARCHAR
varchar_tag_is : (name : Text) → is_plain_name name ≡ true → is_tag (varchar_tag name) ≡ true
varchar_tag_is name h = join (join (bytes name (both (is_word name) (not (is_left_out_word name) && is_name name) h).0) refl) refl
  where
    bytes : (name : Text) → is_word name ≡ true → each is_word_byte name ≡ true
    bytes [] e = refl
    bytes (b ∷ name) e = let p = both (is_word_start b) (each is_word_byte name) e in join (ap (λ x. x || is_digit b) p.0) p.1

-- ---- lists of members

abbrev some_decls : DeclList → Bool
some_decls no_decls = false
some_decls (decls d ds) = true

struct_is : (n : ℕ) (t : Option Text) (ms : DeclList) → is_tag_option t ≡ true → some_decls ms ≡ true → are_written_members n ms ≡ true → is_written_base n (struct_base t ms) ≡ true
struct_is n t no_decls h s k = absurd (false≢true s)
struct_is n t (decls m ms) h s k = join h k

members_joined : (n : ℕ) (ds es : DeclList) → are_written_members n ds ≡ true → are_written_members n es ≡ true → are_written_members n (joined_decls ds es) ≡ true
members_joined n no_decls es h k = k
members_joined n (decls d ds) es h k = let p = both (is_written_member n d) (are_written_members n ds) h in join p.0 (members_joined n ds es p.1 k)

some_joined : (ds es : DeclList) → some_decls ds ≡ true → some_decls (joined_decls ds es) ≡ true
some_joined no_decls es h = absurd (false≢true h)
some_joined (decls d ds) es h = refl

-- ---- VARCHAR

outer_are : (n : ℕ) (ds : DimList) → are_written_dims n ds ≡ true → are_written_dims n (outer_dims ds) ≡ true
outer_are n no_dims h = refl
outer_are n (dims d no_dims) h = refl
outer_are n (dims d (dims e es)) h = let p = both (is_written_dim n d) (are_written_dims n (dims e es)) h in join p.0 (outer_are n (dims e es) p.1)

last_is : (n : ℕ) (ds : DimList) → are_written_dims n ds ≡ true → are_written_dims n (last_dim ds) ≡ true
last_is n no_dims h = refl
last_is n (dims d no_dims) h = h
last_is n (dims d (dims e es)) h = last_is n (dims e es) (both (is_written_dim n d) (are_written_dims n (dims e es)) h).1

varchar_struct_is : (n : ℕ) (t : Option Text) (length : DimList) → is_tag_option t ≡ true → are_written_dims n length ≡ true → is_written_base n (varchar_struct n t length) ≡ true
varchar_struct_is n t length h k = join h (join (join (same_line n) refl) (join (join (same_line n) (join refl (join (join refl (join k refl)) refl))) refl))

varchar_is : (n : ℕ) (t : Option Text) (stars : ℕ) (name : Text) (ds : DimList) (i : InitOption) → is_tag_option t ≡ true → is_plain_name name ≡ true → are_written_dims n ds ≡ true → is_written_initializer n i ≡ true
    → is_written_decl n (varchar_decl n t stars name ds i) ≡ true
varchar_is n t stars name ds i h k d e = join (same_line n) (join (varchar_struct_is n t (last_dim ds) h (last_is n ds d)) (join (join k (join (outer_are n ds d) e)) refl))

varchar_member_is : (n : ℕ) (stars : ℕ) (name : Text) (ds : DimList) (i : InitOption) → is_plain_name name ≡ true → are_written_dims n ds ≡ true → is_written_initializer n i ≡ true
    → is_written_member n (varchar_decl n None stars name ds i) ≡ true
varchar_member_is n stars name ds i k d e = varchar_is n None stars name ds i refl k d e

-- ---- by the shape of the source

module _ (n : ℕ) where
  mutual
    pub expr_is : (e : ExprData) → is_source_expr e ≡ true → keeps_expr written e ≡ true → is_written_expr n (written_expr n e) ≡ true
    expr_is (integer v t) h k = h
    expr_is (character c) h k = h
    expr_is (string s) h k = h
    expr_is (identifier x) h k = h
    expr_is (unary op a) h k = expr_is a h k
    expr_is (binary op a b) h k =
        let p = both (is_source_expr a) (is_source_expr b) h in
        let q = both (keeps_expr written a) (keeps_expr written b) k in
        join (expr_is a p.0 q.0) (expr_is b p.1 q.1)
    expr_is (assign o a b) h k =
        let r = both (is_assignable o) (is_source_expr a && is_source_expr b) h in
        let p = both (is_source_expr a) (is_source_expr b) r.1 in
        let q = both (keeps_expr written a) (keeps_expr written b) k in
        join r.0 (join (expr_is a p.0 q.0) (expr_is b p.1 q.1))
    expr_is (bump before up a) h k = expr_is a h k
    expr_is (call f es) h k = let p = both (is_free_name f) (are_source_exprs es) h in join p.0 (exprs_are es p.1 k)
    expr_is (call_other f es) h k = absurd (false≢true k)
    expr_is (index a b) h k =
        let p = both (is_source_expr a) (is_source_expr b) h in
        let q = both (keeps_expr written a) (keeps_expr written b) k in
        join (expr_is a p.0 q.0) (expr_is b p.1 q.1)
    expr_is (member a m) h k = let p = both (is_plain_name m) (is_source_expr a) h in join p.0 (expr_is a p.1 k)
    expr_is (arrow a m) h k = let p = both (is_plain_name m) (is_source_expr a) h in join p.0 (expr_is a p.1 k)
    expr_is (cast b stars a) h k =
        let p = both (is_source_base b) (is_source_expr a) h in
        let q = both (keeps_type written b) (keeps_expr written a) k in
        join (type_is b p.0 q.0) (expr_is a p.1 q.1)
    expr_is (size_type b stars) h k = type_is b h k
    expr_is (size_expr a) h k = expr_is a h k

    pub exprs_are : (es : ExprList) → are_source_exprs es ≡ true → keeps_exprs written es ≡ true → are_written_exprs n (written_exprs n es) ≡ true
    exprs_are no_exprs h k = refl
    exprs_are (exprs e es) h k =
        let p = both (is_source_expr e) (are_source_exprs es) h in
        let q = both (keeps_expr written e) (keeps_exprs written es) k in
        join (expr_is e p.0 q.0) (exprs_are es p.1 q.1)

    pub type_is : (b : BaseData) → is_source_base b ≡ true → keeps_type written b ≡ true → is_written_base n (written_base n b) ≡ true
    type_is (words []) h k = absurd (false≢true h)
    type_is (words (w ∷ ws)) h k = h
    type_is varchar h k = absurd (false≢true k)
    type_is (tagged t) h k = tag_is t h k
    type_is (struct_base t no_decls) h k = absurd (false≢true h)
    type_is (struct_base t (decls m ms)) h k =
        let p = both (is_written_name t) (is_source_member m && are_source_members ms) h in
        let a = both (is_source_member m) (are_source_members ms) p.1 in
        let q = both (keeps_tag written t) (keeps_decl written m && keeps_members written ms) k in
        let b = both (keeps_decl written m) (keeps_members written ms) q.1 in
        let first = member_is m a.0 b.0 in
        struct_is n t (joined_decls (written_member n m) (written_members n ms)) (tag_option_is t p.0 q.0) (some_joined (written_member n m) (written_members n ms) first.0) (members_joined n (written_member n m) (written_members n ms) first.1 (members_are ms a.1 b.1))

    members_are : (ms : DeclList) → are_source_members ms ≡ true → keeps_members written ms ≡ true → are_written_members n (written_members n ms) ≡ true
    members_are no_decls h k = refl
    members_are (decls m ms) h k =
        let a = both (is_source_member m) (are_source_members ms) h in
        let b = both (keeps_decl written m) (keeps_members written ms) k in
        members_joined n (written_member n m) (written_members n ms) (member_is m a.0 b.0).1 (members_are ms a.1 b.1)

    -- a member is written as one or more
    member_is : (m : DeclData) → is_source_member m ≡ true → keeps_decl written m ≡ true → (some_decls (written_member n m) ≡ true) × (are_written_members n (written_member n m) ≡ true)
    member_is (decl b no_declarators section line) h k = absurd (false≢true h)
    member_is (decl varchar (declarators d ds) section line) h k =
        let p = both (is_line line.0) (is_source_declarator d && are_source_declarators ds) h in
        (refl, varchar_members_are (declarators d ds) p.1 k)
    member_is (decl (words ws) (declarators d ds) section line) h k =
        let p = both (is_line line.0) (is_source_base (words ws) && (is_source_declarator d && are_source_declarators ds)) h in
        let a = both (is_source_base (words ws)) (is_source_declarator d && are_source_declarators ds) p.1 in
        let q = both (keeps_base written (words ws)) (keeps_declarators written (declarators d ds)) k in
        (refl, join (join (same_line n) (join (type_is (words ws) a.0 q.0) (declarators_are (declarators d ds) a.1 q.1))) refl)
    member_is (decl (tagged t) (declarators d ds) section line) h k =
        let p = both (is_line line.0) (is_source_base (tagged t) && (is_source_declarator d && are_source_declarators ds)) h in
        let a = both (is_source_base (tagged t)) (is_source_declarator d && are_source_declarators ds) p.1 in
        let q = both (keeps_base written (tagged t)) (keeps_declarators written (declarators d ds)) k in
        (refl, join (join (same_line n) (join (type_is (tagged t) a.0 q.0) (declarators_are (declarators d ds) a.1 q.1))) refl)
    member_is (decl (struct_base t ms) (declarators d ds) section line) h k =
        let p = both (is_line line.0) (is_source_base (struct_base t ms) && (is_source_declarator d && are_source_declarators ds)) h in
        let a = both (is_source_base (struct_base t ms)) (is_source_declarator d && are_source_declarators ds) p.1 in
        let q = both (keeps_base written (struct_base t ms)) (keeps_declarators written (declarators d ds)) k in
        (refl, join (join (same_line n) (join (type_is (struct_base t ms) a.0 q.0) (declarators_are (declarators d ds) a.1 q.1))) refl)

    varchar_members_are : (ds : DeclaratorList) → are_source_declarators ds ≡ true → keeps_declarators written ds ≡ true → are_written_members n (varchar_members_of n ds) ≡ true
    varchar_members_are no_declarators h k = refl
    varchar_members_are (declarators (declarator stars name ms i) ds) h k =
        let p = both (is_source_declarator (declarator stars name ms i)) (are_source_declarators ds) h in
        let q = both (keeps_declarator written (declarator stars name ms i)) (keeps_declarators written ds) k in
        let a = both (is_plain_name name) (are_source_dims ms && is_source_initializer i) p.0 in
        let b = both (are_source_dims ms) (is_source_initializer i) a.1 in
        let c = both (keeps_dims written ms) (keeps_initializer written i) q.0 in
        join (varchar_member_is n stars name (written_dims n ms) (written_initializer n i) a.0 (dims_are ms b.0 c.0) (initializer_is i b.1 c.1)) (varchar_members_are ds p.1 q.1)

    dim_is : (d : DimData) → is_source_dim d ≡ true → keeps_dim written d ≡ true → is_written_dim n (written_dim n d) ≡ true
    dim_is open_dim h k = refl
    dim_is (dim e) h k = expr_is e h k

    pub dims_are : (ds : DimList) → are_source_dims ds ≡ true → keeps_dims written ds ≡ true → are_written_dims n (written_dims n ds) ≡ true
    dims_are no_dims h k = refl
    dims_are (dims d ds) h k =
        let p = both (is_source_dim d) (are_source_dims ds) h in
        let q = both (keeps_dim written d) (keeps_dims written ds) k in
        join (dim_is d p.0 q.0) (dims_are ds p.1 q.1)

    init_is : (i : InitData) → is_source_init i ≡ true → keeps_init written i ≡ true → is_written_init n (written_init n i) ≡ true
    init_is (one e) h k = expr_is e h k
    init_is (many no_inits) h k = absurd (false≢true h)
    init_is (many (inits i is)) h k =
        let p = both (is_source_init i) (are_source_inits is) h in
        let q = both (keeps_init written i) (keeps_inits written is) k in
        join (init_is i p.0 q.0) (inits_are is p.1 q.1)

    inits_are : (is : InitList) → are_source_inits is ≡ true → keeps_inits written is ≡ true → are_written_inits n (written_inits n is) ≡ true
    inits_are no_inits h k = refl
    inits_are (inits i is) h k =
        let p = both (is_source_init i) (are_source_inits is) h in
        let q = both (keeps_init written i) (keeps_inits written is) k in
        join (init_is i p.0 q.0) (inits_are is p.1 q.1)

    initializer_is : (i : InitOption) → is_source_initializer i ≡ true → keeps_initializer written i ≡ true → is_written_initializer n (written_initializer n i) ≡ true
    initializer_is no_init h k = refl
    initializer_is (some_init i) h k = init_is i h k

    declarator_is : (d : DeclaratorData) → is_source_declarator d ≡ true → keeps_declarator written d ≡ true → is_written_declarator n (written_declarator n d) ≡ true
    declarator_is (declarator stars name ds i) h k =
        let a = both (is_plain_name name) (are_source_dims ds && is_source_initializer i) h in
        let b = both (are_source_dims ds) (is_source_initializer i) a.1 in
        let c = both (keeps_dims written ds) (keeps_initializer written i) k in
        join a.0 (join (dims_are ds b.0 c.0) (initializer_is i b.1 c.1))

    declarators_are : (ds : DeclaratorList) → are_source_declarators ds ≡ true → keeps_declarators written ds ≡ true → are_written_declarators n (written_declarators n ds) ≡ true
    declarators_are no_declarators h k = refl
    declarators_are (declarators d ds) h k =
        let p = both (is_source_declarator d) (are_source_declarators ds) h in
        let q = both (keeps_declarator written d) (keeps_declarators written ds) k in
        join (declarator_is d p.0 q.0) (declarators_are ds p.1 q.1)

  -- ---- declarations

  abbrev pub are_written_decls : List DeclData → Bool
  are_written_decls [] = true
  are_written_decls (d ∷ ds) = is_written_decl n d && are_written_decls ds

  objects_are : (ds : DeclaratorList) → are_source_declarators ds ≡ true → keeps_declarators written ds ≡ true → are_written_decls (varchar_objects n ds) ≡ true
  objects_are no_declarators h k = refl
  objects_are (declarators (declarator stars name ms i) ds) h k =
      let p = both (is_source_declarator (declarator stars name ms i)) (are_source_declarators ds) h in
      let q = both (keeps_declarator written (declarator stars name ms i)) (keeps_declarators written ds) k in
      let a = both (is_plain_name name) (are_source_dims ms && is_source_initializer i) p.0 in
      let b = both (are_source_dims ms) (is_source_initializer i) a.1 in
      let c = both (keeps_dims written ms) (keeps_initializer written i) q.0 in
      join (varchar_is n (Some (varchar_tag name)) stars name (written_dims n ms) (written_initializer n i) (varchar_tag_is name a.0) a.0 (dims_are ms b.0 c.0) (initializer_is i b.1 c.1)) (objects_are ds p.1 q.1)

  plain_decl : (b : BaseData) (ds : DeclaratorList) → is_written_base n (written_base n b) ≡ true → are_written_declarators n (written_declarators n ds) ≡ true → is_written_decl n (decl (written_base n b) (written_declarators n ds) false (at_line n)) ≡ true
  plain_decl b ds h k = join (same_line n) (join h k)

  pub decl_is : (d : DeclData) → is_source_decl d ≡ true → keeps_decl written d ≡ true → are_written_decls (written_decl n d) ≡ true
  decl_is (decl varchar ds section line) h k = objects_are ds (both (is_line line.0) (are_source_declarators ds) h).1 k
  decl_is (decl (words ws) ds section line) h k =
      let p = both (is_line line.0) (is_source_base (words ws) && are_source_declarators ds) h in
      let a = both (is_source_base (words ws)) (are_source_declarators ds) p.1 in
      let q = both (keeps_base written (words ws)) (keeps_declarators written ds) k in
      join (plain_decl (words ws) ds (type_is (words ws) a.0 q.0) (declarators_are ds a.1 q.1)) refl
  decl_is (decl (tagged t) ds section line) h k =
      let p = both (is_line line.0) (is_source_base (tagged t) && are_source_declarators ds) h in
      let a = both (is_source_base (tagged t)) (are_source_declarators ds) p.1 in
      let q = both (keeps_base written (tagged t)) (keeps_declarators written ds) k in
      join (plain_decl (tagged t) ds (type_is (tagged t) a.0 q.0) (declarators_are ds a.1 q.1)) refl
  decl_is (decl (struct_base t ms) ds section line) h k =
      let p = both (is_line line.0) (is_source_base (struct_base t ms) && are_source_declarators ds) h in
      let a = both (is_source_base (struct_base t ms)) (are_source_declarators ds) p.1 in
      let q = both (keeps_base written (struct_base t ms)) (keeps_declarators written ds) k in
      join (plain_decl (struct_base t ms) ds (type_is (struct_base t ms) a.0 q.0) (declarators_are ds a.1 q.1)) refl

  pub option_is : (e : Option ExprData) → is_source_option e ≡ true → keeps_option written e ≡ true → is_written_option n (written_option n e) ≡ true
  option_is None h k = refl
  option_is (Some e) h k = expr_is e h k
