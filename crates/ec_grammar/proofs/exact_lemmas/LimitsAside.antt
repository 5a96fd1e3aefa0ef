-- Trees with limits aside: a text has one at most, and is read as it unless it passes a limit.
use Rattle.std.proofs.Common.{◌≡◌, ℕ, ◌≤◌, ◌<◌, Bool, true, false, List, [], ◌++◌, length, None, Result, Ok, Err, refl, ◌⊎◌, inl, inr, ap, sym, ◌∙◌, subst, arith}
use Rattle.std.proofs.lemmas.List.{append-nil}
use Rattle.std.proofs.lemmas.Bool.{false≢true}
use Rattle.ec_base.specs.declared.fault.FaultKind.{FaultKind}
use Rattle.ec_base.specs.declared.fault.LimitKind.{LimitKind}
use Rattle.ec_base.specs.declared.fault.LimitKind.TheVariants.{L2, L3, L6}
use Rattle.ec_base.specs.declared.line.Line.{Line}
use Rattle.ec_base.specs.declared.stop.Stop.{Stop}
use Rattle.ec_base.specs.declared.stop.Stop.TheVariants.{Refused, Limit}
use Rattle.ec_ctypes.specs.declared.text.piece.Piece.{Piece}
use Rattle.ec_ctypes.specs.trees.Tokens.{TokenData}
use Rattle.ec_ctypes.specs.trees.Units.{UnitData}
use Rattle.ec_language.specs.First.{Reads, too_long, unclosed, no_tokens, tokens, max_text, HasTree, PassesLimit, IsReadAs}
use Rattle.ec_language.specs.Grammar.{PlacedTokens, Limits, no_counts, DerivesWithin, Derives}
use Rattle.ec_language.specs.Letters.{Text}
use Rattle.ec_language.specs.Pieces.{Pieces}
use Rattle.ec_language.specs.Productions.{placed, unit, sym as ofs}
use Rattle.ec_language.specs.ReadText.{read_text}
use Rattle.ec_language.specs.Syntax.{EndsOnce, limits, TreeOrStop, tree}
use Rattle.ec_language.specs.Tokens.{TokensWithin, TokensOrStop}
use Rattle.ec_language.proofs.LastToken.{ends_of}
use Rattle.ec_language.proofs.Numbered.{within_complete, pieces_agree, pieces_many, pieces_few, pieces_aside}
use Rattle.ec_language.proofs.ReadLaws.{one_list, pieces_or_fault}
use Rattle.ec_language.proofs.SyntaxAnswers.{tree_or_else}
use Rattle.ec_language.proofs.TextReads.{text_reads}
use Rattle.ec_grammar.specs.declared.failure.Failure.TheVariants.{OutOfMemory, Dead, TooDeep}
use Rattle.ec_grammar.specs.Input.{state, Outcome}
use Rattle.ec_grammar.specs.ReadDeclarations.{nested}
use Rattle.ec_grammar.specs.ReadStatements as read
use Rattle.ec_grammar.specs.ReadStatements.{nested_statements}
use Rattle.ec_grammar.proofs.exact_lemmas.Answered.{derived_answer, only_answer}
use Rattle.ec_grammar.proofs.exact_lemmas.Exact.{ElementOut}
use Rattle.ec_grammar.proofs.exact_lemmas.Levels.{inner_reads, deeper_reads}
use Rattle.ec_grammar.proofs.exact_lemmas.Units.{unit_reads}

-- ---- tokens have one tree at most, within any limits

module _ (most : Limits) where
  reading_within : PlacedTokens → Outcome UnitData
  reading_within w = read.unit most (nested most most.nesting) (nested_statements most most.nesting) (state w no_counts)

  reading_is : (w : PlacedTokens) → ElementOut most most.nesting no_counts (ofs unit) (λ v. v) w (reading_within w)
  unfolding reading_within
  reading_is w = (unit_reads most most.nesting (nested most most.nesting) (nested_statements most most.nesting) (inner_reads most most.nesting) (deeper_reads most most.nesting) (state w no_counts)).out

-- The reading within the limits of one derivation finds its tree, and that of each other.
pub one_derived : (w : PlacedTokens) (u v : UnitData) → Derives unit w u → Derives unit w v → u ≡ v
one_derived w u v d e = go (reading_within d.0 w) (reading_is d.0 w)
  where
    here : w ≡ w ++ []
    here = sym (append-nil w)

    go : (o : Outcome UnitData) → ElementOut d.0 d.0.nesting no_counts (ofs unit) (λ x. x) w o → u ≡ v
    go (Ok p) x =
        only u d.1.1 (x.2.only d.0 d.1.0 d.0.nesting w [] u d.1.1 here d.1.2) ∙ sym (only v e.1.1 (x.2.only e.0 e.1.0 e.0.nesting w [] v e.1.1 here e.1.2))
      where
        only : (z : UnitData) (c : _) → (([] ≡ p.1.tokens) × (z ≡ x.0) × (c ≡ p.1.counts)) ⊎ (false ≡ true) → z ≡ x.0
        only z c (inl h) = h.1
        only z c (inr h) = absurd (false≢true h)
    go (Err (Dead n)) x = absurd (let h : false ≡ true = x.only d.0 d.1.0 d.0.nesting tt w [] u d.1.1 here d.1.2 in false≢true h)
    go (Err (TooDeep n)) x = absurd (let h : false ≡ true = x.only d.0 d.1.0 d.0.nesting (refl, refl) w [] u d.1.1 here d.1.2 in false≢true h)
    go (Err OutOfMemory) x = absurd x

-- What tokens derive is what they are read as, unless a limit is passed.
pub derived_read : (ts : List TokenData) (u : UnitData) (a : Result UnitData Stop) → EndsOnce ts → Derives unit (placed ts) u → TreeOrStop ts a
    → (a ≡ Ok u) ⊎ (a ≡ Err (Limit L3))
derived_read ts u a once d is = subst (λ b. (b ≡ Ok u) ⊎ (b ≡ Err (Limit L3))) (sym (only_answer ts a once is)) (derived_answer ts u d)

-- ---- texts

-- these are the tokens, or there are too many
abbrev OrTooMany : Result (List TokenData) Stop → List TokenData → Type 0
OrTooMany b ts = (b ≡ Ok ts) ⊎ (b ≡ Err (Limit L2))

not_both : (most long : ℕ) → most < long → long ≤ most → ⊥
not_both most long l m = omega (arith, l, m)

same_tokens : (written : Bool) (pieces others : List Piece) (ts us : List TokenData) → others ≡ pieces → TokensWithin None written pieces (Ok ts) → TokensWithin None written others (Ok us) → us ≡ ts
same_tokens written pieces others ts us same x y =
    let e : ◌≡◌ {A = Result (List TokenData) Stop} (Ok us) (Ok ts) =
    within_complete None written pieces (Ok us) (subst (λ q. TokensWithin None written q (Ok us)) same y) ∙ sym (within_complete None written pieces (Ok ts) x) in
    cc

pub one_text_tree : (written : Bool) (text : Text) (u v : UnitData) → HasTree written text u → HasTree written text v → u ≡ v
one_text_tree written text u v h k =
    let same = same_tokens written h.pieces k.pieces h.tokens k.tokens (one_list text k.pieces h.pieces k.cut h.cut) h.lexed k.lexed in
    one_derived (placed h.tokens) u v h.derived (subst (λ ts. Derives unit (placed ts) v) same k.derived)

module _ (written : Bool) (text : Text) (u : UnitData) (h : HasTree written text u) where
  tokens_of : (pieces : List Piece) (b : Result (List TokenData) Stop) → Pieces text pieces → TokensOrStop written pieces b
      → TokensOrStop written h.pieces b × OrTooMany b h.tokens
  tokens_of pieces b are x =
      let y = subst (λ q. TokensOrStop written q b) (one_list text pieces h.pieces are h.cut) x in
      (y, pieces_agree written h.pieces (Ok h.tokens) b h.lexed y)

  -- no tokens: there are too many
  at_stop : (stop : Stop) → TokensOrStop written h.pieces (Err stop) → OrTooMany (Err stop) h.tokens → IsReadAs h (Err stop)
  at_stop stop x (inl e) = absurd (cc)
  at_stop stop x (inr e) =
      let s : stop ≡ Limit L2 = cc in
      inr (L2, ap (λ z. Err z) s, pieces_many written h.pieces h.tokens (subst (λ z. TokensOrStop written h.pieces (Err z)) s x) h.lexed)

  at_tree : (ts : List TokenData) (a : Result UnitData Stop) → TokensOrStop written h.pieces (Ok ts) → OrTooMany (Ok ts) h.tokens → TreeOrStop ts a → IsReadAs h a
  at_tree ts a x (inr e) is = absurd (cc)
  at_tree ts a x (inl e) is = go a there (derived_read h.tokens u a (ends_of written h.pieces h.tokens (subst (λ z. TokensOrStop written h.pieces (Ok z)) same x)) h.derived there)
    where
      same : ts ≡ h.tokens
      same = cc

      there : TreeOrStop h.tokens a
      there = subst (λ z. TreeOrStop z a) same is

      go : (a : Result UnitData Stop) → TreeOrStop h.tokens a → ((a ≡ Ok u) ⊎ (a ≡ Err (Limit L3))) → IsReadAs h a
      go a is (inl e) = inl e
      go a is (inr e) = inr (L3, e, λ d. tree_or_else h.tokens u (Limit L3) (tree u d) (subst (TreeOrStop h.tokens) e is))

  pub read_as : (a : Result UnitData Stop) → Reads written text a → IsReadAs h a
  read_as _ (too_long l) = inr (L6, refl, l)
  read_as _ (unclosed kind line l f) = absurd (pieces_or_fault text h.pieces kind line h.cut f)
  read_as _ (no_tokens pieces stop l are x) = let t = tokens_of pieces (Err stop) are x in at_stop stop t.0 t.1
  read_as _ (tokens pieces ts a l are x is) = let t = tokens_of pieces (Ok ts) are x in at_tree ts a t.0 t.1 is

  -- Where no limit is passed it is read.
  pub read_within : ((kind : LimitKind) → PassesLimit h kind → ⊥) → Reads written text (Ok u)
  read_within within = go (read_text written text) (text_reads written text) (read_as (read_text written text) (text_reads written text))
    where
      go : (a : Result UnitData Stop) → Reads written text a → IsReadAs h a → Reads written text (Ok u)
      go a is (inl e) = subst (Reads written text) e is
      go a is (inr x) = absurd (within x.0 x.2)

  -- And where it is read none is passed.
  passes_none : (pieces : List Piece) (ts : List TokenData) → length text ≤ max_text → TokensOrStop written h.pieces (Ok ts) → ts ≡ h.tokens → TreeOrStop ts (Ok u) → (kind : LimitKind) → PassesLimit h kind → ⊥
  passes_none pieces ts l x same (tree v d) L6 p = not_both max_text (length text) p l
  passes_none pieces ts l x same (tree v d) L2 p =
      let some = pieces_few written h.pieces ts x in
      omega (arith, some, p, ap length same)
  passes_none pieces ts l x same (tree v d) L3 p = p (subst (λ z. DerivesWithin limits unit (placed z) v) same d)
  passes_none pieces ts l x same (tree v d) _ p = p

  pub within_read : Reads written text (Ok u) → (kind : LimitKind) → PassesLimit h kind → ⊥
  within_read (tokens pieces ts a l are x is) = go (tokens_of pieces (Ok ts) are x)
    where
      go : TokensOrStop written h.pieces (Ok ts) × OrTooMany (Ok ts) h.tokens → (kind : LimitKind) → PassesLimit h kind → ⊥
      go (x, inl e) = passes_none h.pieces ts l x (let same : ts ≡ h.tokens = cc in same) is
      go (x, inr e) = absurd (cc)

  pub no_fault : (kind : FaultKind) (line : Line) → Reads written text (Err (Refused kind line)) → ⊥
  no_fault kind line is = go (read_as (Err (Refused kind line)) is)
    where
      go : IsReadAs h (Err (Refused kind line)) → ⊥
      go (inl e) = cc
      go (inr x) = let e : Err (Refused kind line) ≡ Err (Limit x.0) = x.1 in cc

-- What is read as a tree has it, limits aside.
pub tree_aside : (written : Bool) (text : Text) (u : UnitData) → Reads written text (Ok u) → HasTree written text u
tree_aside written text u (tokens pieces ts a l are x is) = record {
  pieces = pieces;
  tokens = ts;
  cut = are;
  lexed = pieces_aside written pieces ts x;
  derived = derived is;
}
  where
    derived : TreeOrStop ts (Ok u) → Derives unit (placed ts) u
    derived (tree v d) = (limits, d)
