-- Embedded pieces: what is found is the one piece that stands there, or the quote in it that has no end, or nothing.
use Rattle.std.proofs.Common.{◌≡◌, ◌⊎◌, inl, inr, Bool, true, false, List, [], ◌∷◌, ◌++◌, refl, sym, ap, ◌∙◌, subst, append_assoc, Option, Some, None}
use Rattle.std.specs.List.{concat, list_all, list_any}
use Rattle.ec_ctypes.specs.declared.text.piece.PieceKind.{PieceKind}
use Rattle.ec_ctypes.specs.declared.text.piece.PieceKind.TheVariants.{InPlace}
use Rattle.ec_language.specs.Letters.{Text, semicolon}
use Rattle.ec_language.specs.CText.{CUnit, CUnits}
use Rattle.ec_language.specs.SqlText.{SqlUnit, SqlUnits, is_sql_gap}
use Rattle.ec_language.specs.Pieces.{solid, is_semicolon, first_is_type_word, is_type_word, kind_of, ends_declaration}
use Rattle.ec_language.specs.PieceFaults.{is_cut_quote, LooseUnits}
use Rattle.ec_language.specs.ReadPieces.{Behind, passed, cut, endless, c_end, sql_end, front, gap_stop, begins_gap, statement_end, statement_kind, Found, found, cut_at, unended, begins_type, declaration, statement, embedded}
use Rattle.ec_language.proofs.CUnits.{c_complete}
use Rattle.ec_language.proofs.CutUnits.{cut_unit_complete}
use Rattle.ec_language.proofs.SqlUnits.{sql_sound, sql_gap}
use Rattle.ec_language.proofs.CWalks.{front_of}
use Rattle.ec_language.proofs.SqlWalks.{gap_stops, gap_stop_solid, gap_stop_behind, statement_ends, statement_end_behind, type_first, begins_type_at, kind_is}
use Rattle.ec_language.proofs.Declarations.{run, run_complete, run_cut_complete, run_sound, RunEnds}
use Rattle.ec_language.proofs.Starts.{type_word_unit, type_word_solid}

-- ---- statements

abbrev statement_choice : Text → Option Text → Found
statement_choice s x = elim x [ Some rest ↦ found (statement_kind s) rest | None ↦ unended ]

abbrev embedded_choice : Text → Bool → Found
embedded_choice s x = elim x [ true ↦ declaration (gap_stop s) | false ↦ statement s ]

pub statement_found : (us : List Text) (r : Text) → SqlUnits us (semicolon ∷ r) → list_any is_semicolon us ≡ false → first_is_type_word (solid us) ≡ false
    → embedded (concat us ++ semicolon ∷ r) ≡ found (kind_of us) r
statement_found us r a n t =
    let s = concat us ++ semicolon ∷ r in
    ap (embedded_choice s) (type_first us r a ∙ t) ∙ ap (statement_choice s) (statement_end_behind us r a n) ∙ ap (λ k. found k r) (kind_is us r a n)

-- ---- declarations

-- a declaration stands in the text behind `EXEC SQL`
pub record DeclaredBehind (Units : List Text → Text → Type 0) (text rest : Text) : Type 0 where
  pub gap : List Text
  pub first : Text
  pub others : List Text
  pub whole : text ≡ concat gap ++ (concat (first ∷ others) ++ rest)
  pub parted : SqlUnits gap (concat (first ∷ others) ++ rest)
  pub gaps : list_all is_sql_gap gap ≡ true
  pub word : SqlUnit first (concat others ++ rest)
  pub typed : is_type_word first ≡ true
  pub units : Units (first ∷ others) rest
  pub ends : ends_declaration 0 (first ∷ others) ≡ true

pub declared_run : {Units : List Text → Text → Type 0} (s r : Text) (d : DeclaredBehind Units s r) → embedded s ≡ run (0, concat (d.first ∷ d.others) ++ r)
declared_run s r d =
    let t = concat d.others ++ r in
    let g = (d.first ++ concat d.others) ++ r in
    let k : g ≡ d.first ++ t = append_assoc d.first (concat d.others) r in
    let no_gap : begins_gap g ≡ false = ap begins_gap k ∙ sym (sql_gap d.first t d.word) ∙ type_word_solid d.first d.typed in
    let stop : gap_stop s ≡ g = ap gap_stop d.whole ∙ gap_stop_behind d.gap g d.parted d.gaps ∙ gap_stop_solid g no_gap in
    let typed : begins_type (gap_stop s) ≡ true = ap begins_type (stop ∙ k) ∙ begins_type_at d.first t d.word ∙ d.typed in
    ap (embedded_choice s) typed ∙ ap declaration stop

pub declared_found : (s r : Text) → DeclaredBehind CUnits s r → embedded s ≡ found InPlace r
declared_found s r d = declared_run s r d ∙ run_complete (d.first ∷ d.others) 0 r d.units d.ends

pub concat_split : (units : List Text) (q : Text) (more : List Text) (r : Text) → concat (units ++ q ∷ more) ++ r ≡ concat units ++ (q ++ (concat more ++ r))
concat_split [] q more r = append_assoc q (concat more) r
concat_split (u ∷ us) q more r =
    append_assoc u (concat (us ++ q ∷ more)) r ∙ ap (λ t. u ++ t) (concat_split us q more r) ∙ sym (append_assoc u (concat us) (q ++ (concat more ++ r)))

-- the first quote without end among units
pub record FirstCut (us : List Text) (r : Text) : Type 0 where
  pub units : List Text
  pub quote : Text
  pub more : List Text
  pub whole : us ≡ units ++ quote ∷ more
  pub are : CUnits units (quote ++ (concat more ++ r))
  pub is_cut : is_cut_quote quote (concat more ++ r) ≡ true
  pub loose : LooseUnits more r

tight_or_cut : (us : List Text) (r : Text) → LooseUnits us r → CUnits us r ⊎ FirstCut us r
tight_or_cut [] r a = inl tt
tight_or_cut (u ∷ us) r a = go a.0 (tight_or_cut us r a.1)
  where
    go : CUnit u (concat us ++ r) ⊎ (is_cut_quote u (concat us ++ r) ≡ true) → CUnits us r ⊎ FirstCut us r → CUnits (u ∷ us) r ⊎ FirstCut (u ∷ us) r
    go (inr q) x = inr (record { units = []; quote = u; more = us; whole = refl; are = tt; is_cut = q; loose = a.1 })
    go (inl h) (inl t) = inl (h, t)
    go (inl h) (inr f) =
        inr (record {
          units = u ∷ f.units;
          quote = f.quote;
          more = f.more;
          whole = ap (λ t. u ∷ t) f.whole;
          are = (subst (CUnit u) (ap (λ t. concat t ++ r) f.whole ∙ concat_split f.units f.quote f.more r) h, f.are);
          is_cut = f.is_cut;
          loose = f.loose;
        })

pub cut_found : (s r : Text) (d : DeclaredBehind LooseUnits s r) (f : FirstCut (d.first ∷ d.others) r) → embedded s ≡ cut_at (f.quote ++ (concat f.more ++ r))
cut_found s r d f =
    let e : concat (d.first ∷ d.others) ++ r ≡ concat f.units ++ (f.quote ++ (concat f.more ++ r)) = ap (λ t. concat t ++ r) f.whole ∙ concat_split f.units f.quote f.more r in
    declared_run s r d ∙ ap (λ t. run (0, t)) e
    ∙ run_cut_complete f.units 0 f.quote f.more r f.are f.is_cut f.loose (subst (λ t. ends_declaration 0 t ≡ true) f.whole d.ends)

-- a declaration, whatever its quotes, is found
pub declared_not_unended : (s r : Text) → DeclaredBehind LooseUnits s r → embedded s ≡ unended → ⊥
declared_not_unended s r d e = go (tight_or_cut (d.first ∷ d.others) r d.units)
  where
    go : CUnits (d.first ∷ d.others) r ⊎ FirstCut (d.first ∷ d.others) r → ⊥
    go (inl t) = let k = declared_run s r d ∙ run_complete (d.first ∷ d.others) 0 r t d.ends in let no : found InPlace r ≡ unended = sym k ∙ e in cc (no)
    go (inr f) = let no : cut_at (f.quote ++ (concat f.more ++ r)) ≡ unended = sym (cut_found s r d f) ∙ e in cc (no)

-- ---- what is found is there

pub record FirstWord (first rest : Text) : Type 0 where
  pub word : SqlUnit first rest
  pub typed : is_type_word first ≡ true

-- the unit of SQL text with which a declaration begins
pub record TypeWord (text : Text) : Type 0 where
  pub unit : Text
  pub rest : Text
  pub whole : text ≡ unit ++ rest
  pub is : SqlUnit unit rest
  pub typed : is_type_word unit ≡ true

type_word_at : (g : Text) (x : Behind) → sql_end g ≡ x → ◌≡◌ {A = Bool} (elim x [ passed rest ↦ is_type_word (front g rest) | cut rest ↦ false | endless ↦ false ]) true → TypeWord g
type_word_at g (passed r) ex e =
    let h = sql_sound g r ex in
    record { unit = h.unit; rest = r; whole = h.whole; is = h.is; typed = subst (λ t. is_type_word t ≡ true) (front_of g h.unit r h.whole) e }
type_word_at g (cut r) ex e = absurd (cc)
type_word_at g endless ex e = absurd (cc)

same_first : (g first t : Text) → g ≡ first ++ t → CUnit first t ⊎ (is_cut_quote first t ≡ true) → TypeWord g → FirstWord first t
same_first g first t e a w = go a (ap c_end w.whole ∙ c_complete w.unit w.rest (type_word_unit w.unit w.rest w.is w.typed))
  where
    go : CUnit first t ⊎ (is_cut_quote first t ≡ true) → c_end g ≡ passed w.rest → FirstWord first t
    go (inr q) p = absurd (let no : cut t ≡ passed w.rest = sym (ap c_end e ∙ cut_unit_complete first t q) ∙ p in cc (no))
    go (inl h) p =
        let both_pass : passed t ≡ passed w.rest = sym (ap c_end e ∙ c_complete first t h) ∙ p in
        let rest : w.rest ≡ t = cc in
        let unit : w.unit ≡ first = sym (front_of g w.unit w.rest w.whole) ∙ ap (front g) rest ∙ front_of g first t e in
        let here : SqlUnit first t = subst (λ x. SqlUnit x t) unit (subst (SqlUnit w.unit) rest w.is) in
        record { word = here; typed = subst (λ x. is_type_word x ≡ true) unit w.typed }

-- a list of units that ends a declaration has a first one
pub record NotEmpty (us : List Text) : Type 0 where
  pub first : Text
  pub others : List Text
  pub whole : us ≡ first ∷ others

not_empty : (us : List Text) → ends_declaration 0 us ≡ true → NotEmpty us
not_empty [] e = absurd (cc)
not_empty (u ∷ us) e = record { first = u; others = us; whole = refl }

first_loose : (u : Text) (us : List Text) (r : Text) → LooseUnits (u ∷ us) r → CUnit u (concat us ++ r) ⊎ (is_cut_quote u (concat us ++ r) ≡ true)
first_loose u us r a = a.0

loosen : (us : List Text) (r : Text) → CUnits us r → LooseUnits us r
loosen [] r a = tt
loosen (u ∷ us) r a = (inl a.0, loosen us r a.1)

loose_join : (units : List Text) (q : Text) (more : List Text) (r : Text) → CUnits units (q ++ (concat more ++ r)) → is_cut_quote q (concat more ++ r) ≡ true → LooseUnits more r → LooseUnits (units ++ q ∷ more) r
loose_join [] q more r a c l = (inr c, l)
loose_join (u ∷ us) q more r a c l = (inl (subst (CUnit u) (sym (concat_split us q more r)) a.0), loose_join us q more r a.1 c l)

make_declared : {Units : List Text → Text → Type 0} (s r : Text) (us : List Text) → ((u : Text) (vs : List Text) → Units (u ∷ vs) r → CUnit u (concat vs ++ r) ⊎ (is_cut_quote u (concat vs ++ r) ≡ true))
    → begins_type (gap_stop s) ≡ true → gap_stop s ≡ concat us ++ r → Units us r → (n : NotEmpty us) → ends_declaration 0 us ≡ true → DeclaredBehind Units s r
make_declared {Units} s r us each_first b w a n e =
    let k = gap_stops s in
    let whole : gap_stop s ≡ concat (n.first ∷ n.others) ++ r = w ∙ ap (λ t. concat t ++ r) n.whole in
    let units : Units (n.first ∷ n.others) r = subst (λ t. Units t r) n.whole a in
    let split : gap_stop s ≡ n.first ++ (concat n.others ++ r) = whole ∙ append_assoc n.first (concat n.others) r in
    let word = same_first (gap_stop s) n.first (concat n.others ++ r) split (each_first n.first n.others units) (type_word_at (gap_stop s) (sql_end (gap_stop s)) refl b) in
    record {
      gap = k.units;
      first = n.first;
      others = n.others;
      whole = k.whole ∙ ap (λ t. concat k.units ++ t) whole;
      parted = subst (SqlUnits k.units) whole k.are;
      gaps = k.gaps;
      word = word.word;
      typed = word.typed;
      units = units;
      ends = subst (λ t. ends_declaration 0 t ≡ true) n.whole e;
    }

pub record StatementBehind (kind : PieceKind) (text rest : Text) : Type 0 where
  pub units : List Text
  pub whole : text ≡ concat units ++ semicolon ∷ rest
  pub are : SqlUnits units (semicolon ∷ rest)
  pub none : list_any is_semicolon units ≡ false
  pub untyped : first_is_type_word (solid units) ≡ false
  pub same : kind ≡ kind_of units

pub record CutBehind (text at : Text) : Type 0 where
  pub rest : Text
  pub declared : DeclaredBehind LooseUnits text rest
  pub first_cut : FirstCut (declared.first ∷ declared.others) rest
  pub place : at ≡ first_cut.quote ++ (concat first_cut.more ++ rest)

abbrev pub EmbeddedIs : Text → Found → Type 0
EmbeddedIs text (found kind rest) = ((kind ≡ InPlace) × DeclaredBehind CUnits text rest) ⊎ StatementBehind kind text rest
EmbeddedIs text (cut_at at) = CutBehind text at
EmbeddedIs text unended = Unit {0}

declaration_is : (s : Text) (f : Found) → begins_type (gap_stop s) ≡ true → RunEnds 0 (gap_stop s) f → EmbeddedIs s f
unfolding make_declared not_empty
declaration_is s (found kind r) b l =
    inl (l.same, make_declared s r l.units (λ u vs a. inl a.0) b l.whole l.are (not_empty l.units l.ends) l.ends)
declaration_is s (cut_at q) b l =
    let us = l.units ++ l.quote ∷ l.more in
    let n = not_empty us l.ends in
    let are : CUnits l.units (l.quote ++ (concat l.more ++ l.rest)) = subst (CUnits l.units) l.split l.are in
    let whole : gap_stop s ≡ concat us ++ l.rest = l.whole ∙ ap (λ t. concat l.units ++ t) l.split ∙ sym (concat_split l.units l.quote l.more l.rest) in
    record {
      rest = l.rest;
      declared = make_declared s l.rest us (λ u vs a. first_loose u vs l.rest a) b whole (loose_join l.units l.quote l.more l.rest are l.is_cut l.loose) n l.ends;
      first_cut = record { units = l.units; quote = l.quote; more = l.more; whole = sym n.whole; are = are; is_cut = l.is_cut; loose = l.loose };
      place = l.split;
    }
declaration_is s unended b l = tt

statement_is : (s : Text) (f : Found) (x : Option Text) → statement_end s ≡ x → begins_type (gap_stop s) ≡ false → statement_choice s x ≡ f → EmbeddedIs s f
statement_is s f None ex b e = subst (EmbeddedIs s) e tt
statement_is s f (Some r) ex b e =
    let k = statement_ends s r ex in
    let untyped : first_is_type_word (solid k.units) ≡ false = sym (type_first k.units r k.are) ∙ ap (λ t. begins_type (gap_stop t)) (sym k.whole) ∙ b in
    let there : StatementBehind (statement_kind s) s r = record {
      units = k.units;
      whole = k.whole;
      are = k.are;
      none = k.none;
      untyped = untyped;
      same = ap statement_kind k.whole ∙ kind_is k.units r k.are k.none;
    } in
    subst (EmbeddedIs s) e (inr there)

embedded_case : (x : Bool) (s : Text) (f : Found) → begins_type (gap_stop s) ≡ x → embedded_choice s x ≡ f → EmbeddedIs s f
embedded_case true s f ex e = declaration_is s f ex (run_sound 0 (gap_stop s) f e)
embedded_case false s f ex e = statement_is s f (statement_end s) refl ex e

pub embedded_sound : (s : Text) (f : Found) → embedded s ≡ f → EmbeddedIs s f
embedded_sound s f e = embedded_case (begins_type (gap_stop s)) s f refl e
