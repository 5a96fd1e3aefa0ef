-- Tokens that are taken one after the other are those of all parts: neighbouring strings joined, the head passed over, and numbered.
use Rattle.std.proofs.Common.{◌≡◌, ℕ, suc, ◌+◌, ◌<◌, ◌≤◌, Bool, true, false, List, [], ◌∷◌, ◌++◌, length, Option, Some, None, Result, Ok, Err, refl, sym, ap, ◌∙◌, subst, arith, append_assoc, length-append, ne_eqb, eq-eqb}
use Rattle.std.specs.Prelude.{codes, option_map, ◌==◌, ◌&&◌, nat_le, if◌then◌else◌, ⊤}
use Rattle.std.proofs.lemmas.Bool.{eqb-true}
use Rattle.std.proofs.lemmas.Bool.Decides.{nat_tests}
use Rattle.ec_base.specs.declared.fault.FaultKind.{FaultKind}
use Rattle.ec_base.specs.declared.fault.LimitKind.TheVariants.{L2}
use Rattle.ec_base.specs.declared.stop.Stop.{Stop}
use Rattle.ec_base.specs.declared.stop.Stop.TheVariants.{Refused, Limit}
use Rattle.ec_ctypes.specs.trees.Tokens.{TokData, string_token, include_token, end_token, TokenData}
use Rattle.ec_language.specs.Letters.{Text}
use Rattle.ec_language.specs.Tokens.{Part, join_two, join_first, join_strings, is_include_of, without_head, max_tokens, token, with_token, numbered}
use Rattle.ec_clex.specs.Lexing.{Taken, join_tok, join_last, is_head, past_head, added, fed, and_then, fed_all, with_end_token}

-- ---- tokens as parts

abbrev pub part_of : TokenData → Part
part_of t = record { line = t.line.0; tok = Ok t.tok }

abbrev pub parts_of : List TokenData → List Part
parts_of [] = []
parts_of (t ∷ ts) = part_of t ∷ parts_of ts

parts_append : (ts us : List TokenData) → parts_of (ts ++ us) ≡ parts_of ts ++ parts_of us
parts_append [] us = refl
parts_append (t ∷ ts) us = ap (λ (w : List Part). part_of t ∷ w) (parts_append ts us)

-- their places count on from here
abbrev Placed : ℕ → List TokenData → Type 0
Placed k [] = ⊤
Placed k (t ∷ ts) = (t.place ≡ k) × Placed (suc k) ts

-- no two neighbours are strings
abbrev Apart : List TokenData → Type 0
Apart [] = ⊤
Apart (t ∷ []) = ⊤
Apart (t ∷ u ∷ ts) = (join_tok t.tok u.tok ≡ None) × Apart (u ∷ ts)

pub record Good (s : Taken) : Type 0 where
  placed : Placed 0 s.done
  few : length s.done ≤ max_tokens
  apart : Apart s.done
  short : s.head ≡ true → length s.done < 2

-- ---- joining

abbrev join_res : TokData → Result TokData FaultKind → Option TokData
join_res a (Ok b) = join_tok a b
join_res a (Err kind) = None

two_apart : (p : Part) (a : TokData) (q : Part) (b : TokData) (parts : List Part) → join_tok a b ≡ None → join_two p (Ok a) q (Ok b) parts ≡ p ∷ q ∷ parts
two_apart p (string_token a) q (string_token b) parts e = absurd (cc)
two_apart p (string_token a) q _ parts e = refl
two_apart p _ q b parts e = refl

-- what stands first doesn't join with this
abbrev FirstApart : TokData → List Part → Type 0
FirstApart a [] = ⊤
FirstApart a (q ∷ qs) = join_res a q.tok ≡ None

first_apart : (l : ℕ) (a : TokData) (qs : List Part) → FirstApart a qs → join_first (record { line = l; tok = Ok a }) qs ≡ record { line = l; tok = Ok a } ∷ qs
first_apart l a [] f = refl
first_apart l a (q ∷ qs) f = step q.tok f
  where
    step : (r : Result TokData FaultKind) → join_res a r ≡ None → join_two (record { line = l; tok = Ok a }) (Ok a) q r qs ≡ record { line = l; tok = Ok a } ∷ q ∷ qs
    step (Ok b) f = two_apart (record { line = l; tok = Ok a }) a q b qs f
    step (Err kind) f = with_err a
      where
        with_err : (a : TokData) → join_two (record { line = l; tok = Ok a }) (Ok a) q (Err kind) qs ≡ record { line = l; tok = Ok a } ∷ q ∷ qs
        with_err (string_token s) = refl
        with_err _ = refl

-- the last of these doesn't join with what stands first
abbrev Loose : List TokenData → List Part → Type 0
Loose [] qs = ⊤
Loose (t ∷ []) qs = FirstApart t.tok qs
Loose (t ∷ u ∷ ts) qs = Loose (u ∷ ts) qs

loose_all : (done : List TokenData) (qs : List Part) → ((a : TokData) → FirstApart a qs) → Loose done qs
loose_all [] qs h = tt
loose_all (t ∷ []) qs h = h t.tok
loose_all (t ∷ u ∷ ts) qs h = loose_all (u ∷ ts) qs h

join_done : (done : List TokenData) (rest : List Part) → Apart done → Loose done (join_strings rest) → join_strings (parts_of done ++ rest) ≡ parts_of done ++ join_strings rest
join_done [] rest a l = refl
join_done (t ∷ []) rest a l = first_apart t.line.0 t.tok (join_strings rest) l
join_done (t ∷ u ∷ ts) rest a l =
    ap (join_first (part_of t)) (join_done (u ∷ ts) rest a.1 l)
    ∙ first_apart t.line.0 t.tok (parts_of (u ∷ ts) ++ join_strings rest) a.0

-- a part with its strings behind it joined: what it is, and what follows
record Joined (l : ℕ) (tok : TokData) (qs : List Part) : Type 0 where
  first : TokData
  others : List Part
  is : join_first (record { line = l; tok = Ok tok }) qs ≡ record { line = l; tok = Ok first } ∷ others
  apart : (a : TokData) → join_tok a tok ≡ None → join_tok a first ≡ None
  plain : (text : Text) → is_include_of text (Ok tok) ≡ false → is_include_of text (Ok first) ≡ false

string_apart : (a : TokData) (s t : List ℕ) → join_tok a (string_token s) ≡ None → join_tok a (string_token t) ≡ None
string_apart (string_token x) s t e = absurd (cc)
string_apart _ s t e = refl

alone : (l : ℕ) (tok : TokData) (qs : List Part) → FirstApart tok qs → Joined l tok qs
alone l tok qs f = record { first = tok; others = qs; is = first_apart l tok qs f; apart = (λ a e. e); plain = (λ text e. e) }

joined : (l : ℕ) (tok : TokData) (qs : List Part) → Joined l tok qs
joined l tok [] = alone l tok [] tt
joined l tok (q ∷ qs) = step tok q.tok refl
  where
    step : (tok : TokData) (r : Result TokData FaultKind) → q.tok ≡ r → Joined l tok (q ∷ qs)
    step tok (Err kind) e = alone l tok (q ∷ qs) (ap (join_res tok) e)
    step (string_token x) (Ok (string_token y)) e = record {
      first = string_token (x ++ y);
      others = qs;
      is = ap (λ (r : Result TokData FaultKind). join_two (record { line = l; tok = Ok (string_token x) }) (Ok (string_token x)) q r qs) e;
      apart = (λ a h. string_apart a x (x ++ y) h);
      plain = (λ text h. refl);
    }
    step (string_token x) (Ok b) e = alone l (string_token x) (q ∷ qs) (ap (join_res (string_token x)) e)
    step tok (Ok b) e = alone l tok (q ∷ qs) (ap (join_res tok) e)

-- two strings and what is behind them
three_join : (k l : ℕ) (a b c : TokData) (qs : List Part) → join_tok a b ≡ Some c
    → join_first (record { line = k; tok = Ok a }) (join_first (record { line = l; tok = Ok b }) qs) ≡ join_first (record { line = k; tok = Ok c }) qs
three_join k l (string_token x) (string_token y) c qs e =
    let same : string_token (x ++ y) ≡ c = cc in
    strings qs ∙ ap (λ (z : TokData). join_first (record { line = k; tok = Ok z }) qs) same
  where
    strings : (qs : List Part) → join_first (record { line = k; tok = Ok (string_token x) }) (join_first (record { line = l; tok = Ok (string_token y) }) qs)
        ≡ join_first (record { line = k; tok = Ok (string_token (x ++ y)) }) qs
    strings [] = refl
    strings (q ∷ qs) = step q.tok
      where
        step : (r : Result TokData FaultKind)
            → join_first (record { line = k; tok = Ok (string_token x) }) (join_two (record { line = l; tok = Ok (string_token y) }) (Ok (string_token y)) q r qs)
            ≡ join_two (record { line = k; tok = Ok (string_token (x ++ y)) }) (Ok (string_token (x ++ y))) q r qs
        step (Ok (string_token z)) = ap (λ (w : List ℕ). record { line = k; tok = Ok (string_token w) } ∷ qs) (sym (append_assoc x y z))
        step (Ok b) = refl
        step (Err kind) = refl
three_join k l (string_token x) _ c qs e = absurd (cc)
three_join k l _ b c qs e = absurd (cc)

some_of : {A B : Type 0} (f : A → B) (o : Option A) (b : B) → option_map f o ≡ Some b → (a : A) × (o ≡ Some a) × (f a ≡ b)
some_of f None b e = absurd (cc)
some_of f (Some a) b e = (a, refl, cc)

none_of : {A B : Type 0} (f : A → B) (o : Option A) → option_map f o ≡ None → o ≡ None
none_of f None e = refl
none_of f (Some a) e = absurd (cc)

abbrev with_tok : TokenData → TokData → TokenData
with_tok t c = record { tok = c; line = t.line; place = t.place }

joined_same : (done : List TokenData) (tok : TokData) (d : List TokenData) (l : ℕ) (ps : List Part) → join_last done tok ≡ Some d
    → join_strings (parts_of done ++ record { line = l; tok = Ok tok } ∷ ps) ≡ join_strings (parts_of d ++ ps)
joined_same [] tok d l ps e = absurd (cc)
joined_same (t ∷ []) tok d l ps e =
    let s = some_of (λ c. with_tok t c ∷ []) (join_tok t.tok tok) d e in
    three_join t.line.0 l t.tok tok s.0 (join_strings ps) s.1 ∙ ap (λ (w : List TokenData). join_strings (parts_of w ++ ps)) s.2
joined_same (t ∷ u ∷ ts) tok d l ps e =
    let s = some_of (λ (w : List TokenData). t ∷ w) (join_last (u ∷ ts) tok) d e in
    ap (join_first (part_of t)) (joined_same (u ∷ ts) tok s.0 l ps s.1) ∙ ap (λ (w : List TokenData). join_strings (parts_of w ++ ps)) s.2

-- what joining leaves
abbrev FirstOf : (TokData → Type 0) → List TokenData → Type 0
FirstOf P [] = ⊤
FirstOf P (t ∷ ts) = P t.tok

record Kept (k : ℕ) (done d : List TokenData) : Type 0 where
  placed : Placed k done → Placed k d
  long : length d ≡ length done
  apart : Apart done → Apart d
  before : (a : TokData) → FirstOf (λ b. join_tok a b ≡ None) done → FirstOf (λ b. join_tok a b ≡ None) d

cons_apart : (t : TokenData) (d : List TokenData) → FirstOf (λ b. join_tok t.tok b ≡ None) d → Apart d → Apart (t ∷ d)
cons_apart t [] f a = tt
cons_apart t (u ∷ ts) f a = (f, a)

still_apart : (a x y c : TokData) → join_tok x y ≡ Some c → join_tok a x ≡ None → join_tok a c ≡ None
still_apart a (string_token x) (string_token y) c e h = let same : string_token (x ++ y) ≡ c = cc in subst (λ z. join_tok a z ≡ None) same (string_apart a x (x ++ y) h)
still_apart a (string_token x) _ c e h = absurd (cc)
still_apart a _ y c e h = absurd (cc)

kept : (k : ℕ) (done : List TokenData) (tok : TokData) (d : List TokenData) → join_last done tok ≡ Some d → Kept k done d
kept k [] tok d e = absurd (cc)
kept k (t ∷ []) tok d e =
    let s = some_of (λ c. with_tok t c ∷ []) (join_tok t.tok tok) d e in
    subst (Kept k (t ∷ [])) s.2 (record { placed = (λ p. p); long = refl; apart = (λ a. tt); before = (λ a h. still_apart a t.tok tok s.0 s.1 h) })
kept k (t ∷ u ∷ ts) tok d e =
    let s = some_of (λ (w : List TokenData). t ∷ w) (join_last (u ∷ ts) tok) d e in
    let ih = kept (suc k) (u ∷ ts) tok s.0 s.1 in
    subst (Kept k (t ∷ u ∷ ts)) s.2
    (record { placed = (λ p. (p.0, ih.placed p.1)); long = ap suc ih.long; apart = (λ a. cons_apart t s.0 (ih.before t.tok a.0) (ih.apart a.1)); before = (λ a h. h) })

-- ---- numbering

abbrev with_done : List TokenData → Result (List TokenData) Stop → Result (List TokenData) Stop
with_done [] r = r
with_done (t ∷ ts) r = with_token t (with_done ts r)

with_done_ok : (done ts : List TokenData) → with_done done (Ok ts) ≡ Ok (done ++ ts)
with_done_ok [] ts = refl
with_done_ok (t ∷ done) ts = ap (with_token t) (with_done_ok done ts)

with_done_err : (done : List TokenData) (stop : Stop) → with_done done (Err stop) ≡ Err stop
with_done_err [] stop = refl
with_done_err (t ∷ done) stop = ap (with_token t) (with_done_err done stop)

numbered_done : (k last : ℕ) (done : List TokenData) (rest : List Part) → Placed k done → k + length done ≤ max_tokens
    → numbered k last (parts_of done ++ rest) ≡ with_done done (numbered (k + length done) last rest)
numbered_done k last [] rest p h = let n : k ≡ k + 0 = omega arith in ap (λ j. numbered j last rest) n
numbered_done k last (t ∷ done) rest p h =
    let other : (k == max_tokens) ≡ false = ne_eqb k max_tokens (λ e. absurd (omega arith)) in
    let n : suc k + length done ≡ k + suc (length done) = omega arith in
    ap (λ (x : Bool). if x then Err (Limit L2) else with_token (token t.tok t.line.0 k) (numbered (suc k) last (parts_of done ++ rest))) other
    ∙ ap (λ j. with_token (token t.tok t.line.0 j) (numbered (suc k) last (parts_of done ++ rest))) (sym p.0)
    ∙ ap (with_token t) (numbered_done (suc k) last done rest p.1 (omega arith) ∙ ap (λ j. with_done done (numbered j last rest)) n)

-- ---- the head

abbrev first_line : Text
first_line = codes "#include <ecpglib.h>"

abbrev second_line : Text
second_line = codes "#include <sqlca.h>"

headless : (qs : List Part) → without_head false qs ≡ qs
headless [] = refl
headless (p ∷ []) = refl
headless (p ∷ q ∷ qs) = refl

abbrev NotHead : List Part → Type 0
NotHead [] = ⊤
NotHead (p ∷ []) = ⊤
NotHead (p ∷ q ∷ qs) = (is_include_of first_line p.tok && is_include_of second_line q.tok) ≡ false

not_head : (head : Bool) (qs : List Part) → (head ≡ true → NotHead qs) → without_head head qs ≡ qs
not_head false qs h = headless qs
not_head true [] h = refl
not_head true (p ∷ []) h = refl
not_head true (p ∷ q ∷ qs) h = ap (λ (x : Bool). if x then qs else p ∷ q ∷ qs) (h refl)

and_false : (x : Bool) → (x && false) ≡ false
and_false true = refl
and_false false = refl

and_weaker : (x y z : Bool) → (y ≡ false → z ≡ false) → (x && y) ≡ false → (x && z) ≡ false
and_weaker true y z f e = f e
and_weaker false y z f e = refl

-- ---- one part after the other

abbrev pub whole : Taken → List Part → ℕ → Result (List TokenData) Stop
whole s parts last = numbered 0 last (without_head s.head (join_strings (parts_of s.done ++ parts)))

abbrev pub finish : ℕ → Result Taken Stop → Result (List TokenData) Stop
finish last (Ok s) = Ok (with_end_token last s)
finish last (Err stop) = Err stop

-- the whole, where nothing is passed over
whole_is : (s : Taken) (rest qs : List Part) (last : ℕ) → Good s → join_strings rest ≡ qs → Loose s.done qs → (s.head ≡ true → NotHead (parts_of s.done ++ qs))
    → whole s rest last ≡ with_done s.done (numbered (length s.done) last qs)
whole_is s rest qs last good e loose plain =
    let all : join_strings (parts_of s.done ++ rest) ≡ parts_of s.done ++ qs = join_done s.done rest good.apart (subst (Loose s.done) (sym e) loose) ∙ ap (λ (w : List Part). parts_of s.done ++ w) e in
    let n : 0 + length s.done ≡ length s.done = omega arith in
    ap (λ (w : List Part). numbered 0 last (without_head s.head w)) all ∙ ap (numbered 0 last) (not_head s.head (parts_of s.done ++ qs) plain)
    ∙ numbered_done 0 last s.done qs good.placed (omega (arith, good.few)) ∙ ap (λ j. with_done s.done (numbered j last qs)) n

short_end : (done : List TokenData) → length done < 2 → NotHead (parts_of done ++ [])
short_end [] h = tt
short_end (t ∷ []) h = tt
short_end (t ∷ u ∷ ts) h = absurd (omega arith)

at_last : (s : Taken) (last : ℕ) → Good s → Ok (with_end_token last s) ≡ whole s [] last
at_last s last good =
    sym (whole_is s [] [] last good refl (loose_all s.done [] (λ a. tt)) (λ h. short_end s.done (good.short h)) ∙ with_done_ok s.done (token end_token last (length s.done) ∷ []))

fault_first : (l : ℕ) (kind : FaultKind) (qs : List Part) → join_first (record { line = l; tok = Err kind }) qs ≡ record { line = l; tok = Err kind } ∷ qs
fault_first l kind [] = refl
fault_first l kind (q ∷ qs) = refl

fault_head : (done : List TokenData) (l : ℕ) (kind : FaultKind) (qs : List Part) → length done < 2 → NotHead (parts_of done ++ record { line = l; tok = Err kind } ∷ qs)
fault_head [] l kind [] h = tt
fault_head [] l kind (q ∷ qs) h = refl
fault_head (t ∷ []) l kind qs h = and_false (is_include_of first_line (Ok t.tok))
fault_head (t ∷ u ∷ ts) l kind qs h = absurd (omega arith)

at_fault : (s : Taken) (l : ℕ) (kind : FaultKind) (ps : List Part) (last : ℕ) → Good s → Err (Refused kind (record { 0 = l })) ≡ whole s (record { line = l; tok = Err kind } ∷ ps) last
at_fault s l kind ps last good =
    sym (whole_is s (record { line = l; tok = Err kind } ∷ ps) (record { line = l; tok = Err kind } ∷ join_strings ps) last good (fault_first l kind (join_strings ps))
    (loose_all s.done (record { line = l; tok = Err kind } ∷ join_strings ps) (λ a. refl)) (λ h. fault_head s.done l kind (join_strings ps) (good.short h))
    ∙ with_done_err s.done (Refused kind (record { 0 = l })))

-- the last token is no string, or this is none
abbrev LooseTok : List TokenData → TokData → Type 0
LooseTok [] tok = ⊤
LooseTok (t ∷ []) tok = join_tok t.tok tok ≡ None
LooseTok (t ∷ u ∷ ts) tok = LooseTok (u ∷ ts) tok

not_joined : (done : List TokenData) (tok : TokData) → join_last done tok ≡ None → LooseTok done tok
not_joined [] tok e = tt
not_joined (t ∷ []) tok e = none_of (λ c. with_tok t c ∷ []) (join_tok t.tok tok) e
not_joined (t ∷ u ∷ ts) tok e = not_joined (u ∷ ts) tok (none_of (λ (w : List TokenData). t ∷ w) (join_last (u ∷ ts) tok) e)

loose_first : (done : List TokenData) (tok : TokData) (l : ℕ) (first : TokData) (others : List Part) → ((a : TokData) → join_tok a tok ≡ None → join_tok a first ≡ None) → LooseTok done tok
    → Loose done (record { line = l; tok = Ok first } ∷ others)
loose_first [] tok l first others h loose = tt
loose_first (t ∷ []) tok l first others h loose = h t.tok loose
loose_first (t ∷ u ∷ ts) tok l first others h loose = loose_first (u ∷ ts) tok l first others h loose

at_limit : (s : Taken) (l : ℕ) (tok : TokData) (ps : List Part) (last : ℕ) → Good s → LooseTok s.done tok → max_tokens ≤ length s.done → Err (Limit L2) ≡ whole s (record { line = l; tok = Ok tok } ∷ ps) last
at_limit s l tok ps last good loose full =
    let j = joined l tok (join_strings ps) in
    let qs : List Part = record { line = l; tok = Ok j.first } ∷ j.others in
    let here : (length s.done == max_tokens) ≡ true = eq-eqb (length s.done) max_tokens (omega (arith, good.few)) in
    sym (whole_is s (record { line = l; tok = Ok tok } ∷ ps) qs last good j.is (loose_first s.done tok l j.first j.others j.apart loose) (λ h. let less = good.short h in absurd (omega (arith, less)))
    ∙ ap (λ (x : Bool). with_done s.done (if x then Err (Limit L2) else with_token (token j.first l (length s.done)) (numbered (suc (length s.done)) last j.others))) here
    ∙ with_done_err s.done (Limit L2))

-- ---- a token more

placed_more : (k : ℕ) (done : List TokenData) (t : TokenData) → Placed k done → t.place ≡ k + length done → Placed k (done ++ t ∷ [])
placed_more k [] t p e = (omega (arith, e), tt)
placed_more k (u ∷ done) t p e = (p.0, placed_more (suc k) done t p.1 (omega (arith, e)))

apart_more : (done : List TokenData) (t : TokenData) → Apart done → LooseTok done t.tok → Apart (done ++ t ∷ [])
apart_more [] t a l = tt
apart_more (u ∷ []) t a l = (l, tt)
apart_more (u ∷ v ∷ ts) t a l = (a.0, apart_more (v ∷ ts) t a.1 l)

abbrev more : Taken → ℕ → TokData → List TokenData
more s l tok = s.done ++ token tok l (length s.done) ∷ []

whole_more : (s : Taken) (l : ℕ) (tok : TokData) (ps : List Part) (last : ℕ) → whole (record { head = s.head; done = more s l tok }) ps last ≡ whole s (record { line = l; tok = Ok tok } ∷ ps) last
whole_more s l tok ps last =
    let same : parts_of (more s l tok) ++ ps ≡ parts_of s.done ++ record { line = l; tok = Ok tok } ∷ ps =
    ap (λ (w : List Part). w ++ ps) (parts_append s.done (token tok l (length s.done) ∷ [])) ∙ append_assoc (parts_of s.done) (record { line = l; tok = Ok tok } ∷ []) ps in
    ap (λ (w : List Part). numbered 0 last (without_head s.head (join_strings w))) same

passed : (t u : TokenData) (qs : List Part) → (is_include_of first_line (Ok t.tok) && is_include_of second_line (Ok u.tok)) ≡ true → without_head true (join_first (part_of t) (join_first (part_of u) qs)) ≡ qs
passed t u qs e = step t.tok u.tok e
  where
    ends : (x y : Text) (qs : List Part) → (is_include_of first_line (Ok (include_token x)) && is_include_of second_line (Ok (include_token y))) ≡ true
        → without_head true (join_first (record { line = t.line.0; tok = Ok (include_token x) }) (join_first (record { line = u.line.0; tok = Ok (include_token y) }) qs)) ≡ qs
    ends x y [] e = ap (λ (b : Bool). if b then [] else record { line = t.line.0; tok = Ok (include_token x) } ∷ record { line = u.line.0; tok = Ok (include_token y) } ∷ []) e
    ends x y (q ∷ qs) e = ap (λ (b : Bool). if b then q ∷ qs else record { line = t.line.0; tok = Ok (include_token x) } ∷ record { line = u.line.0; tok = Ok (include_token y) } ∷ q ∷ qs) e

    step : (a b : TokData) → (is_include_of first_line (Ok a) && is_include_of second_line (Ok b)) ≡ true
        → without_head true (join_first (record { line = t.line.0; tok = Ok a }) (join_first (record { line = u.line.0; tok = Ok b }) qs)) ≡ qs
    step (include_token x) (include_token y) e = ends x y qs e
    step (include_token x) b e = absurd (let k = and_false (is_include_of first_line (Ok (include_token x))) in cc)
    step a b e = absurd (cc)

kept_head : (t u : TokenData) (qs : List Part) → join_tok t.tok u.tok ≡ None → (is_include_of first_line (Ok t.tok) && is_include_of second_line (Ok u.tok)) ≡ false
    → without_head true (join_first (part_of t) (join_first (part_of u) qs)) ≡ join_first (part_of t) (join_first (part_of u) qs)
kept_head t u qs a e =
    let j = joined u.line.0 u.tok qs in
    let is : join_first (part_of t) (join_first (part_of u) qs) ≡ part_of t ∷ record { line = u.line.0; tok = Ok j.first } ∷ j.others =
    ap (join_first (part_of t)) j.is ∙ first_apart t.line.0 t.tok (record { line = u.line.0; tok = Ok j.first } ∷ j.others) (j.apart t.tok a) in
    subst (λ (w : List Part). without_head true w ≡ w) (sym is)
    (ap (λ (b : Bool). if b then j.others else part_of t ∷ record { line = u.line.0; tok = Ok j.first } ∷ j.others)
    (and_weaker (is_include_of first_line (Ok t.tok)) (is_include_of second_line (Ok u.tok)) (is_include_of second_line (Ok j.first)) (λ h. j.plain second_line h) e))

-- past the head, or not
record Next (old : Taken) (s : Taken) (parts : List Part) (last : ℕ) : Type 0 where
  good : Good s
  same : whole s parts last ≡ whole old parts last

at_two : (done : List TokenData) (ps : List Part) (last : ℕ) → length done ≡ 2 → Placed 0 done → Apart done → Next (record { head = true; done = done }) (record { head = false; done = if is_head done then [] else done }) ps last
at_two [] ps last n p a = absurd (omega arith)
at_two (t ∷ []) ps last n p a = absurd (omega arith)
at_two (t ∷ u ∷ []) ps last n p a = step (is_include_of first_line (Ok t.tok) && is_include_of second_line (Ok u.tok)) refl
  where
    step : (b : Bool) → (is_include_of first_line (Ok t.tok) && is_include_of second_line (Ok u.tok)) ≡ b
        → Next (record { head = true; done = t ∷ u ∷ [] }) (record { head = false; done = if b then [] else t ∷ u ∷ [] }) ps last
    step true e = record {
      good = record { placed = tt; few = omega arith; apart = tt; short = (λ h. absurd (cc)) };
      same = ap (numbered 0 last) (headless (join_strings ps) ∙ sym (passed t u (join_strings ps) e));
    }
    step false e = record {
      good = record { placed = p; few = omega arith; apart = a; short = (λ h. absurd (cc)) };
      same = ap (numbered 0 last) (headless (join_first (part_of t) (join_first (part_of u) (join_strings ps))) ∙ sym (kept_head t u (join_strings ps) a.0 e));
    }
at_two (t ∷ u ∷ v ∷ ts) ps last n p a = absurd (omega arith)

past_is : (head : Bool) (done : List TokenData) (ps : List Part) (last : ℕ) → Placed 0 done → length done ≤ max_tokens → Apart done → (head ≡ true → length done ≤ 2)
    → Next (record { head = head; done = done }) (past_head head done) ps last
past_is head done ps last p few a short = step head (length done == 2) refl short
  where
    step : (h b : Bool) → (length done == 2) ≡ b → (h ≡ true → length done ≤ 2)
        → Next (record { head = h; done = done }) (if h && b then record { head = false; done = if is_head done then [] else done } else record { head = h; done = done }) ps last
    step false b e s = record { good = record { placed = p; few = few; apart = a; short = (λ h. absurd (cc)) }; same = refl }
    step true true e s = at_two done ps last (eqb-true (length done) 2 e) p a
    step true false e s = record { good = record { placed = p; few = few; apart = a; short = (λ h. let other : length done ≡ 2 → ⊥ = λ k. let t = eq-eqb (length done) 2 k in cc in let least = s refl in omega arith) }; same = refl }

pub fed_whole : (parts : List Part) (s : Taken) (last : ℕ) → Good s → finish last (fed_all s parts) ≡ whole s parts last
fed_whole [] s last good = at_last s last good
fed_whole (p ∷ ps) s last good = part p.tok (λ n g. fed_whole ps n last g)
  where
    add : (tok : TokData) → ((n : Taken) → Good n → finish last (fed_all n ps) ≡ whole n ps last) → LooseTok s.done tok → (b : Bool) → nat_le max_tokens (length s.done) ≡ b
        → finish last (and_then (if b then Err (Limit L2) else Ok (past_head s.head (more s p.line tok))) (λ n. fed_all n ps)) ≡ whole s (record { line = p.line; tok = Ok tok } ∷ ps) last
    add tok ih loose true e = at_limit s p.line tok ps last good loose (at_least (length s.done) e)
      where
        at_least : (n : ℕ) → nat_le max_tokens n ≡ true → max_tokens ≤ n
        at_least n e = grind (arith, nat_tests)
    add tok ih loose false e =
        let less : length s.done < max_tokens = below (length s.done) e in
        let long : length (more s p.line tok) ≡ length s.done + 1 = length-append s.done (token tok p.line (length s.done) ∷ []) in
        let n : length s.done ≡ 0 + length s.done = omega arith in
        let next = past_is s.head (more s p.line tok) ps last (placed_more 0 s.done (token tok p.line (length s.done)) good.placed n) (omega (arith, long)) (apart_more s.done (token tok p.line (length s.done)) good.apart loose)
        (λ h. let short = good.short h in omega (arith, long)) in
        ih (past_head s.head (more s p.line tok)) next.good ∙ next.same ∙ whole_more s p.line tok ps last
      where
        below : (n : ℕ) → nat_le max_tokens n ≡ false → n < max_tokens
        below n e = grind (arith, nat_tests)

    join : (tok : TokData) → ((n : Taken) → Good n → finish last (fed_all n ps) ≡ whole n ps last) → (o : Option (List TokenData)) → join_last s.done tok ≡ o
        → finish last (and_then (elim o as (λ _. Result Taken Stop) [ Some done ↦ Ok (record { head = s.head; done = done }) | None ↦ added s p.line tok ]) (λ n. fed_all n ps)) ≡ whole s (record { line = p.line; tok = Ok tok } ∷ ps) last
    join tok ih (Some d) e =
        let k = kept 0 s.done tok d e in
        let good' : Good (record { head = s.head; done = d }) = record {
          placed = k.placed good.placed;
          few = omega (arith, k.long, good.few);
          apart = k.apart good.apart;
          short = (λ h. let short = good.short h in omega (arith, k.long, short));
        } in
        ih (record { head = s.head; done = d }) good' ∙ ap (λ (w : List Part). numbered 0 last (without_head s.head w)) (sym (joined_same s.done tok d p.line ps e))
    join tok ih None e = add tok ih (not_joined s.done tok e) (nat_le max_tokens (length s.done)) refl

    part : (r : Result TokData FaultKind) → ((n : Taken) → Good n → finish last (fed_all n ps) ≡ whole n ps last)
        → finish last (and_then (fed s p.line r) (λ n. fed_all n ps)) ≡ whole s (record { line = p.line; tok = r } ∷ ps) last
    part (Ok tok) ih = join tok ih (join_last s.done tok) refl
    part (Err kind) ih = at_fault s p.line kind ps last good

pub at_start : (head : Bool) → Good (record { head = head; done = [] })
at_start head = record { placed = tt; few = omega arith; apart = tt; short = (λ h. omega arith) }
