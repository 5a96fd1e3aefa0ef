-- Hosts, INTO lists and cuts of a statement for the server are read by the readers.
use Rattle.std.proofs.Common.{◌≡◌, ℕ, zero, suc, Bool, true, false, List, [], ◌∷◌, ◌++◌, length, drop, ◌-◌, refl, ap, sym, ◌∙◌, codes, Option, Some, None, append_assoc, append-nil}
use Rattle.std.specs.Prelude.{◌&&◌, ◌||◌, ◌==◌}
use Rattle.ec_ctypes.specs.trees.Embedded.{HostData, TextArgData, word_arg, OutsData, listed_outs, area_outs, PartData, bytes_part, host_part, server_text, trans, declare_cursor, EmbKindData}
use Rattle.ec_ctypes.specs.trees.Exprs.{ExprData, identifier}
use Rattle.ec_embedded.specs.shapes.ReadShapes.{done, stopped, stuck, over_limit, and_then, counting, taking, read_one}
use Rattle.ec_embedded.proofs.shapes_lemmas.Made.{made, same_next, made_first}
use Rattle.ec_language.specs.Letters.{Text}
use Rattle.ec_language.specs.SqlTokens.{SqlToken}
use Rattle.ec_embedded.specs.References.{unquoted, text_of_host}
use Rattle.ec_embedded.specs.ServerText.{Tokens, Reading, begins_host, begins_indicator, begins_area, begins_into, begins_more, suffixes, reference_at, with_indicator, host_at, more_hosts, no_host, text_at, into_list, Cut, token, host, into, cons_cut, cuts, blank, put, parts, outs_in, depth_behind, server_at, plain_cuts, transaction_at, bytes_in}
use Rattle.ec_embedded.specs.Terminals.{alphabet, Counts, Terminal, step_by, Begins, input, reference, is, keyword, any_word, glued_word, sign, colon, plain_quote}
use Rattle.ec_references.specs.Readers.{Reader, returns, ◌>>=◌, ◌>>◌, taken, if_next, turns_from}
use Rattle.ec_server_text.proofs.Longest.{both_true, taken_there, first_way, other_way, long_is}
use Rattle.ec_server_text.specs.Readers as r
use Rattle.ec_server_text.specs.Readers.{Writing, Cutting, goes_on, one_cut, cuts_within, is_into, into_cut, host_cut, token_cut, with_token, with_host, with_into, with_bytes, if_host, one_plain, plain_within}

passed : {A : Type 0} (t : Terminal) (n : Counts) (a : SqlToken) (w : Tokens) (f : SqlToken → Counts → Tokens → Reading A) → is t a ≡ true → and_then (read_one alphabet t n (a ∷ w)) f ≡ and_then (counting alphabet t a w (step_by t.begins n)) f
passed t n a w f e = ap (λ o. and_then o f) (taken_there t n a w e)

missed : {A : Type 0} (t : Terminal) (n : Counts) (a : SqlToken) (w : Tokens) (f : SqlToken → Counts → Tokens → Reading A) → is t a ≡ false → and_then (read_one alphabet t n (a ∷ w)) f ≡ stuck (a ∷ w)
missed t n a w f e = ap (λ c. and_then (taking alphabet t n a w c) f) e

second_false : (x y : Bool) → (x && y) ≡ false → x ≡ true → y ≡ false
second_false true y e f = e
second_false false y e f = absurd (cc)

-- ---- hosts

reference_is : (b : Begins) (n : Counts) (w : Tokens) → begins_host w ≡ true → reference_at b n w ≡ r.long_reference b n w
unfolding reference_at r.long_reference
reference_is b n [] h = absurd (cc)
reference_is b n (a ∷ []) h = absurd (cc)
reference_is b n (a ∷ c ∷ w) h = go (step_by b n) ∙ sym (passed (colon b) n a (c ∷ w) behind p.0)
  where
    p : (is (sign (codes ":")) a ≡ true) × (is glued_word c ≡ true)
    p = both_true (is (sign (codes ":")) a) (is glued_word c) h

    behind : SqlToken → Counts → Tokens → Reading ExprData
    behind v m q = and_then (read_one alphabet glued_word m q) (λ t m q. r.long_suffixes (identifier t.bytes) m q)

    go : (o : Option Counts) → elim o as (λ _. Reading ExprData) [ None ↦ over_limit (a ∷ c ∷ w) | Some m ↦ suffixes m (identifier c.bytes) w ] ≡ and_then (counting alphabet (colon b) a (c ∷ w) o) behind
    go None = refl
    go (Some m) = long_is (identifier c.bytes) m w ∙ sym (passed glued_word m c w (λ t m q. r.long_suffixes (identifier t.bytes) m q) p.1)

abbrev with : ExprData → Option ExprData → Counts → Tokens → Reading HostData
with e i m q = done (record { value = e; indicator = i }) m q

indicated_is : (e : ExprData) (o p : Reading ExprData) → o ≡ p → and_then o (λ i m q. with e (Some i) m q) ≡ and_then (and_then p (λ i m q. done (Some i) m q)) (with e)
indicated_is e (done v m q) p h = ap (λ x. and_then (and_then x (λ i m q. done (Some i) m q)) (with e)) h
indicated_is e (stopped s) p h = ap (λ x. and_then (and_then x (λ i m q. done (Some i) m q)) (with e)) h

abbrev spelled : Reader (Option ExprData)
spelled = taken (keyword (codes "INDICATOR")) >> (r.long_reference reference >>= (λ i. returns (Some i)))

spelled_is : (e : ExprData) (n : Counts) (w : Tokens) → begins_indicator w ≡ true → and_then (reference_at reference n (drop 1 w)) (λ i m q. with e (Some i) m q) ≡ and_then (spelled n w) (with e)
spelled_is e n [] h = absurd (cc)
spelled_is e n (a ∷ w) h = indicated_is e _ _ (reference_is reference n w p.1) ∙ ap (λ o. and_then o (with e)) (sym (passed (keyword (codes "INDICATOR")) n a w (λ v m q. and_then (r.long_reference reference m q) (λ i m q. done (Some i) m q)) p.0))
  where
    p : (is (keyword (codes "INDICATOR")) a ≡ true) × (begins_host w ≡ true)
    p = both_true (is (keyword (codes "INDICATOR")) a) (begins_host w) h

indicator_is : (e : ExprData) (n : Counts) (w : Tokens) → with_indicator e n w ≡ and_then (r.long_indicator n w) (with e)
unfolding r.long_indicator
indicator_is e n w = go (begins_host w) refl (begins_indicator w) refl
  where
    go : (t : Bool) → begins_host w ≡ t → (s : Bool) → begins_indicator w ≡ s
        → elim t as (λ _. Reading HostData) [
          | true ↦ and_then (reference_at reference n w) (λ i m q. with e (Some i) m q)
          | false ↦ elim s as (λ _. Reading HostData) [ true ↦ and_then (reference_at reference n (drop 1 w)) (λ i m q. with e (Some i) m q) | false ↦ with e None n w ]
        ]
        ≡ and_then (elim t as (λ _. Reading (Option ExprData)) [
          | true ↦ and_then (r.long_reference reference n w) (λ i m q. done (Some i) m q)
          | false ↦ elim s as (λ _. Reading (Option ExprData)) [ true ↦ spelled n w | false ↦ done None n w ]
        ]) (with e)
    go true p s q = indicated_is e _ _ (reference_is reference n w p)
    go false p true q = spelled_is e n w q
    go false p false q = refl

pub host_is : (b : Begins) (n : Counts) (w : Tokens) → begins_host w ≡ true → host_at b n w ≡ r.long_host b n w
unfolding host_at r.long_host
host_is b n w h = ap (λ o. and_then o with_indicator) (reference_is b n w h) ∙ same_next (r.long_reference b n w) with_indicator (λ e m q. and_then (r.long_indicator m q) (with e)) indicator_is

-- ---- names

-- Where no host begins, its reader stops at a token that isn't a `:`, or else at the one behind it.
no_host_is : (n : Counts) (t : SqlToken) (w : Tokens) → begins_host (t ∷ w) ≡ false → no_host (t ∷ w) ≡ and_then (r.long_host reference n (t ∷ w)) (λ h m q. done (text_of_host h) m q)
unfolding r.long_host r.long_reference
no_host_is n t w h = go (is (sign (codes ":")) t) refl
  where
    with_suffixes : SqlToken → Counts → Tokens → Reading ExprData
    with_suffixes u m q = r.long_suffixes (identifier u.bytes) m q

    behind : SqlToken → Counts → Tokens → Reading ExprData
    behind v m q = and_then (read_one alphabet glued_word m q) with_suffixes

    with_indicators : Reading ExprData → Reading TextArgData
    with_indicators o = and_then (and_then o (λ e m q. and_then (r.long_indicator m q) (λ i m q. done (record { value = e; indicator = i }) m q))) (λ h m q. done (text_of_host h) m q)

    wordless : (q : Tokens) → begins_host (t ∷ q) ≡ false → is (sign (codes ":")) t ≡ true → (m : Counts) → stuck q ≡ with_indicators (behind t m q)
    wordless [] e c m = refl
    wordless (b ∷ q) e c m = ap with_indicators (sym (missed glued_word m b q with_suffixes (second_false (is (sign (codes ":")) t) (is glued_word b) e c)))

    go : (x : Bool) → is (sign (codes ":")) t ≡ x → elim x as (λ _. Reading TextArgData) [ true ↦ stuck w | false ↦ stuck (t ∷ w) ] ≡ with_indicators (and_then (read_one alphabet (colon reference) n (t ∷ w)) behind)
    go true e = wordless w h e (record { inputs = n.inputs; suffixes = 0 }) ∙ ap with_indicators (sym (passed (colon reference) n t w behind e))
    go false e = ap with_indicators (sym (missed (colon reference) n t w behind e))

text_is : (n : Counts) (w : Tokens) → text_at n w ≡ r.long_text n w
unfolding r.long_text r.long_host r.long_reference
text_is n [] = refl
text_is n (t ∷ w) = go (is any_word t) refl
  where
    word_way : Reader TextArgData
    word_way = taken any_word >>= (λ u. returns (word_arg u.bytes))

    quote_way : Reader TextArgData
    quote_way = taken plain_quote >>= (λ u. returns (word_arg (unquoted u.bytes)))

    host_way : Reader TextArgData
    host_way = r.long_host reference >>= (λ h. returns (text_of_host h))

    by_host : (x : Bool) → begins_host (t ∷ w) ≡ x → elim x as (λ _. Reading TextArgData) [ true ↦ and_then (host_at reference n (t ∷ w)) (λ h m q. done (text_of_host h) m q) | false ↦ no_host (t ∷ w) ] ≡ host_way n (t ∷ w)
    by_host true e = ap (λ o. and_then o (λ h m q. done (text_of_host h) m q)) (host_is reference n (t ∷ w) e)
    by_host false e = no_host_is n t w e

    at_host : Reading TextArgData
    at_host = elim (begins_host (t ∷ w)) as (λ _. Reading TextArgData) [ true ↦ and_then (host_at reference n (t ∷ w)) (λ h m q. done (text_of_host h) m q) | false ↦ no_host (t ∷ w) ]

    by_quote : (x : Bool) → is plain_quote t ≡ x → elim x as (λ _. Reading TextArgData) [ true ↦ done (word_arg (unquoted t.bytes)) n w | false ↦ at_host ] ≡ if_next plain_quote quote_way host_way n (t ∷ w)
    by_quote true e = sym (passed plain_quote n t w (λ u m q. done (word_arg (unquoted u.bytes)) m q) e) ∙ sym (first_way plain_quote quote_way host_way n t w e)
    by_quote false e = by_host (begins_host (t ∷ w)) refl ∙ sym (other_way plain_quote quote_way host_way n t w e)

    at_quote : Reading TextArgData
    at_quote = elim (is plain_quote t) as (λ _. Reading TextArgData) [ true ↦ done (word_arg (unquoted t.bytes)) n w | false ↦ at_host ]

    by_word : (x : Bool) → is any_word t ≡ x → elim x as (λ _. Reading TextArgData) [ true ↦ done (word_arg t.bytes) n w | false ↦ at_quote ] ≡ if_next any_word word_way (if_next plain_quote quote_way host_way) n (t ∷ w)
    by_word true e = sym (passed any_word n t w (λ u m q. done (word_arg u.bytes) m q) e) ∙ sym (first_way any_word word_way (if_next plain_quote quote_way host_way) n t w e)
    by_word false e = by_quote (is plain_quote t) refl ∙ sym (other_way any_word word_way (if_next plain_quote quote_way host_way) n t w e)

    go : (x : Bool) → is any_word t ≡ x → text_at n (t ∷ w) ≡ if_next any_word word_way (if_next plain_quote quote_way host_way) n (t ∷ w)
    go x e = by_word (is any_word t) refl

-- ---- the list of an INTO

made_head : (o : Reading (List HostData)) (hs : List HostData) (h : HostData) → made (λ xs. hs ++ xs) (and_then o (λ xs m q. done (h ∷ xs) m q)) ≡ made (λ xs. (hs ++ h ∷ []) ++ xs) o
made_head (done xs m q) hs h = ap (λ x. done x m q) (sym (append_assoc hs (h ∷ []) xs))
made_head (stopped s) hs h = refl

hosts_is : (k : ℕ) (n : Counts) (w : Tokens) (hs : List HostData) → made (λ xs. hs ++ xs) (more_hosts k n w) ≡ turns_from begins_more r.further_host k hs n w
hosts_is zero n w hs = ap (λ x. done x n w) (append-nil hs)
hosts_is (suc k) n w hs = go w (begins_more w) refl (λ m q ys. hosts_is k m q ys)
  where
    first : (o : Reading HostData) → ((m : Counts) (q : Tokens) (ys : List HostData) → made (λ xs. ys ++ xs) (more_hosts k m q) ≡ turns_from begins_more r.further_host k ys m q)
        → made (λ xs. hs ++ xs) (and_then o (λ h m q. and_then (more_hosts k m q) (λ xs i u. done (h ∷ xs) i u))) ≡ and_then (and_then o (λ h m q. done (hs ++ h ∷ []) m q)) (λ ys m q. turns_from begins_more r.further_host k ys m q)
    first (done h m q) again = made_head (more_hosts k m q) hs h ∙ again m q (hs ++ h ∷ [])
    first (stopped s) again = refl

    further : (a : SqlToken) (v : Tokens) → begins_more (a ∷ v) ≡ true → and_then (host_at reference n v) (λ h m q. done (hs ++ h ∷ []) m q) ≡ r.further_host hs n (a ∷ v)
    further a v e = ap (λ o. and_then o (λ h m q. done (hs ++ h ∷ []) m q)) (host_is reference n v (both_true (is (sign (codes ",")) a) (begins_host v) e).1)
        ∙ sym (passed (sign (codes ",")) n a v (λ t m q. and_then (r.long_host reference m q) (λ h m q. done (hs ++ h ∷ []) m q)) (both_true (is (sign (codes ",")) a) (begins_host v) e).0)

    go : (v : Tokens) (t : Bool) → begins_more v ≡ t → ((m : Counts) (q : Tokens) (ys : List HostData) → made (λ xs. ys ++ xs) (more_hosts k m q) ≡ turns_from begins_more r.further_host k ys m q)
        → made (λ xs. hs ++ xs) (elim t as (λ _. Reading (List HostData)) [ true ↦ and_then (host_at reference n (drop 1 v)) (λ h m q. and_then (more_hosts k m q) (λ xs i u. done (h ∷ xs) i u)) | false ↦ done [] n v ])
        ≡ elim t as (λ _. Reading (List HostData)) [ true ↦ and_then (r.further_host hs n v) (λ ys m q. turns_from begins_more r.further_host k ys m q) | false ↦ done hs n v ]
    go v false e again = ap (λ x. done x n v) (append-nil hs)
    go [] true e again = absurd (cc)
    go (a ∷ v) true e again = first (host_at reference n v) again ∙ ap (λ o. and_then o (λ ys m q. turns_from begins_more r.further_host k ys m q)) (further a v e)

all_hosts_is : (h : HostData) (m : Counts) (q : Tokens) → and_then (more_hosts (length q) m q) (λ hs i u. done (listed_outs (h ∷ hs)) i u) ≡ and_then (r.further_hosts (h ∷ []) m q) (λ hs i u. done (listed_outs hs) i u)
unfolding r.further_hosts
all_hosts_is h m q = sym (made_first (more_hosts (length q) m q) (λ xs. (h ∷ []) ++ xs) (λ hs i u. done (listed_outs hs) i u)) ∙ ap (λ o. and_then o (λ hs i u. done (listed_outs hs) i u)) (hosts_is (length q) m q (h ∷ []))

area_is : (n : Counts) (w : Tokens) → begins_area w ≡ true → text_at n (drop 2 w) ≡ r.long_area n w
area_is n [] e = absurd (cc)
area_is n (a ∷ []) e = absurd (cc)
area_is n (a ∷ b ∷ w) e = text_is n w ∙ sym (passed (keyword (codes "DESCRIPTOR")) n b w (λ t m q. r.long_text m q) p.1) ∙ sym (passed (keyword (codes "SQL")) n a (b ∷ w) (λ t m q. and_then (read_one alphabet (keyword (codes "DESCRIPTOR")) m q) (λ t m q. r.long_text m q)) p.0)
  where
    p : (is (keyword (codes "SQL")) a ≡ true) × (is (keyword (codes "DESCRIPTOR")) b ≡ true)
    p = both_true (is (keyword (codes "SQL")) a) (is (keyword (codes "DESCRIPTOR")) b) e

outputs_is : (n : Counts) (w : Tokens) → (begins_host w || begins_area w) ≡ true → into_list n w ≡ r.outputs n w
unfolding into_list r.outputs
outputs_is n w h = go (begins_area w) refl
  where
    host_there : (s t : Bool) → (s || t) ≡ true → t ≡ false → s ≡ true
    host_there true t e f = refl
    host_there false t e f = sym f ∙ e

    go : (t : Bool) → begins_area w ≡ t → elim t as (λ _. Reading OutsData) [
      | true ↦ and_then (text_at n (drop 2 w)) (λ a m q. done (area_outs a) m q)
      | false ↦ and_then (host_at reference n w) (λ h m q. and_then (more_hosts (length q) m q) (λ hs i u. done (listed_outs (h ∷ hs)) i u))
    ]
        ≡ elim t as (λ _. Reading OutsData) [
          | true ↦ and_then (r.long_area n w) (λ a m q. done (area_outs a) m q)
          | false ↦ and_then (r.long_host reference n w) (λ h m q. and_then (r.further_hosts (h ∷ []) m q) (λ hs i u. done (listed_outs hs) i u))
        ]
    go true e = ap (λ o. and_then o (λ a m q. done (area_outs a) m q)) (area_is n w e)
    go false e = ap (λ o. and_then o (λ h m q. and_then (more_hosts (length q) m q) (λ hs i u. done (listed_outs (h ∷ hs)) i u))) (host_is reference n w (host_there (begins_host w) (begins_area w) h e))
        ∙ same_next (r.long_host reference n w) _ _ all_hosts_is

-- ---- what is written

put_put : (a b : Text) (ps : List PartData) → put a (put b ps) ≡ put (a ++ b) ps
put_put [] b ps = refl
put_put (x ∷ a) [] ps = ap (λ c. put c ps) (sym (append-nil (x ∷ a)))
put_put (x ∷ a) (y ∷ b) [] = refl
put_put (x ∷ a) (y ∷ b) (bytes_part c ∷ ps) = ap (λ d. bytes_part d ∷ ps) (sym (append_assoc (x ∷ a) (y ∷ b) c))
put_put (x ∷ a) (y ∷ b) (host_part h ∷ ps) = refl

put_host : (ps : List PartData) (b : Text) (h : HostData) (qs : List PartData) → ps ++ put b (host_part h ∷ qs) ≡ (with_bytes ps b ++ host_part h ∷ []) ++ qs
put_host ps [] h qs = sym (append_assoc ps (host_part h ∷ []) qs)
put_host ps (x ∷ b) h qs = sym (append_assoc ps (bytes_part (x ∷ b) ∷ []) (host_part h ∷ qs)) ∙ sym (append_assoc (ps ++ bytes_part (x ∷ b) ∷ []) (host_part h ∷ []) qs)

put_end : (ps : List PartData) (b : Text) → ps ++ put b [] ≡ with_bytes ps b
put_end ps [] = append-nil ps
put_end ps (x ∷ b) = refl

-- all parts, and the list of the INTO, where these cuts follow
abbrev pub whole : Writing → List Cut → List PartData
whole s cs = s.parts ++ put s.bytes (parts s.first s.gap cs)

abbrev pub outs_with : Option OutsData → List Cut → OutsData
outs_with None cs = outs_in cs
outs_with (Some o) cs = o

abbrev finish : {B : Type 0} → (List PartData → OutsData → B) → Writing → List Cut → B
finish F s cs = F (whole s cs) (outs_with s.outs cs)

outs_token : (o : Option OutsData) (t : SqlToken) (cs : List Cut) → outs_with o (token t ∷ cs) ≡ outs_with o cs
outs_token None t cs = refl
outs_token (Some o) t cs = refl

outs_host : (o : Option OutsData) (g : Bool) (h : HostData) (cs : List Cut) → outs_with o (host g h ∷ cs) ≡ outs_with o cs
outs_host None g h cs = refl
outs_host (Some o) g h cs = refl

finish_token : {B : Type 0} (F : List PartData → OutsData → B) (s : Writing) (t : SqlToken) (cs : List Cut) → finish F s (token t ∷ cs) ≡ finish F (with_token s t) cs
finish_token F s t cs =
    let e : whole s (token t ∷ cs) ≡ whole (with_token s t) cs = ap (λ x. s.parts ++ x) (put_put s.bytes (blank s.first (t.gap || s.gap) ++ t.bytes) (parts false false cs)) in
    let o = outs_token s.outs t cs in λ i. F (e i) (o i)

finish_host : {B : Type 0} (F : List PartData → OutsData → B) (s : Writing) (g : Bool) (h : HostData) (cs : List Cut) → finish F s (host g h ∷ cs) ≡ finish F (with_host s g h) cs
finish_host F s g h cs =
    let e : whole s (host g h ∷ cs) ≡ whole (with_host s g h) cs = ap (λ x. s.parts ++ x) (put_put s.bytes (blank s.first (g || s.gap)) (host_part h ∷ parts false false cs)) ∙ put_host s.parts (s.bytes ++ blank s.first (g || s.gap)) h (parts false false cs) in
    let o = outs_host s.outs g h cs in λ i. F (e i) (o i)

finish_into : {B : Type 0} (F : List PartData → OutsData → B) (s : Writing) (o : OutsData) (cs : List Cut) → s.outs ≡ None → finish F s (into o ∷ cs) ≡ finish F (with_into s o) cs
finish_into F s o cs e = ap (λ x. F (whole s (into o ∷ cs)) (outs_with x (into o ∷ cs))) e

made_cut : {B : Type 0} (f : List Cut → B) (c : Cut) (o : Reading (List Cut)) → made f (cons_cut c o) ≡ made (λ cs. f (c ∷ cs)) o
made_cut f c (done cs m q) = refl
made_cut f c (stopped s) = refl

-- where an INTO list may come, none was cut
abbrev Free : Cutting → Type 0
Free s = s.free ≡ true → s.writing.outs ≡ None

abbrev Again : {B : Type 0} → (List PartData → OutsData → B) → ℕ → Type 0
Again F k = (s : Cutting) → Free s → (n : Counts) (w : Tokens) → made (finish F s.writing) (cuts k s.depth s.free n w) ≡ made (λ t. finish F t.writing []) (cuts_within k s n w)

into_step : {B : Type 0} (F : List PartData → OutsData → B) (k : ℕ) → Again F k → (s : Cutting) → s.writing.outs ≡ None → (o : Reading OutsData)
    → made (finish F s.writing) (and_then o (λ v m q. cons_cut (into v) (cuts k s.depth false m q)))
    ≡ made (λ t. finish F t.writing []) (and_then (and_then o (λ v m q. done (record { writing = with_into s.writing v; depth = s.depth; free = false }) m q)) (λ t m q. cuts_within k t m q))
into_step F k again s e (done v m q) =
    made_cut (finish F s.writing) (into v) (cuts k s.depth false m q)
    ∙ same_next (cuts k s.depth false m q) _ _ (λ cs i u. ap (λ x. done x i u) (finish_into F s.writing v cs e))
    ∙ again (record { writing = with_into s.writing v; depth = s.depth; free = false }) (λ x. absurd (cc)) m q
into_step F k again s e (stopped x) = refl

host_step : {B : Type 0} (F : List PartData → OutsData → B) (k : ℕ) → Again F k → (s : Cutting) → Free s → (g : Bool) (o : Reading HostData)
    → made (finish F s.writing) (and_then o (λ h m q. cons_cut (host g h) (cuts k s.depth s.free m q)))
    ≡ made (λ t. finish F t.writing []) (and_then (and_then o (λ h m q. done (record { writing = with_host s.writing g h; depth = s.depth; free = s.free }) m q)) (λ t m q. cuts_within k t m q))
host_step F k again s f g (done h m q) =
    made_cut (finish F s.writing) (host g h) (cuts k s.depth s.free m q)
    ∙ same_next (cuts k s.depth s.free m q) _ _ (λ cs i u. ap (λ x. done x i u) (finish_host F s.writing g h cs))
    ∙ again (record { writing = with_host s.writing g h; depth = s.depth; free = s.free }) f m q
host_step F k again s f g (stopped x) = refl

token_step : {B : Type 0} (F : List PartData → OutsData → B) (k : ℕ) → Again F k → (s : Cutting) → Free s → (t : SqlToken) (n : Counts) (w : Tokens)
    → made (finish F s.writing) (cons_cut (token t) (cuts k (depth_behind s.depth t) s.free n w)) ≡ made (λ t. finish F t.writing []) (cuts_within k (token_cut s t) n w)
token_step F k again s f t n w =
    made_cut (finish F s.writing) (token t) (cuts k (depth_behind s.depth t) s.free n w)
    ∙ same_next (cuts k (depth_behind s.depth t) s.free n w) _ _ (λ cs i u. ap (λ x. done x i u) (finish_token F s.writing t cs))
    ∙ again (token_cut s t) f n w

pub cuts_are : {B : Type 0} (F : List PartData → OutsData → B) (k : ℕ) → Again F k
unfolding one_cut
cuts_are F zero s f n w = refl
cuts_are F (suc k) s f n [] = refl
cuts_are {B} F (suc k) s f n (t ∷ w) = go (cuts_are F k) (is_into s.depth (t ∷ w)) refl
  where
    on : Cutting → Counts → Tokens → Reading Cutting
    on u m q = cuts_within k u m q

    into_read : begins_into (t ∷ w) ≡ true → and_then (into_list n w) (λ v m q. done (record { writing = with_into s.writing v; depth = s.depth; free = false }) m q) ≡ into_cut s n (t ∷ w)
    into_read e = ap (λ o. and_then o (λ v m q. done (record { writing = with_into s.writing v; depth = s.depth; free = false }) m q)) (outputs_is n w p.1)
        ∙ sym (passed (keyword (codes "INTO")) n t w (λ x m q. and_then (r.outputs m q) (λ v m q. done (record { writing = with_into s.writing v; depth = s.depth; free = false }) m q)) p.0)
      where
        p : (is (keyword (codes "INTO")) t ≡ true) × ((begins_host w || begins_area w) ≡ true)
        p = both_true (is (keyword (codes "INTO")) t) (begins_host w || begins_area w) e

    by_free : Again F k → begins_into (t ∷ w) ≡ true → (x : Bool) → s.free ≡ x
        → made (finish F s.writing) (elim x as (λ _. Reading (List Cut)) [ true ↦ and_then (into_list n w) (λ v m q. cons_cut (into v) (cuts k s.depth false m q)) | false ↦ stuck (t ∷ w) ])
        ≡ made (λ u. finish F u.writing []) (and_then (elim x as (λ _. Reading Cutting) [ true ↦ into_cut s n (t ∷ w) | false ↦ stuck (t ∷ w) ]) on)
    by_free again e true p = into_step F k again s (f p) (into_list n w) ∙ ap (λ o. made (λ u. finish F u.writing []) (and_then o on)) (into_read e)
    by_free again e false p = refl

    by_host : Again F k → (x : Bool) → begins_host (t ∷ w) ≡ x
        → made (finish F s.writing) (elim x as (λ _. Reading (List Cut)) [ true ↦ and_then (host_at input n (t ∷ w)) (λ h m q. cons_cut (host t.gap h) (cuts k s.depth s.free m q)) | false ↦ cons_cut (token t) (cuts k (depth_behind s.depth t) s.free n w) ])
        ≡ made (λ u. finish F u.writing []) (and_then (elim x as (λ _. Reading Cutting) [ true ↦ host_cut s t.gap n (t ∷ w) | false ↦ done (token_cut s t) n w ]) on)
    by_host again true e = host_step F k again s f t.gap (host_at input n (t ∷ w)) ∙ ap (λ o. made (λ u. finish F u.writing []) (and_then (and_then o (λ h m q. done (record { writing = with_host s.writing t.gap h; depth = s.depth; free = s.free }) m q)) on)) (host_is input n (t ∷ w) e)
    by_host again false e = token_step F k again s f t n w

    go : Again F k → (x : Bool) → is_into s.depth (t ∷ w) ≡ x
        → made (finish F s.writing) (elim x as (λ _. Reading (List Cut)) [
          | true ↦ elim s.free as (λ _. Reading (List Cut)) [ true ↦ and_then (into_list n w) (λ v m q. cons_cut (into v) (cuts k s.depth false m q)) | false ↦ stuck (t ∷ w) ]
          | false ↦ elim (begins_host (t ∷ w)) as (λ _. Reading (List Cut)) [ true ↦ and_then (host_at input n (t ∷ w)) (λ h m q. cons_cut (host t.gap h) (cuts k s.depth s.free m q)) | false ↦ cons_cut (token t) (cuts k (depth_behind s.depth t) s.free n w) ]
        ])
        ≡ made (λ u. finish F u.writing []) (and_then (elim x as (λ _. Reading Cutting) [
          | true ↦ elim s.free as (λ _. Reading Cutting) [ true ↦ into_cut s n (t ∷ w) | false ↦ stuck (t ∷ w) ]
          | false ↦ elim (begins_host (t ∷ w)) as (λ _. Reading Cutting) [ true ↦ host_cut s t.gap n (t ∷ w) | false ↦ done (token_cut s t) n w ]
        ]) on)
    go again true e = by_free again (both_true (s.depth == 0) (begins_into (t ∷ w)) e).1 s.free refl
    go again false e = by_host again (begins_host (t ∷ w)) refl

outs_end : (o : Option OutsData) → outs_with o [] ≡ r.outs_or_none o
outs_end None = refl
outs_end (Some o) = refl

pub server_is : (n : Counts) (w : Tokens) → server_at n w ≡ r.sending n w
unfolding server_at r.sending r.all_cuts
server_is n w = cuts_are server_text (length w) (r.cutting_from true) (λ e. refl) n w ∙ same_next (cuts_within (length w) (r.cutting_from true) n w) _ _ (λ s i u. let e = put_end s.writing.parts s.writing.bytes in let o = outs_end s.writing.outs in λ j. done (server_text (e j) (o j)) i u)

-- ---- transaction control

plain_step : {B : Type 0} (F : List PartData → OutsData → B) (w : Tokens) → ((s : Cutting) (n : Counts) → made (finish F s.writing) (plain_cuts w n) ≡ made (λ t. finish F t.writing []) (plain_within (length w) s n w))
    → (s : Cutting) (n : Counts) (t : SqlToken) (x : Bool)
    → made (finish F s.writing) (elim x as (λ _. Reading (List Cut)) [ true ↦ stuck (t ∷ w) | false ↦ cons_cut (token t) (plain_cuts w n) ])
    ≡ made (λ u. finish F u.writing []) (and_then (elim x as (λ _. Reading Cutting) [ true ↦ stuck (t ∷ w) | false ↦ done (token_cut s t) n w ]) (λ u m q. plain_within (length w) u m q))
plain_step F w again s n t true = refl
plain_step F w again s n t false =
    made_cut (finish F s.writing) (token t) (plain_cuts w n)
    ∙ same_next (plain_cuts w n) _ _ (λ cs i u. ap (λ x. done x i u) (finish_token F s.writing t cs))
    ∙ again (token_cut s t) n

plain_are : {B : Type 0} (F : List PartData → OutsData → B) (w : Tokens) (s : Cutting) (n : Counts) → made (finish F s.writing) (plain_cuts w n) ≡ made (λ t. finish F t.writing []) (plain_within (length w) s n w)
unfolding one_plain
plain_are F [] s n = refl
plain_are F (t ∷ w) s n = plain_step F w (plain_are F w) s n t (begins_host (t ∷ w))

pub control_is : (n : Counts) (w : Tokens) → transaction_at n w ≡ r.controlling n w
unfolding transaction_at r.controlling r.all_plain
control_is n w = plain_are (λ ps os. trans (bytes_in ps)) w (r.cutting_from true) n ∙ same_next (plain_within (length w) (r.cutting_from true) n w) _ _ (λ s i u. ap (λ ps. done (trans (bytes_in ps)) i u) (put_end s.writing.parts s.writing.bytes))

-- ---- DECLARE

pub declare_is : (name : Text) (n : Counts) (w : Tokens) → made (λ cs. declare_cursor name (parts true false cs) None) (cuts (length w) 0 false n w) ≡ r.declaring name n w
unfolding r.declaring r.all_cuts
declare_is name n w = cuts_are (λ ps os. declare_cursor name ps None) (length w) (r.cutting_from false) (λ e. absurd (cc)) n w ∙ same_next (cuts_within (length w) (r.cutting_from false) n w) _ _ (λ s i u. ap (λ ps. done (declare_cursor name ps None) i u) (put_end s.writing.parts s.writing.bytes))

pub prepared_is : (name prepared : Text) (n : Counts) (w : Tokens)
    → and_then (cuts (length w - 1) 0 false n w) (λ cs m q. done (declare_cursor name (bytes_part (bytes_in (parts true false cs) ++ codes " ") ∷ []) (Some prepared)) m []) ≡ r.declaring_prepared name prepared n w
unfolding r.declaring_prepared
prepared_is name prepared n w =
    let head : List PartData → EmbKindData = λ ps. declare_cursor name (bytes_part (bytes_in ps ++ codes " ") ∷ []) (Some prepared) in
    let end : EmbKindData → Counts → Tokens → Reading EmbKindData = λ k m q. done k m [] in
    sym (made_first (cuts (length w - 1) 0 false n w) (λ cs. head (parts true false cs)) end)
    ∙ ap (λ o. and_then o end) (cuts_are (λ ps os. head ps) (length w - 1) (r.cutting_from false) (λ e. absurd (cc)) n w)
    ∙ made_first (cuts_within (length w - 1) (r.cutting_from false) n w) (λ s. head (whole s.writing [])) end
    ∙ same_next (cuts_within (length w - 1) (r.cutting_from false) n w) _ _ (λ s i u. ap (λ ps. done (head ps) i []) (put_end s.writing.parts s.writing.bytes))
