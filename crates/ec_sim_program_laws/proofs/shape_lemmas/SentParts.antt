-- Statements that pass to the server, and the DECLARE of a cursor.
use Rattle.std.proofs.Common.{◌≡◌, ℕ, zero, suc, Bool, true, false, ◌&&◌, ◌||◌, ◌-◌, List, [], ◌∷◌, ◌++◌, length, drop, Option, Some, None, if◌then◌else◌}
use Rattle.std.specs.Prelude.{codes, ◌==◌}
use Rattle.ec_ctypes.specs.trees.Exprs.{ExprData, identifier, member, arrow, index}
use Rattle.ec_ctypes.specs.trees.Embedded.{PartData, bytes_part, host_part, declare_cursor}
use Rattle.ec_embedded.specs.shapes.ReadShapes.{done, stopped, over_limit, and_then}
use Rattle.ec_language.specs.Letters.{Text}
use Rattle.ec_language.specs.SqlTokens.{SqlToken}
use Rattle.ec_embedded.specs.References.{decimal_constant}
use Rattle.ec_embedded.specs.ServerText.{Tokens, Reading, begins_host, is_member, is_arrow, is_index, is_place, place_at, counted_suffix, suffixes, reference_at, begins_indicator, with_indicator, host_at, begins_area, begins_into, begins_more, more_hosts, no_host, text_at, into_list, Cut, token, host, into, depth_behind, cons_cut, cuts, blank, put, parts, outs_in, server_at, plain_cuts, bytes_in, transaction_at}
use Rattle.ec_embedded.specs.Statements.{prepared_in, declared_for}
use Rattle.ec_embedded.specs.Terminals as term
use Rattle.ec_embedded.specs.Terminals.{Counts, step_by, Begins, input, reference, suffix, is, any_word, glued_word, plain_quote}
use Rattle.ec_sim_world_laws.specs.place.References.{IsIndex, IsReference}
use Rattle.ec_sim_program_laws.proofs.shape_lemmas.Parts.{OfList, IsHost, IsText, IsPart, AreOuts, IsMade}
use Rattle.ec_sim_program_laws.proofs.shape_lemmas.Forms.{text_of_host_is}

-- what is read has this
abbrev pub Reads : {A : Type 0} → (A → Type 0) → Reading A → Type 0
Reads P (done v n w) = P v
Reads P (stopped e) = Unit {0}

reads_then : {A B : Type 0} (P : A → Type 0) (Q : B → Type 0) (o : Reading A) (f : A → Counts → Tokens → Reading B) → Reads P o → ((v : A) (n : Counts) (w : Tokens) → P v → Reads Q (f v n w)) → Reads Q (and_then o f)
reads_then P Q (done v n w) f h k = k v n w h
reads_then P Q (stopped e) f h k = tt

-- by a test
reads_by : (b : Bool) {A : Type 0} (P : A → Type 0) (x y : Reading A) → Reads P x → Reads P y → Reads P (elim b [ true ↦ x | false ↦ y ])
reads_by true P x y h k = h
reads_by false P x y h k = k

-- ---- references

counted_is : (n : Counts) (w : Tokens) (f : Counts → Reading ExprData) → ((m : Counts) → Reads IsReference (f m)) → Reads IsReference (counted_suffix n w f)
counted_is n w f h = go (step_by suffix n)
  where
    go : (o : Option Counts) → Reads IsReference (elim o [ None ↦ over_limit w | Some m ↦ f m ])
    go None = tt
    go (Some m) = h m

place_is : (b : SqlToken) → IsIndex (place_at b)
place_is b = go (is glued_word b)
  where
    go : (x : Bool) → IsIndex (if x then identifier b.bytes else decimal_constant b.bytes)
    go true = tt
    go false = tt

suffixes_are : (n : Counts) (e : ExprData) (w : Tokens) → IsReference e → Reads IsReference (suffixes n e w)
suffixes_are n e [] s = s
suffixes_are n e (a ∷ []) s = s
suffixes_are n e (a ∷ b ∷ []) s =
    reads_by (is_member a b) IsReference _ _ (counted_is n (a ∷ b ∷ []) _ (λ m. s))
    (reads_by (is_arrow a b) IsReference _ _ (counted_is n (a ∷ b ∷ []) _ (λ m. s)) s)
suffixes_are n e (a ∷ b ∷ c ∷ w) s =
    reads_by (is_member a b) IsReference _ _ (counted_is n (a ∷ b ∷ c ∷ w) _ (λ m. suffixes_are m (member e b.bytes) (c ∷ w) s))
    (reads_by (is_arrow a b) IsReference _ _ (counted_is n (a ∷ b ∷ c ∷ w) _ (λ m. suffixes_are m (arrow e b.bytes) (c ∷ w) s))
    (reads_by (is_index a b c) IsReference _ _ (counted_is n (a ∷ b ∷ c ∷ w) _ (λ m. reads_by (is_place b) IsReference _ _ (suffixes_are m (index e (place_at b)) w (s, place_is b)) tt)) s))

reference_is : (b : Begins) (n : Counts) (w : Tokens) → Reads IsReference (reference_at b n w)
unfolding reference_at
reference_is b n (a ∷ c ∷ w) = go (step_by b n)
  where
    go : (o : Option Counts) → Reads IsReference (elim o [ None ↦ over_limit (a ∷ c ∷ w) | Some m ↦ suffixes m (identifier c.bytes) w ])
    go None = tt
    go (Some m) = suffixes_are m (identifier c.bytes) w tt
reference_is b n (a ∷ []) = tt
reference_is b n [] = tt

indicated : (e : ExprData) (n : Counts) (w : Tokens) → IsReference e → Reads IsHost (with_indicator e n w)
indicated e n w s =
    reads_by (begins_host w) IsHost _ _ (reads_then IsReference IsHost (reference_at reference n w) _ (reference_is reference n w) (λ v m r p. (s, p)))
    (reads_by (begins_indicator w) IsHost _ _ (reads_then IsReference IsHost (reference_at reference n (drop 1 w)) _ (reference_is reference n (drop 1 w)) (λ v m r p. (s, p))) (s, tt))

host_is : (b : Begins) (n : Counts) (w : Tokens) → Reads IsHost (host_at b n w)
unfolding host_at
host_is b n w = reads_then IsReference IsHost (reference_at b n w) with_indicator (reference_is b n w) (λ v m r p. indicated v m r p)

-- ---- the list of an INTO

more_are : (k : ℕ) (n : Counts) (w : Tokens) → Reads (OfList IsHost) (more_hosts k n w)
more_are zero n w = tt
more_are (suc k) n w =
    reads_by (begins_more w) (OfList IsHost) _ _
    (reads_then IsHost (OfList IsHost) (host_at reference n (drop 1 w)) _ (host_is reference n (drop 1 w)) (λ v m r p. reads_then (OfList IsHost) (OfList IsHost) (more_hosts k m r) _ (more_are k m r) (λ vs j u a. (p, a))))
    tt

no_host_is : (w : Tokens) → Reads IsText (no_host w)
no_host_is [] = tt
no_host_is (t ∷ w) = reads_by (is (term.sign (codes ":")) t) IsText _ _ tt tt

text_is : (n : Counts) (w : Tokens) → Reads IsText (text_at n w)
text_is n [] = tt
text_is n (t ∷ w) =
    reads_by (is any_word t) IsText _ _ tt
    (reads_by (is plain_quote t) IsText _ _ tt
    (reads_by (begins_host (t ∷ w)) IsText _ _ (reads_then IsHost IsText (host_at reference n (t ∷ w)) _ (host_is reference n (t ∷ w)) (λ v m r p. text_of_host_is v p)) (no_host_is (t ∷ w))))

into_is : (n : Counts) (w : Tokens) → Reads AreOuts (into_list n w)
unfolding into_list
into_is n w =
    reads_by (begins_area w) AreOuts _ _ (reads_then IsText AreOuts (text_at n (drop 2 w)) _ (text_is n (drop 2 w)) (λ v m r p. p))
    (reads_then IsHost AreOuts (host_at reference n w) _ (host_is reference n w) (λ v m r p. reads_then (OfList IsHost) AreOuts (more_hosts (length r) m r) _ (more_are (length r) m r) (λ vs j u a. (tt, (p, a)))))

-- ---- cuts

abbrev IsCut : Cut → Type 0
IsCut (token t) = Unit {0}
IsCut (host gap h) = IsHost h
IsCut (into o) = AreOuts o

abbrev AreCuts : List Cut → Type 0
AreCuts cs = OfList IsCut cs

cons_is : (c : Cut) (o : Reading (List Cut)) → IsCut c → Reads AreCuts o → Reads AreCuts (cons_cut c o)
cons_is c o h k = reads_then AreCuts AreCuts o _ k (λ cs n w p. (h, p))

cuts_are : (k d : ℕ) (free : Bool) (n : Counts) (w : Tokens) → Reads AreCuts (cuts k d free n w)
cuts_are zero d free n w = tt
cuts_are (suc k) d free n [] = tt
cuts_are (suc k) d free n (t ∷ w) =
    reads_by (d == 0 && begins_into (t ∷ w)) AreCuts _ _
    (reads_by free AreCuts _ _ (reads_then AreOuts AreCuts (into_list n w) _ (into_is n w) (λ o m r p. cons_is (into o) (cuts k d false m r) p (cuts_are k d false m r))) tt)
    (reads_by (begins_host (t ∷ w)) AreCuts _ _ (reads_then IsHost AreCuts (host_at input n (t ∷ w)) _ (host_is input n (t ∷ w)) (λ v m r p. cons_is (host t.gap v) (cuts k d free m r) p (cuts_are k d free m r)))
    (cons_is (token t) (cuts k (depth_behind d t) free n w) tt (cuts_are k (depth_behind d t) free n w)))

-- ---- the text that is sent

put_is : (b : Text) (ps : List PartData) → OfList IsPart ps → OfList IsPart (put b ps)
put_is [] ps k = k
put_is (b ∷ bs) [] k = (tt, tt)
put_is (b ∷ bs) (bytes_part c ∷ ps) k = (tt, k.1)
put_is (b ∷ bs) (host_part x ∷ ps) k = (tt, k)

parts_are : (first gap : Bool) (cs : List Cut) → AreCuts cs → OfList IsPart (parts first gap cs)
parts_are first gap [] h = tt
parts_are first gap (token t ∷ cs) h = put_is (blank first (t.gap || gap) ++ t.bytes) (parts false false cs) (parts_are false false cs h.1)
parts_are first gap (host g x ∷ cs) h = put_is (blank first (g || gap)) (host_part x ∷ parts false false cs) (h.0, parts_are false false cs h.1)
parts_are first gap (into o ∷ cs) h = parts_are first true cs h.1

outs_are : (cs : List Cut) → AreCuts cs → AreOuts (outs_in cs)
outs_are [] h = tt
outs_are (into o ∷ cs) h = h.0
outs_are (token t ∷ cs) h = outs_are cs h.1
outs_are (host g x ∷ cs) h = outs_are cs h.1

-- ---- statements

pub server_is : (at : Bool) (n : Counts) (w : Tokens) → Reads (IsMade at) (server_at n w)
unfolding server_at
server_is at n w = reads_then AreCuts (IsMade at) (cuts (length w) 0 true n w) _ (cuts_are (length w) 0 true n w) (λ cs m r p. (parts_are true false cs p, outs_are cs p))

any_cuts : (w : Tokens) (n : Counts) → Reads (λ cs. Unit {0}) (plain_cuts w n)
any_cuts [] n = tt
any_cuts (t ∷ w) n = reads_by (begins_host (t ∷ w)) (λ cs. Unit {0}) _ _ tt (reads_then (λ cs. Unit {0}) (λ cs. Unit {0}) (plain_cuts w n) _ (any_cuts w n) (λ cs m r p. tt))

pub transaction_is : (at : Bool) (n : Counts) (w : Tokens) → Reads (IsMade at) (transaction_at n w)
unfolding transaction_at
transaction_is at n w = reads_then (λ cs. Unit {0}) (IsMade at) (plain_cuts w n) _ (any_cuts w n) (λ cs m r p. tt)

pub declared_is : (at : Bool) → at ≡ false → (name : Text) (all : Tokens) (n : Counts) (w : Tokens) → Reads (IsMade at) (declared_for name all n w)
declared_is at is_alone name all n [] = tt
declared_is at is_alone name all n (t ∷ w) = go (prepared_in (t ∷ w))
  where
    go : (p : Option Text) → Reads (IsMade at) (elim p [
      | Some p ↦ and_then (cuts (length all - 1) 0 false n all) (λ cs m r. done (declare_cursor name (bytes_part (bytes_in (parts true false cs) ++ codes " ") ∷ []) (Some p)) m [])
      | None ↦ and_then (cuts (length all) 0 false n all) (λ cs m r. done (declare_cursor name (parts true false cs) None) m r)
    ])
    go (Some p) = reads_then AreCuts (IsMade at) (cuts (length all - 1) 0 false n all) (λ cs m r. done (declare_cursor name (bytes_part (bytes_in (parts true false cs) ++ codes " ") ∷ []) (Some p)) m []) (cuts_are (length all - 1) 0 false n all) (λ cs m r a. (is_alone, (tt, tt)))
    go None = reads_then AreCuts (IsMade at) (cuts (length all) 0 false n all) (λ cs m r. done (declare_cursor name (parts true false cs) None) m r) (cuts_are (length all) 0 false n all) (λ cs m r a. (is_alone, parts_are true false cs a))
