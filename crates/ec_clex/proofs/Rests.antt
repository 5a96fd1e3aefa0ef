-- What is behind a part of a source, once its tokens are taken.
use Rattle.std.proofs.Common.{◌≡◌, ℕ, zero, suc, ◌+◌, ◌<◌, Bool, true, false, List, [], ◌∷◌, ◌++◌, length, take, drop, get_or, option_map, Option, Some, None, Result, Ok, Err, refl, sym, ap, ◌∙◌, arith}
use Rattle.std.specs.Prelude.{codes, ◌==◌, ◌||◌, ◌&&◌}
use Rattle.std.specs.List.{concat}
use Rattle.std.proofs.lemmas.List.{take-append-drop}
use Rattle.ec_base.specs.declared.fault.FaultKind.{FaultKind}
use Rattle.ec_base.specs.declared.fault.FaultKind.TheVariants.{F4}
use Rattle.ec_base.specs.declared.stop.Stop.{Stop}
use Rattle.ec_base.specs.declared.stop.Stop.TheVariants.{Refused, Limit, OutOfMemory}
use Rattle.ec_ctypes.specs.declared.text.piece.PieceKind.TheVariants.{Emb, InPlace}
use Rattle.ec_ctypes.specs.trees.Tokens.{TokData, emb_token, section_start, section_end}
use Rattle.ec_language.specs.Letters.{Text, newline, is_blank, is_empty}
use Rattle.ec_language.specs.Line.{newlines}
use Rattle.ec_language.specs.Lexemes.{is_fresh_after}
use Rattle.ec_language.specs.SqlTokens.{StatementUnits, first_bad_line, is_executable}
use Rattle.ec_language.specs.Tokens.{Part, counted, bad_byte, line_behind, part_at, fault_at, lines_before}
use Rattle.ec_language.specs.ReadTokens.{ReadItem, read_item, read_hash, lexeme, lexeme_item, ReadParts, c_parts, sql_units, text_behind_start, statement_units, declaration_text}
use Rattle.ec_language.proofs.ReadLaws.{newlines-append}
use Rattle.ec_language.proofs.ReadSteps.{c_parts_item, c_parts_bad}
use Rattle.ec_language.proofs.Items.{item_sound}
use Rattle.ec_split.proofs.Steps.{at_place}
use Rattle.ec_clex.specs.Items.{Told, item_checked, item_of}
use Rattle.ec_clex.specs.Lexing.{Taken, Mid, and_then, fed, fed_all, at_end, pushed, pushed_some, behind_blank, c_rest, moved, took, item_taken, embedded_rest, closed_rest, inner_rest, declared_rest, stated, stated_rest}

-- ---- stops

pub told_err : {A B C D : Type 0} (f : A → B) (g : C → D) (e : Stop) (w : Result B Stop) (v : Result D Stop) → ((stop : Stop) → Err stop ≡ w → Err stop ≡ v) → Told f (Err e) w → Told g (Err e) v
told_err f g (Refused kind line) w v next t = next (Refused kind line) t
told_err f g (Limit limit) w v next t = next (Limit limit) t
told_err f g OutOfMemory w v next t = tt

-- ---- parts, one after the other

pub fed_append : (s : Taken) (a b : List Part) → fed_all s (a ++ b) ≡ and_then (fed_all s a) (λ n. fed_all n b)
fed_append s [] b = refl
fed_append s (p ∷ a) b = step (fed s p.line p.tok) (λ n. fed_append n a b)
  where
    step : (r : Result Taken Stop) → ((n : Taken) → fed_all n (a ++ b) ≡ and_then (fed_all n a) (λ k. fed_all k b)) → and_then r (λ n. fed_all n (a ++ b)) ≡ and_then (and_then r (λ n. fed_all n a)) (λ n. fed_all n b)
    step (Ok n) ih = ih n
    step (Err stop) ih = refl

pub fresh_append : (u v : Text) (fresh : Bool) → is_fresh_after fresh (u ++ v) ≡ is_fresh_after (is_fresh_after fresh u) v
fresh_append [] v fresh = refl
fresh_append (b ∷ u) v fresh = fresh_append u v (b == newline || (fresh && is_blank b))

-- ---- C text

c_rest_bad : (written : Bool) (m : Mid) (text : Text) → is_empty text ≡ false → read_item written m.fresh text ≡ None → c_rest written m text ≡ Err (Refused (bad_byte m.fresh text) (record { 0 = m.line }))
c_rest_bad written m text some e =
    ap (λ (r : ReadParts). at_end r.last (is_fresh_after m.fresh text) (fed_all m.taken r.parts)) (c_parts_bad written m.line m.fresh text some e)

abbrev behind_item : Bool → Mid → ReadItem → Result (Mid × Text) Stop → Result Mid Stop
behind_item written m it r = and_then r (λ p. c_rest written p.0 p.1)

c_rest_item : (written : Bool) (m : Mid) (text : Text) (it : ReadItem) → read_item written m.fresh text ≡ Some it → c_rest written m text ≡ and_then (took m it) (λ p. c_rest written p.0 p.1)
c_rest_item written m text it e =
    let line : ℕ = line_behind m.line it.bytes it.step in
    let next : ReadParts = c_parts written line (is_fresh_after m.fresh it.bytes) it.rest in
    let whole = (item_sound written m.fresh text it e).whole in
    let fresh : is_fresh_after m.fresh text ≡ is_fresh_after (is_fresh_after m.fresh it.bytes) it.rest = ap (is_fresh_after m.fresh) whole ∙ fresh_append it.bytes it.rest m.fresh in
    (λ i. at_end (c_parts_item written m.line m.fresh text it e i).last (fresh i) (fed_all m.taken (c_parts_item written m.line m.fresh text it e i).parts))
    ∙ ap (at_end next.last (is_fresh_after (is_fresh_after m.fresh it.bytes) it.rest)) (fed_append m.taken (part_at m.line it.tok) next.parts)
    ∙ step it.tok
  where
    step : (tok : Option (Result TokData FaultKind))
        → at_end (c_parts written (line_behind m.line it.bytes it.step) (is_fresh_after m.fresh it.bytes) it.rest).last (is_fresh_after (is_fresh_after m.fresh it.bytes) it.rest)
        (and_then (fed_all m.taken (part_at m.line tok)) (λ n. fed_all n (c_parts written (line_behind m.line it.bytes it.step) (is_fresh_after m.fresh it.bytes) it.rest).parts))
        ≡ and_then (and_then (pushed_some m.taken m.line tok) (λ s. Ok (moved m it s))) (λ (p : Mid × Text). c_rest written p.0 p.1)
    step None = refl
    step (Some r) = one (fed m.taken m.line r)
      where
        one : (k : Result Taken Stop)
            → at_end (c_parts written (line_behind m.line it.bytes it.step) (is_fresh_after m.fresh it.bytes) it.rest).last (is_fresh_after (is_fresh_after m.fresh it.bytes) it.rest)
            (and_then (and_then k (λ s. Ok s)) (λ n. fed_all n (c_parts written (line_behind m.line it.bytes it.step) (is_fresh_after m.fresh it.bytes) it.rest).parts))
            ≡ and_then (and_then k (λ s. Ok (moved m it s))) (λ (p : Mid × Text). c_rest written p.0 p.1)
        one (Ok s) = refl
        one (Err stop) = refl

pub c_rest_on : (written : Bool) (m : Mid) (text : Text) → is_empty text ≡ false → c_rest written m text ≡ and_then (item_taken written m text) (λ p. c_rest written p.0 p.1)
c_rest_on written m text some = step (read_item written m.fresh text) refl
  where
    checked : (it : ReadItem) (tok : Option (Result TokData FaultKind)) → it.tok ≡ tok → and_then (item_checked m.line it tok) (λ i. took m i) ≡ took m it
    checked it None e = refl
    checked it (Some (Ok t)) e = refl
    checked it (Some (Err kind)) e = sym (ap (λ (o : Option (Result TokData FaultKind)). and_then (pushed_some m.taken m.line o) (λ s. Ok (moved m it s))) e)

    step : (o : Option ReadItem) → read_item written m.fresh text ≡ o → c_rest written m text ≡ and_then (and_then (item_of (bad_byte m.fresh text) m.line o) (λ it. took m it)) (λ (p : Mid × Text). c_rest written p.0 p.1)
    step None e = c_rest_bad written m text some e
    step (Some it) e = c_rest_item written m text it e ∙ ap (λ (r : Result (Mid × Text) Stop). and_then r (λ p. c_rest written p.0 p.1)) (sym (checked it it.tok refl))

pub not_empty : (t : Text) (i : ℕ) → i < length t → is_empty (drop i t) ≡ false
not_empty [] i h = absurd (omega arith)
not_empty (b ∷ t) zero h = refl
not_empty (b ∷ t) (suc i) h = not_empty t i (omega arith)

pub item_next : (written : Bool) (m n : Mid) (text rest : Text) → is_empty text ≡ false → Ok (n, rest) ≡ item_taken written m text → c_rest written n rest ≡ c_rest written m text
item_next written m n text rest some e = sym (c_rest_on written m text some ∙ ap (λ (r : Result (Mid × Text) Stop). and_then r (λ p. c_rest written p.0 p.1)) (sym e))

-- a blank is passed over
pub blank_item : (written : Bool) (m n : Mid) (t : Text) (i : ℕ) → i < length t → is_blank (get_or t i 0) ≡ true → n ≡ behind_blank m (get_or t i 0)
    → ◌≡◌ {A = Result (Mid × Text) Stop} (Ok (n, drop (i + 1) t)) (item_taken written m (drop i t))
blank_item written m n t i h e p =
    let b = get_or t i 0 in
    let s = drop (i + 1) t in
    let it : ReadItem = record { bytes = b ∷ []; tok = None; step = counted; rest = s } in
    let read : read_item written m.fresh (b ∷ s) ≡ Some it = λ j. elim (e j) [
      | true ↦ Some it
      | false ↦ elim (b == 35) [ true ↦ elim m.fresh [ true ↦ read_hash written (b ∷ s) | false ↦ None ] | false ↦ option_map lexeme_item (lexeme (b ∷ s)) ]
    ] in
    ap (λ (k : Mid). let r : Result (Mid × Text) Stop = Ok (k, s) in r) p
    ∙ ap (λ (o : Option ReadItem). and_then (item_of (bad_byte m.fresh (b ∷ s)) m.line o) (λ x. took m x)) (sym read)
    ∙ ap (item_taken written m) (sym (at_place t i h))

pub item_stops : (written : Bool) (m : Mid) (text : Text) (stop : Stop) → is_empty text ≡ false → Err stop ≡ item_taken written m text → Err stop ≡ c_rest written m text
item_stops written m text stop some e = sym (c_rest_on written m text some ∙ ap (λ (r : Result (Mid × Text) Stop). and_then r (λ p. c_rest written p.0 p.1)) (sym e))

pub item_told : {A : Type 0} (f : A → Mid) (g : ℕ → Mid × Text) (written : Bool) (m n : Mid) (text : Text) (rest : Text) (e : Stop) → is_empty text ≡ false → c_rest written m text ≡ c_rest written n rest
    → Told g (Err e) (item_taken written m text) → Told f (Err e) (c_rest written n rest)
item_told f g written m n text rest e some same told = told_err g f e (item_taken written m text) (c_rest written n rest) (λ stop k. item_stops written m text stop some k ∙ same) told

-- ---- embedded pieces

pub front_lines : (bytes : Text) (from : ℕ) → newlines (take from bytes) ≡ lines_before bytes (drop from bytes)
front_lines bytes from =
    let n = ap newlines (sym (take-append-drop from bytes)) ∙ newlines-append (take from bytes) (drop from bytes) in
    omega (arith, n)

pub statement_lines : (bytes : Text) (from : ℕ) → drop from bytes ≡ text_behind_start bytes → StatementUnits bytes (statement_units bytes)
    → newlines (take from bytes) ≡ lines_before bytes (concat (statement_units bytes))
statement_lines bytes from e units =
    let behind : text_behind_start bytes ≡ concat (statement_units bytes) ++ codes ";" = ap (λ (o : Option Text). elim o as (λ _. Text) [ Some text ↦ text | None ↦ [] ]) units.start in
    let last = newlines-append (concat (statement_units bytes)) (codes ";") in
    let none : newlines (codes ";") ≡ 0 = refl in
    let same = ap newlines (e ∙ behind) in
    let front = front_lines bytes from in
    omega (arith, front, same, last, none)

pub stated_is : (n : ℕ) (m : Mid) (bytes : Text) (from : ℕ) (x : Bool) (s : Taken) (first : ℕ) (bad : Option ℕ) → drop from bytes ≡ text_behind_start bytes → StatementUnits bytes (statement_units bytes)
    → x ≡ is_executable (sql_units (drop from bytes)) → Ok s ≡ pushed m.taken m.line (emb_token n x) → first ≡ m.line + newlines (take from bytes)
    → bad ≡ first_bad_line first (sql_units (drop from bytes)) → stated m bytes bad s ≡ stated_rest n m bytes
stated_is n m bytes from x s first bad e units exec taken line worst =
    let us : sql_units (drop from bytes) ≡ statement_units bytes = ap sql_units e in
    let at : first ≡ m.line + lines_before bytes (concat (statement_units bytes)) = omega (arith, line, statement_lines bytes from e units) in
    let bad_is : bad ≡ first_bad_line (m.line + lines_before bytes (concat (statement_units bytes))) (statement_units bytes) = worst ∙ (λ i. first_bad_line (at i) (us i)) in
    let taken_is : Ok s ≡ pushed m.taken m.line (emb_token n (is_executable (statement_units bytes))) = taken ∙ ap (λ y. pushed m.taken m.line (emb_token n y)) (exec ∙ ap is_executable us) in
    ap (λ o. stated m bytes o s) bad_is
    ∙ ap (λ (r : Result Taken Stop). and_then r (λ k. stated m bytes (first_bad_line (m.line + lines_before bytes (concat (statement_units bytes))) (statement_units bytes)) k)) taken_is

pub declared_is : (m : Mid) (bytes : Text) (from : ℕ) (written fresh : Bool) (s : Taken) (line : ℕ) (n : Mid) → drop from bytes ≡ declaration_text bytes → written ≡ false → fresh ≡ is_fresh_after m.fresh bytes
    → Ok s ≡ pushed m.taken m.line section_start → line ≡ m.line → n ≡ record { taken = s; line = line + newlines (take from bytes); fresh = false }
    → inner_rest written fresh n (drop from bytes) ≡ declared_rest m bytes
declared_is m bytes from written fresh s line n e w f taken l at =
    let text : Text = declaration_text bytes in
    let lines : line + newlines (take from bytes) ≡ m.line + lines_before bytes text = (λ i. l i + (front_lines bytes from ∙ ap (lines_before bytes) e) i) in
    (λ i. inner_rest (w i) (f i) (at i) (e i))
    ∙ ap (λ (k : ℕ). inner_rest false (is_fresh_after m.fresh bytes) (record { taken = s; line = k; fresh = false }) text) lines
    ∙ ap (λ (r : Result Taken Stop). and_then r (λ u. inner_rest false (is_fresh_after m.fresh bytes) (record { taken = u; line = m.line + lines_before bytes text; fresh = false }) text)) taken

pub statement_rest : (n : ℕ) (m : Mid) (bytes : Text) → stated_rest n m bytes ≡ embedded_rest Emb n m bytes
statement_rest n m bytes = step (pushed m.taken m.line (emb_token n (is_executable (statement_units bytes)))) (first_bad_line (m.line + lines_before bytes (concat (statement_units bytes))) (statement_units bytes))
  where
    step : (r : Result Taken Stop) (bad : Option ℕ) → and_then r (λ s. stated m bytes bad s) ≡ at_end (m.line + newlines bytes) (is_fresh_after m.fresh bytes) (and_then r (λ s. fed_all s (fault_at bad F4)))
    step (Ok s) None = refl
    step (Ok s) (Some line) = refl
    step (Err stop) bad = refl

pub declaration_rest : (n : ℕ) (m : Mid) (bytes : Text) → declared_rest m bytes ≡ embedded_rest InPlace n m bytes
declaration_rest n m bytes =
    let text : Text = declaration_text bytes in
    let line : ℕ = m.line + lines_before bytes text in
    first (c_parts false line false text) (pushed m.taken m.line section_start)
  where
    last : (inner : ReadParts) (fresh fresh' : Bool) (r : Result Taken Stop)
        → and_then (at_end inner.last fresh' r) (λ k. closed_rest fresh k) ≡ at_end inner.last fresh (and_then r (λ k. fed_all k (record { line = inner.last; tok = Ok section_end } ∷ [])))
    last inner fresh fresh' (Err stop) = refl
    last inner fresh fresh' (Ok k) = end (pushed k inner.last section_end)
      where
        end : (r : Result Taken Stop) → and_then r (λ s. Ok (record { taken = s; line = inner.last; fresh = fresh })) ≡ at_end inner.last fresh (and_then r (λ s. Ok s))
        end (Ok s) = refl
        end (Err stop) = refl

    first : (inner : ReadParts) (r : Result Taken Stop)
        → and_then r (λ s. and_then (at_end inner.last (is_fresh_after false (declaration_text bytes)) (fed_all s inner.parts)) (λ k. closed_rest (is_fresh_after m.fresh bytes) k))
        ≡ at_end inner.last (is_fresh_after m.fresh bytes) (and_then r (λ s. fed_all s (inner.parts ++ record { line = inner.last; tok = Ok section_end } ∷ [])))
    first inner (Err stop) = refl
    first inner (Ok s) =
        last inner (is_fresh_after m.fresh bytes) (is_fresh_after false (declaration_text bytes)) (fed_all s inner.parts)
        ∙ ap (at_end inner.last (is_fresh_after m.fresh bytes)) (sym (fed_append s inner.parts (record { line = inner.last; tok = Ok section_end } ∷ [])))
