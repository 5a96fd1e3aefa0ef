-- What is read of a text is a transcript, or the first line at which it is none.
use Rattle.std.proofs.Common.{◌≡◌, ◌∙◌, ◌++◌, ◌∷◌, [], ◌+◌, ◌-◌, ℕ, zero, suc, true, false, List, Option, Some, None, Result, Ok, Err, refl, ap, ap₂, sym, arith, append_assoc, append-nil, subst, length, length-append, map, take, drop}
use Rattle.std.specs.List.{flat_map}
use Rattle.ec_link.specs.declared.logged.Logged.{Logged}
use Rattle.ec_transcript.specs.declared.version.Version.{Version}
use Rattle.ec_transcript.specs.declared.version.Version.TheVariants.{One, Two}
use Rattle.ec_transcript.specs.declared.stop.ReadStop.{ReadStop}
use Rattle.ec_transcript.specs.declared.stop.ReadStop.TheVariants.{Bad, OutOfMemory}
use Rattle.ec_transcript.specs.declared.whole.Transcript.{Transcript}
use Rattle.ec_transcript.specs.Fitting.{fitting}
use Rattle.ec_transcript.specs.Lines.{readers}
use Rattle.ec_transcript.specs.Reading.{◌>>=◌}
use Rattle.ec_transcript.specs.States.{Slots, State, start, between, asked, said, tabled, step, run}
use Rattle.ec_transcript.specs.Text.{Bytes, header, ended, lines_of, text_of}
use Rattle.ec_transcript.specs.Transcripts.{IsTranscript, lines_and_end, Begins, IsFirstBad, IsRead, IsReading, FindsThese}
use Rattle.ec_transcript.specs.Whole.{upto, split, good, bad, at_end, stepped, read_lines, version_of, read_text, Gives}
use Rattle.ec_transcript.proofs.Breaks.{no_break, split_transcript, split_text, rest_unbroken, ended_breaks}
use Rattle.ec_transcript.proofs.LineLaws.{readers_read}
use Rattle.ec_transcript.proofs.Machine.{map_append, transcript_again, dead_line}
use Rattle.ec_transcript.proofs.Prefixes.{live_lines, whole_found}
use Rattle.ec_transcript.proofs.Splits.{by_back, split_upto}

-- ---- lists of lines

ended_same : (xs ys : Bytes) → ended xs ≡ ended ys → xs ≡ ys
ended_same [] [] e = refl
ended_same [] (y ∷ []) e = cc
ended_same [] (y ∷ z ∷ ys) e = cc
ended_same (x ∷ []) [] e = cc
ended_same (x ∷ z ∷ xs) [] e = cc
ended_same (x ∷ xs) (y ∷ ys) e =
    let heads : x ≡ y = cc in
    let tails : ended xs ≡ ended ys = cc in
    ap₂ (λ a b. a ∷ b) heads (ended_same xs ys tails)

ended_some : (line : Bytes) → [] ≡ ended line → ⊥
ended_some [] e = cc
ended_some (b ∷ line) e = cc

-- what is left of lines and their end behind the first lines
pub record Peels (lines front : List Bytes) (rest : List Bytes) : Type 0 where
  pub more : List Bytes
  pub lines_are : lines ≡ front ++ more
  pub rest_is : map ended more ++ [] ∷ [] ≡ rest

peel : (lines front rest : List Bytes) → map ended lines ++ [] ∷ [] ≡ map ended front ++ rest → Peels lines front rest
peel lines [] rest e = record { more = lines; lines_are = refl; rest_is = e }
peel [] (line ∷ front) rest e =
    let first : [] ≡ ended line = cc in
    absurd (ended_some line first)
peel (l ∷ lines) (line ∷ front) rest e =
    let heads : ended l ≡ ended line = cc in
    let tails : map ended lines ++ [] ∷ [] ≡ map ended front ++ rest = cc in
    let deeper = peel lines front rest tails in
    record {
      more = deeper.more;
      lines_are = ap₂ (λ a b. a ∷ b) (ended_same l line heads) deeper.lines_are;
      rest_is = deeper.rest_is;
    }

take_front : {A : Type 0} (xs ys : List A) → take (length xs) (xs ++ ys) ≡ xs
take_front [] ys = refl
take_front (x ∷ xs) ys = ap (λ t. x ∷ t) (take_front xs ys)

take_drop : {A : Type 0} (n : ℕ) (xs : List A) → xs ≡ take n xs ++ drop n xs
take_drop zero xs = refl
take_drop (suc n) [] = refl
take_drop (suc n) (x ∷ xs) = ap (λ t. x ∷ t) (take_drop n xs)

length_map : {A B : Type 0} (f : A → B) (xs : List A) → length (map f xs) ≡ length xs
length_map f [] = refl
length_map f (x ∷ xs) = ap suc (length_map f xs)

-- ---- versions

named : (v : Version) → version_of (header v) ≡ v
named One = refl
named Two = refl

abbrev head_or : Bytes → List Bytes → Bytes
head_or none [] = none
head_or none (line ∷ lines) = line

-- the first line of a text that has one
first_line : (text line : Bytes) (lines : List Bytes) → (split text).0 ≡ line ∷ lines → (upto text).0 ≡ line
first_line text line lines e = go (upto text).0 (upto text).1 (sym (ap (λ (p : List Bytes × Bytes). p.0) (split_upto text)) ∙ e)
  where
    go : (front back : Bytes) → (by_back front back).0 ≡ line ∷ lines → front ≡ line
    go front [] e = cc
    go front (b ∷ back) e = cc

-- lines that begin as those of a version name it
names : (u : Version) (slots : Slots) (log : List Logged) (text : Bytes) (front : List Bytes) (line : Bytes) (more back : List Bytes)
    → (split text).0 ≡ (front ++ line ∷ []) ++ back → lines_of u slots log ≡ (front ++ line ∷ []) ++ more → version_of (upto text).0 ≡ u
names u slots log text [] line more back e f =
    let same : header u ≡ line = cc in
    ap version_of (first_line text line back e ∙ sym same) ∙ named u
names u slots log text (first ∷ front) line more back e f =
    let same : header u ≡ first = cc in
    ap version_of (first_line text first ((front ++ line ∷ []) ++ back) e ∙ sym same) ∙ named u

-- ---- the outcome of lines

read_good : (v : Version) (lines : List Bytes) (rest : Bytes) (n : ℕ) (s : State) (slots : Slots) (log : List Logged) → read_lines v lines rest n s ≡ good slots log
    → (run (readers v) s lines ≡ Some (between slots log)) × (rest ≡ [])
read_good v [] rest n s slots log e = ends s rest e
  where
    ends : (s : State) (rest : Bytes) → at_end n s rest ≡ good slots log → (Some s ≡ Some (between slots log)) × (rest ≡ [])
    ends (between slots2 log2) [] e =
        let a : slots2 ≡ slots = cc in
        let b : log2 ≡ log = cc in
        (ap₂ (λ x y. Some (between x y)) a b, refl)
    ends (between slots2 log2) (b ∷ rest) e = cc
    ends start rest e = cc
    ends (asked slots2 log2 slot) rest e = cc
    ends (said slots2 log2 slot request) rest e = cc
    ends (tabled slots2 log2 o) rest e = cc
read_good v (line ∷ lines) rest n s slots log e = go (step (readers v) s line) e (λ next f. read_good v lines rest (n + 1) next slots log f)
  where
    go : (o : Option State) → stepped n o (λ next. read_lines v lines rest (n + 1) next) ≡ good slots log
        → ((next : State) → read_lines v lines rest (n + 1) next ≡ good slots log → (run (readers v) next lines ≡ Some (between slots log)) × (rest ≡ []))
        → ((o >>= λ next. run (readers v) next lines) ≡ Some (between slots log)) × (rest ≡ [])
    go None e more = cc
    go (Some next) e more = more next e

-- lines that are read on, and what stops them: a line, or the end
pub data Stops (v : Version) (lines : List Bytes) (rest : Bytes) (n : ℕ) (s : State) (k : ℕ) : Type 0 where
  at_line : (front : List Bytes) (line : Bytes) (back : List Bytes) (state : State) → lines ≡ front ++ line ∷ back → k ≡ n + length front
      → run (readers v) s front ≡ Some state → run (readers v) s (front ++ line ∷ []) ≡ None → Stops v lines rest n s k
  behind : (state : State) → k ≡ n + length lines → run (readers v) s lines ≡ Some state
      → ((slots : Slots) (log : List Logged) → state ≡ between slots log → rest ≡ [] → ⊥) → Stops v lines rest n s k

read_bad : (v : Version) (lines : List Bytes) (rest : Bytes) (n : ℕ) (s : State) (k : ℕ) → read_lines v lines rest n s ≡ bad k → Stops v lines rest n s k
read_bad v [] rest n s k e = behind s (ends s rest e) refl (λ slots log is none. whole s rest slots log is none e)
  where
    ends : (s : State) (rest : Bytes) → at_end n s rest ≡ bad k → k ≡ n + 0
    ends (between slots log) [] e = cc
    ends (between slots log) (b ∷ rest) e = let same : n ≡ k = cc in omega arith
    ends start rest e = let same : n ≡ k = cc in omega arith
    ends (asked slots log slot) rest e = let same : n ≡ k = cc in omega arith
    ends (said slots log slot request) rest e = let same : n ≡ k = cc in omega arith
    ends (tabled slots log o) rest e = let same : n ≡ k = cc in omega arith

    whole : (s : State) (rest : Bytes) (slots : Slots) (log : List Logged) → s ≡ between slots log → rest ≡ [] → at_end n s rest ≡ bad k → ⊥
    whole s rest slots log is none e =
        let both : at_end n s rest ≡ good slots log = ap₂ (at_end n) is none in
        let odd : good slots log ≡ bad k = sym both ∙ e in
        cc
read_bad v (line ∷ lines) rest n s k e = go (step (readers v) s line) refl e (λ next f. read_bad v lines rest (n + 1) next k f)
  where
    go : (o : Option State) → step (readers v) s line ≡ o → stepped n o (λ next. read_lines v lines rest (n + 1) next) ≡ bad k
        → ((next : State) → read_lines v lines rest (n + 1) next ≡ bad k → Stops v lines rest (n + 1) next k) → Stops v (line ∷ lines) rest n s k
    go None is e more =
        let same : n ≡ k = cc in
        at_line [] line lines s refl (omega arith) refl (ap (λ o. o >>= λ next. run (readers v) next []) is)
    go (Some next) is e more = put (more next e)
      where
        on : (xs : List Bytes) (o : Option State) → run (readers v) next xs ≡ o → run (readers v) s (line ∷ xs) ≡ o
        on xs o f = ap (λ p. p >>= λ next. run (readers v) next xs) is ∙ f

        put : Stops v lines rest (n + 1) next k → Stops v (line ∷ lines) rest n s k
        put (at_line front l back state are number live dead) =
            at_line (line ∷ front) l back state (ap (λ t. line ∷ t) are) (omega arith) (on front (Some state) live) (on (front ++ l ∷ []) None dead)
        put (behind state number live whole) = behind state (omega arith) (on lines (Some state) live) whole

-- ---- what begins so

-- lines and end of a transcript
pieces : (v : Version) (text : Bytes) (slots : Slots) (log : List Logged) → IsTranscript v text slots log
    → lines_and_end text ≡ map ended (lines_of v slots log) ++ [] ∷ []
pieces v text slots log is =
    ap lines_and_end is.text_is ∙ ap (λ (p : List Bytes × Bytes). map ended p.0 ++ p.1 ∷ []) (split_transcript v slots log is.fits)

-- lines that are read on are the first ones of a transcript
begins : (v : Version) (front : List Bytes) (state : State) → run (readers v) start front ≡ Some state → Begins (map ended front)
begins v front state live =
    let ends = live_lines v (readers v) (fitting v) (readers_read v) front state live in
    let is : IsTranscript v (text_of v ends.slots ends.log) ends.slots ends.log = record { fits = ends.fits; text_is = refl } in
    record {
      version = v;
      text = text_of v ends.slots ends.log;
      slots = ends.slots;
      log = ends.log;
      is = is;
      rest = map ended ends.tail ++ [] ∷ [];
      lines_are = pieces v (text_of v ends.slots ends.log) ends.slots ends.log is
          ∙ ap (λ ls. map ended ls ++ [] ∷ []) ends.lines_are
          ∙ ap (λ ls. ls ++ [] ∷ []) (map_append ended front ends.tail)
          ∙ append_assoc (map ended front) (map ended ends.tail) ([] ∷ []);
    }

-- no transcript begins with lines of which the last one stops the reading
dead_at : (text : Bytes) (front : List Bytes) (line : Bytes) (back : List Bytes) → (split text).0 ≡ (front ++ line ∷ []) ++ back
    → run (readers (version_of (upto text).0)) start (front ++ line ∷ []) ≡ None → Begins (map ended (front ++ line ∷ [])) → ⊥
dead_at text front line back are dead b =
    let peels = peel (lines_of b.version b.slots b.log) (front ++ line ∷ []) b.rest (sym (pieces b.version b.text b.slots b.log b.is) ∙ b.lines_are) in
    let v = names b.version b.slots b.log text front line peels.more back are peels.lines_are in
    dead_line b.version (readers b.version) (fitting b.version) (readers_read b.version) front peels.more line b.slots b.log
    (subst (λ u. run (readers u) start (front ++ line ∷ []) ≡ None) v dead) b.is.fits
    (peels.lines_are ∙ append_assoc front (line ∷ []) peels.more)

no_lines : (v : Version) (slots : Slots) (log : List Logged) → lines_of v slots log ≡ [] → ⊥
no_lines v slots log e = cc

unequal : (line rest : Bytes) → no_break rest ≡ true → ended line ≡ rest → ⊥
unequal line rest e same =
    let odd : false ≡ true = sym (ended_breaks line) ∙ ap no_break same ∙ e in
    cc

-- and none with all lines and the end, where the lines are read on, but aren't a transcript
dead_behind : (text : Bytes) (state : State) → run (readers (version_of (upto text).0)) start (split text).0 ≡ Some state
    → ((slots : Slots) (log : List Logged) → state ≡ between slots log → (split text).1 ≡ [] → ⊥) → Begins (lines_and_end text) → ⊥
dead_behind text state live whole b =
    let same = sym (pieces b.version b.text b.slots b.log b.is) ∙ b.lines_are ∙ append_assoc (map ended (split text).0) ((split text).1 ∷ []) b.rest in
    let peels = peel (lines_of b.version b.slots b.log) (split text).0 ((split text).1 ∷ b.rest) same in
    more peels.more peels.lines_are peels.rest_is
  where
    named_so : (lines : List Bytes) → (split text).0 ≡ lines → lines_of b.version b.slots b.log ≡ lines ++ [] → version_of (upto text).0 ≡ b.version
    named_so [] are e = absurd (no_lines b.version b.slots b.log e)
    named_so (line ∷ lines) are e =
        let same : header b.version ≡ line = cc in
        ap version_of (first_line text line lines are ∙ sym same) ∙ named b.version

    more : (m : List Bytes) → lines_of b.version b.slots b.log ≡ (split text).0 ++ m → map ended m ++ [] ∷ [] ≡ (split text).1 ∷ b.rest → ⊥
    more [] are e =
        let none : (split text).1 ≡ [] = cc in
        let v = named_so (split text).0 refl are in
        let all : (split text).0 ≡ lines_of b.version b.slots b.log = sym (append-nil (split text).0) ∙ sym are in
        let again = transcript_again b.version (readers b.version) (fitting b.version) (readers_read b.version) b.slots b.log b.is.fits in
        let read : Some state ≡ Some (between b.slots b.log) =
        sym live ∙ ap₂ (λ u ls. run (readers u) start ls) v all ∙ again in
        let is : state ≡ between b.slots b.log = cc in
        whole b.slots b.log is none
    more (line ∷ m) are e =
        let same : ended line ≡ (split text).1 = cc in
        unequal line (split text).1 (rest_unbroken text) same

-- ---- what is read

first_bad : (text : Bytes) (k : ℕ) → Stops (version_of (upto text).0) (split text).0 (split text).1 1 start k → IsFirstBad text k
first_bad text k (at_line front line back state are number live dead) =
    let all : (split text).0 ≡ (front ++ line ∷ []) ++ back = are ∙ sym (append_assoc front (line ∷ []) back) in
    let parts : lines_and_end text ≡ map ended (front ++ line ∷ []) ++ (map ended back ++ (split text).1 ∷ []) =
    ap (λ ls. map ended ls ++ (split text).1 ∷ []) all ∙ ap (λ ls. ls ++ (split text).1 ∷ []) (map_append ended (front ++ line ∷ []) back)
    ∙ append_assoc (map ended (front ++ line ∷ [])) (map ended back) ((split text).1 ∷ []) in
    let before : lines_and_end text ≡ map ended front ++ (ended line ∷ (map ended back ++ (split text).1 ∷ [])) =
    parts ∙ ap (λ ls. ls ++ (map ended back ++ (split text).1 ∷ [])) (map_append ended front (line ∷ []))
    ∙ append_assoc (map ended front) (ended line ∷ []) (map ended back ++ (split text).1 ∷ []) in
    let long = length_map ended front in
    let longer = length_map ended (front ++ line ∷ []) in
    let n = length-append front (line ∷ []) in
    let k_is : k ≡ length (map ended (front ++ line ∷ [])) = omega arith in
    let less : k - 1 ≡ length (map ended front) = omega arith in
    let total : length (lines_and_end text) ≡ length (map ended (front ++ line ∷ [])) + length (map ended back ++ (split text).1 ∷ []) =
    ap length parts ∙ length-append (map ended (front ++ line ∷ [])) (map ended back ++ (split text).1 ∷ []) in
    let taken : take k (lines_and_end text) ≡ map ended (front ++ line ∷ []) =
    ap₂ take k_is parts ∙ take_front (map ended (front ++ line ∷ [])) (map ended back ++ (split text).1 ∷ []) in
    let held : take (k - 1) (lines_and_end text) ≡ map ended front =
    ap₂ take less before ∙ take_front (map ended front) (ended line ∷ (map ended back ++ (split text).1 ∷ [])) in
    record {
      positive = omega arith;
      within = omega arith;
      live = subst Begins (sym held) (begins (version_of (upto text).0) front state live);
      dead = λ b. dead_at text front line back all dead (subst Begins taken b);
    }
first_bad text k (behind state number live whole) =
    let long = length_map ended (split text).0 in
    let n = length-append (map ended (split text).0) ((split text).1 ∷ []) in
    let less : k - 1 ≡ length (map ended (split text).0) = omega arith in
    let k_is : k ≡ length (lines_and_end text) = omega arith in
    let taken : take k (lines_and_end text) ≡ lines_and_end text =
    ap (λ j. take j (lines_and_end text)) k_is ∙ ap (take (length (lines_and_end text))) (sym (append-nil (lines_and_end text)))
    ∙ take_front (lines_and_end text) [] in
    let held : take (k - 1) (lines_and_end text) ≡ map ended (split text).0 =
    ap (λ j. take j (lines_and_end text)) less ∙ take_front (map ended (split text).0) ((split text).1 ∷ []) in
    record {
      positive = omega arith;
      within = omega arith;
      live = subst Begins (sym held) (begins (version_of (upto text).0) (split text).0 state live);
      dead = λ b. dead_behind text state live whole (subst Begins taken b);
    }

is_read : (text : Bytes) (slots : Slots) (log : List Logged) → read_text text ≡ good slots log → IsRead text slots log
is_read text slots log e =
    let v = version_of (upto text).0 in
    let read = read_good v (split text).0 (split text).1 1 start slots log e in
    let found = whole_found v (readers v) (fitting v) (readers_read v) (split text).0 slots log read.0 in
    record {
      version = v;
      is = record {
        fits = found.1;
        text_is = split_text text ∙ ap₂ (λ ls rest. flat_map ended ls ++ rest) found.0 read.1 ∙ append-nil (text_of v slots log);
      };
    }

pub reading : (text : Bytes) (result : Result Transcript ReadStop) → Gives result (read_text text) → IsReading text result
reading text (Ok found) e = is_read text found.slots found.log e
reading text (Err OutOfMemory) e = tt
reading text (Err (Bad line)) e =
    first_bad text line.0 (read_bad (version_of (upto text).0) (split text).0 (split text).1 1 start line.0 e)

-- ---- one text, one pair

same_between : (slots others : Slots) (log other : List Logged) → Some (between slots log) ≡ Some (between others other) → (slots ≡ others) × (log ≡ other)
same_between slots others log other e = (cc, cc)

pub one_pair : (v w : Version) (text : Bytes) (slots others : Slots) (log other : List Logged) → IsTranscript v text slots log → IsTranscript w text others other
    → (v ≡ w) × (slots ≡ others) × (log ≡ other)
one_pair v w text slots others log other a b =
    let texts : text_of v slots log ≡ text_of w others other = sym a.text_is ∙ b.text_is in
    let splits : ◌≡◌ {A = List Bytes × Bytes} (lines_of v slots log, []) (lines_of w others other, []) =
    sym (split_transcript v slots log a.fits) ∙ ap split texts ∙ split_transcript w others other b.fits in
    let lines : lines_of v slots log ≡ lines_of w others other = ap (λ (p : List Bytes × Bytes). p.0) splits in
    let heads : header v ≡ header w = ap (head_or []) lines in
    let versions : v ≡ w = sym (named v) ∙ ap version_of heads ∙ named w in
    let read : Some (between slots log) ≡ Some (between others other) =
    sym (transcript_again v (readers v) (fitting v) (readers_read v) slots log a.fits)
    ∙ ap₂ (λ u ls. run (readers u) start ls) versions lines
    ∙ transcript_again w (readers w) (fitting w) (readers_read w) others other b.fits in
    let two = same_between slots others log other read in
    (versions, two.0, two.1)

pub finds : (text : Bytes) (result : Result Transcript ReadStop) → IsReading text result → (v : Version) (slots : Slots) (log : List Logged)
    → IsTranscript v text slots log → FindsThese slots log result
finds text (Ok found) r v slots log is = let one = one_pair r.version v text found.slots slots found.log log r.is is in (one.1, one.2)
finds text (Err OutOfMemory) r v slots log is = tt
finds text (Err (Bad line)) r v slots log is =
    r.dead (record {
      version = v;
      text = text;
      slots = slots;
      log = log;
      is = is;
      rest = drop line.0 (lines_and_end text);
      lines_are = take_drop line.0 (lines_and_end text);
    })
