-- A text by its first line.
use Rattle.std.proofs.Common.{◌≡◌, ◌∙◌, ◌∷◌, [], ◌==◌, ◌+◌, ℕ, Bool, true, false, List, Some, refl, ap, ap₂, sym, cond, drop, take, take_all, suc, length, ◌-◌, ◌≤◌, arith}
use Rattle.ec_transcript.specs.declared.version.Version.{Version}
use Rattle.ec_transcript.specs.Text.{Bytes}
use Rattle.ec_transcript.specs.States.{State, start, step}
use Rattle.ec_transcript.specs.Lines.{readers}
use Rattle.ec_transcript.specs.Whole.{version_of, upto, split, put_by, read_lines, read_text, Outcome}

abbrev pub by_back : Bytes → Bytes → List Bytes × Bytes
by_back front [] = ([], front)
by_back front (b ∷ more) = (front ∷ (split more).0, (split more).1)

put_back : (b : ℕ) (front back : Bytes) → put_by b (by_back front back).0 (by_back front back).1 ≡ by_back (b ∷ front) back
put_back b front [] = refl
put_back b front (c ∷ more) = refl

pub split_upto : (text : Bytes) → split text ≡ by_back (upto text).0 (upto text).1
split_upto [] = refl
split_upto (b ∷ text) = go (b == 10) (split_upto text)
  where
    go : (q : Bool) → split text ≡ by_back (upto text).0 (upto text).1
        → ◌≡◌ {A = List Bytes × Bytes} (cond q ([] ∷ (split text).0, (split text).1) (put_by b (split text).0 (split text).1))
        (by_back (cond {A = Bytes × Bytes} q ([], b ∷ text) (b ∷ (upto text).0, (upto text).1)).0 (cond {A = Bytes × Bytes} q ([], b ∷ text) (b ∷ (upto text).0, (upto text).1)).1)
    go true more = refl
    go false more = ap (λ (p : List Bytes × Bytes). put_by b p.0 p.1) more ∙ put_back b (upto text).0 (upto text).1

-- what is left of a text whose front and back are these
abbrev pub read_back : Version → Bytes → Bytes → ℕ → State → Outcome
read_back v front back n state = read_lines v (by_back front back).0 (by_back front back).1 n state

pub read_upto : (v : Version) (text : Bytes) (n : ℕ) (state : State) → read_back v (upto text).0 (upto text).1 n state ≡ read_lines v (split text).0 (split text).1 n state
read_upto v text n state = ap (λ (p : List Bytes × Bytes). read_lines v p.0 p.1 n state) (sym (split_upto text))

pub first_reads : (v : Version) (front back text : Bytes) → v ≡ version_of front → front ≡ (upto text).0 → back ≡ (upto text).1 → read_back v front back 1 start ≡ read_text text
first_reads v front back text named f b =
    ap (λ u. read_back u front back 1 start) (named ∙ ap version_of f)
    ∙ ap₂ (λ x y. read_back (version_of (upto text).0) x y 1 start) f b ∙ read_upto (version_of (upto text).0) text 1 start

-- the next line is read
pub next_reads : (v : Version) (front back f2 b2 : Bytes) (n : ℕ) (state next : State) (whole : Outcome) → 1 ≤ length back → step (readers v) state front ≡ Some next
    → f2 ≡ (upto (take (length back - 1) (drop 1 back))).0 → b2 ≡ (upto (take (length back - 1) (drop 1 back))).1 → read_back v front back n state ≡ whole → read_back v f2 b2 (n + 1) next ≡ whole
next_reads v front [] f2 b2 n state next whole some is f b e = absurd (omega arith)
next_reads v front (c ∷ more) f2 b2 n state next whole some is f b e =
    let all : take (suc (length more) - 1) more ≡ more = take_all _ more (omega arith) in
    let f = rw all at f in
    let b = rw all at b in
    ap₂ (λ x y. read_back v x y (n + 1) next) f b ∙ read_upto v more (n + 1) next ∙ rw is at e

pub next_number : (n len total : ℕ) (back f2 b2 : Bytes) → 1 ≤ length back → length f2 + length b2 ≡ length (take (length back - 1) (drop 1 back)) → n + length back ≤ total → n + 1 + length b2 ≤ total
next_number n len total [] f2 b2 some e h = absurd (omega arith)
next_number n len total (c ∷ more) f2 b2 some e h =
    let all : take (suc (length more) - 1) more ≡ more = take_all _ more (omega arith) in
    let e = rw all at e in
    omega arith
