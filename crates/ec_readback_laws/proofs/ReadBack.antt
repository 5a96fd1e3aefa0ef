-- Written text is read back: it is one piece of C text, its tokens are those of its chunks, and these derive the program.
use Rattle.std.proofs.Common.{◌≡◌, ℕ, true, false, List, [], ◌∷◌, ◌++◌, refl, inl, inr, ap, sym, ◌∙◌, subst, Some, None, Result, Ok, Err, append-nil}
use Rattle.std.specs.Prelude.{codes}
use Rattle.std.proofs.lemmas.Bool.{false≢true}
use Rattle.ec_base.specs.declared.fault.LimitKind.{LimitKind}
use Rattle.ec_base.specs.declared.fault.LimitKind.TheVariants.{L2, L3, L6}
use Rattle.ec_base.specs.declared.stop.Stop.{Stop}
use Rattle.ec_base.specs.declared.stop.Stop.TheVariants.{Limit}
use Rattle.ec_ctypes.specs.declared.text.piece.PieceKind.TheVariants.{C}
use Rattle.ec_ctypes.specs.declared.text.piece.Piece.{Piece}
use Rattle.ec_ctypes.specs.trees.Embedded.{EmbData}
use Rattle.ec_ctypes.specs.trees.Tokens.{include_token, end_token, TokenData}
use Rattle.ec_ctypes.specs.trees.Units.{UnitData}
use Rattle.ec_language.specs.Letters.{Text, newline}
use Rattle.ec_language.specs.CText as unit
use Rattle.ec_language.specs.Pieces.{Pieces}
use Rattle.ec_language.specs.Pieces as piece
use Rattle.ec_language.specs.Lexemes.{IncludeLine}
use Rattle.ec_language.specs.Tokens.{Part, token, counted, CParts, c_text, join_first, without_head, numbered_within, TokensWithin}
use Rattle.ec_language.specs.Tokens as t
use Rattle.ec_language.specs.Productions.{placed}
use Rattle.ec_language.specs.Productions as g
use Rattle.ec_language.specs.Grammar.{Derives}
use Rattle.ec_language.specs.First.{Reads, HasTree, PassesLimit, IsReadAs}
use Rattle.ec_language.proofs.Ends.{both}
use Rattle.ec_grammar.proofs.exact_lemmas.LimitsAside.{one_text_tree, read_as}
use Rattle.ec_writing_defs.specs.Chunks.{Chunks, text_of, At, behind_all}
use Rattle.ec_writing_defs.specs.Programs.{tops_chunks, head_lines, written_text}
use Rattle.ec_writing_defs.specs.Shapes.{are_written_tops, none_embedded, is_written_shape}
use Rattle.ec_readback_laws.specs.ReadBack.{read_back, IsReadBack}
use Rattle.ec_readback_laws.proofs.Marks.{UnitsOf, more_units, solo, no_units}
use Rattle.ec_readback_laws.proofs.Parts.{AllFit, parts_from, item_parts, parts_all, units_joined, units_all, first_kept, none_joined, data_from, all_placed, all_numbered}
use Rattle.ec_readback_laws.proofs.ApartPrograms.{tops_apart}
use Rattle.ec_readback_laws.proofs.Derivations.{line_is}
use Rattle.ec_readback_laws.proofs.Programs.{unit_derived}

-- ---- the head

abbrev first_line : Text
first_line = codes "#include <ecpglib.h>"

abbrev second_line : Text
second_line = codes "#include <sqlca.h>"

head_units : (rest : Text) → UnitsOf head_lines rest
head_units rest =
    solo 35 (codes "include <ecpglib.h>\n#include <sqlca.h>\n") rest refl
    (more_units (codes "include") (codes " <ecpglib.h>\n#include <sqlca.h>\n") rest (unit.word (codes "include") (codes " <ecpglib.h>\n#include <sqlca.h>\n" ++ rest) refl refl) refl
    (solo 32 (codes "<ecpglib.h>\n#include <sqlca.h>\n") rest refl
    (solo 60 (codes "ecpglib.h>\n#include <sqlca.h>\n") rest refl
    (more_units (codes "ecpglib") (codes ".h>\n#include <sqlca.h>\n") rest (unit.word (codes "ecpglib") (codes ".h>\n#include <sqlca.h>\n" ++ rest) refl refl) refl
    (solo 46 (codes "h>\n#include <sqlca.h>\n") rest refl
    (more_units (codes "h") (codes ">\n#include <sqlca.h>\n") rest (unit.word (codes "h") (codes ">\n#include <sqlca.h>\n" ++ rest) refl refl) refl
    (solo 62 (codes "\n#include <sqlca.h>\n") rest refl
    (solo 10 (codes "#include <sqlca.h>\n") rest refl
    (solo 35 (codes "include <sqlca.h>\n") rest refl
    (more_units (codes "include") (codes " <sqlca.h>\n") rest (unit.word (codes "include") (codes " <sqlca.h>\n" ++ rest) refl refl) refl
    (solo 32 (codes "<sqlca.h>\n") rest refl
    (solo 60 (codes "sqlca.h>\n") rest refl
    (more_units (codes "sqlca") (codes ".h>\n") rest (unit.word (codes "sqlca") (codes ".h>\n" ++ rest) refl refl) refl
    (solo 46 (codes "h>\n") rest refl
    (more_units (codes "h") (codes ">\n") rest (unit.word (codes "h") (codes ">\n" ++ rest) refl refl) refl
    (solo 62 (codes "\n") rest refl
    (solo 10 [] rest refl (no_units rest))))))))))))))))))

include_first : (rest : Text) → IncludeLine first_line (newline ∷ rest)
include_first rest = record {
  units = codes "#" ∷ codes "include" ∷ codes " " ∷ codes "<" ∷ codes "ecpglib" ∷ codes "." ∷ codes "h" ∷ codes ">" ∷ [];
  whole = refl;
  free = (unit.single (codes "#") _ refl, (unit.word (codes "include") _ refl refl, (unit.single (codes " ") _ refl, (unit.single (codes "<") _ refl, (unit.word (codes "ecpglib") _ refl refl, (unit.single (codes ".") _ refl, (unit.word (codes "h") _ refl refl, (unit.single (codes ">") _ refl, tt))))))));
  begin = refl;
  inside = refl;
  none = (refl, (refl, (refl, (refl, (refl, (refl, (refl, (refl, tt))))))));
  ends = refl;
}

include_second : (rest : Text) → IncludeLine second_line (newline ∷ rest)
include_second rest = record {
  units = codes "#" ∷ codes "include" ∷ codes " " ∷ codes "<" ∷ codes "sqlca" ∷ codes "." ∷ codes "h" ∷ codes ">" ∷ [];
  whole = refl;
  free = (unit.single (codes "#") _ refl, (unit.word (codes "include") _ refl refl, (unit.single (codes " ") _ refl, (unit.single (codes "<") _ refl, (unit.word (codes "sqlca") _ refl refl, (unit.single (codes ".") _ refl, (unit.word (codes "h") _ refl refl, (unit.single (codes ">") _ refl, tt))))))));
  begin = refl;
  inside = refl;
  none = (refl, (refl, (refl, (refl, (refl, (refl, (refl, (refl, tt))))))));
  ends = refl;
}

abbrev head_part : ℕ → Text → Part
head_part line bytes = record { line = line; tok = Ok (include_token bytes) }

abbrev start : At
start = record { line = 3; place = 0 }

all_parts : (rest : Text) (parts : List Part) (last : ℕ) → CParts true 3 true rest parts last → CParts true 1 true (head_lines ++ rest) (head_part 1 first_line ∷ head_part 2 second_line ∷ parts) last
all_parts rest parts last c =
    item_parts 1 1 true first_line (codes "\n#include <sqlca.h>\n" ++ rest) (Some (Ok (include_token first_line))) counted (head_part 2 second_line ∷ parts) last
    (t.include true first_line (codes "\n#include <sqlca.h>\n" ++ rest) refl (include_first (codes "#include <sqlca.h>\n" ++ rest))) refl
    (item_parts 1 2 false (newline ∷ []) (codes "#include <sqlca.h>\n" ++ rest) None counted (head_part 2 second_line ∷ parts) last (t.blank false (newline ∷ []) (codes "#include <sqlca.h>\n" ++ rest) refl refl) refl
    (item_parts 2 2 true second_line (newline ∷ rest) (Some (Ok (include_token second_line))) counted parts last (t.include true second_line (newline ∷ rest) refl (include_second rest)) refl
    (item_parts 2 3 false (newline ∷ []) rest None counted parts last (t.blank false (newline ∷ []) rest refl refl) refl c)))

-- ---- the text

abbrev alone : Text → List Piece
alone text = record { kind = C; bytes = text; line = record { 0 = 1 } } ∷ []

text_pieces : (cs : Chunks) → AllFit cs → Pieces (head_lines ++ text_of cs) (alone (head_lines ++ text_of cs))
text_pieces cs f =
    let text = head_lines ++ text_of cs in
    let a : UnitsOf text [] = units_joined head_lines (text_of cs) (head_units (text_of cs)) (units_all cs f) in
    ([], sym (append-nil text), refl, piece.c_text text [] a.units (sym a.are) refl a.free a.none refl, refl)

-- the tokens of chunks, and the end
abbrev ended : Chunks → List TokenData
ended cs = data_from start cs ++ token end_token (behind_all start cs).line (behind_all start cs).place ∷ []

text_tokens : (cs : Chunks) → AllFit cs → TokensWithin None true (alone (head_lines ++ text_of cs)) (Ok (ended cs))
text_tokens cs f =
    let ps = head_part 1 first_line ∷ head_part 2 second_line ∷ parts_from start cs in
    let last = (behind_all start cs).line in (
      ps,
      last,
      (ps, [], last, sym (append-nil ps), c_text ps last refl (all_parts (text_of cs) (parts_from start cs) last (parts_all cs f start true (λ e. refl))), (refl, refl)),
      sym (ap (λ qs. numbered_within None 0 last (without_head true (join_first (head_part 1 first_line) (join_first (head_part 2 second_line) qs)))) (none_joined cs f start)
          ∙ ap (λ qs. numbered_within None 0 last (without_head true (join_first (head_part 1 first_line) qs))) (first_kept (include_token second_line) cs (head_part 2 second_line) start refl refl)
          ∙ all_numbered cs start last),
    )

-- ---- the program

none_are : (es : List EmbData) → none_embedded es ≡ true → es ≡ []
none_are [] h = refl
none_are (e ∷ es) h = absurd (false≢true h)

pub has_tree : (u : UnitData) → is_written_shape u ≡ true → HasTree true (written_text u) (read_back u)
has_tree u h = record {
  pieces = alone (written_text u);
  tokens = ended cs;
  cut = text_pieces cs fit;
  lexed = text_tokens cs fit;
  derived = subst (Derives g.unit (placed (ended cs))) same
      (subst (λ w. Derives g.unit w (record { tops = u.tops; embs = []; last = last.line })) (sym (all_placed cs fit start last)) (unit_derived u.tops shape.0 start last refl));
}
  where
    shape : (are_written_tops u.tops ≡ true) × (none_embedded u.embs ≡ true)
    shape = both (are_written_tops u.tops) (none_embedded u.embs) h

    cs : Chunks
    cs = tops_chunks u.tops

    fit : AllFit cs
    fit = tops_apart u.tops shape.0

    last : TokenData
    last = token end_token (behind_all start cs).line (behind_all start cs).place

    same : ◌≡◌ {A = UnitData} (record { tops = u.tops; embs = []; last = last.line }) (read_back u)
    same = λ i. record { tops = u.tops; embs = sym (none_are u.embs shape.1) i; last = record { 0 = line_is start cs i } }

pub is_read_back : (u : UnitData) → is_written_shape u ≡ true → (a : Result UnitData Stop) → Reads true (written_text u) a → IsReadBack u a
is_read_back u h a r = pick (read_as true (written_text u) (read_back u) (has_tree u h) a r)
  where
    limit : (kind : LimitKind) → a ≡ Err (Limit kind) → PassesLimit (has_tree u h) kind → IsReadBack u a
    limit L2 e p = inr (inl e)
    limit L3 e p = inr (inr (inl e))
    limit L6 e p = inr (inr (inr e))
    limit _ e p = absurd p

    pick : IsReadAs (has_tree u h) a → IsReadBack u a
    pick (inl e) = inl e
    pick (inr x) = limit x.0 x.1 x.2

pub alone_read : (u v : UnitData) → is_written_shape u ≡ true → HasTree true (written_text u) v → v ≡ read_back u
alone_read u v h k = one_text_tree true (written_text u) v (read_back u) k (has_tree u h)
