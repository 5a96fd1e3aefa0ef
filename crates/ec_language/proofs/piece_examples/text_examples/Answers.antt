use Rattle.std.proofs.Common.{refl, [], ◌∷◌}
use Rattle.std.specs.Prelude.{codes}
use Rattle.ec_ctypes.specs.declared.text.piece.PieceKind.TheVariants.{C, Emb, InPlace, SectionStart, SectionEnd}
use Rattle.ec_language.specs.ReadPieces.{piece_of}
use Rattle.ec_language.proofs.ReadLaws.{pieces_back}
use Rattle.ec_language.proofs.piece_examples.text_examples.Goals as goal

pub returns : goal.returns
returns c = record {
  four = pieces_back (codes "EXEC SQL int x;\nint main(void) {\nEXEC SQL SELECT a FROM t INTO :x;\nprintf(\"%d\\n\", x);\nreturn 0;\n}\n") (piece_of InPlace (codes "EXEC SQL int x;") 1 ∷ piece_of C (codes "\nint main(void) {\n") 1 ∷ piece_of Emb (codes "EXEC SQL SELECT a FROM t INTO :x;") 3 ∷ piece_of C (codes "\nprintf(\"%d\\n\", x);\nreturn 0;\n}\n") 3 ∷ []) refl;
  comment_between = pieces_back (codes "EXEC /* c */ SQL a;") (piece_of C (codes "EXEC /* c */ SQL a;") 1 ∷ []) refl;
  newline_between = pieces_back (codes "exec\nSQL COMMIT;\n") (piece_of Emb (codes "exec\nSQL COMMIT;") 1 ∷ piece_of C (codes "\n") 2 ∷ []) refl;
  in_words = pieces_back (codes "xEXEC SQL a; EXEC SQLx; EXECSQL a;") (piece_of C (codes "xEXEC SQL a; EXEC SQLx; EXECSQL a;") 1 ∷ []) refl;
  in_comments = pieces_back (codes "/* EXEC SQL a; */ // EXEC SQL a;\n") (piece_of C (codes "/* EXEC SQL a; */ // EXEC SQL a;\n") 1 ∷ []) refl;
  in_quotes = pieces_back (codes "\"\\\"EXEC SQL a;\" 'EXEC SQL b;'") (piece_of C (codes "\"\\\"EXEC SQL a;\" 'EXEC SQL b;'") 1 ∷ []) refl;
  sql_quotes = pieces_back (codes "EXEC SQL SELECT ';', \"a;\"\";\", 'it''s;';x") (piece_of Emb (codes "EXEC SQL SELECT ';', \"a;\"\";\", 'it''s;';") 1 ∷ piece_of C (codes "x") 1 ∷ []) refl;
  escape = pieces_back (codes "EXEC SQL SELECT E'\\';';x") (piece_of Emb (codes "EXEC SQL SELECT E'\\';';") 1 ∷ piece_of C (codes "x") 1 ∷ []) refl;
  no_escape = pieces_back (codes "EXEC SQL SELECT xE'\\';x") (piece_of Emb (codes "EXEC SQL SELECT xE'\\';") 1 ∷ piece_of C (codes "x") 1 ∷ []) refl;
  sql_comments = pieces_back (codes "EXEC SQL a -- ;\n /* ; /* ; */ ; */;x") (piece_of Emb (codes "EXEC SQL a -- ;\n /* ; /* ; */ ; */;") 1 ∷ piece_of C (codes "x") 2 ∷ []) refl;
  braces = pieces_back (codes "EXEC SQL struct { int a; } s;x") (piece_of InPlace (codes "EXEC SQL struct { int a; } s;") 1 ∷ piece_of C (codes "x") 1 ∷ []) refl;
  lone_brace = pieces_back (codes "EXEC SQL int } x; y;") (piece_of InPlace (codes "EXEC SQL int } x;") 1 ∷ piece_of C (codes " y;") 1 ∷ []) refl;
  c_inside = pieces_back (codes "EXEC SQL char /* ; */ c = ';', d = \"\\\";\" // ; EXEC SQL\n ;x") (piece_of InPlace (codes "EXEC SQL char /* ; */ c = ';', d = \"\\\";\" // ; EXEC SQL\n ;") 1 ∷ piece_of C (codes "x") 2 ∷ []) refl;
  comment_first = pieces_back (codes "EXEC SQL /* c */ int x;") (piece_of InPlace (codes "EXEC SQL /* c */ int x;") 1 ∷ []) refl;
  no_type_first = pieces_back (codes "EXEC SQL (int x;") (piece_of Emb (codes "EXEC SQL (int x;") 1 ∷ []) refl;
  section = pieces_back (codes "EXEC SQL Begin /* c */ declare SECTION;EXEC SQL END DECLARE SECTION ;") (piece_of SectionStart (codes "EXEC SQL Begin /* c */ declare SECTION;") 1 ∷ piece_of SectionEnd (codes "EXEC SQL END DECLARE SECTION ;") 1 ∷ []) refl;
}
