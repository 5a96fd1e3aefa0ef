-- The words of C that are no names, in one table, by what they are to the lexer and to the grammar (ISO/IEC 9899:1999, 6.4.1).
use Rattle.std.specs.Prelude.{Bool, true, not, ◌&&◌, ◌||◌, List, [], ◌∷◌, ◌++◌, codes}
use Rattle.ec_language.specs.Letters.{Text, is_among}

abbrev pub integer_words : List Text
integer_words =
    codes "char" ∷ codes "short" ∷ codes "int" ∷ codes "long" ∷ codes "signed" ∷ codes "unsigned"
    ∷ []

-- the words of types
abbrev pub type_words : List Text
type_words = codes "void" ∷ codes "bool" ∷ integer_words

abbrev pub varchar_words : List Text
varchar_words = codes "VARCHAR" ∷ codes "varchar" ∷ []

-- all others that the grammar has
abbrev pub other_keywords : List Text
other_keywords =
    codes "static" ∷ codes "const" ∷ codes "struct" ∷ codes "if" ∷ codes "else" ∷ codes "while"
    ∷ codes "do" ∷ codes "for"
    ∷ codes "break" ∷ codes "continue" ∷ codes "return" ∷ codes "goto" ∷ codes "sizeof" ∷ []

-- words of C that are left out
abbrev pub left_out_words : List Text
left_out_words =
    codes "float" ∷ codes "double" ∷ codes "typedef" ∷ codes "union" ∷ codes "extern"
    ∷ codes "register" ∷ codes "volatile"
    ∷ codes "inline" ∷ codes "auto" ∷ codes "restrict" ∷ codes "switch" ∷ codes "case"
    ∷ codes "default" ∷ codes "enum" ∷ []

-- those with which a declaration after `EXEC SQL` begins
abbrev pub declaring_words : List Text
declaring_words = integer_words ++ codes "bool" ∷ codes "struct" ∷ codes "const" ∷ varchar_words

-- a word that stands in no quotes in the grammar
abbrev pub is_name : Text → Bool
is_name w = not (is_among type_words w || is_among varchar_words w || is_among other_keywords w)

-- ---- the whole table

abbrev pub reserved_words : List Text
reserved_words = type_words ++ varchar_words ++ other_keywords ++ left_out_words

abbrev pub are_different : List Text → Bool
are_different [] = true
are_different (w ∷ ws) = not (is_among ws w) && are_different ws
