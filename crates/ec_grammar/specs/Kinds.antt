-- What a token is to the grammar.
use Rattle.std.specs.Prelude.{Bool, true, false, List, [], ◌∷◌, codes}
use Rattle.ec_ctypes.specs.trees.Tokens.{TokData, word_token, integer_token, character_token, string_token, punct_token, include_token, emb_token, section_start, section_end, end_token}
use Rattle.ec_language.specs.Letters.{Text, same_text, is_among}
use Rattle.ec_language.specs.Keywords.{type_words, varchar_words}
use Rattle.ec_language.specs.Productions.{Terminal, same_punct}
use Rattle.ec_language.specs.Productions as g
use Rattle.ec_grammar.specs.declared.kind.Kind.{Kind}
use Rattle.ec_grammar.specs.declared.kind.Kind.TheVariants as k

-- a keyword other than those that name types, and its kind
pub record Keyword : Type 0 where
  pub text : Text
  pub kind : Kind

abbrev pub keyword : Text → Kind → Keyword
keyword text kind = record { text = text; kind = kind }

abbrev pub keywords : List Keyword
keywords =
    keyword (codes "static") k.Static
    ∷ keyword (codes "const") k.Const
    ∷ keyword (codes "struct") k.Struct
    ∷ keyword (codes "if") k.If
    ∷ keyword (codes "else") k.Else
    ∷ keyword (codes "while") k.While
    ∷ keyword (codes "do") k.Do
    ∷ keyword (codes "for") k.For
    ∷ keyword (codes "break") k.Break
    ∷ keyword (codes "continue") k.Continue
    ∷ keyword (codes "return") k.Return
    ∷ keyword (codes "goto") k.Goto
    ∷ keyword (codes "sizeof") k.Sizeof
    ∷ []

-- the kind of the first keyword with this text, or a name
abbrev pub kind_among : List Keyword → Text → Kind
kind_among [] w = k.Name
kind_among (x ∷ xs) w = elim (same_text w x.text) [ true ↦ x.kind | false ↦ kind_among xs w ]

abbrev pub word_kind : Text → Kind
word_kind w = elim (is_among type_words w) [
  | true ↦ k.TypeWord
  | false ↦ elim (is_among varchar_words w) [ true ↦ k.Varchar | false ↦ kind_among keywords w ]
]

abbrev pub emb_kind : Bool → Kind
emb_kind true = k.Executable
emb_kind false = k.Directive

abbrev pub kind_of : TokData → Kind
kind_of (word_token w) = word_kind w
kind_of (integer_token n t) = k.Integer
kind_of (character_token c) = k.Character
kind_of (string_token s) = k.Text
kind_of (punct_token m) = k.Mark m
kind_of (include_token bytes) = k.Include
kind_of (emb_token n executed) = emb_kind executed
kind_of section_start = k.Opening
kind_of section_end = k.Closing
kind_of end_token = k.End

-- the terminal that the tokens of a kind are
abbrev pub terminal : Kind → Terminal
terminal (k.Mark m) = g.mark m
terminal k.Static = g.keyword (codes "static")
terminal k.Const = g.keyword (codes "const")
terminal k.Struct = g.keyword (codes "struct")
terminal k.If = g.keyword (codes "if")
terminal k.Else = g.keyword (codes "else")
terminal k.While = g.keyword (codes "while")
terminal k.Do = g.keyword (codes "do")
terminal k.For = g.keyword (codes "for")
terminal k.Break = g.keyword (codes "break")
terminal k.Continue = g.keyword (codes "continue")
terminal k.Return = g.keyword (codes "return")
terminal k.Goto = g.keyword (codes "goto")
terminal k.Sizeof = g.keyword (codes "sizeof")
terminal k.TypeWord = g.type_word
terminal k.Varchar = g.varchar_word
terminal k.Name = g.name
terminal k.Integer = g.integer_constant
terminal k.Character = g.character_constant
terminal k.Text = g.string_literal
terminal k.Include = g.include_line
terminal k.Executable = g.executable
terminal k.Directive = g.directive
terminal k.Opening = g.opening_mark
terminal k.Closing = g.closing_mark
terminal k.End = g.end_of_text

abbrev pub same_kind : Kind → Kind → Bool
same_kind (k.Mark m) (k.Mark n) = same_punct m n
same_kind k.Static k.Static = true
same_kind k.Const k.Const = true
same_kind k.Struct k.Struct = true
same_kind k.If k.If = true
same_kind k.Else k.Else = true
same_kind k.While k.While = true
same_kind k.Do k.Do = true
same_kind k.For k.For = true
same_kind k.Break k.Break = true
same_kind k.Continue k.Continue = true
same_kind k.Return k.Return = true
same_kind k.Goto k.Goto = true
same_kind k.Sizeof k.Sizeof = true
same_kind k.TypeWord k.TypeWord = true
same_kind k.Varchar k.Varchar = true
same_kind k.Name k.Name = true
same_kind k.Integer k.Integer = true
same_kind k.Character k.Character = true
same_kind k.Text k.Text = true
same_kind k.Include k.Include = true
same_kind k.Executable k.Executable = true
same_kind k.Directive k.Directive = true
same_kind k.Opening k.Opening = true
same_kind k.Closing k.Closing = true
same_kind k.End k.End = true
same_kind _ _ = false
