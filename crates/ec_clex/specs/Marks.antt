-- Marks, by their first bytes.
use Rattle.std.specs.Prelude.{ℕ, Bool, ◌==◌, drop, Option, Some, None, if◌then◌else◌}
use Rattle.ec_ctypes.specs.declared.text.token.Punct.{Punct}
use Rattle.ec_ctypes.specs.declared.text.token.Punct.TheVariants as p
use Rattle.ec_language.specs.Letters.{Text, begins}
use Rattle.ec_language.specs.Lexemes.{Class, punct, left_out}
use Rattle.ec_clex.specs.declared.marks.Mark.{Mark}

abbrev pub begins_byte : ℕ → Text → Bool
begins_byte byte rest = begins (λ b. b == byte) rest

-- a mark of so many bytes
abbrev pub of : Punct → ℕ → Option Mark
of kind len = Some (record { punct = Some kind; len = len })

-- a mark of so many bytes that is left out
abbrev pub left : ℕ → Option Mark
left len = Some (record { punct = None; len = len })

-- each of these by what stands behind the first byte
abbrev pub assigning : Text → Punct → Punct → Option Mark
assigning rest alone assigns = if begins_byte 61 rest then of assigns 2 else of alone 1

abbrev pub doubling : Text → ℕ → Punct → Punct → Punct → Option Mark
doubling rest byte alone twice assigns =
    if begins_byte byte rest then of twice 2 else assigning rest alone assigns

abbrev pub shifting : Text → ℕ → Punct → Punct → Punct → Punct → Option Mark
shifting rest byte alone equal shift assigns =
    if begins_byte byte rest
    then (if begins_byte 61 (drop 1 rest) then of assigns 3 else of shift 2)
    else assigning rest alone equal

abbrev pub minus : Text → Option Mark
minus rest =
    if begins_byte 62 rest then of p.Arrow 2
    else doubling rest 45 p.Minus p.MinusMinus p.MinusAssign

abbrev pub point : Text → Option Mark
point rest =
    if begins_byte 46 rest then (if begins_byte 46 (drop 1 rest) then left 3 else of p.Dot 1)
    else of p.Dot 1

-- marks that nothing makes longer
abbrev pub lonely : ℕ → Option Mark
lonely b =
    if b == 40 then of p.LeftParen 1
    else if b == 41 then of p.RightParen 1
    else if b == 91 then of p.LeftBracket 1
    else if b == 93 then of p.RightBracket 1
    else if b == 123 then of p.LeftBrace 1
    else if b == 125 then of p.RightBrace 1
    else if b == 59 then of p.Semicolon 1
    else if b == 44 then of p.Comma 1
    else if b == 126 then of p.Tilde 1
    else if b == 58 then of p.Colon 1
    else if b == 63 then left 1
    else None

-- marks that go on with `=` alone
abbrev pub compared : ℕ → Text → Option Mark
compared b rest =
    if b == 61 then assigning rest p.Assign p.EqualEqual
    else if b == 33 then assigning rest p.Not p.NotEqual
    else if b == 42 then assigning rest p.Star p.StarAssign
    else if b == 47 then assigning rest p.Slash p.SlashAssign
    else if b == 37 then assigning rest p.Percent p.PercentAssign
    else if b == 94 then assigning rest p.Caret p.CaretAssign
    else lonely b

-- the mark that begins with this byte, and what stands behind it
abbrev pub mark_of : ℕ → Text → Option Mark
mark_of b rest =
    if b == 45 then minus rest
    else if b == 46 then point rest
    else if b == 60 then shifting rest 60 p.Less p.LessEqual p.Shl p.ShlAssign
    else if b == 62 then shifting rest 62 p.Greater p.GreaterEqual p.Shr p.ShrAssign
    else if b == 43 then doubling rest 43 p.Plus p.PlusPlus p.PlusAssign
    else if b == 38 then doubling rest 38 p.And p.AndAnd p.AndAssign
    else if b == 124 then doubling rest 124 p.Or p.OrOr p.OrAssign
    else compared b rest

abbrev pub punct_class : Option Punct → Class
punct_class (Some p) = punct p
punct_class None = left_out

-- the class of a mark, and the text behind it
abbrev pub mark_view : Text → Mark → Class × Text
mark_view text m = (punct_class m.punct, drop m.len text)
