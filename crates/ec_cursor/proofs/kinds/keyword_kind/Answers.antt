use Rattle.std.proofs.Common.{[], ◌∷◌, codes, ◌∙◌}
use Rattle.ec_grammar.specs.declared.kind.Kind.TheVariants as kind
use Rattle.ec_grammar.specs.Kinds.{keyword}
use Rattle.ec_cursor.proofs.Keywords.{behind_four}
use Rattle.ec_cursor.proofs.kinds.keyword_kind.Goals as goal

pub returns : goal.returns
returns c = c.loop_kind.ensures ∙ behind_four (keyword (codes "static") kind.Static) (keyword (codes "const") kind.Const) (keyword (codes "struct") kind.Struct) (keyword (codes "if") kind.If)
    (keyword (codes "else") kind.Else ∷ keyword (codes "while") kind.While ∷ keyword (codes "do") kind.Do ∷ keyword (codes "for") kind.For ∷ keyword (codes "break") kind.Break
    ∷ keyword (codes "continue") kind.Continue ∷ keyword (codes "return") kind.Return ∷ keyword (codes "goto") kind.Goto ∷ keyword (codes "sizeof") kind.Sizeof ∷ [])
    c.args.word.now (rw c.as_slice.ensures at c.if-eq.ensures) (rw c.as_slice-2.ensures at c.if-eq-2.ensures) (rw c.as_slice-3.ensures at c.if-eq-3.ensures) (rw c.as_slice-4.ensures at c.if-eq-4.ensures)
