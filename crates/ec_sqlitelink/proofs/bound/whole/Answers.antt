-- What `parse` reads of a text is the number whose decimal it is, if it is one.
use Rattle.std.proofs.Common.{◌∙◌, ap, subst}
use Rattle.std.specs.Int.{w64}
use Rattle.std.specs.Str.Parse.{ParsesSigned}
use Rattle.ec_sqlitelink.specs.Bound.{whole_of}
use Rattle.ec_sqlitelink.proofs.NumberLemmas.{whole_parsed, whole_unparsed, whole_no_text}
use Rattle.ec_sqlitelink.proofs.bound.whole.Goals as goal

pub returns-in-Ok-parse : goal.returns-in-Ok-parse
returns-in-Ok-parse c =
    c.exact.ensures
    ∙ whole_parsed c.args.text.now _ _ c.in-Ok-parse.is
    (subst (λ bytes. ParsesSigned w64 10 bytes c.parse.result) c.in-Ok.ensures.cases.0 c.parse.ensures.value.0)

pub returns-in-Err-parse : goal.returns-in-Err-parse
returns-in-Err-parse c =
    whole_unparsed c.in-Ok.written.now _ _ c.in-Err-parse.is c.parse.ensures.value.0
    ∙ ap whole_of c.in-Ok.ensures.cases.0

pub returns-in-Err : goal.returns-in-Err
returns-in-Err c = whole_no_text c.args.text.now c.in-Err.ensures.cases.0
