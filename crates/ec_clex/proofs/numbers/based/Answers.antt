use Rattle.std.proofs.Common.{◌∙◌, Option, sym, ap, take, drop, ◌-◌}
use Rattle.std.specs.Prelude.{option_map}
use Rattle.ec_ctypes.specs.declared.types.arith.Arith.{Arith}
use Rattle.ec_language.specs.Constants.{Suffix, constant_of}
use Rattle.ec_clex.specs.Numbers.{suffix_view}
use Rattle.ec_clex.proofs.Digits.{based_digits, no_constant}
use Rattle.ec_clex.proofs.numbers.based.Goals as goal

pub returns-in-None-digits_value : goal.returns-in-None-digits_value
returns-in-None-digits_value c =
    let t = c.args.text.now in
    let digits = take (c.digits_end-end.result - c.args.from) (drop c.args.from t) in
    sym (based_digits c.args.base c.args.decimal c.args.from c.digits_end-end.result t c.digits_end-end.ensures.is c.if-end-from.false
    ∙ ap (λ (s : Option Suffix). constant_of c.args.decimal digits s c.args.base) (sym c.in-Some.ensures)
    ∙ no_constant c.args.decimal digits (suffix_view c.in-Some.suffix) c.args.base c.in-None-digits_value.ensures)

pub returns-in-Some-type_of : goal.returns-in-Some-type_of
returns-in-Some-type_of c =
    let t = c.args.text.now in
    let digits = take (c.digits_end-end.result - c.args.from) (drop c.args.from t) in
    sym (based_digits c.args.base c.args.decimal c.args.from c.digits_end-end.result t c.digits_end-end.ensures.is c.if-end-from.false
    ∙ ap (λ (s : Option Suffix). constant_of c.args.decimal digits s c.args.base) (sym c.in-Some.ensures)
    ∙ rw (← c.in-Some-digits_value.ensures) (ap (λ (o : Option Arith). option_map (λ k. (c.in-Some-digits_value.number, k)) o) (sym c.in-Some-type_of.ensures)))

pub returns-in-None-type_of : goal.returns-in-None-type_of
returns-in-None-type_of c =
    let t = c.args.text.now in
    let digits = take (c.digits_end-end.result - c.args.from) (drop c.args.from t) in
    sym (based_digits c.args.base c.args.decimal c.args.from c.digits_end-end.result t c.digits_end-end.ensures.is c.if-end-from.false
    ∙ ap (λ (s : Option Suffix). constant_of c.args.decimal digits s c.args.base) (sym c.in-Some.ensures)
    ∙ rw (← c.in-Some-digits_value.ensures) (ap (λ (o : Option Arith). option_map (λ k. (c.in-Some-digits_value.number, k)) o) (sym c.in-None-type_of.ensures)))
