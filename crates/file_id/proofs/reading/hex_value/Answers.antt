use Rattle.std.proofs.Common.{◌≡◌, take, arith, ap}
use Rattle.std.specs.Str.Parse.{digits_value}
use Rattle.std.proofs.lemmas.List.{take_all}
use Rattle.std.proofs.lemmas.Int.Digits.{digits_value_more}
use Rattle.file_id.proofs.Digits.{hex_room, eight_fit}
use Rattle.file_id.proofs.reading.hex_value.Goals as goal

pub overflow_mul-value : goal.overflow_mul-value
overflow_mul-value c = omega (arith, c.loop-digit.invariant, hex_room c.args.digits.now c.loop-digit.digit-index c.requires.digits (omega arith) c.requires.few)

pub overflow_add-value : goal.overflow_add-value
overflow_add-value c = omega (arith, c.loop-digit.invariant, hex_room c.args.digits.now c.loop-digit.digit-index c.requires.digits (omega arith) c.requires.few)

pub loop-digit-preserved : goal.loop-digit-preserved
loop-digit-preserved c = omega (arith, c.loop-digit.invariant, c.hex_digit.ensures.value, digits_value_more 16 c.args.digits.now c.loop-digit.digit-index c.loop-digit-test.true)

pub returns-clause-below : goal.returns-clause-below
returns-clause-below c = λ few.
    let all : take c.loop-digit.digit-index c.args.digits.now ≡ c.args.digits.now = take_all _ _ c.loop-digit-test.false in
    omega (arith, c.loop-digit.invariant, ap (digits_value 16) all, eight_fit c.args.digits.now c.requires.digits few)
