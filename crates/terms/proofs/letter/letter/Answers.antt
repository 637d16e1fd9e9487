use Rattle.std.proofs.Common.{arith}
use Rattle.terms.proofs.Letters.{small_letter, capital_letter, digit_letter}
use Rattle.terms.proofs.letter.letter.Goals as goal

pub returns-in-0-to-25 : goal.returns-in-0-to-25
returns-in-0-to-25 c = small_letter c.args.action (omega arith)

pub returns-in-26-to-51 : goal.returns-in-26-to-51
returns-in-26-to-51 c = capital_letter c.args.action (omega arith) (omega arith)

pub returns-in-52-to-61 : goal.returns-in-52-to-61
returns-in-52-to-61 c = digit_letter c.args.action (omega arith) (omega arith)
