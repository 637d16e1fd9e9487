use Rattle.std.proofs.Common.{arith}
use Rattle.terms.specs.Grammar.{small, capital, digit}
use Rattle.terms.proofs.Letters.{no_letter}
use Rattle.terms.proofs.letter.action.Goals as goal

pub returns-in-a-to-z : goal.returns-in-a-to-z
returns-in-a-to-z c = small (omega arith) (omega arith)

pub returns-in-A-to-Z : goal.returns-in-A-to-Z
returns-in-A-to-Z c = capital (omega arith) (omega arith)

pub returns-in-0-to-9 : goal.returns-in-0-to-9
returns-in-0-to-9 c = digit (omega arith) (omega arith)

pub returns-in_default : goal.returns-in_default
returns-in_default c = λ a. no_letter (λ low high. omega (arith, low, high)) (λ low high. omega (arith, low, high)) (λ low high. omega (arith, low, high))
