use Rattle.std.proofs.Common.{[], sym, subst}
use Rattle.lts.specs.Map.{identity}
use Rattle.shelves.specs.Moves.{account_of}
use Rattle.console.specs.Sessions.{none, Reached}
use Rattle.console.proofs.console.Console.new.Goals as goal

pub invariant_of-result : goal.invariant_of-result
invariant_of-result c =
    let shelved = subst (λ a. Reached a identity) (sym c.new.ensures) ([], [], none) in
    record { reached = ∣ subst (λ entries. Reached (account_of c.new.result) entries) (sym c.identity.ensures) shelved ∣₁ }
