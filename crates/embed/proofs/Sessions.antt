-- Lines of an input typed one after another.
use Rattle.std.proofs.Common.{◌≡◌, ℕ, ◌+◌, ◌<◌, ◌≤◌, List, [], ◌∷◌, ◌++◌, length, take, drop, codes, decimal, sym, refl, ap, ◌∙◌, subst, arith, lit<, lit≤, length-append}
use Rattle.std.proofs.lemmas.Fmt.{decimal_digit, decimal_step}
use Rattle.std.proofs.lemmas.List.{length-take-le}
use Rattle.lines.specs.Lines.{first_line, later_lines}
use Rattle.lines.proofs.Splitting.{later_shorter}
use Rattle.refusals.specs.Texts.{refusal_text}
use Rattle.commands.specs.Faults.{of_console}
use Rattle.commands.specs.Outputs.{written}
use Rattle.commands.specs.declared.output.Output.{Output}
use Rattle.commands.specs.declared.fault.ConsoleFault.TheVariants.{Long}
use Rattle.console.specs.Answers.{Answered}
use Rattle.console.specs.Handling.{Handles}
use Rattle.console.specs.States.{State, start}
use Rattle.embed.specs.Consoles.{Begins, none, more, Prints, Typed}
use Rattle.embed.proofs.Writing.{written_behind}

-- what is written has at most 32 bytes
pub written_short : (o : Output) → length (written o) ≤ 32
written_short o =
    let fits = o.fits in
    let room = o.room in
    let long = length-take-le o.used o.bytes (omega arith) in
    omega arith

-- no line yet
pub typed_none : (input places : List ℕ) (x : State) → x ≡ start → Typed input places input 0 x places
typed_none input places x e = record { lines = []; bytes = []; begins = none; prints = subst (Prints [] []) (sym e) none; fits = omega arith; counted = refl; placed = refl }

-- one line more
pub typed_more : (input places rest line bytes later : List ℕ) (written : ℕ) (x x' : State) (places' places'' : List ℕ) → Typed input places rest written x places' → 0 < length rest → line ≡ first_line rest → later ≡ later_lines rest → Answered x line bytes x' → written + length bytes ≤ length places → places'' ≡ take written places' ++ (bytes ++ drop (written + length bytes) places') → Typed input places later (written + length bytes) x' places''
typed_more input places rest line bytes later written x x' places' places'' t l e f a m p =
    record {
      lines = t.lines ++ first_line rest ∷ [];
      bytes = t.bytes ++ bytes;
      begins = subst (Begins input (t.lines ++ first_line rest ∷ [])) (sym f) (more t.begins l);
      prints = subst (λ bs. Prints (t.lines ++ first_line rest ∷ []) (t.bytes ++ bs) x') (sym a.written) (more t.prints (subst (λ ln. Handles x ln a.calls a.out x') e a.handled));
      fits = m;
      counted = ap (λ n. n + length bytes) t.counted ∙ sym (length-append t.bytes bytes);
      placed = p ∙ written_behind t.bytes places places' bytes written (sym t.counted) t.placed;
    }

-- what is left of an input is no longer than the input
pub begins_shorter : {input : List ℕ} {lines : List (List ℕ)} {rest : List ℕ} → Begins input lines rest → length rest ≤ length input
begins_shorter none = omega arith
begins_shorter (more {rest = rest} b l) = let h = begins_shorter b in let s = later_shorter 10 rest l in omega arith

-- the line that an input prints that is too long
forty_one : decimal 41 ≡ 52 ∷ 49 ∷ []
forty_one = decimal_step 41 (lit≤ tt) (lit< tt) ∙ ap (λ ds. ds ++ 49 ∷ []) (decimal_digit 4 (lit< tt))

pub too_long_line : take 32 (refusal_text (of_console Long) ++ 10 ∷ []) ≡ codes "refused 41\n"
too_long_line = ap (λ ds. take 32 ((codes "refused " ++ (ds ++ [])) ++ 10 ∷ [])) forty_one
