use Rattle.std.proofs.Common.{◌≡◌, ◌++◌, string_bytes}
use Rattle.std.specs.List.{range_with_len, flat_map}
use Rattle.drawings.specs.Texts.{row_text}
use Rattle.drawings.proofs.procedure.push_drawing.Given as goal

abbrev pub invariant-loop-s : goal.invariant-loop-s
invariant-loop-s g l = string_bytes l.out ≡ string_bytes l.initial.out ++ flat_map (row_text l.form (g.S.System.meaning l.source)) (range_with_len 0 l.s)
