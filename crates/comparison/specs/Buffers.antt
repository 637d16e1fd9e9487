-- What is left in the caller's buffers.
use Rattle.std.specs.Prelude.{◌+◌, ◌<◌, List, ◌++◌, length, take, drop, Some, None, Option}
use Rattle.formulas.specs.declared.line.Line.{Line}
use Rattle.comparison.specs.declared.report.Verdict.{Verdict}
use Rattle.comparison.specs.declared.report.Verdict.TheVariants.{Same, Different}
use Rattle.comparison.specs.declared.starts.Apart.{Apart}

-- the verdict: the lines up to the one that tells the starts apart are enough
abbrev pub told : Option Apart → Verdict
told None = Same
told (Some x) = Different (x.line + 1) x.line x.depth

-- those lines in front of what stood in the buffer
abbrev pub left_in : Option Apart → List Line → List Line → List Line
left_in None written lines = lines
left_in (Some x) written lines = take (x.line + 1) written ++ drop (x.line + 1) lines

-- the line is among those that were written, and has a place
abbrev pub FitsLines : Option Apart → List Line → List Line → Type 0
FitsLines None written lines = Unit {0}
FitsLines (Some x) written lines = (x.line < length written) × (x.line < length lines)
