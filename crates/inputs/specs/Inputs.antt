-- What an input denotes, and why it is refused.
use Rattle.std.specs.Prelude.{◌≡◌, List, Some, None, Ok, Err, Option, Result}
use Rattle.std.specs.Option.{option_map}
use Rattle.lts.specs.Meaning.{Meaning}
use Rattle.tables.specs.Drawing.{table_meaning}
use Rattle.tables.specs.Laid.{Laid}
use Rattle.tables.specs.Records.{Rec}
use Rattle.tables.specs.Rows as rows
use Rattle.tables.specs.Tables as tables
use Rattle.terms.specs.Grammar.{Spells, sum}
use Rattle.terms.specs.Graph.{graph}
use Rattle.terms.specs.Scan as scan
use Rattle.terms.specs.Syntax.{Tree}
use Rattle.terms.specs.Terms.{tree_of}
use Rattle.inputs.specs.declared.fault.InputFault.{InputFault}
use Rattle.inputs.specs.declared.input.Input.{Input}
use Rattle.inputs.specs.declared.input.Input.TheVariants as inputs
use Rattle.inputs.specs.declared.parsed.Parsed.{Parsed}
use Rattle.inputs.specs.declared.parsed.Parsed.TheVariants as parsed

-- the first refusal of a text by the byte-by-byte rule, or of a file by the rows
abbrev pub first_refusal_of : Input → Option InputFault
first_refusal_of (inputs.Term text) = option_map (λ f. InputFault.Term f) (scan.first_refusal text.now)
first_refusal_of (inputs.Table file) = option_map (λ f. InputFault.Table f) (rows.first_refusal file.now)

-- a text denotes the graph of the term that it spells, a file the procedure that its records draw
abbrev pub Denotes : Input → Meaning → Type 0
Denotes (inputs.Term text) m = (t : Tree) × Spells sum 0 text.now t × (m ≡ graph t)
Denotes (inputs.Table file) m = (rs : List Rec) × Laid 0 rs file.now × (m ≡ table_meaning rs)

-- the meaning of what was read
abbrev pub meaning_of : Parsed → Meaning
meaning_of (parsed.Term t) = graph (tree_of t)
meaning_of (parsed.Table t) = tables.meaning_of t

-- the refusal that was answered, if any
abbrev pub refusal_of : Result Parsed InputFault → Option InputFault
refusal_of (Ok x) = None
refusal_of (Err f) = Some f
