-- The name of a side.
use Rattle.std.specs.Prelude.{ℕ, List, codes}
use Rattle.explanations.specs.declared.side.Side.{Side}
use Rattle.explanations.specs.declared.side.Side.TheVariants.{Left, Right}

abbrev pub side_text : Side → List ℕ
side_text Left = codes "left"
side_text Right = codes "right"
