-- What a reader holds: the term put together so far.
use Rattle.std.specs.Prelude.{◌≡◌, ℕ, ◌+◌, ◌≤◌, List, [], ◌∷◌, length, Some, None, Ok, Err, Option, Result}
use Rattle.terms.specs.Syntax.{Tree, leaf, size, Numbered}
use Rattle.terms.specs.Names.{known, stacked}
use Rattle.terms.specs.Table.{at}
use Rattle.terms.specs.Scan.{scan}
use Rattle.terms.specs.Assembly.{Place, ahead, past, Partial, stand_of, plus, times, closed, feed}
use Rattle.terms.specs.Assembly as assembly
use Rattle.terms.specs.Terms.{tree_of}
use Rattle.terms.specs.declared.fault.TermFault.{TermFault}
use Rattle.terms.specs.declared.fault.TermFault.TheVariants.{Actions, Brackets}
use Rattle.terms.specs.declared.nodes.Nodes.{Nodes}
use Rattle.terms.specs.declared.term.Term.{Term}
use Rattle.terms.specs.declared.term.reader.Frame.{Frame}
use Rattle.terms.specs.declared.term.reader.Reader.{Reader}
use Rattle.terms.specs.declared.term.reader.Position.{Position}
use Rattle.terms.specs.declared.term.reader.Position.TheVariants.{Before, Behind}

module _ (trees : ℕ → Tree) where
  abbrev pub place : Position → Place
  place (Before p) = ahead (known trees p)
  place (Behind k) = past (trees k)

  abbrev pub opened : List Frame → List assembly.Opened
  opened [] = []
  opened (f ∷ fs) = record { sum = known trees f.sum; product = known trees f.product } ∷ opened fs

abbrev pub held : Nodes → List Frame → Option ℕ → Position → ℕ → Partial
held nodes stack sum position n = record { brackets = opened (at nodes) stack; sum = known (at nodes) sum; place = place (at nodes) position; actions = n }

abbrev pub partial : Reader → Partial
partial r = held r.nodes (stacked r.frames r.depth) r.sum r.position r.actions

-- the first refusal of what follows
abbrev pub scanned : Partial → ℕ → List ℕ → Option TermFault
scanned q offset cs = scan (stand_of q.place) (length q.brackets) q.actions offset cs

-- an action was read, or is the 64th
abbrev pub Acted : Reader → Option ℕ → ℕ → ℕ → Result (Unit {0}) TermFault → Reader → Type 0
Acted r product a offset (Ok done) r' = partial r' ≡ record (partial r) { place = past (times (known (at r.nodes) product) (leaf a (r.actions + 1))); actions = r.actions + 1 }
Acted r product a offset (Err f) r' = (f ≡ Actions offset) × (63 ≤ r.actions)

-- a bracket was opened, or is the 33rd
abbrev pub Opened : Reader → Option ℕ → ℕ → Result (Unit {0}) TermFault → Reader → Type 0
Opened r product offset (Ok done) r' = partial r' ≡ record (partial r) { brackets = record { sum = (partial r).sum; product = known (at r.nodes) product } ∷ (partial r).brackets; sum = None; place = ahead None }
Opened r product offset (Err f) r' = (f ≡ Brackets offset) × (32 ≤ r.depth)

-- '+' was read behind a product
abbrev pub Chosen : Reader → ℕ → Reader → Type 0
Chosen r product r' = partial r' ≡ record (partial r) { sum = Some (plus (partial r).sum (at r.nodes product)); place = ahead None }

-- the innermost bracket was closed behind a product
abbrev pub Closed : Reader → ℕ → Reader → Type 0
Closed r product r' = closed (partial r).brackets (plus (partial r).sum (at r.nodes product)) r.actions ≡ Some (partial r')

-- one byte was taken in, or refused
abbrev pub Took : Reader → ℕ → ℕ → Result (Unit {0}) TermFault → Reader → Type 0
Took r offset c (Ok done) r' = feed (partial r) c ≡ Some (partial r')
Took r offset c (Err f) r' = (cs : List ℕ) → scanned (partial r) offset (c ∷ cs) ≡ Some f

-- what was read whole has as many actions as were counted, numbered in their order
abbrev pub Counted : Partial → Type 0
Counted q = (s : Option Tree) (x : Tree) (n : ℕ) → q ≡ record { brackets = []; sum = s; place = past x; actions = n } → (size (plus s x) ≡ n) × Numbered 0 (plus s x)

-- the term that was read whole, or its end was refused
abbrev pub Finished : Reader → ℕ → Result Term TermFault → Type 0
Finished r end (Ok t) = (s : Option Tree) × (x : Tree) × (partial r ≡ record { brackets = []; sum = s; place = past x; actions = r.actions }) × (tree_of t ≡ plus s x)
Finished r end (Err f) = scanned (partial r) end [] ≡ Some f
