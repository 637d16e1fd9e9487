-- How a term is put together while its text is read, whatever its size.
use Rattle.std.specs.Prelude.{ℕ, ◌+◌, ◌-◌, cond, List, [], ◌∷◌, Some, None, Option, ◌==◌, nat_le}
use Rattle.terms.specs.Syntax.{Tree, leaf, choice, sequence}
use Rattle.terms.specs.Scan.{Stand, before, behind, is_action}

-- before an operand, with the product that a '.' goes on with; behind one, with the product so far
pub data Place : Type 0 where
  ahead : Option Tree → Place
  past : Tree → Place

-- what stood before an open bracket: the sum so far, and the product that the bracket goes on with
pub record Opened : Type 0 where
  pub sum : Option Tree
  pub product : Option Tree

pub record Partial : Type 0 where
  -- the open brackets, innermost first
  pub brackets : List Opened
  pub sum : Option Tree
  pub place : Place
  pub actions : ℕ

abbrev pub start : Partial
start = record { brackets = []; sum = None; place = ahead None; actions = 0 }

abbrev pub stand_of : Place → Stand
stand_of (ahead p) = before
stand_of (past x) = behind

abbrev pub plus : Option Tree → Tree → Tree
plus None x = x
plus (Some s) x = choice s x

abbrev pub times : Option Tree → Tree → Tree
times None x = x
times (Some p) x = sequence p x

-- the action of an action character
abbrev pub action_of : ℕ → ℕ
action_of c = cond (nat_le 97 c) (c - 97) (cond (nat_le 65 c) (c - 65 + 26) (c - 48 + 52))

abbrev pub closed : List Opened → Tree → ℕ → Option Partial
closed [] x n = None
closed (b ∷ bs) x n = Some (record { brackets = bs; sum = b.sum; place = past (times b.product x); actions = n })

abbrev pub feed_at : Place → Partial → ℕ → Option Partial
feed_at (ahead p) q c =
    cond (is_action c) (Some (record { brackets = q.brackets; sum = q.sum; place = past (times p (leaf (action_of c) (q.actions + 1))); actions = q.actions + 1 }))
    (cond (c == 40) (Some (record { brackets = record { sum = q.sum; product = p } ∷ q.brackets; sum = None; place = ahead None; actions = q.actions })) None)
feed_at (past x) q c =
    cond (c == 43) (Some (record { brackets = q.brackets; sum = Some (plus q.sum x); place = ahead None; actions = q.actions }))
    (cond (c == 46) (Some (record { brackets = q.brackets; sum = q.sum; place = ahead (Some x); actions = q.actions }))
    (cond (c == 41) (closed q.brackets (plus q.sum x) q.actions) None))

-- one byte more; none where it can't stand there
abbrev pub feed : Partial → ℕ → Option Partial
feed q c = feed_at q.place q c

abbrev pub then_feeds : Option Partial → (Partial → Option Partial) → Option Partial
then_feeds None f = None
then_feeds (Some q) f = f q

abbrev pub feeds : Partial → List ℕ → Option Partial
feeds q [] = Some q
feeds q (c ∷ cs) = then_feeds (feed q c) (λ q'. feeds q' cs)
