-- Links between the splits of a round.
use Rattle.std.proofs.Common.{◌≡◌, ℕ, zero, suc, ◌+◌, ◌-◌, ◌<◌, ◌≤◌, Bool, List, Some, None, Option, get_or, set, replicate, sym, subst, arith, length-set}
use lib.ListN.{length-replicate}
use Rattle.std.proofs.lemmas.List.{get_or-replicate, get_or-set_same, get_or-set_other}
use Rattle.comparison.specs.Landing.{unsplit, sent}
use Rattle.comparison.specs.Links.{from_at, Next, Chained, begun, unlinked, cleared, pushed, Born, Linked}
use Rattle.comparison.specs.declared.links.Chain.{Chain}
use Rattle.comparison.specs.declared.links.Links.{Links}
use Rattle.comparison.specs.declared.split.Split.{Split}
use Rattle.comparison.proofs.Sending.{sent_elsewhere}

-- Following the links.

-- where no split is of its class a state stays where it is
sent_quiet : (has : ℕ → ℕ → Bool) (splits : List Split) (first from class i n : ℕ) → class ≡ sent has splits first from i → ((t : ℕ) → i ≤ t → t < i + n → from_at splits t ≡ class → ⊥) → class ≡ sent has splits first from (i + n)
sent_quiet has splits first from class i zero is quiet = let e : i + 0 ≡ i = omega arith in rw e is
sent_quiet has splits first from class i (suc n) is quiet =
    let e : i + suc n ≡ i + n + 1 = omega arith in
    rw e (sent_elsewhere has splits first from (i + n) class (sent_quiet has splits first from class i n is (λ t low high. quiet t low (omega arith))) (quiet (i + n) (omega arith) (omega arith)))

pub arrive : (has : ℕ → ℕ → Bool) (splits : List Split) (first from class i k : ℕ) → class ≡ sent has splits first from i → i ≤ k → ((t : ℕ) → i ≤ t → t < k → from_at splits t ≡ class → ⊥) → class ≡ sent has splits first from k
arrive has splits first from class i k is low quiet =
    let e : i + (k - i) ≡ k = omega arith in
    subst (λ (v : ℕ). class ≡ sent has splits first from v) e (sent_quiet has splits first from class i (k - i) is (λ t a b. quiet t a (omega arith)))

-- a chain begins with the first split of its class
pub begins : (splits : List Split) (made c : ℕ) (x : Option Chain) (n : Option ℕ) → n ≡ begun x → Chained splits made c x → Next splits made c 0 n
begins splits made c None n is h = subst (Next splits made c 0) (sym is) h
begins splits made c (Some x) n is h = subst (Next splits made c 0) (sym is) h.0

-- the first split of the class that split t made comes behind it
pub behind : (first : ℕ) (x : Links) → Born first x → (t : ℕ) → t < x.made → (n : Option ℕ) → Next x.splits x.made (first + t) 0 n → Next x.splits x.made (first + t) (t + 1) n
behind first x born t l None quiet = λ u low high. quiet u (omega arith) high
behind first x born t l (Some j) jump =
    let b = born j jump.inside in
    let of = jump.of in
    record { on = omega arith; inside = jump.inside; of = of; quiet = λ u low high. jump.quiet u (omega arith) high }

-- One split more.

module _ (x : Links) (h : Linked x) (room : x.made < 256) (z : Split) (low : z.from < 256) where
  -- its class had none before
  pub add_first : get_or x.chains z.from None ≡ None → Linked (pushed x z (set x.chains z.from (Some (record { first = x.made; last = x.made }))) (set x.nexts x.made None))
  add_first none = grind (arith, length-set, get_or-set_same, get_or-set_other)

  -- its class had some: it is linked behind the last of them
  pub add_later : (y : Chain) → get_or x.chains z.from None ≡ Some y → Linked (pushed x z (set x.chains z.from (Some (record { first = y.first; last = x.made }))) (set (set x.nexts y.last (Some x.made)) x.made None))
  add_later y some = grind (arith, length-set, get_or-set_same, get_or-set_other)

  pub born_more : (first : ℕ) (chains : List (Option Chain)) (nexts : List (Option ℕ)) → Born first x → z.from < first + x.made → Born first (pushed x z chains nexts)
  born_more first chains nexts born new = let n = h.splits_size in grind (arith, get_or-set_same, get_or-set_other)

-- where no class has a split
bare : (splits : List Split) (c : ℕ) → c < 256 → Chained splits 0 c (get_or {A = Option Chain} (replicate 256 None) c None)
bare splits c l =
    subst (Chained splits 0 c) (sym (get_or-replicate {A = Option Chain} 256 c None None l)) (λ t a b e. let z : ⊥ = omega arith in absurd z)

-- before the first split
pub none_linked : Linked unlinked
none_linked =
    record {
      splits_size = length-replicate 256 unsplit;
      chains_size = length-replicate {A = Option Chain} 256 None;
      nexts_size = length-replicate {A = Option ℕ} 256 None;
      chains = bare (replicate 256 unsplit);
      nexts = λ t l. let b : ⊥ = omega arith in absurd b;
    }

-- and where there is none any more
pub cleared_linked : (x : Links) → Linked x → Linked (cleared x)
cleared_linked x h =
    record {
      splits_size = h.splits_size;
      chains_size = length-replicate {A = Option Chain} 256 None;
      nexts_size = h.nexts_size;
      chains = bare x.splits;
      nexts = λ t l. let b : ⊥ = omega arith in absurd b;
    }
