-- The graph of a term keeps the bounds that every source promises.
use Rattle.std.specs.Prelude.{◌≡◌, ℕ, zero, suc, ◌+◌, ◌≤◌, map, length, Some, None, Option, refl}
use Rattle.std.proofs.Common.{arith, ap, length-append}
use Rattle.std.proofs.lemmas.List.{length-map}
use Rattle.std.specs.List.{slice_get}
use Rattle.std.proofs.lemmas.Option.{slice_get_past}
use Rattle.lts.specs.Meaning.{Lawful}
use Rattle.lts.specs.Laws.Member.{nth_in}
use Rattle.terms.specs.Syntax.{Tree, leaf, choice, sequence, size, Numbered, Rest, done, left}
use Rattle.terms.specs.Graph.{followed, rests, contents, firsts, ended, leads, graph}
use Rattle.terms.specs.Terms.{tree_of}
use Rattle.terms.specs.declared.term.Term.{Term}
use Rattle.terms.specs.Laws.Order.{Within, within_more, within_length, within_each, firsts_within, rests_within}

-- something remains after each action written, be it nothing
pub length_rests : (t : Tree) → length (rests t) ≡ size t
length_rests (leaf a i) = refl
length_rests (choice x y) =
    let first = length_rests x in
    let second = length_rests y in
    omega (arith, length-append (rests x) (rests y))
length_rests (sequence x y) =
    let first = length_rests x in
    let second = length_rests y in
    omega (arith, length-append (map (followed y) (rests x)) (rests y), length-map (rests x) (followed y))

-- past the last state nothing is held
pub nothing_past : (t : Tree) (s : ℕ) → 1 + size t ≤ s → slice_get (contents t) s ≡ None
nothing_past t s h = slice_get_past (contents t) s (omega (arith, length_rests t))

-- the steps of every state rise
pub leads_within : (t : Tree) → Numbered 0 t → (s : ℕ) → Within 0 (size t) (leads (slice_get (contents t) s))
leads_within t n zero = within_more 0 0 (size t) (0 + size t) (firsts t) (omega arith) (omega arith) (firsts_within 0 t n)
leads_within t n (suc k) = held (slice_get (rests t) k) refl
  where
    held : (o : Option (Rest Tree)) → slice_get (rests t) k ≡ o → Within 0 (size t) (leads o)
    held None e = omega arith
    held (Some done) e = omega arith
    held (Some (left x)) e =
        within_more 0 0 (size t) (0 + size t) (firsts x) (omega arith) (omega arith) (rests_within 0 t x n (nth_in (left x) (rests t) k e))

pub graph_lawful : (t : Tree) → size t ≤ 63 → Numbered 0 t → Lawful 64 (graph t)
graph_lawful t small order =
    let within = leads_within t order in
    record {
      some = omega arith;
      few = omega arith;
      no_ends = λ s h. ap ended (nothing_past t s h);
      no_steps = λ s h. ap leads (nothing_past t s h);
      short = λ s. omega (arith, within_length 0 (size t) ((graph t).steps s) (within s));
      acts = λ s a i h. (within_each 0 (size t) a i ((graph t).steps s) (within s) h).0;
      aims = λ s a i h. omega (arith, (within_each 0 (size t) a i ((graph t).steps s) (within s) h).1);
    }

pub term_lawful : (x : Term) → Lawful 64 (graph (tree_of x))
term_lawful x = graph_lawful (tree_of x) x.small x.order
