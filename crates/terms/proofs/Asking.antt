-- What is laid out of a term is its graph.
use Rattle.std.proofs.Common.{◌≡◌, ℕ, ◌+◌, ◌<◌, ◌≤◌, false, eqb, length, get_or, is_some, IsSome, Some, None, Option, sym, refl, ap, ◌∙◌, ⊎_elim, lit≤, arith, length-append}
use Rattle.std.specs.List.{slice_get}
use Rattle.std.proofs.lemmas.List.FromFn.{length-map-range_with_len}
use Rattle.std.proofs.lemmas.Option.{slice_get-get_or}
use Rattle.std.proofs.lemmas.Bool.{ne_eqb, le-ltb, lt-ltb, cases_lt}
use Rattle.lts.specs.Layout.{from, many, step_at, stored, Readable}
use Rattle.lts.specs.Laws.Member.{listed_action, listed_target}
use Rattle.lts.specs.Laws.Same.{same_meaning}
use Rattle.lts.specs.declared.laid.Laid.{Laid}
use Rattle.lts.proofs.Reading.{step_inside}
use Rattle.terms.specs.Syntax.{Tree, leaf, choice, sequence, size, Numbered, Rest, done, left}
use Rattle.terms.specs.Graph.{firsts, contents, ended, leads, graph}
use Rattle.terms.specs.Terms.{tree_of}
use Rattle.terms.specs.Laws.Lawful.{length_rests, nothing_past, graph_lawful}
use Rattle.terms.specs.Lists.{Lays, Drawn}
use Rattle.terms.specs.declared.listing.Listing.{Listing}
use Rattle.terms.specs.declared.term.Term.{Term}

-- something can always come first
some_first : (x : Tree) → 0 < length (firsts x)
some_first (leaf a i) = omega arith
some_first (choice x y) = let first = some_first x in omega (arith, length-append (firsts x) (firsts y))
some_first (sequence x y) = some_first x

-- a state without steps is an end
is_end : (o : Option (Rest Tree)) → IsSome o → eqb (length (leads o)) 0 ≡ ended o
is_end None h = cc
is_end (Some done) h = refl
is_end (Some (left x)) h = ne_eqb (length (firsts x)) 0 (λ z. (let f = some_first x in let b : ⊥ = omega arith in b))

-- when each state has its run
pub lays_drawn : (t : Tree) (l : Listing) → size t ≤ 63 → Lays t l → Drawn t l.laid
lays_drawn t l small h =
    let n = h.states in
    let w = h.written in
    record {
      states = h.states;
      inside = λ s i. let shows = (h.each s (omega arith)).inside in omega arith;
      ends = ends;
      steps = λ s i. (h.each s (omega arith)).steps;
    }
  where
    ends : (s : ℕ) → s < l.laid.states → get_or l.laid.ends s false ≡ ended (slice_get (contents t) s)
    ends s i =
        let n = h.states in
        let p = l.laid in
        let held = slice_get-get_or (contents t) s done (omega (arith, length_rests t)) in
        let count : length (leads (slice_get (contents t) s)) ≡ many p s = sym (ap length (h.each s (omega arith)).steps) ∙ length-map-range_with_len (step_at p) (from p s) (many p s) in
        l.ended s i ∙ (ap (λ k. eqb k 0) (sym count) ∙ is_end (slice_get (contents t) s) (ap is_some held))

module _ (t : Tree) (p : Laid 64 63) (h : Drawn t p) where
  same_ends : (s : ℕ) → (stored p).ends s ≡ (graph t).ends s
  same_ends s = ⊎_elim inside outside (cases_lt s p.states)
    where
      inside : s < p.states → (stored p).ends s ≡ (graph t).ends s
      inside l = rw (lt-ltb s p.states l) (h.ends s l)

      outside : p.states ≤ s → (stored p).ends s ≡ (graph t).ends s
      outside l = let n = h.states in rw (le-ltb s p.states l) (sym (ap ended (nothing_past t s (omega arith))))

  same_steps : (s : ℕ) → (stored p).steps s ≡ (graph t).steps s
  same_steps s = ⊎_elim inside outside (cases_lt s p.states)
    where
      inside : s < p.states → (stored p).steps s ≡ (graph t).steps s
      inside l = rw (lt-ltb s p.states l) (h.steps s l)

      outside : p.states ≤ s → (stored p).steps s ≡ (graph t).steps s
      outside l = let n = h.states in rw (le-ltb s p.states l) (sym (ap leads (nothing_past t s (omega arith))))

  pub drawn_graph : stored p ≡ graph t
  drawn_graph = same_meaning (stored p) (graph t) h.states same_ends same_steps

  module _ (small : size t ≤ 63) (order : Numbered 0 t) where
    placed_step : (s k : ℕ) → s < p.states → k < many p s → Some (step_at p (from p s + k)) ≡ slice_get ((graph t).steps s) k
    placed_step s k l i = step_inside p s l k i ∙ ap (λ xs. slice_get xs k) (same_steps s)

    pub drawn_readable : Readable p
    drawn_readable =
        let n = h.states in
        let law = graph_lawful t small order in
        record {
          some = omega arith;
          few = omega arith;
          states_room = lit≤ tt;
          steps_room = lit≤ tt;
          inside = h.inside;
          acts = λ s k l i. listed_action (graph t) law s k _ _ (placed_step s k l i);
          aims = λ s k l i. omega (arith, listed_target (graph t) law s k _ _ (placed_step s k l i));
        }

pub told : (t : Term) → stored t.laid ≡ graph (tree_of t)
told t = drawn_graph (tree_of t) t.laid t.drawn

pub term_readable : (t : Term) → Readable t.laid
term_readable t = drawn_readable (tree_of t) t.laid t.drawn t.small t.order
