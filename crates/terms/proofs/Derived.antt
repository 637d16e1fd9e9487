-- The graph of a term is the one that the rules derive.
use Rattle.std.proofs.Common.{◌≡◌, ℕ, Some, None, Decides, Option, refl}
use Rattle.std.specs.List.{slice_get}
use Rattle.lts.specs.Meaning.{In}
use Rattle.terms.specs.Syntax.{Tree, size, Numbered, Rest, done, left}
use Rattle.terms.specs.Graph.{contents, firsts, ended, leads, graph, ByRules}
use Rattle.terms.specs.Laws.Order.{within_rises}
use Rattle.terms.specs.Laws.Lawful.{leads_within}
use Rattle.terms.proofs.Steps.{step_of_first, first_of_step, derived, stepped, reached}

-- only a state where something remains has steps
leading : (o : Option (Rest Tree)) (a i : ℕ) → In (a, i) (leads o) → (x : Tree) × (o ≡ Some (left x)) × In (a, i) (firsts x)
leading None a i h = absurd h
leading (Some done) a i h = absurd h
leading (Some (left x)) a i h = (x, refl, h)

ending : (o : Option (Rest Tree)) → Decides (ended o) (o ≡ Some done)
ending None = (λ e. (cc), λ e. (cc))
ending (Some done) = (λ e. refl, λ e. refl)
ending (Some (left x)) = (λ e. (cc), λ e. (cc))

pub by_rules : (t : Tree) → Numbered 0 t → ByRules t (graph t)
by_rules t n =
    record {
      count = refl;
      ends = λ s. ending (slice_get (contents t) s);
      derivable = λ s a i h.
          let l = leading (slice_get (contents t) s) a i h in
          let m = step_of_first l.0 a i l.2 in
          (l.0, m.0, l.1, reached t n s l.0 a i m.0 l.1 m.1, derived l.0 a i m.0 m.1);
      listed = λ s a x r h d.
          let m = stepped x a r d in
          let f = first_of_step x a m.0 m.1 m.2 in
          (m.0, m.1, rw h f, reached t n s x a m.0 m.1 h m.2, m.3);
      ordered = λ s. within_rises 0 (size t) (leads (slice_get (contents t) s)) (leads_within t n s);
    }
