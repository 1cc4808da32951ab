-- In a pair, after a subtree: a comma, the closing bracket, and nothing else. Assumes nothing.
use Rattle.std.specs.Prelude.{ℕ, ◌+◌, ◌-◌, ◌<◌, ◌≡◌, refl, List, get_or, Err}
use Rattle.std.proofs.Common.{arith, ◌∙◌}
use Rattle.newick.specs.Tree.{Tree, Stack, depth, Held, frame, hold}
use Rattle.newick.specs.Tree.Held.{nothing, some}
use Rattle.newick.specs.Tree.Tree.{pair}
use Rattle.newick.specs.Tree.Forest.{only, more}
use Rattle.newick.specs.Tree.Stack.{opened, later}
use Rattle.newick.proofs.ByteLaws.{kind_all}
use Rattle.newick.specs.Bytes.{closing_byte, comma_byte, kind_of}
use Rattle.newick.specs.Walk.{final, step, shut, next, last}
use Rattle.newick.specs.Walk.State.{want, closed, measured}
use Rattle.newick.specs.Walk.Move.{stuck}
use Rattle.newick.specs.Walk.Parse.{stops}
use Rattle.newick.specs.Grammar.{most_open}
use Rattle.scan.specs.declared.Stop.{Stop}
use Rattle.scan.specs.Scanning.{from, Fresh, Marked, Closes, Stuck}
use Rattle.scan.specs.RunLaws.{look_within, from_to, from_stops}
use Rattle.scan.specs.StateLaws.{clash}
use Rattle.lay.specs.Keeping.{Whole, Inside}

pub inside_shut : (l : List ℕ) (e : ℕ) (k : Stack) (h : Held) (t : Tree) → get_or l e 0 ≡ closing_byte
    → from l e (measured (frame k h) t) ≡ from l (e + 1) (closed k (hold h t))
unfolding step kind_of shut
inside_shut l e k nothing t b =
    from_to l e (measured (opened k) t) (closed k (only t)) (look_within l e closing_byte b (omega arith)) (rw b)
inside_shut l e k (some f) t b =
    from_to l e (measured (later k f) t) (closed k (more f t)) (look_within l e closing_byte b (omega arith)) (rw b)

pub inside_next : (l : List ℕ) (e : ℕ) (k : Stack) (h : Held) (t : Tree) → get_or l e 0 ≡ comma_byte
    → from l e (measured (frame k h) t) ≡ from l (e + 1) (want (frame k (some (hold h t))))
unfolding step kind_of next
inside_next l e k nothing t b =
    from_to l e (measured (opened k) t) (want (later k (only t))) (look_within l e comma_byte b (omega arith)) (rw b)
inside_next l e k (some f) t b =
    from_to l e (measured (later k f) t) (want (later k (more f t))) (look_within l e comma_byte b (omega arith)) (rw b)

last_inside : (k : Stack) (h : Held) (t : Tree) → last (frame k h) t ≡ stuck
unfolding last
last_inside k nothing t = refl
last_inside k (some f) t = refl

inside_stops : (l : List ℕ) (e : ℕ) (k : Stack) (h : Held) (t : Tree) → Fresh l e → (get_or l e 0 ≡ closing_byte → ⊥)
    → (get_or l e 0 ≡ comma_byte → ⊥) → from l e (measured (frame k h) t) ≡ stops e
unfolding step final
inside_stops l e k h t n f g =
    from_stops l e (measured (frame k h) t)
    (λ w. kind_all (λ c. step (measured (frame k h) t) c ≡ stuck) (get_or l e 0)
    (λ z. clash z (n w)) (λ z. refl) (λ z. refl) (λ z. absurd (f z)) (λ z. absurd (g z)) (λ z. last_inside k h t) (λ z. refl) (λ z. refl)
    refl)
    refl

-- a bracket fewer may be opened inside
down : (k : Stack) (d : ℕ) (h : Held) → 0 < d → depth k + d ≡ most_open → depth (frame k h) + (d - 1) ≡ most_open
unfolding depth
down k d nothing w e = omega arith
down k d (some f) w e = omega arith

module _ (l : List ℕ) (p d j e : ℕ) (h : 0 < d) (s : Inside l p d j) (w : Whole l j (d - 1) e) where
  pub inside_sub : (k : Stack) → depth k + d ≡ most_open → from l p (want k) ≡ from l e (measured (frame k s.held) w.tree)
  inside_sub k u = s.goes k u ∙ w.goes (frame k s.held) (down k d s.held h u)

  unfoldable pub inside_again : get_or l e 0 ≡ comma_byte → Inside l p d (e + 1)
  inside_again b = record {
    after = omega (arith, s.after, w.later);
    within = omega (arith, look_within l e comma_byte b (omega arith));
    held = some (hold s.held w.tree);
    goes = λ k u. inside_sub k u ∙ inside_next l e k s.held w.tree b;
  }

  unfoldable pub inside_closes : (f : ℕ) → get_or l e 0 ≡ closing_byte → (c : Marked l (e + 1) f) → Whole l p d f
  inside_closes f b c = record {
    later = omega (arith, s.after, w.later, c.later);
    within = c.within;
    fresh = c.fresh;
    tree = pair (hold s.held w.tree) c.mark;
    goes = λ k u. inside_sub k u ∙ inside_shut l e k s.held w.tree b ∙ c.goes k (hold s.held w.tree);
  }

  pub inside_unclosed : (q : Stop) → get_or l e 0 ≡ closing_byte → Closes l (e + 1) (Err q) → Stuck l p d q.at
  inside_unclosed q b c = λ k u. inside_sub k u ∙ inside_shut l e k s.held w.tree b ∙ c k (hold s.held w.tree)

  pub inside_ends : (get_or l e 0 ≡ closing_byte → ⊥) → (get_or l e 0 ≡ comma_byte → ⊥) → Stuck l p d e
  inside_ends f g = λ k u. inside_sub k u ∙ inside_stops l e k s.held w.tree w.fresh f g

pub inside_stuck : (l : List ℕ) (p d j q : ℕ) → 0 < d → Inside l p d j → Stuck l j (d - 1) q → Stuck l p d q
inside_stuck l p d j q h s w = λ k u. s.goes k u ∙ w (frame k s.held) (down k d s.held h u)
