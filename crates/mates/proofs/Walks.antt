-- The walks over the nodes of a reference row, step by step: candidates in lockstep, then what is confirmed. Assumes nothing.
use Prim.Native.Nat.{ℕ, ◌+◌, ◌≤◌, ◌<◌, zero-le}
use mathlib.Core.Path.{◌≡◌, sym, ◌∙◌}
use mathlib.Core.Logic.{◌⊎◌, inl, inr, ⊎_elim}
use mathlib.Core.List.{List}
use mathlib.Core.Bool.{true, false}
use native.Mathlib.Omega.{arith}
use lib.Dec.{ltb}
use lib.ListN.{length, get_or, set}
use lib.Seq.{get_or-set_other}
use borrow.Author.Tests.{ltb-true}
use Rattle.std.specs.Option.{MatchOption, unwrap_or}
use Rattle.std.proofs.Common.{Option, None, Some}
use Rattle.trees.specs.Rows.{nodes}
use Rattle.trees.specs.Tables.{Tabled, table_words, entry, size_at, least_at, rank_at}
use Rattle.trees.specs.Valid.{Standard}
use Rattle.trees.proofs.BoolLaws.{decide}
use Rattle.trees.proofs.NeverLaws.{side}
use Rattle.trees.proofs.FallsLaws.{standard_falls, few}
use Rattle.trees.proofs.TableLaws.{tabled_more, tabled_none}
use Rattle.trees.specs.Mates.{mate_of, candidate, candidate_of, fitting, confirmed, from_end, Spread}
use Rattle.trees.proofs.LinearLaws.{rank_rises}
use Rattle.trees.proofs.MateLaws.{candidate_from, candidate_hit, candidate_end, Reaches, candidate_reaches, candidate_mate}

-- the candidates of the nodes below a, and that every node of r below b ranks before all nodes of q that are left
pub record Walking (n : ℕ) (q r : List ℕ) (a b : ℕ) (t : List ℕ) : Type 0 where
  pub from : n ≤ b
  pub to : b ≤ nodes r
  pub done : Tabled (candidate_of n q r) n a t
  pub past : (x c : ℕ) → n ≤ x → x < b → a ≤ c → c < nodes q → rank_at n r x < rank_at n q c

module _ (n : ℕ) (q r : List ℕ) (qs : Standard n q) (rs : Standard n r) where
  pub walking_start : (t : List ℕ) → Walking n q r n n t
  walking_start t = record {
    from = omega arith;
    to = omega (arith, rs.valid.low);
    done = tabled_none (candidate_of n q r) n t;
    past = λ x c i j k h. absurd (omega arith);
  }

  pub walking_step : (a b c : ℕ) (t : List ℕ) → n ≤ a → a < nodes q → length t ≡ table_words
      → c ≡ candidate (rank_at n r) b (nodes r) (rank_at n q a) → Walking n q r a b t → Walking n q r (a + 1) c (set t a c)
  walking_step a b c t f h l e i = record {
    from = omega (arith, i.from, w.low);
    to = w.high;
    done = tabled_more (candidate_of n q r) n a c t i.done (omega (arith, few n q (standard_falls n q qs)))
        (e ∙ sym (candidate_from (rank_at n r) n b (nodes r) (rank_at n q a) i.from i.to (λ x k j. i.past x a k j (omega arith) h)));
    past = λ x d k j p z. ⊎_elim (λ y. i.past x d k y (omega arith) z) (λ y. omega (arith, w.under x y j, rank_rises n q qs a d f (omega arith) z))
        (side b x);
  }
    where
      w : Reaches (rank_at n r) b (nodes r) (rank_at n q a) c
      w = rw e (candidate_reaches (rank_at n r) b (nodes r) (rank_at n q a) i.to)

-- the mates of the nodes below a, and the candidates of the others
pub record Confirming (n : ℕ) (q r : List ℕ) (a : ℕ) (t : List ℕ) : Type 0 where
  pub done : Tabled (mate_of n q r) n a t
  pub rest : Tabled (candidate_of n q r) a (nodes q) t

module _ (n : ℕ) (q r : List ℕ) (qs : Standard n q) (rs : Standard n r) (size start other first last : List ℕ)
    (spread : Spread n q r size start other first last) where
  pub confirming_step : (a x : ℕ) (t : List ℕ) → n ≤ a → a < nodes q → length t ≡ table_words → x ≡ confirmed (nodes r) (get_or t a 0)
      (fitting n (entry size a) (entry start a) (entry other (get_or t a 0)) (entry first (get_or t a 0)) (entry last (get_or t a 0))) → Confirming n q r a t
      → Confirming n q r (a + 1) (set t a x)
  confirming_step a x t f h l e i = record {
    done = tabled_more (mate_of n q r) n a x t i.done (omega (arith, few n q (standard_falls n q qs)))
        (e ∙ told (decide (ltb b (nodes r))) ∙ candidate_mate n q r qs rs (entry start) spread.starts a b f h (i.rest.is a (omega arith) h));
    rest = record { is = λ v k j. get_or-set_other t a v x 0 (λ y. omega arith) ∙ i.rest.is v (omega arith) j };
  }
    where
      b : ℕ
      b = get_or t a 0

      told : (ltb b (nodes r) ≡ true) ⊎ (ltb b (nodes r) ≡ false)
          → confirmed (nodes r) b (fitting n (entry size a) (entry start a) (entry other b) (entry first b) (entry last b)) ≡ confirmed (nodes r) b
          (fitting n (size_at n q a) (entry start a) (size_at n r b) (least_at n r (entry start) b) (least_at n r (from_end n (entry start)) b))
      told (inl y) = let l : b < nodes r = ltb-true b (nodes r) y in rw
          (spread.sizes.is a zero-le h, spread.others.is b zero-le l, spread.first.is b zero-le l, spread.last.is b zero-le l)
      told (inr y) = rw y

-- what `find` over the nodes answers is the candidate
module _ (rank : ℕ → ℕ) (b m k : ℕ) (high : b ≤ m) where
  pub candidate_of_find : (found : Option ℕ) → MatchOption found ((x : ℕ) → b ≤ x → x < m → rank x < k)
      (λ i. (b ≤ i) × (i < m) × (k ≤ rank i) × ((x : ℕ) → b ≤ x → x < i → rank x < k)) → unwrap_or found m ≡ candidate rank b m k
  candidate_of_find None h = sym (candidate_from rank b m m k high (omega arith) h ∙ candidate_end rank m m k (omega arith))
  candidate_of_find (Some i) h = sym (candidate_from rank b i m k h.0 (omega (arith, h.1)) h.3 ∙ candidate_hit rank i m k h.1 h.2)
