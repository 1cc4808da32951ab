-- How an answer passes along a chain of checks, and what the later checks know from an acceptance. Assumes nothing.
use Prim.Native.Nat.{ℕ, ◌+◌, ◌-◌, ◌≤◌, ◌<◌}
use mathlib.Core.Path.{◌≡◌, refl, sym, ◌∙◌}
use mathlib.Core.List.{List, [], ◌∷◌}
use native.Mathlib.Omega.{arith}
use lib.ListN.{length}
use borrow.Author.Tests.{eqb-true, not-false}
use Rattle.std.specs.Prelude.{Err}
use Rattle.std.specs.Result.{IsErrAnd}
use Rattle.std.proofs.lemmas.Result.{err_from_is_err_and}
use Rattle.trees.specs.Lists.{nowhere}
use Rattle.trees.specs.Rows.{nodes}
use Rattle.trees.specs.Checks.{Verdict, accepted, Check, ◌⊳◌, asked, fewest_samples, most_samples, row_words}
use Rattle.trees.specs.Checks.{check1, check3, check5, check9, check10, word_checks, tree_checks, row_checks}
use Rattle.trees.proofs.ChainLaws.{chain_append, chain_stop, chain_go, passed_chain, chain_passed, chain_given, given_chain}
use Rattle.trees.proofs.ChainLaws.{asked_passes, accepted_other, line_passes}
use Rattle.trees.specs.Rows.{Closed}
use Rattle.trees.proofs.CheckLaws.{outside_not, check6_closed}
use Rattle.judge.specs.declared.Refusal.{Refusal}
use Rattle.judge.specs.Verdicts.{Answer, number_of, verdict}

-- ---- the chain: a refusal is passed on, and after an acceptance the rest decides

-- what `?` hands on is the refusal that it met
pub handed_on : (r : Answer) (x : Refusal) → IsErrAnd r (λ y. y ≡ x) → verdict r ≡ verdict (Err x)
handed_on r x h = let p = err_from_is_err_and r h in rw (p.1, p.2) refl

module _ (c : Check) (cs : List Check) where
  pub stops : (x : Refusal) → verdict (Err x) ≡ asked c → verdict (Err x) ≡ (c ∷ cs) ⊳ accepted
  stops x e = sym (chain_stop c cs accepted (number_of x.reason) x.place (sym e))

  pub goes : accepted ≡ asked c → cs ⊳ accepted ≡ (c ∷ cs) ⊳ accepted
  goes e = sym (chain_go c cs accepted (sym e))

  -- the same of what `?` hands on
  pub stopped : (r : Answer) (x : Refusal) → IsErrAnd r (λ y. y ≡ x) → verdict (Err x) ≡ asked c → verdict r ≡ (c ∷ cs) ⊳ accepted
  stopped r x h e = handed_on r x h ∙ stops x e

-- the last check decides by itself
pub last : (c : Check) → asked c ≡ (c ∷ []) ⊳ accepted
unfolding ◌⊳◌
last c = refl

-- a list of checks that refuses or accepts does so whatever comes after it
module _ (cs : List Check) (v : Verdict) where
  pub refuses : (x : Refusal) → verdict (Err x) ≡ cs ⊳ accepted → cs ⊳ v ≡ verdict (Err x)
  refuses x e =
      let k = number_of x.reason in
      let p = x.place in
      given_chain cs v k p (chain_given cs accepted k p (accepted_other k p) (sym e))

  pub accepts : accepted ≡ cs ⊳ accepted → cs ⊳ v ≡ v
  accepts e = passed_chain cs v (chain_passed cs (sym e))

-- ---- what the later checks know from an acceptance

passes : (c : Check) → accepted ≡ asked c → c.fault ≡ nowhere
passes c e = asked_passes c (sym e)

module _ (n : ℕ) (e : accepted ≡ asked (check1 n)) where
  passed1 : (fewest_samples ≤ n) × (n ≤ most_samples)
  passed1 = outside_not fewest_samples most_samples n (line_passes 1 _ (passes (check1 n) e))

  pub passed1_fewest : fewest_samples ≤ n
  passed1_fewest = passed1.0

  pub passed1_most : n ≤ most_samples
  passed1_most = passed1.1

nodes_within : (n : ℕ) (row : List ℕ) → (check5 n row).fault ≡ nowhere → fewest_samples ≤ n → length row ≡ row_words n → nodes row < length row
nodes_within n row p h l = omega (arith, outside_not (n + 1) (row_words n - 1) (nodes row) (line_passes 5 _ p))

module _ (n : ℕ) (row : List ℕ) where
  pub passed3 : accepted ≡ asked (check3 n row) → length row ≡ row_words n
  passed3 e = eqb-true (length row) (row_words n) (not-false _ (line_passes 3 _ (passes (check3 n row) e)))

  pub passed5 : accepted ≡ asked (check5 n row) → fewest_samples ≤ n → length row ≡ row_words n → nodes row < length row
  passed5 e = nodes_within n row (passes (check5 n row) e)

-- ---- the checks of a row: 5 to 8, then 9 and 10 in either form

module _ (n : ℕ) (row : List ℕ) where
  words_before : row_checks n row ⊳ accepted ≡ word_checks n row ⊳ (tree_checks n row ⊳ accepted)
  unfolding row_checks
  words_before = chain_append (word_checks n row) (tree_checks n row) accepted

  pub words_stop : (r : Answer) (x : Refusal) → IsErrAnd r (λ y. y ≡ x) → verdict (Err x) ≡ word_checks n row ⊳ accepted → verdict r ≡ row_checks n row ⊳ accepted
  words_stop r x h e = handed_on r x h ∙ sym (words_before ∙ refuses (word_checks n row) (tree_checks n row ⊳ accepted) x e)

  module _ (e : accepted ≡ word_checks n row ⊳ accepted) where
    -- a row that passes 5 to 8 has its nodes within its words, and parents among its nodes
    pub words_nodes : fewest_samples ≤ n → length row ≡ row_words n → nodes row < length row
    words_nodes = nodes_within n row (chain_passed (word_checks n row) (sym e)).0

    pub words_closed : Closed (nodes row) row
    words_closed = check6_closed n row (chain_passed (word_checks n row) (sym e)).1.0

    tree_left : tree_checks n row ⊳ accepted ≡ row_checks n row ⊳ accepted
    tree_left = sym (words_before ∙ accepts (word_checks n row) (tree_checks n row ⊳ accepted) e)

    pub climbing_stop : (r : Answer) (x : Refusal) → IsErrAnd r (λ y. y ≡ x) → verdict (Err x) ≡ asked (check9 n row) → verdict r ≡ row_checks n row ⊳ accepted
    climbing_stop r x h f = stopped (check9 n row) (check10 n row ∷ []) r x h f ∙ tree_left

    -- check 10 is the last
    pub branching_last : accepted ≡ asked (check9 n row) → asked (check10 n row) ≡ row_checks n row ⊳ accepted
    unfolding ◌⊳◌
    branching_last f = goes (check9 n row) (check10 n row ∷ []) f ∙ tree_left
