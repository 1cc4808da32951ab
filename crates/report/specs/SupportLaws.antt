-- The support row of a study, word by word, from the holders of the inner nodes of the row that it stands beside. Assumes nothing.
use Rattle.std.specs.Prelude.{ℕ, zero, suc, ◌-◌, ◌≤◌, ◌<◌, ◌≡◌, ◌⊎◌, List, true, false, cond, ltb, leb, length, get_or}
use Rattle.std.proofs.Common.{sym, ap, ◌∙◌, inl, inr, arith, ltb-true, ltb-false, leb-true, leb-false, le-leb}
use Rattle.trees.specs.Groups.{single}
use Rattle.trees.specs.Rows.{nodes, group_at}
use Rattle.trees.specs.Checks.{row_words}
use Rattle.trees.specs.Valid.{Standard}
use Rattle.trees.specs.Tables.{Tabled, entry}
use Rattle.trees.specs.Reporting.{support, supports_of}
use Rattle.trees.proofs.BoolLaws.{decide}
use Rattle.trees.proofs.RowLaws.{leaf_group, valid_rooted}
use Rattle.trees.proofs.NumberingLaws.{row_tree}
use Rattle.trees.proofs.ReportingLaws.{Runs, total_length, support_all, supports_length, supports_first, supports_node, supports_filler}
use Rattle.runs.specs.Words.{runs}
use Rattle.count.specs.Studies.{Study}
use Rattle.count.specs.StudyLaws.{study_length, study_valid}
use Rattle.count.specs.Holders.{holders_at}
use Rattle.count.specs.TakingLaws.{tabled_words}
use Rattle.report.specs.Supports.{support_word}

module _ (w : List ℕ) (n k : ℕ) (study : Study w n k) (r holders : List ℕ) (std : Standard n r)
    (held : Tabled (holders_at n (runs w) r) n (nodes r) holders) where
  ok : Runs n (runs w)
  ok = study_valid w n k study

  abbrev row : List ℕ
  row = supports_of n (runs w) r

  -- every run holds the single samples
  at_leaf : (v : ℕ) → v < n → support n (runs w) (group_at n r v) ≡ k
  at_leaf v h = ap (support n (runs w)) (leaf_group n r (valid_rooted n r std.valid) v h)
      ∙ support_all n (runs w) (single n v) (λ run m. (row_tree n run.row (ok run m)).leaf v h) ∙ study_length w n k study

  inside : (i : ℕ) → i ≤ nodes r → (leb i n ≡ true) ⊎ (leb i n ≡ false) → cond (leb i n) k (entry holders (i - 1)) ≡ get_or row i 0
  inside zero h e = rw (le-leb 0 n (omega arith)) (sym (supports_first n (runs w) r ∙ total_length (runs w) ∙ study_length w n k study))
  inside (suc v) h (inl e) = rw e (sym (supports_node n (runs w) r v h ∙ at_leaf v (leb-true (suc v) n e)))
  inside (suc v) h (inr e) = let z : suc v - 1 ≡ v = omega arith in
      rw (e, z) (held.is v (omega (arith, leb-false (suc v) n e)) h ∙ sym (supports_node n (runs w) r v h))

  word : (i : ℕ) → support_word n (nodes r) k holders i ≡ get_or row i 0
  word i = go (decide (ltb (nodes r) i))
    where
      go : (ltb (nodes r) i ≡ true) ⊎ (ltb (nodes r) i ≡ false) → support_word n (nodes r) k holders i ≡ get_or row i 0
      go (inl e) = rw e (sym (supports_filler n (runs w) r i (ltb-true (nodes r) i e)))
      go (inr e) = rw e (inside i (ltb-false (nodes r) i e) (decide (leb i n)))

  -- a buffer of 2n words that has these words is the support row
  pub support-row : (out : List ℕ) (m : ℕ) → m ≡ nodes r → length out ≡ row_words n → Tabled (support_word n m k holders) 0 (row_words n) out
      → out ≡ supports_of n (runs w) r
  support-row out m e l t =
      let s : length row ≡ row_words n = supports_length n (runs w) r (omega (arith, std.valid.high, std.valid.least)) in
      tabled_words row out (l ∙ sym s)
      (record { is = λ i a b. t.is i a (omega arith) ∙ ap (λ (x : ℕ). support_word n x k holders i) e ∙ word i })
