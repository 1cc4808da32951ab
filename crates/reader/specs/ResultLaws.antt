-- What a reading has kept decides check 18, and what it has laid is the row. Assumes nothing.
use Prim.Native.Nat.{ℕ, zero, suc, ◌+◌, ◌≤◌, ◌<◌}
use Rattle.std.specs.Prelude.{◌≡◌, refl, not, eqb, length, Option, None, Some, Result, Ok, Err, MatchResult}
use Rattle.std.proofs.Math.Path.{sym, ap}
use Rattle.std.proofs.Common.{subst, ◌∙◌, arith, lt-ltb, le-ltb, eq-eqb, ne_eqb, eqb-true}
use mathlib.Core.List.{List, [], ◌∷◌}
use Rattle.std.proofs.Math.Bool.{cond}
use Rattle.std.proofs.Math.Numerals.{add-one}
use Rattle.std.proofs.Math.ListN.{get_or, set, take}
use Rattle.std.proofs.lemmas.Bool.{not-false}
use Rattle.trees.specs.Lists.{Place, nowhere, at, range, zeros, first}
use Rattle.trees.proofs.ListLaws.{first_end, first_hit}
use Rattle.trees.specs.Rows.{root_mark}
use Rattle.trees.specs.Checks.{Verdict, accepted, refused, Check, ◌⊳◌, asked, fewest_samples, most_samples, row_words, check1, check3, outside}
use Rattle.trees.specs.Tables.{table_words}
use Rattle.trees.proofs.ScanLaws.{ScanLeft, scan_pass}
use Rattle.trees.proofs.ChainLaws.{chain_stop, chain_go, chain_end, chain_passed, asked_passes, line_passes}
use Rattle.trees.proofs.CheckLaws.{outside_not}
use Rattle.trees.proofs.OutcomeLaws.{outcome_refused}
use Rattle.trees.specs.Valid.{Valid, is_accepted}
use Rattle.trees.specs.Numbering.{renumbered}
use Rattle.scan.specs.declared.Stop.{Stop}
use Rattle.judge.specs.declared.Reason.TheVariants.{Form}
use Rattle.judge.specs.declared.Refusal.{Refusal}
use Rattle.judge.specs.Verdicts.{number_of, verdict}
use Rattle.newick.specs.Walk.{Parse, parsed}
use Rattle.newick.specs.Walk.Parse.{reads, stops}
use Rattle.newick.specs.Tree.{Tree}
use Rattle.newick.specs.Meaning.{samples}
use Rattle.newick.specs.ReadCalls.{tree_in, check17, check18, text_checks, read_checks, reading, row_in}
use Rattle.lay.specs.declared.keep.Kept.{Kept}
use Rattle.lay.specs.declared.tables.Standing.{Standing}
use Rattle.lay.specs.declared.tables.Standing.TheVariants.{Never, Once, Repeated}
use Rattle.lay.specs.Laying.{Link, sets, grow, tally, least, laid_row}
use Rattle.lay.proofs.LaidRow.{laid_valid}
use Rattle.lay.specs.Faults.{or_at, place_of, due, told_by, bad_mark, mark_check}
use Rattle.lay.proofs.FaultLaws.{place18, laid_row_in}
use Rattle.newick.proofs.FaultLaws.{stands_exactly}
use Rattle.reader.specs.Steps.{ReadyAt, Told, Texts}
use Rattle.reader.specs.Results.{Unread, checks_of, tree_of, Lies, left_in}

-- ---- the first words of a row

take_set : (w : ℕ) (l : List ℕ) (i v : ℕ) → take w (set l i v) ≡ set (take w l) i v
take_set zero l i v = refl
take_set (suc w) [] i v = refl
take_set (suc w) (x ∷ l) zero v = refl
take_set (suc w) (x ∷ l) (suc i) v = ap (λ (m : List ℕ). x ∷ m) (take_set w l i v)

take_sets : (w : ℕ) (ls : List Link) (row : List ℕ) → take w (sets ls row) ≡ sets ls (take w row)
unfolding sets
take_sets w [] row = refl
take_sets w (l ∷ ls) row = take_sets w ls (set row (suc l.child) l.up) ∙ ap (sets ls) (take_set w row (suc l.child) l.up)

take_zeros : (w m : ℕ) → w ≤ m → take w (zeros m) ≡ zeros w
take_zeros zero m h = refl
take_zeros (suc w) zero h = absurd (omega arith)
take_zeros (suc w) (suc m) h = ap (λ (l : List ℕ). 0 ∷ l) (take_zeros w m (omega arith))

-- ---- the checks, as the code takes them

pub due_once : (n x : ℕ) → x < n → 1 ≡ due n x
due_once n x h = rw (lt-ltb x n h) refl

pub due_never : (n x : ℕ) → n ≤ x → ◌≡◌ {A = ℕ} 0 (due n x)
due_never n x h = rw (le-ltb x n h) refl

told_one : (a b : Standing) → told_by a ≡ told_by b → a ≡ b
told_one Never Never e = refl
told_one Never Once e = absurd (omega (arith, e))
told_one Never Repeated e = absurd (omega (arith, e))
told_one Once Never e = absurd (omega (arith, e))
told_one Once Once e = refl
told_one Once Repeated e = absurd (omega (arith, e))
told_one Repeated Never e = absurd (omega (arith, e))
told_one Repeated Once e = absurd (omega (arith, e))
told_one Repeated Repeated e = refl

module _ (n : ℕ) (marks : List Standing) (b v : ℕ) (s : ScanLeft (bad_mark n marks) 0 b v) where
  pub bad_end : b ≤ v → nowhere ≡ first (bad_mark n marks) (range 0 b)
  bad_end h = sym (s.decides ∙ first_end (bad_mark n marks) v b h)

  module _ (r : Standing) (e : told_by r ≡ due n v) (h : v < b) where
    pub bad_hit : (get_or marks v Never ≡ r → ⊥) → at v ≡ first (bad_mark n marks) (range 0 b)
    bad_hit f = sym (s.decides ∙ first_hit (bad_mark n marks) v b h
        (rw (ne_eqb (told_by (get_or marks v Never)) (due n v) (λ q. f (told_one (get_or marks v Never) r (q ∙ sym e)))) refl))

    pub bad_not : get_or marks v Never ≡ r → ScanLeft (bad_mark n marks) 0 b (v + 1)
    bad_not f = scan_pass s h (rw (eq-eqb (told_by (get_or marks v Never)) (due n v) (ap told_by f ∙ e)) refl)

pub place_hit : (k m : ℕ) → refused k m ≡ asked (record { number = k; fault = place_of (Some m) })
place_hit k m = refl

pub place_miss : (k : ℕ) → accepted ≡ asked (record { number = k; fault = place_of None })
place_miss k = refl

pub or_hit : (k x : ℕ) (p q : Place) → place_of (Some x) ≡ p → refused k x ≡ asked (record { number = k; fault = or_at p q })
or_hit k x p q e = subst (λ (z : Place). refused k x ≡ asked (record { number = k; fault = or_at z q })) e refl

pub or_miss : (k : ℕ) (p q : Place) (v : Verdict) → place_of None ≡ p → v ≡ asked (record { number = k; fault = q })
    → v ≡ asked (record { number = k; fault = or_at p q })
or_miss k p q v e f = subst (λ (z : Place). v ≡ asked (record { number = k; fault = or_at z q })) e f

-- ---- a text that has been read

pub unread_ready : (n : ℕ) (l : List ℕ) (kept : Kept) (row : List ℕ) (marks : List Standing) → 1 ≤ n → n ≤ most_samples
    → Unread n kept row marks → ReadyAt l 0 kept
unread_ready n l kept row marks h k F =
    let e : kept.next ≡ n = ap (λ (c : Kept). c.next) F.numbers in
    record { within = omega arith; low = omega (arith, e); most = omega (arith, e) }

pub lies_form : (l : List ℕ) (n q : ℕ) (row : List ℕ) → parsed l ≡ stops q → Lies l n (Err (record { reason = Form; place = q })) row
unfolding text_checks
lies_form l n q row e = rw e (chain_stop (check17 (stops q)) _ accepted 17 q refl)

-- what is found is a tree, or a stop that is refused
module _ (l : List ℕ) (n : ℕ) (kept : Kept) (row : List ℕ) (marks : List Standing) (kept₁ : Kept) (row₁ : List ℕ) (marks₁ : List Standing) where
  pub lies_stopped : (r : Result ℕ Stop) (x : Refusal) (Q : Stop → Type 0) → Texts l kept row marks r kept₁ row₁ marks₁
      → MatchResult r (λ (e : ℕ). Err x ≡ Ok e) Q → ((q : Stop) → Q q → x ≡ record { reason = Form; place = q.at }) → Lies l n (Err x) row₁
  lies_stopped (Ok e) x Q T m g = cc
  lies_stopped (Err q) x Q T m g = rw (g q m) (lies_form l n q.at row₁ T)

  pub told : (r : Result ℕ Stop) (P : ℕ → Type 0) → Texts l kept row marks r kept₁ row₁ marks₁ → MatchResult r P (λ (q : Stop). ⊥)
      → Told l kept row marks kept₁ row₁ marks₁
  told (Ok e) P T m = T
  told (Err q) P T m = absurd m

module _ (l : List ℕ) (n : ℕ) (kept : Kept) (row : List ℕ) (marks : List Standing) (kept₁ : Kept) (row₁ : List ℕ) (marks₁ : List Standing) (most : n ≤ most_samples) (F : Unread n kept row marks)
    (T : Told l kept row marks kept₁ row₁ marks₁) where
  abbrev t : Tree
  t = T.tree

  abbrev asked18 : Verdict
  asked18 = asked (mark_check n marks₁ kept₁.large)

  as18 : asked18 ≡ asked (check18 n t)
  as18 = ap (λ (p : Place). asked (record { number = 18; fault = p }))
      (ap (λ (b : Option ℕ). or_at (first (bad_mark n marks₁) (range 0 most_samples)) (place_of b))
      (T.lays.large ∙ ap (λ (c : Kept). least most_samples (samples t) c.large) F.numbers)
      ∙ sym (place18 n most t marks₁ (T.lays.stands ∙ ap (tally (samples t)) F.tallies)))

  past17 : checks_of n l ⊳ accepted ≡ (check18 n t ∷ []) ⊳ accepted
  unfolding text_checks
  past17 = rw T.read (chain_go (check17 (reads t)) (check18 n t ∷ []) accepted refl)

  pub lies_18 : (x : Refusal) (row₂ : List ℕ) → verdict (Err x) ≡ asked18 → Lies l n (Err x) row₂
  lies_18 x row₂ e = past17 ∙ chain_stop (check18 n t) [] accepted (number_of x.reason) x.place (sym (e ∙ as18))

  -- what is laid in the row: its links, its number of nodes and its mark
  laid_front : (row₂ : List ℕ) → row₂ ≡ set (set row₁ 0 kept₁.next) (kept₁.root + 1) root_mark
      → take (row_words n) row₂ ≡ laid_row n (grow t n)
  unfolding laid_row
  laid_front row₂ h =
      let g = grow t n in
      let k : kept.next ≡ n = ap (λ (c : Kept). c.next) F.numbers in
      let a : kept₁.next ≡ g.next = T.lays.next ∙ ap (λ (i : ℕ). (grow t i).next) k in
      let b : kept₁.root + 1 ≡ suc g.root =
      ap (λ (i : ℕ). i + 1) (T.lays.root ∙ ap (λ (i : ℕ). (grow t i).root) k) ∙ add-one g.root in
      let z : take (row_words n) row₁ ≡ sets g.links (zeros (row_words n)) =
      ap (take (row_words n)) (T.lays.links ∙ ap (λ (i : ℕ). sets (grow t i).links row) k ∙ ap (sets g.links) F.words)
      ∙ take_sets (row_words n) g.links (zeros table_words)
      ∙ ap (sets g.links) (take_zeros (row_words n) table_words (omega (arith, most))) in
      ap (take (row_words n)) h ∙ take_set (row_words n) (set row₁ 0 kept₁.next) (kept₁.root + 1) root_mark
      ∙ ap (λ (w : List ℕ). set w (kept₁.root + 1) root_mark)
      (take_set (row_words n) row₁ 0 kept₁.next ∙ ap (λ (w : List ℕ). set w 0 kept₁.next) z
      ∙ ap (set (sets g.links (zeros (row_words n))) 0) a)
      ∙ ap (λ (i : ℕ). set (set (sets g.links (zeros (row_words n))) 0 g.next) i root_mark) b

  pub lies_accepted : accepted ≡ asked18 → (row₂ : List ℕ) → row₂ ≡ set (set row₁ 0 kept₁.next) (kept₁.root + 1) root_mark
      → Lies l n (Ok tt) row₂
  lies_accepted e row₂ h = (
    past17 ∙ chain_go (check18 n t) [] accepted (sym (e ∙ as18)) ∙ chain_end accepted,
    laid_front row₂ h ∙ ap (λ (o : Parse). laid_row n (grow (tree_in o) n)) (sym T.read),
  )

-- ---- the answer, and what is left in `out`

pub read_refused : (l : List ℕ) (n : ℕ) (x : Refusal) (row out : List ℕ) → Lies l n (Err x) row
    → (verdict (Err x) ≡ checks_of n l ⊳ accepted) × (out ≡ left_in n l out)
read_refused l n x row out e = (sym e, rw e refl)

module _ (l : List ℕ) (n : ℕ) (row : List ℕ) (h : fewest_samples ≤ n) (k : n ≤ most_samples) (L : Lies l n (Ok tt) row) where
  passed18 : (check18 n (tree_of l)).fault ≡ nowhere
  unfolding text_checks
  passed18 = (chain_passed (checks_of n l) L.0).1.0

  pub read_valid : Valid n (take (row_words n) row)
  read_valid = subst (Valid n) (sym L.1) (laid_valid n (tree_of l) h k ((stands_exactly n (tree_of l)).0 passed18))

  pub read-words : (out out' : List ℕ) → out' ≡ renumbered n (take (row_words n) row)
      → (accepted ≡ checks_of n l ⊳ accepted) × (out' ≡ left_in n l out)
  read-words out out' e = (
    sym L.0,
    e ∙ ap (renumbered n) L.1 ∙ laid_row_in n (tree_of l) h k passed18
        ∙ ap (λ (v : Verdict). cond (is_accepted v) (row_in n (tree_of l)) out) (sym L.0),
  )

-- ---- 1 and 3 before them

module _ (n : ℕ) (l out : List ℕ) where
  abbrev cs : List Check
  cs = read_checks n (parsed l) out

  abbrev rest : List Check
  rest = text_checks n (parsed l)

  refused_by : (x : Refusal) → cs ⊳ accepted ≡ verdict (Err x) → (verdict (Err x) ≡ (reading n l out).verdict) × (out ≡ (reading n l out).words)
  unfolding reading
  refused_by x e = (sym e, sym (outcome_refused cs out (row_in n (tree_of l)) (number_of x.reason) x.place e))

  pub read_1 : (x : Refusal) → verdict (Err x) ≡ asked (check1 n) → (verdict (Err x) ≡ (reading n l out).verdict) × (out ≡ (reading n l out).words)
  unfolding read_checks
  read_1 x e = refused_by x (chain_stop (check1 n) (check3 n out ∷ rest) accepted (number_of x.reason) x.place (sym e))

  module _ (a : accepted ≡ asked (check1 n)) where
    pub samples-in : (fewest_samples ≤ n) × (n ≤ most_samples)
    samples-in =
        outside_not fewest_samples most_samples n (line_passes 1 (outside fewest_samples most_samples n) (asked_passes (check1 n) (sym a)))

    pub read_3 : (x : Refusal) → verdict (Err x) ≡ asked (check3 n out) → (verdict (Err x) ≡ (reading n l out).verdict) × (out ≡ (reading n l out).words)
    unfolding read_checks
    read_3 x e =
        refused_by x (chain_go (check1 n) (check3 n out ∷ rest) accepted (sym a)
        ∙ chain_stop (check3 n out) rest accepted (number_of x.reason) x.place (sym e))

    module _ (b : accepted ≡ asked (check3 n out)) where
      pub words_in : length out ≡ row_words n
      words_in = eqb-true (length out) (row_words n)
          (not-false (eqb (length out) (row_words n))
          (line_passes 3 (not (eqb (length out) (row_words n))) (asked_passes (check3 n out) (sym b))))

      pub read_rest : (v : Verdict) (out' : List ℕ) → v ≡ checks_of n l ⊳ accepted → out' ≡ left_in n l out
          → (v ≡ (reading n l out).verdict) × (out' ≡ (reading n l out).words)
      unfolding reading read_checks
      read_rest v out' e f =
          let z : cs ⊳ accepted ≡ rest ⊳ accepted =
          chain_go (check1 n) (check3 n out ∷ rest) accepted (sym a) ∙ chain_go (check3 n out) rest accepted (sym b) in
          (e ∙ sym z, f ∙ ap (λ (u : Verdict). cond (is_accepted u) (row_in n (tree_of l)) out) (sym z))
