-- Packing loses nothing of any call: numbers, places and counts are within their bits, and unpacking gives the verdict back. Assumes nothing.
use Rattle.std.specs.Prelude.{ℕ, ◌/◌, ◌%◌, ◌<◌, ◌≡◌, refl, List, [], ◌∷◌, Bool, true, ◌&&◌, ltb, length}
use Rattle.std.proofs.Common.{ap, arith, ltb-true, ne_eqb}
use Rattle.trees.specs.Checks.{Verdict, accepted, refused, counted, wrote, Check, ◌⊳◌, judge_checks, judged}
use Rattle.trees.specs.Valid.{Valid}
use Rattle.trees.specs.Comparing.{shared, alone, nontrivial, compared}
use Rattle.trees.specs.RowCalls.{renumber_checks, renumbering, compare_checks, comparing}
use Rattle.trees.proofs.BoolLaws.{and_l, and_r}
use Rattle.trees.proofs.ChainLaws.{Passed, passed_chain, Given, here, later, chain_holds, numbers as listed}
use Rattle.trees.proofs.CheckLaws.{judged_numbers}
use Rattle.trees.proofs.ComparingLaws.{shared_alone, nontrivial_most}
use Rattle.trees.proofs.RowCallLaws.{renumbering_numbers, comparing_numbers, comparing_accepts}
use Rattle.trees.proofs.PlacedLaws.{Placed, most_places, judged_placed, renumbering_placed, comparing_placed}
use Rattle.runs.specs.Runs.{every}
use Rattle.runs.specs.Calls.{open_checks, opened, add_checks, added, withdraw_checks, withdrawn}
use Rattle.runs.specs.Reports.{report_checks, reported}
use Rattle.runs.proofs.CallLaws.{opened_numbers}
use Rattle.runs.proofs.AddLaws.{added_numbers}
use Rattle.runs.proofs.WithdrawLaws.{withdrawn_numbers}
use Rattle.runs.proofs.ReportLaws.{reported_numbers, reported_placed}
use Rattle.runs.proofs.PlacedLaws.{opened_placed, added_placed, withdrawn_placed}
use Rattle.newick.specs.Walk.{parsed}
use Rattle.newick.specs.ReadCalls.{read_checks, reading}
use Rattle.newick.proofs.ReadCallLaws.{reading_numbers, reading_placed}
use Rattle.newick.specs.RowText.{Wanted, written, write_checks, writing}
use Rattle.newick.proofs.WriteLaws.{writing_numbers, writing_placed, writing_accepts}
use Rattle.writer.specs.Lengths.{SmallWords}
use Rattle.writer.specs.LengthLaws.{written_most}
use Rattle.arb.specs.Packing.{numbers, places, counts, packed, unpacked_by, unpacked, counts_in, unpacked_counts}
use Rattle.arb.specs.Packing.{length_in, unpacked_length}

refused_back : (k p : ℕ) → 0 < k → k < numbers → p < places → (packed (refused k p) % numbers ≡ k) × (packed (refused k p) / numbers ≡ p)
refused_back k p h l m = (omega arith, omega arith)

-- an answer that is no refusal: its low 8 bits are 0, and it is read back
abbrev pub Back : (ℕ → Verdict) → Verdict → Type 0
Back said v = (packed v % numbers ≡ 0) × (said (packed v) ≡ v)

-- whether a number is 1 to 255
abbrev fits : ℕ → Bool
fits k = ltb 0 k && ltb k numbers

given_fits : (cs : List Check) (k p : ℕ) → every fits (listed cs) ≡ true → Given k p cs → (0 < k) × (k < numbers)
unfolding every
given_fits [] k p e x'' = elim x'' [ ]
given_fits (c ∷ cs) k p e (here a f) =
    let t : fits k ≡ true = rw (← a) (and_l (fits c.number) (every fits (listed cs)) e) in
    (ltb-true 0 k (and_l (ltb 0 k) (ltb k numbers) t), ltb-true k numbers (and_r (ltb 0 k) (ltb k numbers) t))
given_fits (c ∷ cs) k p e (later f g) = given_fits cs k p (and_r (fits c.number) (every fits (listed cs)) e) g

-- ONE LAW OVER CHAINS: where each number of the list is 1 to 255, no place is too far and the verdict at its end comes back, the chain's does
pub chain_unpacked : (said : ℕ → Verdict) (cs : List Check) (v : Verdict) → every fits (listed cs) ≡ true → Placed places cs → (Passed cs → Back said v)
    → unpacked_by said (packed (cs ⊳ v)) ≡ (cs ⊳ v)
chain_unpacked said cs v e f b = chain_holds (λ x. unpacked_by said (packed x) ≡ x) cs v
    (λ k p g.
    let t = given_fits cs k p e g in
    let s = refused_back k p t.0 t.1 (f k p g) in rw (s.0, s.1, ne_eqb k 0 (λ z. omega (arith, t.0))))
    (λ h. let t = b h in rw t.0 t.1)

pub near : (cs : List Check) → Placed most_places cs → Placed places cs
near cs f k p g = omega (arith, f k p g)

-- a chain that ends in acceptance
pub chain_back : (cs : List Check) → every fits (listed cs) ≡ true → Placed places cs → unpacked (packed (cs ⊳ accepted)) ≡ (cs ⊳ accepted)
chain_back cs e f = chain_unpacked (λ x. accepted) cs accepted e f (λ h. (refl, refl))

pub opened_unpacked : (n : ℕ) (w : List ℕ) → unpacked (packed (opened n w).verdict) ≡ (opened n w).verdict
unfolding opened every
opened_unpacked n w = chain_back (open_checks n w) (ap (every fits) (opened_numbers n w)) (near (open_checks n w) (opened_placed n w))

pub added_unpacked : (w : List ℕ) (i : ℕ) (row : List ℕ) → unpacked (packed (added w i row).verdict) ≡ (added w i row).verdict
unfolding added every
added_unpacked w i row = chain_back (add_checks w i row) (ap (every fits) (added_numbers w i row)) (near (add_checks w i row) (added_placed w i row))

pub withdrawn_unpacked : (w : List ℕ) (i : ℕ) → unpacked (packed (withdrawn w i).verdict) ≡ (withdrawn w i).verdict
unfolding withdrawn every
withdrawn_unpacked w i = chain_back (withdraw_checks w i) (ap (every fits) (withdrawn_numbers w i)) (near (withdraw_checks w i) (withdrawn_placed w i))

pub reported_unpacked : (w : List ℕ) (p : ℕ) (a s : List ℕ) → unpacked (packed (reported w p a s).verdict) ≡ (reported w p a s).verdict
unfolding reported every
reported_unpacked w p a s = chain_back (report_checks w p a s) (ap (every fits) (reported_numbers w p a s)) (near (report_checks w p a s) (reported_placed w p a s))

pub judged_unpacked : (n : ℕ) (r : List ℕ) → unpacked (packed (judged n r)) ≡ judged n r
unfolding judged every
judged_unpacked n r = chain_back (judge_checks n r) (ap (every fits) (judged_numbers n r)) (near (judge_checks n r) (judged_placed n r))

pub renumbering_unpacked : (n : ℕ) (r out : List ℕ) → unpacked (packed (renumbering n r out).verdict) ≡ (renumbering n r out).verdict
unfolding renumbering every
renumbering_unpacked n r out = chain_back (renumber_checks n r out) (ap (every fits) (renumbering_numbers n r out)) (near (renumber_checks n r out) (renumbering_placed n r out))

-- ---- comparing: its counts are at most the groups of a row that are not trivial, fewer than 512

counted_back : (a b c : ℕ) → a < counts → b < counts → c < counts
    → (packed (counted a b c) % numbers ≡ 0) × (packed (counted a b c) / 65536 % counts ≡ a)
    × (packed (counted a b c) / 4294967296 % counts ≡ b) × (packed (counted a b c) / 281474976710656 ≡ c)
counted_back a b c h l m = (omega arith, omega arith, omega arith, omega arith)

counts_back : (n : ℕ) (r q : List ℕ) → Valid n r → Valid n q → Back counts_in (compared n r q)
unfolding compared
counts_back n r q a b =
    let x = nontrivial n r in
    let y = nontrivial n q in
    let m = nontrivial_most n r a in
    let k = nontrivial_most n q b in
    let t = counted_back (shared x y) (alone x y) (alone y x) (omega (arith, shared_alone x y, a.most)) (omega (arith, shared_alone x y, a.most))
    (omega (arith, shared_alone y x, b.most)) in
    (t.0, rw (t.1, t.2, t.3))

pub comparing_unpacked : (n : ℕ) (r q : List ℕ) → unpacked_counts (packed (comparing n r q)) ≡ comparing n r q
unfolding comparing every
comparing_unpacked n r q = chain_unpacked counts_in (compare_checks n r q) (compared n r q) (ap (every fits) (comparing_numbers n r q))
    (near (compare_checks n r q) (comparing_placed n r q))
    (λ h. let t = (comparing_accepts n r q).0 (passed_chain (compare_checks n r q) (compared n r q) h) in counts_back n r q t.0 t.1)

-- ---- reading and writing

-- of a text shorter than 2^56 bytes: its places are bytes of the text, or samples
pub reading_unpacked : (n : ℕ) (l out : List ℕ) → length l < places → unpacked (packed (reading n l out).verdict) ≡ (reading n l out).verdict
unfolding reading every
reading_unpacked n l out h =
    chain_back (read_checks n (parsed l) out) (ap (every fits) (reading_numbers n l out)) (reading_placed n l out places h (omega arith))

length_back : (k : ℕ) → k < places → Back length_in (wrote k)
length_back k h = (omega arith, ap wrote (omega arith))

-- of a text with supports, which are words, or without: it has at most 11n bytes
pub writing_unpacked : (n : ℕ) (r : List ℕ) (w : Wanted) (text : List ℕ) → SmallWords w
    → unpacked_length (packed (writing n r w text).verdict) ≡ (writing n r w text).verdict
unfolding writing every
writing_unpacked n r w text s = chain_unpacked length_in (write_checks n r w text) (wrote (length (written n r w)))
    (ap (every fits) (writing_numbers n r w text)) (near (write_checks n r w text) (writing_placed n r w text))
    (λ h.
    let t = (writing_accepts n r w text (length (written n r w))).0 (passed_chain (write_checks n r w text) (wrote (length (written n r w))) h) in
    length_back (length (written n r w)) (omega (arith, written_most n r t.0 w s, t.0.most)))
