-- What a report answers where the study is known to be well formed, and the rows that it leaves where it is accepted. Assumes nothing.
use Rattle.std.specs.Prelude.{ℕ, ◌≤◌, ◌<◌, ◌≡◌, List, length}
use Rattle.trees.specs.Checks.{accepted, ◌⊳◌, row_words}
use Rattle.trees.proofs.ChainLaws.{chain_go}
use Rattle.trees.specs.Reporting.{agreed, supports_of}
use Rattle.trees.specs.Thresholds.{InRange, threshold}
use Rattle.trees.specs.Majority.{majority}
use Rattle.runs.specs.Words.{header_words, samples, in_force, runs}
use Rattle.runs.specs.Formed.{Formed}
use Rattle.runs.proofs.FormedLaws.{formed_from}
use Rattle.runs.proofs.SlotLaws.{formed_long}
use Rattle.runs.specs.Calls.{check2}
use Rattle.runs.specs.Reports.{report_formed_checks, report_checks, reported}
use Rattle.runs.proofs.ReportLaws.{reported_rows, reported_accepts}
use Rattle.count.specs.Studies.{Study}

module _ (w : List ℕ) (p : ℕ) (a s : List ℕ) where
  -- the checks that are left of a well-formed study
  pub report-formed : Formed w → (reported w p a s).verdict ≡ report_formed_checks w p a s ⊳ accepted
  unfolding reported report_checks
  report-formed f = chain_go (check2 w) (report_formed_checks w p a s) accepted (rw (formed_from w f))

  module _ (e : (reported w p a s).verdict ≡ accepted) where
    -- the study of an accepted report is well formed
    pub report_study : Formed w
    report_study = ((reported_accepts w p a s).0 e).formed

    -- and has its header
    pub report_header : header_words ≤ length w
    report_header = formed_long report_study

    -- what an accepted report asks for, by the numbers that were read
    pub report_asks : (n k t : ℕ) → n ≡ samples w → k ≡ in_force w → t ≡ threshold p
        → Study w n k × (0 < k) × InRange t × (length a ≡ row_words n) × (length s ≡ row_words n)
    report_asks n k t x y z = let h = (reported_accepts w p a s).0 e in (
      record { formed = h.formed; over = x; force = y },
      rw y h.some,
      rw z h.in_range,
      rw x h.agreed_words,
      rw x h.support_words,
    )

    -- the agreed row, and the supports that stand beside it, are the rows that it leaves
    pub report_rows : (n t : ℕ) → n ≡ samples w → t ≡ threshold p → (b c : List ℕ) → b ≡ agreed (majority t) n (runs w) → c ≡ supports_of n (runs w) b
        → (b ≡ (reported w p a s).agreed_row) × (c ≡ (reported w p a s).support_row)
    report_rows n t x y b c f g = let h = reported_rows w p a s e in
        (rw (h.0, f, x, y), rw (h.1, g, f, x, y))
