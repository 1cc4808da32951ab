-- What reporting answers, and the two rows that it leaves (RULES 5 and 7).
use Rattle.std.specs.Prelude.{ℕ, List, [], ◌∷◌, cond, eqb}
use Rattle.trees.specs.Checks.{Verdict, accepted, Check, line, ◌⊳◌, outside}
use Rattle.trees.specs.Valid.{is_accepted}
use Rattle.trees.specs.RowCalls.{check3_both}
use Rattle.trees.specs.Reporting.{Rule, agreed, supports}
use Rattle.trees.specs.Thresholds.{least_threshold, most_threshold, threshold}
use Rattle.trees.specs.Majority.{majority}
use Rattle.runs.specs.Words.{samples, in_force, runs}
use Rattle.runs.specs.Calls.{check2}

-- what a report answers, and its two buffers after it
pub record Report : Type 0 where
  pub verdict : Verdict
  pub agreed_row : List ℕ
  pub support_row : List ℕ

-- check 14, of reporting: no run is in force (RULES 7.5)
abbrev pub check14 : List ℕ → Check
check14 w = line 14 (eqb (in_force w) 0)

-- check 16, of reporting: a threshold is out of range (RULES 7.5)
abbrev pub check16 : ℕ → Check
check16 t = line 16 (outside least_threshold most_threshold t)

-- the checks of reporting on a study that is known to be well formed, and on any (RULES 7.8)
unfoldable pub report_formed_checks : List ℕ → ℕ → List ℕ → List ℕ → List Check
report_formed_checks w p a s = check3_both (samples w) a s ∷ check16 (threshold p) ∷ check14 w ∷ []

unfoldable pub report_checks : List ℕ → ℕ → List ℕ → List ℕ → List Check
report_checks w p a s = check2 w ∷ report_formed_checks w p a s

-- the rule of a report at p (RULES 5.1, 5.8)
abbrev pub rule_of : ℕ → Rule
rule_of p = majority (threshold p)

-- what reporting at p answers, and its two buffers after it: the agreed row and the support row (RULES 5.4, 5.5), or what they held before (RULES 7.4)
unfoldable pub reported : List ℕ → ℕ → List ℕ → List ℕ → Report
reported w p a s =
    let yes = is_accepted (report_checks w p a s ⊳ accepted) in
    record {
      verdict = report_checks w p a s ⊳ accepted;
      agreed_row = cond yes (agreed (rule_of p) (samples w) (runs w)) a;
      support_row = cond yes (supports (rule_of p) (samples w) (runs w)) s;
    }
