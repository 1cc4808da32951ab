-- That a row's tables tell its paths has one proof at most. Assumes nothing.
use Rattle.std.specs.Prelude.{ℕ, ◌<◌, ◌≡◌, List}
use Rattle.std.proofs.Common.{arith}
use Rattle.std.proofs.Props.{props}
use Rattle.trees.specs.Rows.{parent}
use Rattle.trees.specs.Tables.{entry}
use Rattle.conflict.specs.Paths.{Goes, begins, goes_on, Paths}

module _ (r head next : List ℕ) (v : ℕ) where
  goes_prop : IsProp (Goes r head next v)
  goes_prop (begins a b c) (begins d e f) =
      let own : IsProp (entry head v ≡ v) = hlevel props in
      let some : IsProp (0 < entry next (parent r v)) = hlevel props in
      let under : IsProp (entry next (parent r v) < v) = hlevel props in
      λ i. begins (own a d i) (some b e i) (under c f i)
  goes_prop (begins a b c) (goes_on d e) = absurd (omega (arith, c, e))
  goes_prop (goes_on a b) (begins c d e) = absurd (omega (arith, b, e))
  goes_prop (goes_on a b) (goes_on c d) =
      let shared : IsProp (entry head v ≡ entry head (parent r v)) = hlevel props in
      let first : IsProp (entry next (parent r v) ≡ v) = hlevel props in
      λ i. goes_on (shared a c i) (first b d i)

pub paths_prop : {n : ℕ} {r : List ℕ} {m : ℕ} {head next : List ℕ} → IsProp (Paths n r m head next)
paths_prop = hlevel (props, goes_prop)
