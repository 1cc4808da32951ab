-- Reading what was written gives the row renumbered. Assumes nothing.
use Rattle.std.specs.Prelude.{ℕ, ◌≡◌, refl, List, [], Bool, cond, ltb, length}
use Rattle.std.proofs.Common.{ap, subst, ◌∙◌, arith, ltb-true}
use Rattle.trees.specs.Groups.{Group, member}
use Rattle.trees.specs.Rows.{nodes, meets, groups}
use Rattle.trees.specs.Checks.{accepted, Check, ◌⊳◌, row_words}
use Rattle.trees.specs.Valid.{Valid, In}
use Rattle.trees.specs.Numbering.{branching, row_of, group_set, renumbered}
use Rattle.trees.specs.Outcomes.{Outcome, outcome}
use Rattle.trees.proofs.BoolLaws.{true_eq, and_l}
use Rattle.trees.proofs.MemberLaws.{ordered_same}
use Rattle.trees.proofs.RowLaws.{in_groups}
use Rattle.newick.specs.Tree.{Tree}
use Rattle.newick.specs.Grammar.{most_open, Text}
use Rattle.newick.specs.Grammar.All.{none}
use Rattle.newick.specs.Walk.{Parse, parsed}
use Rattle.newick.proofs.Complete.{complete}
use Rattle.newick.specs.Meaning.{samples, times, groups_of}
use Rattle.newick.specs.ReadCalls.{tree_in, read_checks, row_in, reading}
use Rattle.newick.specs.RowText.{Wanted, node_text, root_of, written}
use Rattle.newick.proofs.ChildLaws.{pairs_few, root_at, root_above}
use Rattle.newick.proofs.ReadCallLaws.{reading_accepts}
use Rattle.newick.proofs.WrittenLaws.{shows, meant}

-- l is of the form and means a tree in which each sample below n stands once, and the groups are those of the row r
pub record Tells (n : ℕ) (r l : List ℕ) : Type 0 where
  pub tree : Tree
  pub text : Text l tree
  pub once : (x : ℕ) → times x (samples tree) ≡ cond (ltb x n) 1 0
  pub same : (g : Group) → member g (groups_of n tree) ≡ member g (groups n r)

-- the text of a valid row tells the row, with and without supports
pub written_tells : (n : ℕ) (r : List ℕ) → Valid n r → (w : Wanted) → Tells n r (written n r w)
unfolding written
written_tells n r ok w =
    let v = root_of n r in
    let h = root_at n r ok in
    let few = pairs_few n r ok v in
    let m = meant n r ok w (nodes r) most_open v h.1 (omega arith) (omega (arith, ok.high, ok.most)) in record {
      tree = m.tree;
      text = Text.a_text (node_text (nodes r) n r w v) [] m.tree m.form none;
      once = λ x. m.stands x ∙ ap (λ (b : Bool). cond b 1 0) (true_eq (shows n r v x) (ltb x n)
          (λ e. and_l (ltb x n) (meets (nodes r) r v x) e)
          (λ e. rw e (root_above n r ok x (omega (arith, ltb-true x n e, ok.low)))));
      same = λ g. true_eq (member g (groups_of n m.tree)) (member g (groups n r)) (m.sound g)
          (λ e. let t = in_groups n r g e in subst (λ (z : Group). In z (groups_of n m.tree)) t.2
          (m.whole t.0 t.1 (root_above n r ok t.0 t.1)));
    }

-- a tree with the groups of a row is read as the row renumbered
pub row-in : (n : ℕ) (r : List ℕ) (t : Tree) → ((g : Group) → member g (groups_of n t) ≡ member g (groups n r)) → row_in n t ≡ renumbered n r
unfolding row_in renumbered group_set
row-in n r t e = ap (λ (gs : List Group). row_of n (branching gs)) (ordered_same (groups_of n t) (groups n r) e)

-- what tells a row is read as the row renumbered
pub tells_read : (n : ℕ) (r l out : List ℕ) → Valid n r → Tells n r l → length out ≡ row_words n
    → reading n l out ≡ record { verdict = accepted; words = renumbered n r }
unfolding reading
tells_read n r l out ok h e =
    let a = (reading_accepts n l out).1 (
      record { least = ok.least; most = ok.most; words = e },
      (h.tree, h.text, h.once),
    ) in
    outcome-of (read_checks n (parsed l) out) a
    ∙ ap leaves (ap (λ (o : Parse). row_in n (tree_in o)) (complete h.text) ∙ row-in n r h.tree h.same)
  where
    leaves : List ℕ → Outcome
    leaves ws = record { verdict = accepted; words = ws }

    outcome-of : (cs : List Check) → cs ⊳ accepted ≡ accepted
        → outcome cs out (row_in n (tree_in (parsed l))) ≡ leaves (row_in n (tree_in (parsed l)))
    outcome-of cs e = rw e refl

-- reading what was written gives the row renumbered, with supports and without (RULES 14.14)
pub reading_written : (n : ℕ) (r out : List ℕ) (w : Wanted) → Valid n r → length out ≡ row_words n
    → reading n (written n r w) out ≡ record { verdict = accepted; words = renumbered n r }
reading_written n r out w ok e = tells_read n r (written n r w) out ok (written_tells n r ok w) e
