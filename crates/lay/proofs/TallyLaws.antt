-- What has been counted, found and linked over one list and then over another. Assumes nothing.
use Rattle.std.specs.Prelude.{ℕ, suc, ◌≡◌, refl, List, [], ◌∷◌, ◌++◌, cond, ltb, get_or, set, length, Option}
use Rattle.std.proofs.Common.{◌∙◌, length-set}
use Rattle.lay.specs.declared.tables.Standing.{Standing}
use Rattle.lay.specs.declared.tables.Standing.TheVariants.{Never}
use Rattle.lay.specs.Laying.{Link, sets, once_more, tally, lower, least}

pub sets_append : (ls ks : List Link) (row : List ℕ) → sets (ls ++ ks) row ≡ sets ks (sets ls row)
unfolding sets
sets_append [] ks row = refl
sets_append (l ∷ ls) ks row = sets_append ls ks (set row (suc l.child) l.up)

pub tally_append : (xs ys : List ℕ) (marks : List Standing) → tally (xs ++ ys) marks ≡ tally ys (tally xs marks)
unfolding tally
tally_append [] ys marks = refl
tally_append (x ∷ xs) ys marks = tally_append xs ys (set marks x (once_more (get_or marks x Never)))

pub least_append : (n : ℕ) (xs ys : List ℕ) (b : Option ℕ) → least n (xs ++ ys) b ≡ least n ys (least n xs b)
unfolding least
least_append n [] ys b = refl
least_append n (x ∷ xs) ys b = least_append n xs ys (cond (ltb x n) b (lower b x))

pub length_tally : (xs : List ℕ) (marks : List Standing) → length (tally xs marks) ≡ length marks
unfolding tally
length_tally [] marks = refl
length_tally (x ∷ xs) marks =
    length_tally xs (set marks x (once_more (get_or marks x Never))) ∙ length-set marks x (once_more (get_or marks x Never))
