-- The steps of a reader over a text, and what a whole text comes to (RULES 14).
use Rattle.std.specs.Prelude.{ℕ, ◌+◌, ◌≤◌, ◌≡◌, cond, List, eqb, length, get_or, Result, Ok, Err}
use Rattle.trees.specs.Tables.{table_words}
use Rattle.newick.specs.Tree.{Tree}
use Rattle.newick.specs.Bytes.{semicolon_byte, is_blank}
use Rattle.newick.specs.Walk.{parsed}
use Rattle.newick.specs.Walk.Parse.{reads, stops}
use Rattle.newick.specs.Grammar.{most_open}
use Rattle.scan.specs.declared.Stop.{Stop}
use Rattle.scan.specs.Scanning.{past}
use Rattle.lay.specs.declared.keep.Kept.{Kept}
use Rattle.lay.specs.declared.tables.Standing.{Standing}
use Rattle.lay.specs.Keeping.{Lays, Laid}
use Rattle.reader.specs.declared.held.Reader.{Reader}

-- a subtree may be read at a place of the text
pub record ReadyAt (l : List ℕ) (at : ℕ) (kept : Kept) : Type 0 where
  pub within : at ≤ length l
  pub low : 1 ≤ kept.next
  pub most : kept.next ≤ table_words

-- it may where a reader stands
abbrev pub Ready : Reader → Kept → Type 0
Ready r kept = ReadyAt r.text.now r.at kept

-- a reader goes on over its text as far as p says, or stops and stays where it is
abbrev pub Goes : Reader → Result Unit Stop → Reader → Result ℕ Stop → Type 0
Goes r (Ok _) r' p = (r'.text ≡ r.text) × (p ≡ Ok r'.at)
Goes r (Err q) r' p = (r'.text ≡ r.text) × (r'.at ≡ r.at) × (p ≡ Err q)

-- a subtree is read from where a reader stands
abbrev pub Reads : Reader → Kept → List ℕ → List Standing → Result Unit Stop → Reader → Kept → List ℕ → List Standing → Type 0
Reads r kept row marks o r' kept' row' marks' =
    (p : Result ℕ Stop) × Laid r.text.now r.at most_open kept row marks p kept' row' marks' × Goes r o r' p

-- a semicolon; blanks; the end: each from how far the reading has come, and one that has stopped stays stopped
abbrev pub semicolon_from : List ℕ → Result ℕ Stop → Result ℕ Stop
semicolon_from l (Ok at) = cond (eqb (get_or l at 0) semicolon_byte) (Ok (at + 1)) (Err (record { at = at }))
semicolon_from l (Err q) = Err q

abbrev pub blanks_from : List ℕ → Result ℕ Stop → Result ℕ Stop
blanks_from l (Ok at) = Ok (past is_blank l at)
blanks_from l (Err q) = Err q

abbrev pub end_from : List ℕ → Result ℕ Stop → Result ℕ Stop
end_from l (Ok at) = cond (eqb at (length l)) (Ok at) (Err (record { at = at }))
end_from l (Err q) = Err q

-- a subtree is read from the start, up to some place or stop, then a semicolon, blanks and the end
abbrev pub WholeOf : List ℕ → Kept → List ℕ → List Standing → Result ℕ Stop → Kept → List ℕ → List Standing → Type 0
WholeOf l kept row marks r kept' row' marks' =
    (p : Result ℕ Stop) × Laid l 0 most_open kept row marks p kept' row' marks' × (r ≡ end_from l (blanks_from l (semicolon_from l p)))

-- a whole text is read, and its tree is laid
pub record Told (l : List ℕ) (kept : Kept) (row : List ℕ) (marks : List Standing) (kept' : Kept) (row' : List ℕ)
    (marks' : List Standing) : Type 0 where
  pub tree : Tree
  pub read : parsed l ≡ reads tree
  pub lays : Lays tree kept row marks kept' row' marks'

-- it is, or it stops being of the form
abbrev pub Texts : List ℕ → Kept → List ℕ → List Standing → Result ℕ Stop → Kept → List ℕ → List Standing → Type 0
Texts l kept row marks (Ok e) kept' row' marks' = Told l kept row marks kept' row' marks'
Texts l kept row marks (Err q) kept' row' marks' = parsed l ≡ stops q.at
