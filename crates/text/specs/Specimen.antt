-- The case of RULES 10: the agreed row and the support row make its listing. Assumes nothing.
use Rattle.std.specs.Prelude.{◌≡◌, refl}
use mathlib.Core.List.{flatten}
use Rattle.trees.specs.Lists.{tabulate, filter}
use Rattle.trees.specs.Rows.{nodes, parent, meets, group_at}
use Rattle.trees.specs.Case.{agreed_row, support_row}
use Rattle.ascii.specs.Ascii.{ascii}
use Rattle.ascii.specs.Decimal.{digits, decimal}
use Rattle.text.specs.Lines.{spaced, line_of, head_line, parent_field, samples_of, node_line, refusal_line, tree_lines}

-- the listing, byte for byte (RULES 10)
pub specimen_listing : flatten (tree_lines 5 3 agreed_row support_row) ≡ ascii "ARB 1 5 3\n5 - 3 0 1 2 3 4\n6 5 2 0 1 2\n7 6 2 0 1\n8 5 2 3 4\n"
unfolding tree_lines head_line node_line line_of spaced parent_field samples_of flatten decimal digits tabulate filter nodes parent group_at meets
specimen_listing = refl

-- the line of a refusal (RULES 9.7)
pub specimen_refusal : refusal_line 10 3 512 ≡ ascii "refused 10 3 512\n"
unfolding refusal_line line_of spaced decimal digits
specimen_refusal = refl
