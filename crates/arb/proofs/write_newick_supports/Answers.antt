-- `arb::write_newick_supports` promises what `writer::write_newick_supports` does, for the same support row. Assumes nothing.
use Rattle.arb.proofs.write_newick_supports.Goals as goal

pub returns : goal.returns
returns c = record { answer = c.write_newick_supports.ensures.result_value; bytes = c.write_newick_supports.ensures.text_after }
