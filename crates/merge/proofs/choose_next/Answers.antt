-- `merge::choose_next` chooses by the ranks of the two nodes. Assumes nothing.
use Rattle.merge.proofs.choose_next.Goals as goal

pub returns : goal.returns
returns c = rw (c.rank_or_end.ensures, c.rank_or_end-2.ensures) at c.choose.ensures
