-- `put::put_bytes` copies the text over the bytes from its place on. Assumes nothing.
use Rattle.put.proofs.Laws.{put_copied}
use Rattle.put.proofs.put_bytes.Goals as goal

pub returns : goal.returns
returns c = put_copied _ _ _ _ c.requires c.copy_from_slice.ensures.after
