-- `writer::texts::Pen::put_whole` puts the root's text and the semicolon. Assumes nothing.
use native.Mathlib.Omega.{arith}
use Rattle.judge.proofs.KnownRows.{known_valid}
use Rattle.writer.specs.Lengths.{wanted_by}
use Rattle.writer.proofs.RowLaws.{root_charted, root_room, last_room, whole_put}
use Rattle.writer.proofs.texts.Pen.put_whole.Goals as goal

pub put_text-end-requires : goal.put_text-end-requires
put_text-end-requires c =
    let ok = known_valid _ _ c.args.self.now.tree.valid in
    let pre = c.requires in
    let w = wanted_by c.args.self.now.words.now in (
      root_charted ok pre.0 w c.root.ensures c.nodes.ensures,
      pre.1,
      omega (arith, root_room ok pre.0 w c.root.ensures c.nodes.ensures c.args.out.now pre.2),
    )

pub put_byte-requires : goal.put_byte-requires
put_byte-requires c =
    let ok = known_valid _ _ c.args.self.now.tree.valid in
    let pre = c.requires in
    last_room ok pre.0 _ c.root.ensures c.nodes.ensures _ pre.2 c.put_text-end.ensures (omega arith)

pub returns : goal.returns
returns c =
    let ok = known_valid _ _ c.args.self.now.tree.valid in
    let pre = c.requires in
    whole_put ok pre.0 _ c.root.ensures c.nodes.ensures _ pre.2 c.put_text-end.ensures (omega arith)
    c.put_byte.ensures
