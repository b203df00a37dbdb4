-- More than 32 inputs have an index, and fewer have none.
use Rattle.std.proofs.Common.{◌∙◌, ap, length, arith}
use Rattle.buffers.specs.PutLaws.{put_part}
use Rattle.format.specs.Laws.PackedLaws.{length_index_of}
use Rattle.node_parts.proofs.Heads.{index_many, index_few, put_none}
use Rattle.node_parts.proofs.put_index.Goals as goal

pub slice_bounds-copy_from_slice-end : goal.slice_bounds-copy_from_slice-end
slice_bounds-copy_from_slice-end c =
    let many = index_many c.args.inputs.now c.if-inputs-gt-TRANS_INDEX_THRESHOLD.true in
    omega (arith, c.requires.0, ap length many, length_index_of c.args.inputs.now)

pub returns-then-inputs-gt-TRANS_INDEX_THRESHOLD : goal.returns-then-inputs-gt-TRANS_INDEX_THRESHOLD
returns-then-inputs-gt-TRANS_INDEX_THRESHOLD c =
    let bs = c.args.inputs.now in
    let many = index_many bs c.if-inputs-gt-TRANS_INDEX_THRESHOLD.true in
    rw many
    (record {
      is = put_part _ _ _ _ _ (c.copy_from_slice.ensures.after ∙ c.index_of.ensures) (omega (arith, length_index_of bs));
      next = omega (arith, length_index_of bs);
    })

pub returns : goal.returns
returns c = rw (index_few c.args.inputs.now c.if-inputs-gt-TRANS_INDEX_THRESHOLD.false) (put_none c.args.out.now c.args.at)
