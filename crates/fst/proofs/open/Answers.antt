-- Each way out is a law of `opening`.
use Rattle.std.proofs.Common.{sym, ap, ◌∙◌, ◌-◌, ◌+◌, length, arith}
use Rattle.format.specs.Opening.{meta_of, opened}
use Rattle.format.specs.Laws.OpeningLaws.{opening_large, opening_version, version_low, version_high}
use Rattle.format.specs.Laws.StoredLaws.{part_rest}
use Rattle.fst.proofs.Opens.{meta_is_lem, opening_of_few, opening_of_short, opening_of_root, opening_of_right}
use Rattle.fst.proofs.open.Goals as goal
use Rattle.fst.proofs.open.Goals.{then-version-lt1-via-then-version-lt1, then-version-lt1-via-else-version-lt1+then-too_new}

-- under 32 bytes: a blank card, or SHORT
pub returns-then-few : goal.returns-then-few
returns-then-few c = c.of_few.ensures ∙ sym (opening_of_few c.args.file.now c.if-few.true)

-- over the largest length: LARGE
pub returns-then-too_large : goal.returns-then-too_large
returns-then-too_large c = sym (opening_large c.args.file.now (λ z. omega arith) c.if-few.false c.if-too_large.true)

-- version 0, or one above 3: VERSION
pub returns-then-version-lt1 : goal.returns-then-version-lt1
unfolding meta_of
returns-then-version-lt1 c =
    sym (opening_version c.args.file.now (λ z. omega arith) c.if-few.false c.if-too_large.false
    (rw (← c.read_u64_le-version.ensures)
    (elim c.then-version-lt1.branch [
      | then-version-lt1-via-then-version-lt1 w ↦ version_low c.read_u64_le-version.result w.if-version-lt1.true
      | then-version-lt1-via-else-version-lt1+then-too_new w ↦ version_high c.read_u64_le-version.result w.if-too_new.true
    ])))

-- under the least length of its version: SHORT
pub returns-then-n-least : goal.returns-then-n-least
returns-then-n-least c =
    sym (opening_of_short c.args.file.now c.read_u64_le-version.result c.trailer_len-trailer.result c.read_u64_le-version.ensures
    c.trailer_len-trailer.ensures.0 c.if-few.false c.if-too_large.false c.if-version-lt1.false c.if-too_new.false c.if-n-least.true)

-- the root breaks the rule on roots: ROOT
pub returns-then-not-root_right : goal.returns-then-not-root_right
returns-then-not-root_right c =
    let s = c.args.file.now in
    let tl = c.trailer_len-trailer in
    sym (opening_of_root s c.read_u64_le-version.result tl.result c.read_u64_le-version.ensures tl.ensures.0 c.if-few.false c.if-too_large.false
    c.if-version-lt1.false c.if-too_new.false c.if-n-least.false c.read_u64_le-root.result
    (c.read_u64_le-root.ensures ∙ rw (part_rest s (length s - tl.result + 8))) (sym c.root_right.ensures ∙ c.if-not-root_right.true))

-- the file opens
pub returns : goal.returns
returns c =
    let s = c.args.file.now in
    let version = c.read_u64_le-version in
    let tl = c.trailer_len-trailer in
    ap opened (meta_is_lem s version.result c.read_u64_le-ty.result c.read_u64_le-len.result c.read_u64_le-root.result tl.result c.checksum_of-checksum.result
    version.ensures tl.ensures.0 (c.read_u64_le-ty.ensures ∙ rw (part_rest s 8)) (c.read_u64_le-len.ensures ∙ rw (part_rest s (length s - tl.result)))
    (c.read_u64_le-root.ensures ∙ rw (part_rest s (length s - tl.result + 8))) c.checksum_of-checksum.ensures)
    ∙ sym (opening_of_right s version.result tl.result version.ensures tl.ensures.0 c.if-few.false c.if-too_large.false
    c.if-version-lt1.false c.if-too_new.false c.if-n-least.false c.read_u64_le-root.result
    (c.read_u64_le-root.ensures ∙ rw (part_rest s (length s - tl.result + 8))) (sym c.root_right.ensures ∙ c.if-not-root_right.false))
