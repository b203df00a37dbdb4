-- Parts written one after the other from a buffer's first byte.
--     Writing out₀ whole rest out p      out is out₀ with all of `whole` but `rest`, up to place p
--     writing_none, part_written, last_written     before the first part, after a part, after the last
--     writing_room, part_room            what is left has room, and so has the next part
-- Assumes nothing.
use Rattle.std.specs.Prelude.{◌≡◌, refl, List, [], ◌++◌, ℕ, ◌+◌, ◌≤◌, length}
use Rattle.std.proofs.Common.{sym, ap, ◌∙◌, append_assoc, arith, length-append}
use Rattle.buffers.specs.Put.{PutAt}
use Rattle.buffers.specs.PutLaws.{put_nil, put_next, length_put}

pub record Writing (out₀ whole rest out : List ℕ) (p : ℕ) : Type 0 where
  pub done : List ℕ
  pub split : done ++ rest ≡ whole
  pub room : length whole ≤ length out₀
  pub len : length out ≡ length out₀
  pub is : PutAt out₀ 0 done out p

pub writing_none : (out₀ whole rest : List ℕ) → rest ≡ whole → length whole ≤ length out₀ → Writing out₀ whole rest out₀ 0
writing_none out₀ whole rest split room = record {
  done = [];
  split = split;
  room = room;
  len = refl;
  is = record { is = sym (put_nil out₀ 0); next = refl };
}

-- what is left has room
pub writing_room : {out₀ whole rest out : List ℕ} {p : ℕ} → Writing out₀ whole rest out p → p + length rest ≤ length out
writing_room {out₀} {whole} {rest} {out} {p} w =
    omega (arith, w.room, w.len, w.is.next, length-append w.done rest, ap length w.split)

-- and so has the next part
pub part_room : {out₀ whole out : List ℕ} {p : ℕ} (v rest : List ℕ) → Writing out₀ whole (v ++ rest) out p → p + length v ≤ length out
part_room v rest w = omega (arith, writing_room w, length-append v rest)

-- the next part is written
pub part_written : {out₀ whole out : List ℕ} {p : ℕ} (v rest out' : List ℕ) (p' : ℕ) → Writing out₀ whole (v ++ rest) out p → PutAt out p v out' p'
    → Writing out₀ whole rest out' p'
part_written {out₀} {whole} {out} {p} v rest out' p' w put_is =
    let fits = part_room v rest w in
    let next = w.is.next in
    let l = length-append w.done v in
    record {
      done = w.done ++ v;
      split = append_assoc w.done v rest ∙ w.split;
      room = w.room;
      len = ap length put_is.is ∙ length_put out p v fits ∙ w.len;
      is = record {
        is = put_is.is ∙ put_next out₀ 0 w.done v w.is.is next (omega (arith, w.len));
        next = omega (arith, put_is.next);
      };
    }

-- the last part
pub last_written : {out₀ whole v out : List ℕ} {p : ℕ} (out' : List ℕ) (p' : ℕ) → Writing out₀ whole v out p → PutAt out p v out' p'
    → PutAt out₀ 0 whole out' p'
last_written {out₀} {whole} {v} {out} {p} out' p' w put_is =
    let fits = writing_room w in
    let next = w.is.next in
    let l = length-append w.done v in
    rw (← w.split) (record {
      is = put_is.is ∙ put_next out₀ 0 w.done v w.is.is next (omega (arith, w.len));
      next = omega (arith, put_is.next);
    })
