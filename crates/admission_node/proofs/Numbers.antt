-- The numbers of a node with any number of transitions, read by 8 bytes at once.
-- Assumes nothing.
use mathlib.Core.Path.{◌≡◌, sym, ap, ◌∙◌}
use mathlib.Core.Bool.{Bool, true, false}
use mathlib.Core.List.{List}
use Prim.Native.Nat.{ℕ, ◌+◌, ◌-◌, ◌*◌, ◌≤◌, ◌<◌}
use native.Mathlib.Omega.{arith}
use lib.ListN.{get_or, take, drop}
use lib.Seq.{take-take}
use Rattle.format.specs.Bytes.{le}
use Rattle.format.specs.declared.State.TheVariants.{AnyTrans}
use Rattle.format.specs.Node.{numbers_down, deltas_at}
use Rattle.format.specs.Laws.StoredLaws.{get_d_numbers_down}
use Rattle.node.specs.declared.Node.{Node}
use Rattle.node.specs.Read.{node_deltas}
use Rattle.std.proofs.Common.{true≢false}
use Rattle.admission_node.specs.Entries.{Wide}

-- the first of 8 bytes from the place of number i on
pub eight_is : (s : List ℕ) (at k n i : ℕ) → k ≤ 8 → i < n
    → le (take k (take (at + (n - 1 - i) * k + 8 - (at + (n - 1 - i) * k)) (drop (at + (n - 1 - i) * k) s))) ≡ get_or (numbers_down s at k n) i 0
eight_is s at k n i small l =
    let eight : at + (n - 1 - i) * k + 8 - (at + (n - 1 - i) * k) ≡ 8 = omega arith in
    rw eight
    (ap le (take-take k 8 (drop (at + (n - 1 - i) * k) s) small) ∙ sym (get_d_numbers_down s at k n i l))

pub any_delta : (s : List ℕ) (m : Node) (i : ℕ) → m.state ≡ AnyTrans
    → get_or (numbers_down s (deltas_at m.outputs m.ntrans m.osize) m.tsize m.ntrans) i 0 ≡ get_or (node_deltas s m) i 0
any_delta s m i any = rw any

-- ---- whether 8 bytes are there

pub wide_true : {s : List ℕ} {m : Node} (w : Bool) → Wide s m w → w ≡ true → Wide s m true
wide_true w h e = record { room = λ _. h.room e }

pub wide_false : (s : List ℕ) (m : Node) → Wide s m false
wide_false s m = record { room = λ e. absurd (true≢false (sym e)) }
