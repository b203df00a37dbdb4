-- Laws of the records of a replay list: a part stands in the list right after the 15 bytes of its record, and the file that is asked is a part of the list.
-- Assumes nothing.
use Rattle.std.specs.Prelude.{◌≡◌, refl, Bool, true, false, cond, Some, None, List, ℕ, ◌+◌, ◌≤◌, eqb, leb, length, take, drop}
use Rattle.std.proofs.Common.{sym, ap, arith, leb-true, length-drop}
use Rattle.std.proofs.Math.Seq.{length-take-le}
use Rattle.replay_list.specs.Records.{Item, field_at, entry_at, parsed_at, asked_file}

-- the bytes p stand in the list s
pub record Inside (s p : List ℕ) : Type 0 where
  pub from : ℕ
  pub len : ℕ
  pub ends : from + len ≤ length s
  pub is : p ≡ take len (drop from s)

-- the record that was parsed at place at
pub record Found (s : List ℕ) (at : ℕ) (e : Item) : Type 0 where
  pub within : at + 15 + length e.part ≤ length s
  pub starts : e.part ≡ take (length e.part) (drop (at + 15) s)

entry_found : (s : List ℕ) (at : ℕ) → at + 15 + field_at s (at + 13) 2 ≤ length s → Found s at (entry_at s at)
entry_found s at h =
    let n = field_at s (at + 13) 2 in
    let l : length (take n (drop (at + 15) s)) ≡ n = length-take-le n (drop (at + 15) s) (omega (arith, length-drop (at + 15) s)) in
    record { within = omega (arith, l); starts = ap (λ (m : ℕ). take m (drop (at + 15) s)) (sym l) }

pub parsed_found : {s : List ℕ} {at : ℕ} {e : Item} → parsed_at s at ≡ Some e → Found s at e
unfolding parsed_at
parsed_found {s} {at} {e} is = go (leb (at + 15 + field_at s (at + 13) 2) (length s)) refl is
  where
    go : (t : Bool) → leb (at + 15 + field_at s (at + 13) 2) (length s) ≡ t
        → cond t (Some (entry_at s at)) None ≡ Some e → Found s at e
    go true h p = let same : entry_at s at ≡ e = cc in rw (← same) (entry_found s at (leb-true _ _ h))
    go false h p = absurd (let z : ◌≡◌ {A = ℕ} 0 1 = cc in omega arith)

pub file_inside : {s f : List ℕ} (e : Item) → Inside s e.part → Inside s f → Inside s (asked_file e f)
file_inside {s} {f} e part before = go (eqb e.kind 1)
  where
    go : (t : Bool) → Inside s (cond t e.part f)
    go true = part
    go false = before

-- what a record that was parsed is asked of
pub asked_inside : {s : List ℕ} (at : ℕ) (e : Item) {f g : List ℕ} → parsed_at s at ≡ Some e → Inside s f → g ≡ asked_file e f → Inside s g
asked_inside at e is before same =
    let found = parsed_found is in
    rw same (file_inside e (record { from = at + 15; len = length e.part; ends = found.within; is = found.starts }) before)
