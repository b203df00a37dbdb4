-- The pass up the file: what is known once the addresses below a are passed.
--     zeros_put           zeros written from an address on, up to the next that has an entry
--     Passing f d c a     the entries below a are as they are to be
--     AtNode f d c a      and the next address has an entry in the depths
-- Assumes nothing.
use Rattle.std.specs.Prelude.{Option, Some, None, Result, Ok, Err, ⊤}
use Rattle.std.specs.Option.{ok_or}
use Rattle.std.specs.Result.{is_err}
use Rattle.std.proofs.Common.{true, false, true≢false}
use Rattle.format.specs.declared.Refusal.{Refusal}
use Rattle.format.specs.Limits.{COUNT}
use Rattle.admission.specs.Outcome.{Wiped}
use Rattle.admission.specs.WipingLaws.{wiped_after}
use mathlib.Core.Path.{◌≡◌, refl, sym, ap, ◌∙◌}
use mathlib.Core.List.{List, ◌++◌}
use Prim.Native.Nat.{ℕ, ◌+◌, ◌-◌, ◌≤◌, ◌<◌}
use native.Mathlib.Decide.{dec_le}
use native.Mathlib.Omega.{arith}
use lib.ListN.{length, get_or, set, take, drop, replicate}
use Rattle.std.proofs.lemmas.List.{length-take, length-drop, length-append, length-replicate, append_assoc, drop-drop, get_or-take, get_or-drop, get_or-append_right, get_or_append_left, get_or-replicate}
use Rattle.std.proofs.lemmas.Slice.{drop-append-drop}
use Rattle.format.specs.Node.{Node, sound, SoundAt, node_of}
use Rattle.format.specs.Paths.{Fst, node_in}
use Rattle.format.specs.Tables.{keys_from}
use Rattle.format.specs.Laws.NodeLaws.{node_at_sound}
use Rattle.format.specs.Laws.NodeFacts.{node_target_lt}
use Rattle.admission_node.specs.Entries.{FirstMarked, total_as}
use Rattle.admission_node.specs.KeptLaws.{at_set}
use Rattle.admission_node.specs.TotalLaws.{total_cases}
use Rattle.counting_node.specs.CountNodes.{CountedAt}
use Rattle.counting.specs.CountPasses.{HasEntry, ZerosTo, Countable, KeysEntry, OverOne, Passed, Leaves}
use Rattle.counting_node.specs.CountNodesLaws.{keys_by_is}

-- ---- zeros, up to an address

-- zs is written over the entries of c₀ from an address on, up to the next that has an entry in the depths d
module _ (d c₀ zs : List ℕ) (n from to : ℕ) (room : n ≤ length c₀) (first : FirstMarked d from n to) (zs_put : zs ≡ replicate (length (take (to - from) (drop from c₀))) 0) where
  front_long : length (take from c₀) ≡ from
  front_long = simp (length-take) (omega (arith, first.low, first.high))

  zs_is : zs ≡ replicate (to - from) 0
  zs_is =
      let long : length (take (to - from) (drop from c₀)) ≡ to - from = simp (length-take, length-drop) (omega (arith, first.high)) in
      zs_put ∙ ap (λ i. replicate i 0) long

  zs_long : length zs ≡ to - from
  zs_long = ap length zs_is ∙ length-replicate {A = ℕ} (to - from) 0

  both_long : length (take from c₀ ++ zs) ≡ to
  both_long = length-append (take from c₀) zs ∙ (omega (arith, front_long, zs_long, first.low))

  abbrev whole : List ℕ
  whole = take from c₀ ++ (zs ++ drop (to - from) (drop from c₀))

  whole_is : whole ≡ (take from c₀ ++ zs) ++ drop to c₀
  whole_is =
      let back : from + (to - from) ≡ to = omega (arith, first.low) in
      ap (λ (x : List ℕ). take from c₀ ++ (zs ++ x)) (drop-drop (to - from) from c₀ ∙ ap (λ i. drop i c₀) back)
      ∙ sym (append_assoc (take from c₀) zs (drop to c₀))

  zs_at : (j : ℕ) → from ≤ j → j < to → get_or whole j 0 ≡ 0
  zs_at j p l =
      get_or-append_right (take from c₀) (zs ++ drop (to - from) (drop from c₀)) from j 0 front_long p
      ∙ get_or_append_left zs (drop (to - from) (drop from c₀)) 0 (j - from) (omega (arith, zs_long))
      ∙ ap (λ (x : List ℕ). get_or x (j - from) 0) zs_is
      ∙ get_or-replicate (to - from) (j - from) 0 0 (omega arith)

  pub zeros_put : ZerosTo d n from c₀ (take from c₀ ++ (zs ++ drop (to - from) (drop from c₀))) to
  zeros_put =
      record {
        first = first;
        kept = record {
          long = ap length whole_is ∙ length-append (take from c₀ ++ zs) (drop to c₀) ∙ (omega (arith, both_long, length-drop to c₀, first.high));
          beyond = ap (drop n) whole_is ∙ drop-append-drop to c₀ (take from c₀ ++ zs) n first.high both_long;
        };
        zeros = zs_at;
        below = λ j l.
            get_or_append_left (take from c₀) (zs ++ drop (to - from) (drop from c₀)) 0 j (omega (arith, front_long))
            ∙ get_or-take from c₀ j 0 l;
      }

-- ---- the pass

pub record Passing (f : Fst) (d c : List ℕ) (a : ℕ) : Type 0 where
  pub below : (j : ℕ) → j < a → KeysEntry f d j (get_or c j 0)

pub record AtNode (f : Fst) (d c : List ℕ) (a : ℕ) : Type 0 where
  pub within : a ≤ length f.bytes
  pub passing : Passing f d c a
  pub next : a < length f.bytes → HasEntry d a

-- the addresses without an entry in the depths are passed
pub passing_zeros : {f : Fst} {d c₀ c : List ℕ} {from a : ℕ} → Passing f d c₀ from → ZerosTo d (length f.bytes) from c₀ c a → AtNode f d c a
passing_zeros {f} {d} {c₀} {c} {from} {a} h z =
    record { within = z.first.high; passing = record { below = each }; next = z.first.marked }
  where
    each : (j : ℕ) → j < a → KeysEntry f d j (get_or c j 0)
    each j l =
        elim (dec_le from j) [
          | yes p ↦
              let none = z.first.none j p l in
              record { off = λ _. z.zeros j p l; on = λ e. absurd (e none); low = λ e. absurd (e none) }
          | no p ↦ rw (z.below j (omega arith)) (h.below j (omega arith))
        ]

sound_node : (f : Fst) (a : ℕ) → SoundAt f.bytes f.version f.root a → (m : Node) × (node_in f a ≡ sound m)
sound_node f a h = (node_of f.bytes f.version a, node_at_sound f.bytes f.version f.root a (λ z. omega (arith, h.above)) h)

module _ {f : Fst} {d c₀ c : List ℕ} {a : ℕ} (h : AtNode f d c a) (ok : Countable f d c₀) (inside : a < length f.bytes) where
  node_here : SoundAt f.bytes f.version f.root a
  node_here = ok.sounds a inside (h.next inside)

  module _ (r : Option ℕ) (v : CountedAt f c a r) where
    -- the number of keys, or that it does not fit
    total_is : r ≡ total_as (keys_from f a)
    total_is =
        let n = sound_node f a node_here in
        let m = n.0 in
        v.each m n.1
        ∙ ap total_as
        (keys_by_is f a m n.1 c
        (λ t mem ne.
        (h.passing.below t.addr (node_target_lt f a m n.1 t mem)).on (ok.targets a m t inside (h.next inside) n.1 mem ne)))

    pub passing_over : r ≡ None → OverOne f d
    passing_over is =
        total_cases (keys_from f a) r total_is
        (λ p i. let other : Some (keys_from f a) ≡ None = sym i ∙ is in absurd (cc))
        (λ p i. record { at = a; inside = inside; entered = h.next inside; over = p })

    entry_here : (x : ℕ) → r ≡ Some x → KeysEntry f d a x
    entry_here x is =
        total_cases (keys_from f a) r total_is
        (λ p i. record { off = λ z. absurd (h.next inside z); on = λ _. cc; low = λ _. p })
        (λ p i. let other : Some x ≡ None = sym is ∙ i in absurd (cc))

    pub passing_step : (x : ℕ) → a < length c → r ≡ Some x → Passing f d (set c a x) (a + 1)
    passing_step x room is =
        record { below = at_set (λ j y. j < a + 1 → KeysEntry f d j y) c a x room (λ _. entry_here x is) (λ j ne l. h.passing.below j (omega arith)) }

-- ---- the number of a node's keys, handed on or refused

pub counted_some : (o : Option ℕ) {r : Result ℕ Refusal} {keys : ℕ} → r ≡ ok_or o COUNT → r ≡ Ok keys → o ≡ Some keys
counted_some None is ok = let z : ◌≡◌ {A = ℕ} 0 1 = cc in absurd (omega arith)
counted_some (Some x) {keys = keys} is ok = let same : x ≡ keys = cc in ap Some same

pub counted_none : (o : Option ℕ) {r : Result ℕ Refusal} {n : Refusal} → r ≡ ok_or o COUNT → r ≡ Err n → (o ≡ None) × (n ≡ COUNT)
counted_none None {n = n} is err = let same : n ≡ COUNT = cc in (refl, same)
counted_none (Some x) is err = let z : ◌≡◌ {A = ℕ} 0 1 = cc in absurd (omega arith)

-- ---- what the pass leaves, with the table wiped where it refuses

pub fills_leave : {f : Fst} {d c₀ c : List ℕ} (r : Result ⊤ Refusal) → Passed f d c₀ c r → is_err r ≡ false → Leaves f d c₀ c r
fills_leave (Ok tt) p e = p
fills_leave (Err n) p e = absurd (true≢false e)

pub refusal_leaves : {f : Fst} {d c₀ c c' : List ℕ} (r : Result ⊤ Refusal) → Passed f d c₀ c r → Wiped (length f.bytes) c c' → is_err r ≡ true → Leaves f d c₀ c' r
refusal_leaves (Ok tt) p w e = absurd (true≢false (sym e))
refusal_leaves (Err n) p w e = record { is = p.found.is; one = p.found.one; wiped = wiped_after p.kept w }
