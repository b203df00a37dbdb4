-- The layout of the marked nodes, one address more each time: what a turn of either pass knows.
--     laid_grows, moved_stays     more addresses make a layout no shorter, and move no lower node
--     Below f d s a               the table s has the new address of each address below a
--     nodes_more, addr_more       the bytes that the marked address a adds to the layout, and its new address
--     Laying, laying-..           the first pass
--     Writes, writes-..           the second pass
-- Assumes nothing.
use mathlib.Core.Path.{◌≡◌, refl, sym, ap, ap₂, ◌∙◌, subst}
use mathlib.Core.Bool.{Bool, true, false}
use mathlib.Core.Logic.{⊎_elim}
use mathlib.Core.List.{List, ◌∷◌, ◌++◌}
use Prim.Native.Nat.{ℕ, zero, suc, ◌+◌, ◌-◌, ◌≤◌, ◌<◌}
use native.Mathlib.Decide.{ℕ_discrete}
use native.Mathlib.Omega.{arith}
use borrow.Author.Tests.{ne_eqb, ltb-true, ltb-false}
use lib.Dec.{ltb}
use lib.ListN.{length, get_or, set, take, drop, length-append}
use Rattle.std.proofs.lemmas.List.{length-take, length-drop, get_or-take, get_or-drop}
use Rattle.format.specs.Limits.{max_len}
use Rattle.format.specs.Node.{Node, sound, SoundAt}
use Rattle.format.specs.Packed.{BuilderNode, TargetOk, RecordOk, packs_to_nothing, packed, node_addr}
use Rattle.format.specs.Laws.PackedLaws.{packed_nothing}
use Rattle.format.specs.Paths.{Fst, node_in}
use Rattle.format.specs.Laws.NodeFacts.{node_target_lt}
use Rattle.format.specs.Laws.NodeLaws.{node_at_cases}
use Rattle.buffers.specs.Put.{put, PutAt}
use Rattle.buffers.specs.PutLaws.{put_nil, put_next, length_put}
use Rattle.admission_node.specs.Entries.{Kept, FirstMarked}
use Rattle.admission_node.specs.KeptLaws.{at_set, kept_none, kept_set}
use Rattle.converting.specs.Converting.{new_addr, record_by, record_of, Laid, lay_out}
use Rattle.converting.specs.Laws.LayLaws.{lay_out_is, lay_out_grows, lay_out_stays, new_addr_here, packed_pos, packed_le, new_ok, record_ok_of, record_same}
use Rattle.converting.specs.Laws.ConvertedLaws.{new_addr_off}
use Rattle.node_compile.specs.Parts.{fits_of}
use Rattle.convert_size.specs.Sizes.{entry_in, SizableAt, SizedAt}
use Rattle.convert_node.specs.Packs.{PackableAt, PackedAt}
use Rattle.convert_marks.specs.Marks.{marked, Hops}
use Rattle.convert_marks.specs.MarkLaws.{marked_zero, marked_on, marked_off, marked_gap, member_marked}
use Rattle.convert_layout.specs.PartLaws.{placed, part_is, none_after}
use Rattle.convert_layout.specs.Layout.{laid_to, addr_of, MarkedSound, Zeros, Layable, Writable}

-- ---- one address more

laid_off : (f : Fst) (d : List ℕ) (a : ℕ) → get_or d a 0 ≡ 0 → laid_to f d (a + 1) ≡ laid_to f d a
laid_off f d a z = ap (lay_out f) (marked_off d a z)

laid_on : (f : Fst) (d : List ℕ) (a : ℕ) → ¬ (get_or d a 0 ≡ 0) → laid_to f d (a + 1) ≡ lay_out f (a ∷ marked d a)
laid_on f d a ne = ap (lay_out f) (marked_on d a ne)

-- addresses that are not marked add nothing
laid_gap : (f : Fst) (d : List ℕ) (a k : ℕ) → ((i : ℕ) → a ≤ i → i < a + k → get_or d i 0 ≡ 0) → laid_to f d (a + k) ≡ laid_to f d a
laid_gap f d a k zeros = ap (lay_out f) (marked_gap d a k zeros)

grows_one : (f : Fst) (d : List ℕ) (a : ℕ) → length (laid_to f d a).nodes ≤ length (laid_to f d (a + 1)).nodes
grows_one f d a =
    elim (ℕ_discrete (get_or d a 0) 0) [
      | yes z ↦ rw (laid_off f d a z) (omega arith)
      | no ne ↦ rw (laid_on f d a ne) (lay_out_grows f a (marked d a))
    ]

stays_one : (f : Fst) (d : List ℕ) (a j : ℕ) → j < a → new_addr (laid_to f d (a + 1)).moved j ≡ new_addr (laid_to f d a).moved j
stays_one f d a j l =
    elim (ℕ_discrete (get_or d a 0) 0) [
      | yes z ↦ rw (laid_off f d a z) refl
      | no ne ↦ rw (laid_on f d a ne) (lay_out_stays f a (marked d a) j (λ e. omega arith))
    ]

grows_by : (f : Fst) (d : List ℕ) (a k : ℕ) → length (laid_to f d a).nodes ≤ length (laid_to f d (a + k)).nodes
grows_by f d a zero = let e : a + 0 ≡ a = omega arith in rw e (omega arith)
grows_by f d a (suc k) = let e : a + suc k ≡ a + k + 1 = omega arith in rw e (omega (arith, grows_by f d a k, grows_one f d (a + k)))

stays_by : (f : Fst) (d : List ℕ) (a k j : ℕ) → j < a → new_addr (laid_to f d (a + k)).moved j ≡ new_addr (laid_to f d a).moved j
stays_by f d a zero j l = let e : a + 0 ≡ a = omega arith in rw e refl
stays_by f d a (suc k) j l = let e : a + suc k ≡ a + k + 1 = omega arith in rw e (stays_one f d (a + k) j (omega arith) ∙ stays_by f d a k j l)

pub laid_grows : (f : Fst) (d : List ℕ) (a b : ℕ) → a ≤ b → length (laid_to f d a).nodes ≤ length (laid_to f d b).nodes
laid_grows f d a b l = let e : a + (b - a) ≡ b = omega arith in subst (λ (n : ℕ). length (laid_to f d a).nodes ≤ length (laid_to f d n).nodes) e (grows_by f d a (b - a))

pub moved_stays : (f : Fst) (d : List ℕ) (a b j : ℕ) → a ≤ b → j < a → new_addr (laid_to f d b).moved j ≡ new_addr (laid_to f d a).moved j
moved_stays f d a b j l m =
    let e : a + (b - a) ≡ b = omega arith in
    subst (λ (n : ℕ). new_addr (laid_to f d n).moved j ≡ new_addr (laid_to f d a).moved j) e (stays_by f d a (b - a) j m)

-- ---- what one address adds

pub record Below (f : Fst) (d s : List ℕ) (a : ℕ) : Type 0 where
  pub entry : (j : ℕ) → j < a → get_or s j 0 ≡ new_addr (laid_to f d a).moved j

-- the address of a packed node, by its length
addr_by_len : (first : ℕ) (b : BuilderNode) → node_addr first b ≡ addr_of first (length (packed first b))
addr_by_len first b = go (packs_to_nothing b) refl
  where
    go : (t : Bool) → packs_to_nothing b ≡ t → node_addr first b ≡ addr_of first (length (packed first b))
    go true e = rw (e, packed_nothing first b e)
    go false e = let pos = packed_pos first b e in rw (e, ne_eqb (length (packed first b)) 0 (λ z. omega arith))

module _ {f : Fst} {d s : List ℕ} {a next : ℕ} (below : Below f d s a) (next_is : next ≡ 16 + length (laid_to f d a).nodes) where
  record_is : (m : Node) → node_in f a ≡ sound m → record_by (entry_in s) m ≡ record_of (laid_to f d a).moved m
  record_is m e = record_same (entry_in s) (new_addr (laid_to f d a).moved) m (λ t mem. below.entry t.addr (node_target_lt f a m e t mem))

  -- the record is as the packer asks
  pub piece_ok : (m : Node) → node_in f a ≡ sound m → ((i : ℕ) → get_or f.bytes i 0 < 256) → next ≤ max_len → RecordOk next (record_by (entry_in s) m)
  piece_ok m e bytes high =
      record_ok_of f a m e bytes (entry_in s) next (omega arith) high (λ t mem.
      subst (TargetOk next) (sym (below.entry t.addr (node_target_lt f a m e t mem)))
      (subst (λ (n : ℕ). TargetOk n (new_addr (laid_to f d a).moved t.addr)) (sym next_is) (new_ok f (marked d a) t.addr)))

  packed_is : (m : Node) → node_in f a ≡ sound m
      → packed next (record_by (entry_in s) m) ≡ packed (16 + length (laid_to f d a).nodes) (record_of (laid_to f d a).moved m)
  packed_is m e = ap₂ packed next_is (record_is m e)

  nodes_more : (m : Node) → node_in f a ≡ sound m → ¬ (get_or d a 0 ≡ 0) → (laid_to f d (a + 1)).nodes ≡ (laid_to f d a).nodes ++ packed next (record_by (entry_in s) m)
  nodes_more m e ne =
      ap (λ (r : Laid). r.nodes) (laid_on f d a ne ∙ lay_out_is f a (marked d a) m e) ∙ ap (λ (p : List ℕ). (laid_to f d a).nodes ++ p) (sym (packed_is m e))

  -- the new file has room for the node, if it has room for all
  pub piece_len : (m : Node) → node_in f a ≡ sound m → ¬ (get_or d a 0 ≡ 0) → (n : ℕ) → a < n
      → next + length (packed next (record_by (entry_in s) m)) ≤ 16 + length (laid_to f d n).nodes
  piece_len m e ne n l =
      let grown = laid_grows f d (a + 1) n (omega arith) in
      let len = ap (λ (x : List ℕ). length x) (nodes_more m e ne) in
      omega (arith, grown, len, length-append (laid_to f d a).nodes (packed next (record_by (entry_in s) m)))

  -- where the node goes
  addr_more : (m : Node) → node_in f a ≡ sound m → ¬ (get_or d a 0 ≡ 0) → {r : ℕ} → r ≡ length (packed next (record_by (entry_in s) m))
      → new_addr (laid_to f d (a + 1)).moved a ≡ addr_of next r
  addr_more m e ne count =
      let b : BuilderNode = record_of (laid_to f d a).moved m in
      ap (λ (x : Laid). new_addr x.moved a) (laid_on f d a ne ∙ lay_out_is f a (marked d a) m e)
      ∙ new_addr_here (record { from = a; to = node_addr (16 + length (laid_to f d a).nodes) b }) (laid_to f d a).moved a refl
      ∙ addr_by_len (16 + length (laid_to f d a).nodes) b
      ∙ ap₂ addr_of (sym next_is) (ap (λ (x : List ℕ). length x) (sym (packed_is m e)) ∙ sym count)

-- an address that is not marked went nowhere
addr_none : (f : Fst) (d : List ℕ) (n j : ℕ) → get_or d j 0 ≡ 0 → new_addr (laid_to f d n).moved j ≡ 0
addr_none f d n j z = new_addr_off f (marked d n) j (λ mem. (member_marked d n j mem).1 z)

-- a marked node is sound
sound_here : {f : Fst} {d : List ℕ} {a : ℕ} → MarkedSound f d → a < length f.bytes → ¬ (get_or d a 0 ≡ 0) → SoundAt f.bytes f.version f.root a
sound_here {f} {d} {a} sounds inside ne =
    let n = sounds.each a inside ne in
    let low = sounds.low a inside ne in
    ⊎_elim (λ z. absurd (omega (arith, z.0))) (λ h. h.1) (node_at_cases f.bytes f.version f.root a n.0 n.1)

-- a mark reaches no further than the next marked address
laid_hop : (f : Fst) (d : List ℕ) (a : ℕ) → Hops (length f.bytes) d → a < length f.bytes → ¬ (get_or d a 0 ≡ 0) → laid_to f d (a + get_or d a 0) ≡ laid_to f d (a + 1)
laid_hop f d a hops inside ne =
    let some : 1 ≤ get_or d a 0 = omega (arith, ne) in
    let e : a + get_or d a 0 ≡ a + 1 + (get_or d a 0 - 1) = omega arith in
    ap (laid_to f d) e ∙ laid_gap f d (a + 1) (get_or d a 0 - 1) (λ i l m. hops.gap a inside ne i (omega arith) (omega arith))

-- ---- the first pass

pub record Laying (f : Fst) (d s₀ s : List ℕ) (next a : ℕ) : Type 0 where
  pub within : a ≤ length f.bytes
  pub next_is : next ≡ 16 + length (laid_to f d a).nodes
  pub below : Below f d s a
  -- the entries from a on are not stored yet
  pub above : (j : ℕ) → a ≤ j → j < length f.bytes → get_or s j 0 ≡ 0
  pub kept : Kept (length f.bytes) s₀ s

pub laying_none : (f : Fst) (d s : List ℕ) → Zeros (length f.bytes) s → Laying f d s s 16 0
unfolding lay_out
laying_none f d s zeros =
    record {
      within = omega arith;
      next_is = rw (marked_zero d) refl;
      below = record { entry = λ j l. absurd (omega arith) };
      above = λ j _ l. zeros.each j l;
      kept = kept_none _ s;
    }

module _ {f : Fst} {d s₀ s : List ℕ} {next a limit : ℕ} (h : Laying f d s₀ s next a) (ok : Layable f d s₀ limit) where
  pub laying_over : limit < next + 16 → limit < 32 + length (laid_to f d (length f.bytes)).nodes
  laying_over l = omega (arith, h.next_is, laid_grows f d a (length f.bytes) h.within)

  module _ (inside : a < length f.bytes) where
    pub laying_room : a < length s
    laying_room = omega (arith, h.kept.long, ok.room_sums)

    -- no node there
    pub laying_skip : get_or d a 0 ≡ 0 → Laying f d s₀ s next (a + 1)
    laying_skip z =
        record {
          within = omega arith;
          next_is = h.next_is ∙ ap (λ (r : Laid). 16 + length r.nodes) (sym (laid_off f d a z));
          below = record {
            entry = λ j l.
                elim (ℕ_discrete j a) [
                  | yes e ↦ h.above j (omega (arith, e)) (omega (arith, e)) ∙ sym (addr_none f d (a + 1) j (ap (λ (i : ℕ). get_or d i 0) e ∙ z))
                  | no ne ↦ h.below.entry j (omega (arith, ne)) ∙ sym (moved_stays f d a (a + 1) j (omega arith) (omega (arith, ne)))
                ];
          };
          above = λ j l m. h.above j (omega arith) m;
          kept = h.kept;
        }

    module _ (ne : ¬ (get_or d a 0 ≡ 0)) (fits : next + 16 ≤ limit) where
      pub laying_sound : SoundAt f.bytes f.version f.root a
      laying_sound = sound_here ok.sounds inside ne

      pub laying_sizable : ((i : ℕ) → get_or f.bytes i 0 < 256) → SizableAt f a next s
      laying_sizable bytes =
          record {
            each = λ m e.
                record {
                  in_moved = λ t mem. omega (arith, node_target_lt f a m e t mem, laying_room);
                  fits = fits_of (piece_ok h.below h.next_is m e bytes (omega (arith, ok.limit_le)));
                };
          }

      -- a node more, and on to the next one
      pub laying_step : {r x : ℕ} → SizedAt f a next s r → x ≡ addr_of next r → Laying f d s₀ (set s a x) (next + r) (a + get_or d a 0)
      laying_step {r = r} {x = x} p is =
          let n = ok.sounds.each a inside ne in
          let m : Node = n.0 in
          let count = p.each m n.1 in
          let more = nodes_more h.below h.next_is m n.1 ne in
          let here = addr_more h.below h.next_is m n.1 ne count in
          let k : ℕ = get_or d a 0 in
          let end = ok.hops.end a inside ne in
          let same = laid_hop f d a ok.hops inside ne in
          record {
            within = end;
            next_is =
                omega (arith, h.next_is, ap (λ (l : Laid). length l.nodes) same, ap (λ (l : List ℕ). length l) more, length-append (laid_to f d a).nodes (packed next (record_by (entry_in s) m)), count);
            below = record {
              entry = at_set (λ j y. j < a + get_or d a 0 → y ≡ new_addr (laid_to f d (a + get_or d a 0)).moved j) s a x laying_room
                  (λ _. is ∙ sym here ∙ ap (λ (l : Laid). new_addr l.moved a) (sym same))
                  (λ j other l. entry_hop j other l);
            };
            above = at_set (λ j y. a + get_or d a 0 ≤ j → j < length f.bytes → y ≡ 0) s a x laying_room (λ l _. absurd (ne (omega arith)))
                (λ j other l m. h.above j (omega arith) m);
            kept = kept_set a x inside h.kept;
          }
        where
          -- an entry below a stands, and between a and the next node there is none
          entry_hop : (j : ℕ) → ¬ (j ≡ a) → j < a + get_or d a 0 → get_or s j 0 ≡ new_addr (laid_to f d (a + get_or d a 0)).moved j
          entry_hop j other l = go (ltb j a) refl
            where
              go : (t : Bool) → ltb j a ≡ t → get_or s j 0 ≡ new_addr (laid_to f d (a + get_or d a 0)).moved j
              go true e =
                  let low = ltb-true j a e in
                  h.below.entry j low ∙ sym (moved_stays f d a (a + get_or d a 0) j (omega arith) low)
              go false e =
                  let high = ltb-false j a e in
                  let up : a < j = omega (arith, other, high) in
                  h.above j (omega arith) (omega (arith, ok.hops.end a inside ne)) ∙ sym (addr_none f d (a + get_or d a 0) j (ok.hops.gap a inside ne j up l))

      -- it is no longer than the largest node
      pub laying_len : ((i : ℕ) → get_or f.bytes i 0 < 256) → {r : ℕ} → SizedAt f a next s r → r ≤ 4619
      laying_len bytes {r} p =
          let n = ok.sounds.each a inside ne in
          let right = piece_ok h.below h.next_is n.0 n.1 bytes (omega (arith, ok.limit_le)) in
          omega (arith, p.each n.0 n.1, packed_le next (record_by (entry_in s) n.0) right.few right.outputs_len right.targets_len)

-- what holds at a place, and past each place that is not marked, holds at the next marked address
module _ (d : List ℕ) (n : ℕ) (P : ℕ → Type 0) (skip : (a : ℕ) → P a → a < n → get_or d a 0 ≡ 0 → P (a + 1)) where
  over_gap : (a k : ℕ) → P a → a + k ≤ n → ((j : ℕ) → a ≤ j → j < a + k → get_or d j 0 ≡ 0) → P (a + k)
  over_gap a zero h room none = let e : a + 0 ≡ a = omega arith in rw e h
  over_gap a (suc k) h room none =
      let e : a + suc k ≡ a + k + 1 = omega arith in
      let rest = over_gap a k h (omega arith) (λ j p l. none j p (omega arith)) in
      rw e (skip (a + k) rest (omega arith) (none (a + k) (omega arith) (omega arith)))

  to_marked : {a b : ℕ} → P a → FirstMarked d a n b → P b
  to_marked {a} {b} h to =
      let e : a + (b - a) ≡ b = omega (arith, to.low) in
      subst P e (over_gap a (b - a) h (omega (arith, to.high)) (λ j p l. to.none j p (omega arith)))

pub laying_to : {f : Fst} {d s₀ s : List ℕ} {next limit : ℕ} → Layable f d s₀ limit → {a b : ℕ} → Laying f d s₀ s next a → FirstMarked d a (length f.bytes) b → Laying f d s₀ s next b
laying_to {f} {d} {s₀} {s} {next} ok h to = to_marked d (length f.bytes) (λ (n : ℕ). Laying f d s₀ s next n) (λ a rest inside none. laying_skip rest ok inside none) h to

-- ---- the second pass

pub record Writes (f : Fst) (d out₀ out : List ℕ) (next a : ℕ) : Type 0 where
  pub within : a ≤ length f.bytes
  pub long : length out ≡ length out₀
  pub is : PutAt out₀ 16 (laid_to f d a).nodes out next

pub writes_none : (f : Fst) (d out : List ℕ) → Writes f d out out 16 0
unfolding lay_out
writes_none f d out =
    record {
      within = omega arith;
      long = refl;
      is = record { is = rw (marked_zero d) (sym (put_nil out 16)); next = rw (marked_zero d) refl };
    }

module _ {f : Fst} {d s out₀ out : List ℕ} {next a : ℕ} (h : Writes f d out₀ out next a) (ok : Writable f d s out₀) where
  -- the new addresses below a are those of the whole layout
  writes_below : Below f d s a
  writes_below =
      record {
        entry = λ j l.
            ok.entered.entry j (omega (arith, h.within)) ∙ moved_stays f d a (length f.bytes) j h.within l;
      }

  pub writes_next : next + 16 ≤ length out
  writes_next = omega (arith, h.is.next, h.long, ok.room_out, laid_grows f d a (length f.bytes) h.within)

  module _ (inside : a < length f.bytes) where
    -- no node there
    pub writes_skip : get_or d a 0 ≡ 0 → Writes f d out₀ out next (a + 1)
    writes_skip z =
        record { within = omega arith; long = h.long; is = subst (λ (r : Laid). PutAt out₀ 16 r.nodes out next) (sym (laid_off f d a z)) h.is }

    module _ (ne : ¬ (get_or d a 0 ≡ 0)) where
      pub writes_sound : SoundAt f.bytes f.version f.root a
      writes_sound = sound_here ok.sounds inside ne

      pub writes_packable : ((i : ℕ) → get_or f.bytes i 0 < 256) → {room : ℕ} → length out ≤ next + room → PackableAt f a next s room
      writes_packable bytes hr =
          record {
            each = λ m e.
                let grown = laid_grows f d a (length f.bytes) h.within in
                let len = piece_len writes_below h.is.next m e ne (length f.bytes) inside in
                record {
                  sizable = record {
                    in_moved = λ t mem. omega (arith, node_target_lt f a m e t mem, ok.room_sums);
                    fits = fits_of (piece_ok writes_below h.is.next m e bytes (omega (arith, h.is.next, ok.fits, grown)));
                  };
                  fits = omega (arith, len, ok.room_out, h.long, hr);
                };
          }

      -- a node more, and on to the next one: the part of the buffer from next on comes back with the node at its front
      pub writes_step : {part part' out' : List ℕ} {r : ℕ} → part ≡ take (length out - next) (drop next out)
          → out' ≡ take next out ++ (part' ++ drop (length out - next) (drop next out)) → PackedAt f a next s part part' r
          → Writes f d out₀ out' (next + r) (a + get_or d a 0)
      writes_step {part} {part'} {out'} {r} was back p =
          let n = ok.sounds.each a inside ne in
          let m : Node = n.0 in
          let front = p.each m n.1 in
          let more = nodes_more writes_below h.is.next m n.1 ne in
          let count = front.count in
          let grown = laid_grows f d (a + 1) (length f.bytes) (omega arith) in
          let len = ap (λ (l : List ℕ). length l) more ∙ length-append (laid_to f d a).nodes (packed next (record_by (entry_in s) m)) in
          let put_is : out' ≡ put out next (packed next (record_by (entry_in s) m)) =
          back ∙ ap (λ (l : List ℕ). take next out ++ l) (none_after next out part')
          ∙ placed next out (packed next (record_by (entry_in s) m)) part part' (was ∙ part_is next out) front.buffer in
          let whole : out' ≡ put out₀ 16 ((laid_to f d a).nodes ++ packed next (record_by (entry_in s) m)) =
          put_is
          ∙ put_next out₀ 16 (laid_to f d a).nodes (packed next (record_by (entry_in s) m)) h.is.is h.is.next (omega (arith, ok.room_out, grown, len)) in
          let same = laid_hop f d a ok.hops inside ne in
          record {
            within = ok.hops.end a inside ne;
            long = ap (λ (l : List ℕ). length l) put_is
                ∙ length_put out next (packed next (record_by (entry_in s) m)) (omega (arith, h.is.next, h.long, ok.room_out, grown, len)) ∙ h.long;
            is = subst (λ (r' : Laid). PutAt out₀ 16 r'.nodes out' (next + r)) (sym same)
                (record { is = whole ∙ ap (put out₀ 16) (sym more); next = omega (arith, h.is.next, len, count) });
          }

      -- no place passes the limit
      pub writes_small : {part part' : List ℕ} {r : ℕ} → PackedAt f a next s part part' r → next + r ≤ max_len
      writes_small p =
          let n = ok.sounds.each a inside ne in
          let more = nodes_more writes_below h.is.next n.0 n.1 ne in
          let len = ap (λ (l : List ℕ). length l) more ∙ length-append (laid_to f d a).nodes (packed next (record_by (entry_in s) n.0)) in
          omega (arith, h.is.next, (p.each n.0 n.1).count, len, ok.fits, laid_grows f d (a + 1) (length f.bytes) (omega arith))

pub writes_to : {f : Fst} {d s out₀ out : List ℕ} {next : ℕ} → Writable f d s out₀ → {a b : ℕ} → Writes f d out₀ out next a → FirstMarked d a (length f.bytes) b → Writes f d out₀ out next b
writes_to {f} {d} {s} {out₀} {out} {next} ok h to = to_marked d (length f.bytes) (λ (n : ℕ). Writes f d out₀ out next n) (λ a rest inside none. writes_skip rest ok inside none) h to
