-- Laws of the layout of `Converting`, node by node.
--     lay_node_is           a node laid out, vanishing or not, in one form
--     lay_out_grows, lay_out_stays    one node more makes a layout no shorter, and moves no other node
--     packed_pos, packed_le a packed node has from 1 to 4,619 bytes, unless it packs to nothing
--     new_ok                a new address is 0, or lies from 16 to the end of the layout
--     ranges_of, record_ok_of      an old node's record meets what the packer asks
--     record_mirrored       what a record says is the old node with its targets replaced
-- Assumes nothing.
use Rattle.std.specs.Prelude.{◌≡◌, refl, Bool, true, false, cond, ◌&&◌, ◌⊎◌, ℕ, zero, suc, ◌+◌, ◌*◌, ◌≤◌, ◌<◌, eqb, ltb, length, get_or}
use Rattle.std.proofs.Math.Path.{sym}
use Rattle.std.proofs.Common.{ap, ap₂, ◌∙◌, subst, inl, inr, le_trans, mul-le-mul_left, mul-le-mul_right, arith, eq-eqb, ne_eqb, length-append}
use mathlib.Core.List.{List, [], ◌∷◌, ◌++◌, append-nil, map, Memᴰ}
use Rattle.std.proofs.Math.Decide.{ℕ_discrete}
use Rattle.std.proofs.Math.ListN.{length-map}
use Rattle.format.specs.declared.Transition.{Transition}
use Rattle.format.specs.Limits.{max_len, index_threshold}
use Rattle.format.specs.Bytes.{largest}
use Rattle.format.specs.CommonInputs.{common_idx}
use Rattle.format.specs.Node.{Node, Judgement, sound, unsound, end_len, transitions_of, transition_at, Ascending}
use Rattle.format.specs.Laws.NodeFacts.{node_ascending, node_not_final, node_count, node_inp_lt, node_out_lt, node_final_lt}
use Rattle.format.specs.Laws.TransitionLaws.{at_member}
use Rattle.format.specs.Packed.{BuilderNode, Ranges, delta_of, input_bytes, index_bytes, output_size, delta_size, head_of, packed_any, TargetOk, TargetsOk, RecordOk, packed, packs_to_nothing, has_one, leads_next, node_addr, record_node}
use Rattle.format.specs.Laws.PackedLaws.{packed_nothing, packed_next_is, packed_one_is, packed_any_is, length_packed_next, length_packed_one, length_packed_any, length_input_bytes, length_index_bytes, index_len_is, length_head_of, length_deltas, output_size_le, delta_size_le}
use Rattle.format.specs.Laws.BytesLaws.{pack_size_high}
use Rattle.format.specs.Paths.{Fst, node_in}
use Rattle.converting.specs.Converting.{vanishes, Moved, new_addr, record_by, record_of, Laid, lay_node, lay_out}
use Rattle.converting.specs.Mirror.{renamed, mirrored}

-- ---- a node laid out

pub vanishes_nothing : (ms : List Moved) (m : Node) → packs_to_nothing (record_of ms m) ≡ vanishes (sound m)
vanishes_nothing ms m = rw (length-map m.transitions (λ (t : Transition). t.inp))

abbrev pub laid_next : Laid → ℕ → Node → Laid
laid_next r a m = record {
  nodes = r.nodes ++ packed (16 + length r.nodes) (record_of r.moved m);
  moved = record { from = a; to = node_addr (16 + length r.nodes) (record_of r.moved m) } ∷ r.moved;
}

pub lay_node_is : (r : Laid) (a : ℕ) (m : Node) → lay_node r a (sound m) ≡ laid_next r a m
lay_node_is r a m = go (vanishes (sound m)) refl
  where
    b : BuilderNode
    b = record_of r.moved m

    first : ℕ
    first = 16 + length r.nodes

    both : (xs ys : List ℕ) (x y : ℕ) → xs ≡ ys → x ≡ y
        → ◌≡◌ {A = Laid} (record { nodes = xs; moved = record { from = a; to = x } ∷ r.moved }) (record { nodes = ys; moved = record { from = a; to = y } ∷ r.moved })
    both xs ys x y p q = rw (p, q)

    go : (t : Bool) → vanishes (sound m) ≡ t → lay_node r a (sound m) ≡ laid_next r a m
    go true e =
        let nothing : packs_to_nothing (record_of r.moved m) ≡ true = vanishes_nothing r.moved m ∙ e in
        rw (e, nothing, packed_nothing (16 + length r.nodes) (record_of r.moved m) nothing, append-nil r.nodes)
    go false e =
        let some : packs_to_nothing (record_of r.moved m) ≡ false = vanishes_nothing r.moved m ∙ e in
        rw (e, some)
        (both _ _ _ _ refl (omega (arith, length-append r.nodes (packed (16 + length r.nodes) (record_of r.moved m)))))

pub new_addr_here : (x : Moved) (ms : List Moved) (a : ℕ) → x.from ≡ a → new_addr (x ∷ ms) a ≡ x.to
unfolding new_addr
new_addr_here x ms a e = rw (eq-eqb x.from a e)

pub new_addr_other : (x : Moved) (ms : List Moved) (a : ℕ) → ¬ (x.from ≡ a) → new_addr (x ∷ ms) a ≡ new_addr ms a
unfolding new_addr
new_addr_other x ms a ne = rw (ne_eqb x.from a ne)

pub lay_out_is : (f : Fst) (a : ℕ) (l : List ℕ) (m : Node) → node_in f a ≡ sound m → lay_out f (a ∷ l) ≡ laid_next (lay_out f l) a m
unfolding lay_out
lay_out_is f a l m e = ap (lay_node (lay_out f l) a) e ∙ lay_node_is (lay_out f l) a m

-- one node more makes a layout no shorter
pub lay_out_grows : (f : Fst) (a : ℕ) (l : List ℕ) → length (lay_out f l).nodes ≤ length (lay_out f (a ∷ l)).nodes
unfolding lay_out
lay_out_grows f a l = go (node_in f a)
  where
    go : (j : Judgement) → length (lay_out f l).nodes ≤ length (lay_node (lay_out f l) a j).nodes
    go unsound = omega arith
    go (sound m) = rw (lay_node_is (lay_out f l) a m) (omega (arith, length-append (lay_out f l).nodes (packed (16 + length (lay_out f l).nodes) (record_of (lay_out f l).moved m))))

-- and moves no other node
pub lay_out_stays : (f : Fst) (a : ℕ) (l : List ℕ) (j : ℕ) → ¬ (a ≡ j) → new_addr (lay_out f (a ∷ l)).moved j ≡ new_addr (lay_out f l).moved j
unfolding lay_out
lay_out_stays f a l j ne = go (node_in f a)
  where
    go : (q : Judgement) → new_addr (lay_node (lay_out f l) a q).moved j ≡ new_addr (lay_out f l).moved j
    go unsound = refl
    go (sound m) = ap (λ (r : Laid). new_addr r.moved j) (lay_node_is (lay_out f l) a m) ∙ new_addr_other _ (lay_out f l).moved j ne

pub packed_pos : (first : ℕ) (b : BuilderNode) → packs_to_nothing b ≡ false → 1 ≤ length (packed first b)
packed_pos first b some = go (has_one b) refl (leads_next first b) refl
  where
    go : (one : Bool) → has_one b ≡ one → (leads : Bool) → leads_next first b ≡ leads → 1 ≤ length (packed first b)
    go true one true leads = rw (packed_next_is first b one leads, length_packed_next) (omega arith)
    go true one false leads = rw (packed_one_is first b one leads, length_packed_one) (omega arith)
    go false one leads is_leads = rw (packed_any_is first b some one, length_packed_any) (omega arith)

cond_le : (t : Bool) (a b m : ℕ) → a ≤ m → b ≤ m → cond t a b ≤ m
cond_le true a b m p q = p
cond_le false a b m p q = q

-- no node is larger than one with 256 transitions, outputs and deltas of 8 bytes, and an index
pub packed_le : (first : ℕ) (b : BuilderNode) → length b.inputs ≤ 256 → length b.outputs ≡ length b.inputs → length b.targets ≡ length b.inputs
    → length (packed first b) ≤ 4619
packed_le first b few outputs targets = go (packs_to_nothing b) refl (has_one b) refl (leads_next first b) refl
  where
    input_le : (inp : ℕ) → length (input_bytes inp) ≤ 1
    input_le inp = rw length_input_bytes (cond_le (eqb (common_idx inp) 0) 1 0 1 (omega arith) (omega arith))

    any_le : (osize tsize : ℕ) → osize ≤ 8 → tsize ≤ 8 → length (packed_any b (map (delta_of first) b.targets) osize tsize) ≤ 4619
    any_le osize tsize o8 t8 =
        let outs : length b.outputs * osize ≤ 256 * 8 = le_trans (mul-le-mul_right osize (omega arith)) (mul-le-mul_left 256 o8) in
        let dels : length (map (delta_of first) b.targets) * tsize ≤ 256 * 8 =
        le_trans (mul-le-mul_right tsize (omega (arith, length_deltas first b.targets))) (mul-le-mul_left 256 t8) in
        let end : end_len b.final osize ≤ 8 = cond_le b.final osize 0 8 o8 (omega arith) in
        let index : length (index_bytes b.inputs) ≤ 256 =
        rw (length_index_bytes 3 b.inputs (omega arith), index_len_is 3 (length b.inputs) (omega arith))
        (cond_le (ltb index_threshold (length b.inputs)) 256 0 256 (omega arith) (omega arith)) in
        let head : length (head_of b.final (length b.inputs)) ≤ 2 =
        rw length_head_of (cond_le (ltb 0 (length b.inputs) && ltb (length b.inputs) 64) 1 2 2 (omega arith) (omega arith)) in
        omega (arith, length_packed_any b (map (delta_of first) b.targets) osize tsize)

    go : (none : Bool) → packs_to_nothing b ≡ none → (one : Bool) → has_one b ≡ one → (leads : Bool) → leads_next first b ≡ leads → length (packed first b) ≤ 4619
    go true none one is_one leads is_leads = rw (packed_nothing first b none) (omega arith)
    go false none true one true leads =
        rw (packed_next_is first b one leads, length_packed_next) (omega (arith, input_le (get_or b.inputs 0 0)))
    go false none true one false leads =
        rw (packed_one_is first b one leads, length_packed_one)
        (omega (arith, input_le (get_or b.inputs 0 0), output_size_le (get_or b.outputs 0 0), pack_size_high (delta_of first (get_or b.targets 0 0))))
    go false none false one leads is_leads =
        rw (packed_any_is first b none one)
        (any_le (output_size (largest (b.final_output ∷ b.outputs))) (delta_size (map (delta_of first) b.targets)) (output_size_le _) (delta_size_le _))

-- ---- new addresses

pub target_ok_up : (first more t : ℕ) → first ≤ more → TargetOk first t → TargetOk more t
unfolding TargetOk
target_ok_up first more t h (inl z) = inl z
target_ok_up first more t h (inr p) = inr (p.0, omega (arith, p.1))

pub node_addr_ok : (first : ℕ) (b : BuilderNode) → 16 ≤ first → TargetOk (first + length (packed first b)) (node_addr first b)
unfolding TargetOk
node_addr_ok first b low = go (packs_to_nothing b) refl
  where
    go : (t : Bool) → packs_to_nothing b ≡ t → (node_addr first b ≡ 0) ⊎ ((16 ≤ node_addr first b) × (node_addr first b < first + length (packed first b)))
    go true e = inl (rw e)
    go false e = let p = packed_pos first b e in inr (rw e (omega arith), rw e (omega arith))

abbrev pub AllOk : Laid → Type 0
AllOk r = (x : ℕ) → TargetOk (16 + length r.nodes) (new_addr r.moved x)

lay_node_ok : (r : Laid) (a : ℕ) (j : Judgement) → AllOk r → AllOk (lay_node r a j)
lay_node_ok r a unsound ok = ok
lay_node_ok r a (sound m) ok =
    subst AllOk (sym (lay_node_is r a m)) (λ x. go x)
  where
    go : AllOk (laid_next r a m)
    go x =
        let size = length-append r.nodes (packed (16 + length r.nodes) (record_of r.moved m)) in
        elim (ℕ_discrete a x) [
          | yes e ↦
              rw (new_addr_here (record { from = a; to = node_addr (16 + length r.nodes) (record_of r.moved m) }) r.moved x e)
              (target_ok_up _ _ _ (omega (arith, size)) (node_addr_ok (16 + length r.nodes) (record_of r.moved m) (omega arith)))
          | no e ↦
              rw (new_addr_other (record { from = a; to = node_addr (16 + length r.nodes) (record_of r.moved m) }) r.moved x e)
              (target_ok_up _ _ _ (omega (arith, size)) (ok x))
        ]

pub new_ok : (f : Fst) (l : List ℕ) → AllOk (lay_out f l)
unfolding lay_out new_addr TargetOk
new_ok f [] x = inl refl
new_ok f (a ∷ l) x = lay_node_ok (lay_out f l) a (node_in f a) (new_ok f l) x

-- ---- an old node's record

transitions_renamed : (ren : ℕ → ℕ) (ts : List Transition)
    → transitions_of (map (λ (t : Transition). t.inp) ts) (map (λ (t : Transition). t.out) ts) (map (λ (t : Transition). ren t.addr) ts) ≡ map (renamed ren) ts
unfolding transitions_of
transitions_renamed ren [] = refl
transitions_renamed ren (t ∷ ts) = ap (λ (us : List Transition). renamed ren t ∷ us) (transitions_renamed ren ts)

pub record_mirrored : (ms : List Moved) (first : ℕ) (m : Node)
    → record_node first (record_of ms m) ≡ mirrored (new_addr ms) (cond (packs_to_nothing (record_of ms m)) 0 first) m
record_mirrored ms first m = rw (transitions_renamed (new_addr ms) m.transitions)

map_same : (ren ren' : ℕ → ℕ) (ts : List Transition) → ((t : Transition) → Memᴰ t ts → ren t.addr ≡ ren' t.addr) → map (renamed ren) ts ≡ map (renamed ren') ts
map_same ren ren' [] h = refl
map_same ren ren' (t ∷ ts) h =
    ap₂ (λ (x : ℕ) (us : List Transition). record { inp = t.inp; out = t.out; addr = x } ∷ us) (h t (Memᴰ.head refl))
    (map_same ren ren' ts (λ u mem. h u (Memᴰ.tail mem)))

records_same : (ren ren' : ℕ → ℕ) (ts : List Transition) → ((t : Transition) → Memᴰ t ts → ren t.addr ≡ ren' t.addr)
    → map (λ (t : Transition). ren t.addr) ts ≡ map (λ (t : Transition). ren' t.addr) ts
records_same ren ren' [] h = refl
records_same ren ren' (t ∷ ts) h = ap₂ ◌∷◌ (h t (Memᴰ.head refl)) (records_same ren ren' ts (λ u mem. h u (Memᴰ.tail mem)))

pub record_same : (ren ren' : ℕ → ℕ) (m : Node) → ((t : Transition) → Memᴰ t m.transitions → ren t.addr ≡ ren' t.addr) → record_by ren m ≡ record_by ren' m
record_same ren ren' m h = rw (records_same ren ren' m.transitions h)

pub mirrored_same : (ren ren' : ℕ → ℕ) (first : ℕ) (m : Node) → ((t : Transition) → Memᴰ t m.transitions → ren t.addr ≡ ren' t.addr)
    → mirrored ren first m ≡ mirrored ren' first m
mirrored_same ren ren' first m h = rw (map_same ren ren' m.transitions h)

pub get_d_map_lt : (h : Transition → ℕ) (ts : List Transition) (i : ℕ) → i < length (map h ts) → get_or (map h ts) i 0 ≡ h (transition_at ts i)
get_d_map_lt h [] i l = absurd (omega arith)
get_d_map_lt h (t ∷ ts) zero l = refl
get_d_map_lt h (t ∷ ts) (suc i) l = get_d_map_lt h ts i (omega arith)

module _ (f : Fst) (a : ℕ) (m : Node) (e : node_in f a ≡ sound m) (bytes : (i : ℕ) → get_or f.bytes i 0 < 256) (ren : ℕ → ℕ) where
  at_lt : (h : Transition → ℕ) (i : ℕ) → i < length (map h m.transitions) → i < length m.transitions
  at_lt h i l = omega (arith, length-map m.transitions h)

  pub ranges_of : Ranges (record_by ren m)
  ranges_of = record {
    input_lt = λ i l.
        rw (get_d_map_lt (λ (t : Transition). t.inp) m.transitions i l)
        (node_inp_lt f a m e bytes (transition_at m.transitions i) (at_member m.transitions i (at_lt (λ (t : Transition). t.inp) i l)));
    output_lt = λ i l.
        rw (get_d_map_lt (λ (t : Transition). t.out) m.transitions i l)
        (node_out_lt f a m e bytes (transition_at m.transitions i) (at_member m.transitions i (at_lt (λ (t : Transition). t.out) i l)));
    final_lt = node_final_lt f a m e bytes;
  }

  pub record_ok_of : (first : ℕ) → 16 ≤ first → first ≤ max_len → ((t : Transition) → Memᴰ t m.transitions → TargetOk first (ren t.addr))
      → RecordOk first (record_by ren m)
  unfolding Ascending TargetsOk
  record_ok_of first low high ok =
      let inputs = length-map m.transitions (λ (t : Transition). t.inp) in
      let outputs = length-map m.transitions (λ (t : Transition). t.out) in
      let targets = length-map m.transitions (λ (t : Transition). ren t.addr) in
      record {
        few = omega (arith, node_count f a m e bytes, inputs);
        outputs_len = outputs ∙ sym inputs;
        targets_len = targets ∙ sym inputs;
        ascending = λ i l.
            rw (get_d_map_lt (λ (t : Transition). t.inp) m.transitions i (omega arith), get_d_map_lt (λ (t : Transition). t.inp) m.transitions (i + 1) l)
            (node_ascending f a m e i (i + 1) (omega arith) (omega (arith, inputs)));
        first_low = low;
        first_high = high;
        targets_ok = λ i l.
            rw (get_d_map_lt (λ (t : Transition). ren t.addr) m.transitions i l) (ok (transition_at m.transitions i) (at_member m.transitions i (at_lt (λ (t : Transition). ren t.addr) i l)));
        final_ok = node_not_final f a m e;
      }
