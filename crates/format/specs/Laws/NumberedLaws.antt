-- On a numbered file the search by value is exact: it finds the held key with the value, or answers "none" where there is none.
-- Each output plus the largest sum of its target lies below the next output, so the outputs ascend, and the last leading transition
-- that fits is the one that the held key takes. Where nothing is left at a final node no held key goes on, since its first output is
-- at least 1.
--     held_fitting               the transition that a held key takes is the one that the search follows
--     HeldBy f m b k v           that transition of the node m, by its place
--     held_found                 from a node that a path from the root reaches
--     get_key_exact              of a whole search (`Exact`: `KeyExact`); numbered_unique: one value, one key
-- Assumes nothing.
use Rattle.std.specs.Prelude.{◌≡◌, refl, Bool, true, false, ◌&&◌, List, [], ◌∷◌, ◌++◌, ℕ, zero, suc, ◌+◌, ◌-◌, ◌≤◌, ◌<◌, eqb, length}
use Rattle.std.proofs.Common.{ap, ◌∙◌, inl, inr, arith, length-append}
use Rattle.std.proofs.Math.Decide.{ℕ_discrete}
use Rattle.format.specs.declared.Transition.{Transition}
use Rattle.format.specs.Limits.{max_path}
use Rattle.format.specs.Node.{Node, sound, at, transition_at}
use Rattle.format.specs.Laws.TransitionLaws.{member_at, at_member}
use Rattle.format.specs.Paths.{Fst, fst_of, node_in, Path, here, Held, HeldFrom}
use Rattle.format.specs.Tables.{largest_sum}
use Rattle.format.specs.Laws.TableLaws.{largest_bound}
use Rattle.format.specs.Laws.PathLaws.{path_append, path_snoc, held_not_empty}
use Rattle.format.specs.Laws.ReachedLaws.{PathEnd, path_reached, held_from, held_nil, held_step, held_input}
use Rattle.format.specs.Lookup.{KeyAnswer, with_byte, get_key_from, get_key, NumberedNode, Numbered}
use Rattle.format.specs.Exact.{KeyExact}
use Rattle.format.specs.Laws.LookupLaws.{Fitting, fitting_at, key_goes_on_value, key_goes_on_final, get_key_from_end, get_key_from_step, get_key_opened}
use Rattle.format.specs.Laws.FoundLaws.{admitted_found_path, get_key_not_refused}

-- ---- at a numbered node

module _ {f : Fst} {m : Node} (numbered : NumberedNode f m) where
  outputs_step : (i d : ℕ) → i + d < length m.transitions → (transition_at m.transitions i).out ≤ (transition_at m.transitions (i + d)).out
  outputs_step i zero l = let e : i + 0 ≡ i = omega arith in rw e (omega arith)
  outputs_step i (suc d) l =
      let e : i + suc d ≡ i + d + 1 = omega arith in
      rw e (omega (arith, outputs_step i d (omega arith), numbered.below_next (i + d) (omega arith)))

  -- the outputs ascend
  pub outputs_le : (i j : ℕ) → i ≤ j → j < length m.transitions → (transition_at m.transitions i).out ≤ (transition_at m.transitions j).out
  outputs_le i j h l = let e : i + (j - i) ≡ j = omega arith in rw e at (outputs_step i (j - i) (omega arith))

  -- what goes on by the transition at i with no more than the target's largest sum left is followed there
  pub held_fitting : (i : ℕ) → i < length m.transitions → (v w : ℕ) → v ≡ (transition_at m.transitions i).out + w
      → w ≤ largest_sum f (transition_at m.transitions i).addr → Fitting m.transitions v i
  held_fitting i l v w is small =
      record {
        within = l;
        fit = λ j h. omega (arith, outputs_le j i h l);
        stop = elim (ℕ_discrete (length m.transitions) (i + 1)) [
          | yes e ↦ inl e
          | no ne ↦ inr (omega (arith, numbered.below_next i (omega arith)))
        ];
      }

  -- the key does not end where a transition is taken
  pub held_goes_on : (i : ℕ) → i < length m.transitions → (v w : ℕ) → v ≡ (transition_at m.transitions i).out + w → (eqb v 0 && m.final) ≡ false
  held_goes_on i l v w is = go m.final refl
    where
      go : (t : Bool) → m.final ≡ t → (eqb v 0 && m.final) ≡ false
      go true final =
          key_goes_on_value v m.final (λ z. omega (arith, numbered.first_output final (omega arith), outputs_le 0 i (omega arith) l))
      go false final = key_goes_on_final v m.final final

-- ---- from a node

-- what the transition at a place leads to, and what is left there
pub record HeldBy (f : Fst) (m : Node) (b : ℕ) (k : List ℕ) (v : ℕ) : Type 0 where
  pub place : ℕ
  pub within : place < length m.transitions
  pub inp_is : (transition_at m.transitions place).inp ≡ b
  pub left : ℕ
  pub rest : HeldFrom f (transition_at m.transitions place).addr k left
  pub value_is : v ≡ (transition_at m.transitions place).out + left

held_place : (f : Fst) (a : ℕ) (m : Node) → node_in f a ≡ sound m → {b : ℕ} {k : List ℕ} {v : ℕ} → HeldFrom f a (b ∷ k) v → HeldBy f m b k v
held_place f a m e {b} {k} {v} h =
    let q = held_input f a m e h in
    let p = member_at q.1 in
    let inp_is : (transition_at m.transitions p.0).inp ≡ b = ap (λ (t : Transition). t.inp) p.2 ∙ q.2 in
    let r = held_step f a m e (transition_at m.transitions p.0) (at_member m.transitions p.0 p.1) {k = k} {v = v} (rw inp_is h) in
    record { place = p.0; within = p.1; inp_is = inp_is; left = r.0; rest = r.1; value_is = r.2 }

held_from_bound : {f : Fst} {a : ℕ} {k : List ℕ} {v : ℕ} → HeldFrom f a k v → v ≤ largest_sum f a
held_from_bound h = omega (arith, h.value, largest_bound h.path h.ends)

module _ {f : Fst} (reached : (k : List ℕ) (sum b : ℕ) → Path f f.root k sum b → PathEnd f k sum b)
    (numbered : (k : List ℕ) (sum a : ℕ) (m : Node) → Path f f.root k sum a → node_in f a ≡ sound m → NumberedNode f m) where
  -- a held key takes at most as many bytes as there is room for
  held_room : (room : ℕ) {p : List ℕ} {sum a : ℕ} → Path f f.root p sum a → length p + room ≡ max_path → {k : List ℕ} {v : ℕ} → HeldFrom f a k v → length k ≤ room
  held_room room {p} {sum} path full {k} h =
      let whole = reached (p ++ k) (sum + h.sum) h.to (path_append path h.path) in
      omega (arith, whole.short, length-append p k)

  held_found : (k : List ℕ) (room v : ℕ) {p : List ℕ} {sum a : ℕ} → Path f f.root p sum a → length p + room ≡ max_path → HeldFrom f a k v
      → get_key_from room f a v ≡ KeyAnswer.found k
  held_found [] room v {p} {sum} {a} path full h =
      let r = reached p sum a path in
      let q = held_nil f a r.node r.judged h in
      get_key_from_end f a v r.node r.judged room (q.1 ∙ (numbered p sum a r.node path r.judged).no_final_output) q.0
  held_found (b ∷ k) zero v path full h = absurd (omega (arith, held_room 0 path full h))
  held_found (b ∷ k) (suc room) v {p} {sum} {a} path full h =
      let r = reached p sum a path in
      let m = r.node in
      let n = numbered p sum a m path r.judged in
      let q = held_place f a m r.judged h in
      let t = transition_at m.transitions q.place in
      let fits = fitting_at m.transitions v q.place (held_fitting n q.place q.within v q.left q.value_is (held_from_bound q.rest)) in
      let on = held_goes_on n q.place q.within v q.left q.value_is in
      let next = path_snoc m t path r.judged (at_member m.transitions q.place q.within) in
      let less : v - t.out ≡ q.left = omega (arith, q.value_is) in
      let rest = held_found k room q.left next (omega (arith, length-append p (t.inp ∷ []))) q.rest in
      get_key_from_step f a v m r.judged on room q.place fits
      ∙ ap (λ w. with_byte t.inp (get_key_from room f t.addr w)) less
      ∙ ap (with_byte t.inp) rest
      ∙ ap (λ c. KeyAnswer.found (c ∷ k)) q.inp_is

-- ---- a whole search

module _ {s : List ℕ} (N : Numbered s) (v space : ℕ) where
  numbered_found : (k : List ℕ) → get_key s v space ≡ KeyAnswer.found k → Held (fst_of s N.admitted.meta) k v
  numbered_found k is =
      let r = admitted_found_path N.admitted v space k is in
      record {
        sum = v;
        to = r.to;
        last = r.last;
        path = r.path;
        ends = r.ends;
        final = r.final;
        value = omega (arith, (N.numbered k v r.to r.last r.path r.ends).no_final_output);
      }

  numbered_held : max_path ≤ space → (k : List ℕ) → Held (fst_of s N.admitted.meta) k v → get_key s v space ≡ KeyAnswer.found k
  numbered_held h k held =
      let pos = held_not_empty held in
      get_key_opened s v space N.admitted.meta N.admitted.opens h pos
      ∙ held_found (λ p sum b path. path_reached N.admitted pos path) N.numbered k max_path v here (omega arith) (held_from held)

  numbered_none : max_path ≤ space → ((k : List ℕ) → ¬ Held (fst_of s N.admitted.meta) k v) → get_key s v space ≡ KeyAnswer.none
  numbered_none h none = go (get_key s v space) refl
    where
      go : (r : KeyAnswer) → get_key s v space ≡ r → get_key s v space ≡ KeyAnswer.none
      go (KeyAnswer.found k) is = absurd (none k (numbered_found k is))
      go KeyAnswer.none is = is
      go (KeyAnswer.refused n) is = absurd (get_key_not_refused N.admitted v space n h is)

  pub get_key_exact : KeyExact s (fst_of s N.admitted.meta) v space
  get_key_exact =
      record {
        get_key_found = numbered_found;
        get_key_held = numbered_held;
        get_key_none = numbered_none;
        none_key_held = λ h is k held. let r = numbered_held h k held in let z : ◌≡◌ {A = ℕ} 0 1 = cc in omega arith;
        not_refused = λ h n. get_key_not_refused N.admitted v space n h;
      }

-- a numbered file holds no two keys with one value
pub numbered_unique : {s : List ℕ} (N : Numbered s) {k l : List ℕ} {v : ℕ} → Held (fst_of s N.admitted.meta) k v → Held (fst_of s N.admitted.meta) l v → k ≡ l
numbered_unique N {k} {l} {v} h g =
    let p = numbered_held N v max_path (omega arith) k h in
    let q = numbered_held N v max_path (omega arith) l g in
    cc
