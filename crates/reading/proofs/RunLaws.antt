-- A call of next, on the visits: it drops them up to the first key, or up to the first that passes the upper bound.
--     come_step, come_on      what is to come, by a step down and by a pop
--     pop_come                the pops drop no visit
--     Go, go_come             the descent follows visit after visit, each a level deeper, to a key or past the upper bound
--     counted_capped          one transition more
--     target_live             a target that is not final has a transition, on any file
-- Assumes nothing.
use Prim.{Unit, tt}
use Rattle.std.specs.Prelude.{◌≡◌, Bool, true, cond, ◌⊎◌, ltb, leb, drop, get_or}
use Rattle.std.proofs.Math.Path.{refl}
use Rattle.std.proofs.Common.{sym, ◌∙◌, ap, ⊎_elim, inl, inr, add_assoc, add-one, lt-ltb, le-ltb, le-leb, ltb-true, ltb-false, length-append, length-drop, drop_of_length-le, drop-cons}
use Rattle.std.proofs.Math.Bool.{false}
use mathlib.Core.List.{List, [], ◌∷◌, ◌++◌, map, append_assoc, Memᴰ}
use Prim.Native.Nat.{ℕ, zero, suc, ◌+◌, ◌-◌, ◌<◌, ◌≤◌}
use native.Mathlib.Omega.{arith}
use Rattle.std.proofs.Math.Decide.{ℕ_discrete}
use Rattle.std.proofs.lemmas.Bool.{lt-leb}
use Rattle.std.proofs.Math.ListN.{length}
use Rattle.format.specs.declared.Transition.{Transition}
use Rattle.format.specs.Limits.{max_path, max_sum}
use Rattle.format.specs.Node.{Node, sound, transition_at}
use Rattle.format.specs.Laws.NodeLaws.{node_at_zero}
use Rattle.format.specs.Laws.TransitionLaws.{at_member}
use Rattle.format.specs.Laws.NodeFacts.{node_zero}
use Rattle.format.specs.Paths.{Fst, node_in}
use Rattle.format.specs.Strings.{Bound}
use Rattle.format.specs.Laws.LiveLaws.{target_not_root, live_below_root}
use Rattle.format.specs.Tables.{final_output_of?}
use Rattle.reading.specs.Reading.{passes_test, Level, level_with, View, path_of, key_of, on_node, counted, Popped, top, used_up, bad, pop, next_trans, child, stepped, Went, found, passed, descend}
use Rattle.reading.specs.Visits.{Visit, under, final?, visit_by, row, transitions_at, below, rest, to_come, Fine, Sane, AllV}
use Rattle.reading.specs.Demand.{capped}
use Rattle.reading.specs.VisitLists.{map_append, map_under, key_push, key_length, below_rest, fine_node, fine_step}

-- ---- numbers

pub lt_or : (a b : ℕ) → (a < b) ⊎ (b ≤ a)
lt_or a b = by (ltb a b) refl
  where
    by : (t : Bool) → ltb a b ≡ t → (a < b) ⊎ (b ≤ a)
    by true e = inl (ltb-true a b e)
    by false e = inr (ltb-false a b e)

pub capped_low : (n : ℕ) → n ≤ max_sum → capped n ≡ n
capped_low n h = simp (le-leb n max_sum h)

pub capped_high : (n : ℕ) → max_sum ≤ n → capped n ≡ max_sum
capped_high n h =
    elim (ℕ_discrete n max_sum) [
      | yes e ↦ capped_low n (omega arith) ∙ e
      | no ne ↦ simp (lt-leb n max_sum (omega arith))
    ]

pub counted_capped : (n : ℕ) → counted (capped n) ≡ capped (n + 1)
counted_capped n =
    ⊎_elim
    (λ (h : n < max_sum).
    let one : counted n ≡ n + 1 = simp (lt-ltb n max_sum h) in
    ap counted (capped_low n (omega arith)) ∙ one ∙ sym (capped_low (n + 1) (omega arith)))
    (λ (h : max_sum ≤ n).
    let same : counted max_sum ≡ max_sum = refl in
    ap counted (capped_high n h) ∙ same ∙ sym (capped_high (n + 1) (omega arith)))
    (lt_or n max_sum)

-- ---- what is to come, by a step down

pub rest_step : (d : ℕ) (f : Fst) (a p : ℕ) (m : Node) → node_in f a ≡ sound m → p < length m.transitions
    → rest (suc d) f a p
    ≡ visit_by f (transition_at m.transitions p)
    ∷ (map (under ((transition_at m.transitions p).inp ∷ []) (transition_at m.transitions p).out) (rest d f (transition_at m.transitions p).addr 0)
    ++ rest (suc d) f a (p + 1))
rest_step d f a p m e h =
    let cut : drop p m.transitions ≡ transition_at m.transitions p ∷ drop (p + 1) m.transitions =
    drop-cons m.transitions p _ h ∙ ap (λ (j : ℕ). transition_at m.transitions p ∷ drop j m.transitions) (sym (add-one p)) in
    rw (e, cut, below_rest d f (transition_at m.transitions p).addr)

pub rest_end : (d : ℕ) (f : Fst) (a p : ℕ) (m : Node) → node_in f a ≡ sound m → length m.transitions ≤ p → rest d f a p ≡ []
rest_end zero f a p m e h = refl
rest_end (suc d) f a p m e h = rw (e, drop_of_length-le m.transitions {i = p} h)

-- the visit that the level's next transition makes
abbrev pub first : Fst → Level → Node → List Level → Visit
first f l m s = under (key_of (l ∷ s)) l.out (visit_by f (next_trans l m))

pub first_key : (f : Fst) (l : Level) (m : Node) (s : List Level) → (first f l m s).key ≡ key_of (child l m ∷ stepped l ∷ s)
unfolding path_of
first_key f l m s = sym (key_push (child l m) (stepped l) s)

pub come_step : (f : Fst) (l : Level) (m : Node) (s : List Level) → length s < max_path → node_in f l.addr ≡ sound m → l.trans < length m.transitions
    → to_come f (l ∷ s) ≡ first f l m s ∷ to_come f (child l m ∷ stepped l ∷ s)
unfolding path_of
come_step f l m s h e g =
    let d : ℕ = max_path - suc (length s) in
    let z : max_path - length s ≡ suc d = omega arith in
    let i : ℕ = (next_trans l m).inp in
    let o : ℕ = (next_trans l m).out in
    let k : List ℕ = key_of (l ∷ s) in
    let x : List Visit = rest d f (next_trans l m).addr 0 in
    let y : List Visit = rest (suc d) f l.addr (l.trans + 1) in
    rw z
    (ap (λ (r : List Visit). map (under k l.out) r ++ to_come f s) (rest_step d f l.addr l.trans m e g)
    ∙ ap (λ (r : List Visit). first f l m s ∷ (r ++ to_come f s)) (map_append k l.out (map (under (i ∷ []) o) x) y)
    ∙ ap (λ (r : List Visit). first f l m s ∷ r) (append_assoc (map (under k l.out) (map (under (i ∷ []) o) x)) (map (under k l.out) y) (to_come f s))
    ∙ ap (λ (r : List Visit). first f l m s ∷ (r ++ (map (under k l.out) y ++ to_come f s)))
    (map_under k (i ∷ []) l.out o x ∙ ap (λ (q : List ℕ). map (under q (l.out + o)) x) (sym (key_push (child l m) (stepped l) s))))

pub come_on : (f : Fst) (l : Level) (m : Node) (s : List Level) → node_in f l.addr ≡ sound m → length m.transitions ≤ l.trans
    → to_come f (l ∷ s) ≡ to_come f s
come_on f l m s e h = rw (rest_end (max_path - length s) f l.addr l.trans m e h)

-- ---- the pops

pub record Top (f : Fst) (s : List Level) : Type 0 where
  pub level : Level
  pub node : Node
  pub lower : List Level
  pub pops : pop f s ≡ top level node lower
  pub sane : Sane f (level ∷ lower)
  pub judged : node_in f level.addr ≡ sound node
  pub room : level.trans < length node.transitions
  pub come : to_come f s ≡ to_come f (level ∷ lower)

pub pop_come : (f : Fst) (s : List Level) → Sane f s → ((pop f s ≡ used_up) × (to_come f s ≡ [])) ⊎ Top f s
unfolding pop
pop_come f [] h = inl (refl, refl)
pop_come f (l ∷ s) h =
    let n = fine_node (max_path - length s) f l.addr l.out h.1 in
    let m : Node = n.0 in
    let e : node_in f l.addr ≡ sound m = n.1 in
    ⊎_elim
    (λ (p : l.trans < length m.transitions).
    inr (record { level = l; node = m; lower = s; pops = simp (e, lt-ltb l.trans (length m.transitions) p); sane = h; judged = e; room = p; come = refl }))
    (λ (q : length m.transitions ≤ l.trans).
    let o : pop f (l ∷ s) ≡ pop f s = simp (e, le-ltb l.trans (length m.transitions) q) in
    let g : to_come f (l ∷ s) ≡ to_come f s = come_on f l m s e q in
    ⊎_elim
    (λ w. inl (o ∙ w.0, g ∙ w.1))
    (λ w.
    inr (record { level = w.level; node = w.node; lower = w.lower; pops = o ∙ w.pops; sane = w.sane; judged = w.judged; room = w.room; come = g ∙ w.come }))
    (pop_come f s h.2))
    (lt_or l.trans (length m.transitions))

-- ---- the descent

-- neither a key nor past the upper bound
abbrev pub Idle : Bound → Visit → Type 0
Idle hi v = (passes_test hi v.key ≡ false) × (v.final ≡ false)

pub data Go (room : ℕ) (f : Fst) (hi : Bound) (l : Level) (m : Node) (s : List Level) : Type 0 where
  key_at_lem : (taken : List Visit) (v : Visit) (to : List Level) → AllV (Idle hi) taken → to_come f (l ∷ s) ≡ taken ++ (v ∷ to_come f to) → Sane f to
      → passes_test hi v.key ≡ false → v.final ≡ true → key_of to ≡ v.key → length v.key ≡ suc (length taken) + length s
      → ((n : ℕ) → descend room f hi l m s (capped n) ≡ found to v.value (capped (n + suc (length taken)))) → Go room f hi l m s
  past_at : (taken : List Visit) (v : Visit) (more : List Visit) → AllV (Idle hi) taken → to_come f (l ∷ s) ≡ taken ++ (v ∷ more)
      → passes_test hi v.key ≡ true → length v.key ≡ suc (length taken) + length s
      → ((n : ℕ) → descend room f hi l m s (capped n) ≡ passed (capped (n + suc (length taken)))) → Go room f hi l m s

-- a target that is not final has a transition
pub target_live : (f : Fst) (a : ℕ) (m : Node) (t : Transition) → node_in f a ≡ sound m → Memᴰ t m.transitions → (n : Node) → node_in f t.addr ≡ sound n
    → n.final ≡ false → 0 < length n.transitions
target_live f a m t e mem n en nf =
    elim (ℕ_discrete t.addr 0) [
      | yes z ↦ let q : n.final ≡ true = ap (λ (x : Node). x.final) (node_zero f t.addr n en z) in let y : ◌≡◌ {A = ℕ} 0 1 = cc in absurd (omega arith)
      | no nz ↦
          ⊎_elim
          (λ (q : n.final ≡ true). let y : ◌≡◌ {A = ℕ} 0 1 = cc in absurd (omega arith))
          (λ p. p)
          (live_below_root f t.addr n en nz (target_not_root f a m t e mem))
    ]

module _ (f : Fst) (hi : Bound) where
  pub go_come : (room : ℕ) (l : Level) (m : Node) (s : List Level) → room + length s ≡ max_path → Sane f (l ∷ s) → node_in f l.addr ≡ sound m
      → l.trans < length m.transitions → Go room f hi l m s
  unfolding descend
  go_come zero l m s z h e g =
      let q = fine_step (max_path - length s) f l.addr l.out m (next_trans l m) h.1 e (at_member m.transitions l.trans g) in
      absurd (omega (arith, q.0))
  go_come (suc room) l m s z h e g =
      let mem = at_member m.transitions l.trans g in
      let q = fine_step (max_path - length s) f l.addr l.out m (next_trans l m) h.1 e mem in
      let d : max_path - suc (length s) ≡ max_path - length s - 1 = omega arith in
      let fine : Fine (max_path - suc (length s)) f (next_trans l m).addr (l.out + (next_trans l m).out) = rw d q.1 in
      let n = fine_node (max_path - suc (length s)) f (next_trans l m).addr (l.out + (next_trans l m).out) fine in
      let new : Sane f (child l m ∷ stepped l ∷ s) = (omega arith, fine, h) in
      by n.0 n.1 n.2 new
      (λ live. go_come room (child l m) n.0 (stepped l ∷ s) (omega arith) new n.1 live)
      (target_live f l.addr m (next_trans l m) e mem n.0 n.1)
      (passes_test hi (key_of (child l m ∷ stepped l ∷ s))) refl n.0.final refl
    where
      by : (n : Node) → node_in f (next_trans l m).addr ≡ sound n → l.out + (next_trans l m).out + n.final_output ≤ max_sum → Sane f (child l m ∷ stepped l ∷ s)
          → (0 < length n.transitions → Go room f hi (child l m) n (stepped l ∷ s))
          → (n.final ≡ false → 0 < length n.transitions)
          → (p : Bool) → passes_test hi (key_of (child l m ∷ stepped l ∷ s)) ≡ p → (b : Bool) → n.final ≡ b → Go (suc room) f hi l m s
      by n en light new more live p ep b eb = ways p ep b eb
        where
          come : to_come f (l ∷ s) ≡ first f l m s ∷ to_come f (child l m ∷ stepped l ∷ s)
          come = come_step f l m s (omega arith) e g

          fits : leb (l.out + (next_trans l m).out) max_sum ≡ true
          fits = le-leb (l.out + (next_trans l m).out) max_sum (omega arith)

          fits_final : leb (l.out + (next_trans l m).out + n.final_output) max_sum ≡ true
          fits_final = le-leb (l.out + (next_trans l m).out + n.final_output) max_sum light

          is_final_lem : (b : Bool) → n.final ≡ b → (first f l m s).final ≡ b
          is_final_lem b eb = simp (en, eb)

          len : length (first f l m s).key ≡ suc 0 + length s
          len = ap length (first_key f l m s) ∙ key_length (child l m) (stepped l ∷ s) ∙ omega arith

          on : passes_test hi (key_of (child l m ∷ stepped l ∷ s)) ≡ false → n.final ≡ false → Go room f hi (child l m) n (stepped l ∷ s) → Go (suc room) f hi l m s
          on ep eb (key_at_lem taken v to idle split sane np fin key_is_lem v_len goes) =
              key_at_lem (first f l m s ∷ taken) v to ((ap (passes_test hi) (first_key f l m s) ∙ ep, is_final_lem false eb), idle)
              (come ∙ ap (λ (r : List Visit). first f l m s ∷ r) split)
              sane np fin key_is_lem (omega arith)
              (λ k.
              let j : k + 1 + suc (length taken) ≡ k + suc (suc (length taken)) = omega arith in
              simp (fits, en, ep, eb, counted_capped k) (goes (k + 1) ∙ rw j))
          on ep eb (past_at taken v after idle split ps v_len goes) =
              past_at (first f l m s ∷ taken) v after ((ap (passes_test hi) (first_key f l m s) ∙ ep, is_final_lem false eb), idle)
              (come ∙ ap (λ (r : List Visit). first f l m s ∷ r) split)
              ps (omega arith)
              (λ k.
              let j : k + 1 + suc (length taken) ≡ k + suc (suc (length taken)) = omega arith in
              simp (fits, en, ep, eb, counted_capped k) (goes (k + 1) ∙ rw j))

          ways : (p : Bool) → passes_test hi (key_of (child l m ∷ stepped l ∷ s)) ≡ p → (b : Bool) → n.final ≡ b → Go (suc room) f hi l m s
          ways true ep b eb =
              past_at [] (first f l m s) (to_come f (child l m ∷ stepped l ∷ s)) tt come (ap (passes_test hi) (first_key f l m s) ∙ ep) len
              (λ k. simp (fits, en, ep, counted_capped k))
          ways false ep true eb =
              key_at_lem [] (first f l m s) (child l m ∷ stepped l ∷ s) tt come new (ap (passes_test hi) (first_key f l m s) ∙ ep) (is_final_lem true eb)
              (sym (first_key f l m s)) len
              (λ k.
              simp (fits, en, ep, eb, fits_final, counted_capped k)
              (ap (λ (v : ℕ). found (child l m ∷ stepped l ∷ s) v (capped (k + 1))) (add_assoc l.out (next_trans l m).out n.final_output)))
          ways false ep false eb = on ep eb (more (live eb))
