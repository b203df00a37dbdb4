-- The walk down the chain: the addresses passed so far with their marks, and the chain that is left.
--     Walking f d a l      the addresses of l are passed and lie above a, and what is left of the file's chain is the chain from a
-- Assumes nothing.
use mathlib.Core.Path.{◌≡◌, refl, sym, ap, ◌∙◌, subst}
use mathlib.Core.Logic.{◌⊎◌, inl, inr, ⊎_elim}
use mathlib.Core.List.Memᴰ
use mathlib.Core.List.{List, [], ◌∷◌, ◌++◌, append_assoc, Memᴰ}
use Prim.Native.Nat.{ℕ, ◌+◌, ◌-◌, ◌≤◌, ◌<◌, max}
use native.Mathlib.Omega.{arith}
use native.Mathlib.Decide.{ℕ_discrete}
use lib.ListN.{length, get_or, set}
use lib.Seq.{get_or-set_same, get_or-set_other}
use Rattle.format.specs.declared.Transition.{Transition}
use Rattle.format.specs.Limits.{first_node}
use Rattle.format.specs.Node.{Node, sound, unsound}
use Rattle.format.specs.Paths.{Fst, node_in, Reached}
use Rattle.format.specs.Laws.NodeFacts.{node_first_low, node_first_le, node_inside, node_target_lt}
use Rattle.format.specs.Admitted.{Chain, last, next}
use Rattle.format.specs.Laws.ChainLaws.{ChainLast, ChainNext, chain_cases}
use Rattle.format.specs.Laws.ReachedLaws.{reached_root, reached_by}
use Rattle.admission_node.specs.Entries.{TargetIn, MarksTargets}
use Rattle.admission_walk.specs.Walks.{Hit, Live, Source, Entered, Walkable}
use Rattle.admission_node.specs.KeptLaws.{at_set}

-- ---- one step of a chain, where the node is known

no_chain : {f : Fst} {a : ℕ} {l : List ℕ} → node_in f a ≡ unsound → ¬ Chain f a l
no_chain {f} {a} {l} e c = go (chain_cases c)
  where
    go : ChainLast f a l ⊎ ChainNext f a l → ⊥
    go (inl z) = let e' = z.judged in let z : ◌≡◌ {A = ℕ} 0 1 = cc in omega arith
    go (inr n) = let e' = n.judged in let z : ◌≡◌ {A = ℕ} 0 1 = cc in omega arith

chain_rest : {f : Fst} {a : ℕ} {l : List ℕ} (m : Node) → node_in f a ≡ sound m → ¬ (m.first ≡ first_node) → Chain f a l
    → (k : List ℕ) × Chain f (m.first - 1) k
chain_rest {f} {a} {l} m e more c = go (chain_cases c)
  where
    go : ChainLast f a l ⊎ ChainNext f a l → (k : List ℕ) × Chain f (m.first - 1) k
    go (inl z) =
        let e' = z.judged in
        let same : z.node ≡ m = cc in
        absurd (more (ap (λ (x : Node). x.first) (sym same) ∙ z.done))
    go (inr n) =
        let e' = n.judged in
        let same : n.node ≡ m = cc in
        (n.others, subst (λ (x : Node). Chain f (x.first - 1) n.others) same n.rest)

-- ---- the walk

pub record Walking (f : Fst) (d : List ℕ) (a : ℕ) (l : List ℕ) : Type 0 where
  pub not_zero : ¬ (a ≡ 0)
  pub whole : (m : List ℕ) → Chain f a m → Chain f f.root (l ++ m)
  pub rest : (k : List ℕ) → Chain f f.root k → (m : List ℕ) × Chain f a m
  pub above : (j : ℕ) → Memᴰ j l → a < j
  pub marks : Entered f d l

-- the mark of the root, with zeros at all other places
entered_none : {f : Fst} {d : List ℕ} → Walkable f d → Entered f (set d f.root 2) []
entered_none {f} {d} ok =
    record {
      on = λ j m. absurd (Memᴰ.not-nil m);
      off = at_set (λ j x. j < length f.bytes → ¬ Memᴰ j [] → x ≤ 2) d f.root 2 room (λ _ _. omega arith)
          (λ j ne h _. omega (arith, ok.zeros j h));
      high = at_set (λ j x. j < length f.bytes → x ≤ 4) d f.root 2 room (λ _. omega arith) (λ j ne h. omega (arith, ok.zeros j h));
      reached = at_set (λ j x. j < length f.bytes → Hit x → Reached f j) d f.root 2 room (λ _ _. reached_root f)
          (λ j ne h hit. absurd (omega (arith, hit.low, ok.zeros j h)));
      source = at_set (λ j x. j < length f.bytes → ¬ Memᴰ j [] → 1 ≤ x → (j ≡ f.root) ⊎ Source f [] j) d f.root 2 room (λ _ _ _. inl refl)
          (λ j ne h _ one. absurd (omega (arith, one, ok.zeros j h)));
      targets = λ j m t mem. absurd (Memᴰ.not-nil mem);
      hits = λ j m t mem. absurd (Memᴰ.not-nil mem);
      top = at_set (λ j x. j ≡ f.root → Hit x) d f.root 2 room (λ _. record { low = omega arith; used = λ e. omega arith }) (λ j ne e. absurd (ne e))
          f.root refl;
    }
  where
    room : f.root < length d
    room = omega (arith, ok.inside, ok.room)

pub walking_none : {f : Fst} {d : List ℕ} → Walkable f d → Walking f (set d f.root 2) f.root []
walking_none {f} {d} ok =
    record {
      not_zero = ok.not_zero;
      whole = λ m c. c;
      rest = λ k c. (k, c);
      above = λ j m. absurd (Memᴰ.not-nil m);
      marks = entered_none ok;
    }

module _ {f : Fst} {d : List ℕ} {a : ℕ} {l : List ℕ} (w : Walking f d a l) where
  -- the chain breaks at a
  pub walking_broken : node_in f a ≡ unsound → (k : List ℕ) → ¬ Chain f f.root k
  walking_broken e k c = no_chain e (w.rest k c).1

  module _ (m : Node) (e : node_in f a ≡ sound m) where
    pub walked_inside : a < length f.bytes
    walked_inside = node_inside f a m e w.not_zero

    -- the next address lies below a
    pub walked_below : m.first - 1 < a
    walked_below = omega (arith, node_first_low f a m e w.not_zero, node_first_le f a m e w.not_zero)

    pub walked_first_low : 16 ≤ m.first
    walked_first_low = node_first_low f a m e w.not_zero

    module _ (mark : ℕ) (two : get_or d a 0 ≡ 2 → mark ≡ 2) (one : ¬ (get_or d a 0 ≡ 2) → mark ≡ 1) where
      -- a itself is not passed yet
      fresh : ¬ Memᴰ a l
      fresh mem = omega (arith, w.above a mem)

      entry_le : get_or d a 0 ≤ 2
      entry_le = w.marks.off a walked_inside fresh

      mark_low : 1 ≤ mark
      mark_low = elim (ℕ_discrete (get_or d a 0) 2) [ yes q ↦ omega (arith, two q) | no q ↦ omega (arith, one q) ]

      mark_high : mark ≤ 2
      mark_high = elim (ℕ_discrete (get_or d a 0) 2) [ yes q ↦ omega (arith, two q) | no q ↦ omega (arith, one q) ]

      reached_here : get_or d a 0 ≡ 2 → Reached f a
      reached_here q = w.marks.reached a walked_inside (record { low = omega arith; used = λ z. omega arith })

      module _ (d₁ : List ℕ) (by : MarksTargets (length f.bytes) mark m.transitions d d₁) (room : a < length d₁) where
        target_lt : {j : ℕ} → TargetIn m.transitions j → j < a
        target_lt t = omega (arith, node_target_lt f a m e t.by t.one, t.addr_is)

        grows : (j : ℕ) → get_or d j 0 ≤ get_or d₁ j 0
        grows j = ⊎_elim (λ s. omega arith) (λ p. omega (arith, p.1)) (by.led j)

        -- at a and above it nothing is raised
        stays : (j : ℕ) → a ≤ j → get_or d₁ j 0 ≡ get_or d j 0
        stays j h = ⊎_elim (λ s. s) (λ p. absurd (omega (arith, target_lt p.0))) (by.led j)

        not_here : {j : ℕ} → ¬ Memᴰ j (l ++ (a ∷ [])) → ¬ Memᴰ j l
        not_here away k = away (Memᴰ.append_left (a ∷ []) k)

        passed_here : Memᴰ a (l ++ (a ∷ []))
        passed_here = Memᴰ.append_right l (Memᴰ.head refl)

        source_more : {j : ℕ} → Source f l j → Source f (l ++ (a ∷ [])) j
        source_more s = record { at = s.at; node = s.node; on = Memᴰ.append_left (a ∷ []) s.on; judged = s.judged; leads = s.leads }

        on_more : (j : ℕ) → Memᴰ j (l ++ (a ∷ [])) → 3 ≤ get_or (set d₁ a (mark + 2)) j 0
        on_more =
            at_set (λ j x. Memᴰ j (l ++ (a ∷ [])) → 3 ≤ x) d₁ a (mark + 2) room (λ _. omega (arith, mark_low))
            (λ j ne mem.
            ⊎_elim (λ k. omega (arith, w.marks.on j k, grows j)) (λ k. absurd (ne (Memᴰ.eq_of_singleton k))) (Memᴰ.append_cases l mem))

        off_more : (j : ℕ) → j < length f.bytes → ¬ Memᴰ j (l ++ (a ∷ [])) → get_or (set d₁ a (mark + 2)) j 0 ≤ 2
        off_more =
            at_set (λ j x. j < length f.bytes → ¬ Memᴰ j (l ++ (a ∷ [])) → x ≤ 2) d₁ a (mark + 2) room (λ _ away. absurd (away passed_here))
            (λ j ne h away.
            let before = w.marks.off j h (not_here away) in
            ⊎_elim (λ s. omega arith) (λ p. omega (arith, p.1, mark_high)) (by.led j))

        high_more : (j : ℕ) → j < length f.bytes → get_or (set d₁ a (mark + 2)) j 0 ≤ 4
        high_more =
            at_set (λ j x. j < length f.bytes → x ≤ 4) d₁ a (mark + 2) room (λ _. omega (arith, mark_high))
            (λ j ne h.
            let before = w.marks.high j h in
            ⊎_elim (λ s. omega arith) (λ p. omega (arith, p.1, mark_high)) (by.led j))

        -- an address that a leads to, by a mark of a reached one
        reached_target : (j : ℕ) → j < length f.bytes → TargetIn m.transitions j → get_or d₁ j 0 ≡ max (get_or d j 0) mark → Hit (get_or d₁ j 0) → Reached f j
        reached_target j h t is hit =
            elim (ℕ_discrete (get_or d a 0) 2) [
              | yes q ↦ subst (λ x. Reached f x) t.addr_is (reached_by (reached_here q) m t.by e t.one)
              | no q ↦
                  let is_one = one q in
                  w.marks.reached j h (record { low = omega (arith, hit.low); used = λ z. hit.used (omega arith) })
            ]

        reached_more : (j : ℕ) → j < length f.bytes → Hit (get_or (set d₁ a (mark + 2)) j 0) → Reached f j
        reached_more =
            at_set (λ j x. j < length f.bytes → Hit x → Reached f j) d₁ a (mark + 2) room
            (λ _ hit. elim (ℕ_discrete (get_or d a 0) 2) [ yes q ↦ reached_here q | no q ↦ absurd (hit.used (omega (arith, one q))) ])
            (λ j ne h hit.
            ⊎_elim (λ s. w.marks.reached j h (subst Hit s hit)) (λ p. reached_target j h p.0 p.1 hit) (by.led j))

        led_more : (j : ℕ) → j < length f.bytes → ¬ Memᴰ j (l ++ (a ∷ [])) → 1 ≤ get_or (set d₁ a (mark + 2)) j 0 → (j ≡ f.root) ⊎ Source f (l ++ (a ∷ [])) j
        led_more =
            at_set (λ j x. j < length f.bytes → ¬ Memᴰ j (l ++ (a ∷ [])) → 1 ≤ x → (j ≡ f.root) ⊎ Source f (l ++ (a ∷ [])) j) d₁ a (mark + 2) room
            (λ _ away. absurd (away passed_here))
            (λ j ne h away low.
            ⊎_elim
            (λ s. ⊎_elim (λ r. inl r) (λ k. inr (source_more k)) (w.marks.source j h (not_here away) (omega arith)))
            (λ p. inr (record { at = a; node = m; on = passed_here; judged = e; leads = p.0 }))
            (by.led j))

        least_more : (j : ℕ) → 1 ≤ get_or d₁ j 0 → 1 ≤ get_or (set d₁ a (mark + 2)) j 0
        least_more = at_set (λ j x. 1 ≤ get_or d₁ j 0 → 1 ≤ x) d₁ a (mark + 2) room (λ _. omega arith) (λ j ne h. h)

        -- a transition of the node at a, by another name of that node
        own : (j : ℕ) (n : Node) (t : Transition) → j ≡ a → node_in f j ≡ sound n → Memᴰ t n.transitions → Memᴰ t m.transitions
        own j n t q e' mem =
            let at : node_in f a ≡ sound n = rw q at e' in
            let same : n ≡ m = cc in
            rw same at mem

        targets_more : (j : ℕ) (n : Node) (t : Transition) → Memᴰ j (l ++ (a ∷ [])) → node_in f j ≡ sound n → Memᴰ t n.transitions
            → 1 ≤ get_or (set d₁ a (mark + 2)) t.addr 0
        targets_more j n t mem e' mem_t =
            least_more t.addr
            (⊎_elim (λ k. omega (arith, w.marks.targets j n t k e' mem_t, grows t.addr))
            (λ k. omega (arith, mark_low, by.aim t (own j n t (Memᴰ.eq_of_singleton k) e' mem_t))) (Memᴰ.append_cases l mem))

        hit_more : (j : ℕ) → Hit (get_or d j 0) → Hit (get_or (set d₁ a (mark + 2)) j 0)
        hit_more =
            at_set (λ j x. Hit (get_or d j 0) → Hit x) d₁ a (mark + 2) room
            (λ hit. record { low = omega arith; used = λ z. omega (arith, two (omega (arith, hit.low, entry_le))) })
            (λ j ne hit.
            ⊎_elim (λ s. subst Hit (sym s) hit)
            (λ p. record { low = omega (arith, p.1, hit.low); used = λ z. hit.used (omega (arith, p.1, mark_high)) }) (by.led j))

        hits_passed : (j : ℕ) (n : Node) (t : Transition) → Memᴰ j l → Live (set d₁ a (mark + 2)) j → node_in f j ≡ sound n → Memᴰ t n.transitions
            → Hit (get_or (set d₁ a (mark + 2)) t.addr 0)
        hits_passed j n t mem live e' mem_t =
            let up = w.above j mem in
            let other : get_or (set d₁ a (mark + 2)) j 0 ≡ get_or d₁ j 0 = get_or-set_other d₁ a j (mark + 2) 0 (λ q. omega arith) in
            hit_more t.addr (w.marks.hits j n t mem (omega (arith, stays j (omega arith))) e' mem_t)

        hits_here : (t : Transition) → Memᴰ t m.transitions → Live (set d₁ a (mark + 2)) a → Hit (get_or (set d₁ a (mark + 2)) t.addr 0)
        hits_here t mem live =
            let low = node_target_lt f a m e t mem in
            let four : get_or (set d₁ a (mark + 2)) a 0 ≡ mark + 2 = get_or-set_same d₁ a (mark + 2) 0 room in
            let other : get_or (set d₁ a (mark + 2)) t.addr 0 ≡ get_or d₁ t.addr 0 = get_or-set_other d₁ a t.addr (mark + 2) 0 (λ q. omega arith) in
            let before = w.marks.off t.addr (omega (arith, walked_inside)) (λ k. omega (arith, w.above t.addr k)) in
            record {
              low = omega (arith, by.aim t mem);
              used = λ z. ⊎_elim (λ s. omega arith) (λ p. omega (arith, p.1)) (by.led t.addr);
            }

        hits_more : (j : ℕ) (n : Node) (t : Transition) → Memᴰ j (l ++ (a ∷ [])) → Live (set d₁ a (mark + 2)) j → node_in f j ≡ sound n → Memᴰ t n.transitions
            → Hit (get_or (set d₁ a (mark + 2)) t.addr 0)
        hits_more j n t mem live e' mem_t =
            ⊎_elim (λ k. hits_passed j n t k live e' mem_t)
            (λ k.
            let q = Memᴰ.eq_of_singleton k in
            hits_here t (own j n t q e' mem_t) (subst (λ x. Live (set d₁ a (mark + 2)) x) q live)) (Memᴰ.append_cases l mem)

        entered_more : Entered f (set d₁ a (mark + 2)) (l ++ (a ∷ []))
        entered_more =
            record {
              on = on_more;
              off = off_more;
              high = high_more;
              reached = reached_more;
              source = led_more;
              targets = targets_more;
              hits = hits_more;
              top = hit_more f.root w.marks.top;
            }

        pub walking_last : m.first ≡ first_node → Chain f f.root (l ++ (a ∷ [])) × Entered f (set d₁ a (mark + 2)) (l ++ (a ∷ []))
        walking_last done = (w.whole (a ∷ []) (last m e done), entered_more)

        pub walking_next : (b : ℕ) → ¬ (m.first ≡ first_node) → b ≡ m.first - 1 → Walking f (set d₁ a (mark + 2)) b (l ++ (a ∷ []))
        walking_next b more b_is =
            record {
              not_zero = λ z. omega (arith, walked_first_low);
              whole = λ k c.
                  subst (λ x. Chain f f.root x) (sym (append_assoc l (a ∷ []) k))
                  (w.whole (a ∷ k) (next m e more (subst (λ x. Chain f x k) b_is c)));
              rest = λ k c. let p = chain_rest m e more (w.rest k c).1 in (p.0, subst (λ x. Chain f x p.0) (sym b_is) p.1);
              above = λ j mem.
                  ⊎_elim (λ k. omega (arith, w.above j k, walked_below)) (λ k. omega (arith, Memᴰ.eq_of_singleton k, walked_below))
                  (Memᴰ.append_cases l mem);
              marks = entered_more;
            }
