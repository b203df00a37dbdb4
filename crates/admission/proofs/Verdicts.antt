-- From what the two passes ensure to what judging all nodes ensures.
--     Marks f d l         what the marks of the table d say of the file's chain l, once address 0 has none
--     reached_live        where all that is led to is passed, the mark 4 stands at the reached nodes and at no other
--     filled_judges       what the pass up the file found, over the chain and over paths
-- Assumes nothing.
use Rattle.std.specs.Prelude.{Ok, Err, Result, ⊤}
use Rattle.format.specs.declared.Refusal.{Refusal}
use mathlib.Core.Path.{◌≡◌, refl, sym, ap, ◌∙◌, subst}
use mathlib.Core.Logic.{◌⊎◌, inl, inr, ⊎_elim}
use mathlib.Core.List.{List, [], Memᴰ}
use Prim.Native.Nat.{ℕ, ◌+◌, ◌/◌, ◌%◌, ◌≤◌, ◌<◌}
use native.Mathlib.Decide.{ℕ_discrete}
use native.Mathlib.Omega.{arith}
use lib.ListN.{length, get_or, set}
use lib.Seq.{get_or-set_same, get_or-set_other}
use Rattle.format.specs.declared.Transition.{Transition}
use Rattle.format.specs.Limits.{max_path, max_sum}
use Rattle.format.specs.Node.{Node, sound, SoundAt}
use Rattle.format.specs.Paths.{Fst, node_in, Path, here, follow, Reached}
use Rattle.format.specs.Laws.NodeLaws.{node_at_cases}
use Rattle.format.specs.Laws.NodeFacts.{node_inside, node_target_lt, node_zero_none}
use Rattle.format.specs.Admitted.{Chain, empty, rooted, Nodes, Shallow, Light}
use Rattle.format.specs.Laws.ChainLaws.{chain_sound, chain_low, chain_head, root_chain_unique, dec_mem}
use Rattle.format.specs.Tables.{longest, largest_sum, InTable}
use Rattle.format.specs.Laws.TableLaws.{longest_zero, largest_zero, longest_bound, largest_bound, longest_attained, largest_attained}
use Rattle.admission_node.specs.Entries.{Kept}
use Rattle.std.proofs.lemmas.List.{map-set}
use Rattle.admission_walk.specs.Walks.{Hit, Live, Source, marks_in, Above, Linked, ChainMarked}
use Rattle.admission_walk.specs.MarksLaws.{marks_long}
use Rattle.admission_fill.specs.Fills.{AllPassed, Leads, Fillable, LostOne, DeepOne, HeavyOne, GoodAll, FillRefused, FillCase, Filled}
use Rattle.admission.specs.Outcome.{Holds, LongPath, LargeSum, Cleared, GoodNodes, JudgeRefused, JudgeCase, Judges}
use Rattle.admission_node.specs.KeptLaws.{at_set, kept_none, kept_then}

-- ---- root 0 has no chain

-- address 0 leads nowhere, so nothing else is reached
zero_stays : {f : Fst} {a : ℕ} {k : List ℕ} {sum b : ℕ} → a ≡ 0 → Path f a k sum b → b ≡ 0
zero_stays z here = z
zero_stays {f} {a} z (follow m t e mem p) = absurd (node_zero_none f a m e z t mem)

module _ {f : Fst} (z : f.root ≡ 0) where
  reached_zero : (a : ℕ) → Reached f a → a ≡ 0
  reached_zero a r = zero_stays z r.path

  -- either table, with zeros over the file, holds what is wanted where nothing but address 0 is reached
  holds_none : {g : ℕ → ℕ} {n : ℕ} {d : List ℕ} → ((j : ℕ) → j < n → get_or d j 0 ≡ 0) → Holds g (InTable f) n d d
  holds_none {n = n} {d = d} zeros =
      record { on = λ a i. absurd (i.not_zero (reached_zero a i.reached)); off = λ a l _. zeros a l; kept = kept_none n d }

module _ {f : Fst} {d t : List ℕ} (z : f.root ≡ 0) (c : Cleared f.bytes d t f.root) where
  pub root_zero_good : GoodNodes f d t d t
  unfolding Shallow Light
  root_zero_good =
      record {
        nodes = [];
        chained = record { chain = empty z; closed = λ a m u mem. absurd (mathlib.Core.List.Memᴰ.not-nil mem) };
        shallow = λ a k sum b r p. omega (arith, longest_bound p, ap (longest f) (reached_zero z a r), longest_zero f);
        light = λ a k sum b m r p e. omega (arith, largest_bound p e, ap (largest_sum f) (reached_zero z a r), largest_zero f);
        depths = holds_none z c.depths;
        sums = holds_none z c.sums;
      }

  pub root_zero_judges : Judges f d t d t (Ok tt)
  root_zero_judges =
      record { depths_kept = kept_none (length f.bytes) d; sums_kept = kept_none (length f.bytes) t; found = root_zero_good }

-- ---- the marks of the chain, once address 0 has none

pub record Marks (f : Fst) (d l : List ℕ) : Type 0 where
  pub not_zero : ¬ (f.root ≡ 0)
  pub chain : Chain f f.root l
  pub zero : get_or d 0 0 ≡ 0
  pub on : (j : ℕ) → Memᴰ j l → 3 ≤ get_or d j 0
  pub off : (j : ℕ) → j < length f.bytes → ¬ Memᴰ j l → get_or d j 0 ≤ 2
  pub high : (j : ℕ) → j < length f.bytes → get_or d j 0 ≤ 4
  pub reached : (j : ℕ) → j < length f.bytes → Hit (get_or d j 0) → Reached f j
  pub source : (j : ℕ) → j < length f.bytes → ¬ Memᴰ j l → 1 ≤ get_or d j 0 → Source f l j
  pub targets : (j : ℕ) (m : Node) (t : Transition) → Memᴰ j l → node_in f j ≡ sound m → Memᴰ t m.transitions → ¬ (t.addr ≡ 0)
      → 1 ≤ get_or d t.addr 0
  pub hits : (j : ℕ) (m : Node) (t : Transition) → Memᴰ j l → Live d j → node_in f j ≡ sound m → Memᴰ t m.transitions → ¬ (t.addr ≡ 0)
      → Hit (get_or d t.addr 0)
  pub top : Hit (get_or d f.root 0)

module _ {f : Fst} {e l : List ℕ} (ne : ¬ (f.root ≡ 0)) (w : ChainMarked f e l) (room : 0 < length e) where
  same_at : (j : ℕ) → ¬ (j ≡ 0) → get_or (set (marks_in e) 0 0) j 0 ≡ get_or (marks_in e) j 0
  same_at j nz = get_or-set_other (marks_in e) 0 j 0 0 nz

  chain_nz : (j : ℕ) → Memᴰ j l → ¬ (j ≡ 0)
  chain_nz j mem z = omega (arith, chain_low w.chain j mem)

  -- the root is on the chain, so what is led to off the chain has a source
  sourced : (j : ℕ) → ¬ Memᴰ j l → (j ≡ f.root) ⊎ Source f l j → Source f l j
  sourced j away (inl r) = absurd (away (subst (λ x. Memᴰ x l) (sym r) (chain_head w.chain)))
  sourced j away (inr s) = s

  marks_zero : Marks f (set (marks_in e) 0 0) l
  marks_zero =
      record {
        not_zero = ne;
        chain = w.chain;
        zero = get_or-set_same (marks_in e) 0 0 0 (omega (arith, room, marks_long e));
        on = λ j mem. subst (λ x. 3 ≤ x) (sym (same_at j (chain_nz j mem))) (w.marks.on j mem);
        off = at_set (λ j x. j < length f.bytes → ¬ Memᴰ j l → x ≤ 2) (marks_in e) 0 0 (omega (arith, room, marks_long e)) (λ _ _. omega arith) (λ j _. w.marks.off j);
        high = at_set (λ j x. j < length f.bytes → x ≤ 4) (marks_in e) 0 0 (omega (arith, room, marks_long e)) (λ _. omega arith) (λ j _. w.marks.high j);
        reached = at_set (λ j x. j < length f.bytes → Hit x → Reached f j) (marks_in e) 0 0 (omega (arith, room, marks_long e)) (λ _ hit. absurd (omega (arith, hit.low)))
            (λ j _. w.marks.reached j);
        source = at_set (λ j x. j < length f.bytes → ¬ Memᴰ j l → 1 ≤ x → Source f l j) (marks_in e) 0 0 (omega (arith, room, marks_long e)) (λ _ _ one. absurd (omega arith))
            (λ j _ h away one. sourced j away (w.marks.source j h away one));
        targets = λ j m t mem q mem_t nz. subst (λ x. 1 ≤ x) (sym (same_at t.addr nz)) (w.marks.targets j m t mem q mem_t);
        hits = λ j m t mem live q mem_t nz.
            subst Hit (sym (same_at t.addr nz)) (w.marks.hits j m t mem (sym (same_at j (chain_nz j mem)) ∙ live) q mem_t);
        top = subst Hit (sym (same_at f.root ne)) w.marks.top;
      }

  pub marks_of : Marks f (marks_in (set e 0 0)) l
  marks_of = subst (λ x. Marks f x l) (sym (map-set (λ x. x % 8) e 0 0)) marks_zero

  -- address 0 is none of the chain, and has no link
  pub links_of : Linked (length f.bytes) (set e 0 0) l
  links_of =
      record {
        off = at_set (λ j x. j < length f.bytes → ¬ Memᴰ j l → x ≤ 2) e 0 0 room (λ _ _. omega arith) (λ j _. w.links.off j);
        link = at_set (λ j x. Memᴰ j l → (x / 8 ≡ 0) ⊎ Above l j (x / 8)) e 0 0 room (λ i. absurd (chain_nz 0 i refl)) (λ j _. w.links.link j);
      }

module _ {f : Fst} {d l : List ℕ} (m : Marks f d l) where
  -- within the file a mark of 3 or more stands on the chain alone
  in_chain : (j : ℕ) → j < length f.bytes → 3 ≤ get_or d j 0 → Memᴰ j l
  in_chain j h k = go (dec_mem j l)
    where
      go : Dec (Memᴰ j l) → Memᴰ j l
      go (yes i) = i
      go (no i) = absurd (omega (arith, m.off j h i))

  sound_in : (j : ℕ) → Memᴰ j l → (n : Node) × (node_in f j ≡ sound n)
  sound_in = chain_sound m.chain

  in_file : (j : ℕ) → Memᴰ j l → j < length f.bytes
  in_file j i = let p = sound_in j i in node_inside f j p.0 p.1 (λ z. omega (arith, chain_low m.chain j i))

  live_in : (j : ℕ) → j < length f.bytes → Live d j → Memᴰ j l
  live_in j h live = in_chain j h (omega arith)

  live_reached : (j : ℕ) → j < length f.bytes → Live d j → Reached f j
  live_reached j h live = m.reached j h (record { low = omega arith; used = λ z. omega arith })

  -- an address that a node leads to, and that is none of the chain
  pub lost_nodes : LostOne f d → (k : List ℕ) → ¬ Nodes f k
  lost_nodes o k n =
      let same : k ≡ l = root_chain_unique n.chain (rooted m.not_zero m.chain) in
      let away : ¬ Memᴰ o.at l = λ i. omega (arith, m.on o.at i, o.lost) in
      let s = m.source o.at o.inside away o.led in
      let t = s.leads in
      let nz : ¬ (o.at ≡ 0) = λ z. omega (arith, o.led, ap (λ x. get_or d x 0) z, m.zero) in
      let from = subst (λ x. Memᴰ s.at x) (sym same) s.on in
      let to = n.closed s.at s.node t.by from s.judged t.one (λ z. nz (sym t.addr_is ∙ z)) in
      away (subst (λ x. Memᴰ x l) t.addr_is (subst (λ x. Memᴰ t.by.addr x) same to))

  module _ (passed : AllPassed d (length f.bytes)) where
    closed_in : (a : ℕ) (n : Node) (t : Transition) → Memᴰ a l → node_in f a ≡ sound n → Memᴰ t n.transitions → ¬ (t.addr ≡ 0) → Memᴰ t.addr l
    closed_in a n t i e mem nz =
        let inside : t.addr < length f.bytes = omega (arith, node_target_lt f a n e t mem, in_file a i) in
        in_chain t.addr inside (passed.each t.addr inside (m.targets a n t i e mem nz))

    pub chain_nodes : Nodes f l
    chain_nodes = record { chain = rooted m.not_zero m.chain; closed = closed_in }

    -- a reached mark on the chain is 4
    hit_live : (j : ℕ) → Memᴰ j l → Hit (get_or d j 0) → Live d j
    hit_live j i hit = four hit.used (m.high j (in_file j i)) (m.on j i)
      where
        four : {y : ℕ} → ¬ (y ≡ 3) → y ≤ 4 → 3 ≤ y → y ≡ 4
        four ne high low = omega arith

    -- from a node with the mark 4 a path leads to such a node, or to address 0
    path_live : {a : ℕ} {k : List ℕ} {sum b : ℕ} → (a ≡ 0) ⊎ (Memᴰ a l × Live d a) → Path f a k sum b → (b ≡ 0) ⊎ (Memᴰ b l × Live d b)
    path_live on here = on
    path_live {a = a} (inl z) (follow n t e mem p) = absurd (node_zero_none f a n e z t mem)
    path_live {a = a} (inr (i, live)) (follow n t e mem p) =
        path_live
        (elim (ℕ_discrete t.addr 0) [
          | yes z ↦ inl z
          | no z ↦ let to = closed_in a n t i e mem z in inr (to, hit_live t.addr to (m.hits a n t i live e mem z))
        ])
        p

    reached_live : (j : ℕ) → Reached f j → (j ≡ 0) ⊎ (Memᴰ j l × Live d j)
    reached_live j r = let root = chain_head m.chain in path_live (inr (root, hit_live f.root root m.top)) r.path

    -- what has an entry in the tables is what has the mark 4
    table_live : (j : ℕ) → InTable f j → Memᴰ j l × Live d j
    table_live j i = ⊎_elim (λ z. absurd (i.not_zero z)) (λ p. p) (reached_live j i.reached)

    live_table : (j : ℕ) → j < length f.bytes → Live d j → InTable f j
    live_table j h live = record { not_zero = λ z. omega (arith, ap (λ x. get_or d x 0) z, m.zero); reached = live_reached j h live }

    pub long_path : DeepOne f d → LongPath f
    long_path o =
        let i = live_in o.at o.inside o.live in
        let p = longest_attained f (λ a. Memᴰ a l) sound_in closed_in o.at i in
        record {
          from = o.at;
          key = p.key;
          sum = p.sum;
          to = p.to;
          reached = live_reached o.at o.inside o.live;
          path = p.path;
          long = omega (arith, p.length_is, o.deep);
        }

    pub large_sum : HeavyOne f d → LargeSum f
    large_sum o =
        let i = live_in o.at o.inside o.live in
        let p = largest_attained f (λ a. Memᴰ a l) sound_in closed_in o.at i in
        record {
          from = o.at;
          key = p.key;
          sum = p.sum;
          to = p.to;
          last = p.last;
          reached = live_reached o.at o.inside o.live;
          path = p.path;
          ends = p.ends;
          large = omega (arith, p.total_is, o.heavy);
        }

    pub low_shallow : ((j : ℕ) → j < length f.bytes → Live d j → longest f j ≤ max_path) → Shallow f
    unfolding Shallow
    low_shallow low a k sum b r p =
        ⊎_elim (λ z. omega (arith, longest_bound p, ap (longest f) z, longest_zero f)) (λ q. omega (arith, longest_bound p, low a (in_file a q.0) q.1))
        (reached_live a r)

    pub low_light : ((j : ℕ) → j < length f.bytes → Live d j → largest_sum f j ≤ max_sum) → Light f
    unfolding Light
    low_light low a k sum b n r p ends =
        ⊎_elim (λ z. omega (arith, largest_bound p ends, ap (largest_sum f) z, largest_zero f))
        (λ q. omega (arith, largest_bound p ends, low a (in_file a q.0) q.1)) (reached_live a r)

    -- either table, once it is filled in at the marks
    holds_marks : {g : ℕ → ℕ} {d₀ e : List ℕ} → Kept (length f.bytes) d₀ e
        → ((j : ℕ) → j < length f.bytes → ¬ Live d j → get_or e j 0 ≡ 0) → ((j : ℕ) → j < length f.bytes → Live d j → get_or e j 0 ≡ g j)
        → Holds g (InTable f) (length f.bytes) d₀ e
    holds_marks k off on =
        record {
          on = λ a i. let p = table_live a i in on a (in_file a p.0) p.1;
          off = λ a h i. off a h (λ live. i (live_table a h live));
          kept = k;
        }

  pub good_nodes : {d₀ s₀ e s : List ℕ} → Kept (length f.bytes) d₀ e → Kept (length f.bytes) s₀ s → GoodAll f d e s → GoodNodes f d₀ s₀ e s
  good_nodes kd ks g =
      record {
        nodes = l;
        chained = chain_nodes g.passed;
        shallow = low_shallow g.passed (λ j h. (g.depths j h).low);
        light = low_light g.passed (λ j h. (g.sums j h).low);
        depths = holds_marks g.passed kd (λ j h. (g.depths j h).off) (λ j h. (g.depths j h).on);
        sums = holds_marks g.passed ks (λ j h. (g.sums j h).off) (λ j h. (g.sums j h).on);
      }

  judge_case : {d₀ s₀ e s : List ℕ} → Kept (length f.bytes) d₀ e → Kept (length f.bytes) s₀ s → (v : Result ⊤ Refusal) → FillCase f d e s v → JudgeCase f d₀ s₀ e s v
  judge_case kd ks (Ok tt) g = good_nodes kd ks g
  judge_case kd ks (Err r) (FillRefused.lost is one) = JudgeRefused.lost is (lost_nodes one)
  judge_case kd ks (Err r) (FillRefused.deep is passed one) = JudgeRefused.deep is l (chain_nodes passed) (long_path passed one)
  judge_case kd ks (Err r) (FillRefused.heavy is o) =
      JudgeRefused.heavy is l (chain_nodes o.passed) (low_shallow o.passed o.low) (large_sum o.passed o.one)

  judges_by : {d₀ s₀ e₀ e s : List ℕ} {v : Result ⊤ Refusal} → d ≡ marks_in e₀ → Kept (length f.bytes) d₀ e₀ → Filled f e₀ s₀ e s v → Judges f d₀ s₀ e s v
  judges_by {e = e} {s = s} {v = v} same k r =
      let kd = kept_then k r.depths_kept in
      record { depths_kept = kd; sums_kept = r.sums_kept; found = judge_case kd r.sums_kept v (subst (λ x. FillCase f x e s v) (sym same) r.found) }

  -- a node of the chain that is sound by its meaning is sound by its bytes
  sound_live : (j : ℕ) → j < length f.bytes → Live d j → SoundAt f.bytes f.version f.root j
  sound_live j h live =
      let p = sound_in j (live_in j h live) in
      ⊎_elim (λ z. absurd (omega (arith, chain_low m.chain j (live_in j h live), z.0))) (λ q. q.1)
      (node_at_cases f.bytes f.version f.root j p.0 p.1)

module _ {f : Fst} {d l : List ℕ} (m : Marks f (marks_in d) l) where
  pub filled_judges : {d₀ s₀ e s : List ℕ} {v : Result ⊤ Refusal} → Kept (length f.bytes) d₀ d → Filled f d s₀ e s v → Judges f d₀ s₀ e s v
  filled_judges k r = judges_by m refl k r

  pub marks_fillable : {t : List ℕ} → get_or d 0 0 ≡ 0 → Linked (length f.bytes) d l → length f.bytes ≤ length d → length f.bytes ≤ length t
      → ((j : ℕ) → j < length f.bytes → get_or t j 0 ≡ 0) → Fillable f d t
  marks_fillable zero w room_d room_t zeros =
      record {
        room_depths = room_d;
        room_sums = room_t;
        zero = zero;
        high = m.high;
        sounds = sound_live m;
        hits = λ j n t h live e mem nz. m.hits j n t (live_in m j h live) live e mem nz;
        off = λ j h low. w.off j h (λ i. omega (arith, m.on j i));
        links = λ j h three. ⊎_elim (λ z. inl z) (λ up. inr (leads up)) (w.link j (in_chain m j h three));
        zeros = zeros;
      }
    where
      leads : {j k : ℕ} → Above l j k → Leads (length f.bytes) d j k
      leads {j} {k} up =
          let inside : j + k < length f.bytes = in_file m (j + k) up.on in
          record { inside = inside; marked = m.on (j + k) up.on; none = λ i lo hi. omega (arith, m.off i (omega arith) (up.none i lo hi)) }
