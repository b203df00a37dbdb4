-- The chain marked from the root down: what a turn of the loop knows, and what the marks make up.
--     Marking f l d₀ d a up                       of the chain l, the addresses above a are marked, and the chain goes on from a; the last lies
--                                                 up above it
--     marking_none, marking_last, marking_next    before the first turn, after the last, after any other
--     cleared_marks, chain_marks                  the nodes that are laid out, where the root vanishes and where it does not
-- Assumes nothing.
use mathlib.Core.Path.{◌≡◌, refl, sym, ap, ◌∙◌, subst}
use mathlib.Core.Bool.{Bool, true, false}
use mathlib.Core.Logic.{◌⊎◌, inl, inr, ⊎_elim}
use mathlib.Core.List.Memᴰ
use mathlib.Core.List.{List, [], ◌∷◌, ◌++◌, Memᴰ}
use Prim.Native.Nat.{ℕ, ◌+◌, ◌-◌, ◌≤◌, ◌<◌}
use native.Mathlib.Decide.{ℕ_discrete}
use native.Mathlib.Omega.{arith}
use lib.ListN.{length, get_or, set, drop, replicate, length-append, length-replicate, length-drop, get_or-append, get_or-replicate}
use lib.Seq.{drop_at}
use Rattle.format.specs.Node.{Node, sound, empty_final, SoundAt}
use Rattle.format.specs.Paths.{Fst, node_in}
use Rattle.format.specs.Admitted.{Chain}
use Rattle.format.specs.Laws.NodeLaws.{node_at_zero, node_at_cases}
use Rattle.format.specs.Laws.NodeFacts.{node_inside, node_first_le, node_first_low}
use Rattle.format.specs.Laws.ChainLaws.{ChainNext, ChainLast, chain_cases, chain_not_zero, chain_sound, chain_low, chain_le, chain_head, root_chain_cases, root_chain_unique, dec_mem}
use Rattle.admission_node.specs.Entries.{Kept}
use Rattle.admission_node.specs.KeptLaws.{at_set, kept_none, kept_set}
use Rattle.converting.specs.Converting.{vanishes, chain_of}
use Rattle.convert_marks.specs.Marks.{FirstIs, Markable, HopAt, MarksList, MarksChain, MarksNodes}
use Rattle.convert_marks.specs.MarkLaws.{chain_falls, marked_list, marked_none}

pub record Marking (f : Fst) (l d₀ d : List ℕ) (a up : ℕ) : Type 0 where
  pub left : List ℕ
  pub rest : Chain f a left
  pub sub : (j : ℕ) → Memᴰ j left → Memᴰ j l
  pub split : (j : ℕ) → Memᴰ j l → (a < j) ⊎ Memᴰ j left
  -- between a and the address passed last there is none
  pub here_pos : 1 ≤ up
  pub here_end : a + up ≤ length f.bytes
  pub here_gap : (i : ℕ) → a < i → i < a + up → ¬ Memᴰ i l
  pub on : (j : ℕ) → Memᴰ j l → a < j → HopAt (length f.bytes) l j (get_or d j 0)
  pub off : (j : ℕ) → ¬ Memᴰ j l → get_or d j 0 ≡ get_or d₀ j 0
  pub kept : Kept (length f.bytes) d₀ d

-- the node that a chain starts with
start_sound : {f : Fst} {a : ℕ} {l : List ℕ} → Chain f a l → (m : Node) × (node_in f a ≡ sound m)
start_sound {a = a} c = chain_sound c a (chain_head c)

start_inside : {f : Fst} {a : ℕ} {l : List ℕ} → Chain f a l → a < length f.bytes
start_inside {f} {a} c = let n = start_sound c in node_inside f a n.0 n.1 (chain_not_zero c)

pub marking_none : {f : Fst} {a : ℕ} {l : List ℕ} (d : List ℕ) → Chain f a l → Marking f l d d a 1
marking_none {f} {a} {l} d c =
    record {
      left = l;
      rest = c;
      sub = λ j mem. mem;
      split = λ j mem. inr mem;
      here_pos = omega arith;
      here_end = omega (arith, start_inside c);
      here_gap = λ i m k. absurd (omega arith);
      on = λ j mem m. absurd (omega (arith, chain_le c j mem));
      off = λ j away. refl;
      kept = kept_none _ d;
    }

module _ {f : Fst} {l d₀ d : List ℕ} {a up : ℕ} (h : Marking f l d₀ d a up) (room : length f.bytes ≤ length d₀) where
  here : (m : Node) × (node_in f a ≡ sound m)
  here = start_sound h.rest

  pub marking_sound : SoundAt f.bytes f.version f.root a
  marking_sound =
      ⊎_elim (λ z. absurd (chain_not_zero h.rest z.0)) (λ q. q.1) (node_at_cases f.bytes f.version f.root a here.0 here.1)

  marking_inside : a < length f.bytes
  marking_inside = start_inside h.rest

  pub marking_room : a < length d
  marking_room = omega (arith, marking_inside, h.kept.long)

  module _ {first : ℕ} (at : FirstIs f a first) where
    marking_low : 17 ≤ first ⊎ (first ≡ 16)
    marking_low =
        let e = at.each here.0 here.1 in
        let low = node_first_low f a here.0 here.1 (chain_not_zero h.rest) in
        elim (ℕ_discrete first 16) [ yes z ↦ inr z | no z ↦ inl (omega arith) ]

    marking_le : first ≤ a
    marking_le = omega (arith, at.each here.0 here.1, node_first_le f a here.0 here.1 (chain_not_zero h.rest))

    -- where another node follows, it lies below
    pub marking_between : ¬ (first ≡ 16) → (17 ≤ first) × (first ≤ a)
    marking_between more = (⊎_elim (λ l. l) (λ z. absurd (more z)) marking_low, marking_le)

  -- the mark x is stored
  module _ {x : ℕ} (some : 1 ≤ x) (le : x ≤ up) where
    marks_off : (j : ℕ) → ¬ Memᴰ j l → get_or (set d a x) j 0 ≡ get_or d₀ j 0
    marks_off =
        at_set (λ j y. ¬ Memᴰ j l → y ≡ get_or d₀ j 0) d a x marking_room
        (λ away. absurd (away (h.sub a (chain_head h.rest)))) (λ j ne away. h.off j away)

    hop_here : HopAt (length f.bytes) l a x
    hop_here = record { some = λ z. omega arith; end = omega (arith, h.here_end); gap = λ i m k. h.here_gap i m (omega arith) }

    marks_on : (j : ℕ) → Memᴰ j l → a ≤ j → HopAt (length f.bytes) l j (get_or (set d a x) j 0)
    marks_on =
        at_set (λ j y. Memᴰ j l → a ≤ j → HopAt (length f.bytes) l j y) d a x marking_room (λ _ _. hop_here)
        (λ j ne mem m. h.on j mem (above j ne m))
      where
        above : (j : ℕ) → ¬ (j ≡ a) → a ≤ j → a < j
        above j ne m = omega (arith, ne)

    -- what is left is a and others
    apart : (others : List ℕ) → h.left ≡ a ∷ others → (j : ℕ) → Memᴰ j l → (a ≤ j) ⊎ Memᴰ j others
    apart others is j mem =
        ⊎_elim (λ m. inl (omega (arith, m)))
        (λ k. ⊎_elim (λ e. inl (omega (arith, e))) (λ q. inr q) (Memᴰ.cases_cons (subst (Memᴰ j) is k)))
        (h.split j mem)

    module _ {first : ℕ} (at : FirstIs f a first) where
      pub marking_last : first ≡ 16 → MarksList (length f.bytes) l d₀ (set d a x)
      marking_last done = record { on = go (chain_cases h.rest); off = marks_off; kept = kept_set a x marking_inside h.kept }
        where
          go : ChainLast f a h.left ⊎ ChainNext f a h.left → (j : ℕ) → Memᴰ j l → HopAt (length f.bytes) l j (get_or (set d a x) j 0)
          go (inl z) j mem = ⊎_elim (λ m. marks_on j mem m) (λ k. absurd (Memᴰ.not-nil k)) (apart [] z.list_is j mem)
          go (inr n) j mem = absurd (n.more (sym (at.each n.node n.judged) ∙ done))

      pub marking_next : ¬ (first ≡ 16) → Marking f l d₀ (set d a x) (first - 1) (a - (first - 1))
      marking_next more = go (chain_cases h.rest)
        where
          go : ChainLast f a h.left ⊎ ChainNext f a h.left → Marking f l d₀ (set d a x) (first - 1) (a - (first - 1))
          go (inl z) = absurd (more (at.each z.node z.judged ∙ z.done))
          go (inr n) =
              let rest : Chain f (first - 1) n.others =
              subst (λ (y : ℕ). Chain f (y - 1) n.others) (sym (at.each n.node n.judged)) n.rest in
              let low = node_first_low f a here.0 here.1 (chain_not_zero h.rest) in
              let is = at.each here.0 here.1 in
              let le = marking_le at in
              record {
                left = n.others;
                rest = rest;
                sub = λ j mem. h.sub j (subst (Memᴰ j) (sym n.list_is) (Memᴰ.tail mem));
                split = λ j mem. ⊎_elim (λ m. inl (omega (arith, m))) (λ q. inr q) (apart n.others n.list_is j mem);
                here_pos = omega arith;
                here_end = omega (arith, marking_inside);
                here_gap = λ i m k mem.
                    ⊎_elim (λ q. omega (arith, q)) (λ q. omega (arith, chain_le rest i q)) (apart n.others n.list_is i mem);
                on = λ j mem m.
                    marks_on j mem (⊎_elim (λ q. q) (λ q. absurd (omega (arith, chain_le rest j q))) (apart n.others n.list_is j mem));
                off = marks_off;
                kept = kept_set a x marking_inside h.kept;
              }

-- the marks of a chain, by another name
pub marks_as : {n : ℕ} {l k d₀ d : List ℕ} → l ≡ k → MarksList n l d₀ d → MarksList n k d₀ d
marks_as e h = rw (← e) h

-- ---- the nodes that are laid out

pub chain_of_gone : (f : Fst) (l : List ℕ) → vanishes (node_in f f.root) ≡ true → chain_of f l ≡ []
chain_of_gone f l e = rw e

pub chain_of_kept : (f : Fst) (l : List ℕ) → vanishes (node_in f f.root) ≡ false → chain_of f l ≡ l
chain_of_kept f l e = rw e

-- a root that does not vanish is not 0
pub root_some : {f : Fst} {d₀ : List ℕ} (ok : Markable f d₀) → vanishes (node_in f f.root) ≡ false → Chain f f.root ok.nodes
root_some {f} ok kept = ⊎_elim (λ z. absurd (zero z)) (λ c. c.1) (root_chain_cases ok.chain)
  where
    zero : (f.root ≡ 0) × (ok.nodes ≡ []) → ⊥
    zero z =
        let e : node_in f f.root ≡ sound empty_final = ap (node_in f) z.0 ∙ node_at_zero f.bytes f.version f.root ok.inside in
        let q : ◌≡◌ {A = Bool} true false = sym (ap vanishes e) ∙ kept in
        let y : ◌≡◌ {A = ℕ} 0 1 = cc in
        omega arith

module _ {f : Fst} {d₀ d : List ℕ} (ok : Markable f d₀) where
  pub cleared_marks : vanishes (node_in f f.root) ≡ true → d ≡ replicate (length f.bytes) 0 ++ drop (length f.bytes) d₀ → MarksNodes f d₀ d
  cleared_marks gone is =
      let n : ℕ = length f.bytes in
      record {
        kept = record {
          long = ap (λ (x : List ℕ). length x) is ∙ omega (arith, length-append (replicate n 0) (drop n d₀), length-replicate {A = ℕ} n 0, length-drop n d₀, ok.room);
          beyond = ap (drop n) is ∙ drop_at (replicate n 0) (drop n d₀) n (length-replicate {A = ℕ} n 0);
        };
        each = λ l c. marked_none d n (λ j lt. ap (λ (x : List ℕ). get_or x j 0) is ∙ zero_at n j (drop n d₀) lt) ∙ sym (chain_of_gone f l gone);
        hops = record {
          end = λ j lt ne. absurd (ne (ap (λ (x : List ℕ). get_or x j 0) is ∙ zero_at n j (drop n d₀) lt));
          gap = λ j lt ne i m k. absurd (ne (ap (λ (x : List ℕ). get_or x j 0) is ∙ zero_at n j (drop n d₀) lt));
        };
      }
    where
      zero_at : (n j : ℕ) (r : List ℕ) → j < n → get_or (replicate n 0 ++ r) j 0 ≡ 0
      zero_at n j r lt = get_or-append (replicate n 0) r 0 j (rw (length-replicate {A = ℕ} n 0) lt) ∙ get_or-replicate n j 0 0 lt

  pub chain_marks : vanishes (node_in f f.root) ≡ false → MarksChain f d₀ d → MarksNodes f d₀ d
  chain_marks kept marks =
      let c = root_some ok kept in
      let h = marks.each ok.nodes c in
      record {
        kept = h.kept;
        each = λ l r.
            marked_list d (length f.bytes) ok.nodes (chain_falls c)
            (λ j mem.
            let s = chain_sound c j mem in
            (node_inside f j s.0 s.1 (λ z. omega (arith, chain_low c j mem)), (h.on j mem).some))
            (λ j lt away. h.off j away ∙ ok.off j lt away)
            ∙ root_chain_unique ok.chain r ∙ sym (chain_of_kept f l kept);
        hops = record {
          end = λ j lt ne. (h.on j (on_list j lt ne)).end;
          gap = λ j lt ne i m k.
              let q = h.on j (on_list j lt ne) in
              h.off i (q.gap i m k) ∙ ok.off i (omega (arith, q.end)) (q.gap i m k);
        };
      }
    where
      -- a marked address is on the chain
      on_list : (j : ℕ) → j < length f.bytes → ¬ (get_or d j 0 ≡ 0) → Memᴰ j ok.nodes
      on_list j lt ne =
          elim (dec_mem j ok.nodes) [ yes m ↦ m | no m ↦ absurd (ne ((marks.each ok.nodes (root_some ok kept)).off j m ∙ ok.off j lt m)) ]
