-- The walk by pattern, on the viable visits: it drops them up to the first that passes the upper bound or is a key that fits.
--     Walked, walk_come      the ways of a walk from sane levels: the end, past the upper bound, or a key
-- Assumes nothing.
use Prim.{tt}
use Rattle.std.specs.Prelude.{◌≡◌, refl, Bool, true, false, ◌&&◌, List, [], ◌∷◌, ◌++◌, ℕ, zero, suc, ◌+◌, ◌-◌, ◌<◌, ◌≤◌, ltb, leb, length}
use Rattle.std.proofs.Common.{sym, ◌∙◌, ap, add_assoc, arith, lt-ltb, le-leb, ltb-true, ltb-false}
use Rattle.format.specs.Limits.{max_path, max_sum}
use Rattle.format.specs.Node.{Node, Judgement, sound}
use Rattle.format.specs.Laws.TransitionLaws.{at_member}
use Rattle.format.specs.Paths.{Fst, node_in}
use Rattle.format.specs.Strings.{Bound}
use Rattle.reading.specs.Demand.{capped}
use Rattle.reading.specs.Reading.{passes_test, Level, key_of, next_trans, child, stepped}
use Rattle.reading.specs.Visits.{Visit, left, final?, Fine, Sane, AllV}
use Rattle.reading.proofs.LeftLaws.{left_pop, left_follow}
use Rattle.reading.specs.VisitLists.{fine_node, fine_step}
use Rattle.reading.proofs.RunLaws.{Idle, first, first_key, counted_capped}
use Rattle.pattern.specs.Pattern.{Pattern, start_test, fits_test, found, ended, walk_by}
use Rattle.pattern.proofs.WalkLaws.{walk_by_lem}
use Rattle.pattern.proofs.ViableLaws.{judged_by, come_by, by_dead, by_used, by_follow}

pub data Walked (f : Fst) (p : Pattern) (hi : Bound) (s : List Level) : Type 0 where
  -- unlike a call without pattern it may follow visits and come to the end
  at_end : (taken : List Visit) → AllV (Idle hi) taken → come_by f p s ≡ taken → ((n : ℕ) → walk_by f p hi s (capped n) ≡ ended (capped (n + length taken))) → Walked f p hi s
  over_at : (taken : List Visit) (v : Visit) (more : List Visit) → AllV (Idle hi) taken → come_by f p s ≡ taken ++ (v ∷ more) → passes_test hi v.key ≡ true
      → ((n : ℕ) → walk_by f p hi s (capped n) ≡ ended (capped (n + suc (length taken)))) → Walked f p hi s
  key_at_lem : (taken : List Visit) (v : Visit) (to : List Level) → AllV (Idle hi) taken → come_by f p s ≡ taken ++ (v ∷ come_by f p to) → Sane f to
      → passes_test hi v.key ≡ false → v.final ≡ true → key_of to ≡ v.key
      → ((n : ℕ) → walk_by f p hi s (capped n) ≡ found to v.value (capped (n + suc (length taken)))) → Walked f p hi s

module _ (f : Fst) (p : Pattern) (hi : Bound) where
  -- a pop
  walked_pop : (s s' : List Level) → come_by f p s ≡ come_by f p s' → ((n : ℕ) → walk_by f p hi s (capped n) ≡ walk_by f p hi s' (capped n)) → Walked f p hi s' → Walked f p hi s
  walked_pop s s' same on (at_end taken idle e go) = at_end taken idle (same ∙ e) (λ n. on n ∙ go n)
  walked_pop s s' same on (over_at taken v more idle split ps go) = over_at taken v more idle (same ∙ split) ps (λ n. on n ∙ go n)
  walked_pop s s' same on (key_at_lem taken v to idle split sane np fin key_is_lem go) = key_at_lem taken v to idle (same ∙ split) sane np fin key_is_lem (λ n. on n ∙ go n)

  -- a follow to what is neither a key that fits nor past the upper bound
  walked_on : (s s' : List Level) (w : Visit) → come_by f p s ≡ w ∷ come_by f p s' → Idle hi w → ((n : ℕ) → walk_by f p hi s (capped n) ≡ walk_by f p hi s' (capped (n + 1)))
      → Walked f p hi s' → Walked f p hi s
  walked_on s s' w come idle on (at_end taken all e go) =
      at_end (w ∷ taken) (idle, all) (come ∙ ap (λ (r : List Visit). w ∷ r) e)
      (λ n. let j : n + 1 + length taken ≡ n + suc (length taken) = omega arith in on n ∙ go (n + 1) ∙ ap (λ (k : ℕ). ended (capped k)) j)
  walked_on s s' w come idle on (over_at taken v more all split ps go) =
      over_at (w ∷ taken) v more (idle, all) (come ∙ ap (λ (r : List Visit). w ∷ r) split) ps
      (λ n. let j : n + 1 + suc (length taken) ≡ n + suc (suc (length taken)) = omega arith in on n ∙ go (n + 1) ∙ ap (λ (k : ℕ). ended (capped k)) j)
  walked_on s s' w come idle on (key_at_lem taken v to all split sane np fin key_is_lem go) =
      key_at_lem (w ∷ taken) v to (idle, all) (come ∙ ap (λ (r : List Visit). w ∷ r) split) sane np fin key_is_lem
      (λ n. let j : n + 1 + suc (length taken) ≡ n + suc (suc (length taken)) = omega arith in on n ∙ go (n + 1) ∙ ap (λ (k : ℕ). found to v.value (capped k)) j)

  module _ (l : Level) (m : Node) (s : List Level) (sane : Sane f (l ∷ s)) (e : node_in f l.addr ≡ sound m) (g : l.trans < length m.transitions)
      (live : start_test p.positions p.rest (key_of (l ∷ s)) ≡ true) where
    abbrev to : List Level
    to = child l m ∷ stepped l ∷ s

    walked_follow : (Sane f to → Walked f p hi to) → Walked f p hi (l ∷ s)
    walked_follow deeper =
        let mem = at_member m.transitions l.trans g in
        let q = fine_step (max_path - length s) f l.addr l.out m (next_trans l m) sane.1 e mem in
        let d : max_path - suc (length s) ≡ max_path - length s - 1 = omega arith in
        let fine : Fine (max_path - suc (length s)) f (next_trans l m).addr (l.out + (next_trans l m).out) = rw d q.1 in
        let n = fine_node (max_path - suc (length s)) f (next_trans l m).addr (l.out + (next_trans l m).out) fine in
        let new : Sane f to = (omega (arith, q.0), fine, sane) in
        by n.0 n.1 n.2 (omega (arith, q.0)) new (deeper new) (passes_test hi (key_of to)) refl (n.0.final && fits_test p.positions p.rest (key_of to)) refl
      where
        by : (n : Node) → node_in f (next_trans l m).addr ≡ sound n → l.out + (next_trans l m).out + n.final_output ≤ max_sum → length s < max_path → Sane f to → Walked f p hi to
            → (c : Bool) → passes_test hi (key_of to) ≡ c → (b : Bool) → (n.final && fits_test p.positions p.rest (key_of to)) ≡ b → Walked f p hi (l ∷ s)
        by n en light room new more c ec b eb = ways c ec b eb
          where
            come : come_by f p (l ∷ s) ≡ judged_by p (first f l m s) ∷ come_by f p to
            come = by_follow p f l m s room e g live

            left_over : ltb l.trans (length m.transitions) ≡ true
            left_over = lt-ltb l.trans (length m.transitions) g

            deep : ltb (length s) max_path ≡ true
            deep = lt-ltb (length s) max_path room

            fits : leb (l.out + (next_trans l m).out) max_sum ≡ true
            fits = le-leb (l.out + (next_trans l m).out) max_sum (omega arith)

            fits_final : leb (l.out + (next_trans l m).out + n.final_output) max_sum ≡ true
            fits_final = le-leb (l.out + (next_trans l m).out + n.final_output) max_sum light

            is_final_lem : (b : Bool) → (n.final && fits_test p.positions p.rest (key_of to)) ≡ b → (judged_by p (first f l m s)).final ≡ b
            is_final_lem b eb =
                ap (λ (j : Judgement). final? j && fits_test p.positions p.rest (first f l m s).key) en
                ∙ ap (λ (k : List ℕ). n.final && fits_test p.positions p.rest k) (first_key f l m s)
                ∙ eb

            passes : (c : Bool) → passes_test hi (key_of to) ≡ c → passes_test hi (first f l m s).key ≡ c
            passes c ec = ap (passes_test hi) (first_key f l m s) ∙ ec

            ways : (c : Bool) → passes_test hi (key_of to) ≡ c → (b : Bool) → (n.final && fits_test p.positions p.rest (key_of to)) ≡ b → Walked f p hi (l ∷ s)
            ways true ec b eb =
                over_at [] (judged_by p (first f l m s)) (come_by f p to) tt come (passes true ec)
                (λ k. walk_by_lem f p hi (l ∷ s) (capped k) ∙ simp (e, left_over, live, deep, fits, en, ec, counted_capped k))
            ways false ec true eb =
                key_at_lem [] (judged_by p (first f l m s)) to tt come new (passes false ec) (is_final_lem true eb) (sym (first_key f l m s))
                (λ k.
                walk_by_lem f p hi (l ∷ s) (capped k)
                ∙ simp (e, left_over, live, deep, fits, en, ec, eb, fits_final, counted_capped k)
                (ap (λ (v : ℕ). found to v (capped (k + 1))) (add_assoc l.out (next_trans l m).out n.final_output)))
            ways false ec false eb =
                walked_on (l ∷ s) to (judged_by p (first f l m s)) come (passes false ec, is_final_lem false eb)
                (λ k. walk_by_lem f p hi (l ∷ s) (capped k) ∙ simp (e, left_over, live, deep, fits, en, ec, eb, counted_capped k))
                more

  walk_from : (fuel : ℕ) (s : List Level) → left f s < fuel → Sane f s → Walked f p hi s
  walk_from zero s h sane = absurd (omega arith)
  walk_from (suc fuel) [] h sane =
      at_end [] tt refl (λ n. let j : n ≡ n + 0 = omega arith in walk_by_lem f p hi [] (capped n) ∙ ap (λ (k : ℕ). ended (capped k)) j)
  walk_from (suc fuel) (l ∷ s) h sane =
      let n = fine_node (max_path - length s) f l.addr l.out sane.1 in
      by n.0 n.1 (ltb l.trans (length n.0.transitions)) refl (start_test p.positions p.rest (key_of (l ∷ s))) refl
      (walk_from fuel s (omega (arith, left_pop f l s)) sane.2)
      (λ to less right. walk_from fuel to (omega arith) right)
    where
      by : (m : Node) → node_in f l.addr ≡ sound m → (b : Bool) → ltb l.trans (length m.transitions) ≡ b
          → (c : Bool) → start_test p.positions p.rest (key_of (l ∷ s)) ≡ c → Walked f p hi s
          → ((to : List Level) → left f to < left f (l ∷ s) → Sane f to → Walked f p hi to) → Walked f p hi (l ∷ s)
      by m e false eb c ec popped deeper =
          walked_pop (l ∷ s) s (by_used p f l m s e (ltb-false l.trans (length m.transitions) eb)) (λ n. walk_by_lem f p hi (l ∷ s) (capped n) ∙ simp (e, eb)) popped
      by m e true eb false ec popped deeper =
          walked_pop (l ∷ s) s (by_dead p f l s ec) (λ n. walk_by_lem f p hi (l ∷ s) (capped n) ∙ simp (e, eb, ec)) popped
      by m e true eb true ec popped deeper =
          let g = ltb-true l.trans (length m.transitions) eb in
          let q = fine_step (max_path - length s) f l.addr l.out m (next_trans l m) sane.1 e (at_member m.transitions l.trans g) in
          walked_follow l m s sane e g ec
          (deeper (child l m ∷ stepped l ∷ s) (left_follow f l m s (omega (arith, q.0)) e g))

  pub walk_come : (s : List Level) → Sane f s → Walked f p hi s
  walk_come s sane = walk_from (suc (left f s)) s (omega arith) sane
