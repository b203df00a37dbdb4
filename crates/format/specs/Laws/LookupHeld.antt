-- On an admitted file a lookup by key is exact: it answers the held value, or "none" where the key is not held, and is never refused.
--     get_from_exact         of a key's rest, from a node that a path from the root reaches
--     get_exact              of a whole key (`Exact`: `GetExact`)
-- Assumes nothing.
use Rattle.std.specs.Prelude.{◌≡◌, refl, Bool, true, false, ℕ, ◌+◌, ◌≤◌, ◌<◌, length}
use Rattle.std.proofs.Common.{sym, ap, ◌∙◌, true≢false, arith}
use mathlib.Core.List.{List, [], ◌∷◌, ◌++◌, Memᴰ}
use Rattle.std.proofs.Math.Decide.{ℕ_discrete}
use Rattle.format.specs.declared.Transition.{Transition}
use Rattle.format.specs.Limits.{max_sum}
use Rattle.format.specs.Node.{Node, sound, Search, find_input, transition_at}
use Rattle.format.specs.Laws.TransitionLaws.{at_member}
use Rattle.format.specs.Paths.{Fst, fst_of, node_in, Path, here, Held, HeldFrom}
use Rattle.format.specs.Admitted.{Admitted}
use Rattle.format.specs.Laws.NodeFacts.{find_member, find_none}
use Rattle.format.specs.Laws.PathLaws.{path_snoc, held_unique, blank_held}
use Rattle.format.specs.Laws.ReachedLaws.{PathEnd, path_reached, held_from, from_held, held_here, held_by, held_nil, held_step, held_input}
use Rattle.format.specs.Lookup.{Answer, get_from, get}
use Rattle.format.specs.Exact.{GetExact}
use Rattle.format.specs.Laws.LookupLaws.{get_from_end_value, get_from_end_none, get_from_absent, get_from_step, get_opened, get_blank}

-- ---- from a node

-- k is held from a and its value comes, or it is not and none comes
pub data FromExact (f : Fst) (a : ℕ) (k : List ℕ) (sum : ℕ) : Type 0 where
  held : (w : ℕ) → HeldFrom f a k w → get_from f k a sum ≡ Answer.value (sum + w) → FromExact f a k sum
  unheld : ((w : ℕ) → ¬ HeldFrom f a k w) → get_from f k a sum ≡ Answer.none → FromExact f a k sum

end_exact : (f : Fst) (a sum : ℕ) (m : Node) → node_in f a ≡ sound m → sum + m.final_output ≤ max_sum → FromExact f a [] sum
end_exact f a sum m e light = go m.final refl
  where
    go : (t : Bool) → m.final ≡ t → FromExact f a [] sum
    go true is = held m.final_output (held_here f a m e is) (get_from_end_value f a sum m e (omega arith) is light)
    go false is =
        unheld (λ w h. true≢false (sym (held_nil f a m e h).0 ∙ is))
        (get_from_end_none f a sum m e (omega arith) is)

module _ (f : Fst) (a sum : ℕ) (m : Node) (e : node_in f a ≡ sound m) (fits : sum ≤ max_sum) (b : ℕ) (k : List ℕ) where
  absent_exact : {p : ℕ} → find_input m.transitions b ≡ Search.absent p → FromExact f a (b ∷ k) sum
  absent_exact none =
      unheld (λ w h. let q = held_input f a m e h in find_none f a m e b none q.0 q.1 q.2) (get_from_absent f a sum m e fits b k none)

  step_exact : (i : ℕ) → find_input m.transitions b ≡ Search.at i → (t : Transition) → transition_at m.transitions i ≡ t
      → FromExact f t.addr k (sum + t.out) → FromExact f a (b ∷ k) sum
  step_exact i found t is rest =
      let q = find_member f a m e b i found in
      go (rw is at q.1) (rw is at (at_member m.transitions i q.0)) (rw is at (get_from_step f a sum m e fits b k i found)) rest
    where
      go : t.inp ≡ b → Memᴰ t m.transitions → get_from f (b ∷ k) a sum ≡ get_from f k t.addr (sum + t.out) → FromExact f t.addr k (sum + t.out)
          → FromExact f a (b ∷ k) sum
      go inp mem goes (held w h val) =
          let add : sum + t.out + w ≡ sum + (t.out + w) = omega arith in
          held (t.out + w) (rw inp at (held_by f a m e t mem h)) (goes ∙ val ∙ ap Answer.value add)
      go inp mem goes (unheld none val) =
          unheld (λ w h. let r = held_step f a m e t mem {k = k} {v = w} (rw inp h) in none r.0 r.1) (goes ∙ val)

module _ {f : Fst} (reached : (k : List ℕ) (sum b : ℕ) → Path f f.root k sum b → PathEnd f k sum b) where
  pub get_from_exact : (k : List ℕ) {p : List ℕ} {sum a : ℕ} → Path f f.root p sum a → FromExact f a k sum
  get_from_exact [] {p} {sum} {a} path = let r = reached p sum a path in end_exact f a sum r.node r.judged r.light
  get_from_exact (b ∷ k) {p} {sum} {a} path = go (reached p sum a path) (λ q n c. get_from_exact k {p = q} {sum = n} {a = c})
    where
      go : PathEnd f p sum a → ((q : List ℕ) (n c : ℕ) → Path f f.root q n c → FromExact f c k n) → FromExact f a (b ∷ k) sum
      go r rest = by (find_input r.node.transitions b) refl
        where
          by : (q : Search) → find_input r.node.transitions b ≡ q → FromExact f a (b ∷ k) sum
          by (Search.absent p) none = absent_exact f a sum r.node r.judged (omega (arith, r.light)) b k none
          by (Search.at i) found =
              let t = transition_at r.node.transitions i in
              let mem = at_member r.node.transitions i (find_member f a r.node r.judged b i found).0 in
              step_exact f a sum r.node r.judged (omega (arith, r.light)) b k i found t refl
              (rest (p ++ (t.inp ∷ [])) (sum + t.out) t.addr (path_snoc r.node t path r.judged mem))

-- ---- a whole key

exact_held : (s : List ℕ) (f : Fst) (k : List ℕ) (w : ℕ) → Held f k w → get s k ≡ Answer.value w → GetExact s f k
exact_held s f k w h e =
    record {
      get_held = λ v g. e ∙ ap Answer.value (held_unique h g);
      held_get = λ v q. let same : w ≡ v = cc in rw same at h;
      get_none = λ none. absurd (none w h);
      none_held = λ q. absurd (let z : ◌≡◌ {A = ℕ} 0 1 = cc in omega arith);
      get_not_refused = λ n q. let z : ◌≡◌ {A = ℕ} 0 1 = cc in omega arith;
    }

exact_unheld : (s : List ℕ) (f : Fst) (k : List ℕ) → ((v : ℕ) → ¬ Held f k v) → get s k ≡ Answer.none → GetExact s f k
exact_unheld s f k none e =
    record {
      get_held = λ v g. absurd (none v g);
      held_get = λ v q. absurd (let z : ◌≡◌ {A = ℕ} 0 1 = cc in omega arith);
      get_none = λ _. e;
      none_held = λ _. none;
      get_not_refused = λ n q. let z : ◌≡◌ {A = ℕ} 0 1 = cc in omega arith;
    }

pub get_exact : {s : List ℕ} (A : Admitted s) (k : List ℕ) → GetExact s (fst_of s A.meta) k
get_exact {s} A k =
    elim (ℕ_discrete (length s) 0) [
      | yes z ↦ exact_unheld s (fst_of s A.meta) k (λ v. blank_held z) (get_blank s k A.meta A.opens z)
      | no z ↦ let pos : 0 < length s = omega arith in go pos (get_from_exact (λ p sum b path. path_reached A pos path) k here)
    ]
  where
    go : 0 < length s → FromExact (fst_of s A.meta) A.meta.root k 0 → GetExact s (fst_of s A.meta) k
    go pos (held w h e) =
        let add : 0 + w ≡ w = omega arith in
        exact_held s (fst_of s A.meta) k w (from_held h) (get_opened s k A.meta A.opens pos ∙ e ∙ ap Answer.value add)
    go pos (unheld none e) = exact_unheld s (fst_of s A.meta) k (λ v h. none v (held_from h)) (get_opened s k A.meta A.opens pos ∙ e)
