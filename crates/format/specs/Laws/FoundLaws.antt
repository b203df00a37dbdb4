-- What the search by value says where the file is not numbered. A found key leads by a path from the root to a final node, and its
-- outputs add up to the value looked for; that node's final output is left out, so the key's held value may be larger. "None" then
-- says only that the way the search took came to an end. On an admitted file the only refusal is SPACE.
--     KeyStep m v                what the search does at a node
--     FoundFrom f a k v          the path that a found key takes
--     found_path                 of every file that opens; admitted_found_path of an admitted one
--     get_key_refused_space      of every admitted file
-- Assumes nothing.
use Rattle.std.specs.Prelude.{◌≡◌, refl, Bool, true, false, ◌&&◌, List, [], ◌∷◌, ◌++◌, ℕ, zero, suc, ◌+◌, ◌-◌, ◌≤◌, ◌<◌, eqb, length}
use Rattle.std.proofs.Common.{sym, ◌∙◌, subst, arith, length-append}
use Rattle.std.proofs.Math.Decide.{ℕ_discrete, dec_lt}
use Rattle.format.specs.declared.Refusal.{Refusal}
use Rattle.format.specs.Limits.{max_path, SPACE}
use Rattle.format.specs.Node.{Node, Judgement, sound, unsound, Place, at, absent, transition_at}
use Rattle.format.specs.Laws.TransitionLaws.{at_member}
use Rattle.format.specs.Opening.{Meta, opened, opening}
use Rattle.format.specs.Paths.{Fst, fst_of, node_in, Path, here, follow}
use Rattle.format.specs.Admitted.{Admitted}
use Rattle.format.specs.Laws.PathLaws.{path_snoc}
use Rattle.format.specs.Laws.ReachedLaws.{PathEnd, path_reached}
use Rattle.format.specs.Lookup.{KeyAnswer, last_fitting, with_byte, get_key_from, get_key}
use Rattle.format.specs.Laws.LookupLaws.{at_fitting, key_goes_on_value, key_goes_on_final, get_key_from_unsound, get_key_from_end, get_key_from_none, get_key_from_deep, get_key_from_step, get_key_space, get_key_opened, get_key_blank}

-- ---- at a node

-- the key ends there, no transition fits, or the search follows the transition at i
pub data KeyStep (m : Node) (v : ℕ) : Type 0 where
  ends : v ≡ 0 → m.final ≡ true → KeyStep m v
  stuck : (eqb v 0 && m.final) ≡ false → last_fitting m.transitions v ≡ absent → KeyStep m v
  goes : (eqb v 0 && m.final) ≡ false → (i : ℕ) → last_fitting m.transitions v ≡ at i → KeyStep m v

pub key_step : (m : Node) (v : ℕ) → KeyStep m v
key_step m v = go (ℕ_discrete v 0) m.final refl
  where
    on : (eqb v 0 && m.final) ≡ false → (p : Place) → last_fitting m.transitions v ≡ p → KeyStep m v
    on is absent none = stuck is none
    on is (at i) fits = goes is i fits

    go : Dec (v ≡ 0) → (t : Bool) → m.final ≡ t → KeyStep m v
    go (yes z) true is = ends z is
    go (yes z) false is = on (key_goes_on_final v m.final is) (last_fitting m.transitions v) refl
    go (no ne) t is = on (key_goes_on_value v m.final ne) (last_fitting m.transitions v) refl

-- what stands behind an answer with a byte more
with_byte_found : (b : ℕ) (x : KeyAnswer) (k : List ℕ) → with_byte b x ≡ KeyAnswer.found k → (r : List ℕ) × (x ≡ KeyAnswer.found r) × (k ≡ b ∷ r)
with_byte_found b (KeyAnswer.found r) k e = (r, refl, cc)
with_byte_found b KeyAnswer.none k e = absurd (let z : ◌≡◌ {A = ℕ} 0 1 = cc in omega arith)
with_byte_found b (KeyAnswer.refused n) k e = absurd (let z : ◌≡◌ {A = ℕ} 0 1 = cc in omega arith)

with_byte_refused : (b : ℕ) (x : KeyAnswer) (n : Refusal) → with_byte b x ≡ KeyAnswer.refused n → x ≡ KeyAnswer.refused n
with_byte_refused b (KeyAnswer.found r) n e = absurd (let z : ◌≡◌ {A = ℕ} 0 1 = cc in omega arith)
with_byte_refused b KeyAnswer.none n e = absurd (let z : ◌≡◌ {A = ℕ} 0 1 = cc in omega arith)
with_byte_refused b (KeyAnswer.refused m) n e = e

-- ---- a found key, in every file

pub record FoundFrom (f : Fst) (a : ℕ) (k : List ℕ) (v : ℕ) : Type 0 where
  pub to : ℕ
  pub last : Node
  pub path : Path f a k v to
  pub ends : node_in f to ≡ sound last
  pub final : last.final ≡ true

found_by : (f : Fst) (a v : ℕ) (m : Node) → node_in f a ≡ sound m → (i : ℕ) → last_fitting m.transitions v ≡ at i → (k : List ℕ)
    → FoundFrom f (transition_at m.transitions i).addr k (v - (transition_at m.transitions i).out)
    → FoundFrom f a ((transition_at m.transitions i).inp ∷ k) v
found_by f a v m e i is k r =
    let h = at_fitting m.transitions v i is in
    let t = transition_at m.transitions i in
    let back : t.out + (v - t.out) ≡ v = omega (arith, h.fit i (omega arith)) in
    record {
      to = r.to;
      last = r.last;
      path = subst (λ n. Path f a (t.inp ∷ k) n r.to) back (follow m t e (at_member m.transitions i h.within) r.path);
      ends = r.ends;
      final = r.final;
    }

found_node : (f : Fst) (room a v : ℕ) (k : List ℕ) → get_key_from room f a v ≡ KeyAnswer.found k → (m : Node) × (node_in f a ≡ sound m)
found_node f room a v k is = go (node_in f a) refl
  where
    go : (j : Judgement) → node_in f a ≡ j → (m : Node) × (node_in f a ≡ sound m)
    go (sound m) e = (m, e)
    go unsound e = let r = get_key_from_unsound f room a v e in absurd (let z : ◌≡◌ {A = ℕ} 0 1 = cc in omega arith)

found_here : (f : Fst) (room a v : ℕ) (m : Node) (k : List ℕ) → node_in f a ≡ sound m → v ≡ 0 → m.final ≡ true → get_key_from room f a v ≡ KeyAnswer.found k
    → FoundFrom f a k v
found_here f room a v m k e z final is =
    let q = get_key_from_end f a v m e room z final in
    let nil : k ≡ [] = let p : [] ≡ k = cc in sym p in
    record { to = a; last = m; path = rw (nil, z) (here {a = a}); ends = e; final = final }

pub found_from : (f : Fst) (room a v : ℕ) (k : List ℕ) → get_key_from room f a v ≡ KeyAnswer.found k → FoundFrom f a k v
found_from f zero a v k is = let q = found_node f 0 a v k is in go q.0 q.1 (key_step q.0 v)
  where
    go : (m : Node) → node_in f a ≡ sound m → KeyStep m v → FoundFrom f a k v
    go m e (ends z final) = found_here f 0 a v m k e z final is
    go m e (stuck on none) = let r = get_key_from_none f a v m e on 0 none in absurd (let z : ◌≡◌ {A = ℕ} 0 1 = cc in omega arith)
    go m e (goes on i fits) = let r = get_key_from_deep f a v m e on i fits in absurd (let z : ◌≡◌ {A = ℕ} 0 1 = cc in omega arith)
found_from f (suc room) a v k is =
    let q = found_node f (suc room) a v k is in
    go (λ b w r. found_from f room b w r) q.0 q.1 (key_step q.0 v)
  where
    go : ((b w : ℕ) (r : List ℕ) → get_key_from room f b w ≡ KeyAnswer.found r → FoundFrom f b r w) → (m : Node) → node_in f a ≡ sound m → KeyStep m v
        → FoundFrom f a k v
    go rest m e (ends z final) = found_here f (suc room) a v m k e z final is
    go rest m e (stuck on none) = let r = get_key_from_none f a v m e on (suc room) none in absurd (let z : ◌≡◌ {A = ℕ} 0 1 = cc in omega arith)
    go rest m e (goes on i fits) =
        let t = transition_at m.transitions i in
        let w = with_byte_found t.inp (get_key_from room f t.addr (v - t.out)) k (sym (get_key_from_step f a v m e on room i fits) ∙ is) in
        subst (λ l. FoundFrom f a l v) (sym w.2) (found_by f a v m e i fits w.0 (rest t.addr (v - t.out) w.0 w.1))

-- with a buffer that is too short nothing is found
found_space : (s : List ℕ) (v space : ℕ) (m : Meta) (k : List ℕ) → opening s ≡ opened m → get_key s v space ≡ KeyAnswer.found k → max_path ≤ space
found_space s v space m k opens is =
    elim (dec_lt space max_path) [
      | yes l ↦ let r = get_key_space s v space m opens l in absurd (let z : ◌≡◌ {A = ℕ} 0 1 = cc in omega arith)
      | no l ↦ omega arith
    ]

pub found_path : (s : List ℕ) (v space : ℕ) (m : Meta) (k : List ℕ) → opening s ≡ opened m → get_key s v space ≡ KeyAnswer.found k
    → FoundFrom (fst_of s m) m.root k v
found_path s v space m k opens is =
    elim (ℕ_discrete (length s) 0) [
      | yes z ↦
          let r = get_key_blank s v space m opens (found_space s v space m k opens is) z in
          absurd (let z : ◌≡◌ {A = ℕ} 0 1 = cc in omega arith)
      | no z ↦
          found_from (fst_of s m) max_path m.root v k (sym (get_key_opened s v space m opens (found_space s v space m k opens is) (omega arith)) ∙ is)
    ]

pub admitted_found_path : {s : List ℕ} (A : Admitted s) (v space : ℕ) (k : List ℕ) → get_key s v space ≡ KeyAnswer.found k
    → FoundFrom (fst_of s A.meta) A.meta.root k v
admitted_found_path {s} A v space k is = found_path s v space A.meta k A.opens is

-- ---- no refusal but SPACE, on an admitted file

length_snoc : (p : List ℕ) (b : ℕ) → length (p ++ (b ∷ [])) ≡ length p + 1
length_snoc p b = length-append p (b ∷ [])

module _ {f : Fst} (reached : (k : List ℕ) (sum b : ℕ) → Path f f.root k sum b → PathEnd f k sum b) where
  -- every node on the way is sound, and no path has a 256th byte
  not_refused_from : (room v : ℕ) (n : Refusal) {p : List ℕ} {sum a : ℕ} → Path f f.root p sum a → length p + room ≡ max_path → ¬ (get_key_from room f a v ≡ KeyAnswer.refused n)
  not_refused_from zero v n {p} {sum} {a} path full is = let r = reached p sum a path in go r.node r.judged (key_step r.node v)
    where
      go : (m : Node) → node_in f a ≡ sound m → KeyStep m v → ⊥
      go m e (ends z final) = let q = get_key_from_end f a v m e 0 z final in let z : ◌≡◌ {A = ℕ} 0 1 = cc in omega arith
      go m e (stuck on none) = let q = get_key_from_none f a v m e on 0 none in let z : ◌≡◌ {A = ℕ} 0 1 = cc in omega arith
      go m e (goes on i fits) =
          let t = transition_at m.transitions i in
          let h = at_fitting m.transitions v i fits in
          let long = reached (p ++ (t.inp ∷ [])) (sum + t.out) t.addr (path_snoc m t path e (at_member m.transitions i h.within)) in
          omega (arith, long.short, length_snoc p t.inp)
  not_refused_from (suc room) v n {p} {sum} {a} path full is =
      let r = reached p sum a path in
      go (λ w q c b. not_refused_from room w n {p = q} {sum = c} {a = b}) r.node r.judged (key_step r.node v)
    where
      go : ((w : ℕ) (q : List ℕ) (c b : ℕ) → Path f f.root q c b → length q + room ≡ max_path → ¬ (get_key_from room f b w ≡ KeyAnswer.refused n))
          → (m : Node) → node_in f a ≡ sound m → KeyStep m v → ⊥
      go rest m e (ends z final) = let q = get_key_from_end f a v m e (suc room) z final in let z : ◌≡◌ {A = ℕ} 0 1 = cc in omega arith
      go rest m e (stuck on none) = let q = get_key_from_none f a v m e on (suc room) none in let z : ◌≡◌ {A = ℕ} 0 1 = cc in omega arith
      go rest m e (goes on i fits) =
          let t = transition_at m.transitions i in
          let h = at_fitting m.transitions v i fits in
          let next = path_snoc m t path e (at_member m.transitions i h.within) in
          rest (v - t.out) (p ++ (t.inp ∷ [])) (sum + t.out) t.addr next (omega (arith, length_snoc p t.inp))
          (with_byte_refused t.inp (get_key_from room f t.addr (v - t.out)) n (sym (get_key_from_step f a v m e on room i fits) ∙ is))

pub get_key_not_refused : {s : List ℕ} (A : Admitted s) (v space : ℕ) (n : Refusal) → max_path ≤ space → ¬ (get_key s v space ≡ KeyAnswer.refused n)
get_key_not_refused {s} A v space n h is =
    elim (ℕ_discrete (length s) 0) [
      | yes z ↦ let r = get_key_blank s v space A.meta A.opens h z in let z : ◌≡◌ {A = ℕ} 0 1 = cc in omega arith
      | no z ↦
          let pos : 0 < length s = omega arith in
          not_refused_from (λ p sum b path. path_reached A pos path) max_path v n here (omega arith) (sym (get_key_opened s v space A.meta A.opens h pos) ∙ is)
    ]

pub get_key_refused_space : {s : List ℕ} (A : Admitted s) (v space : ℕ) (n : Refusal) → get_key s v space ≡ KeyAnswer.refused n → (space < max_path) × (n ≡ SPACE)
get_key_refused_space {s} A v space n is =
    elim (dec_lt space max_path) [
      | yes l ↦ let r = get_key_space s v space A.meta A.opens l in (l, cc)
      | no l ↦ absurd (get_key_not_refused A v space n (omega arith) is)
    ]
