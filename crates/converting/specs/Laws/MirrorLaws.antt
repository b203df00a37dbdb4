-- Laws of `Mirror`: paths map node by node, both ways, so that both files hold the same keys with the same values.
--     mem_map, map_mem       members of a mapped list
--     path_there, path_back  a path of the one file in the other
--     held_there, held_back  held keys
-- Assumes nothing.
use Rattle.std.specs.Prelude.{◌≡◌, refl, ℕ, ◌+◌}
use Rattle.std.proofs.Common.{sym, ap, ◌∙◌, subst, ⊎_elim}
use mathlib.Core.List.Memᴰ
use mathlib.Core.List.{List, [], ◌∷◌, map, Memᴰ}
use Rattle.format.specs.declared.Transition.{Transition}
use Rattle.format.specs.Node.{Node, sound}
use Rattle.format.specs.Paths.{Fst, node_in, Path, here, follow, Held}
use Rattle.format.specs.Laws.PathLaws.{path_nil, path_step}
use Rattle.converting.specs.Mirror.{renamed, mirrored, Mirror}

-- ---- members of a mapped list

pub mem_map : {A B : Type 0} (f : A → B) {x : A} {xs : List A} → Memᴰ x xs → Memᴰ (f x) (map f xs)
mem_map f (Memᴰ.head e) = Memᴰ.head (ap f e)
mem_map f (Memᴰ.tail m) = Memᴰ.tail (mem_map f m)

pub map_mem : {A B : Type 0} (f : A → B) {y : B} (xs : List A) → Memᴰ y (map f xs) → (x : A) × Memᴰ x xs × (f x ≡ y)
map_mem f [] m = absurd (Memᴰ.not-nil m)
map_mem f (x ∷ xs) m =
    ⊎_elim (λ e. (x, Memᴰ.head refl, sym e)) (λ k. let r = map_mem f xs k in (r.0, Memᴰ.tail r.1, r.2)) (Memᴰ.cases_cons m)

-- ---- paths

module _ {f g : Fst} {ren : ℕ → ℕ} {On : ℕ → Type 0} (mirror : Mirror f g ren On) where
  -- the node at a is one node
  image_of : (a : ℕ) (m : Node) → On a → node_in f a ≡ sound m → (first : ℕ) × (node_in g (ren a) ≡ sound (mirrored ren first m))
  image_of a m on e =
      let i = mirror.image a on in
      let e' = i.judged in
      let same : i.node ≡ m = cc in
      (i.first, i.stands ∙ ap (λ (x : Node). sound (mirrored ren i.first x)) same)

  pub path_there : {a : ℕ} {k : List ℕ} {sum b : ℕ} → On a → Path f a k sum b → On b × Path g (ren a) k sum (ren b)
  path_there on here = (on, here)
  path_there {a} on (follow m t e mem p) =
      let r = path_there (mirror.closed a m t on e mem) p in
      let i = image_of a m on e in
      (r.0, follow (mirrored ren i.0 m) (renamed ren t) i.1 (mem_map (renamed ren) mem) r.1)

  -- a path of f whose images make up a path of g
  pub record Back (a : ℕ) (k : List ℕ) (sum b' : ℕ) : Type 0 where
    pub to : ℕ
    pub to_on : On to
    pub to_is : ren to ≡ b'
    pub path : Path f a k sum to

  pub path_back : (a : ℕ) (k : List ℕ) (sum b' : ℕ) → On a → Path g (ren a) k sum b' → Back a k sum b'
  path_back a [] sum b' on p =
      let r = path_nil p in
      record { to = a; to_on = on; to_is = sym r.1; path = rw r.0 here }
  path_back a (x ∷ k) sum b' on p =
      let s = path_step p in
      let i = mirror.image a on in
      let judged = s.judged in
      let stands = i.stands in
      let same : s.node ≡ mirrored ren i.first i.node = cc in
      let old = map_mem (renamed ren) i.node.transitions (rw same at s.member) in
      let t : Transition = old.0 in
      let addr_is : s.by.addr ≡ ren t.addr = ap (λ (u : Transition). u.addr) (sym old.2) in
      let out_is : s.by.out ≡ t.out = ap (λ (u : Transition). u.out) (sym old.2) in
      let inp_is : t.inp ≡ x = ap (λ (u : Transition). u.inp) old.2 ∙ s.inp_is in
      let r = path_back t.addr k s.more b' (mirror.closed a i.node t on i.judged old.1) (subst (λ (c : ℕ). Path g c k s.more b') addr_is s.rest) in
      let sum_is : t.out + s.more ≡ sum = ap (λ (o : ℕ). o + s.more) (sym out_is) ∙ sym s.sum_is in
      record {
        to = r.to;
        to_on = r.to_on;
        to_is = r.to_is;
        path = rw (inp_is, sum_is) at (follow i.node t i.judged old.1 r.path);
      }

  -- ---- held keys

  pub held_there : {k : List ℕ} {v : ℕ} → Held f k v → Held g k v
  held_there {k} h =
      let r = path_there mirror.root_on h.path in
      let i = image_of h.to h.last r.0 h.ends in
      record {
        sum = h.sum;
        to = ren h.to;
        last = mirrored ren i.0 h.last;
        path = subst (λ (c : ℕ). Path g c k h.sum (ren h.to)) mirror.root_is r.1;
        ends = i.1;
        final = h.final;
        value = h.value;
      }

  pub held_back : {k : List ℕ} {v : ℕ} → Held g k v → Held f k v
  held_back {k} h =
      let r = path_back f.root k h.sum h.to mirror.root_on (subst (λ (c : ℕ). Path g c k h.sum h.to) (sym mirror.root_is) h.path) in
      let i = mirror.image r.to r.to_on in
      let e = h.ends in
      let e' = i.stands in
      let both : sound (mirrored ren i.first i.node) ≡ sound h.last = sym e' ∙ ap (node_in g) r.to_is ∙ e in
      let same : mirrored ren i.first i.node ≡ h.last = cc in
      record {
        sum = h.sum;
        to = r.to;
        last = i.node;
        path = r.path;
        ends = i.judged;
        final = ap (λ (x : Node). x.final) same ∙ h.final;
        value = h.value ∙ ap (λ (x : Node). h.sum + x.final_output) (sym same);
      }
