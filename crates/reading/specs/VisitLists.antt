-- Laws that the visits of a start and of a next share: facts of lists of visits, the key of one level more, fine nodes.
--     all_append, all_imp, all_under         a fact of every visit
--     map_append, map_under, map_nil         strings and values put together from two parts
--     key_push, key_length                   the key of one level more; a key has as many bytes as there are levels after the first
--     below_rest                             all visits below a node are those from its first transition on
--     fine_node, fine_step                   a fine node, and what its transitions lead to
-- Assumes nothing.
use Prim.{tt}
use Rattle.std.specs.Prelude.{◌≡◌, refl, ℕ, zero, suc, ◌+◌, ◌-◌, ◌<◌, ◌≤◌, length, drop}
use Rattle.std.proofs.Common.{sym, ap, ◌∙◌, zero-add, add_assoc, arith, length-append, length-drop}
use mathlib.Core.List.Memᴰ
use mathlib.Core.List.{List, [], ◌∷◌, ◌++◌, map, append_assoc, Memᴰ}
use Rattle.format.specs.declared.Transition.{Transition}
use Rattle.format.specs.Limits.{max_sum}
use Rattle.format.specs.Node.{Node, sound}
use Rattle.format.specs.Paths.{Fst, node_in}
use Rattle.reading.specs.Reading.{Level, path_of, key_of}
use Rattle.reading.specs.Visits.{Visit, under, below, rest, Fine, AllV}

-- ---- a fact of every visit

pub all_append : (P : Visit → Type 0) (xs ys : List Visit) → AllV P xs → AllV P ys → AllV P (xs ++ ys)
all_append P [] ys h g = g
all_append P (x ∷ xs) ys h g = (h.0, all_append P xs ys h.1 g)

pub all_imp : (P Q : Visit → Type 0) → ((v : Visit) → P v → Q v) → (xs : List Visit) → AllV P xs → AllV Q xs
all_imp P Q i [] h = tt
all_imp P Q i (x ∷ xs) h = (i x h.0, all_imp P Q i xs h.1)

pub all_under : (P : Visit → Type 0) (p : List ℕ) (o : ℕ) → ((v : Visit) → P (under p o v)) → (xs : List Visit) → AllV P (map (under p o) xs)
all_under P p o h [] = tt
all_under P p o h (x ∷ xs) = (h x, all_under P p o h xs)

-- ---- visits from further up

pub map_append : (p : List ℕ) (o : ℕ) (xs ys : List Visit) → map (under p o) (xs ++ ys) ≡ map (under p o) xs ++ map (under p o) ys
map_append p o [] ys = refl
map_append p o (x ∷ xs) ys = ap (λ (r : List Visit). under p o x ∷ r) (map_append p o xs ys)

pub map_under : (p q : List ℕ) (o r : ℕ) (xs : List Visit) → map (under p o) (map (under q r) xs) ≡ map (under (p ++ q) (o + r)) xs
map_under p q o r [] = refl
map_under p q o r (x ∷ xs) = rw (map_under p q o r xs, append_assoc p q x.key, add_assoc o r x.value)

pub map_nil : (xs : List Visit) → map (under [] 0) xs ≡ xs
map_nil [] = refl
map_nil (x ∷ xs) = rw (map_nil xs, zero-add x.value)

pub below_rest : (d : ℕ) (f : Fst) (a : ℕ) → below d f a ≡ rest d f a 0
below_rest zero f a = refl
below_rest (suc d) f a = refl

-- ---- the key of a level that is pushed

drop_snoc : (p : List ℕ) (x : ℕ) (ys : List ℕ) → drop 1 ((p ++ (x ∷ [])) ++ ys) ≡ drop 1 (p ++ (x ∷ [])) ++ ys
drop_snoc [] x ys = refl
drop_snoc (y ∷ p) x ys = refl

pub key_push : (c l : Level) (s : List Level) → key_of (c ∷ l ∷ s) ≡ key_of (l ∷ s) ++ (c.inp ∷ [])
unfolding path_of
key_push c l s = drop_snoc (path_of s) l.inp (c.inp ∷ [])

path_length : (s : List Level) → length (path_of s) ≡ length s
unfolding path_of
path_length [] = refl
path_length (l ∷ s) = length-append (path_of s) (l.inp ∷ []) ∙ omega (arith, path_length s)

pub key_length : (l : Level) (s : List Level) → length (key_of (l ∷ s)) ≡ length s
key_length l s = length-drop 1 (path_of (l ∷ s)) ∙ omega (arith, path_length (l ∷ s))

-- ---- fine nodes

pub fine_node : (d : ℕ) (f : Fst) (a sum : ℕ) → Fine d f a sum → (m : Node) × (node_in f a ≡ sound m) × (sum + m.final_output ≤ max_sum)
fine_node zero f a sum h = (h.0, h.1, h.2)
fine_node (suc d) f a sum h = (h.0, h.1, h.2)

pub fine_step : (d : ℕ) (f : Fst) (a sum : ℕ) (m : Node) (t : Transition) → Fine d f a sum → node_in f a ≡ sound m → Memᴰ t m.transitions
    → (0 < d) × Fine (d - 1) f t.addr (sum + t.out)
fine_step zero f a sum m t h e mem =
    let same : h.0 ≡ m = cc in
    absurd (Memᴰ.not-nil (rw h.3 at (rw (sym same) at mem)))
fine_step (suc d) f a sum m t h e mem =
    let same : h.0 ≡ m = cc in
    let z : suc d - 1 ≡ d = omega arith in
    (omega arith, rw z (h.3 t (rw (sym same) at mem)))
