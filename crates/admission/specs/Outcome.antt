-- What admission answers, and what it leaves in the two tables, in every case (document 01, "An admitted file" and "Refused").
--     Holds g P n d₀ d        d holds g at the addresses of which P holds, 0 at the others below n, and beyond n what d₀ held
--     Wiped n d₀ d            0 below n, and beyond n what d₀ held
--     RefusedFor s .. r       why the bytes s are refused with r, and the tables afterwards
--     Admits s ..             the bytes s are admitted, and the tables afterwards
--     Outcome s ..            the answer of admission
-- Assumes nothing.
use Rattle.std.specs.Prelude.{◌≡◌, List, ◌++◌, ◌⊎◌, ℕ, ◌+◌, ◌≤◌, ◌<◌, length, get_or, drop, replicate, Ok, Err, Result, ⊤}
use Rattle.format.specs.declared.Refusal.{Refusal}
use Rattle.format.specs.Limits.{max_path, max_sum, NODE, DEEP, SUM, SPACE}
use Rattle.format.specs.Node.{Node, sound}
use Rattle.format.specs.Opening.{Meta, opened, refused, opening}
use Rattle.format.specs.Paths.{Fst, fst_of, node_in, Path, Reached}
use Rattle.format.specs.Admitted.{Nodes, Shallow, Light, Admitted}
use Rattle.format.specs.Tables.{longest, largest_sum, InTable}
use Rattle.admission_node.specs.Entries.{Kept}

-- ---- the tables

pub record Holds (g : ℕ → ℕ) (P : ℕ → Type 0) (n : ℕ) (d₀ d : List ℕ) : Type 0 where
  pub on : (a : ℕ) → P a → get_or d a 0 ≡ g a
  pub off : (a : ℕ) → a < n → ¬ P a → get_or d a 0 ≡ 0
  pub kept : Kept n d₀ d

abbrev pub Wiped : ℕ → List ℕ → List ℕ → Type 0
Wiped n d₀ d = d ≡ replicate n 0 ++ drop n d₀

-- ---- paths that are too long, or sums that are too large, from a reached node

pub record LongPath (f : Fst) : Type 0 where
  pub from : ℕ
  pub key : List ℕ
  pub sum : ℕ
  pub to : ℕ
  pub reached : Reached f from
  pub path : Path f from key sum to
  pub long : max_path < length key

pub record LargeSum (f : Fst) : Type 0 where
  pub from : ℕ
  pub key : List ℕ
  pub sum : ℕ
  pub to : ℕ
  pub last : Node
  pub reached : Reached f from
  pub path : Path f from key sum to
  pub ends : node_in f to ≡ sound last
  pub large : max_sum < sum + last.final_output

-- ---- the answer

-- opening's refusals and SPACE leave the tables as they were; NODE, DEEP and SUM, each decided over the whole file, leave zeros over it
pub data RefusedFor (s d₀ s₀ d t : List ℕ) (r : Refusal) : Type 0 where
  not_opened : opening s ≡ refused r → d ≡ d₀ → t ≡ s₀ → RefusedFor s d₀ s₀ d t r
  no_space : (m : Meta) → opening s ≡ opened m → r ≡ SPACE → (length d₀ < length s) ⊎ (length s₀ < length s) → d ≡ d₀ → t ≡ s₀ → RefusedFor s d₀ s₀ d t r
  no_nodes : (m : Meta) → opening s ≡ opened m → length s ≤ length d₀ → length s ≤ length s₀ → r ≡ NODE → ((l : List ℕ) → ¬ Nodes (fst_of s m) l)
      → Wiped (length s) d₀ d → Wiped (length s) s₀ t → RefusedFor s d₀ s₀ d t r
  too_deep : (m : Meta) (l : List ℕ) → opening s ≡ opened m → length s ≤ length d₀ → length s ≤ length s₀ → r ≡ DEEP → Nodes (fst_of s m) l → LongPath (fst_of s m)
      → Wiped (length s) d₀ d → Wiped (length s) s₀ t → RefusedFor s d₀ s₀ d t r
  too_heavy : (m : Meta) (l : List ℕ) → opening s ≡ opened m → length s ≤ length d₀ → length s ≤ length s₀ → r ≡ SUM → Nodes (fst_of s m) l → Shallow (fst_of s m)
      → LargeSum (fst_of s m) → Wiped (length s) d₀ d → Wiped (length s) s₀ t → RefusedFor s d₀ s₀ d t r

-- each reached node's address has 1 plus its longest path and its largest sum
pub record Admits (s d₀ s₀ d t : List ℕ) : Type 0 where
  pub admitted : Admitted s
  pub room_depths : length s ≤ length d₀
  pub room_sums : length s ≤ length s₀
  pub depths : Holds (λ a. longest (fst_of s admitted.meta) a + 1) (InTable (fst_of s admitted.meta)) (length s) d₀ d
  pub sums : Holds (largest_sum (fst_of s admitted.meta)) (InTable (fst_of s admitted.meta)) (length s) s₀ t

abbrev pub Outcome : List ℕ → List ℕ → List ℕ → List ℕ → List ℕ → Result ⊤ Refusal → Type 0
Outcome s d₀ s₀ d t (Ok tt) = Admits s d₀ s₀ d t
Outcome s d₀ s₀ d t (Err r) = RefusedFor s d₀ s₀ d t r

-- ---- what the inner functions ask and answer

-- the file opens, with this version and root
pub record Opens (s : List ℕ) (v root : ℕ) : Type 0 where
  pub meta : Meta
  pub opens : opening s ≡ opened meta
  pub version : v ≡ meta.version
  pub root_is : root ≡ meta.root

pub record Cleared (s d t : List ℕ) (root : ℕ) : Type 0 where
  pub root_inside : ¬ (root ≡ 0) → root < length s
  pub room_depths : length s ≤ length d
  pub room_sums : length s ≤ length t
  pub depths : (j : ℕ) → j < length s → get_or d j 0 ≡ 0
  pub sums : (j : ℕ) → j < length s → get_or t j 0 ≡ 0

pub record GoodNodes (f : Fst) (d₀ s₀ d t : List ℕ) : Type 0 where
  pub nodes : List ℕ
  pub chained : Nodes f nodes
  pub shallow : Shallow f
  pub light : Light f
  pub depths : Holds (λ a. longest f a + 1) (InTable f) (length f.bytes) d₀ d
  pub sums : Holds (largest_sum f) (InTable f) (length f.bytes) s₀ t

pub data JudgeRefused (f : Fst) (r : Refusal) : Type 0 where
  lost : r ≡ NODE → ((l : List ℕ) → ¬ Nodes f l) → JudgeRefused f r
  deep : r ≡ DEEP → (l : List ℕ) → Nodes f l → LongPath f → JudgeRefused f r
  heavy : r ≡ SUM → (l : List ℕ) → Nodes f l → Shallow f → LargeSum f → JudgeRefused f r

abbrev pub JudgeCase : Fst → List ℕ → List ℕ → List ℕ → List ℕ → Result ⊤ Refusal → Type 0
JudgeCase f d₀ s₀ d t (Ok tt) = GoodNodes f d₀ s₀ d t
JudgeCase f d₀ s₀ d t (Err r) = JudgeRefused f r

pub record Judges (f : Fst) (d₀ s₀ d t : List ℕ) (v : Result ⊤ Refusal) : Type 0 where
  pub depths_kept : Kept (length f.bytes) d₀ d
  pub sums_kept : Kept (length f.bytes) s₀ t
  pub found : JudgeCase f d₀ s₀ d t v
