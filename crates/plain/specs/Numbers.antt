-- The number of keys between two bounds, as a start works it out from a table of the keys from each node (document 02, N11), and which entries
-- it reads.
--     Tally                    a number, or a refusal
--     keys_below c b ts         those from the targets of inputs smaller than b
--     up_to f c own a x         those from a that come before the string x, and x itself if own
--     Crosses, crosses         the lower bound's bytes are greater than the upper's, or equal with either excluded; as a test that computes
--     none_read f lo hi         the file has no bytes, or the bounds cross: the number is 0 and no entry is read
--     number f c lo hi         the keys within the upper bound, less those before the lower
--     reads_to f a x            the addresses whose entries `up_to` reads
--     reads_of f lo hi          the addresses whose entries `number` reads
--     TableFits f lo hi c      c is a table as filled for the file, or none of its entries is read
-- Assumes nothing.
use Prim.{Unit}
use Rattle.std.specs.Prelude.{◌≡◌, Bool, true, false, cond, not, ◌&&◌, ◌||◌, ◌⊎◌, List, [], ◌∷◌, ◌++◌, ℕ, ◌+◌, ◌-◌, ltb, leb, eqb, length}
use Rattle.format.specs.declared.Refusal.{Refusal}
use Rattle.format.specs.declared.Transition.{Transition}
use Rattle.format.specs.Limits.{max_sum, NODE, COUNT}
use Rattle.format.specs.Node.{find_input, transition_at}
use Rattle.format.specs.Paths.{Fst, node_in}
use Rattle.format.specs.Strings.{Before, Bound, unbounded, included, excluded, before_test}
use Rattle.format.specs.Tables.{one, sum_of, keys_at, KeysFilled}
use Rattle.reading.specs.Reading.{bound_bytes, on_node, on_search}

pub data Tally : Type 0 where
  comes_to : ℕ → Tally
  refused : Refusal → Tally

-- so many more
abbrev pub plus : ℕ → Tally → Tally
plus n (comes_to m) = comes_to (n + m)
plus n (refused r) = refused r

-- ---- the keys up to a string

abbrev pub keys_below : List ℕ → ℕ → List Transition → ℕ
keys_below c b ts = sum_of (λ t. cond (ltb t.inp b) (keys_at c t.addr) 0) ts

-- at each node of x's path before its end 1 if it is final, for the key that begins x and ends there, and the keys by smaller inputs; where the
-- next byte is absent nothing more; at the end 1 if it is final and x itself counts; NODE for the first node that is not sound, the last included
unfoldable pub up_to : Fst → List ℕ → Bool → ℕ → List ℕ → Tally
up_to f c own a [] = on_node (node_in f a) (λ m. comes_to (one (own && m.final))) (refused NODE)
up_to f c own a (b ∷ x) =
    on_node (node_in f a)
    (λ m.
    plus (one m.final + keys_below c b m.transitions)
    (on_search (find_input m.transitions b) (λ p. up_to f c own (transition_at m.transitions p).addr x) (λ p. comes_to 0)))
    (refused NODE)

-- ---- the keys between two bounds

abbrev pub Given : Bound → Type 0
Given unbounded = ⊥
Given (included x) = Unit {0}
Given (excluded x) = Unit {0}

abbrev pub Excludes : Bound → Type 0
Excludes unbounded = ⊥
Excludes (included x) = ⊥
Excludes (excluded x) = Unit {0}

pub data Crosses (lo hi : Bound) : Type 0 where
  greater : Given lo → Given hi → Before (bound_bytes hi) (bound_bytes lo) → Crosses lo hi
  equal : Given lo → Given hi → bound_bytes lo ≡ bound_bytes hi → (Excludes lo) ⊎ (Excludes hi) → Crosses lo hi

-- NumberLaws, `decides_crosses`
abbrev pub crosses : Bound → Bound → Bool
crosses unbounded hi = false
crosses (included x) unbounded = false
crosses (included x) (included y) = before_test y x
crosses (included x) (excluded y) = not (before_test x y)
crosses (excluded x) unbounded = false
crosses (excluded x) (included y) = not (before_test x y)
crosses (excluded x) (excluded y) = not (before_test x y)

-- the keys that do not pass the upper bound
unfoldable pub within : Fst → List ℕ → Bound → Tally
within f c unbounded = comes_to (keys_at c f.root)
within f c (included x) = up_to f c true f.root x
within f c (excluded x) = up_to f c false f.root x

-- the keys that do not meet the lower bound
unfoldable pub below_lower : Fst → List ℕ → Bound → Tally
below_lower f c unbounded = comes_to 0
below_lower f c (included x) = up_to f c false f.root x
below_lower f c (excluded x) = up_to f c true f.root x

-- NODE; then COUNT where either is over 2^64 - 1, or fewer are within than before
abbrev pub less : Tally → Tally → Tally
less (refused n) b = refused n
less (comes_to w) (refused n) = refused n
less (comes_to w) (comes_to b) = cond (leb w max_sum && (leb b max_sum && leb b w)) (comes_to (w - b)) (refused COUNT)

-- no entry is read: the file has no bytes, or the bounds cross
abbrev pub none_read : Fst → Bound → Bound → Bool
none_read f lo hi = eqb (length f.bytes) 0 || crosses lo hi

unfoldable pub number : Fst → List ℕ → Bound → Bound → Tally
number f c lo hi = cond (none_read f lo hi) (comes_to 0) (less (within f c hi) (below_lower f c lo))

-- ---- the entries read

-- an address with an entry
abbrev pub entry_at : ℕ → List ℕ
entry_at a = cond (eqb a 0) [] (a ∷ [])

abbrev pub reads_below : ℕ → List Transition → List ℕ
reads_below b [] = []
reads_below b (t ∷ ts) = cond (ltb t.inp b) (entry_at t.addr) [] ++ reads_below b ts

unfoldable pub reads_to : Fst → ℕ → List ℕ → List ℕ
reads_to f a [] = []
reads_to f a (b ∷ x) =
    on_node (node_in f a)
    (λ m. reads_below b m.transitions ++ on_search (find_input m.transitions b) (λ p. reads_to f (transition_at m.transitions p).addr x) (λ p. []))
    []

abbrev pub reads_within : Fst → Bound → List ℕ
reads_within f unbounded = entry_at f.root
reads_within f (included x) = reads_to f f.root x
reads_within f (excluded x) = reads_to f f.root x

unfoldable pub reads_of : Fst → Bound → Bound → List ℕ
reads_of f lo hi = cond (none_read f lo hi) [] (reads_within f hi ++ reads_to f f.root (bound_bytes lo))

-- ---- the tables that a start may be given

abbrev pub TableFits : Fst → Bound → Bound → List ℕ → Type 0
TableFits f lo hi c = (KeysFilled f c) ⊎ (reads_of f lo hi ≡ [])
