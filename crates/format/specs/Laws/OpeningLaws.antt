-- Laws of `Opening`: each answer by what leads to it, and what an opened file says.
--     blank_meta                      what a file without bytes says
--     opening_exactly                 each answer exactly in its case; large_exactly of LARGE alone
--     opened_facts                    what holds of a file that opens
--     len_fits, root_fits, ..-fits    its length and its addresses fit 32 bits
-- Assumes nothing.
use Rattle.std.specs.Prelude.{◌≡◌, Bool, cond, ◌&&◌, ◌⊎◌, ℕ, ◌+◌, ◌-◌, ◌≤◌, ◌<◌, leb, length}
use Rattle.std.proofs.Math.Path.{refl}
use Rattle.std.proofs.Common.{sym, ap, ◌∙◌, inl, inr, arith}
use Rattle.std.proofs.Math.Bool.{true, false}
use Rattle.std.proofs.Math.Option.{none}
use mathlib.Core.List.{List, [], ◌∷◌, Memᴰ}
use Rattle.std.proofs.Math.Decide.{ℕ_discrete}
use borrow.Author.Tests.{lt-ltb, le-ltb, le-leb, lt-leb, eq-eqb, ne_eqb, ltb-true, ltb-false, leb-true, eqb-true, eqb-false}
use Rattle.std.proofs.Math.Dec.{ltb, eqb}
use Rattle.buffers.specs.Decide.{Decides}
use Rattle.buffers.specs.DecideLaws.{decides_and, decides_le, decides_eq, decides_iff, true_of, false_of}
use Rattle.format.specs.declared.Refusal.{Refusal}
use Rattle.format.specs.Limits.{first_node, min_len, max_len, SHORT, VERSION, ROOT, LARGE}
use Rattle.format.specs.Bytes.{le}
use Rattle.format.specs.Opening.{Meta, trailer_len, least_len, meta_of, version_test, root_test, Opening, opened, refused, opening}
use Rattle.format.specs.OpeningExact.{RootRight, VersionRight, Whole, OpeningCase, no_bytes, under_32, over_limit, other_version, under_36, wrong_root, right_root}
use Rattle.format.specs.declared.Transition.{Transition}
use Rattle.format.specs.Node.{Node, sound}
use Rattle.format.specs.Paths.{fst_of, node_in}
use Rattle.format.specs.Laws.NodeFacts.{node_below, node_target_lt}

-- ---- a file without bytes

pub blank_is : (s : List ℕ) → length s ≡ 0 → s ≡ []
blank_is [] e = refl
blank_is (b ∷ s) e = absurd (omega arith)

pub blank_meta : meta_of [] ≡ record { version = 0; ty = 0; len = 0; root = 0; checksum = none }
unfolding le meta_of
blank_meta = refl

-- ---- versions and roots

pub version_low : (v : ℕ) → v < 1 → version_test v ≡ false
version_low v h = rw (lt-leb 1 v h)

pub version_high : (v : ℕ) → 3 < v → version_test v ≡ false
version_high v h = let a : 1 ≤ v = omega arith in rw (le-leb 1 v a, lt-leb v 3 h)

pub version_right : (v : ℕ) → 1 ≤ v → v ≤ 3 → version_test v ≡ true
version_right v low high = rw (le-leb 1 v low, le-leb v 3 high)

pub decides_version : (v : ℕ) → Decides (version_test v) (VersionRight v)
decides_version v =
    decides_iff (λ h. record { from_1 = h.0; to_3 = h.1 }) (λ h. (h.from_1, h.to_3)) (decides_and (leb 1 v) (leb v 3) (decides_le 1 v) (decides_le v 3))

pub least_of_3 : (v : ℕ) → v ≡ 3 → least_len v ≡ 36
least_of_3 v e = rw (eq-eqb v 3 e)

pub least_of_other : (v : ℕ) → ¬ (v ≡ 3) → least_len v ≡ 32
least_of_other v ne = rw (ne_eqb v 3 ne)

pub least_low : (v : ℕ) → min_len ≤ least_len v
least_low v = omega arith

pub root_none : (v len : ℕ) → root_test v 0 len ≡ eqb len (least_len v)
unfolding root_test
root_none v len = refl

pub root_some : (v root len : ℕ) → ¬ (root ≡ 0) → root_test v root len ≡ (leb first_node root && eqb (root + 1 + trailer_len v) len)
unfolding root_test
root_some v root len ne = rw (ne_eqb root 0 ne)

pub decides_root : (v root len : ℕ) → Decides (root_test v root len) (RootRight v root len)
unfolding RootRight root_test
decides_root v root len =
    elim (ℕ_discrete root 0) [
      | yes z ↦ rw (eq-eqb root 0 z) (decides_iff (λ e. inl (z, e)) (zero_only z) (decides_eq len (least_len v)))
      | no ne ↦
          rw (ne_eqb root 0 ne)
          (decides_iff (λ h. inr (h.0, h.1)) (other_only ne)
          (decides_and (leb first_node root) (eqb (root + 1 + trailer_len v) len) (decides_le first_node root) (decides_eq (root + 1 + trailer_len v) len)))
    ]
  where
    zero_only : root ≡ 0 → ((root ≡ 0) × (len ≡ least_len v)) ⊎ ((first_node ≤ root) × (root + 1 + trailer_len v ≡ len)) → len ≡ least_len v
    zero_only z (inl h) = h.1
    zero_only z (inr h) = absurd (omega (arith, h.0))

    other_only : ¬ (root ≡ 0) → ((root ≡ 0) × (len ≡ least_len v)) ⊎ ((first_node ≤ root) × (root + 1 + trailer_len v ≡ len))
        → (first_node ≤ root) × (root + 1 + trailer_len v ≡ len)
    other_only ne (inl h) = absurd (ne h.0)
    other_only ne (inr h) = h

-- ---- each answer, by the tests in their order

pub opening_blank : (s : List ℕ) → length s ≡ 0 → opening s ≡ opened (meta_of [])
unfolding opening
opening_blank s z = rw (eq-eqb (length s) 0 z)

module _ (s : List ℕ) (some : ¬ (length s ≡ 0)) where
  pub opening_short : length s < min_len → opening s ≡ refused SHORT
  unfolding opening
  opening_short h = rw (ne_eqb (length s) 0 some, lt-ltb (length s) min_len h)

  module _ (low : min_len ≤ length s) where
    pub opening_large : max_len < length s → opening s ≡ refused LARGE
    unfolding opening
    opening_large h = rw (ne_eqb (length s) 0 some, le-ltb (length s) min_len low, lt-ltb max_len (length s) h)

    module _ (high : length s ≤ max_len) where
      pub opening_version : version_test (meta_of s).version ≡ false → opening s ≡ refused VERSION
      unfolding opening
      opening_version e = rw (ne_eqb (length s) 0 some, le-ltb (length s) min_len low, le-ltb max_len (length s) high, e)

      module _ (e : version_test (meta_of s).version ≡ true) where
        pub opening_few : length s < least_len (meta_of s).version → opening s ≡ refused SHORT
        unfolding opening
        opening_few h =
            rw (ne_eqb (length s) 0 some, le-ltb (length s) min_len low, le-ltb max_len (length s) high, e, lt-ltb (length s) (least_len (meta_of s).version) h)

        module _ (least : least_len (meta_of s).version ≤ length s) where
          pub opening_root : root_test (meta_of s).version (meta_of s).root (length s) ≡ false → opening s ≡ refused ROOT
          unfolding opening
          opening_root r =
              rw (ne_eqb (length s) 0 some, le-ltb (length s) min_len low, le-ltb max_len (length s) high, e, le-ltb (length s) (least_len (meta_of s).version) least, r)

          pub opening_opened : root_test (meta_of s).version (meta_of s).root (length s) ≡ true → opening s ≡ opened (meta_of s)
          unfolding opening
          opening_opened r =
              rw (ne_eqb (length s) 0 some, le-ltb (length s) min_len low, le-ltb max_len (length s) high, e, le-ltb (length s) (least_len (meta_of s).version) least, r)

-- ---- each answer exactly in its case

module _ (s : List ℕ) where
  from_36 : min_len ≤ length s → length s < least_len (meta_of s).version → ((meta_of s).version ≡ 3) × (length s < 36)
  from_36 low few =
      elim (ℕ_discrete (meta_of s).version 3) [
        | yes three ↦ (three, omega (arith, least_of_3 (meta_of s).version three))
        | no other ↦ absurd (omega (arith, least_of_other (meta_of s).version other))
      ]

  opening_case : OpeningCase s (opening s)
  unfolding opening
  opening_case =
      go (eqb (length s) 0) refl (ltb (length s) min_len) refl (ltb max_len (length s)) refl (version_test (meta_of s).version) (decides_version (meta_of s).version)
      (ltb (length s) (least_len (meta_of s).version)) refl
      (root_test (meta_of s).version (meta_of s).root (length s)) (decides_root (meta_of s).version (meta_of s).root (length s))
    where
      go : (z : Bool) → eqb (length s) 0 ≡ z → (a : Bool) → ltb (length s) min_len ≡ a → (b : Bool) → ltb max_len (length s) ≡ b
          → (v : Bool) → Decides v (VersionRight (meta_of s).version) → (l : Bool) → ltb (length s) (least_len (meta_of s).version) ≡ l
          → (r : Bool) → Decides r (RootRight (meta_of s).version (meta_of s).root (length s))
          → OpeningCase s (cond z (opened (meta_of [])) (cond a (refused SHORT) (cond b (refused LARGE)
          (cond v (cond l (refused SHORT) (cond r (opened (meta_of s)) (refused ROOT))) (refused VERSION)))))
      go true z a is_a b is_b v is_v l is_l r is_r = no_bytes (eqb-true (length s) 0 z)
      go false z true a b is_b v is_v l is_l r is_r = under_32 (omega (arith, eqb-false (length s) 0 z)) (ltb-true (length s) min_len a)
      go false z false a true b v is_v l is_l r is_r = over_limit (ltb-true max_len (length s) b)
      go false z false a false b false v l is_l r is_r =
          other_version (ltb-false (length s) min_len a) (ltb-false max_len (length s) b) (v.no refl)
      go false z false a false b true v true l r is_r =
          let low = ltb-false (length s) min_len a in
          let q = from_36 low (ltb-true (length s) (least_len (meta_of s).version) l) in
          under_36 low q.1 q.0
      go false z false a false b true v false l false r =
          wrong_root (record { low = ltb-false (length s) (least_len (meta_of s).version) l; high = ltb-false max_len (length s) b; version = v.yes refl }) (r.no refl)
      go false z false a false b true v false l true r =
          right_root (record { low = ltb-false (length s) (least_len (meta_of s).version) l; high = ltb-false max_len (length s) b; version = v.yes refl }) (r.yes refl)

  case_opening : {o : Opening} → OpeningCase s o → opening s ≡ o
  case_opening (no_bytes z) = opening_blank s z
  case_opening (under_32 pos few) = opening_short s (omega arith) few
  case_opening (over_limit h) = opening_large s (omega arith) (omega arith) h
  case_opening (other_version low high ne) =
      opening_version s (omega arith) low high (false_of (version_test (meta_of s).version) (decides_version (meta_of s).version) ne)
  case_opening (under_36 low few three) =
      let v = version_right (meta_of s).version (omega arith) (omega arith) in
      opening_few s (omega arith) low (omega arith) v (omega (arith, least_of_3 (meta_of s).version three))
  case_opening (wrong_root w ne) =
      opening_root s (omega (arith, w.low)) (omega (arith, w.low)) w.high
      (true_of (version_test (meta_of s).version) (decides_version (meta_of s).version) w.version) w.low
      (false_of (root_test (meta_of s).version (meta_of s).root (length s)) (decides_root (meta_of s).version (meta_of s).root (length s)) ne)
  case_opening (right_root w is) =
      opening_opened s (omega (arith, w.low)) (omega (arith, w.low)) w.high
      (true_of (version_test (meta_of s).version) (decides_version (meta_of s).version) w.version) w.low
      (true_of (root_test (meta_of s).version (meta_of s).root (length s)) (decides_root (meta_of s).version (meta_of s).root (length s)) is)

-- the answer is o exactly in the case of o, for every file
pub opening_exactly : (s : List ℕ) (o : Opening) → (opening s ≡ o → OpeningCase s o) × (OpeningCase s o → opening s ≡ o)
opening_exactly s o = (λ e. rw e at (opening_case s), case_opening s)

-- the limit is exact: no other file is too large
pub large_exactly : (s : List ℕ) → (opening s ≡ refused LARGE → max_len < length s) × (max_len < length s → opening s ≡ refused LARGE)
large_exactly s = (λ e. go (refused LARGE) ((opening_exactly s (refused LARGE)).0 e) refl, λ h. case_opening s (over_limit h))
  where
    go : (o : Opening) → OpeningCase s o → o ≡ refused LARGE → max_len < length s
    go o (no_bytes z) e = absurd (let z : ◌≡◌ {A = ℕ} 0 1 = cc in omega arith)
    go o (under_32 pos few) e = absurd (let y : ◌≡◌ {A = Refusal} SHORT LARGE = cc in cc)
    go o (over_limit h) e = h
    go o (other_version low high ne) e = absurd (let y : ◌≡◌ {A = Refusal} VERSION LARGE = cc in cc)
    go o (under_36 low few three) e = absurd (let y : ◌≡◌ {A = Refusal} SHORT LARGE = cc in cc)
    go o (wrong_root w ne) e = absurd (let y : ◌≡◌ {A = Refusal} ROOT LARGE = cc in cc)
    go o (right_root w is) e = absurd (let z : ◌≡◌ {A = ℕ} 0 1 = cc in omega arith)

-- ---- what an opened file says

pub record OpenedFacts (s : List ℕ) (m : Meta) : Type 0 where
  pub is : m ≡ meta_of s
  pub low : (length s ≡ 0) ⊎ (least_len m.version ≤ length s)
  pub high : length s ≤ max_len
  -- version 0 stands for no bytes, and for nothing else
  pub version_low : 0 < length s → 1 ≤ m.version
  pub version_high : m.version ≤ 3
  pub root_rule : 0 < length s → RootRight m.version m.root (length s)

pub opened_facts : (s : List ℕ) (m : Meta) → opening s ≡ opened m → OpenedFacts s m
opened_facts s m e = go (opened m) ((opening_exactly s (opened m)).0 e) refl
  where
    blank_facts : length s ≡ 0 → m ≡ meta_of [] → OpenedFacts s m
    blank_facts z is =
        let v : m.version ≡ 0 = ap (λ (n : Meta). n.version) (is ∙ blank_meta) in
        record {
          is = is ∙ ap meta_of (sym (blank_is s z));
          low = inl z;
          high = omega arith;
          version_low = λ pos. absurd (omega arith);
          version_high = omega arith;
          root_rule = λ pos. absurd (omega arith);
        }

    whole_facts : Whole s → RootRight (meta_of s).version (meta_of s).root (length s) → m ≡ meta_of s → OpenedFacts s m
    whole_facts w is q =
        rw q (record {
          is = refl;
          low = inr w.low;
          high = w.high;
          version_low = λ pos. w.version.from_1;
          version_high = w.version.to_3;
          root_rule = λ pos. is;
        })

    go : (o : Opening) → OpeningCase s o → o ≡ opened m → OpenedFacts s m
    go o (no_bytes z) e = blank_facts z (let p : meta_of [] ≡ m = cc in sym p)
    go o (under_32 pos few) e = absurd (let z : ◌≡◌ {A = ℕ} 0 1 = cc in omega arith)
    go o (over_limit h) e = absurd (let z : ◌≡◌ {A = ℕ} 0 1 = cc in omega arith)
    go o (other_version low high ne) e = absurd (let z : ◌≡◌ {A = ℕ} 0 1 = cc in omega arith)
    go o (under_36 low few three) e = absurd (let z : ◌≡◌ {A = ℕ} 0 1 = cc in omega arith)
    go o (wrong_root w ne) e = absurd (let z : ◌≡◌ {A = ℕ} 0 1 = cc in omega arith)
    go o (right_root w is) e = whole_facts w is (let p : meta_of s ≡ m = cc in sym p)

-- the code tells a blank card by its version
pub version_blank : (s : List ℕ) (m : Meta) → opening s ≡ opened m → m.version ≡ 0 → length s ≡ 0
version_blank s m e z = elim (ℕ_discrete (length s) 0) [ yes n ↦ n | no n ↦ absurd (omega (arith, (opened_facts s m e).version_low (omega arith))) ]

pub version_some : (s : List ℕ) (m : Meta) → opening s ≡ opened m → ¬ (m.version ≡ 0) → 0 < length s
version_some s m e ne = elim (ℕ_discrete (length s) 0) [ yes n ↦ absurd (ne (blank_version n)) | no n ↦ omega arith ]
  where
    blank_version : length s ≡ 0 → m.version ≡ 0
    blank_version n = ap (λ (n : Meta). n.version) ((opened_facts s m e).is ∙ ap meta_of (blank_is s n) ∙ blank_meta)

pub blank_root : (s : List ℕ) (m : Meta) → opening s ≡ opened m → length s ≡ 0 → m.root ≡ 0
blank_root s m e n = ap (λ (n : Meta). n.root) ((opened_facts s m e).is ∙ ap meta_of (blank_is s n) ∙ blank_meta)

-- the root stands in the file
pub root_inside : (s : List ℕ) (m : Meta) → opening s ≡ opened m → 0 < length s → m.root < length s
unfolding RootRight
root_inside s m e pos = go ((opened_facts s m e).root_rule pos)
  where
    go : ((m.root ≡ 0) × (length s ≡ least_len m.version)) ⊎ ((first_node ≤ m.root) × (m.root + 1 + trailer_len m.version ≡ length s)) → m.root < length s
    go (inl z) = omega (arith, z.0)
    go (inr r) = omega (arith, r.1)

-- ---- what 32 bits must hold: a place past a node may lie beyond the file, and is not among these

module _ (s : List ℕ) (m : Meta) (opens : opening s ≡ opened m) where
  pub len_fits : length s < 4294967296
  len_fits = omega (arith, (opened_facts s m opens).high)

  pub root_fits : m.root < 4294967296
  root_fits = elim (ℕ_discrete (length s) 0) [ yes z ↦ omega (arith, blank_root s m opens z) | no z ↦ omega (arith, root_inside s m opens (omega arith), len_fits) ]

  module _ (a : ℕ) (n : Node) (e : node_in (fst_of s m) a ≡ sound n) where
    pub addr_fits : a < 4294967296
    addr_fits = elim (ℕ_discrete a 0) [ yes z ↦ omega arith | no z ↦ omega (arith, node_below (fst_of s m) a n e z, root_fits) ]

    pub target_fits : (t : Transition) → Memᴰ t n.transitions → t.addr < 4294967296
    target_fits t mem = omega (arith, node_target_lt (fst_of s m) a n e t mem, addr_fits)
