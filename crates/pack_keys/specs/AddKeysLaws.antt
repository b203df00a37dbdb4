-- Laws of the keys of a list: a key more.
--     key_within, key_is_lem       a key of the list as a part of its bytes
--     building_none, -step, -full, -all    the loop over the keys
-- Assumes nothing.
use Rattle.std.specs.Prelude.{◌≡◌, Option, None, Some, refl, length, take, drop}
use Rattle.std.proofs.Common.{sym, ◌∙◌, subst, inl, inr, ne_eqb, length-append, length-drop, length-take-le}
use Rattle.std.proofs.Math.Path.{ap, ap₂}
use mathlib.Core.List.{List, [], ◌∷◌}
use Prim.Native.Nat.{ℕ, zero, suc, ◌+◌, ◌-◌, ◌*◌, ◌≤◌, ◌<◌}
use Rattle.std.proofs.Math.Decide.{ℕ_discrete}
use Rattle.std.proofs.Math.Nat.{sub-zero}
use native.Mathlib.Omega.{arith}
use Rattle.format.specs.Strings.{Before, shorter}
use Rattle.packing.specs.Lists.{count_in, total_in, end_at, begin_at, key_at, value_at, IsList, pairs_from, pairs_of}
use Rattle.packing.specs.Packing.{State, insert, insert_all}
use Rattle.packing.proofs.InsertLaws.{insert_all_grows}
use Rattle.packing_rows.specs.WorkTables.{Tables, open_at, levels}
use Rattle.pack_cell.specs.declared.Cell.{Cell}
use Rattle.pack_intern.specs.Interning.{build_is}
use Rattle.pack_insert.specs.Inserting.{last_key, state_of, Between, Follows, Insertable, Inserts}
use Rattle.pack_keys.specs.AddKeys.{BuildsTo, Builds, Building}

-- ---- keys of the list

begin_next : (s : List ℕ) (i : ℕ) → begin_at s (i + 1) ≡ end_at s i
begin_next s i =
    let e : i + 1 - 1 ≡ i = omega arith in
    rw (ne_eqb (i + 1) 0 (λ z. omega arith), e)

end_le : (s : List ℕ) → IsList s → (d i : ℕ) → i + suc d ≡ count_in s → end_at s i ≤ total_in s
end_le s ok zero i at =
    let w = subst (λ (k : ℕ). begin_at s k ≡ total_in s) (let e : count_in s ≡ i + 1 = omega arith in e) ok.whole in
    omega (arith, w, begin_next s i)
end_le s ok (suc d) i at = omega (arith, end_le s ok d (i + 1) (omega arith), ok.rise (i + 1) (omega arith), begin_next s i)

pub key_within : (s : List ℕ) → IsList s → (i : ℕ) → i < count_in s → (begin_at s i ≤ end_at s i) × (end_at s i ≤ total_in s)
key_within s ok i l = (ok.rise i l, end_le s ok (count_in s - i - 1) i (omega arith))

-- the key as the code cuts it out
module _ (s : List ℕ) (ok : IsList s) (i n b e : ℕ) (l : i < count_in s) (n_is : n ≡ count_in s) (b_is : b ≡ begin_at s i) (e_is : e ≡ end_at s i) where
  abbrev cut : List ℕ
  cut = take (8 + 12 * n + e - (8 + 12 * n + b)) (drop (8 + 12 * n + b) s)

  pub cut_is : cut ≡ key_at s i
  cut_is =
      let w : 8 + 12 * n + e - (8 + 12 * n + b) ≡ e - b = omega arith in
      ap (λ (k : ℕ). take k (drop (8 + 12 * n + b) s)) w ∙ (rw (n_is, b_is, e_is))

  pub cut_bounds : (b ≤ e) × (8 + 12 * n + e ≤ length s)
  cut_bounds = let w = key_within s ok i l in (omega (arith, w.0), omega (arith, w.1, ok.sized))

  pub cut_length : length cut ≡ 8 + 12 * n + e - (8 + 12 * n + b)
  cut_length = let w = cut_bounds in length-take-le (8 + 12 * n + e - (8 + 12 * n + b)) (drop (8 + 12 * n + b) s) (omega (arith, w.0, w.1, length-drop (8 + 12 * n + b) s))

  pub cut_short : length cut < 256
  cut_short = omega (arith, cut_length, ok.short i l)

-- ---- the loop

pub building_none : (s out : List ℕ) (cells : List Cell) (T : Tables) → Between out 16 cells T 0
    → Building (insert_all (state_of (build_is out 16 cells) T 0) (pairs_of s)) s out cells T 16 0 0
unfolding pairs_of
building_none s out cells T b = record {
  within = omega arith;
  is = ap (λ (n : ℕ). insert_all (state_of (build_is out 16 cells) T 0) (pairs_from s 0 n)) (sym (sub-zero (count_in s)));
  between = b;
  first = λ e. refl;
  last = λ l. absurd (omega arith);
}

nil_follows : (key : List ℕ) → Follows [] key
nil_follows [] = inr (refl, refl)
nil_follows (x ∷ key) = inl shorter

module _ {t : State} {s out : List ℕ} {cells : List Cell} {T : Tables} {next k i : ℕ} (w : Building t s out cells T next k i) (ok : IsList s) (l : i < count_in s)
    (key : List ℕ) (key_is_lem : key ≡ key_at s i) (short : length key < 256) (v : ℕ) (v_is : v ≡ value_at s i) where
  pub insertable : Insertable out next cells T k key
  insertable = record {
    between = w.between;
    short = short;
    follows = elim (ℕ_discrete i 0) [
      | yes z ↦ subst (λ (n : ℕ). Follows (last_key T.led n) key) (sym (w.first z)) (nil_follows key)
      | no z ↦
          let e : i - 1 + 1 ≡ i = omega arith in
          inl (subst (λ (x : List ℕ). Before x key) (sym (w.last (omega arith)))
          (subst (Before (key_at s (i - 1))) (ap (key_at s) e ∙ sym key_is_lem) (ok.ascend (i - 1) (omega arith))))
    ];
  }

  abbrev t₁ : State
  t₁ = insert (build_is out next cells) (open_at T 0) (levels (open_at T) 1 k) key v

  one_more : t ≡ insert_all t₁ (pairs_from s (i + 1) (count_in s - (i + 1)))
  unfolding insert_all pairs_from
  one_more =
      let e : count_in s - i ≡ suc (count_in s - (i + 1)) = omega arith in
      w.is ∙ ap (λ (n : ℕ). insert_all (state_of (build_is out next cells) T k) (pairs_from s i n)) e
      ∙ ap₂ (λ (x : List ℕ) (y : ℕ). insert_all (insert (build_is out next cells) (open_at T 0) (levels (open_at T) 1 k) x y) (pairs_from s (i + 1) (count_in s - (i + 1)))) (sym key_is_lem) (sym v_is)

  pub building_step : {out' : List ℕ} {cells' : List Cell} {T' : Tables} {r : Option ℕ} {after k' : ℕ} → Inserts t₁ key out' cells' T' r → r ≡ Some after
      → length key ≡ k' → Building t s out' cells' T' after k' (i + 1)
  building_step {out'} {cells'} {T'} {r} {after} {k'} ins e len =
      let a = ins.at after e in
      let q : i + 1 - 1 ≡ i = omega arith in
      subst (λ (n : ℕ). Building t s out' cells' T' after n (i + 1)) len (record {
        within = omega arith;
        is = one_more ∙ ap (λ (x : State). insert_all x (pairs_from s (i + 1) (count_in s - (i + 1)))) a.is;
        between = a.between;
        first = λ z. absurd (omega arith);
        last = λ h. a.last ∙ key_is_lem ∙ ap (key_at s) (sym q);
      })

  pub building_full : {out' : List ℕ} {cells' : List Cell} {T' : Tables} {r : Option ℕ} → Inserts t₁ key out' cells' T' r → r ≡ None → Builds t out' cells' T' None
  building_full {out'} ins e = record {
    at = λ n d q. cc;
    full = λ q.
        let g = insert_all_grows t₁ (pairs_from s (i + 1) (count_in s - (i + 1))) in
        omega (arith, ins.full e, ap length g.is, length-append t₁.build.nodes g.added, ap (λ (x : State). length x.build.nodes) one_more);
  }

same_pair : {x y : ℕ × ℕ} → ◌≡◌ {A = Option (ℕ × ℕ)} (Some x) (Some y) → x ≡ y
same_pair e = cc

pub building_all : {t : State} {s out : List ℕ} {cells : List Cell} {T : Tables} {next k i : ℕ} → Building t s out cells T next k i → count_in s ≤ i
    → Builds t out cells T (Some (next, k))
unfolding insert_all pairs_from
building_all {t} {s} {out} {cells} {T} {next} {k} {i} w le =
    let e : count_in s - i ≡ 0 = omega arith in
    let b : BuildsTo t out cells T next k = record {
      is = w.is ∙ ap (λ (n : ℕ). insert_all (state_of (build_is out next cells) T k) (pairs_from s i n)) e;
      closable = w.between.closable;
    } in
    record {
      at = λ n d q. subst (λ (p : ℕ × ℕ). BuildsTo t out cells T p.0 p.1) (same_pair q) b;
      full = λ q. cc;
    }
