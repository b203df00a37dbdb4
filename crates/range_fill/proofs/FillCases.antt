-- A turn of the loop that fills rows, and each way out of it.
--     next_turn                               a call of next on the levels in the arrays is a turn
--     turned-key, turned-end, turned-refused  what a turn says of that call
--     Going ..                                the loop's claim; going_none, going_key, before the first turn and after a key
--     going_end, going_refused, going_more    the ways out
-- Assumes nothing.
use mathlib.Core.Path.{◌≡◌, refl, ap, ap₂, subst, ◌∙◌}
use Rattle.std.specs.Prelude.{Ok, Err, Some, None, Result, Option, ℕ}
use Rattle.format.specs.declared.Refusal.{Refusal}
use mathlib.Core.Bool.{Bool, false}
use mathlib.Core.List.{List, ◌∷◌}
use Prim.Native.Nat.{ℕ, ◌+◌, ◌-◌, ◌*◌, ◌≤◌, ◌<◌}
use native.Mathlib.Omega.{arith}
use lib.ListN.{length, take, drop, set, length-drop, length-set}
use lib.Seq.{length-take-le}
use Rattle.buffers.specs.Put.{put}
use Rattle.buffers.specs.PutLaws.{length_put}
use Rattle.format.specs.Limits.{max_path, max_levels}
use Rattle.format.specs.Paths.{Fst, fst_with}
use Rattle.format.specs.Strings as S
use Rattle.reading.specs.Reading.{View, Level, Step, Answer, key, end, next}
use Rattle.paging.specs.Paging.{Page, row_len}
use Rattle.stream_start.specs.Views.{Arrays, stack_is}
use Rattle.stream_start.specs.StackLaws.{stack_length}
use Rattle.range_bound.specs.Besides.{Beside}
use Rattle.range_node.specs.Entries.{SoundTo}
use Rattle.range_down.specs.declared.Next.{Next}
use Rattle.range_turn.specs.Turns.{view_at, step_of, Turned, goes_on, ends, stops}
use Rattle.range_turn.specs.StartStateLaws.{next_walk}
use Rattle.range_fill.specs.declared.Stop.TheVariants as Why
use Rattle.range_fill.specs.RangedRows.{OpensAs, RangedBy}
use Rattle.range_fill.specs.FillLaws.{Filling, FilledFrom, filling_key, filled_more, filled_end, filled_refused}

-- ---- a call of next, and a turn

module _ {s : List ℕ} {version root : ℕ} (o : OpensAs s version root) (hi : S.Bound) (n t : ℕ) (levels : List Level) (short : n ≤ max_path)
    (few : length levels ≤ max_levels) where
  pub next_turn : next s (view_at (length s) hi n t levels) max_path ≡ step_of (fst_with s version root) (length s) hi n t levels
  next_turn =
      next_walk s o.meta o.opens (view_at (length s) hi n t levels) (record { few = few; short = short; same = refl })
      ∙ ap₂ (λ (v r : ℕ). step_of (fst_with s v r) (length s) hi n t levels) o.version_is o.root_is

record KeyTurn (f : Fst) (len : ℕ) (hi : S.Bound) (b : List ℕ) (n t : ℕ) (levels : List Level) (xs is ps os : List ℕ) (k v s : ℕ) : Type 0 where
  low : k < max_levels
  arrays : Arrays xs is ps os
  sounds : SoundTo f xs (k + 1)
  beside : Beside hi b (drop 1 is) k s false
  after : ℕ
  answer : (step_of f len hi n t levels).answer ≡ key (take k (drop 1 is)) v
  reading : (step_of f len hi n t levels).reading ≡ view_at len hi n after (stack_is (k + 1) xs is ps os)

module _ {f : Fst} {len : ℕ} {hi : S.Bound} {b : List ℕ} {n t : ℕ} {levels : List Level} {xs is ps os : List ℕ} where
  key_turn : {q : Next} → Turned f len hi b n t levels xs is ps os (Ok (Some q)) → KeyTurn f len hi b n t levels xs is ps os q.level q.value q.same
  key_turn (goes_on q t' low arrays sounds beside a r) = record { low = low; arrays = arrays; sounds = sounds; beside = beside; after = t'; answer = a; reading = r }

  end_turn : Turned f len hi b n t levels xs is ps os (Ok None) → (step_of f len hi n t levels).answer ≡ end
  end_turn (ends e) = e

  refused_turn : {c : Refusal} → Turned f len hi b n t levels xs is ps os (Err c) → (step_of f len hi n t levels).answer ≡ Answer.refused c
  refused_turn (stops c e) = e

-- ---- the loop

-- the page goes on from the levels in the arrays, with some total
pub record GoesFrom (s : List ℕ) (hi : S.Bound) (n : ℕ) (r₀ : ℕ → View) (first most : ℕ) (rows₀ values₀ rows values xs is ps os : List ℕ) (levels count t : ℕ) : Type 0 where
  pub total : ℕ
  pub goes : (w : Page) (rs vs : List ℕ) → Filling w s (r₀ t) most rs vs rows₀ values₀ first
      → Filling w s (view_at (length s) hi n total (stack_is levels xs is ps os)) most rs vs rows values count

pub record Going (f : Fst) (s : List ℕ) (hi : S.Bound) (b : List ℕ) (n : ℕ) (r₀ : ℕ → View) (first most : ℕ) (rows₀ values₀ rows values xs is ps os : List ℕ)
    (levels count same : ℕ) (over : Bool) : Type 0 where
  pub arrays : Arrays xs is ps os
  pub few : levels ≤ max_levels
  pub sounds : SoundTo f xs levels
  pub beside : Beside hi b (drop 1 is) (levels - 1) same over
  pub rows_len : length rows ≡ length rows₀
  pub values_len : length values ≡ length values₀
  pub from : (t : ℕ) → GoesFrom s hi n r₀ first most rows₀ values₀ rows values xs is ps os levels count t

pub going_none : (f : Fst) (s : List ℕ) (hi : S.Bound) (b : List ℕ) (n first most : ℕ) (rows values xs is ps os : List ℕ) (levels same : ℕ) (over : Bool)
    → Arrays xs is ps os → levels ≤ max_levels → SoundTo f xs levels → Beside hi b (drop 1 is) (levels - 1) same over
    → Going f s hi b n (λ t. view_at (length s) hi n t (stack_is levels xs is ps os)) first most rows values rows values xs is ps os levels first same over
going_none f s hi b n first most rows values xs is ps os levels same over arrays few sounds beside = record {
  arrays = arrays;
  few = few;
  sounds = sounds;
  beside = beside;
  rows_len = refl;
  values_len = refl;
  from = λ t. record { total = t; goes = λ w rs vs q. q };
}

module _ {s : List ℕ} {version root : ℕ} (o : OpensAs s version root) {hi : S.Bound} {b : List ℕ} {n : ℕ} (short : n ≤ max_path) {r₀ : ℕ → View} {first most : ℕ}
    {rows₀ values₀ rows values xs is ps os : List ℕ} {levels count same : ℕ} {over : Bool} (row_room : row_len * most ≤ length rows₀) (value_room : most ≤ length values₀)
    (g : Going (fst_with s version root) s hi b n r₀ first most rows₀ values₀ rows values xs is ps os levels count same over) where
  called : (t : ℕ) → next s (view_at (length s) hi n t (stack_is levels xs is ps os)) max_path
      ≡ step_of (fst_with s version root) (length s) hi n t (stack_is levels xs is ps os)
  called t = next_turn o hi n t (stack_is levels xs is ps os) short (rw (stack_length levels xs is ps os) g.few)

  pub going_more : most ≤ count → (t : ℕ) → FilledFrom s (r₀ t) first most rows₀ rows values₀ values (record { count = most; stop = Ok Why.More })
  going_more full t w rs vs f =
      let q = (g.from t).goes w rs vs f in
      let e : count ≡ most = omega (arith, q.within) in
      subst (λ (j : ℕ). RangedBy w rs rows vs values (record { count = j; stop = Ok Why.More })) e (filled_more q full)

  module _ (left : count < most) {xs' is' ps' os' : List ℕ} {r : Result (Option Next) Refusal}
      (turned : (t : ℕ) → Turned (fst_with s version root) (length s) hi b n t (stack_is levels xs is ps os) xs' is' ps' os' r) where
    pub going_end : r ≡ Ok None → (t : ℕ) → FilledFrom s (r₀ t) first most rows₀ rows values₀ values (record { count = count; stop = Ok Why.End })
    going_end e t w rs vs f =
        let u = (g.from t).total in
        filled_end ((g.from t).goes w rs vs f) left
        (ap (λ (q : Step). q.answer) (called u)
        ∙ end_turn (subst (Turned (fst_with s version root) (length s) hi b n u (stack_is levels xs is ps os) xs' is' ps' os') e (turned u)))

    pub going_refused : (c : Refusal) → r ≡ Err c → (t : ℕ)
        → FilledFrom s (r₀ t) first most rows₀ rows values₀ values (record { count = count; stop = Err c })
    going_refused c e t w rs vs f =
        let u = (g.from t).total in
        filled_refused ((g.from t).goes w rs vs f) left c
        (ap (λ (q : Step). q.answer) (called u)
        ∙ refused_turn (subst (Turned (fst_with s version root) (length s) hi b n u (stack_is levels xs is ps os) xs' is' ps' os') e (turned u)))

    module _ (one : Next) (e : r ≡ Ok (Some one)) where
      abbrev k : ℕ
      k = one.level

      abbrev v : ℕ
      v = one.value

      abbrev agreed : ℕ
      agreed = one.same

      found : (t : ℕ) → KeyTurn (fst_with s version root) (length s) hi b n t (stack_is levels xs is ps os) xs' is' ps' os' k v agreed
      found t = key_turn (subst (Turned (fst_with s version root) (length s) hi b n t (stack_is levels xs is ps os) xs' is' ps' os') e (turned t))

      -- the inputs hold the key, and its row lies within the rows
      pub key_low : k < max_levels
      key_low = (found 0).low

      inputs_len_lem : length is' ≡ max_levels
      inputs_len_lem = (found 0).arrays.inps_len

      -- the key is the k inputs after the first
      pub key_len : length (take (k + 1 - 1) (drop 1 is')) ≡ k
      key_len =
          let q : k + 1 - 1 ≡ k = omega arith in
          ap (λ (j : ℕ). length (take j (drop 1 is'))) q ∙ length-take-le k (drop 1 is') (simp length-drop (omega (arith, inputs_len_lem, key_low)))

      pub row_within : count * 256 + row_len ≤ length rows
      row_within = omega (arith, g.rows_len)

      pub going_key : {rows' : List ℕ} → rows' ≡ put rows (count * 256) (length (take (k + 1 - 1) (drop 1 is')) ∷ take (k + 1 - 1) (drop 1 is'))
          → Going (fst_with s version root) s hi b n r₀ first most rows₀ values₀ rows' (set values count v) xs' is' ps' os' (k + 1) (count + 1) agreed false
      going_key {rows'} put_is =
          let q : k + 1 - 1 ≡ k = omega arith in
          let len : length (take k (drop 1 is')) ≡ k = length-take-le k (drop 1 is') (simp length-drop (omega (arith, inputs_len_lem, key_low))) in
          let put_key : rows' ≡ put rows (count * 256) (k ∷ take k (drop 1 is')) = put_is ∙ ap₂ (λ (j : ℕ) (l : List ℕ). put rows (count * 256) (j ∷ l)) key_len (ap (λ (j : ℕ). take j (drop 1 is')) q) in
          record {
            arrays = (found 0).arrays;
            few = omega (arith, key_low);
            sounds = (found 0).sounds;
            beside = let q : k ≡ k + 1 - 1 = omega arith in subst (λ (j : ℕ). Beside hi b (drop 1 is') j agreed false) q (found 0).beside;
            rows_len = ap length put_key ∙ length_put rows (count * 256) (k ∷ take k (drop 1 is')) (omega (arith, g.rows_len, key_low)) ∙ g.rows_len;
            values_len = length-set values count v ∙ g.values_len;
            from = λ t.
                let u = (g.from t).total in
                record {
                  total = (found u).after;
                  goes = λ w rs vs f.
                      filling_key ((g.from t).goes w rs vs f) (omega (arith, f.rows_len)) (omega (arith, f.values_len)) left (take k (drop 1 is')) v k
                      (view_at (length s) hi n (found u).after (stack_is (k + 1) xs' is' ps' os')) (ap (λ (q : Step). q.answer) (called u) ∙ (found u).answer)
                      (ap (λ (q : Step). q.reading) (called u) ∙ (found u).reading) len (omega (arith, key_low)) put_key;
                };
          }
