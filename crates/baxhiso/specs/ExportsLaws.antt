-- What a result tells the C caller. No refusal has the number 0, so FST_OK and FST_NONE each come from one answer only. Once admission
-- has answered FST_OK for the same bytes, a lookup by key is exact; by value it is exact on a numbered file.
--     opening_nonzero, opening_not_0, refused_not_0     no refusal has the number 0
--     open_ok, get_ok, get_none, key_ok, key_none       the answer behind a result
--     checksum_lt                                       a stored checksum is not taken for a missing one
--     GetTells, get_tells, admitted_tells               by key, on an admitted file
--     KeyTells, key_tells                               by value, on a numbered file
-- Assumes nothing.
use Rattle.std.specs.Prelude.{◌≡◌, refl, Bool, true, false, cond, ◌⊎◌, List, ◌++◌, ℕ, zero, suc, ◌+◌, ◌-◌, ◌^◌, ◌≤◌, ◌<◌, eqb, ℤ, pos, negsuc, length, get_or, take, drop}
use Rattle.std.proofs.Common.{sym, ap, ◌∙◌, inl, inr, arith, length-take, get_or-take, get_or-drop}
use Rattle.std.proofs.Math.Option.{none, some}
use Rattle.std.proofs.Math.Nat.{min-le_left}
use Rattle.format.specs.declared.Refusal.{Refusal}
use Rattle.format.specs.Limits.{max_path, number}
use Rattle.format.specs.Laws.RefusalLaws.{number_from}
use Rattle.format.specs.Laws.BytesLaws.{le_lt, pow_256_le}
use Rattle.format.specs.Opening as O
use Rattle.format.specs.Opening.{Meta, Opening, opened, number_at, meta_of, opening}
use Rattle.format.specs.Paths.{Fst, fst_of, Held}
use Rattle.format.specs.Admitted.{Admitted}
use Rattle.format.specs.Lookup as L
use Rattle.format.specs.Lookup.{value, found, Numbered}
use Rattle.format.specs.Laws.LookupHeld.{get_exact}
use Rattle.format.specs.Laws.NumberedLaws.{get_key_exact}
use Rattle.lookup_search.specs.KeyAnswers.{key_buffer_after}
use Rattle.admission.specs.Outcome.{RefusedFor}
use Rattle.baxhiso.specs.Exports.{OK, NONE, code, checksum_number, numbers_as, OpenLeaves, get_result, get_value, GetLeaves, key_result, key_len, KeyLeaves, AdmitLeaves}

pub picked : {A : Type 0} (P : A → Type 0) (t : Bool) {x y : A} → P x → P y → P (cond t x y)
picked P true px py = px
picked P false px py = py

-- ---- no refusal has the number 0

pub data OpeningNonzero : Opening → Type 0 where
  opens : (m : Meta) → OpeningNonzero (opened m)
  turns : (n : Refusal) → 1 ≤ number n → OpeningNonzero (O.Opening.refused n)

nonzero : (w : Opening) → OpeningNonzero w
nonzero (opened m) = opens m
nonzero (O.Opening.refused n) = turns n (number_from n)

pub opening_nonzero : (s : List ℕ) → OpeningNonzero (opening s)
opening_nonzero s = nonzero (opening s)

pub opening_not_0 : (w : Opening) → OpeningNonzero w → (n : Refusal) → number n ≡ 0 → ¬ (w ≡ O.Opening.refused n)
opening_not_0 w (opens m) n z e = let y : ◌≡◌ {A = ℕ} 0 1 = cc in omega arith
opening_not_0 w (turns k low) n z e = let y : k ≡ n = cc in omega (arith, low, z, ap number y)

pub refused_not_0 : {s d₀ s₀ d t : List ℕ} {n : Refusal} → number n ≡ 0 → ¬ RefusedFor s d₀ s₀ d t n
refused_not_0 {n = n} z h = omega (arith, number_from n)

-- ---- the answer behind a result

pub positive_not_0 : (n : Refusal) → ¬ (code n ≡ OK)
positive_not_0 n e = let z : number n ≡ 0 = cc in omega (arith, number_from n)

pub not_none : (n : Refusal) → ¬ (code n ≡ NONE)
not_none n e = let z : ◌≡◌ {A = ℕ} 0 1 = cc in omega arith

none_not_0 : ¬ (NONE ≡ OK)
none_not_0 e = let z : ◌≡◌ {A = ℕ} 0 1 = cc in omega arith

ok_not_none : ¬ (OK ≡ NONE)
ok_not_none e = let z : ◌≡◌ {A = ℕ} 0 1 = cc in omega arith

pub open_ok : (s meta₀ meta : List ℕ) (r : ℤ) → OpenLeaves (opening s) meta₀ meta r → r ≡ OK → (m : Meta) × (opening s ≡ opened m) × (meta ≡ numbers_as m)
open_ok s meta₀ meta r h e = go (opening s) (opening_nonzero s) h
  where
    go : (w : Opening) → OpeningNonzero w → OpenLeaves w meta₀ meta r → (m : Meta) × (w ≡ opened m) × (meta ≡ numbers_as m)
    go w (opens m) h = (m, refl, h.numbers)
    go w (turns n low) h = absurd (positive_not_0 n (sym h.result ∙ e))

-- a stored checksum is below the number that stands for a missing one
number_lt : (s : List ℕ) → ((i : ℕ) → get_or s i 0 < 256) → (i k : ℕ) → number_at s i k < 256 ^ k
number_lt s bytes i k =
    let short : length (take k (drop i s)) ≤ k = rw length-take (min-le_left k (length (drop i s))) in
    let few = pow_256_le short in
    let small = le_lt (take k (drop i s)) (λ j l. let q : j < k = omega arith in rw (get_or-take k (drop i s) j 0 q, get_or-drop i s j 0) (bytes (i + j))) in
    omega arith

pub checksum_lt : (s : List ℕ) → ((i : ℕ) → get_or s i 0 < 256) → (n : ℕ) → (meta_of s).checksum ≡ some n → n < checksum_number none
unfolding meta_of
checksum_lt s bytes n e = go (eqb (number_at s 0 8) 3) e
  where
    go : (t : Bool) → cond t (some (number_at s (length s - 4) 4)) none ≡ some n → n < 4294967296
    go true is = let same : number_at s (length s - 4) 4 ≡ n = cc in omega (arith, number_lt s bytes (length s - 4) 4)
    go false is = absurd (let z : ◌≡◌ {A = ℕ} 0 1 = cc in omega arith)

module _ (s k : List ℕ) (v₀ v : ℕ) (r : ℤ) (h : GetLeaves (L.get s k) v₀ v r) where
  pub get_ok : r ≡ OK → L.get s k ≡ value v
  get_ok e = go (L.get s k) h
    where
      go : (w : L.Answer) → GetLeaves w v₀ v r → w ≡ value v
      go (value u) h = ap value (sym h.value_is)
      go L.Answer.none h = absurd (none_not_0 (sym h.result ∙ e))
      go (L.Answer.refused n) h = absurd (positive_not_0 n (sym h.result ∙ e))

  pub get_none : r ≡ NONE → L.get s k ≡ L.Answer.none
  get_none e = go (L.get s k) h
    where
      go : (w : L.Answer) → GetLeaves w v₀ v r → w ≡ L.Answer.none
      go (value u) h = absurd (ok_not_none (sym h.result ∙ e))
      go L.Answer.none h = refl
      go (L.Answer.refused n) h = absurd (not_none n (sym h.result ∙ e))

module _ (s : List ℕ) (v space : ℕ) (buf₀ buf : List ℕ) (n₀ n : ℕ) (r : ℤ) (h : KeyLeaves (L.get_key s v space) buf₀ buf n₀ n r) where
  pub key_ok : r ≡ OK → (k : List ℕ) × (L.get_key s v space ≡ found k) × (buf ≡ k ++ drop (length k) buf₀) × (n ≡ length k)
  key_ok e = go (L.get_key s v space) h
    where
      go : (w : L.KeyAnswer) → KeyLeaves w buf₀ buf n₀ n r → (k : List ℕ) × (w ≡ found k) × (buf ≡ k ++ drop (length k) buf₀) × (n ≡ length k)
      go (found k) h = (k, refl, h.buffer, h.len)
      go L.KeyAnswer.none h = absurd (none_not_0 (sym h.result ∙ e))
      go (L.KeyAnswer.refused x) h = absurd (positive_not_0 x (sym h.result ∙ e))

  pub key_none : r ≡ NONE → L.get_key s v space ≡ L.KeyAnswer.none
  key_none e = go (L.get_key s v space) h
    where
      go : (w : L.KeyAnswer) → KeyLeaves w buf₀ buf n₀ n r → w ≡ L.KeyAnswer.none
      go (found k) h = absurd (ok_not_none (sym h.result ∙ e))
      go L.KeyAnswer.none h = refl
      go (L.KeyAnswer.refused x) h = absurd (not_none x (sym h.result ∙ e))

-- ---- by key, on a file that was admitted

pub record GetTells (f : Fst) (k : List ℕ) (v₀ v : ℕ) (r : ℤ) : Type 0 where
  pub answered : (r ≡ OK) ⊎ (r ≡ NONE)
  pub ok_held : r ≡ OK → Held f k v
  pub held_ok : (u : ℕ) → Held f k u → (r ≡ OK) × (v ≡ u)
  pub none_held : r ≡ NONE → (u : ℕ) → ¬ Held f k u
  pub held_none : ((u : ℕ) → ¬ Held f k u) → (r ≡ NONE) × (v ≡ v₀)

get_answered : (w : L.Answer) {v₀ v : ℕ} {r : ℤ} → ((n : Refusal) → ¬ (w ≡ L.Answer.refused n)) → GetLeaves w v₀ v r → (r ≡ OK) ⊎ (r ≡ NONE)
get_answered (value u) never h = inl h.result
get_answered L.Answer.none never h = inr h.result
get_answered (L.Answer.refused n) never h = absurd (never n refl)

pub get_tells : {s : List ℕ} (A : Admitted s) (k : List ℕ) (v₀ v : ℕ) (r : ℤ) → GetLeaves (L.get s k) v₀ v r → GetTells (fst_of s A.meta) k v₀ v r
get_tells {s} A k v₀ v r h =
    let exact = get_exact A k in
    record {
      answered = get_answered (L.get s k) exact.get_not_refused h;
      ok_held = λ e. exact.held_get v (get_ok s k v₀ v r h e);
      held_ok = λ u held. let w = exact.get_held u held in (h.result ∙ ap get_result w, h.value_is ∙ ap (λ x. get_value x v₀) w);
      none_held = λ e. exact.none_held (get_none s k v₀ v r h e);
      held_none = λ unheld. let w = exact.get_none unheld in (h.result ∙ ap get_result w, h.value_is ∙ ap (λ x. get_value x v₀) w);
    }

-- ---- by value, on a numbered file

pub record KeyTells (f : Fst) (v : ℕ) (buf₀ buf : List ℕ) (n₀ n : ℕ) (r : ℤ) : Type 0 where
  pub answered : (r ≡ OK) ⊎ (r ≡ NONE)
  pub ok_held : r ≡ OK → (k : List ℕ) × Held f k v × (buf ≡ k ++ drop (length k) buf₀) × (n ≡ length k)
  pub held_ok : (k : List ℕ) → Held f k v → (r ≡ OK) × (buf ≡ k ++ drop (length k) buf₀) × (n ≡ length k)
  pub none_held : r ≡ NONE → (k : List ℕ) → ¬ Held f k v
  pub held_none : ((k : List ℕ) → ¬ Held f k v) → (r ≡ NONE) × (buf ≡ buf₀) × (n ≡ n₀)

key_answered : (w : L.KeyAnswer) {buf₀ buf : List ℕ} {n₀ n : ℕ} {r : ℤ} → ((x : Refusal) → ¬ (w ≡ L.KeyAnswer.refused x)) → KeyLeaves w buf₀ buf n₀ n r
    → (r ≡ OK) ⊎ (r ≡ NONE)
key_answered (found k) never h = inl h.result
key_answered L.KeyAnswer.none never h = inr h.result
key_answered (L.KeyAnswer.refused x) never h = absurd (never x refl)

pub key_tells : {s : List ℕ} (N : Numbered s) (v : ℕ) (buf₀ buf : List ℕ) (n₀ n : ℕ) (r : ℤ) → max_path ≤ length buf₀
    → KeyLeaves (L.get_key s v (length buf₀)) buf₀ buf n₀ n r → KeyTells (fst_of s N.admitted.meta) v buf₀ buf n₀ n r
key_tells {s} N v buf₀ buf n₀ n r room h =
    let exact = get_key_exact N v (length buf₀) in
    record {
      answered = key_answered (L.get_key s v (length buf₀)) (exact.not_refused room) h;
      ok_held = λ e. let a = key_ok s v (length buf₀) buf₀ buf n₀ n r h e in (a.0, exact.get_key_found a.0 a.1, a.2, a.3);
      held_ok = λ k held. let w = exact.get_key_held room k held in (h.result ∙ ap key_result w, h.buffer ∙ ap (λ x. key_buffer_after x buf₀) w, h.len ∙ ap (λ x. key_len x n₀) w);
      none_held = λ e. exact.none_key_held room (key_none s v (length buf₀) buf₀ buf n₀ n r h e);
      held_none = λ unheld. let w = exact.get_key_none room unheld in (h.result ∙ ap key_result w, h.buffer ∙ ap (λ x. key_buffer_after x buf₀) w, h.len ∙ ap (λ x. key_len x n₀) w);
    }

-- ---- for a caller that asked for admission first

pub admitted_tells : (s d₀ s₀ d t : List ℕ) (a : ℤ) → AdmitLeaves s d₀ s₀ d t a → a ≡ OK
    → (A : Admitted s) × ((k : List ℕ) (v₀ v : ℕ) (r : ℤ) → GetLeaves (L.get s k) v₀ v r → GetTells (fst_of s A.meta) k v₀ v r)
admitted_tells s d₀ s₀ d t (pos zero) h e = (h.admitted, get_tells h.admitted)
admitted_tells s d₀ s₀ d t (pos (suc n)) h e = absurd (let z : suc n ≡ 0 = cc in omega arith)
admitted_tells s d₀ s₀ d t (negsuc n) h e = absurd h
