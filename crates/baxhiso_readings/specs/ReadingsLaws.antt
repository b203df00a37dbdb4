-- What a result of a reading tells the C caller. No refusal has the number 0, so FST_OK and FST_END each come from one answer only.
--     counted_not_0                 no refusal of a filling has the number 0
--     start_nonzero, next_nonzero   nor has one of a start, or of a next, which gives the reading back as it was
--     start_ok                      the answer behind FST_OK of a start
--     next_ok, next_end             the answers behind FST_OK and FST_END of a next
--     refused_stays                 after any other result the arrays hold the reading that they held
--     stop_nonzero, page_nonzero    no refusal of a page has the number 0, and so none of a range
--     RangeTells, range_tells       a range on an admitted file, with short bounds and room: FST_END or FST_MORE, and the first keys between the bounds
-- Assumes nothing.
use Rattle.std.specs.Prelude.{◌≡◌, refl, ◌⊎◌, List, [], ◌++◌, ℕ, ◌-◌, ◌*◌, ◌≤◌, leb, eqb, ℤ, length, drop}
use Rattle.std.proofs.Common.{sym, ap, subst, ◌∙◌, inl, inr, arith}
use Rattle.std.proofs.Math.Option.{Option, none, some}
use Rattle.format.specs.declared.Refusal.{Refusal}
use Rattle.format.specs.Limits.{max_path, number, NODE, SPACE, STATE}
use Rattle.format.specs.Laws.RefusalLaws.{number_from}
use Rattle.format.specs.Opening.{Meta, Opening, opened, opening}
use Rattle.format.specs.Paths.{Fst, fst_of}
use Rattle.format.specs.Admitted.{Admitted}
use Rattle.format.specs.Strings.{Bound}
use Rattle.reading.specs.Reading as R
use Rattle.reading.specs.Reading.{View, key, end, on_opened, bound_bytes, Popped, top, used_up, bad, pop, Went, found, passed, descend, after_pop, after_descend, walk, state_test, passes_test, refuse}
use Rattle.paging.specs.Paging as G
use Rattle.paging.specs.Paging.{Page, ended, more, row_len, values_after}
use Rattle.paging.specs.RangeExact.{RangeExact}
use Rattle.paging.proofs.RangeLaws.{range_exact, held_short}
use Rattle.paging.proofs.RowLaws.{RowsHold, rows_hold}
use Rattle.plain.specs.Plain as P
use Rattle.counting.specs.CountOutcomes.{CountRefusedFor}
use Rattle.stream_arrays.specs.Arrays.{Held, held_plain}
use Rattle.baxhiso.specs.Exports.{OK, code}
use Rattle.baxhiso.specs.ExportsLaws.{picked, positive_not_0}
use Rattle.baxhiso_readings.specs.Readings.{END, MORE, StartLeaves, NextLeaves, range_result, RangeLeaves}

-- ---- the table of keys

pub counted_not_0 : {s d₀ s₀ c₀ d t c : List ℕ} {why : Refusal} → CountRefusedFor s d₀ s₀ c₀ d t c why → ¬ (number why ≡ 0)
counted_not_0 {why = why} h e = omega (arith, number_from why, e)

-- ---- start

pub data BegunNonzero : P.Begun → Type 0 where
  begins : (p : P.Plain) → BegunNonzero (P.begun p)
  begun_refuses : (n : Refusal) → 1 ≤ number n → BegunNonzero (P.Begun.refused n)

begun_nonzero : (w : P.Begun) → BegunNonzero w
begun_nonzero (P.begun p) = begins p
begun_nonzero (P.Begun.refused n) = begun_refuses n (number_from n)

pub start_nonzero : (s : List ℕ) (lo hi : Bound) (c : List ℕ) → BegunNonzero (P.start_plain s lo hi c)
start_nonzero s lo hi c = begun_nonzero (P.start_plain s lo hi c)

-- ---- next

opened_picked : {A : Type 0} (Q : A → Type 0) (w : Opening) (go : Meta → A) (stop : Refusal → A) → ((m : Meta) → Q (go m)) → ((n : Refusal) → Q (stop n))
    → Q (on_opened w go stop)
opened_picked Q (opened m) go stop h k = h m
opened_picked Q (Opening.refused n) go stop h k = k n

-- a key, the end, or a refusal with the reading as it was
data Tells (r : View) : R.Step → Type 0 where
  hands : (k : List ℕ) (v : ℕ) (r' : View) → Tells r (record { answer = key k v; reading = r' })
  ends : (r' : View) → Tells r (record { answer = end; reading = r' })
  keeps : (n : Refusal) → Tells r (refuse r n)

went_tells : (r : View) (w : Went) → Tells r (after_descend r w)
went_tells r (found s v t) = hands _ _ _
went_tells r (passed t) = ends _
went_tells r (Went.halted n) = keeps n

pop_tells : (f : Fst) (r : View) (p : Popped) → Tells r (after_pop f r p)
pop_tells f r (top l m s) = went_tells r (descend (max_path - length s) f r.bound l m s r.total)
pop_tells f r used_up = ends _
pop_tells f r bad = keeps NODE

walk_tells : (f : Fst) (r : View) (e : Option ℕ) → Tells r (walk f r e)
walk_tells f r (some v) = picked (Tells r) (passes_test r.bound []) (ends _) (hands _ _ _)
walk_tells f r none = pop_tells f r (pop f r.levels)

bare_tells : (s : List ℕ) (r : View) (space : ℕ) → Tells r (R.next s r space)
unfolding R.next
bare_tells s r space =
    opened_picked (Tells r) (opening s) _ _
    (λ m.
    picked (Tells r) (state_test r (length s)) (picked (Tells r) (leb max_path space) (walk_tells (fst_of s m) r r.empty) (keeps SPACE)) (keeps STATE))
    (λ n. keeps n)

pub data NextTells (p : P.Plain) : P.PlainStep → Type 0 where
  hands_out : (k : List ℕ) (v : ℕ) (q : P.Plain) → NextTells p (record { answer = key k v; reading = q })
  comes_to_end : (q : P.Plain) → NextTells p (record { answer = end; reading = q })
  leaves : (n : Refusal) → 1 ≤ number n → NextTells p (record { answer = R.Answer.refused n; reading = p })

plain_tells : (p : P.Plain) (o : R.Step) → Tells p.view o → NextTells p (P.counted_step p o)
plain_tells p o (hands k v r') = picked (NextTells p) (eqb p.keys 0) (leaves STATE (number_from STATE)) (hands_out _ _ _)
plain_tells p o (ends r') = comes_to_end _
plain_tells p o (keeps n) = leaves n (number_from n)

pub next_nonzero : (s : List ℕ) (p : P.Plain) (space : ℕ) → NextTells p (P.next_plain s p space)
next_nonzero s p space = plain_tells p _ (bare_tells s p.view space)

-- ---- the answer behind a result

end_not_0 : ¬ (END ≡ OK)
end_not_0 e = let z : ◌≡◌ {A = ℕ} 0 1 = cc in omega arith

not_end : (n : Refusal) → ¬ (code n ≡ END)
not_end n e = let z : ◌≡◌ {A = ℕ} 0 1 = cc in omega arith

module _ (s : List ℕ) (lo hi : Bound) (c : List ℕ) {h₀ : Held} {n₀ : List ℕ} {h : Held} {n : List ℕ} {r : ℤ}
    (left : StartLeaves (P.start_plain s lo hi c) h₀ n₀ h n r) where
  pub start_ok : r ≡ OK → P.start_plain s lo hi c ≡ P.begun (held_plain h n)
  start_ok e = go (P.start_plain s lo hi c) (start_nonzero s lo hi c) left
    where
      go : (w : P.Begun) → BegunNonzero w → StartLeaves w h₀ n₀ h n r → w ≡ P.begun (held_plain h n)
      go w (begins p) l = ap P.begun (sym (l.reading p refl))
      go w (begun_refuses x low) l = absurd (positive_not_0 x (sym l.result ∙ e))

module _ (s : List ℕ) (p : P.Plain) {h : Held} {n k₀ k : List ℕ} {len₀ len v₀ v : ℕ} {r : ℤ}
    (left : NextLeaves (P.next_plain s p (length k₀)) h n k₀ k len₀ len v₀ v r) where
  pub next_ok : r ≡ OK
      → (x : List ℕ) × (P.next_plain s p (length k₀) ≡ record { answer = key x v; reading = held_plain h n }) × (k ≡ x ++ drop (length x) k₀) × (len ≡ length x)
  next_ok e = go (P.next_plain s p (length k₀)) (next_nonzero s p (length k₀)) left
    where
      go : (w : P.PlainStep) → NextTells p w → NextLeaves w h n k₀ k len₀ len v₀ v r
          → (x : List ℕ) × (w ≡ record { answer = key x v; reading = held_plain h n }) × (k ≡ x ++ drop (length x) k₀) × (len ≡ length x)
      go w (hands_out x y q) l = (x, (let a = l.value_is in let b = l.reading in cc), l.buffer, l.len_is)
      go w (comes_to_end q) l = absurd (end_not_0 (sym l.result ∙ e))
      go w (leaves i low) l = absurd (positive_not_0 i (sym l.result ∙ e))

  pub next_end : r ≡ END → (P.next_plain s p (length k₀) ≡ record { answer = end; reading = held_plain h n }) × (k ≡ k₀)
  next_end e = go (P.next_plain s p (length k₀)) (next_nonzero s p (length k₀)) left
    where
      go : (w : P.PlainStep) → NextTells p w → NextLeaves w h n k₀ k len₀ len v₀ v r → (w ≡ record { answer = end; reading = held_plain h n }) × (k ≡ k₀)
      go w (hands_out x y q) l = absurd (end_not_0 (sym (sym l.result ∙ e)))
      go w (comes_to_end q) l = ((let b = l.reading in cc), l.buffer)
      go w (leaves i low) l = absurd (not_end i (sym l.result ∙ e))

  pub refused_stays : ¬ (r ≡ OK) → ¬ (r ≡ END) → (held_plain h n ≡ p) × (k ≡ k₀) × (len ≡ len₀) × (v ≡ v₀)
  refused_stays no_key no_end = go (P.next_plain s p (length k₀)) (next_nonzero s p (length k₀)) left
    where
      go : (w : P.PlainStep) → NextTells p w → NextLeaves w h n k₀ k len₀ len v₀ v r → (held_plain h n ≡ p) × (k ≡ k₀) × (len ≡ len₀) × (v ≡ v₀)
      go w (hands_out x y q) l = absurd (no_key l.result)
      go w (comes_to_end q) l = absurd (no_end l.result)
      go w (leaves i low) l = (l.reading, l.buffer, l.len_is, l.value_is)

-- ---- a range

pub data StopNonzero : G.Stop → Type 0 where
  ended_stop : StopNonzero ended
  more_stop : StopNonzero more
  refused_stop : (n : Refusal) → 1 ≤ number n → StopNonzero (G.Stop.refused n)

pub stop_nonzero : (w : G.Stop) → StopNonzero w
stop_nonzero ended = ended_stop
stop_nonzero more = more_stop
stop_nonzero (G.Stop.refused n) = refused_stop n (number_from n)

pub page_nonzero : (s : List ℕ) (lo hi : Bound) (most a b : ℕ) → StopNonzero (G.range s lo hi most a b).stop
page_nonzero s lo hi most a b = stop_nonzero (G.range s lo hi most a b).stop

-- the result, and the page: its keys are the first held ones between the bounds, each stands in its row, byte by byte, and its value in its place
pub record RangeTells {s : List ℕ} (A : Admitted s) (lo hi : Bound) (most : ℕ) (p : Page) (rows₀ rows values₀ values : List ℕ) (count : ℕ) (r : ℤ) : Type 0 where
  pub answered : (r ≡ END) ⊎ (r ≡ MORE)
  pub exact : RangeExact A lo hi most p
  pub end_ended : r ≡ END → p.stop ≡ ended
  pub more_more : r ≡ MORE → p.stop ≡ more
  pub count_is : count ≡ length p.entries
  pub rows_are : RowsHold p.entries rows₀ rows
  pub values_are : values ≡ values_after p.entries values₀

more_not_end : ¬ (MORE ≡ END)
more_not_end e = let z : ◌≡◌ {A = ℕ} 0 1 = cc in omega arith

module _ {s : List ℕ} (A : Admitted s) (lo hi : Bound) (most : ℕ) (rows₀ rows values₀ values : List ℕ) (count : ℕ) (r : ℤ) (row_room : row_len * most ≤ length rows₀) where
  abbrev Told : Page → Type 0
  Told p = RangeTells A lo hi most p rows₀ rows values₀ values count r

  abbrev Left : Page → Type 0
  Left p = RangeLeaves p rows₀ rows values₀ values count r

  rows_told : (p : Page) → RangeExact A lo hi most p → Left p → RowsHold p.entries rows₀ rows
  rows_told p exact l =
      subst (RowsHold p.entries rows₀) (sym l.rows_are)
      (rows_hold p.entries rows₀ (λ e on. held_short A (exact.held e on).0) (omega (arith, exact.at_most, row_room)))

  tells_of : (p : Page) (w : G.Stop) → p.stop ≡ w → RangeExact A lo hi most p → Left p → Told p
  tells_of p ended is exact l =
      let e : r ≡ END = l.result ∙ ap range_result is in
      record {
        answered = inl e;
        exact = exact;
        end_ended = λ q. is;
        more_more = λ q. absurd (more_not_end (sym q ∙ e));
        count_is = l.count_is;
        rows_are = rows_told p exact l;
        values_are = l.values_are;
      }
  tells_of p more is exact l =
      let e : r ≡ MORE = l.result ∙ ap range_result is in
      record {
        answered = inr e;
        exact = exact;
        end_ended = λ q. absurd (more_not_end (sym e ∙ q));
        more_more = λ q. is;
        count_is = l.count_is;
        rows_are = rows_told p exact l;
        values_are = l.values_are;
      }
  tells_of p (G.Stop.refused n) is exact l = absurd (exact.not_refused n is)

  pub range_tells : length (bound_bytes lo) ≤ max_path → length (bound_bytes hi) ≤ max_path → most ≤ length values₀
      → Left (G.range s lo hi most (length rows₀) (length values₀)) → Told (G.range s lo hi most (length rows₀) (length values₀))
  range_tells short_lo short_hi value_room h =
      let p = G.range s lo hi most (length rows₀) (length values₀) in
      tells_of p p.stop refl (range_exact A lo hi most (length rows₀) (length values₀) short_lo short_hi row_room value_room) h
