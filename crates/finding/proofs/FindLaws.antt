-- A page by pattern of an admitted file: `find_exact`, and its refusals. The fold is a list of calls, of which demand 3 by pattern holds.
--     fold_by_answers               the fold is the page of the answers of n calls
--     FoldExact, fold_exact         n calls from a start
--     find_exact                    the claim (`FindExact`)
--     find_many, find_long_bound, find_no_room     the only refusals on an admitted file
-- Assumes nothing.
use Rattle.std.specs.Prelude.{◌≡◌, refl, ◌⊎◌, ℕ, zero, suc, ◌+◌, ◌*◌, ◌≤◌, ◌<◌, leb, length, replicate}
use Rattle.std.proofs.Common.{sym, ◌∙◌, ap, ap₂, subst, ⊎_elim, inl, inr, le_refl, arith, length-append}
use mathlib.Core.List.Memᴰ
use mathlib.Core.List.{List, [], ◌∷◌, ◌++◌, map, Memᴰ}
use borrow.Author.Tests.{le-leb, lt-leb}
use Rattle.std.proofs.lemmas.List.{length-map, length-replicate}
use Rattle.format.specs.declared.Refusal.{Refusal}
use Rattle.format.specs.Limits.{max_path, BOUND, SPACE, PATTERN}
use Rattle.format.specs.Paths.{fst_of}
use Rattle.format.specs.Admitted.{Admitted}
use Rattle.format.specs.Strings.{Bound}
use Rattle.reading.specs.Reading.{View, bound_bytes, started, Answer, key, end}
use Rattle.reading.proofs.WholeLaws.{both_false}
use Rattle.reading.specs.Demand.{Call, Allowed, unrefused, unrefused_then, Entry, hand_out, handed_in}
use Rattle.pattern.specs.Pattern.{Pattern, start_by, next_by}
use Rattle.pattern.specs.PatternDemand.{call_by, reading_after_by, answers_by, NoneLeftBy, DemandBy}
use Rattle.pattern.proofs.DemandByLaws.{demand_3_by}
use Rattle.paging.specs.Paging.{Stop, ended, more, Page, page, refused_page, answered, row_len}
use Rattle.finding.specs.Finding.{fold_by, find}
use Rattle.finding.specs.FindExact.{FindExact}

-- ---- the fold as a list of calls

abbrev file_call : (s : List ℕ) → Call s
file_call s = record { file = s; space = max_path; which = inl refl }

abbrev calls_of : (s : List ℕ) → ℕ → List (Call s)
calls_of s n = replicate n (file_call s)

abbrev page_of : List Answer → Page
page_of [] = page [] more
page_of (a ∷ l) = answered a (page_of l)

fold_by_answers : (s : List ℕ) (p : Pattern) (r : View) (n : ℕ) → fold_by s p r n ≡ page_of (answers_by p r (calls_of s n))
unfolding fold_by
fold_by_answers s p r zero = refl
fold_by_answers s p r (suc n) = ap (answered (next_by s p r max_path).answer) (fold_by_answers s p (next_by s p r max_path).reading n)

abbrev stop_after : ℕ → Stop
stop_after zero = more
stop_after (suc n) = ended

page_of_handed : (hs : List Entry) (n : ℕ) → page_of (map hand_out hs ++ replicate n end) ≡ page hs (stop_after n)
page_of_handed [] zero = refl
page_of_handed [] (suc n) = refl
page_of_handed (e ∷ hs) n = ap (λ (w : Page). page (e ∷ w.entries) w.stop) (page_of_handed hs n)

handed_in_all : (hs : List Entry) → handed_in (map hand_out hs) ≡ hs
handed_in_all [] = refl
handed_in_all (e ∷ hs) = ap (λ (l : List Entry). e ∷ l) (handed_in_all hs)

answers_length : {s : List ℕ} (p : Pattern) (r : View) (cs : List (Call s)) → length (answers_by p r cs) ≡ length cs
answers_length p r [] = refl
answers_length p r (c ∷ cs) = ap suc (answers_length p (call_by p r c).reading cs)

-- every one of these calls is handed the file, and room
call_allowed : (s : List ℕ) → Allowed (file_call s)
call_allowed s = record { same = refl; room = le_refl max_path }

calls_allowed : (s : List ℕ) (n : ℕ) (c : Call s) → Memᴰ c (calls_of s n) → Allowed c
calls_allowed s zero c on = absurd (Memᴰ.not-nil on)
calls_allowed s (suc n) c on =
    ⊎_elim
    (λ (q : c ≡ file_call s). subst Allowed (sym q) (call_allowed s))
    (λ (h : Memᴰ c (calls_of s n)). calls_allowed s n c h)
    (Memᴰ.cases_cons on)

-- ---- a list of answers without refusals

unrefused_then_lem : (a : Answer) (l : List Answer) → ((n : Refusal) → ¬ (a ≡ Answer.refused n)) → unrefused_then a l ≡ a ∷ l
unrefused_then_lem (key k v) l h = refl
unrefused_then_lem end l h = refl
unrefused_then_lem (Answer.refused n) l h = absurd (h n refl)

none_refused : {s : List ℕ} (p : Pattern) (r : View) (cs : List (Call s))
    → ((cs₁ cs₂ : List (Call s)) (c : Call s) → cs ≡ cs₁ ++ (c ∷ cs₂) → (n : Refusal) → ¬ ((call_by p (reading_after_by p r cs₁) c).answer ≡ Answer.refused n))
    → unrefused (answers_by p r cs) ≡ answers_by p r cs
none_refused p r [] h = refl
none_refused {s} p r (c ∷ cs) h =
    unrefused_then_lem (call_by p r c).answer (unrefused (answers_by p (call_by p r c).reading cs)) (h [] cs c refl)
    ∙ ap (λ (l : List Answer). (call_by p r c).answer ∷ l)
    (none_refused p (call_by p r c).reading cs (λ cs₁ cs₂ d is. h (c ∷ cs₁) cs₂ d (ap (λ (l : List (Call s)). c ∷ l) is)))

-- the first call that answered "end"
record EndAt (s : List ℕ) (p : Pattern) (r : View) (n : ℕ) (hs : List Entry) : Type 0 where
  first : List (Call s)
  after : List (Call s)
  split : calls_of s n ≡ first ++ (file_call s ∷ after)
  answers : answers_by p r first ≡ map hand_out hs
  at_end : (call_by p (reading_after_by p r first) (file_call s)).answer ≡ end

end_at_lem : (s : List ℕ) (p : Pattern) (r : View) (n : ℕ) (hs : List Entry) (l : List Answer) → answers_by p r (calls_of s n) ≡ map hand_out hs ++ (end ∷ l) → EndAt s p r n hs
end_at_lem s p r zero [] l e = absurd (let z : ◌≡◌ {A = ℕ} 0 1 = cc in omega arith)
end_at_lem s p r zero (h ∷ hs) l e = absurd (let z : ◌≡◌ {A = ℕ} 0 1 = cc in omega arith)
end_at_lem s p r (suc n) [] l e = record { first = []; after = calls_of s n; split = refl; answers = refl; at_end = cc }
end_at_lem s p r (suc n) (h ∷ hs) l e =
    let now_is_lem : (call_by p r (file_call s)).answer ≡ hand_out h = cc in
    let then_is : answers_by p (call_by p r (file_call s)).reading (calls_of s n) ≡ map hand_out hs ++ (end ∷ l) = cc in
    let w = end_at_lem s p (call_by p r (file_call s)).reading n hs l then_is in
    record {
      first = file_call s ∷ w.first;
      after = w.after;
      split = ap (λ (cs : List (Call s)). file_call s ∷ cs) w.split;
      answers = ap₂ ◌∷◌ now_is_lem w.answers;
      at_end = w.at_end;
    }

-- ---- n calls from a start

module _ {s : List ℕ} (A : Admitted s) (lo hi : Bound) (short_lo : length (bound_bytes lo) ≤ max_path) (short_hi : length (bound_bytes hi) ≤ max_path)
    (p : Pattern) (few : length p.positions ≤ max_path) (n : ℕ) where
  abbrev D : DemandBy A p lo hi (calls_of s n)
  D = demand_3_by A lo hi short_lo short_hi p few (calls_of s n)

  answers_are : answers_by p D.reading (calls_of s n) ≡ map hand_out D.handed ++ replicate D.ends end
  answers_are =
      sym (none_refused p D.reading (calls_of s n)
      (λ cs₁ cs₂ c is.
      (D.refused_exactly cs₁ cs₂ c is).0
      (calls_allowed s n c (subst (Memᴰ c) (sym is) (Memᴰ.append_right cs₁ (Memᴰ.head refl))))))
      ∙ D.one_a_call

  fold_is : fold_by s p D.reading n ≡ page D.handed (stop_after D.ends)
  fold_is = fold_by_answers s p D.reading n ∙ ap page_of answers_are ∙ page_of_handed D.handed D.ends

  count_is : n ≡ length D.handed + D.ends
  count_is =
      sym (answers_length p D.reading (calls_of s n) ∙ length-replicate n (file_call s))
      ∙ ap length answers_are
      ∙ length-append (map hand_out D.handed) (replicate D.ends end)
      ∙ ap₂ ◌+◌ (length-map D.handed hand_out) (length-replicate D.ends end)

  -- where "end" was answered, the keys before it are all
  all_handed : (m : ℕ) → D.ends ≡ suc m → NoneLeftBy (fst_of s A.meta) p lo hi D.handed
  all_handed m is =
      let w = end_at_lem s p D.reading n D.handed (replicate m end) (answers_are ∙ ap (λ (k : ℕ). map hand_out D.handed ++ replicate k end) is) in
      subst (NoneLeftBy (fst_of s A.meta) p lo hi) (ap handed_in w.answers ∙ handed_in_all D.handed)
      ((D.end_exactly w.first w.after (file_call s) w.split (call_allowed s)).0 w.at_end)

  exact_at : (m : ℕ) → D.ends ≡ m → FindExact A p lo hi n (page D.handed (stop_after m))
  exact_at zero is =
      record {
        wanted = D.wanted;
        ascending = D.ascending;
        none_left_out = D.none_left_out;
        at_most = omega (arith, count_is);
        not_refused = λ i e. let z : ◌≡◌ {A = ℕ} 0 1 = cc in omega arith;
        ended_fewer = λ e. let z : ◌≡◌ {A = ℕ} 0 1 = cc in absurd (omega arith);
        fewer_ended = λ l. absurd (omega (arith, count_is));
        ended_none_left = λ e. let z : ◌≡◌ {A = ℕ} 0 1 = cc in absurd (omega arith);
        more_all = λ e. omega (arith, count_is);
        all_more = λ l. refl;
      }
  exact_at (suc m) is =
      record {
        wanted = D.wanted;
        ascending = D.ascending;
        none_left_out = D.none_left_out;
        at_most = omega (arith, count_is);
        not_refused = λ i e. let z : ◌≡◌ {A = ℕ} 0 1 = cc in omega arith;
        ended_fewer = λ e. omega (arith, count_is);
        fewer_ended = λ l. refl;
        ended_none_left = λ e. all_handed m is;
        more_all = λ e. let z : ◌≡◌ {A = ℕ} 0 1 = cc in absurd (omega arith);
        all_more = λ l. absurd (omega (arith, count_is));
      }

  fold_exact : FindExact A p lo hi n (fold_by s p D.reading n)
  fold_exact = subst (FindExact A p lo hi n) (sym fold_is) (exact_at D.ends refl)

-- ---- where a page comes to the fold

module _ {s : List ℕ} (A : Admitted s) (p : Pattern) (lo hi : Bound) (most a b : ℕ) where
  pub find_many : max_path < length p.positions → find s p lo hi most a b ≡ refused_page PATTERN
  unfolding find
  find_many h = let x = lt-leb (length p.positions) max_path h in rw (A.opens, x)

  module _ (few : length p.positions ≤ max_path) where
    pub find_long_bound : (max_path < length (bound_bytes lo)) ⊎ (max_path < length (bound_bytes hi)) → find s p lo hi most a b ≡ refused_page BOUND
    unfolding find
    find_long_bound (inl h) =
        let f = le-leb (length p.positions) max_path few in
        let x = lt-leb (length (bound_bytes lo)) max_path h in
        rw (A.opens, f, x)
    find_long_bound (inr h) =
        let f = le-leb (length p.positions) max_path few in
        let x = lt-leb (length (bound_bytes hi)) max_path h in
        rw (A.opens, f, x, both_false (leb (length (bound_bytes lo)) max_path))

    module _ (short_lo : length (bound_bytes lo) ≤ max_path) (short_hi : length (bound_bytes hi) ≤ max_path) where
      pub find_no_room : (a < row_len * most) ⊎ (b < most) → find s p lo hi most a b ≡ refused_page SPACE
      unfolding find
      find_no_room (inl h) =
          let f = le-leb (length p.positions) max_path few in
          let x = le-leb (length (bound_bytes lo)) max_path short_lo in
          let y = le-leb (length (bound_bytes hi)) max_path short_hi in
          let z = lt-leb (row_len * most) a h in
          rw (A.opens, f, x, y, z)
      find_no_room (inr h) =
          let f = le-leb (length p.positions) max_path few in
          let x = le-leb (length (bound_bytes lo)) max_path short_lo in
          let y = le-leb (length (bound_bytes hi)) max_path short_hi in
          let z = lt-leb most b h in
          rw (A.opens, f, x, y, z, both_false (leb (row_len * most) a))

      module _ (row_room : row_len * most ≤ a) (value_room : most ≤ b) where
        find_fold : (r : View) → start_by s p lo hi ≡ started r → find s p lo hi most a b ≡ fold_by s p r most
        unfolding find
        find_fold r starts =
            let f = le-leb (length p.positions) max_path few in
            let x = le-leb (length (bound_bytes lo)) max_path short_lo in
            let y = le-leb (length (bound_bytes hi)) max_path short_hi in
            let z = le-leb (row_len * most) a row_room in
            let w = le-leb most b value_room in
            rw (A.opens, f, x, y, z, w, starts)

        pub find_exact : FindExact A p lo hi most (find s p lo hi most a b)
        find_exact =
            let d = demand_3_by A lo hi short_lo short_hi p few (calls_of s most) in
            subst (FindExact A p lo hi most) (sym (find_fold d.reading d.starts)) (fold_exact A lo hi short_lo short_hi p few most)
