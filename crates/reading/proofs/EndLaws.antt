-- After "end" a reading stays at its end, on every file and every reading, admitted or made.
--     end_stays            each later call with the file and enough buffer answers "end" and changes nothing
--     end_refuses          a later call that is short of buffer, or with a file of another length, is refused and changes nothing
--     end_stays_calls      so after every list of calls the reading is as it was, and each allowed call has answered "end"
-- Assumes nothing.
use Rattle.std.specs.Prelude.{◌≡◌, Bool, true, false, cond, ◌&&◌, ◌⊎◌, List, [], ◌∷◌, ℕ, ◌-◌, ◌<◌, ◌≤◌, leb, eqb}
use Rattle.std.proofs.Math.Path.{refl}
use Rattle.std.proofs.Common.{sym, ◌∙◌, ap, subst, ⊎_elim, inl, inr, arith}
use Rattle.std.proofs.lemmas.Bool.{and_parts}
use Rattle.std.proofs.Math.Option.{Option, none, some}
use borrow.Author.Tests.{le-leb, lt-leb, ne_eqb, eqb-true}
use Rattle.std.proofs.Math.ListN.{length}
use Rattle.format.specs.declared.Refusal.{Refusal}
use Rattle.format.specs.Limits.{max_path, max_levels, SPACE, STATE}
use Rattle.format.specs.Opening.{Meta, Opening, opened, opening}
use Rattle.format.specs.Opening as Opening
use Rattle.format.specs.Paths.{Fst, fst_of}
use Rattle.reading.specs.Reading.{passes_test, View, Answer, key, end, Step, refuse, moved, on_opened, Popped, top, used_up, bad, pop, Went, found, passed, descend, after_descend, after_pop, walk, state_test, next}
use Rattle.reading.proofs.RunLaws.{lt_or}
use Rattle.reading.specs.Demand.{Call, Allowed, call, reading_after}

key_not_end : {k : List ℕ} {v : ℕ} → ¬ (◌≡◌ {A = Answer} (key k v) end)
key_not_end e = let z : ◌≡◌ {A = ℕ} 0 1 = cc in omega arith

refused_not_end : {n : Refusal} → ¬ (◌≡◌ {A = Answer} (Answer.refused n) end)
refused_not_end e = let z : ◌≡◌ {A = ℕ} 0 1 = cc in omega arith

-- ---- what a call that answers "end" leaves

-- no level, nothing pending
abbrev AtEnd : View → Step → Type 0
AtEnd r o = (t : ℕ) × (o.reading ≡ moved r [] t)

end_descend : (r : View) (w : Went) → (after_descend r w).answer ≡ end → AtEnd r (after_descend r w)
end_descend r (found s v t) e = absurd (key_not_end e)
end_descend r (passed t) e = (t, refl)
end_descend r (Went.halted n) e = absurd (refused_not_end e)

end_pop : (f : Fst) (r : View) (p : Popped) → (after_pop f r p).answer ≡ end → AtEnd r (after_pop f r p)
end_pop f r (top l m s) e = end_descend r (descend (max_path - length s) f r.bound l m s r.total) e
end_pop f r used_up e = (r.total, refl)
end_pop f r bad e = absurd (refused_not_end e)

abbrev pending_ways : View → ℕ → Bool → Step
pending_ways r v b = cond b (record { answer = end; reading = moved r [] r.total }) (record { answer = key [] v; reading = moved r r.levels r.total })

end_walk : (f : Fst) (r : View) (o : Option ℕ) → (walk f r o).answer ≡ end → AtEnd r (walk f r o)
end_walk f r (some v) e = by (passes_test r.bound []) e
  where
    by : (b : Bool) → (pending_ways r v b).answer ≡ end → AtEnd r (pending_ways r v b)
    by true q = (r.total, refl)
    by false q = absurd (key_not_end q)
end_walk f r none e = end_pop f r (pop f r.levels) e

-- the file opened, and the reading's state was right
pub record Ended (s : List ℕ) (r : View) (o : Step) : Type 0 where
  pub meta : Meta
  pub opens : opening s ≡ opened meta
  pub state : state_test r (length s) ≡ true
  pub total : ℕ
  pub reading_is : o.reading ≡ moved r [] total

module _ (s : List ℕ) (r : View) where
  abbrev tests : Meta → Bool → Bool → Step
  tests m state room = cond state (cond room (walk (fst_of s m) r r.empty) (refuse r SPACE)) (refuse r STATE)

  abbrev opens_as : ℕ → Opening → Step
  opens_as space o = on_opened o (λ m. tests m (state_test r (length s)) (leb max_path space)) (λ n. refuse r n)

  end_tests : (m : Meta) → opening s ≡ opened m → (state : Bool) → state_test r (length s) ≡ state → (room : Bool) → (tests m state room).answer ≡ end
      → Ended s r (tests m state room)
  end_tests m is true st true e =
      let w = end_walk (fst_of s m) r r.empty e in
      record { meta = m; opens = is; state = st; total = w.0; reading_is = w.1 }
  end_tests m is true st false e = absurd (refused_not_end e)
  end_tests m is false st room e = absurd (refused_not_end e)

  end_opens : (space : ℕ) (o : Opening) → opening s ≡ o → (opens_as space o).answer ≡ end → Ended s r (opens_as space o)
  end_opens space (opened m) is e = end_tests m is (state_test r (length s)) refl (leb max_path space) e
  end_opens space (Opening.refused n) is e = absurd (refused_not_end e)

  pub end_leaves : (space : ℕ) → (next s r space).answer ≡ end → Ended s r (next s r space)
  unfolding next
  end_leaves space e = end_opens space (opening s) refl e

-- ---- a reading at its end

both_false : (a b : Bool) → (a && (b && false)) ≡ false
both_false true true = refl
both_false true false = refl
both_false false b = refl

module _ (s : List ℕ) (r : View) (m : Meta) (opens : opening s ≡ opened m) (state : state_test r (length s) ≡ true) (t : ℕ) where
  -- the state is right with no level too
  state_end : state_test (moved r [] t) (length s) ≡ true
  state_end = (and_parts (leb (length r.levels) max_levels) (leb r.bound_len max_path && eqb r.len (length s)) state).1

  end_again : (space : ℕ) → max_path ≤ space → next s (moved r [] t) space ≡ record { answer = end; reading = moved r [] t }
  unfolding next
  end_again space room = rw (opens, state_end, le-leb max_path space room)

  end_short : (space : ℕ) → space < max_path → next s (moved r [] t) space ≡ refuse (moved r [] t) SPACE
  unfolding next
  end_short space short = rw (opens, state_end, lt-leb max_path space short)

  end_other : (other : List ℕ) → ¬ (length other ≡ length s) → (space : ℕ) → (n : Refusal) × (next other (moved r [] t) space ≡ refuse (moved r [] t) n)
  unfolding next
  end_other other ne space = by (opening other) refl
    where
      len_is : r.len ≡ length s
      len_is = eqb-true r.len (length s) (and_parts (leb r.bound_len max_path) (eqb r.len (length s)) state_end).1

      wrong : state_test (moved r [] t) (length other) ≡ false
      wrong = rw (ne_eqb r.len (length other) (λ q. ne (sym q ∙ len_is))) (both_false true (leb r.bound_len max_path))

      by : (o : Opening) → opening other ≡ o → (n : Refusal) × (next other (moved r [] t) space ≡ refuse (moved r [] t) n)
      by (opened m') q = (STATE, rw (q, wrong))
      by (Opening.refused n) q = (n, rw q)

-- ---- after "end"

module _ (s : List ℕ) (r : View) (space : ℕ) (ends : (next s r space).answer ≡ end) where
  abbrev pub after : View
  after = (next s r space).reading

  pub end_stays : (space' : ℕ) → max_path ≤ space' → next s after space' ≡ record { answer = end; reading = after }
  end_stays space' room =
      let w = end_leaves s r space ends in
      subst (λ (v : View). next s v space' ≡ record { answer = end; reading = v }) (sym w.reading_is) (end_again s r w.meta w.opens w.state w.total space' room)

  pub end_refuses : (c : Call s) → ¬ Allowed c → (n : Refusal) × (call after c ≡ refuse after n)
  end_refuses c out =
      subst (λ (v : View). (n : Refusal) × (call v c ≡ refuse v n)) (sym w.reading_is)
      (⊎_elim
      (λ (same : c.file ≡ s).
      ⊎_elim
      (λ (lt : c.space < max_path). (
        SPACE,
        ap (λ (file : List ℕ). next file (moved r [] w.total) c.space) same ∙ end_short s r w.meta w.opens w.state w.total c.space lt,
      ))
      (λ (ge : max_path ≤ c.space). absurd (out (record { same = ap length same; room = ge })))
      (lt_or c.space max_path))
      (λ ne. end_other s r w.meta w.opens w.state w.total c.file ne c.space)
      c.which)
    where
      w : Ended s r (next s r space)
      w = end_leaves s r space ends

  pub end_allowed : (c : Call s) → Allowed c → call after c ≡ record { answer = end; reading = after }
  end_allowed c h =
      ⊎_elim (λ (same : c.file ≡ s). ap (λ (file : List ℕ). next file after c.space) same ∙ end_stays c.space h.room) (λ ne. absurd (ne h.same)) c.which

  call_keeps : (c : Call s) → (call after c).reading ≡ after
  call_keeps c =
      ⊎_elim
      (λ (h : Allowed c). ap (λ (o : Step). o.reading) (end_allowed c h))
      (λ (out : ¬ Allowed c). ap (λ (o : Step). o.reading) (end_refuses c out).1)
      dec
    where
      dec : (Allowed c) ⊎ (¬ Allowed c)
      dec =
          ⊎_elim
          (λ (lt : c.space < max_path). inr (λ h. omega (arith, h.room)))
          (λ (ge : max_path ≤ c.space).
          ⊎_elim (λ (e : c.file ≡ s). inl (record { same = ap length e; room = ge })) (λ ne. inr (λ h. ne h.same)) c.which)
          (lt_or c.space max_path)

  -- every later list of calls
  pub calls_keep : (cs : List (Call s)) → reading_after after cs ≡ after
  calls_keep [] = refl
  calls_keep (c ∷ cs) = ap (λ (v : View). reading_after v cs) (call_keeps c) ∙ calls_keep cs

  pub end_stays_calls : (cs : List (Call s)) (c : Call s) → Allowed c → call (reading_after after cs) c ≡ record { answer = end; reading = after }
  end_stays_calls cs c h = ap (λ (v : View). call v c) (calls_keep cs) ∙ end_allowed c h
