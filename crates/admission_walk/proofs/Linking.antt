-- The links of the walk down the chain, beside the marks: what holds of the marks of a table holds of the table without its links.
--     Linking n d a l link    the links of the addresses passed, and the one that a is to have
-- Assumes nothing.
use mathlib.Core.Path.{◌≡◌, refl, sym, ap, ◌∙◌, subst}
use mathlib.Core.Logic.{◌⊎◌, inl, inr, ⊎_elim}
use mathlib.Core.List.Memᴰ
use mathlib.Core.List.{List, [], ◌∷◌, ◌++◌, Memᴰ, map}
use Prim.Native.Nat.{ℕ, ◌+◌, ◌-◌, ◌*◌, ◌/◌, ◌%◌, ◌≤◌, ◌<◌}
use native.Mathlib.Omega.{arith}
use native.Mathlib.Decide.{ℕ_discrete}
use lib.ListN.{length, get_or, set}
use Rattle.std.proofs.lemmas.List.{map-set, drop-map}
use Rattle.format.specs.declared.Transition.{Transition}
use Rattle.format.specs.Limits.{first_node}
use Rattle.format.specs.Node.{Node, sound}
use Rattle.format.specs.Paths.{Fst, node_in}
use Rattle.format.specs.Laws.NodeFacts.{node_target_lt}
use Rattle.admission_node.specs.Entries.{TargetIn, MarksTargets, Unpassed}
use Rattle.admission_node.specs.KeptLaws.{at_set}
use Rattle.admission_walk.specs.Walks.{marks_in, LinkOf, Above, Linked, Walkable, ChainMarked}
use Rattle.admission_walk.specs.MarksLaws.{marks_at, marks_long}
use Rattle.admission_walk.proofs.Walking.{Walking, walking_none, walking_last, walking_next, walked_below}

-- ---- the marks of a table

pub marks_walkable : {f : Fst} {d : List ℕ} → Walkable f d → Walkable f (marks_in d)
marks_walkable {d = d} w =
    record {
      room = omega (arith, w.room, marks_long d);
      not_zero = w.not_zero;
      inside = w.inside;
      zeros = λ j h. omega (arith, marks_at d j, w.zeros j h);
    }

module _ {n mark : ℕ} {ts : List Transition} {d d₁ : List ℕ} (high : mark ≤ 2) (fresh : (j : ℕ) → TargetIn ts j → get_or d j 0 ≤ 2)
    (by : MarksTargets n mark ts d d₁) where
  -- a raised entry has no link
  raised_low : (j : ℕ) → TargetIn ts j → get_or d₁ j 0 ≤ 2
  raised_low j t = ⊎_elim (λ e. omega (arith, fresh j t)) (λ p. omega (arith, fresh j t, p.1)) (by.led j)

  pub marks_raised : MarksTargets n mark ts (marks_in d) (marks_in d₁)
  marks_raised =
      record {
        kept =
            record {
              long = marks_long d₁ ∙ by.kept.long ∙ sym (marks_long d);
              beyond = drop-map (λ x. x % 8) n d₁ ∙ ap (λ x. map (λ y. y % 8) x) by.kept.beyond ∙ sym (drop-map (λ x. x % 8) n d);
            };
        led = λ j.
            ⊎_elim
            (λ e. inl (marks_at d₁ j ∙ ap (λ x. x % 8) e ∙ sym (marks_at d j)))
            (λ p. inr (p.0, omega (arith, marks_at d₁ j, marks_at d j, fresh j p.0, p.1, high)))
            (by.led j);
        aim = λ t mem. omega (arith, marks_at d₁ t.addr, by.aim t mem, raised_low t.addr (record { by = t; one = mem; addr_is = refl }));
      }

-- ---- the links

pub record Linking (n : ℕ) (d : List ℕ) (a : ℕ) (l : List ℕ) (link : ℕ) : Type 0 where
  pub linked : Linked n d l
  pub inside : a < n
  pub small : link < 8192
  pub up : (link ≡ 0) ⊎ Above l a link

-- no link yet, and zeros at all places but the root
pub linking_none : {f : Fst} {d : List ℕ} → Walkable f d → Linking (length f.bytes) (set d f.root 2) f.root [] 0
linking_none {f} {d} ok =
    record {
      linked =
          record {
            off = at_set (λ j x. j < length f.bytes → ¬ Memᴰ j [] → x ≤ 2) d f.root 2 (omega (arith, ok.inside, ok.room)) (λ _ _. omega arith)
                (λ j ne h _. omega (arith, ok.zeros j h));
            link = λ j mem. absurd (Memᴰ.not-nil mem);
          };
      inside = ok.inside;
      small = omega arith;
      up = inl refl;
    }

-- one address more, below the others
above_more : {l : List ℕ} {a j k : ℕ} → a ≤ j → Above l j k → Above (l ++ (a ∷ [])) j k
above_more {l} {a} le h =
    record {
      on = Memᴰ.append_left (a ∷ []) h.on;
      none = λ i lo hi mem. ⊎_elim (λ m. h.none i lo hi m) (λ m. absurd (omega (arith, Memᴰ.eq_of_singleton m))) (Memᴰ.append_cases l mem);
    }

module _ {n a link : ℕ} {d l : List ℕ} (above : (j : ℕ) → Memᴰ j l → a < j) (w : Linking n d a l link) where
  pub unpassed : Unpassed n d a
  unpassed = record { low = λ j lt h. w.linked.off j h (λ mem. omega (arith, above j mem)) }

  module _ {mark : ℕ} {ts : List Transition} (d₁ : List ℕ) (low : 1 ≤ mark) (high : mark ≤ 2) (below : (j : ℕ) → TargetIn ts j → j < a)
      (by : MarksTargets n mark ts d d₁) (room : a < length d₁) where
    passed_here : Memᴰ a (l ++ (a ∷ []))
    passed_here = Memᴰ.append_right l (Memᴰ.head refl)

    off_more : (j : ℕ) → j < n → ¬ Memᴰ j (l ++ (a ∷ [])) → get_or (set d₁ a (mark + 2 + link * 8)) j 0 ≤ 2
    off_more =
        at_set (λ j x. j < n → ¬ Memᴰ j (l ++ (a ∷ [])) → x ≤ 2) d₁ a (mark + 2 + link * 8) room (λ _ away. absurd (away passed_here))
        (λ j ne h away.
        let before = w.linked.off j h (λ k. away (Memᴰ.append_left (a ∷ []) k)) in
        ⊎_elim (λ s. omega arith) (λ p. omega (arith, p.1)) (by.led j))

    -- above a nothing is raised
    stays : (j : ℕ) → a < j → get_or d₁ j 0 ≡ get_or d j 0
    stays j h = ⊎_elim (λ s. s) (λ p. absurd (omega (arith, below j p.0))) (by.led j)

    link_is : (mark + 2 + link * 8) / 8 ≡ link
    link_is = omega arith

    link_here : ((mark + 2 + link * 8) / 8 ≡ 0) ⊎ Above (l ++ (a ∷ [])) a ((mark + 2 + link * 8) / 8)
    link_here = rw link_is (⊎_elim (λ z. inl z) (λ h. inr (above_more (omega arith) h)) w.up)

    link_there : (j : ℕ) → Memᴰ j l → (get_or d₁ j 0 / 8 ≡ 0) ⊎ Above (l ++ (a ∷ [])) j (get_or d₁ j 0 / 8)
    link_there j mem =
        rw (stays j (above j mem)) (⊎_elim (λ z. inl z) (λ h. inr (above_more (omega (arith, above j mem)) h)) (w.linked.link j mem))

    pub linked_more : Linked n (set d₁ a (mark + 2 + link * 8)) (l ++ (a ∷ []))
    linked_more =
        record {
          off = off_more;
          link = at_set (λ j x. Memᴰ j (l ++ (a ∷ [])) → (x / 8 ≡ 0) ⊎ Above (l ++ (a ∷ [])) j (x / 8)) d₁ a (mark + 2 + link * 8) room (λ _. link_here)
              (λ j ne mem. ⊎_elim (λ k. link_there j k) (λ k. absurd (ne (Memᴰ.eq_of_singleton k))) (Memᴰ.append_cases l mem));
        }

    pub linking_next : (b link' : ℕ) → b < a → LinkOf (a - b) link' → Linking n (set d₁ a (mark + 2 + link * 8)) b (l ++ (a ∷ [])) link'
    linking_next b link' lt is =
        record {
          linked = linked_more;
          inside = omega (arith, w.inside);
          small = is.small;
          up = ⊎_elim (λ z. inl z) (λ e. inr (next e)) is.is;
        }
      where
        next : link' ≡ a - b → Above (l ++ (a ∷ [])) b link'
        next e =
            let top : b + link' ≡ a = omega arith in
            record {
              on = subst (λ x. Memᴰ x (l ++ (a ∷ []))) (sym top) passed_here;
              none = λ i lo hi mem. ⊎_elim (λ k. omega (arith, above i k)) (λ k. omega (arith, Memᴰ.eq_of_singleton k)) (Memᴰ.append_cases l mem);
            }

-- ---- the walk with its marks and its links

-- no address is passed yet
pub passing_none : {f : Fst} {d : List ℕ} → Walkable f d
    → Walking f (marks_in (set d f.root 2)) f.root [] × Linking (length f.bytes) (set d f.root 2) f.root [] 0
passing_none {f} {d} ok = (
  subst (λ x. Walking f x f.root []) (sym (map-set (λ x. x % 8) d f.root 2)) (walking_none (marks_walkable ok)),
  linking_none ok,
)

module _ {f : Fst} {d : List ℕ} {a : ℕ} {l : List ℕ} {link : ℕ} (w : Walking f (marks_in d) a l) (k : Linking (length f.bytes) d a l link) (m : Node)
    (e : node_in f a ≡ sound m) (mark : ℕ) (two : get_or d a 0 ≡ 2 → mark ≡ 2) (one : ¬ (get_or d a 0 ≡ 2) → mark ≡ 1) (d₁ : List ℕ)
    (by : MarksTargets (length f.bytes) mark m.transitions d d₁) (room : a < length d₁) where
  -- the mark of a, which is not passed, has no link
  here_low : get_or d a 0 ≤ 2
  here_low = k.linked.off a k.inside (λ mem. omega (arith, w.above a mem))

  here_same : get_or (marks_in d) a 0 ≡ get_or d a 0
  here_same = omega (arith, marks_at d a, here_low)

  mark_low : 1 ≤ mark
  mark_low = elim (ℕ_discrete (get_or d a 0) 2) [ yes q ↦ omega (arith, two q) | no q ↦ omega (arith, one q) ]

  mark_high : mark ≤ 2
  mark_high = elim (ℕ_discrete (get_or d a 0) 2) [ yes q ↦ omega (arith, two q) | no q ↦ omega (arith, one q) ]

  below : (j : ℕ) → TargetIn m.transitions j → j < a
  below j t = omega (arith, node_target_lt f a m e t.by t.one, t.addr_is)

  fresh : (j : ℕ) → TargetIn m.transitions j → get_or d j 0 ≤ 2
  fresh j t = (unpassed w.above k).low j (below j t) (omega (arith, below j t, k.inside))

  marks_by : MarksTargets (length f.bytes) mark m.transitions (marks_in d) (marks_in d₁)
  marks_by = marks_raised mark_high fresh by

  marks_set : marks_in (set d₁ a (mark + 2 + link * 8)) ≡ set (marks_in d₁) a (mark + 2)
  marks_set =
      let low : (mark + 2 + link * 8) % 8 ≡ mark + 2 = omega (arith, mark_high) in
      map-set (λ x. x % 8) d₁ a (mark + 2 + link * 8) ∙ ap (λ x. set (marks_in d₁) a x) low

  pub passing_last : m.first ≡ first_node → ChainMarked f (set d₁ a (mark + 2 + link * 8)) (l ++ (a ∷ []))
  passing_last done =
      let p = walking_last w m e mark (λ q. two (sym here_same ∙ q)) (λ q. one (λ z. q (here_same ∙ z))) (marks_in d₁) marks_by
      (omega (arith, room, marks_long d₁)) done in
      record { chain = p.0; marks = rw marks_set p.1; links = linked_more w.above k d₁ mark_low mark_high below by room }

  pub passing_next : (b link' : ℕ) → ¬ (m.first ≡ first_node) → b ≡ m.first - 1 → LinkOf (a - b) link'
      → Walking f (marks_in (set d₁ a (mark + 2 + link * 8))) b (l ++ (a ∷ []))
      × Linking (length f.bytes) (set d₁ a (mark + 2 + link * 8)) b (l ++ (a ∷ [])) link'
  passing_next b link' more b_is is = (
    rw marks_set
        (walking_next w m e mark (λ q. two (sym here_same ∙ q)) (λ q. one (λ z. q (here_same ∙ z))) (marks_in d₁) marks_by
        (omega (arith, room, marks_long d₁)) b more b_is),
    linking_next w.above k d₁ mark_low mark_high below by room b link' (omega (arith, b_is, walked_below w m e)) is,
  )
