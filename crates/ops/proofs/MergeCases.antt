-- Begin, and a call: a law for each case.
--     begun_as, begun_none                begin, by its count
--     merged_cards                        a call with a held count of 0 or over 8
--     merged_refused, merged_end, merged_item     a call, by what its rounds came to
--     item_room                           a call that hands out an item has room for every key
--     key_put                             the key of a head is what was written
-- Assumes nothing.
use mathlib.Core.Path.{◌≡◌, refl, sym, ap, ap₂, ◌∙◌, subst}
use Rattle.std.specs.Prelude.{Ok, Err, Some, None, Result, Option}
use Rattle.format.specs.declared.Refusal.{Refusal}
use mathlib.Core.Bool.{Bool, true, false, cond, ◌&&◌}
use mathlib.Core.Logic.{⊎_elim, ◌⊎◌, inl, inr}
use mathlib.Core.List.{List, [], ◌∷◌, ◌++◌, map}
use Prim.Native.Nat.{ℕ, ◌-◌, ◌<◌, ◌≤◌}
use native.Mathlib.Omega.{arith}
use borrow.Author.Tests.{lt-ltb, le-leb, lt-leb}
use lib.ListN.{length, take, drop, get_or, length-drop}
use Rattle.std.proofs.Common.{ext_get_or}
use Rattle.std.proofs.Math.ListN.{get_or-map}
use Rattle.std.proofs.lemmas.List.{length-map}
use lib.Seq.{length-take-le, take-take}
use Rattle.format.specs.Limits.{max_path, CARDS}
use Rattle.reading.proofs.RunLaws.{lt_or}
use Rattle.ops_spec.specs.Ops as O
use Rattle.ops_spec.specs.Ops.{next_item, after_steps, step_all}
use Rattle.ops_spec.specs.OpsFuelLaws.{rounds_by, rounds_by_lem, next_item_by}
use Rattle.ops_spec.specs.OpsShortLaws.{item_short}
use Rattle.stream.specs.declared.Plain.{Plain}
use Rattle.ops_round.specs.declared.Card.{Card}
use Rattle.ops_round.specs.Cards.{cards_is, used_card}
use Rattle.ops_round.specs.CardsLaws.{cards_length}
use Rattle.ops_keys.specs.declared.Head.{Head}
use Rattle.ops_keys.specs.Heads.{head_key}
use Rattle.ops_pairs.specs.declared.Pairs.{Pairs}
use Rattle.ops_pairs.specs.PairsLaws.{the_values, the_files}
use Rattle.ops_decide.specs.declared.Op.{Op}
use Rattle.ops_decide.specs.Verdicts.{op_is}
use Rattle.ops_rounds.specs.Turns.{Called, ItemIs, CalledAs, CameBy, CalledBy}
use Rattle.ops.specs.declared.Cards.{Cards}
use Rattle.ops.specs.declared.Step.{Step}
use Rattle.ops.specs.Merges.{count_test, BegunAs, BegunBy, refused_step, held_item, MergedBy}

-- ---- the count

pub count_some : (n : ℕ) → 0 < n → n ≤ 8 → count_test n ≡ true
count_some n a b = ap₂ ◌&&◌ (lt-ltb 0 n a) (le-leb n 8 b)

pub count_wrong : (n : ℕ) → (n ≡ 0) ⊎ (8 < n) → count_test n ≡ false
count_wrong n (inl e) = ap count_test e
count_wrong n (inr h) = ap₂ ◌&&◌ (lt-ltb 0 n (omega arith)) (lt-leb n 8 h)

-- ---- begin

pub begun_as : (o : Op) (n : ℕ) (ps : List Plain) (cs : List Card) → length ps ≡ 8 → length cs ≡ 8 → 0 < n → n ≤ 8
    → ((i : ℕ) (d : Plain) (e : Card) → i < 8 → get_or cs i e ≡ used_card (get_or ps i d))
    → BegunBy o n ps (Ok (record { op = o; count = n; cards = cs }))
begun_as o n ps cs long len some few each =
    let mapped = length-map ps used_card in
    let first : Plain = some_of ps (omega arith) in
    let all : cs ≡ map used_card ps =
    ext_get_or (used_card first) cs (map used_card ps) (len ∙ sym (mapped ∙ long))
    (λ i h. each i first (used_card first) (omega arith) ∙ sym (get_or-map used_card ps i first)) in
    record {
      is = subst (λ (b : Bool). BegunAs b o n ps (Ok (record { op = o; count = n; cards = cs }))) (sym (count_some n some few))
          (ap (λ (ds : List Card). Ok (record { op = o; count = n; cards = ds })) all);
    }
  where
    some_of : (l : List Plain) → 0 < length l → Plain
    some_of [] h = absurd (omega arith)
    some_of (x ∷ l) h = x

pub begun_none : (o : Op) (n : ℕ) (ps : List Plain) (r : Result Cards Refusal) → count_test n ≡ false → r ≡ Err CARDS → BegunBy o n ps r
begun_none o n ps r e is = record { is = subst (λ (b : Bool). BegunAs b o n ps r) (sym e) is }

-- ---- a call

module _ (fs : List (List ℕ)) (c : Cards) (space : ℕ) (buf : List ℕ) where
  pub merged_cards : count_test c.count ≡ false → (r : Step) → r ≡ refused_step CARDS c → MergedBy fs c (held_item fs c space) buf buf r
  merged_cards e r is =
      subst (λ (b : Bool). MergedBy fs c (cond b (next_item (op_is c.op) (cards_is fs c.count c.cards) space) (O.Merged.refused CARDS)) buf buf r) (sym e)
      (record { is = is; buffer = refl })

  module _ (some : 0 < c.count) (few : c.count ≤ 8) where
    abbrev X : List O.Card
    X = cards_is fs c.count c.cards

    item_rounds : length c.cards ≡ 8 → next_item (op_is c.op) X space ≡ rounds_by (op_is c.op) space false X
    item_rounds len =
        let n : length X ≡ c.count = cards_length fs c.count c.cards (omega arith) in
        let t : count_test (length X) ≡ true = ap count_test n ∙ count_some c.count some few in
        next_item_by (op_is c.op) X space
        ∙ ap (λ (b : Bool). cond b (after_steps (op_is c.op) space false (rounds_by (op_is c.op) space true) (step_all space X)) (O.Merged.refused CARDS)) t
        ∙ sym (rounds_by_lem (op_is c.op) space false X)

    held_rounds : length c.cards ≡ 8 → held_item fs c space ≡ rounds_by (op_is c.op) space false X
    held_rounds len = ap (λ (b : Bool). cond b (next_item (op_is c.op) X space) (O.Merged.refused CARDS)) (count_some c.count some few) ∙ item_rounds len

    module _ (x : Result Called Refusal) (by : CalledBy fs c.count c.cards (rounds_by (op_is c.op) space false X) x) where
      as_came : (y : Result Called Refusal) → x ≡ y → CameBy fs c.count (rounds_by (op_is c.op) space false X) y
      as_came y e = subst (CameBy fs c.count (rounds_by (op_is c.op) space false X)) e by.is

      pub merged_refused : (n : Refusal) → x ≡ Err n → (r : Step) → r ≡ refused_step n c → MergedBy fs c (held_item fs c space) buf buf r
      merged_refused n e r is =
          subst (λ (m : O.Merged). MergedBy fs c m buf buf r) (sym (held_rounds by.given ∙ as_came (Err n) e)) (record { is = is; buffer = refl })

      module _ (d : Called) (e : x ≡ Ok d) where
        abbrev after : Cards
        after = record { op = c.op; count = c.count; cards = d.cards }

        as_item : (i : Option (Head × Pairs)) → d.item ≡ i → CalledAs fs c.count (rounds_by (op_is c.op) space false X) i d.cards
        as_item i q = subst (λ (j : Option (Head × Pairs)). CalledAs fs c.count (rounds_by (op_is c.op) space false X) j d.cards) q (as_came (Ok d) e)

        pub merged_end : d.item ≡ None → MergedBy fs c (held_item fs c space) buf buf (record { answer = Ok None; cards = after })
        merged_end q =
            subst (λ (m : O.Merged). MergedBy fs c m buf buf (record { answer = Ok None; cards = after })) (sym (held_rounds by.given ∙ as_item None q))
            (record { answer = refl; cards = record { op = refl; count = refl; cards = refl }; buffer = refl })

        module _ (k : Head) (p : Pairs) (q : d.item ≡ Some (k, p)) where
          item_is : ItemIs fs c.count (rounds_by (op_is c.op) space false X) k p d.cards
          item_is = as_item (Some (k, p)) q

          pub item_room : max_path ≤ space
          item_room = ⊎_elim (λ (short : space < max_path). absurd (never short)) (λ (h : max_path ≤ space). h) (lt_or space max_path)
            where
              never : ¬ (space < max_path)
              never short =
                  let w = item_short space short (op_is c.op) X in
                  let p = sym w.1 ∙ item_rounds by.given ∙ item_is.is in
                  let z : ◌≡◌ {A = ℕ} 0 1 = cc in
                  omega arith

          pub item_fits : k.levels ≤ 256
          item_fits = item_is.few

          pub merged_item : (n : ℕ) → n ≡ length (head_key k) → (left : List ℕ) → left ≡ head_key k ++ drop (length (head_key k)) buf
              → MergedBy fs c (held_item fs c space) buf left (record { answer = Ok (Some (record { len = n; pairs = p })); cards = after })
          merged_item n is left put =
              let i = item_is in
              subst (λ (m : O.Merged). MergedBy fs c m buf left (record { answer = Ok (Some (record { len = n; pairs = p })); cards = after }))
              (sym (held_rounds by.given ∙ i.is))
              (record {
                item = record { len = n; pairs = p };
                answer = refl;
                len = is;
                count = i.are.count;
                files = the_files i.are;
                values = the_values i.are;
                cards = record { op = refl; count = refl; cards = refl };
                buffer = put;
              })

-- ---- the key written

pub key_length : (h : Head) → length h.inps ≡ 256 → h.levels ≤ 256 → length (head_key h) ≡ h.levels - 1
key_length h len few = length-take-le (h.levels - 1) (drop 1 h.inps) (omega (arith, length-drop 1 h.inps))

pub key_put : (h : Head) (n : ℕ) (buf after : List ℕ) → length h.inps ≡ 256 → h.levels ≤ 256 → n ≡ h.levels - 1
    → after ≡ take n (take 255 (drop 1 h.inps)) ++ drop n buf
    → (n ≡ length (head_key h)) × (after ≡ head_key h ++ drop (length (head_key h)) buf)
key_put h n buf after len few is put =
    let same : n ≡ length (head_key h) = is ∙ sym (key_length h len few) in
    let key : take n (take 255 (drop 1 h.inps)) ≡ head_key h = take-take n 255 (drop 1 h.inps) (omega arith) ∙ ap (λ (j : ℕ). take j (drop 1 h.inps)) is in
    (same, put ∙ ap₂ (λ (k : List ℕ) (j : ℕ). k ++ drop j buf) key same)
