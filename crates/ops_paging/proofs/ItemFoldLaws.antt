-- Laws of a page's fold of `next_item`, one for each answer, and of the buffers, an item at a time: what a loop over calls leans on.
--     Folded w is n op cs           after the items is the page w goes on as n calls from the cards cs
--     folded_none, folded_item, folded_more, folded_end, folded_refused     before the first call, after an item, and at each stop
--     lines_snoc, eights_none, eights_snoc     the buffers with one item more
-- Assumes nothing.
use Rattle.std.specs.Prelude.{◌≡◌, refl, List, [], ◌∷◌, ◌++◌, ℕ, zero, suc, ◌+◌, ◌-◌, ◌*◌, ◌<◌, length}
use Rattle.std.proofs.Common.{sym, ap, ap₂, ◌∙◌, append_assoc, append-nil, add-zero, add-one, arith}
use Rattle.format.specs.declared.Refusal.{Refusal}
use Rattle.buffers.specs.Put.{put}
use Rattle.format.specs.Limits.{max_path}
use Rattle.reading.specs.Demand.{Entry, entry}
use Rattle.paging.specs.Paging.{Stop, ended, more}
use Rattle.ops_spec.specs.Ops.{Op, Card, Indexed, Merged, item, ending, next_item}
use Rattle.ops_spec.specs.OpsLists.{Item, item_is}
use Rattle.ops_paging.specs.ItemPaging.{ItemPage, item_page, refused_items, answered, fold, lines_of, eight_of, eights_from, eights_after}

pub fold_none : (op : Op) (cs : List Card) → fold op cs 0 ≡ item_page [] more
unfolding fold
fold_none op cs = refl

pub fold_by_lem : (op : Op) (cs : List Card) (n : ℕ) → fold op cs (suc n) ≡ answered (next_item op cs max_path) (λ ds. fold op ds n)
unfolding fold
fold_by_lem op cs n = refl

-- by a call's answer
pub fold_as : (op : Op) (cs : List Card) (n : ℕ) (m : Merged) → next_item op cs max_path ≡ m → fold op cs (suc n) ≡ answered m (λ ds. fold op ds n)
fold_as op cs n m is = fold_by_lem op cs n ∙ ap (λ (a : Merged). answered a (λ ds. fold op ds n)) is

-- ---- a loop of calls

pub record Folded (w : ItemPage) (is : List Item) (n : ℕ) (op : Op) (cs : List Card) : Type 0 where
  pub items : w.items ≡ is ++ (fold op cs n).items
  pub stop : w.stop ≡ (fold op cs n).stop

pub folded_none : (op : Op) (cs : List Card) (n : ℕ) → Folded (fold op cs n) [] n op cs
folded_none op cs n = record { items = refl; stop = refl }

module _ {w : ItemPage} {is : List Item} {n : ℕ} {op : Op} {cs : List Card} (h : Folded w is n op cs) where
  pub folded_item : (k : List ℕ) (ps : List Indexed) (ds : List Card) (m : ℕ) → n ≡ m + 1 → next_item op cs max_path ≡ item k ps ds
      → Folded w (is ++ (item_is k ps ∷ [])) m op ds
  folded_item k ps ds m at e =
      let q : fold op cs n ≡ item_page (item_is k ps ∷ (fold op ds m).items) (fold op ds m).stop = ap (fold op cs) (at ∙ add-one m) ∙ fold_as op cs m (item k ps ds) e in
      record {
        items = h.items ∙ ap (λ (p : ItemPage). is ++ p.items) q ∙ sym (append_assoc is (item_is k ps ∷ []) (fold op ds m).items);
        stop = h.stop ∙ ap (λ (p : ItemPage). p.stop) q;
      }

  -- the page stops here
  stops : (why : Stop) → fold op cs n ≡ item_page [] why → w ≡ item_page is why
  stops why q =
      ap₂ item_page (h.items ∙ ap (λ (p : ItemPage). is ++ p.items) q ∙ append-nil is) (h.stop ∙ ap (λ (p : ItemPage). p.stop) q)

  pub folded_more : n ≡ 0 → w ≡ item_page is more
  folded_more at = stops more (ap (fold op cs) at ∙ fold_none op cs)

  pub folded_end : 0 < n → (ds : List Card) → next_item op cs max_path ≡ ending ds → w ≡ item_page is ended
  folded_end some ds e =
      let at : n ≡ suc (n - 1) = omega arith in
      stops ended (ap (fold op cs) at ∙ fold_as op cs (n - 1) (ending ds) e)

  pub folded_refused : 0 < n → (c : Refusal) → next_item op cs max_path ≡ Merged.refused c → w ≡ item_page is (Stop.refused c)
  folded_refused some c e =
      let at : n ≡ suc (n - 1) = omega arith in
      stops (Stop.refused c) (ap (fold op cs) at ∙ fold_as op cs (n - 1) (Merged.refused c) e)

-- ---- the buffers, with one item more

pub lines_snoc : (is : List Item) (x : Item) → lines_of (is ++ (x ∷ [])) ≡ lines_of is ++ (entry x.key (length x.pairs) ∷ [])
lines_snoc [] x = refl
lines_snoc (y ∷ is) x = ap (λ (l : List Entry). entry y.key (length y.pairs) ∷ l) (lines_snoc is x)

pub eights_none : (f : Indexed → ℕ) (out : List ℕ) → eights_after f [] out ≡ out
unfolding eights_from
eights_none f out = refl

eights_from_snoc : (f : Indexed → ℕ) (i : ℕ) (is : List Item) (x : Item) (out : List ℕ)
    → eights_from f i (is ++ (x ∷ [])) out ≡ put (eights_from f i is out) (8 * (i + length is)) (eight_of f x)
unfolding eights_from
eights_from_snoc f i [] x out = ap (λ (j : ℕ). put out (8 * j) (eight_of f x)) (sym (add-zero i))
eights_from_snoc f i (y ∷ is) x out =
    eights_from_snoc f (i + 1) is x (put out (8 * i) (eight_of f y))
    ∙ ap (λ (j : ℕ). put (eights_from f (i + 1) is (put out (8 * i) (eight_of f y))) (8 * j) (eight_of f x)) (omega arith)

pub eights_snoc : (f : Indexed → ℕ) (is : List Item) (x : Item) (out : List ℕ)
    → eights_after f (is ++ (x ∷ [])) out ≡ put (eights_after f is out) (8 * length is) (eight_of f x)
eights_snoc f is x out = eights_from_snoc f 0 is x out ∙ ap (λ (j : ℕ). put (eights_after f is out) (8 * j) (eight_of f x)) (omega arith)
