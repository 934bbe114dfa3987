-- A list that keeps to an order with the laws is lawful.
use Rattle.std.specs.Prelude.{ℕ, List, Some, None, Option}
use Rattle.std.proofs.Common.{sym, ap, ◌∙◌, subst}
use Rattle.lists.specs.Meaning.{ListLaws}
use Rattle.lists.specs.Order.{Order, OrderLaws, Takes, waits_by, emptied_by, entered_by, picked_by}

module _ {S M A : Type 0} (model : S → M) (o : Order M A) (Ok : M → Type 0) (laws : OrderLaws o Ok) (ok : (s : S) → Ok (model s)) where
  -- what a pick did to the set, by the answer that it gave
  took : (s : S) (ls : List A) (r : Option ℕ) (t : S) → picked_by model o s ls r t → Takes o (model s) (model t) r
  took s ls r t e =
      let P : Option ℕ → Type 0 = λ a. Takes o (model s) (model t) a in
      let Q : M → Type 0 = λ n. Takes o (model s) n (o.picking (model s) ls).0 in
      subst P (sym e.0) (subst Q (sym e.1) (laws.takes (model s) ls (ok s)))

  pub lawful-by : ListLaws (waits_by model o) (emptied_by model o) (entered_by model o) (picked_by model o)
  lawful-by = record {
    below = λ s k h. laws.below (model s) k (ok s) h;
    clears = λ s t e k. ap (λ m. o.waiting m k) e ∙ laws.clears (model s) k;
    adds = λ s x ls t b e k. ap (λ m. o.waiting m k) e ∙ laws.adds (model s) x ls k (ok s) b;
    had = λ s ls x t e. (took s ls (Some x) t e).0;
    takes = λ s ls x t e k. (took s ls (Some x) t e).1 k;
    none_before = λ s ls t e k. (took s ls None t e k).0;
    none_after = λ s ls t e k. (took s ls None t e k).1;
  }
