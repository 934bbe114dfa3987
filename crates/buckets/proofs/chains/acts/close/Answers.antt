-- One more end is tied to itself.
use Rattle.std.proofs.Common.{◌≡◌, ◌≢◌, ℕ, ◌<◌, List, map, length, slice_index, set, sym, refl, ap, ◌∙◌, ⊎_elim, arith}
use Rattle.std.proofs.lemmas.List.{get_or-set_same, get_or-set_other, length-map, map-set}
use Rattle.std.proofs.lemmas.Bool.{cases_eq}
use Rattle.buckets.specs.declared.node.Node.{Node}
use Rattle.buckets.specs.Nodes.{nexts, prevs}
use Rattle.buckets.proofs.chains.acts.close.Goals as goal

-- what one write leaves at the index k, of either link
tied : (f : Node → ℕ) (nodes : List Node) (n : Node) (i k : ℕ) → i < length nodes → f n ≡ i → (k ≢ i → slice_index (map f nodes) k ≡ k) → slice_index (map f (set nodes i n)) k ≡ k
tied f nodes n i k here is old =
    ap (λ l. slice_index l k) (map-set f nodes i n)
    ∙ ⊎_elim
    (λ (e : k ≡ i).
    ap (λ q. slice_index (set (map f nodes) i (f n)) q) e ∙ get_or-set_same (map f nodes) i (f n) 0 (omega (arith, here, length-map nodes f)) ∙ is ∙ sym e)
    (λ (ne : k ≡ i → ⊥). get_or-set_other (map f nodes) i k (f n) 0 ne ∙ old ne)
    (cases_eq k i)

pub loop-end-preserved : goal.loop-end-preserved
loop-end-preserved c =
    let nodes = c.loop-end.nodes in
    let i = c.loop-end.end in
    let n : Node = record { next = i; prev = i } in
    λ k g l. (
      tied (λ (m : Node). m.next) nodes n i k (omega arith) refl (λ ne. (c.loop-end.invariant k g (omega arith)).0),
      tied (λ (m : Node). m.prev) nodes n i k (omega arith) refl (λ ne. (c.loop-end.invariant k g (omega arith)).1),
    )
