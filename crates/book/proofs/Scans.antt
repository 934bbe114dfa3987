-- Going through the links of a station: each offers its head a label, and the label of the station itself stays.
use Rattle.std.proofs.Common.{◌≡◌, ℕ, suc, ◌+◌, ◌-◌, ◌<◌, ◌≤◌, true, false, not, ◌==◌, arith, List, [], ◌∷◌, length, get_or, Some, refl, sym, ap, ◌∙◌, subst, inl, inr}
use Rattle.std.proofs.lemmas.Bool.{cases_eq, cases_Bool, both_ways, eq-eqb, ne_eqb, and_right}
use Rattle.std.proofs.lemmas.List.{get_or-set_other}
use Rattle.std.proofs.lemmas.Grind.{get_or_default_zero}
use Rattle.std.specs.List.{range_with_len}
use Rattle.std.specs.declared.ops.Range.{Range}
use Rattle.kinds.specs.declared.kind.Kind.{Ghosts as Kind}
use Rattle.kinds.specs.Laws.{Laws}
use Rattle.lists.specs.declared.list.CandidateList.{Ghosts as Candidates}
use Rattle.net.specs.Table.{Table, ForwardStar, station_count, link_count, first_link, head_at}
use Rattle.net.proofs.Going.{Gives}
use Rattle.net.proofs.Tails.{first_link-below}
use Rattle.walks.specs.Walk.{unlabelled, entry_at, labelled}
use Rattle.runs.specs.Acts.{Acts}
use Rattle.plans.specs.Offers.{offered, welcomes}
use Rattle.plans.specs.Plan.{Plan, label_at}
use Rattle.plans.proofs.Labelled.{lab_labelled}
use Rattle.plans.proofs.Offering.{offered-is}
use Rattle.runs.specs.Scan.{links_of, after_link, link_acts, after_links, links_acts}
use Rattle.book.specs.Offers.{after_offer, offer_acts}
use Rattle.runs.proofs.Rows.{acts-append}

-- the numbers of a range
abbrev pub left_in : Range ℕ → List ℕ
left_in r = range_with_len r.start (r.end - r.start)

pub left_in-next : (r : Range ℕ) (l : ℕ) (q : Range ℕ) → Gives r l q → left_in r ≡ l ∷ left_in q
left_in-next r l q (end, step) = let n : r.end - r.start ≡ suc (r.end - (r.start + 1)) = omega arith in rw (n, step.1, step.2, end) refl

-- a station whose entry says so is labelled
pub labelled-is : (entries : List ℕ) (v : ℕ) → v < length entries → (get_or entries v 0 ≡ unlabelled → ⊥) → labelled entries v ≡ true
labelled-is entries v b h = lab_labelled entries v (λ e. h (sym (get_or_default_zero entries v unlabelled b) ∙ e))

module _ {K L G : Type 0} (k : Kind K L G) (laws : Laws k.carry k.at_least k.rank) where
  -- a station does not take its own label carried over a link
  welcomes-own : (p : Plan L) (x : ℕ) (g : G) → labelled p.entries x ≡ true → welcomes k p x (k.carry (label_at k p x) g) ≡ false
  welcomes-own p x g h = rw (h, laws.worsens (label_at k p x) g) (and_right _ false refl)

  -- what it offers leaves its own label and entry
  pub offer-own : (p : Plan L) (x v l : ℕ) (g : G) → labelled p.entries x ≡ true
      → (label_at k (after_offer k p v (k.carry (label_at k p x) g) l) x ≡ label_at k p x)
      × (entry_at (after_offer k p v (k.carry (label_at k p x) g) l).entries x ≡ entry_at p.entries x)
  offer-own p x v l g h =
      elim (cases_Bool (welcomes k p v (k.carry (label_at k p x) g))) [
        | inr leaves ↦ rw leaves (refl, refl)
        | inl takes ↦ elim (cases_eq x v) [
          | inl same ↦
              let not_own = welcomes-own p x g h in
              absurd (both_ways _ not_own (rw (← same) at takes))
          | inr other ↦ rw takes (get_or-set_other p.labels v x _ k.start other, get_or-set_other p.entries v x l unlabelled other)
        ]
      ]

module _ {K L G : Type 0} (k : Kind K L G) (t : Table) (gateway : ℕ) (grades : List G) where
  -- a link into the gateway is passed over
  after_link-home : (p : Plan L) (x l : ℕ) → head_at t l ≡ gateway → after_link k t gateway grades p x l ≡ p
  after_link-home p x l home = rw (eq-eqb (head_at t l) gateway home)

  link_acts-home : (p : Plan L) (x l : ℕ) → head_at t l ≡ gateway → link_acts k t gateway grades p x l ≡ []
  link_acts-home p x l home = rw (eq-eqb (head_at t l) gateway home)

  -- and any other offers its head a label
  after_link-offer : (p : Plan L) (x l : ℕ) (a : L) → (head_at t l ≡ gateway → ⊥) → offered k grades p x l ≡ Some a
      → after_link k t gateway grades p x l ≡ after_offer k p (head_at t l) a l
  after_link-offer p x l a far e = rw (ne_eqb (head_at t l) gateway far, e)

  link_acts-offer : (p : Plan L) (x l : ℕ) (a : L) → (head_at t l ≡ gateway → ⊥) → offered k grades p x l ≡ Some a
      → link_acts k t gateway grades p x l ≡ offer_acts k p (head_at t l) a l
  link_acts-offer p x l a far e =
      rw (ne_eqb (head_at t l) gateway far, e) (elim (cases_Bool (welcomes k p (head_at t l) a)) [ inl takes ↦ rw takes | inr leaves ↦ rw leaves ])

module _ {S K L G : Type 0} (k : Kind K L G) (c : Candidates S K L G) (t : Table) (gateway : ℕ) (grades : List G) (p₀ : Plan L) (s₀ : S) (x : ℕ) (a : L) where
  -- Station x, with the label a, had plan p₀ and list s₀ before its links. Plan and list have come to p and s, and these of its links are left.
  pub record Underway (links : Range ℕ) (p : Plan L) (s : S) : Type 0 where
    pub within : links.end ≤ link_count t
    pub plan : after_links k t gateway grades p₀ x (links_of t x) ≡ after_links k t gateway grades p x (left_in links)
    pub list : (u : S) → Acts c s (links_acts k t gateway grades p x (left_in links)) u → Acts c s₀ (links_acts k t gateway grades p₀ x (links_of t x)) u
    pub label : a ≡ label_at k p x
    pub labelled : labelled p.entries x ≡ true

module _ {S K L G : Type 0} {k : Kind K L G} {c : Candidates S K L G} {t : Table} {gateway : ℕ} {grades : List G} {p₀ : Plan L} {s₀ : S} {x : ℕ} {a : L} where
  pub underway-first : {links : Range ℕ} → ForwardStar t → x + 1 ≤ station_count t → links.start ≡ first_link t x → links.end ≡ first_link t (x + 1)
      → a ≡ label_at k p₀ x → labelled p₀.entries x ≡ true → Underway k c t gateway grades p₀ s₀ x a links p₀ s₀
  underway-first star station first end e h = record {
    within = rw end (first_link-below star (x + 1) station);
    plan = rw (first, end) refl;
    list = rw (first, end) (λ u acts. acts);
    label = e;
    labelled = h;
  }

  -- one link more
  underway-next : {links : Range ℕ} (l : ℕ) (after : Range ℕ) (p : Plan L) (s : S) (q : Plan L) (u : S) → Gives links l after
      → after_link k t gateway grades p x l ≡ q → Acts c s (link_acts k t gateway grades p x l) u
      → (label_at k q x ≡ label_at k p x) × (entry_at q.entries x ≡ entry_at p.entries x)
      → Underway k c t gateway grades p₀ s₀ x a links p s → Underway k c t gateway grades p₀ s₀ x a after q u
  unfolding after_links links_acts
  underway-next {links} l after p s q u gives e acts stays w =
      let more = left_in-next links l after gives in
      record {
        within = rw gives.0 w.within;
        plan = rw more at w.plan ∙ ap (λ r. after_links k t gateway grades r x (left_in after)) e;
        list = λ v rest.
            (rw more at w.list) v (acts-append c s (link_acts k t gateway grades p x l) (links_acts k t gateway grades (after_link k t gateway grades p x l) x (left_in after)) u v acts
            (subst (λ r. Acts c u (links_acts k t gateway grades r x (left_in after)) v) (sym e) rest));
        label = w.label ∙ sym stays.0;
        labelled = ap (λ n. not (n == unlabelled)) stays.1 ∙ w.labelled;
      }

  -- a link into the gateway was passed over
  pub underway-home : {links after : Range ℕ} {p : Plan L} {s : S} (l : ℕ) → Gives links l after → head_at t l ≡ gateway
      → Underway k c t gateway grades p₀ s₀ x a links p s → Underway k c t gateway grades p₀ s₀ x a after p s
  underway-home {after = after} {p = p} {s = s} l gives home w =
      underway-next l after p s p s gives (after_link-home k t gateway grades p x l home) (rw (link_acts-home k t gateway grades p x l home) refl) (refl, refl) w

  -- or its head was offered a label
  pub underway-offer : {links after : Range ℕ} {p q : Plan L} {s u : S} (laws : Laws k.carry k.at_least k.rank) (l : ℕ) (g : G) (new : L)
      → Gives links l after → (head_at t l ≡ gateway → ⊥) → length grades ≡ link_count t → g ≡ get_or grades l g → new ≡ k.carry a g
      → q ≡ after_offer k p (head_at t l) new l → Acts c s (offer_acts k p (head_at t l) new l) u
      → Underway k c t gateway grades p₀ s₀ x a links p s → Underway k c t gateway grades p₀ s₀ x a after q u
  underway-offer {after = after} {p = p} {q = q} {s = s} {u = u} laws l g new gives far graded is made planned acts w =
      let h : l < length grades = omega (arith, w.within, gives) in
      let n : k.carry (label_at k p x) g ≡ new = sym (made ∙ ap (λ b. k.carry b g) w.label) in
      let offer : offered k grades p x l ≡ Some new = offered-is k grades p x l a g new w.label h is made in
      underway-next l after p s q u gives
      (after_link-offer k t gateway grades p x l new far offer ∙ sym planned)
      (rw (link_acts-offer k t gateway grades p x l new far offer) acts)
      (rw planned (rw n at (offer-own k laws p x (head_at t l) l g w.labelled)))
      w

  -- and no link is left
  pub underway-last : {links : Range ℕ} {p : Plan L} {s : S} → links.end - links.start ≡ 0 → Underway k c t gateway grades p₀ s₀ x a links p s
      → (p ≡ after_links k t gateway grades p₀ x (links_of t x)) × Acts c s₀ (links_acts k t gateway grades p₀ x (links_of t x)) s
  unfolding after_links links_acts
  underway-last {links} {p} {s} none w =
      let end : left_in links ≡ [] = rw none in (sym (rw end at w.plan), (rw end at w.list) s refl)
