use Rattle.std.proofs.Common.{◌≡◌, ℕ, ◌+◌, ◌<◌, ltb, leb, eqb, ◌&&◌, sym, ◌∙◌, inl, inr, arith, rules, tests}
use Rattle.std.proofs.lemmas.Bool.{cases_lt, lt-ltb, le-ltb, lt-leb, le-leb, eq-eqb}
use Rattle.net.specs.Table.{ForwardStar, station_count, link_count, first_link, tail_at}
use Rattle.net.specs.View.{table_of}
use Rattle.net.proofs.Tails.{star_of, tail-is, tail-not}
use Rattle.paths.proofs.Options.{both-told}
use Rattle.paths.proofs.leaves.leaves.Goals as goal

-- the links of a station are those of which it is the tail
in-range : {t : _} (star : ForwardStar t) (l s : ℕ) → l < link_count t → s < station_count t
    → (leb (first_link t s) l && ltb l (first_link t (s + 1))) ≡ eqb (tail_at t l) s
in-range {t} star l s link station =
    elim (cases_lt l (first_link t s)) [
      | inl m ↦ rw (lt-leb (first_link t s) l m) (sym (tail-not star l s link (λ w. omega (arith, w.from))))
      | inr m ↦ elim (cases_lt l (first_link t (s + 1))) [
        | inl n ↦ rw (le-leb (first_link t s) l m, lt-ltb l (first_link t (s + 1)) n)
            (sym (eq-eqb _ _ (tail-is star l s (record { station = station; from = m; to = n }))))
        | inr n ↦ rw (le-leb (first_link t s) l m, le-ltb l (first_link t (s + 1)) n)
            (sym (tail-not star l s link (λ w. omega (arith, w.to))))
      ]
    ]

pub returns : goal.returns
returns c =
    let star = star_of c.args.net.now in
    both-told {Q = c.is_some_and.result ≡ eqb (tail_at (table_of c.args.net.now) c.args.link) c.args.station}
    c.links_of.result c.links_of.ensures c.is_some_and.ensures
    (λ none f. f ∙ sym (tail-not star _ _ c.requires (λ w. omega (arith, w.station))))
    (λ own at p.
    let e : c.is_some_and.result ≡ (leb own.start c.args.link && ltb c.args.link own.end) = search (rules, tests) in
    let k = in-range star c.args.link c.args.station c.requires (omega arith) in
    e ∙ rw (at.1, at.2) k)
