-- Each turn parts one station more.
use Rattle.std.proofs.Common.{◌≡◌, ℕ, ◌<◌, ◌≤◌, Bool, not, [], ◌∷◌, ◌++◌, length, take, filter, sym, refl, ap, ◌∙◌, arith}
use Rattle.std.specs.List.{slice_get}
use Rattle.std.proofs.lemmas.List.{take_all, drop_all}
use Rattle.lists.specs.Queues.{line_of}
use Rattle.lists.specs.Stations.{holds}
use Rattle.lists.specs.Thresholds.{passes}
use Rattle.lists.specs.Partings.{next-top, part-over, part_stays, out-of-moved}
use Rattle.lists.proofs.threshold.acts.part.Goals as goal
use Rattle.lists.proofs.threshold.acts.part.Goals.{in-Some+then-passing, in-Some+else-passing, in_default}

pub push_bottom-requires : goal.push_bottom-requires
push_bottom-requires g c =
    let p : ℕ → Bool = λ x. passes g.K.Kind c.args.limit (slice_get c.args.labels.now x) in
    let line = line_of c.args.second.now in
    let i = c.loop.counter in
    let within : i < length line = omega (arith, c.loop-test.true, c.len-end.ensures.many) in
    let out = out-of-moved line i within p (λ x. not (p x)) (λ x. refl) (line_of c.loop.second) c.loop.invariant.1 c.in-Some.station.index c.in-Some.ensures.answer c.args.second.now.once in
    ap (λ l. holds l c.in-Some.station.index) c.loop.invariant.0 ∙ out.1

pub loop-preserved : goal.loop-preserved
loop-preserved g c =
    let p : ℕ → Bool = λ x. passes g.K.Kind c.args.limit (slice_get c.args.labels.now x) in
    let line = line_of c.args.second.now in
    let i = c.loop.counter in
    let within : i < length line = omega (arith, c.loop-test.true, c.len-end.ensures.many) in
    let queue = line_of c.loop.second in
    elim c.match-pop.branch [
      | in-Some+then-passing w ↦
          let turn =
          part-over line i within p (λ x. not (p x)) (λ x. refl) queue c.loop.invariant.1 w.in-Some.station.index w.in-Some.ensures.answer
          (ap p (sym w.index.ensures) ∙ ap (passes g.K.Kind c.args.limit) (sym w.handed.ensures) ∙ sym w.if-passing.ensures) in (
            ap line_of w.first-is ∙ w.push_bottom.ensures ∙ ap (λ l. l ++ w.in-Some.station.index ∷ []) c.loop.invariant.0 ∙ turn.0,
            ap line_of w.second-is ∙ c.pop.ensures.after ∙ turn.1,
          )
      | in-Some+else-passing w ↦
          let turn =
          part_stays line i within p (λ x. not (p x)) (λ x. refl) queue c.loop.invariant.1 w.in-Some.station.index w.in-Some.ensures.answer
          (ap p (sym w.index.ensures) ∙ ap (passes g.K.Kind c.args.limit) (sym w.handed.ensures) ∙ sym w.if-passing.ensures) in (
            ap line_of w.first-is ∙ c.loop.invariant.0 ∙ turn.0,
            ap line_of w.second-is ∙ w.push_bottom-else-passing.ensures ∙ ap (λ l. l ++ w.in-Some.station.index ∷ []) c.pop.ensures.after ∙ turn.1,
          )
      | in_default w ↦
          let some = next-top line i within p (λ x. not (p x)) (λ x. refl) queue c.loop.invariant.1 in
          let none = w.in_default.ensures.answer in
          let never : ◌≡◌ {A = ℕ} 0 1 = cc in
          let bad : ⊥ = omega arith in
          absurd bad
    ]

pub returns : goal.returns
returns g c =
    let p : ℕ → Bool = λ x. passes g.K.Kind c.args.limit (slice_get c.args.labels.now x) in
    let line = line_of c.args.second.now in
    let done : length line ≤ c.loop.counter = omega (arith, c.loop-test.false, c.len-end.ensures.many) in
    let all = take_all c.loop.counter line done in
    record {
      over = c.loop.invariant.0 ∙ ap (filter p) all;
      left = c.loop.invariant.1 ∙ ap (λ l. l ++ filter (λ x. not (p x)) (take c.loop.counter line)) (drop_all c.loop.counter line done) ∙ ap (filter (λ x. not (p x))) all;
    }
