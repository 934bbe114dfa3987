use Rattle.std.proofs.Common.{◌≡◌, ◌+◌, drop, codes, rules}
use Rattle.std.proofs.lemmas.Iterator.{YieldsList-from_slice}
use Rattle.std.proofs.lemmas.Iterator.Adapters.{YieldsList-from_skip}
use Rattle.std.proofs.lemmas.Iterator.Search.{position_from_yields_List}
use Rattle.std.specs.List.{position}
use Rattle.std.specs.Option.{option_map}
use Rattle.std.specs.Str.{bytes_eq}
use Rattle.reading.proofs.Slashed.{found}
use Rattle.reading.proofs.net_line.slash.Goals as goal

pub returns : goal.returns
returns c =
    let words = c.args.words.now in
    let e : c.position.result ≡ position (λ w. bytes_eq w.now (codes "/")) (drop 1 words) =
    position_from_yields_List (λ w. bytes_eq w.now (codes "/")) _ _ c.position.result c.position.ensures.ran
    (YieldsList-from_skip 1 (YieldsList-from_slice words (cc)) (cc)) (λ x b q k. search rules) in
    let f : c.map.result ≡ option_map (λ i. i + 1) c.position.result = search rules in
    rw (f, e) (found words)
