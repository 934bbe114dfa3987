-- How the backward walk goes on by a move, and where it is over.
use Rattle.std.proofs.Common.{◌≡◌, ℕ, zero, suc, ◌+◌, ◌-◌, ◌<◌, ◌≤◌, false, List, [], ◌∷◌, ◌++◌, length, take, set, Some, None, sym, refl, ap, ◌∙◌, arith, append_assoc}
use Rattle.std.proofs.lemmas.List.{append-nil, take_more_set, length-take-le}
use Rattle.net.specs.Table.{Table}
use Rattle.walks.specs.Walk.{entry_at, moves, MovesTo, before, walk, walk_end}

module _ (t : Table) (entries : List ℕ) where
  -- there is no station to which it moves, or this one
  pub stops : (v : ℕ) → None ≡ before t entries v → moves t entries v ≡ false
  stops v none = grind arith

  goes : (v u : ℕ) → Some u ≡ before t entries v → MovesTo t entries v u
  goes v u to = grind arith

  -- where it stops, it is over
  pub walk_stops : (k v : ℕ) → moves t entries v ≡ false → walk t entries k v ≡ []
  unfolding walk
  walk_stops zero v still = refl
  walk_stops (suc k) v still = rw still

  pub walk_end-stops : (k v : ℕ) → moves t entries v ≡ false → walk_end t entries k v ≡ v
  unfolding walk_end
  walk_end-stops zero v still = refl
  walk_end-stops (suc k) v still = rw still

  -- i moves of n are made, and one more comes
  walk_goes : (n i v u : ℕ) → i < n → Some u ≡ before t entries v
      → walk t entries (n - i) v ≡ entry_at entries v ∷ walk t entries (n - (i + 1)) u
  unfolding walk
  walk_goes n i v u more to =
      let left : n - i ≡ suc (n - (i + 1)) = omega arith in
      let (on, is) = goes v u to in
      rw (left, on, is)

  pub walk_end-goes : (n i v u : ℕ) → i < n → Some u ≡ before t entries v
      → walk_end t entries (n - i) v ≡ walk_end t entries (n - (i + 1)) u
  unfolding walk_end
  walk_end-goes n i v u more to =
      let left : n - i ≡ suc (n - (i + 1)) = omega arith in
      let (on, is) = goes v u to in
      rw (left, on, is)

  -- no move is left
  pub walk_over : (n i v : ℕ) → n ≤ i → walk t entries (n - i) v ≡ []
  unfolding walk
  walk_over n i v over = let none : n - i ≡ 0 = omega arith in rw none

  pub walk_end-over : (n i v : ℕ) → n ≤ i → walk_end t entries (n - i) v ≡ v
  unfolding walk_end
  walk_end-over n i v over = let none : n - i ≡ 0 = omega arith in rw none

  -- the links of i moves stand in front of the list, and that of one more comes to stand behind them
  pub links_more : (n i s v u : ℕ) (way : List ℕ) → i < n → i < length way → Some u ≡ before t entries v
      → walk t entries n s ≡ take i way ++ walk t entries (n - i) v
      → walk t entries n s ≡ take (i + 1) (set way i (entry_at entries v)) ++ walk t entries (n - (i + 1)) u
  links_more n i s v u way more room to known =
      known ∙ rw (walk_goes n i v u more to, take_more_set way i (entry_at entries v) room, append_assoc)

  -- once the rest of the walk is empty, they are all
  pub links_all : (n i s v : ℕ) (way : List ℕ) → i ≤ length way → walk t entries (n - i) v ≡ []
      → walk t entries n s ≡ take i way ++ walk t entries (n - i) v
      → (i ≡ length (walk t entries n s)) × (take i way ≡ walk t entries n s)
  links_all n i s v way room over known =
      let all : walk t entries n s ≡ take i way = known ∙ rw (over, append-nil) in
      (sym (ap length all ∙ length-take-le i way room), sym all)
